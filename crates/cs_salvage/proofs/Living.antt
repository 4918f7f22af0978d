-- What a map has stands as frames, and is found.
use Rattle.std.proofs.Common.{◌≡◌, ◌∙◌, inl, inr, ℕ, zero, suc, ◌≤◌, ◌++◌, List, [], ◌∷◌, Option, Some, None, length, refl, sym, ap, subst, arith}
use Rattle.std.proofs.lemmas.List.Elements.{All-contains}
use Rattle.cs_disk.specs.Disk.{Image, page}
use Rattle.cs_frame.specs.FormatNumbers.{number_in}
use Rattle.cs_frame.specs.Frames.{frame_bytes, page_count, spelled_frame}
use Rattle.cs_frame.specs.Geometries.{Dimensions, IsGeometry}
use Rattle.cs_frame.proofs.Pieces.{length-first_chunks}
use Rattle.law_machine.specs.Element.{Bytes, Content, Damaged, Locator as Place, Map}
use Rattle.law_machine.specs.Formats.{opening_in}
use Rattle.law_machine.specs.Index.{ReadsAs, Value, entries_of, joined_bodies, live, lookup}
use Rattle.law_machine.specs.Recovery.{Recovers}
use Rattle.cs_salvage.specs.declared.parts.Put.{Put}
use Rattle.cs_salvage.specs.declared.searches.Sought.{Sought}
use Rattle.cs_salvage.specs.declared.whole_shards.WholeShard.{WholeShard}
use Rattle.cs_salvage.specs.Parts.{IsChunkAt, formats_in, shape_in}
use Rattle.cs_salvage.specs.Shards.{HasFrames, IsPutFound, IsWhole}
use Rattle.cs_salvage.proofs.Putting.{many}
use Rattle.cs_salvage.proofs.Wholes.{all_there}

module _ (g : Dimensions) (image : Image) (n : ℕ) (m : Map) (r : Recovers (shape_in g) (formats_in g) (page image) n m) where
  abbrev ReadsSo : List Place → Content → Type 0
  ReadsSo = ReadsAs (shape_in g) (formats_in g) (opening_in (shape_in g) (formats_in g) (page image) r.pointers r.generations) (page image) r.pointers r.generations

  -- the chunks that are read stand there
  frames_of : (ls : List Place) (bytes : List ℕ) → ReadsSo ls (Bytes bytes) → (cs : List (List ℕ)) × HasFrames g image cs × (bytes ≡ joined_bodies (formats_in g) cs) × (length cs ≡ length ls)
  frames_of [] bytes reads = ([], (λ payload there. absurd (omega (arith, there.1))), (let e : Bytes bytes ≡ Bytes [] = reads in cc), refl)
  frames_of (l ∷ ls) bytes (inl (chunk, Bytes rest, here, more, is)) =
      let others = frames_of ls rest more in
      let joins : bytes ≡ (formats_in g).body chunk ++ rest = (let e : Bytes bytes ≡ Bytes ((formats_in g).body chunk ++ rest) = is in cc) in
      let size : length (spelled_frame (number_in g.format) 0 chunk) ≡ page_count (length chunk) = length-first_chunks 4096 (page_count (length chunk)) (frame_bytes (number_in g.format) 0 chunk) in
      let at : IsChunkAt g image l.extent l.page chunk = record { there = here.passes.inside.0; ends = omega (arith, here.inside, size); stands = here.stand } in
      (chunk ∷ others.0, with_more l chunk at others.0 others.1, joins ∙ ap (λ (ys : List ℕ). (formats_in g).body chunk ++ ys) others.2, ap suc others.3)
    where
      with_more : (l : Place) (chunk : List ℕ) → IsChunkAt g image l.extent l.page chunk → (cs : List (List ℕ)) → HasFrames g image cs → HasFrames g image (chunk ∷ cs)
      with_more l chunk at cs frames payload (zero, lt, same) = (l.extent, l.page, subst (IsChunkAt g image l.extent l.page) same at)
      with_more l chunk at cs frames payload (suc k, lt, same) = frames payload (k, omega (arith, lt), same)
  frames_of (l ∷ ls) bytes (inl (chunk, Damaged f, here, more, is)) = absurd (let e : Bytes bytes ≡ Damaged f = is in cc e)
  frames_of (l ∷ ls) bytes (inr (f, damage, is)) = absurd (let e : Bytes bytes ≡ Damaged f = is in cc e)

  -- those of an identifier that has bytes
  standing : (id : ℕ) (bytes : List ℕ) → m id ≡ Some (Bytes bytes) → (cs : List (List ℕ)) × HasFrames g image cs × (bytes ≡ joined_bodies (formats_in g) cs) × (length cs ≤ 8)
  standing id bytes has = go (lookup id (entries_of r.runs)) refl (r.gives.values id)
    where
      go : (o : Option (List Place)) → lookup id (entries_of r.runs) ≡ o
          → Value (shape_in g) (formats_in g) (opening_in (shape_in g) (formats_in g) (page image) r.pointers r.generations) (page image) r.pointers r.generations o (m id)
          → (cs : List (List ℕ)) × HasFrames g image cs × (bytes ≡ joined_bodies (formats_in g) cs) × (length cs ≤ 8)
      go None none value = absurd (let e : None ≡ Some (Bytes bytes) = sym value ∙ has in cc e)
      go (Some []) none value = absurd (let e : None ≡ Some (Bytes bytes) = sym value ∙ has in cc e)
      go (Some (l ∷ ls)) some (content, reads, is) =
          let same : content ≡ Bytes bytes = (let e : Some content ≡ Some (Bytes bytes) = sym is ∙ has in cc e) in
          let found = frames_of (l ∷ ls) bytes (subst (ReadsSo (l ∷ ls)) same reads) in
          let few = subst (λ (o : Option (List Place)). length (live o) ≤ 8) some (r.bounds.chunks_fit id) in
          (found.0, found.1, found.2, omega (arith, found.3, few))

  pub map_found : (known : IsGeometry g.format g.extents g.pages g.sections) (id : ℕ) (bytes : List ℕ) → m id ≡ Some (Bytes bytes)
      → (cs : List (List ℕ)) × HasFrames g image cs × (bytes ≡ joined_bodies (formats_in g) cs) × IsPutFound g image id bytes cs
  map_found known id bytes has =
      let stood = standing id bytes has in (
        stood.0,
        stood.1,
        stood.2,
        λ put whose parts shards own identifier small heads are all clear newest.
            let sought : Sought = record { geometry = g; whose = whose } in
            let count = many g put bytes stood.0 are in
            let whole : IsWhole parts put = all_there sought image put bytes stood.0 are small known.fits_format heads identifier stood.3 stood.1 parts all clear (omega (arith, count, are.1.1)) in
            let there = newest.there put whole in
            (there.0, there.1, there.2, All-contains (λ (shard : WholeShard). (other : Put) → other.id ≡ shard.put.id → IsWhole parts other → other.command ≤ shard.put.command) shards there.0 newest.newest there.1 put (sym there.2) whole),
      )
