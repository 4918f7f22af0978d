-- What is refused of an identifier whose content is damaged.
use Rattle.std.proofs.Common.{◌≡◌, ◌∙◌, ◌⊎◌, inl, inr, ℕ, zero, suc, ◌-◌, List, [], ◌∷◌, Option, Some, None, length, map, take, le_of_eq, le_trans, refl, sym, ap, subst}
use Rattle.std.specs.Prelude.{option_map, slice_get}
use Rattle.cs_chunk.proofs.Framed.{no_fault_there}
use Rattle.cs_chunk.specs.Chunks.{AreChunksIn, IsFrameIn}
use Rattle.cs_chunk.specs.Reads.{IsNoAnswer, fault_in}
use Rattle.cs_refusal.specs.declared.refusals.Refusal.{Refusal}
use Rattle.cs_extent.specs.State.{State as ExtentsState, extents_at, shape}
use Rattle.cs_frame.proofs.MarkLaws.{fault_of_meant}
use Rattle.cs_frame.specs.declared.faults.FormatFault.{FormatFault}
use Rattle.cs_frame.specs.declared.frames.FrameKind.TheVariants.{Chunk}
use Rattle.cs_frame.specs.declared.locators.Locator.{Locator}
use Rattle.cs_frame.specs.Formats.{as_locator, formats_of, refusal_of}
use Rattle.cs_frame.specs.MeantFrames.{meant_fault}
use Rattle.cs_frame.specs.Geometries.{device_pages}
use Rattle.cs_reader.proofs.Superblocks.{read_whole}
use Rattle.cs_reader.specs.ImageReads.{ArePages, AreSectionsRead}
use Rattle.cs_index.specs.State.{index_of}
use Rattle.law_machine.proofs.Filled.{damage_here}
use Rattle.law_machine.specs.Element.{Bytes, Content, Damaged, Locator as Place, Map}
use Rattle.law_machine.specs.Format.{Format}
use Rattle.law_machine.specs.Formats.{ChunkFrame, damage_in, limit_in, opening_in, pages_from}
use Rattle.law_machine.specs.Index.{AllPass, Passes, Reads, ReadsAs, Value, after, entries_of, live, lookup}
use Rattle.law_machine.specs.Lists.{◌∈◌}
use Rattle.law_machine.specs.Recovery.{Recovers}
use Rattle.law_machine.specs.Refusal.{Refusal as Ground}
use Rattle.law_refinement.proofs.Numbered.{one_refusal}
use Rattle.law_refinement.specs.Refusals.{refusal_for}
use Rattle.cs_salvage.specs.Answers.{IsRefusedFor, IsWhyNoChunks, places_of}
use Rattle.cs_salvage.specs.Founds.{Found}
use Rattle.cs_salvage.proofs.Mapped.{all_located, end_there}

-- what is behind a piece is damaged where both are
damaged_behind : (piece : List ℕ) (rest : Content) (g : Ground) → Damaged g ≡ after piece rest → rest ≡ Damaged g
damaged_behind piece (Bytes bytes) g is = absurd (cc is)
damaged_behind piece (Damaged f) g is = sym is

module _ (view : ℕ → List ℕ) (format : Format) (versions records : List ℕ) (pages : ℕ) (written : List (ℕ × ℕ)) (superblock : AreSectionsRead view format versions records pages written)
    (are : ArePages (device_pages format (length written) pages (length versions)) view) (n : ℕ) (m : Map)
    (r : Recovers (shape (extents_at format pages (length versions) written)) (formats_of (shape (extents_at format pages (length versions) written))) view n m) where
  abbrev x : ExtentsState
  x = extents_at format pages (length versions) written

  abbrev Located : Place → Type 0
  Located = Passes (shape (extents_at format pages (length versions) written)) (formats_of (shape (extents_at format pages (length versions) written))) view r.pointers r.generations

  abbrev damage_at : Place → Option Ground
  damage_at = damage_in (shape x) (formats_of (shape x)) view r.pointers r.generations

  abbrev ReadsSo : List Place → Content → Type 0
  ReadsSo = ReadsAs (shape x) (formats_of (shape x)) (opening_in (shape x) (formats_of (shape x)) view r.pointers r.generations) view r.pointers r.generations

  -- the fault of a chunk is its damage
  fault_is_damage : (l : Place) → Located l → option_map refusal_of (fault_in x view Chunk (as_locator l)) ≡ damage_at l
  fault_is_damage l passes =
      ap (λ (end : ℕ). option_map refusal_of (meant_fault (shape x).format 0 l.mark (pages_from (shape x) (formats_of (shape x)) view l.extent l.page (end - l.page))))
      (end_there view format versions records pages written superblock are n m r l passes)
      ∙ fault_of_meant (shape x) refl ChunkFrame l.mark (pages_from (shape x) (formats_of (shape x)) view l.extent l.page (limit_in (shape x) (formats_of (shape x)) r.pointers r.generations l - l.page))
      ∙ sym (damage_here (shape x) (formats_of (shape x)) view r.pointers r.generations l passes)

  -- where a chunk lies it has none
  chunk_whole : (l : Place) → Located l → (payload : List ℕ) → IsFrameIn x view ChunkFrame (as_locator l) payload → (f : Ground) → damage_at l ≡ Some f → ⊥
  chunk_whole l passes payload frame f is =
      let none : fault_in x view Chunk (as_locator l) ≡ None = no_fault_there x (read_whole view format versions records pages written superblock) view Chunk (as_locator l) passes.inside.1 payload frame in
      let e : None ≡ Some f = sym (ap (option_map refusal_of) none) ∙ fault_is_damage l passes ∙ is in cc e

  chunk_frame : (l : Place) (payload : List ℕ) → Reads (shape x) (formats_of (shape x)) (opening_in (shape x) (formats_of (shape x)) view r.pointers r.generations) view r.pointers r.generations l ((formats_of (shape x)).frame ChunkFrame payload)
      → IsFrameIn x view ChunkFrame (as_locator l) payload
  chunk_frame l payload reads = (le_trans reads.within (le_of_eq (sym (end_there view format versions records pages written superblock are n m r l reads.passes))), reads.stand, reads.marked, reads.long)

  -- chunks of a damaged shard don't all lie there
  none_lie : (ls : List Place) → ((l : Place) → l ∈ ls → Located l) → (g : Ground) → ReadsSo ls (Damaged g) → (cs : List (List ℕ)) → AreChunksIn x view (map as_locator ls) cs → ⊥
  none_lie [] pass g reads cs lie = let e : Damaged g ≡ Bytes [] = reads in cc e
  none_lie (l ∷ ls) pass g reads [] lie = lie
  none_lie (l ∷ ls) pass g (inl (chunk, rest, here, more, is)) (c ∷ cs) lie =
      none_lie ls (λ k has. pass k (inr has)) g (subst (ReadsSo ls) (damaged_behind ((formats_of (shape x)).body chunk) rest g is) more) cs lie.1
  none_lie (l ∷ ls) pass g (inr (f, is, same)) (c ∷ cs) lie = chunk_whole l (pass l (inl refl)) c lie.0 f is

  -- and the first that doesn't is refused as the shard is damaged
  first_refused : (ls : List Place) → ((l : Place) → l ∈ ls → Located l) → (g : Ground) → ReadsSo ls (Damaged g) → (k : ℕ) (l : Locator) (cs : List (List ℕ)) (f : FormatFault)
      → slice_get (map as_locator ls) k ≡ Some l → AreChunksIn x view (take k (map as_locator ls)) cs → fault_in x view Chunk l ≡ Some f → refusal_of f ≡ g
  first_refused [] pass g reads k l cs f at lie fault = absurd (let e : None ≡ Some l = at in cc e)
  first_refused (p ∷ ls) pass g (inl (chunk, rest, here, more, is)) zero l cs f at lie fault =
      let same : as_locator p ≡ l = (let e : Some (as_locator p) ≡ Some l = at in cc e) in
      let none : fault_in x view Chunk (as_locator p) ≡ None = no_fault_there x (read_whole view format versions records pages written superblock) view Chunk (as_locator p) (pass p (inl refl)).inside.1 chunk (chunk_frame p chunk here) in
      absurd (let e : None ≡ Some f = sym none ∙ ap (fault_in x view Chunk) same ∙ fault in cc e)
  first_refused (p ∷ ls) pass g (inr (d, is, same_content)) zero l cs f at lie fault =
      let same : as_locator p ≡ l = (let e : Some (as_locator p) ≡ Some l = at in cc e) in
      let both : Some (refusal_of f) ≡ Some d = sym (ap (option_map refusal_of) (ap (fault_in x view Chunk) same ∙ fault)) ∙ fault_is_damage p (pass p (inl refl)) ∙ is in
      let one : refusal_of f ≡ d = cc both in
      let other : g ≡ d = (let e : Damaged g ≡ Damaged d = same_content in cc e) in
      one ∙ sym other
  first_refused (p ∷ ls) pass g reads (suc k) l [] f at lie fault = absurd lie
  first_refused (p ∷ ls) pass g (inl (chunk, rest, here, more, is)) (suc k) l (c ∷ cs) f at lie fault =
      first_refused ls (λ q has. pass q (inr has)) g (subst (ReadsSo ls) (damaged_behind ((formats_of (shape x)).body chunk) rest g is) more) k l cs f at lie.1 fault
  first_refused (p ∷ ls) pass g (inr (d, is, same_content)) (suc k) l (c ∷ cs) f at lie fault = absurd (chunk_whole p (pass p (inl refl)) c lie.0 d is)

  refused_so : (ls : List Place) → ((l : Place) → l ∈ ls → Located l) → (g : Ground) → ReadsSo ls (Damaged g) → (why : Refusal) → IsWhyNoChunks x view (map as_locator ls) why → IsNoAnswer why ⊎ (why ≡ refusal_for g)
  refused_so ls pass g reads why (inl away) = absurd (away.0 (all_located view format versions records pages written superblock are n m r ls pass))
  refused_so ls pass g reads why (inr (located, inl none)) = inl none
  refused_so ls pass g reads why (inr (located, inr (k, l, cs, at, lie, (f, fault, is)))) =
      inr (is ∙ one_refusal x view Chunk l f fault ∙ ap refusal_for (first_refused ls pass g reads k l cs f at lie fault))

  -- of an identifier that the index names as all runs do
  module _ (f : Found) (extents : f.extents ≡ x) (id : ℕ) (named : lookup id (index_of f.index) ≡ lookup id (entries_of r.runs)) (g : Ground) (content : m id ≡ Some (Damaged g)) where
    pub refused_for : IsRefusedFor f view id g
    refused_for = go (lookup id (entries_of r.runs)) named (r.gives.visible_pass id) (r.gives.values id)
      where
        go : (o : Option (List Place)) → lookup id (index_of f.index) ≡ o → AllPass (shape x) (formats_of (shape x)) view r.pointers r.generations o
            → Value (shape x) (formats_of (shape x)) (opening_in (shape x) (formats_of (shape x)) view r.pointers r.generations) view r.pointers r.generations o (m id) → IsRefusedFor f view id g
        go None has pass value = absurd (let e : None ≡ Some (Damaged g) = sym value ∙ content in cc e)
        go (Some []) has pass value = absurd (let e : None ≡ Some (Damaged g) = sym value ∙ content in cc e)
        go (Some (l ∷ ls)) has pass (found, reads, is) =
            let damaged : found ≡ Damaged g = (let e : Some found ≡ Some (Damaged g) = sym is ∙ content in cc e) in
            let reads_so : ReadsSo (l ∷ ls) (Damaged g) = subst (ReadsSo (l ∷ ls)) damaged reads in
            let spots : places_of f id ≡ map as_locator (l ∷ ls) = ap (λ (o : Option (List Place)). map as_locator (live o)) has in
            record {
              no_bytes = λ bytes read. none_lie (l ∷ ls) pass g reads_so read.0
                  (subst (λ (ks : List Locator). AreChunksIn x view ks read.0) spots (subst (λ (y : ExtentsState). AreChunksIn y view (places_of f id) read.0) extents read.1));
              refused = λ r why. refused_so (l ∷ ls) pass g reads_so r
                  (subst (λ (ks : List Locator). IsWhyNoChunks x view ks r) spots (subst (λ (y : ExtentsState). IsWhyNoChunks y view (places_of f id) r) extents why));
            }
