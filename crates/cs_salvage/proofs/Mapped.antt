-- What an image recovers is found where all runs are read.
use Rattle.std.proofs.Common.{◌≡◌, ◌≢◌, ◌∙◌, inl, inr, ℕ, ◌<◌, ◌≤◌, ◌++◌, Bool, true, false, List, [], ◌∷◌, Option, Some, None, MatchBool, length, map, le_of_eq, le_trans, refl, sym, ap, subst, arith}
use Rattle.std.specs.Prelude.{slice_index, slice_index_or}
use Rattle.std.specs.List.{AllByRecursion}
use Rattle.cs_chunk.specs.Chunks.{AreChunksIn, IsFrameIn, end_in}
use Rattle.cs_extent.specs.State.{State as ExtentsState, extents_at, section_rows, shape}
use Rattle.cs_frame.specs.declared.locators.Locator.{Locator}
use Rattle.cs_frame.specs.Formats.{as_locator, formats_of}
use Rattle.cs_frame.specs.Geometries.{device_pages}
use Rattle.cs_frame.specs.Roots.{SpellsRoot, identity_in}
use Rattle.cs_frame.specs.Superblocks.{record_in}
use Rattle.cs_reader.proofs.Listed.{to_all}
use Rattle.cs_reader.proofs.Readable.{located, part, records_low, rows, rows_at, same_commands, same_places, section_spelled}
use Rattle.cs_reader.proofs.Reaches.{end_is_limit}
use Rattle.cs_reader.proofs.Runs.{StandsAt, all_stand, same_listed, same_runs}
use Rattle.cs_reader.proofs.Superblocks.{at_one, read_format, read_found, read_whole, rows_agree}
use Rattle.cs_reader.specs.Loads.{index_at}
use Rattle.cs_reader.specs.ImageReads.{ArePages, AreSectionsRead, IsLocated, IsRunRead}
use Rattle.cs_index.specs.declared.stored_runs.StoredRun.{StoredRun}
use Rattle.cs_index.specs.State.{State as IndexState, index_of, newest_first}
use Rattle.law_machine.specs.Element.{Bytes, Content, Damaged, Locator as Place, Map, Run}
use Rattle.law_machine.specs.Format.{Format}
use Rattle.law_machine.specs.Formats.{ChunkFrame, limit_in, opening_in}
use Rattle.law_machine.specs.Index.{AllPass, Passes, ReadsAs, Value, entries_of, joined_bodies, live, live_at, lookup}
use Rattle.law_machine.specs.Lists.{◌∈◌}
use Rattle.law_machine.specs.Recovery.{Recovers}
use Rattle.cs_salvage.specs.Answers.{HasContent, places_of}
use Rattle.cs_salvage.specs.Founds.{Found}
use Rattle.cs_salvage.specs.Spared.{LiesStill}

module _ (view : ℕ → List ℕ) (format : Format) (versions records : List ℕ) (pages : ℕ) (written : List (ℕ × ℕ)) (superblock : AreSectionsRead view format versions records pages written)
    (are : ArePages (device_pages format (length written) pages (length versions)) view) (n : ℕ) (m : Map)
    (r : Recovers (shape (extents_at format pages (length versions) written)) (formats_of (shape (extents_at format pages (length versions) written))) view n m) where
  abbrev x : ExtentsState
  x = extents_at format pages (length versions) written

  abbrev Located : Place → Type 0
  Located = Passes (shape (extents_at format pages (length versions) written)) (formats_of (shape (extents_at format pages (length versions) written))) view r.pointers r.generations

  -- ---- extents

  rows_are : (j : ℕ) → j < length versions → section_rows x j ≡ part format (length written) pages (length versions) superblock.geometry view n m r j
  rows_are j lt = (at_one j (view ((shape x).section_page j)) format (slice_index versions j) (slice_index records j) (length written) pages (length versions) (section_rows x j)
      format (r.versions j) (record_in format (r.recorded j)) (length written) pages (length versions) (part format (length written) pages (length versions) superblock.geometry view n m r j)
      (superblock.each j lt) (section_spelled format (length written) pages (length versions) superblock.geometry view n m r j lt)).0

  at : (e : ℕ) → e < length written → slice_index_or written e (0, 0) ≡ (r.pointers e, r.generations e)
  at e lt = rows_agree format (length written) pages (length versions) superblock.geometry written (rows format (length written) pages (length versions) superblock.geometry view n m r) rows_are e lt
      ∙ rows_at format (length written) pages (length versions) superblock.geometry view n m r e lt

  -- how far a frame may reach
  pub end_there : (l : Place) → Located l → end_in x (as_locator l) ≡ limit_in (shape x) (formats_of (shape x)) r.pointers r.generations l
  end_there l passes = end_is_limit x view r.pointers r.generations l
      (λ on. read_found view format versions records pages written superblock on l.extent ∙ ap (λ (row : ℕ × ℕ). row.0) (at l.extent passes.inside.0)) passes

  is_located : (l : Place) → Located l → IsLocated x (as_locator l)
  is_located l passes = located view format versions records pages written superblock are n m r l passes

  -- ---- chunks

  chunks_there : (ls : List Place) (bytes : List ℕ) → ReadsAs (shape x) (formats_of (shape x)) (opening_in (shape x) (formats_of (shape x)) view r.pointers r.generations) view r.pointers r.generations ls (Bytes bytes)
      → (cs : List (List ℕ)) × AreChunksIn x view (map as_locator ls) cs × (bytes ≡ joined_bodies (formats_of (shape x)) cs)
  chunks_there [] bytes reads = ([], tt, (let e : Bytes bytes ≡ Bytes [] = reads in cc))
  chunks_there (l ∷ ls) bytes (inl (chunk, Bytes rest, here, more, is)) =
      let others = chunks_there ls rest more in
      let joins : bytes ≡ (formats_of (shape x)).body chunk ++ rest = (let e : Bytes bytes ≡ Bytes ((formats_of (shape x)).body chunk ++ rest) = is in cc) in
      let frame : IsFrameIn x view ChunkFrame (as_locator l) chunk = (le_trans here.within (le_of_eq (sym (end_there l here.passes))), here.stand, here.marked, here.long) in
      (chunk ∷ others.0, (frame, others.1), joins ∙ ap (λ (ys : List ℕ). (formats_of (shape x)).body chunk ++ ys) others.2)
  chunks_there (l ∷ ls) bytes (inl (chunk, Damaged f, here, more, is)) = absurd (let e : Bytes bytes ≡ Damaged f = is in cc)
  chunks_there (l ∷ ls) bytes (inr (f, damage, is)) = absurd (let e : Bytes bytes ≡ Damaged f = is in cc)

  pub all_located : (ls : List Place) → ((l : Place) → l ∈ ls → Located l) → AllByRecursion (IsLocated x) (map as_locator ls)
  all_located [] each = tt
  all_located (l ∷ ls) each = (is_located l (each l (inl refl)), all_located ls (λ k has. each k (inr has)))

  -- ---- what is found

  abbrev ValueOf : Option (List Place) → Option Content → Type 0
  ValueOf = Value (shape x) (formats_of (shape x)) (opening_in (shape x) (formats_of (shape x)) view r.pointers r.generations) view r.pointers r.generations

  -- what the index names as all runs do, in an image where its chunks lie still
  module _ (shown : ℕ → List ℕ) (f : Found) (extents : f.extents ≡ x) (id : ℕ) where
    some_live : (l : Place) (ls : List Place) → lookup id (index_of f.index) ≡ Some (l ∷ ls) → live_at (index_of f.index) id ≢ []
    some_live l ls has none = let e : l ∷ ls ≡ [] = sym (ap live has) ∙ none in cc e

    chunks_still : (ls : List Place) (cs : List (List ℕ)) → ((l : Place) → l ∈ ls → LiesStill x view shown ChunkFrame l) → AreChunksIn x view (map as_locator ls) cs → AreChunksIn x shown (map as_locator ls) cs
    chunks_still [] [] still there = tt
    chunks_still [] (c ∷ cs) still there = absurd there
    chunks_still (l ∷ ls) [] still there = absurd there
    chunks_still (l ∷ ls) (c ∷ cs) still there = ((there.0.0, still l (inl refl) c there.0.1, there.0.2, there.0.3), chunks_still ls cs (λ k has. still k (inr has)) there.1)

    pub named : (ls : List Place) → lookup id (index_of f.index) ≡ Some ls → lookup id (entries_of r.runs) ≡ Some ls → ((l : Place) → l ∈ ls → LiesStill x view shown ChunkFrame l) → HasContent f shown id (m id)
    named ls here all still = go ls (m id) here (subst (AllPass (shape x) (formats_of (shape x)) view r.pointers r.generations) all (r.gives.visible_pass id))
        (subst (λ (o : Option (List Place)). ValueOf o (m id)) all (r.gives.values id)) still
      where
        go : (ls : List Place) (v : Option Content) → lookup id (index_of f.index) ≡ Some ls → AllPass (shape x) (formats_of (shape x)) view r.pointers r.generations (Some ls) → ValueOf (Some ls) v
            → ((l : Place) → l ∈ ls → LiesStill x view shown ChunkFrame l) → HasContent f shown id v
        go [] v has pass value still = subst (HasContent f shown id) (sym value) (inl has)
        go (l ∷ ls) v has pass (Damaged g, reads, is) still = subst (HasContent f shown id) (sym is) (some_live l ls has)
        go (l ∷ ls) v has pass (Bytes bytes, reads, is) still =
            let spots : places_of f id ≡ map as_locator (l ∷ ls) = ap (λ (o : Option (List Place)). map as_locator (live o)) has in
            let chunks = chunks_there (l ∷ ls) bytes reads in
            subst (HasContent f shown id) (sym is) (
              some_live l ls has,
              subst (λ (ks : List Locator). AllByRecursion (IsLocated f.extents) ks) (sym spots) (subst (λ (y : ExtentsState). AllByRecursion (IsLocated y) (map as_locator (l ∷ ls))) (sym extents) (all_located (l ∷ ls) pass)),
              (
                chunks.0,
                subst (λ (ks : List Locator). AreChunksIn f.extents shown ks chunks.0) (sym spots)
                    (subst (λ (y : ExtentsState). AreChunksIn y shown (map as_locator (l ∷ ls)) chunks.0) (sym extents) (chunks_still (l ∷ ls) chunks.0 still chunks.1)),
                subst (λ (y : ExtentsState). bytes ≡ joined_bodies (formats_of (shape y)) chunks.0) (sym extents) chunks.2,
              ),
            )

  module _ (f : Found) (extents : f.extents ≡ x) (root_page : SpellsRoot (view 1) (identity_in format) f.root f.commands f.places) where
    pub not_lost : MatchBool f.lost ((j : ℕ) × (j < length versions) × (f.root < slice_index records j)) ((j : ℕ) → j < length versions → slice_index records j ≤ f.root) → f.lost ≡ false
    not_lost is = go f.lost refl is
      where
        go : (b : Bool) → f.lost ≡ b → MatchBool b ((j : ℕ) × (j < length versions) × (f.root < slice_index records j)) ((j : ℕ) → j < length versions → slice_index records j ≤ f.root) → f.lost ≡ false
        go false e fit = e
        go true e later = absurd (let low : slice_index records later.0 ≤ f.root = records_low view format versions records pages written superblock n m r f.root f.commands f.places root_page later.0 later.1 in omega (arith, low, later.2))

    pub counts : f.commands ≡ n
    counts = same_commands view format versions records pages written superblock are n m r f.root f.commands f.places root_page

    module _ (all : f.damaged ≡ None) (runs : List StoredRun) (listed : map (λ run. run.place) runs ≡ f.places) (read : AllByRecursion (IsRunRead x view) runs)
        (limit : ℕ) (index : f.index ≡ index_at (newest_first runs) f.extents.format limit) where
      runs_are : newest_first runs ≡ r.runs
      runs_are = same_runs (shape x) view (read_format view format versions records pages written superblock) (newest_first runs) r.runs
          (same_listed r.runs runs (same_places view format versions records pages written superblock are n m r f.root f.commands f.places root_page ∙ sym listed))
          (all_stand x superblock.geometry.fits_format (read_whole view format versions records pages written superblock).found_pages view runs read)
          (to_all (StandsAt (shape x) view) r.runs (λ run has. record { fits = r.runs_fit run has; inside = (r.gives.runs_read run has).inside; stand = (r.gives.runs_read run has).stand }))

      pub entries_are : index_of f.index ≡ entries_of r.runs
      entries_are = ap (λ (i : IndexState). index_of i) index ∙ ap (λ (rs : List Run). entries_of rs) runs_are

      pub content : (id : ℕ) → HasContent f view id (m id)
      content id = go (lookup id (entries_of r.runs)) refl
        where
          go : (o : Option (List Place)) → lookup id (entries_of r.runs) ≡ o → HasContent f view id (m id)
          go None none = subst (HasContent f view id) (sym (subst (λ (o : Option (List Place)). ValueOf o (m id)) none (r.gives.values id))) (inr (ap (lookup id) entries_are ∙ none, all))
          go (Some ls) has = named view f extents id ls (ap (lookup id) entries_are ∙ has) has (λ l there payload stand. stand)
