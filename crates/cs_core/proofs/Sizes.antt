-- What first pages tell of a shard's size.
use Rattle.std.proofs.Common.{◌≡◌, ◌≢◌, inl, inr, ◌∙◌, ℕ, ◌≤◌, List, [], ◌∷◌, ◌++◌, Option, Some, None, Result, Ok, Err, length, map, refl, sym, ap, subst}
use Rattle.std.specs.Prelude.{◌↔◌, MatchResult}
use Rattle.cs_chunk.specs.Chunks.{AreChunksIn}
use Rattle.cs_chunk.specs.Lengths.{AreHeadersIn, IsHeaderRefusal, IsOfHeaderIn, lengths_at}
use Rattle.cs_chunk.specs.Newest.{AreNewest}
use Rattle.cs_chunk.specs.Reads.{IsNoAnswer}
use Rattle.cs_refusal.specs.declared.refusals.Refusal.{Refusal as Code}
use Rattle.cs_deps.specs.State.{IsWhole as IsWholeGraph}
use Rattle.cs_disk.specs.Disk.{Image, State as DiskState, seen}
use Rattle.cs_extent.specs.State.{IsWhole, State as ExtentsState, extents_of, shape}
use Rattle.cs_frame.specs.declared.locators.Locator.{Locator}
use Rattle.cs_frame.specs.Formats.{as_locator, formats_of, place_of}
use Rattle.cs_index.specs.State.{State as IndexState, index_of}
use Rattle.law_machine.specs.Element.{Bytes, Content, Damaged, Locator as Place}
use Rattle.law_machine.specs.Device.{Shape}
use Rattle.law_machine.specs.Events.{newest_page}
use Rattle.law_machine.specs.Formats.{Formats}
use Rattle.law_machine.specs.Index.{ReadsAs, Value, joined_bodies, live, live_at, lookup}
use Rattle.law_machine.specs.Sound.{Sound}
use Rattle.law_machine.specs.State.{State, index_now, map_now}
use Rattle.law_refinement.proofs.Indexes.{absent, live_same, looked_up}
use Rattle.law_refinement.specs.Devices.{pages_now}
use Rattle.law_refinement.specs.Parts.{IsIndexOf}
use Rattle.cs_core.specs.Lookups.{IsSaid, IsSize, TellsSize}
use Rattle.cs_core.specs.States.{IsStateOf}
use Rattle.cs_core.specs.Stored.{Stored}
use Rattle.cs_core.proofs.FramesRead.{frame_read}
use Rattle.cs_reader.proofs.Lists.{there_and_back}
use Rattle.cs_core.proofs.Gets.{found_live, newest_there}
use Rattle.cs_reader.specs.ImageReads.{page_total}

-- ---- the chunks of a shard that the map has

-- reading at its places gives the bytes that the map has
module _ (S : Shape) (F : Formats) (s : State) (sound : Sound S F s) (i : IndexState) (is : IsIndexOf i s.table s.runs) (id : ℕ) where
  same_live : live_at (index_of i) id ≡ live_at (index_now s) id
  same_live = live_same (index_of i) (index_now s) (looked_up i s.table s.runs is) id

  pub reads_there : (bytes : List ℕ) → map_now s id ≡ Some (Bytes bytes)
      → ReadsAs S F s.opening (newest_page s) s.world.extents.pointer s.world.extents.generation (live_at (index_of i) id) (Bytes bytes)
  reads_there bytes there =
      subst (λ (ks : List Place). ReadsAs S F s.opening (newest_page s) s.world.extents.pointer s.world.extents.generation ks (Bytes bytes)) (sym same_live)
      (go (lookup id (index_now s)) (sound.gives.values id))
    where
      go : (o : Option (List Place)) → Value S F s.opening (newest_page s) s.world.extents.pointer s.world.extents.generation o (map_now s id)
          → ReadsAs S F s.opening (newest_page s) s.world.extents.pointer s.world.extents.generation (live o) (Bytes bytes)
      go None value = absurd (let e : Some (Bytes bytes) ≡ None = sym there ∙ value in cc)
      go (Some []) value = absurd (let e : Some (Bytes bytes) ≡ None = sym there ∙ value in cc)
      go (Some (k ∷ ks)) value =
          let same : value.0 ≡ Bytes bytes = (let e : Some value.0 ≡ Some (Bytes bytes) = sym value.2 ∙ there in cc) in
          subst (λ (c : Content). ReadsAs S F s.opening (newest_page s) s.world.extents.pointer s.world.extents.generation (k ∷ ks) c) same value.1

module _ (x : ExtentsState) (s : State) (held : Image) (whole : IsWhole x) (sound : Sound (shape x) (formats_of (shape x)) s) (same : s.world.extents ≡ extents_of x) where
  -- where reading gives bytes, chunks of these bytes are there
  chunks_read : (ks : List Place) (bytes : List ℕ)
      → ReadsAs (shape x) (formats_of (shape x)) s.opening (newest_page s) s.world.extents.pointer s.world.extents.generation ks (Bytes bytes)
      → (cs : List (List ℕ)) × AreChunksIn x (pages_now (shape x) s held) (map as_locator ks) cs × (bytes ≡ joined_bodies (formats_of (shape x)) cs)
  chunks_read [] bytes reads = ([], tt, (let e : Bytes bytes ≡ Bytes [] = reads in cc))
  chunks_read (k ∷ ks) bytes (inl (chunk, Bytes rest, reads, more, is)) =
      let others = chunks_read ks rest more in
      let joins : bytes ≡ (formats_of (shape x)).body chunk ++ rest = (let e : Bytes bytes ≡ Bytes ((formats_of (shape x)).body chunk ++ rest) = is in cc) in (
        chunk ∷ others.0,
        (frame_read x s same held whole sound k chunk reads, others.1),
        joins ∙ ap (λ (ys : List ℕ). (formats_of (shape x)).body chunk ++ ys) others.2,
      )
  chunks_read (k ∷ ks) bytes (inl (chunk, Damaged f, reads, more, is)) = absurd (let e : Bytes bytes ≡ Damaged f = is in cc)
  chunks_read (k ∷ ks) bytes (inr (f, damage, is)) = absurd (cc is)

  pub chunks_there : (i : IndexState) → IsIndexOf i s.table s.runs → (id : ℕ) (bytes : List ℕ) → map_now s id ≡ Some (Bytes bytes)
      → (cs : List (List ℕ)) × AreChunksIn x (pages_now (shape x) s held) (map as_locator (live_at (index_of i) id)) cs × (bytes ≡ joined_bodies (formats_of (shape x)) cs)
  chunks_there i is id bytes there = chunks_read (live_at (index_of i) id) bytes (reads_there (shape x) (formats_of (shape x)) s sound i is id bytes there)

-- ---- what headers say, of places that were found

module _ (x : ExtentsState) (view : ℕ → List ℕ) (places : List Place) where
  pub none_said : places ≡ [] → IsSaid x view (map as_locator places) (Ok None)
  none_said none = ap (map as_locator) none

  module _ (ls : List Locator) (found : places ≡ map place_of ls) where
    same_places : map as_locator places ≡ ls
    same_places = ap (map as_locator) found ∙ there_and_back ls

    pub some_said : (count : ℕ) → AreHeadersIn x view ls × (count ≡ lengths_at (shape x) view ls) → IsSaid x view (map as_locator places) (Ok (Some count))
    some_said count told = subst (λ (ks : List Locator). AreHeadersIn x view ks × (count ≡ lengths_at (shape x) view ks)) (sym same_places) told

    pub refusal_said : (r : Code) → IsOfHeaderIn x view ls r → IsSaid x view (map as_locator places) (Err r)
    refusal_said r is = subst (λ (ks : List Locator). IsOfHeaderIn x view ks r) (sym same_places) is

-- ---- what is told

module _ (v : Stored) (id : ℕ) (disk : DiskState) where
  map_of : (s : State) → IsStateOf v s → (live_at (index_of v.index) id ≡ []) ↔ (map_now s id ≡ None)
  map_of s is = absent (shape v.extents) (formats_of (shape v.extents)) v.index s id is.sound is.parts.index

  pub size_absent : live_at (index_of v.index) id ≡ [] → TellsSize v disk id (Ok None)
  unfolding TellsSize
  size_absent none s is on = subst (λ (c : Option Content). IsSize c (Ok None)) (sym ((map_of s is).0 none)) refl

  module _ (whole : IsWhole v.extents) (graph : IsWholeGraph v.graph) (size : page_total (shape v.extents) ≤ length disk.durable)
      (ls : List Locator) (found : live_at (index_of v.index) id ≡ map place_of ls) (some : ls ≢ []) where
    -- by what is answered where there are chunks
    size_told : (answers : List ℕ → Type 0) (result : Result (Option ℕ) Code)
        → ((view : ℕ → List ℕ) (cs : List (List ℕ)) → AreNewest v.graph (seen disk) view → AreChunksIn v.extents view ls cs → answers (joined_bodies (formats_of (shape v.extents)) cs))
        → ((bytes : List ℕ) → answers bytes → MatchResult result (λ n. n ≡ Some (length bytes)) IsNoAnswer)
        → MatchResult result (λ n. n ≢ None) IsHeaderRefusal → TellsSize v disk id result
    unfolding TellsSize
    size_told answers result read fits damaged s is on = go (map_now s id) refl
      where
        go : (c : Option Content) → map_now s id ≡ c → IsSize c result
        go None nothing = absurd (found_live v id ls found some ((map_of s is).1 nothing))
        go (Some (Bytes bytes)) there =
            let chunks = chunks_there v.extents s (seen disk) whole is.sound is.parts.world.extents v.index is.parts.index id bytes there in
            fits bytes (subst answers (sym chunks.2) (read (pages_now (shape v.extents) s (seen disk)) chunks.0 (newest_there v whole graph disk size s is on)
            (subst (λ (ks : List Locator). AreChunksIn v.extents (pages_now (shape v.extents) s (seen disk)) ks chunks.0) (ap (map as_locator) found ∙ there_and_back ls) chunks.1)))
        go (Some (Damaged f)) there = damaged

    pub size_found : (count : ℕ)
        → ((view : ℕ → List ℕ) (cs : List (List ℕ)) → AreNewest v.graph (seen disk) view → AreChunksIn v.extents view ls cs → count ≡ length (joined_bodies (formats_of (shape v.extents)) cs))
        → TellsSize v disk id (Ok (Some count))
    size_found count read = size_told (λ bytes. count ≡ length bytes) (Ok (Some count)) read (λ bytes same. ap (λ n. Some n) same) (λ none. cc none)

    pub size_refused : (r : Code) → IsHeaderRefusal r
        → ((view : ℕ → List ℕ) (cs : List (List ℕ)) → AreNewest v.graph (seen disk) view → AreChunksIn v.extents view ls cs → IsNoAnswer r)
        → TellsSize v disk id (Err r)
    size_refused r is_header read = size_told (λ bytes. IsNoAnswer r) (Err r) read (λ bytes none. none) is_header
