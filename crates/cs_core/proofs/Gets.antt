-- A get is a step of the machine.
use Rattle.std.proofs.Common.{◌≡◌, ◌≢◌, ◌⊎◌, inl, inr, ℕ, ◌≤◌, List, [], Some, None, Ok, Err, length, map, refl, sym, ap, ◌∙◌, subst}
use Rattle.std.specs.Prelude.{◌↔◌, Vec, slice_get, take}
use Rattle.std.specs.declared.alloc.Global.{Global}
use Rattle.cs_chunk.specs.Chunks.{AreChunksIn, AreMeant}
use Rattle.cs_chunk.specs.Newest.{AreNewest}
use Rattle.cs_chunk.specs.Reads.{IsOfChunkIn, IsReadRefusal}
use Rattle.cs_refusal.specs.declared.refusals.Refusal.{Refusal as Code}
use Rattle.cs_refusal.specs.declared.refusals.Refusal.TheVariants as code
use Rattle.cs_deps.specs.State.{IsWhole as IsWholeGraph}
use Rattle.cs_disk.specs.Disk.{State as DiskState, seen}
use Rattle.cs_disk.proofs.Images.{length-applied}
use Rattle.cs_extent.specs.State.{IsWhole, shape}
use Rattle.cs_frame.specs.declared.locators.Locator.{Locator}
use Rattle.cs_frame.specs.Formats.{as_locator, formats_of, place_of}
use Rattle.cs_index.specs.State.{index_of}
use Rattle.law_machine.specs.Element.{Bytes, Damaged}
use Rattle.law_machine.specs.Index.{joined_bodies, live_at}
use Rattle.law_machine.specs.Refusal.{DeviceFault, Refusal as Ground}
use Rattle.law_machine.specs.State.{Get, State, map_now}
use Rattle.law_refinement.proofs.Disks.{reads}
use Rattle.law_refinement.proofs.Indexes.{absent}
use Rattle.law_refinement.proofs.FoundShards.{get_damaged, get_found}
use Rattle.law_refinement.proofs.PagesRead.{pages_read}
use Rattle.law_refinement.specs.Devices.{IsDiskOf, pages_now}
use Rattle.cs_core.specs.Lookups.{AreMeantBytes}
use Rattle.cs_core.specs.Reads.{DeclinesOn, GetAnswers}
use Rattle.cs_core.specs.States.{IsStateOf}
use Rattle.cs_core.specs.Stored.{Stored}
use Rattle.cs_reader.proofs.Lists.{some_places, there_and_back}
use Rattle.cs_core.proofs.Damage.{IsDamage, read_refusal}
use Rattle.cs_core.proofs.FramesRead.{found_as_much}
use Rattle.cs_core.proofs.Going.{no_more, pass_found}
use Rattle.cs_reader.specs.ImageReads.{page_total}

-- what each page of a store reads as
pub newest_there : (v : Stored) → IsWhole v.extents → IsWholeGraph v.graph → (disk : DiskState) → page_total (shape v.extents) ≤ length disk.durable
    → (s : State) → IsStateOf v s → IsDiskOf (shape v.extents) (formats_of (shape v.extents)) s disk
    → AreNewest v.graph (seen disk) (pages_now (shape v.extents) s (seen disk))
newest_there v whole graph disk size s is on = pages_read v.extents v.graph s (seen disk) whole graph is.parts.world is.sound
    (reads (shape v.extents) (formats_of (shape v.extents)) s disk on)
    (let same : length (seen disk) ≡ length disk.durable = length-applied disk.durable disk.volatile in
    subst (λ (n : ℕ). page_total (shape v.extents) ≤ n) (sym same) size)

-- where places were found some are live
pub found_live : (v : Stored) (id : ℕ) (ls : List Locator) → live_at (index_of v.index) id ≡ map place_of ls → ls ≢ [] → live_at (index_of v.index) id ≢ []
found_live v id ls found some none = some_places ls some (sym found ∙ none)

-- what is read at the places that were found is what they mean
pub meant_found : (v : Stored) (id : ℕ) (ls : List Locator) → live_at (index_of v.index) id ≡ map place_of ls → (bytes : List ℕ)
    → (cs : List (List ℕ)) × AreMeant (shape v.extents) ls cs × (bytes ≡ joined_bodies (formats_of (shape v.extents)) cs) → AreMeantBytes v id bytes
meant_found v id ls found bytes meant =
    (meant.0, subst (λ (ks : List Locator). AreMeant (shape v.extents) ks meant.0) (sym (ap (map as_locator) found ∙ there_and_back ls)) meant.1, meant.2)

module _ (v : Stored) (id : ℕ) (disk : DiskState) where
  map_of : (s : State) → IsStateOf v s → (live_at (index_of v.index) id ≡ []) ↔ (map_now s id ≡ None)
  map_of s is = absent (shape v.extents) (formats_of (shape v.extents)) v.index s id is.sound is.parts.index

  pub get_absent : live_at (index_of v.index) id ≡ [] → GetAnswers v disk id (Ok None)
  unfolding GetAnswers
  get_absent none s is on =
      let nothing : map_now s id ≡ None = (map_of s is).0 none in (
        s,
        (pass_found (λ f found. let e : None ≡ Some (Damaged f) = sym nothing ∙ found in cc) no_more, (nothing, refl)),
        is,
      )

  module _ (whole : IsWhole v.extents) (graph : IsWholeGraph v.graph) (size : page_total (shape v.extents) ≤ length disk.durable)
      (ls : List Locator) (found : live_at (index_of v.index) id ≡ map place_of ls) (some : ls ≢ []) where
    some_live : live_at (index_of v.index) id ≢ []
    some_live = found_live v id ls found some

    spots : map as_locator (live_at (index_of v.index) id) ≡ ls
    spots = ap (map as_locator) found ∙ there_and_back ls

    pub get_found_answers : (bytes : Vec ℕ Global)
        → ((view : ℕ → List ℕ) → AreNewest v.graph (seen disk) view → (cs : List (List ℕ)) × AreChunksIn v.extents view ls cs × (bytes.items ≡ joined_bodies (formats_of (shape v.extents)) cs))
        → GetAnswers v disk id (Ok (Some bytes))
    unfolding GetAnswers
    get_found_answers bytes gives s is on =
        let view = pages_now (shape v.extents) s (seen disk) in
        let read = gives view (newest_there v whole graph disk size s is on) in
        let there : map_now s id ≡ Some (Bytes (joined_bodies (formats_of (shape v.extents)) read.0)) = get_found v.extents s (seen disk) whole is.sound (found_as_much v.extents s is.parts.world.extents) v.index is.parts.index id read.0 some_live
        (subst (λ (ks : List Locator). AreChunksIn v.extents (pages_now (shape v.extents) s (seen disk)) ks read.0) (sym spots) read.1) in
        let is_bytes : map_now s id ≡ Some (Bytes bytes.items) = there ∙ ap (λ (b : List ℕ). Some (Bytes b)) (sym read.2) in (
          s,
          (pass_found (λ f damage. let e : Some (Bytes bytes.items) ≡ Some (Damaged f) = sym is_bytes ∙ damage in cc) no_more, (is_bytes, refl)),
          is,
        )

    -- the map has the damage that was met
    damage_met : (r : Code) → ((view : ℕ → List ℕ) → AreNewest v.graph (seen disk) view → IsOfChunkIn v.extents view ls r) → (d : IsDamage r)
        → (s : State) → IsStateOf v s → IsDiskOf (shape v.extents) (formats_of (shape v.extents)) s disk → map_now s id ≡ Some (Damaged d.ground)
    damage_met r of_chunk d s is on = go (of_chunk (pages_now (shape v.extents) s (seen disk)) (newest_there v whole graph disk size s is on))
      where
        go : IsOfChunkIn v.extents (pages_now (shape v.extents) s (seen disk)) ls r → map_now s id ≡ Some (Damaged d.ground)
        go (inl none) = absurd (d.answered none)
        go (inr (k, l, cs, at, are, (f, fault, same))) =
            get_damaged v.extents s (seen disk) whole is.sound (found_as_much v.extents s is.parts.world.extents) v.index is.parts.index id k l cs f
            (ap (λ (ks : List Locator). slice_get ks k) spots ∙ at)
            (subst (λ (ks : List Locator). AreChunksIn v.extents (pages_now (shape v.extents) s (seen disk)) (take k ks) cs) (sym spots) are)
            fault
            ∙ ap (λ (g : Ground). Some (Damaged g)) (d.of_fault f same)

    get_refused : (r : Code) → ((view : ℕ → List ℕ) → AreNewest v.graph (seen disk) view → IsOfChunkIn v.extents view ls r)
        → (r ≡ code.OutOfMemory) ⊎ (r ≡ code.DeviceFault) ⊎ IsDamage r → DeclinesOn v disk (Get id) r v
    get_refused r of_chunk (inl memory) = inl memory
    get_refused r of_chunk (inr (inl device)) = inr (DeviceFault, device, λ s is on. (s, (inr ((λ none. some_live ((map_of s is).1 none)), refl), refl), is))
    get_refused r of_chunk (inr (inr d)) = inr (d.ground, d.number, λ s is on. (s, (inl (inl (damage_met r of_chunk d s is on)), refl), is))

    pub get_refused_answers : (r : Code) → IsReadRefusal r → ((view : ℕ → List ℕ) → AreNewest v.graph (seen disk) view → IsOfChunkIn v.extents view ls r)
        → GetAnswers v disk id (Err r)
    unfolding GetAnswers
    get_refused_answers r is_read of_chunk = get_refused r of_chunk (read_refusal r is_read)
