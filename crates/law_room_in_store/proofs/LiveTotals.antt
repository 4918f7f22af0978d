-- All that lives is at most what is counted together.
use Rattle.std.proofs.Common.{◌≡◌, ◌⊎◌, inl, inr, ⊎_elim, ℕ, zero, suc, ◌+◌, ◌^◌, ◌-◌, ◌<◌, ◌≤◌, List, [], ◌∷◌, None, Some, length, le_of_eq, le_trans, refl, sym, ap, ◌∙◌, subst, arith}
use Rattle.std.specs.Prelude.{slice_get}
use Rattle.cs_chunk.specs.Newest.{AreNewest}
use Rattle.cs_deps.specs.State.{IsWhole as IsWholeGraph}
use Rattle.cs_disk.specs.declared.disk.PageDisk.{Ghosts as PageDisk}
use Rattle.cs_disk.specs.Disk.{seen}
use Rattle.cs_extent.specs.State.{IsWhole, extents_of, shape}
use Rattle.cs_frame.specs.Formats.{formats_of}
use Rattle.cs_core.specs.cs_reader.ImageReads.{page_total}
use Rattle.cs_index.specs.State.{index_of}
use Rattle.law_machine.specs.Device.{Shape}
use Rattle.law_machine.specs.Events.{newest_page}
use Rattle.law_machine.specs.Index.{live_at}
use Rattle.law_machine.specs.Lists.{◌∈◌}
use Rattle.law_machine.specs.State as model
use Rattle.law_machine.specs.State.{index_now}
use Rattle.law_room.proofs.MachineBlank.{in_id}
use Rattle.law_room.proofs.MachineRetired.{has_number}
use Rattle.law_room.proofs.Weights.{all_counted, sum_front, sum_to}
use Rattle.law_room.specs.OfMachine.{copies_now, of_id}
use Rattle.law_room.specs.Rooms.{Chunk, Room, all_pages, live_pages}
use Rattle.cs_core.specs.Views.{View}
use Rattle.cs_inspect.specs.Chunks.{AreLiveChunks, Chunk as Listed}
use Rattle.cs_inspect.specs.declared.surveys.ExtentUse.{ExtentUse}
use Rattle.cs_inspect.specs.Uses.{AreCounted, AreExtents, heads_of, live_on}
use Rattle.law_room_in_store.proofs.CountedPages.{live_least}
use Rattle.law_room_in_store.specs.Cores.{IsRoomIn}
use Rattle.cs_store.specs.Reserves.{total_live}
use Rattle.law_room_in_store.specs.Roomy.{IsRoomyCore}
use Rattle.law_room_in_store.specs.Sweeps.{LiveAtMost}

one_of : (uses : List ExtentUse) (e : ℕ) (used : ExtentUse) → slice_get uses e ≡ Some used → used.live ≤ total_live uses
one_of [] e used at = absurd (let no : None ≡ Some used = at in cc)
one_of (u ∷ us) zero used at = let same : u ≡ used = let is : Some u ≡ Some used = at in cc is in
    let live : u.live ≡ used.live = ap (λ (x : ExtentUse). x.live) same in omega arith
one_of (u ∷ us) (suc e) used at = let rest : used.live ≤ total_live us = one_of us e used at in omega arith

-- what is at most counted of each is together at most what is counted together
together : (uses : List ExtentUse) (h : ℕ → ℕ) → ((e : ℕ) (used : ExtentUse) → slice_get uses e ≡ Some used → h e ≤ used.live)
    → sum_to h (length uses) ≤ total_live uses
together [] h le = omega arith
together (u ∷ us) h le =
    let here : h 0 ≤ u.live = le 0 u refl in
    let rest : sum_to (λ e. h (suc e)) (length us) ≤ total_live us = together us (λ e. h (suc e)) (λ e used at. le (suc e) used at) in
    let parts : sum_to h (suc (length us)) ≡ h 0 + sum_to (λ e. h (suc e)) (length us) = sum_front h (length us) in
    let is : sum_to h (suc (length us)) ≤ u.live + total_live us = omega (arith, here, rest, parts) in is

module _ {D : Type 0} (disks : PageDisk D) (sized : (d : D) → disks.honest d → length (disks.state d).durable ≡ disks.page_count d)
    (v : View D) (view : ℕ → List ℕ) (chunks : List Listed) (uses : List ExtentUse) (roomy : IsRoomyCore disks v)
    (whole : IsWhole v.store.extents) (graph : IsWholeGraph v.store.graph) (are : AreNewest v.store.graph (seen (disks.state v.disk)) view)
    (live : AreLiveChunks (index_of v.store.index) chunks)
    (listed : AreExtents (shape v.store.extents).extents (extents_of v.store.extents) uses)
    (counted : AreCounted (heads_of v.store.extents view chunks) uses) (few : total_live uses < 2 ^ 64 - 1) where
  enough : page_total (shape v.store.extents) ≤ length (disks.state v.disk).durable
  enough = le_of_eq (sym (sized v.disk roomy.honest ∙ roomy.core.device))

  module _ (r : Room) (has : IsRoomIn disks.state v r) where
    abbrev S : Shape
    S = shape v.store.extents

    abbrev s : model.State
    s = has.of_state

    -- a chunk lies on an extent that is there, or counts for nothing
    lies : (c : Chunk) → c ∈ r.chunks → (c.extent < S.extents) ⊎ (c.pages ≡ 0)
    lies c got =
        let found = has_number (shape v.store.extents) (formats_of (shape v.store.extents)) s.opening (newest_page s) s.world.extents.pointer
        s.world.extents.generation (copies_now (shape v.store.extents) s) c.id 0 (live_at (index_now s) c.id) (of_id c.id r.chunks) c
        (has.room.chunks c.id) (in_id r.chunks c got) in
        ⊎_elim
        (λ read. inl (let inside : found.1.extent < (shape v.store.extents).extents = read.1.passes.inside.0 in
        let is : c.extent ≡ found.1.extent = found.3.extent in omega arith))
        (λ lost. inr (let none : c.pages ≡ 0 = lost.3 in none))
        found.3.pages

    least : (e : ℕ) → live_pages r.chunks e ≤ live_on e (heads_of v.store.extents view chunks)
    least = live_least v.store whole graph (disks.state v.disk) enough s has.is_in.store has.is_in.disk view are r has.room chunks live

    -- of each extent no more lives than is counted
    each : (e : ℕ) (used : ExtentUse) → slice_get uses e ≡ Some used → live_pages r.chunks e ≤ used.live
    each e used at = omega (arith, least e, (counted e used at).0, one_of uses e used at, few)

    pub at_most : all_pages r.chunks ≤ total_live uses
    at_most =
        let all : all_pages r.chunks ≤ sum_to (live_pages r.chunks) (shape v.store.extents).extents =
        all_counted r.chunks (shape v.store.extents).extents lies in
        let sum : sum_to (live_pages r.chunks) (length uses) ≤ total_live uses = together uses (live_pages r.chunks) each in
        le_trans all (subst (λ (n : ℕ). sum_to (live_pages r.chunks) n ≤ total_live uses) listed.0 sum)

  pub live_at_most : LiveAtMost disks.state v (total_live uses)
  live_at_most r has = at_most r has
