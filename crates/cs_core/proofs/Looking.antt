-- What a core tells and keeps where it is asked outside of its history.
use Rattle.std.proofs.Common.{◌≡◌, ◌≢◌, ◌⊎◌, inl, inr, ℕ, Bool, true, false, List, [], Some, None, Ok, Err, length, refl, sym, ap, ◌∙◌, subst}
use Rattle.std.specs.Prelude.{◌↔◌, IsTrue, MatchBool, Option, Result, Vec}
use Rattle.std.specs.declared.alloc.Global.{Global}
use Rattle.cs_chunk.specs.Newest.{AreNewest, IsReadAs}
use Rattle.cs_refusal.specs.declared.refusals.Refusal.{Refusal as Code}
use Rattle.cs_deps.specs.State.{State as GraphState}
use Rattle.cs_disk.specs.Reads.{OnlyReads}
use Rattle.cs_disk.specs.declared.disk.PageDisk.{Ghosts as PageDisk}
use Rattle.cs_disk.specs.Disk.{Image, Leaves, LeavesOnly, MayLeave, State as DiskState}
use Rattle.cs_extent.specs.State.{IsWhole, shape}
use Rattle.cs_frame.specs.Formats.{formats_of}
use Rattle.cs_index.specs.State.{index_of}
use Rattle.law_machine.specs.Element.{Damaged}
use Rattle.law_machine.specs.Index.{live_at}
use Rattle.law_machine.specs.Refusal.{DeviceFault, Refusal as Ground}
use Rattle.law_machine.specs.State.{State, map_now}
use Rattle.law_refinement.proofs.Indexes.{absent}
use Rattle.law_refinement.specs.Devices.{IsDiskOf}
use Rattle.law_refinement.specs.Refusals.{refusal_for}
use Rattle.cs_core.specs.Lookups.{IsReading, IsSize, TellsSize}
use Rattle.cs_core.specs.Reads.{GetAnswers}
use Rattle.cs_core.specs.States.{IsStateOf}
use Rattle.cs_core.specs.Stored.{Stored, but_for_room}
use Rattle.cs_core.specs.Views.{IsCore, IsIn, View}
use Rattle.cs_core.proofs.Crashes.{still_before}
use Rattle.cs_core.proofs.Going.{same_state}
use Rattle.cs_core.specs.Prefixes.{IsPrefixOf}
use Rattle.cs_core.proofs.Leaving.{left_now}

-- ---- what is told

-- what a read gives: bytes or None, or it is refused
abbrev Answer : Type 0
Answer = Result (Option (Vec ℕ Global)) Code

-- only a read of what is there is refused
there_if_refused : (v : Stored) (id : ℕ) (result : Answer) (r : Code) → (live_at (index_of v.index) id ≡ [] → result ≡ Ok None) → result ≡ Err r → (s : State) → IsStateOf v s → map_now s id ≢ None
there_if_refused v id result r only refused s is none =
    let e : result ≡ Ok None = only ((absent (shape v.extents) (formats_of (shape v.extents)) v.index s id is.sound is.parts.index).1 none) in
    cc (refused, e)

-- what a get answers is what the map has
got : (v : Stored) (disk : DiskState) (id : ℕ) (result : Answer) → GetAnswers v disk id result → (live_at (index_of v.index) id ≡ [] → result ≡ Ok None)
    → (s : State) → IsStateOf v s → IsDiskOf (shape v.extents) (formats_of (shape v.extents)) s disk → IsReading (map_now s id) result
unfolding GetAnswers
got v disk id (Ok None) answers only s is on = (answers s is on).1.1.0
got v disk id (Ok (Some bytes)) answers only s is on = (answers s is on).1.1.0
got v disk id (Err r) (inl memory) only s is on = inl (there_if_refused v id (Err r) r only refl s is, inr memory)
got v disk id (Err r) (inr (f, number, steps)) only s is on = go (steps s is on).1.0
  where
    go : ((map_now s id ≡ Some (Damaged f)) ⊎ (((g : Ground) → map_now s id ≡ Some (Damaged g) → ⊥) × ⊥)) ⊎ ((map_now s id ≢ None) × (f ≡ DeviceFault)) → IsReading (map_now s id) (Err r)
    go (inl (inl damaged)) = inr (f, number, damaged)
    go (inl (inr none)) = absurd none.1
    go (inr device) = inl (device.0, inl (number ∙ ap refusal_for device.1))

-- and so it does in a core, where a store is compared but for rooms
pub read_tells : {D : Type 0} (state : D → DiskState) {v : View D} (store : Stored) (id : ℕ) (result : Answer) (s : State) → IsIn state v s → but_for_room store ≡ v.store
    → GetAnswers store (state v.disk) id result → (live_at (index_of store.index) id ≡ [] → result ≡ Ok None) → IsReading (map_now s id) result
read_tells state {v} store id result s is same answers only =
    got store (state v.disk) id result answers only s (same_state v.store store s is.store (ap but_for_room same))
    (subst (λ (u : Stored). IsDiskOf (shape u.extents) (formats_of (shape u.extents)) s (state v.disk)) (sym same) is.disk)

-- so is a size
pub size_told : {D : Type 0} (state : D → DiskState) {v : View D} (store : Stored) (id : ℕ) (result : Result (Option ℕ) Code) (s : State) → IsIn state v s → but_for_room store ≡ v.store
    → TellsSize store (state v.disk) id result → IsSize (map_now s id) result
unfolding TellsSize
size_told state {v} store id result s is same tells =
    tells s (same_state v.store store s is.store (ap but_for_room same))
    (subst (λ (u : Stored). IsDiskOf (shape u.extents) (formats_of (shape u.extents)) s (state v.disk)) (sym same) is.disk)

-- what is live is there
pub contained : {D : Type 0} (state : D → DiskState) {v : View D} (id : ℕ) (b : Bool) (s : State) → IsIn state v s
    → MatchBool b (live_at (index_of v.store.index) id ≢ []) (live_at (index_of v.store.index) id ≡ []) → IsTrue b ↔ (map_now s id ≢ None)
contained state {v} id b s is told = go b told
  where
    map_is : (live_at (index_of v.store.index) id ≡ []) ↔ (map_now s id ≡ None)
    map_is = absent (shape v.store.extents) (formats_of (shape v.store.extents)) v.store.index s id is.store.sound is.store.parts.index

    go : (b : Bool) → MatchBool b (live_at (index_of v.store.index) id ≢ []) (live_at (index_of v.store.index) id ≡ []) → IsTrue b ↔ (map_now s id ≢ None)
    go true some = ((λ yes none. some (map_is.1 none)), (λ there. refl))
    go false none = ((λ yes. absurd (cc yes)), (λ there. absurd (there (map_is.0 none))))

-- for how many more stagings there is room doesn't matter to what pages read as
pub newest_roomed : (g : GraphState) (room : ℕ) (image : Image) (view : ℕ → List ℕ) → AreNewest (record g { room = room }) image view → AreNewest g image view
newest_roomed g room image view are p = go (are p)
  where
    go : IsReadAs (record g { room = room }) image p (view p) → IsReadAs g image p (view p)
    go (inl n) = inl (record { number = n.number; waits = n.waits; write = n.write; last = n.last })
    go (inr none) = inr none

pub newest_in_room : (g : GraphState) (room : ℕ) (image : Image) (view : ℕ → List ℕ) → AreNewest g image view → AreNewest (record g { room = room }) image view
newest_in_room g room image view are p = go (are p)
  where
    go : IsReadAs g image p (view p) → IsReadAs (record g { room = room }) image p (view p)
    go (inl n) = inl (record { number = n.number; waits = n.waits; write = n.write; last = n.last })
    go (inr none) = inr none

-- ---- what is kept

module _ {D : Type 0} (disks : PageDisk D) {v : View D} (core : IsCore disks v) (after : D) (reads : OnlyReads disks v.disk after) where
  -- it is in the same states still
  pub still_in : disks.honest v.disk → (s : State) → IsIn disks.state v s → IsIn disks.state (record v { disk = after }) s
  still_in there s is = record {
    store = is.store;
    disk = subst (λ (d : DiskState). IsDiskOf (shape v.store.extents) (formats_of (shape v.store.extents)) s d) (sym (reads.same there)) is.disk;
    reached = is.reached;
  }

  pub core_read : IsCore disks (record v { disk = after })
  core_read = record {
    device = reads.pages ∙ core.device;
    replaced = core.replaced;
    puts = core.puts;
    sized = λ there. core.sized (reads.honesty.1 there);
    legal = λ there. let was = core.legal (reads.honesty.1 there) in (was.0, still_in (reads.honesty.1 there) was.0 was.1);
    begun = λ there. core.begun (reads.honesty.1 there);
  }

  pub crash_read : IsWhole v.store.extents → disks.honest v.disk → length (disks.state v.disk).durable ≡ disks.page_count v.disk
      → ((c : Image) → disks.left_since v.disk (disks.moment v.disk) c → MayLeave (disks.state v.disk) c) → LeavesOnly disks.moment disks.left_since v.disk after (IsPrefixOf v)
  crash_read whole there long only_now =
      let here = left_now disks core whole there long in
      still_before disks.state disks.moment disks.left_since v.disk after (IsPrefixOf v) here only_now (reads.time there)
      (subst (λ (d : DiskState). Leaves d (IsPrefixOf v)) (sym (reads.same there)) here)
