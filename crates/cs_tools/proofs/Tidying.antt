-- Calls that leave the map of a store as it is, one after another.
use Rattle.std.proofs.Common.{◌≡◌, ◌∙◌, ◌==◌, ℕ, Bool, true, false, List, [], ◌∷◌, Some, None, eqb-true, refl, sym, ap, subst, inl, inr, arith}
use Rattle.std.specs.Prelude.{IfErr, IfOk, IfSome, Option, Result, Ok, Err, if◌then◌else◌}
use Rattle.cs_core.specs.Calls.{IsCall}
use Rattle.cs_core.specs.declared.events.Event.TheVariants.{Put}
use Rattle.cs_core.specs.declared.events.Reply.{Reply}
use Rattle.cs_core.specs.declared.events.Reply.TheVariants.{Accepted}
use Rattle.cs_core.specs.Meanings.{command_said, commands_said}
use Rattle.cs_core.specs.Views.{IsIn, View}
use Rattle.cs_refusal.specs.declared.refusals.Refusal.{Refusal}
use Rattle.cs_disk.specs.Reads.{OnlyReads}
use Rattle.cs_disk.specs.declared.disk.PageDisk.{Ghosts as PageDisk}
use Rattle.cs_disk.specs.Disk.{Image, Leaves, LeavesOnly, MayLeave, State as DiskState, page}
use Rattle.cs_writeback.proofs.Histories.{went_one}
use Rattle.cs_writeback.proofs.Runs.{ran_call, ran_none, ran_then}
use Rattle.cs_writeback.specs.Histories.{Goes, IsStopped, MakesRoom}
use Rattle.cs_writeback.specs.Runs.{Ran}
use Rattle.cs_writeback.specs.Sweeps.{IsSweepRefused, Sweeps}
use Rattle.cs_writeback.specs.Syncs.{StopsSync, Syncs}
use Rattle.cs_writeback.specs.declared.whole_sweeps.Swept.{Swept}
use Rattle.cs_extent.specs.State.{IsWhole, shape}
use Rattle.cs_frame.specs.declared.identifiers.ShardId.{ShardId}
use Rattle.cs_index.specs.State.{id_number}
use Rattle.law_machine.specs.Element.{Bytes, Map}
use Rattle.law_machine.specs.State.{State, changed, map_now}
use Rattle.cs_core.specs.law_refinement.Crashes.{IsPrefix}
use Rattle.cs_inspect.proofs.Crashing.{crash_still}
use Rattle.cs_store.specs.Maps.{Accepts, HasMap}
use Rattle.cs_store.proofs.Accepting.{went_accepts}
use Rattle.cs_store.proofs.Asking.{sync_accepts}
use Rattle.cs_store.proofs.Getting.{map_is}
use Rattle.cs_store.proofs.Maps.{map_changed, map_kept}
use Rattle.cs_tools.specs.Reclaims.{Tidies}
use Rattle.cs_tools.proofs.Quiet.{room_quiet, stopped_quiet, sweep_quiet}

-- a map that says the same of each identifier
same_map : {D : Type 0} (v : View D) (m n : Map) → ((id : ℕ) → n id ≡ m id) → HasMap v m → HasMap v n
same_map v m n same has = record { start = has.start; found = has.found; after = λ id. same id ∙ has.after id }

-- what is put again is what was there
put_again : (m : Map) (id : ℕ) (bytes : List ℕ) → m id ≡ Some (Bytes bytes) → (x : ℕ) → m x ≡ changed m (id, Some bytes) x
put_again m id bytes there x = go (x == id) refl
  where
    go : (b : Bool) → (x == id) ≡ b → m x ≡ (if b then Some (Bytes bytes) else m x)
    go true is = ap m (eqb-true x id is) ∙ there
    go false is = refl

-- a shard that was read, whose bytes were kept, has these in the map
pub shard_read : {D X : Type 0} (state : D → DiskState) (old new : View D) (m : Map) (s : State) (id : ShardId) (bytes : List ℕ) (id_of : X → ShardId) (bytes_of : X → List ℕ) (kept : Option X)
    → IsWhole old.store.extents → IsIn state old s → new ≡ record old { disk = new.disk } → HasMap new m → map_now s (id_number id) ≡ Some (Bytes bytes)
    → IfSome kept (λ shard. (id_of shard ≡ id) × (bytes_of shard ≡ bytes)) → IfSome kept (λ shard. m (id_number (id_of shard)) ≡ Some (Bytes (bytes_of shard)))
shard_read state old new m s id bytes id_of bytes_of None whole is same has told are = tt
shard_read {D = D} state old new m s id bytes id_of bytes_of (Some shard) whole is same has told are =
    let has_read = subst (λ (v : View D). HasMap v m) same has in
    let had : HasMap old m = record { start = has_read.start; found = has_read.found; after = has_read.after } in
    ap (λ (x : ShardId). m (id_number x)) are.0 ∙ sym (map_is state old m s whole had is (id_number id)) ∙ told ∙ ap (λ (b : List ℕ). Some (Bytes b)) (sym are.1)

module _ {D : Type 0} (disks : PageDisk D) where
  pub tidies_none : (v : View D) → Tidies disks v v
  tidies_none v = record { ran = ran_none disks v; shape = refl; honest = (λ h. h, λ h. h); map = λ honest m has. has }

  pub tidies_then : (a b c : View D) → Tidies disks a b → Tidies disks b c → Tidies disks a c
  tidies_then a b c p q = record {
    ran = ran_then disks a b c p.ran q.ran;
    shape = q.shape ∙ p.shape;
    honest = (λ h. q.honest.0 (p.honest.0 h), λ h. p.honest.1 (q.honest.1 h));
    map = λ honest m has. q.map (p.honest.0 honest) m (p.map honest m has);
  }

  -- calls that accept no command
  pub tidies_quiet : (a b : View D) → Accepts disks [] a b → Ran disks a b → Tidies disks a b
  tidies_quiet a b accepts ran = record { ran = ran; shape = accepts.same_shape; honest = accepts.honest; map = λ honest m has. map_kept disks a b accepts m has }

  -- reads
  pub tidies_read : (a b : View D) → b ≡ record a { disk = b.disk } → OnlyReads disks a.disk b.disk
      → (disks.honest a.disk → LeavesOnly disks.moment disks.left_since a.disk b.disk (IsPrefix (shape a.store.extents) (page a.opened) (commands_said a.history) a.store.frontier a.store.accepted))
      → Tidies disks a b
  tidies_read a b same reads crash =
      let rises : b.store.frontier ≡ a.store.frontier = ap (λ (v : View D). v.store.frontier) same in
      record {
        ran = ran_call disks a b (record {
          did = inr (inl (record {
            opened = ap (λ (v : View D). v.opened) same;
            found = ap (λ (v : View D). v.found) same;
            store = ap (λ (v : View D). v.store) same;
            history = ap (λ (v : View D). v.history) same;
            base = ap (λ (v : View D). v.base) same;
            limit = ap (λ (v : View D). v.limit) same;
            disk = reads.same;
            later = reads.failures;
          }));
          rises = omega (arith, rises);
          stays_honest = reads.honesty.0;
          pages = reads.pages;
          time = reads.time;
          crash = crash;
        });
        shape = ap (λ (v : View D). shape v.store.extents) same;
        honest = reads.honesty;
        map = λ honest m has. subst (λ (v : View D). HasMap v m) (sym same) (record { start = has.start; found = has.found; after = has.after });
      }

  -- reads that say nothing of crashes
  pub tidies_reads : (a b : View D) → b ≡ record a { disk = b.disk } → OnlyReads disks a.disk b.disk
      → (disks.honest a.disk → Leaves (disks.state a.disk) (IsPrefix (shape a.store.extents) (page a.opened) (commands_said a.history) a.store.frontier a.store.accepted))
      → (disks.honest a.disk → (image : Image) → disks.left_since a.disk (disks.moment a.disk) image → MayLeave (disks.state a.disk) image)
      → Tidies disks a b
  tidies_reads a b same reads left only_now = tidies_read a b same reads (λ honest.
      crash_still disks a.disk b.disk (IsPrefix (shape a.store.extents) (page a.opened) (commands_said a.history) a.store.frontier a.store.accepted) reads honest (left honest) (only_now honest))

  pub tidies_sync : (a b : View D) (r : Result ℕ Refusal) → IfOk r (λ frontier. Syncs disks a b × (frontier ≡ b.store.frontier)) → IfErr r (λ refusal. StopsSync disks a refusal b) → Ran disks a b → Tidies disks a b
  tidies_sync a b r syncs stops ran = tidies_quiet a b (sync_accepts disks a b r syncs stops) ran

  -- room is made, and then a sweep comes, however it ends
  pub tidies_sweep : (extent : ℕ) (a room b : View D) (r : Result Swept Refusal) → MakesRoom a room → Ran disks a room → IfOk r (λ swept. Sweeps disks extent room b swept.moved swept.root)
      → IfErr r (λ refusal. IsSweepRefused disks extent room b refusal) → Ran disks room b → Tidies disks a b
  tidies_sweep extent a room b r made ran_room sweeps refused ran =
      tidies_then a room b (tidies_quiet a room (room_quiet disks a room made) ran_room) (tidies_quiet room b (sweep_quiet disks extent room b r sweeps refused) ran)

  put_accepts : (a b : View D) (id : ShardId) (bytes : List ℕ) (reply : Reply) → Goes disks a (Put id bytes) reply b → Accepts disks (command_said (Put id bytes) reply) a b
  put_accepts a b id bytes reply goes = went_accepts disks ((Put id bytes, reply) ∷ []) a b (went_one disks a b (Put id bytes) reply goes)

  put_kept : (a b : View D) (id : ShardId) (bytes : List ℕ) (reply : Reply) (m : Map) → m (id_number id) ≡ Some (Bytes bytes) → HasMap a m
      → Accepts disks (command_said (Put id bytes) reply) a b → HasMap b m
  put_kept a b id bytes (Accepted n) m there has accepts =
      same_map b (changed m (id_number id, Some bytes)) m (put_again m (id_number id) bytes there) (map_changed disks (id_number id, Some bytes) a b accepts m has)
  put_kept a b id bytes reply m there has accepts = map_kept disks a b accepts m has

  -- a shard is put again as it is, or that is refused
  pub tidies_put : (a b : View D) (id : ShardId) (bytes : List ℕ) (r : Result Reply Refusal) → (disks.honest a.disk → (m : Map) → HasMap a m → m (id_number id) ≡ Some (Bytes bytes))
      → IfOk r (λ reply. Goes disks a (Put id bytes) reply b) → IfErr r (λ refusal. IsStopped disks a [] (Put id bytes) refusal b) → IsCall disks a b → Tidies disks a b
  tidies_put a b id bytes (Ok reply) there goes stopped call = record {
    ran = ran_call disks a b call;
    shape = (put_accepts a b id bytes reply goes).same_shape;
    honest = goes.stays_honest;
    map = λ honest m has. put_kept a b id bytes reply m (there honest m has) has (put_accepts a b id bytes reply goes);
  }
  tidies_put a b id bytes (Err r) there goes stopped call = tidies_quiet a b (stopped_quiet disks [] (Put id bytes) r a b refl stopped) (ran_call disks a b call)
