-- A put finds room after reclaims, when one finds nothing to sweep.
use Rattle.std.proofs.Common.{◌≡◌, ℕ, ◌+◌, ◌≤◌, List, [], None, length, sym, subst, arith}
use Rattle.cs_refusal.specs.declared.refusals.Refusal.TheVariants as refusal
use Rattle.cs_disk.specs.declared.disk.PageDisk.{Ghosts as PageDisk}
use Rattle.cs_extent.specs.State.{shape}
use Rattle.cs_frame.specs.declared.identifiers.ShardId.{ShardId}
use Rattle.cs_frame.specs.Formats.{formats_of}
use Rattle.law_machine.specs.Append.{chunk_frames, page_counts}
use Rattle.law_room.specs.Brim.{all_dead}
use Rattle.law_room.specs.Rooms.{all_pages}
use Rattle.cs_core.specs.declared.events.Event.TheVariants.{Put}
use Rattle.cs_core.specs.Views.{View}
use Rattle.cs_store.specs.Events.{DeclinesCopy}
use Rattle.cs_store.specs.Reserves.{RefusesPut}
use Rattle.cs_inspect.specs.Choices.{ReadsOn}
use Rattle.law_room_in_store.proofs.CoreSteps.{IsAt}
use Rattle.law_room_in_store.proofs.KeepingRoom.{IsRoomyState, ran_roomy, read_untouched, state_of, young_before}
use Rattle.law_room_in_store.proofs.PutsToBrim.{fits_less, none_dead_all, store_put_read}
use Rattle.law_room_in_store.proofs.Reaching.{Anything, any_sync, reaches_ran, reaches_ready, reaches_stopped, reaches_untouched}
use Rattle.law_room_in_store.proofs.ReclaimChoices.{chose_by}
use Rattle.law_room_in_store.proofs.ReclaimsGain.{reclaims_roomy, still_at}
use Rattle.law_room_in_store.proofs.ReclaimsLeave.{RestsAt, none_parts, rests_at}
use Rattle.law_room_in_store.proofs.StoresFull.{past_reads, read_state, ready_state, store_put}
use Rattle.law_room_in_store.specs.Cores.{NoneWornIn}
use Rattle.law_room_in_store.specs.Reclaims.{FitsBeside, IsIdle, IsReclaim, NoneFailed, ReclaimsBy}
use Rattle.law_room_in_store.specs.Roomy.{IsRoomyCore}
use Rattle.law_room_in_store.specs.Sweeps.{LiveAtMost}

module _ {D : Type 0} (disks : PageDisk D) (sized : (d : D) → disks.honest d → length (disks.state d).durable ≡ disks.page_count d)
    (v w x y : View D) (roomy : IsRoomyCore disks v) (idle : IsIdle v) (k : ℕ) (by : ReclaimsBy disks k v w) (call : IsReclaim disks w None x)
    (unfailed : NoneFailed disks v x) (young : NoneWornIn y) (id : ShardId) (bytes : List ℕ) (refuses : RefusesPut disks x id bytes refusal.Full y) where
  w_roomy : IsRoomyCore disks w
  w_roomy = reclaims_roomy disks k v w roomy by

  x_roomy : IsRoomyCore disks x
  x_roomy = ran_roomy disks w x w_roomy call.ran

  abbrev past : (read : View D) × ReadsOn disks x read × DeclinesCopy disks read (Put id bytes) refusal.Full y
  past = past_reads disks x y id bytes refuses

  read_roomy : IsRoomyState disks past.0
  read_roomy = read_state disks x past.0 (state_of disks x x_roomy) past.1

  x_young : NoneWornIn x
  x_young =
      let d = store_put disks past.0 y id bytes read_roomy young past.2 in
      let ready = ready_state disks past.0 d.0 read_roomy d.1 in
      young_before disks x past.0 (state_of disks x x_roomy)
      (reaches_untouched disks Anything x past.0 past.1.1.honesty.0 (read_untouched disks x past.0 past.1.0 past.1.1))
      (young_before disks past.0 d.0 read_roomy (reaches_ready disks Anything any_sync past.0 d.0 d.1)
      (young_before disks d.0 y ready (reaches_stopped disks d.0 y [] (Put id bytes) refusal.Full d.2) young))

  w_young : NoneWornIn w
  w_young = young_before disks w x (state_of disks w w_roomy) (reaches_ran disks w x call.ran) x_young

  module _ (live : ℕ) (most : LiveAtMost disks.state v live) (fits : FitsBeside v live id bytes) where
    rest : RestsAt disks v w live
    rest = let parts = none_parts disks v w x k by call unfailed in
        rests_at disks sized v roomy idle w w_young k by parts.0 live x most call parts.1

    at_x : IsAt disks (shape v.store.extents) x rest.of_state
    at_x =
        let chose = chose_by disks sized w w_roomy x None call rest.of_state rest.here.is_in in
        subst (λ (u : View D). IsAt disks (shape v.store.extents) u rest.of_state) (sym chose.reclaims)
        (still_at disks (shape v.store.extents) w chose.read rest.of_state rest.here (read_untouched disks w chose.read chose.reads.0 chose.reads.1, chose.reads.1.honesty))

    at_read : IsAt disks (shape v.store.extents) past.0 rest.of_state
    at_read = still_at disks (shape v.store.extents) x past.0 rest.of_state at_x (read_untouched disks x past.0 past.1.0 past.1.1, past.1.1.honesty)

    pub reclaimed_put : ⊥
    reclaimed_put =
        let none : all_dead rest.room (shape v.store.extents).extents ≡ 0 = none_dead_all (shape v.store.extents) rest.room rest.nothing in
        let taken : all_pages rest.room.chunks + all_dead rest.room (shape v.store.extents).extents ≤ live = omega (arith, none, rest.few) in
        store_put_read disks v past.0 y id bytes read_roomy young rest.of_state at_read rest.room rest.has rest.rests
        (λ command chunks payloads. fits_less (shape v.store.extents) (shape v.store.extents).run_extents
        (all_pages rest.room.chunks + all_dead rest.room (shape v.store.extents).extents) live
        (page_counts (chunk_frames (shape v.store.extents) (formats_of (shape v.store.extents)) chunks)) taken (fits command chunks payloads))
        past.2
