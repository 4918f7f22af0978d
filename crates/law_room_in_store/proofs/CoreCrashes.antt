-- What a crash leaves of a core's disk has room.
use Rattle.std.proofs.Common.{◌≡◌, inl, inr, true, length, sym, ap, ◌∙◌, subst}
use Rattle.cs_disk.proofs.Moments.{goes_on, started}
use Rattle.cs_disk.specs.declared.disk.PageDisk.{Ghosts as PageDisk}
use Rattle.cs_disk.specs.Disk.{Elapses, Image, Leaves, LeavesOnly, MayLeave, page}
use Rattle.cs_extent.specs.State.{shape}
use Rattle.cs_frame.specs.Formats.{formats_of}
use Rattle.law_machine.proofs.Kept.{history_on}
use Rattle.law_machine.specs.Device.{Shape}
use Rattle.law_machine.specs.Open.{opened_state}
use Rattle.cs_core.specs.declared.events.Event.{Event}
use Rattle.cs_core.specs.declared.events.Reply.{Reply}
use Rattle.cs_core.specs.Views.{Applies, IsCore, View}
use Rattle.law_room_in_store.proofs.CoreRoom.{event_stays, same_geometry, state_roomy, young_event}
use Rattle.law_room_in_store.proofs.CrashImages.{left_has_room}
use Rattle.law_room_in_store.specs.Cores.{HasRoom, NoneWornIn}
use Rattle.law_room_in_store.specs.Images.{HasGeometry, HasRoomOn}

module _ {D : Type 0} (disks : PageDisk D) where
  -- a crash now
  pub leaves_room : (v : View D) → HasGeometry v.store.extents → (shape v.store.extents).apart ≡ true → IsCore disks v
      → disks.honest v.disk → length (disks.state v.disk).durable ≡ disks.page_count v.disk → HasRoom v → NoneWornIn v
      → Leaves (disks.state v.disk) (HasRoomOn (shape v.store.extents))
  leaves_room v geometry apart core honest long has young left may =
      let s = core.legal honest in
      let reached = s.1.reached in
      let on = history_on (shape v.store.extents) (formats_of (shape v.store.extents))
      (opened_state (shape v.store.extents) (formats_of (shape v.store.extents)) (page v.opened) reached.count reached.start
      reached.gives) s.0 reached.events reached.legal in
      let roomy = state_roomy disks v geometry apart has young s.0 s.1 in
      left_has_room v.store.extents geometry s.0 (disks.state v.disk) v.opened left s.1.store.sound s.1.disk
      (long ∙ core.device) (core.sized honest) on.opened may apart roomy.0 roomy.1

  -- a crash in the midst of an event
  pub leaves_room_within : (v w : View D) (event : Event) (reply : Reply) → HasGeometry v.store.extents
      → (shape v.store.extents).apart ≡ true → IsCore disks v → disks.honest v.disk → IsCore disks w → disks.honest w.disk
      → length (disks.state v.disk).durable ≡ disks.page_count v.disk → length (disks.state w.disk).durable ≡ disks.page_count w.disk
      → ((c : Image) → disks.left_since v.disk (disks.moment v.disk) c → MayLeave (disks.state v.disk) c)
      → HasRoom v → NoneWornIn w → Applies disks v event reply w
      → Elapses (disks.moment v.disk) (disks.moment w.disk) (disks.left_since v.disk) (disks.left_since w.disk) (disks.state w.disk)
      → LeavesOnly disks.moment disks.left_since v.disk w.disk (HasRoomOn (shape v.store.extents))
  leaves_room_within v w event reply geometry apart core honest core_then honest_then long long_then only_now has young applies time =
      let before = young_event disks v w event reply geometry apart core honest applies young in
      (goes_on disks.state disks.moment disks.left_since v.disk v.disk w.disk (HasRoomOn (shape v.store.extents))
      (started disks.state disks.moment disks.left_since v.disk (HasRoomOn (shape v.store.extents))
      (leaves_room v geometry apart core honest long has before) only_now) time (by applies)).any_moment
    where
      by : Applies disks v event reply w → Leaves (disks.state w.disk) (HasRoomOn (shape v.store.extents))
      by (inl full) = subst (λ (u : View D). Leaves (disks.state u.disk) (HasRoomOn (shape v.store.extents))) (sym full.same)
          (leaves_room v geometry apart core honest long has (subst NoneWornIn full.same young))
      by (inr step) = subst (λ (S : Shape). Leaves (disks.state w.disk) (HasRoomOn S)) step.same_shape
          (leaves_room w (same_geometry v.store.extents w.store.extents step.same_shape geometry)
          (ap (λ (S : Shape). S.apart) step.same_shape ∙ apart) core_then honest_then long_then
          (event_stays disks v w event reply has (inr step)) young)

  -- a core that is opened on what a crash left
  pub opened_has_room : (v w : View D) → HasGeometry v.store.extents → (shape v.store.extents).apart ≡ true → IsCore disks v
      → disks.honest v.disk → length (disks.state v.disk).durable ≡ disks.page_count v.disk → HasRoom v → NoneWornIn v
      → MayLeave (disks.state v.disk) w.opened → shape w.store.extents ≡ shape v.store.extents → HasRoom w
  opened_has_room v w geometry apart core honest long has young may same =
      subst (λ (S : Shape). HasRoomOn S w.opened) (sym same) (leaves_room v geometry apart core honest long has young w.opened may)
