-- What a crash leaves of a core with room, within its calls or between two, and what is opened on it.
use Rattle.std.proofs.Common.{◌≡◌, inl, inr, ℕ, List, [], ◌∷◌, length, refl, sym, ap, ◌∙◌, subst}
use Rattle.cs_disk.proofs.Moments.{IsSafe, goes_on, started}
use Rattle.cs_disk.specs.declared.disk.PageDisk.{Ghosts as PageDisk}
use Rattle.cs_disk.specs.Disk.{Image, Leaves, LeavesOnly, MayLeave}
use Rattle.cs_extent.specs.State.{shape}
use Rattle.law_machine.specs.Device.{Shape}
use Rattle.cs_core.specs.Calls.{AreCalls, IsCall}
use Rattle.cs_core.specs.Openings.{IsOpened}
use Rattle.cs_core.specs.Stored.{Stored}
use Rattle.cs_core.specs.Views.{IsCore, View}
use Rattle.cs_writeback.specs.Runs.{Ran}
use Rattle.law_room_in_store.proofs.CoreCrashes.{leaves_room}
use Rattle.law_room_in_store.proofs.CoreRoom.{same_geometry}
use Rattle.law_room_in_store.proofs.KeepingRoom.{called, state_of, young_before}
use Rattle.law_room_in_store.proofs.Reaching.{reaches_call, reaches_calls}
use Rattle.law_room_in_store.proofs.SameShape.{shape_left}
use Rattle.law_room_in_store.specs.Cores.{NoneWornIn}
use Rattle.law_room_in_store.specs.Images.{HasRoomOn}
use Rattle.law_room_in_store.specs.Roomy.{IsRoomyCore, OpensWithRoom}

-- what an honest disk is opened as
sure : (honest : Type 0) (image : Image) (found : ℕ × ℕ) (store : Stored) → honest → IsOpened honest image found store
    → IsOpened (Unit {0}) image found store
sure honest image found store there is = record {
  format = is.format;
  versions = is.versions;
  records = is.records;
  pages = is.pages;
  written = is.written;
  root = is.root;
  runs = is.runs;
  extents = is.extents;
  opened = is.opened;
  made = is.made;
  read = λ _. is.read there;
}

module _ {D : Type 0} (disks : PageDisk D) where
  -- a core that is opened on an image with room
  pub opened_roomy : (v w : View D) → IsRoomyCore disks v → OpensWithRoom (shape v.store.extents) w.opened → IsCore disks w
      → disks.honest w.disk → (honest : Type 0) → honest → IsOpened honest w.opened w.found w.store → IsRoomyCore disks w
  opened_roomy v w roomy opens core honest before there is =
      let same : shape w.store.extents ≡ shape v.store.extents = opens.same_shape w.found w.store
      (sure before w.opened w.found w.store there is) in record {
        core = core;
        honest = honest;
        geometry = same_geometry v.store.extents w.store.extents same roomy.geometry;
        apart = ap (λ (S : Shape). S.apart) same ∙ roomy.apart;
        room = subst (λ (S : Shape). HasRoomOn S w.opened) (sym same) opens.room;
      }

  module _ (sized : (d : D) → disks.honest d → length (disks.state d).durable ≡ disks.page_count d)
      (only_now : (d : D) (c : Image) → disks.honest d → disks.left_since d (disks.moment d) c → MayLeave (disks.state d) c) where
    pub left_now : (v : View D) → IsRoomyCore disks v → NoneWornIn v
        → Leaves (disks.state v.disk) (OpensWithRoom (shape v.store.extents))
    left_now v roomy young image may = record {
      room = leaves_room disks v roomy.geometry roomy.apart roomy.core roomy.honest (sized v.disk roomy.honest) roomy.room young image may;
      same_shape = λ found store is. shape_left disks v roomy (sized v.disk roomy.honest) image may (Unit {0}) found store is tt;
    }

    module _ (first : View D) where
      abbrev P : Image → Type 0
      P = OpensWithRoom (shape first.store.extents)

      -- up to v a crash left room, and so it does to w
      later : (v w : View D) → IsRoomyCore disks v → IsCall disks v w → NoneWornIn w
          → shape v.store.extents ≡ shape first.store.extents
          → IsSafe disks.state disks.moment disks.left_since first.disk v.disk P
          → IsSafe disks.state disks.moment disks.left_since first.disk w.disk P
      later v w roomy call young same safe =
          goes_on disks.state disks.moment disks.left_since first.disk v.disk w.disk P safe (call.time roomy.honest)
          (subst (λ (S : Shape). Leaves (disks.state w.disk) (OpensWithRoom S)) ((reaches_call disks v w call).same ∙ same)
          (left_now w (called disks v w roomy call) young))

      along : (between : List (View D)) (v w : View D) → IsRoomyCore disks v → AreCalls disks v between w → NoneWornIn w
          → shape v.store.extents ≡ shape first.store.extents
          → IsSafe disks.state disks.moment disks.left_since first.disk v.disk P
          → IsSafe disks.state disks.moment disks.left_since first.disk w.disk P
      along [] v w roomy call young same safe = later v w roomy call young same safe
      along (x ∷ xs) v w roomy (call, calls) young same safe =
          let next = called disks v x roomy call in
          let then_young = young_before disks x w (state_of disks x next) (reaches_calls disks xs x w calls) young in
          along xs x w next calls young ((reaches_call disks v x call).same ∙ same) (later v x roomy call then_young same safe)

      start : IsRoomyCore disks first → NoneWornIn first → IsSafe disks.state disks.moment disks.left_since first.disk first.disk P
      start roomy young = started disks.state disks.moment disks.left_since first.disk P (left_now first roomy young)
          (λ c since. only_now first.disk c roomy.honest since)

    -- whatever a crash within calls leaves
    pub left_within : (v w : View D) → IsRoomyCore disks v → Ran disks v w → NoneWornIn w
        → LeavesOnly disks.moment disks.left_since v.disk w.disk (OpensWithRoom (shape v.store.extents))
    left_within v w roomy (inl same) young = subst (λ (u : View D). LeavesOnly disks.moment disks.left_since v.disk u.disk
        (OpensWithRoom (shape v.store.extents))) (sym same) (start v roomy (subst NoneWornIn same young)).any_moment
    left_within v w roomy (inr (between, calls)) young = (along v between v w roomy calls young refl
        (start v roomy (young_before disks v w (state_of disks v roomy) (reaches_calls disks between v w calls) young))).any_moment
