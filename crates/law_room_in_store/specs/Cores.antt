-- Cores that have room.
use Rattle.std.specs.Prelude.{◌≡◌, ◌<◌, ℕ, false}
use Rattle.cs_disk.specs.Disk.{State as DiskState}
use Rattle.cs_extent.specs.State.{extents_of, shape}
use Rattle.cs_frame.specs.Formats.{formats_of}
use Rattle.law_machine.specs.State.{State}
use Rattle.law_room.specs.OfMachine.{IsRoomOf}
use Rattle.law_room.specs.Rooms.{Room}
use Rattle.cs_core.specs.Views.{IsIn, View}
use Rattle.law_room_in_store.specs.Images.{HasRoomOn}

-- The core has room: the image that it was opened on has.
abbrev pub HasRoom : {D : Type 0} → View D → Type 0
HasRoom v = HasRoomOn (shape v.store.extents) v.opened

-- no generation of an extent is the greatest
abbrev pub NoneWornIn : {D : Type 0} → View D → Type 0
NoneWornIn v = (e : ℕ) → e < (shape v.store.extents).extents
    → (extents_of v.store.extents).generation e < (shape v.store.extents).greatest_generation

-- no extent is being swept
abbrev pub NoneSweptIn : {D : Type 0} → View D → Type 0
NoneSweptIn v = (e : ℕ) → (extents_of v.store.extents).swept e ≡ false

-- r is the room of a state that the core is in
pub record IsRoomIn {D : Type 0} (state : D → DiskState) (v : View D) (r : Room) : Type 0 where
  pub of_state : State
  pub is_in : IsIn state v of_state
  pub room : IsRoomOf (shape v.store.extents) (formats_of (shape v.store.extents)) of_state r
