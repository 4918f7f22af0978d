-- Stores of a geometry, and images that have room.
use Rattle.std.specs.Prelude.{ℕ, length}
use Rattle.cs_disk.specs.Disk.{Image, page}
use Rattle.cs_extent.specs.State.{State as ExtentsState}
use Rattle.cs_frame.specs.Formats.{formats_of}
use Rattle.cs_frame.specs.Geometries.{IsGeometry}
use Rattle.law_machine.specs.Device.{Shape}
use Rattle.law_machine.specs.Element.{Map}
use Rattle.law_machine.specs.Open.{opened_state}
use Rattle.law_machine.specs.Recovery.{Recovers}
use Rattle.law_room.specs.OfMachine.{NoneWorn}
use Rattle.law_room.specs.Rooms.{Room}
use Rattle.law_room.specs.RootsOfMachine.{IsRoomy}

-- there is a store with as many extents, pages and sections as these extents have, in their format
abbrev pub HasGeometry : ExtentsState → Type 0
HasGeometry x = IsGeometry x.format (length x.written) x.pages x.sections

-- Whatever a store of this shape finds on the image as it is opened there, the state that it is in then has room, and
-- so has what any crash leaves of it; unless the generation of an extent is the greatest.
abbrev pub HasRoomOn : Shape → Image → Type 0
HasRoomOn S image = (n : ℕ) (m : Map) (gives : Recovers S (formats_of S) (page image) n m)
    → NoneWorn S (opened_state S (formats_of S) (page image) n m gives)
    → (r : Room) × IsRoomy S (formats_of S) (opened_state S (formats_of S) (page image) n m gives) r
