use Rattle.cs_deps.specs.declared.graphs.Graph.TheInside.{Inside}
use Rattle.cs_deps.proofs.Roomy.{IsRoomy, held_roomy, still_fits}
use Rattle.cs_deps.proofs.graphs.Graph.reserve.Goals.{After-make_room}
use Rattle.cs_deps.proofs.graphs.Graph.reserve.Goals as goal

-- the graph with the room that was made
abbrev with_room : After-make_room → Inside
with_room c = let m = c.make_room.new in record c.self.inside { entries = m.entries; records = m.records; newest = m.newest; levels = m.levels }

roomy : (c : After-make_room) → IsRoomy c.self.inside (with_room c)
roomy c = let e = c.make_room.ensures in record { list = e.entries; floors = e.floors; records = e.records; newest = e.newest; levels = e.levels }

pub invariant_of-self-2 : goal.invariant_of-self-2
invariant_of-self-2 c =
    let at = (goal.at.invariant_of-self-2 c).After-make_room in
    let e = c.in_ok-room.ensures in
    held_roomy c.self.inside c.self.invariant (with_room at) (roomy at) c.in_ok-room.room (record { list = e.entries_fit; places = e.places_fit; records = e.records_fit; newest = e.newest_fit; levels = e.levels_fit })

pub invariant_of-self : goal.invariant_of-self
invariant_of-self c =
    let at = (goal.at.invariant_of-self c).After-make_room in
    let e = c.make_room.ensures in
    held_roomy c.self.inside c.self.invariant (with_room at) (roomy at) c.self.inside.room (still_fits c.self.inside (with_room at) c.self.invariant (roomy at) e.entry_count e.more_entries e.more_places e.more_records e.more_newest)
