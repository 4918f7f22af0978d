use Rattle.std.proofs.Common.{◌+◌, ◌<◌, List, sym, ap, subst, arith}
use Rattle.std.proofs.Math.Nat.{le-max_right}
use Rattle.std.specs.Prelude.{◌-◌}
use Rattle.cs_deps.specs.contracts.graphs.Graph.{the_invariant}
use Rattle.cs_deps.specs.declared.elements.Element.{Element}
use Rattle.cs_deps.specs.declared.elements.Element.TheVariants.{Plain}
use Rattle.cs_deps.specs.declared.graphs.Graph.TheInside.{Inside}
use Rattle.cs_deps.specs.Named.{Named}
use Rattle.cs_deps.specs.Staging.{Staging}
use Rattle.cs_deps.proofs.Added.{TakesOne, IsAdded}
use Rattle.cs_deps.proofs.Held.{MayBeAdded, high_enough}
use Rattle.cs_deps.proofs.PlainAdded.{plain_added}
use Rattle.cs_deps.proofs.Roomy.{IsRoomy, view_roomy, held_roomy, still_fits}
use Rattle.cs_deps.proofs.graphs.Graph.stage_plain.Goals.{After-make_room, After-top-best, After-push_plain}
use Rattle.cs_deps.proofs.graphs.Graph.stage_plain.Goals as goal

-- the graph with the room that was made
abbrev with_room : After-make_room → Inside
with_room c = let m = c.make_room.new in record c.self.inside { entries = m.entries; records = m.records; newest = m.newest; levels = m.levels }

roomy : (c : After-make_room) → IsRoomy c.self.inside (with_room c)
roomy c = let e = c.make_room.ensures in record { list = e.entries; floors = e.floors; records = e.records; newest = e.newest; levels = e.levels }

still_held : (c : After-make_room) → the_invariant (with_room c)
still_held c =
    let e = c.make_room.ensures in
    held_roomy c.self.inside c.self.invariant (with_room c) (roomy c) c.self.inside.room (still_fits c.self.inside (with_room c) c.self.invariant (roomy c) e.entry_count e.more_entries e.more_places e.more_records e.more_newest)

-- the same graph, where it is known what the write needs
abbrev before_it : After-top-best → Inside
before_it c = let m = c.make_room.new in record c.self.inside { entries = m.entries; records = m.records; newest = m.newest; levels = m.levels }

allowed : (c : After-top-best) → MayBeAdded c.self.inside (before_it c) c.in-Ok.made c.args.needs c.top-best.result.level c.top-best.result.before
allowed c =
    let says = rw (← c.self.view_is) at c.is_staged.ensures in
    let e = c.in-Ok.ensures in
    record { same = record { list = e.entries; floors = e.floors; records = e.records; newest = e.newest; levels = e.levels }; some = subst (λ n. 0 < n) (sym e.room) (le-max_right c.self.inside.room 1); fits = record { list = e.entries_fit; places = e.places_fit; records = e.records_fit; newest = e.newest_fit; levels = e.levels_fit }; within = says.0 c.if-not-is_staged.false; best = c.top-best.ensures }

pub push_plain-requires-clause-high : goal.push_plain-requires-clause-high
push_plain-requires-clause-high c =
    let at = (goal.at.push_plain-requires-clause-high c).After-top-best in
    high_enough c.self.inside c.self.invariant (before_it at) c.in-Ok.made c.args.needs c.top-best.result.level c.top-best.result.before (allowed at)

-- the same graph, and the one that the write is in
abbrev room_for : After-push_plain → Inside
room_for c = let m = c.make_room.new in record c.self.inside { entries = m.entries; records = m.records; newest = m.newest; levels = m.levels }

abbrev behind_it : After-push_plain → Inside
behind_it c = record c.self.inside { entries = c.push_reserved.new.self; records = c.insert_reserved-key.new.self; newest = c.note.new.newest; levels = c.push_plain.new.self }

takes_one : (c : After-push_plain) → TakesOne (room_for c) (behind_it c) (Plain (c.self.inside.staged + 1)) c.args.needs
takes_one c =
    let e = c.push_reserved.ensures in
    let k = c.insert_reserved-key.ensures in
    record { items = e.items; floors = e.floors; listed = e.len; same_list = e.capacity; places = e.places; records = omega (arith, k.len); same_records = k.capacity; newest = c.note.ensures.spare; levels = c.push_plain.ensures.room }

added : (c : After-push_plain) → MayBeAdded c.self.inside (room_for c) c.in-Ok.made c.args.needs c.top-best.result.level c.top-best.result.before → IsAdded c.self.inside (behind_it c) (c.self.inside.staged + 1) c.self.inside.latest.items (c.in-Ok.made - 1) (Plain (c.self.inside.staged + 1)) c.args.needs (c.args.page, c.args.bytes.now)
added c may =
    let k = c.insert_reserved-key.ensures in
    plain_added c.self.inside c.self.invariant (room_for c) c.in-Ok.made c.args.needs c.top-best.result.level c.top-best.result.before may (behind_it c) (takes_one c) c.insert_reserved-key.result c.push_plain.ensures.pushed
    k.was_vacant c.args.page c.args.bytes.now c.noted-older.result k.updates c.noted-older.ensures c.note.ensures.numbers

pub invariant_of-self : goal.invariant_of-self
invariant_of-self c = let at = goal.at.invariant_of-self c in (added at.After-push_plain (allowed at.After-top-best)).held

pub returns-in-Ok-clause-staged : goal.returns-in-Ok-clause-staged
returns-in-Ok-clause-staged c =
    let g = c.self.inside in
    let at = goal.at.returns-in-Ok-clause-staged c in
    let now : List (Element × Named) → Staging = λ ws. record { pending = record { persistent = g.persistent.items; waiting = ws }; staged = g.staged + 1; latest = g.latest.items } in
    rw (← c.self.view_is) (ap now (added at.After-push_plain (allowed at.After-top-best)).waits)

pub returns-in-Ok-clause-write : goal.returns-in-Ok-clause-write
returns-in-Ok-clause-write c = let at = goal.at.returns-in-Ok-clause-write c in (added at.After-push_plain (allowed at.After-top-best)).write

pub returns-in-Ok-clause-others : goal.returns-in-Ok-clause-others
returns-in-Ok-clause-others c = let at = goal.at.returns-in-Ok-clause-others c in rw (← c.self.view_is) (added at.After-push_plain (allowed at.After-top-best)).others

pub invariant_of-self-in-Err : goal.invariant_of-self-in-Err
invariant_of-self-in-Err c = still_held (goal.at.invariant_of-self-in-Err c).After-make_room

pub returns-in-Err-clause-refused : goal.returns-in-Err-clause-refused
returns-in-Err-clause-refused c =
    let at = (goal.at.returns-in-Err-clause-refused c).After-make_room in
    rw (← c.self.view_is) (view_roomy c.self.inside c.self.invariant (with_room at) (roomy at))
