use Rattle.std.proofs.Common.{◌∙◌, ◌+◌, ◌≡◌, ◌<◌, ◌≤◌, ℕ, List, Result, Err, set, get_or, length, refl, sym, ap, subst, arith}
use Rattle.std.proofs.Math.Nat.{le-max_right}
use Rattle.std.specs.Prelude.{◌-◌, ◌↔◌, option_map}
use Rattle.std.proofs.lemmas.Result.{err_from_is_err_and}
use Rattle.cs_deps.specs.contracts.graphs.Graph.{the_invariant}
use Rattle.cs_deps.specs.declared.elements.Element.{Element}
use Rattle.cs_deps.specs.declared.elements.Element.TheVariants.{Version}
use Rattle.cs_deps.specs.declared.graphs.Graph.TheInside.{Inside}
use Rattle.cs_refusal.specs.declared.refusals.Refusal.{Refusal}
use Rattle.cs_refusal.specs.declared.refusals.Refusal.TheVariants.{UnknownNeed, OwnFamily}
use Rattle.cs_deps.specs.Named.{Named, IsWithin, NamesFamily}
use Rattle.cs_deps.specs.Records.{writes_of}
use Rattle.cs_deps.specs.Staging.{Staging}
use Rattle.cs_deps.proofs.Added.{TakesOne, IsAdded}
use Rattle.cs_deps.proofs.Entries.{joined_next, next_needs}
use Rattle.cs_deps.proofs.Held.{MayBeAdded, high_enough}
use Rattle.cs_deps.proofs.Roomy.{IsRoomy, live_in, view_roomy, held_roomy, still_fits}
use Rattle.cs_deps.proofs.VersionAdded.{next_in_range, version_added}
use Rattle.cs_deps.proofs.graphs.Graph.stage_version.Goals.{In_ok-before, After-make_room, After-top-best, After-next_of-kept, After-push_version}
use Rattle.cs_deps.proofs.graphs.Graph.stage_version.Goals as goal

-- the version before the new one
last : (c : In_ok-before) → c.in_ok-before.before ≡ get_or c.self.inside.latest.items c.args.family 0
last c = rw (← c.self.view_is) at c.in_ok-before.ensures.last

-- the graph with the room that was made, where it is known what the version needs
abbrev before_it : After-top-best → Inside
before_it c = let m = c.make_room.new in record c.self.inside { entries = m.entries; records = m.records; newest = m.newest; levels = m.levels }

allowed : (c : After-top-best) → MayBeAdded c.self.inside (before_it c) c.in-Ok.made c.args.needs c.top-best.result.level c.top-best.result.before
allowed c =
    let within = rw (← c.self.view_is) at c.in_ok-before.ensures.within in
    let e = c.in-Ok.ensures in
    record { same = record { list = e.entries; floors = e.floors; records = e.records; newest = e.newest; levels = e.levels }; some = subst (λ n. 0 < n) (sym e.room) (le-max_right c.self.inside.room 1); fits = record { list = e.entries_fit; places = e.places_fit; records = e.records_fit; newest = e.newest_fit; levels = e.levels_fit }; within = within; best = c.top-best.ensures }

pub next_of-kept-requires : goal.next_of-kept-requires
next_of-kept-requires c =
    let at = (goal.at.next_of-kept-requires c).After-top-best in
    let may = allowed at in
    omega (arith, high_enough c.self.inside c.self.invariant (before_it at) c.in-Ok.made c.args.needs c.top-best.result.level c.top-best.result.before may, c.in-Ok.ensures.levels_fit.limit, may.some)

-- the same graph, where the version's level is known
abbrev room_for : After-next_of-kept → Inside
room_for c = let m = c.make_room.new in record c.self.inside { entries = m.entries; records = m.records; newest = m.newest; levels = m.levels }

in_range : (c : After-next_of-kept) → MayBeAdded c.self.inside (room_for c) c.in-Ok.made c.args.needs c.top-best.result.level c.top-best.result.before → (c.make_room.new.levels.ended < c.next_of-kept.result.level) × (c.next_of-kept.result.level ≤ c.make_room.new.levels.ended + length c.make_room.new.levels.rows.items + 1)
in_range c may = next_in_range c.self.inside c.self.invariant (room_for c) c.in-Ok.made c.args.needs c.top-best.result.level c.top-best.result.before may c.args.family c.in_ok-before.before c.next_of-kept.result c.next_of-kept.ensures

pub replaced-requires-clause-low : goal.replaced-requires-clause-low
replaced-requires-clause-low c = let at = goal.at.replaced-requires-clause-low c in (in_range at.After-next_of-kept (allowed at.After-top-best)).0

pub push_version-requires-clause-low : goal.push_version-requires-clause-low
push_version-requires-clause-low c = let at = goal.at.push_version-requires-clause-low c in (in_range at.After-next_of-kept (allowed at.After-top-best)).0

pub push_version-requires-clause-high : goal.push_version-requires-clause-high
push_version-requires-clause-high c = let at = goal.at.push_version-requires-clause-high c in (in_range at.After-next_of-kept (allowed at.After-top-best)).1

-- the same graph, and the one that the version is in
abbrev with_place : After-push_version → Inside
with_place c = let m = c.make_room.new in record c.self.inside { entries = m.entries; records = m.records; newest = m.newest; levels = m.levels }

abbrev behind_it : After-push_version → Inside
behind_it c = record c.self.inside { entries = c.push_reserved.new.self; records = c.insert_reserved-key.new.self; newest = c.make_room.new.newest; levels = c.push_version.new.self }

takes_one : (c : After-push_version) → TakesOne (with_place c) (behind_it c) (Version c.args.family (c.in_ok-before.before + 1)) c.args.needs
takes_one c =
    let e = c.push_reserved.ensures in
    let k = c.insert_reserved-key.ensures in
    record { items = e.items; floors = e.floors; listed = e.len; same_list = e.capacity; places = e.places; records = omega (arith, k.len, c.clear.ensures.count); same_records = k.capacity ∙ c.clear.ensures.capacity; newest = omega arith; levels = c.push_version.ensures.room }

added : (c : After-push_version) → MayBeAdded c.self.inside (with_place c) c.in-Ok.made c.args.needs c.top-best.result.level c.top-best.result.before → c.in_ok-before.before ≡ get_or c.self.inside.latest.items c.args.family 0 → IsAdded c.self.inside (behind_it c) c.self.inside.staged (set c.self.inside.latest.items c.args.family (c.in_ok-before.before + 1)) (c.in-Ok.made - 1) (Version c.args.family (c.in_ok-before.before + 1)) (next_needs (live_in c.self.inside) c.args.family c.in_ok-before.before c.args.needs) (c.args.page, c.args.bytes.now)
added c may is =
    let k = c.insert_reserved-key.ensures in
    version_added c.self.inside c.self.invariant (with_place c) c.in-Ok.made c.args.needs c.top-best.result.level c.top-best.result.before may c.args.family c.in_ok-before.before c.next_of-kept.result c.next_of-kept.ensures
    (rw (← c.self.view_is) at c.requires) is (λ v n. c.in_ok-before.ensures.others (v, n)) (behind_it c) (takes_one c) c.insert_reserved-key.result c.push_version.ensures.pushed
    c.replaced.result c.replaced.ensures.some c.replaced.ensures.none c.clear.new.records c.clear.ensures.none c.clear.ensures.gone c.clear.ensures.others k.was_vacant c.args.page c.args.bytes.now k.updates (λ q. refl)

pub invariant_of-self : goal.invariant_of-self
invariant_of-self c = let at = goal.at.invariant_of-self c in (added at.After-push_version (allowed at.After-top-best) (last at.In_ok-before)).held

pub returns-in-Ok-clause-staged : goal.returns-in-Ok-clause-staged
returns-in-Ok-clause-staged c =
    let g = c.self.inside in
    let f = c.args.family in
    let before = c.in_ok-before.before in
    let at = goal.at.returns-in-Ok-clause-staged c in
    let is = last at.In_ok-before in
    let now : List (Element × Named) → Staging = λ ws. record { pending = record { persistent = g.persistent.items; waiting = ws }; staged = g.staged; latest = set g.latest.items f (before + 1) } in
    let joined = joined_next g.persistent.items (live_in g) g.staged g.latest.items (option_map (λ r. r.items) g.round) (writes_of g.records.slots) g.room c.self.invariant.whole c.self.invariant.current f (rw (← c.self.view_is) at c.requires) before is c.args.needs in
    rw (← c.self.view_is) (before, next_needs (live_in g) f before c.args.needs, is, refl, joined, ap now (added at.After-push_version (allowed at.After-top-best) is).waits)

pub returns-in-Ok-clause-write : goal.returns-in-Ok-clause-write
returns-in-Ok-clause-write c = let at = goal.at.returns-in-Ok-clause-write c in (added at.After-push_version (allowed at.After-top-best) (last at.In_ok-before)).write

pub returns-in-Ok-clause-others : goal.returns-in-Ok-clause-others
returns-in-Ok-clause-others c = let at = goal.at.returns-in-Ok-clause-others c in rw (← c.self.view_is) (added at.After-push_version (allowed at.After-top-best) (last at.In_ok-before)).others

-- the graph with the room that was made
abbrev with_room : After-make_room → Inside
with_room c = let m = c.make_room.new in record c.self.inside { entries = m.entries; records = m.records; newest = m.newest; levels = m.levels }

roomy : (c : After-make_room) → IsRoomy c.self.inside (with_room c)
roomy c = let e = c.make_room.ensures in record { list = e.entries; floors = e.floors; records = e.records; newest = e.newest; levels = e.levels }

still_held : (c : After-make_room) → the_invariant (with_room c)
still_held c =
    let e = c.make_room.ensures in
    held_roomy c.self.inside c.self.invariant (with_room c) (roomy c) c.self.inside.room (still_fits c.self.inside (with_room c) c.self.invariant (roomy c) e.entry_count e.more_entries e.more_places e.more_records e.more_newest)

pub invariant_of-self-in-Err : goal.invariant_of-self-in-Err
invariant_of-self-in-Err c = still_held (goal.at.invariant_of-self-in-Err c).After-make_room

pub returns-in_err-before-clause-unknown : goal.returns-in_err-before-clause-unknown
returns-in_err-before-clause-unknown c =
    let g = c.self.inside in
    let p = err_from_is_err_and c.from_residual.result c.from_residual.ensures.1 in
    let says = rw (← c.self.view_is) at c.in_err-before.ensures.unknown in
    rw (← c.self.view_is) (subst (λ (r : Result ℕ Refusal). (r ≡ Err UnknownNeed) ↔ ¬ IsWithin c.args.needs g.staged g.latest.items) (sym (p.1 ∙ ap (λ (r : Refusal). Err r) p.2)) says)

pub returns-in_err-before-clause-own : goal.returns-in_err-before-clause-own
returns-in_err-before-clause-own c =
    let g = c.self.inside in
    let p = err_from_is_err_and c.from_residual.result c.from_residual.ensures.1 in
    let says = rw (← c.self.view_is) at c.in_err-before.ensures.own in
    rw (← c.self.view_is) (subst (λ (r : Result ℕ Refusal). (r ≡ Err OwnFamily) ↔ (IsWithin c.args.needs g.staged g.latest.items × NamesFamily c.args.needs c.args.family)) (sym (p.1 ∙ ap (λ (r : Refusal). Err r) p.2)) says)

pub returns-in-Ok-clause-own : goal.returns-in-Ok-clause-own
returns-in-Ok-clause-own c = ((λ e. absurd (cc e)), (λ h. absurd (c.in_ok-before.ensures.others h.1)))

pub returns-in-Err-clause-own : goal.returns-in-Err-clause-own
returns-in-Err-clause-own c = ((λ e. absurd (cc e)), (λ h. absurd (c.in_ok-before.ensures.others h.1)))

pub returns-in-Err-clause-refused : goal.returns-in-Err-clause-refused
returns-in-Err-clause-refused c =
    let at = (goal.at.returns-in-Err-clause-refused c).After-make_room in
    rw (← c.self.view_is) (view_roomy c.self.inside c.self.invariant (with_room at) (roomy at))
