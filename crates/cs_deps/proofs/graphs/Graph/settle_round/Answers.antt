use Rattle.std.proofs.Common.{◌≡◌, ◌∙◌, ℕ, List, get_or, Some, sym, ap, arith}
use Rattle.std.specs.Prelude.{nat_eq, option_map}
use Rattle.std.specs.HashMap.{get as get_number, spare}
use Rattle.cs_deps.specs.declared.elements.Element.{Element}
use Rattle.cs_deps.specs.Named.{Named}
use Rattle.cs_deps.specs.Pending.{Pending}
use Rattle.cs_deps.specs.contracts.graphs.Graph.{the_view}
use Rattle.cs_deps.specs.Records.{writes_of}
use Rattle.cs_deps.specs.State.{after_round}
use Rattle.cs_deps.specs.Staging.{Staging, raised}
use Rattle.cs_deps.specs.Entries.{waiting_of}
use Rattle.cs_deps.specs.Levels.{floor_of, live_of}
use Rattle.cs_deps.proofs.Entries.{waiting_settled}
use Rattle.cs_deps.proofs.Roomy.{live_in}
use Rattle.cs_deps.proofs.RoundSettled.{left_over, indexed_later, live_left, writes_less, held_later}
use Rattle.cs_deps.proofs.StateSteps.{settled_round_adds}
use Rattle.cs_deps.proofs.graphs.Graph.settle_round.Goals.{In-Some, After-clean}
use Rattle.cs_deps.proofs.graphs.Graph.settle_round.Goals as goal

pub give_up-requires : goal.give_up-requires
give_up-requires c = record { keyed = λ key r at. (let h = c.self.invariant.filed.there key r at in (h.0, h.1, h.2)) }

out : (c : In-Some) → (the_view c.self.inside).round ≡ Some c.in-Some.round.items
out c = ap (option_map (λ r. r.items)) (sym c.take.ensures.value ∙ c.in-Some.is)

pub trim-requires-clause-plains : goal.trim-requires-clause-plains
trim-requires-clause-plains c = (indexed_later c.self.inside c.self.invariant c.in-Some.round.items (out (goal.at.trim-requires-clause-plains c).In-Some) c.settle.new.self c.settle.ensures.none c.settle.ensures.one (writes_of c.give_up.new.records.slots)).plain_count

pub trim-requires-clause-versions : goal.trim-requires-clause-versions
trim-requires-clause-versions c f =
    let ready = indexed_later c.self.inside c.self.invariant c.in-Some.round.items (out (goal.at.trim-requires-clause-versions c).In-Some) c.settle.new.self c.settle.ensures.none c.settle.ensures.one (writes_of c.give_up.new.records.slots) in
    rw c.deref-in-Some-4.ensures.value (ready.version_count f)

pub raise_floors-requires : goal.raise_floors-requires
raise_floors-requires c = record { count = rw c.deref-in-Some-6.ensures.value c.self.invariant.floors_count }

-- the versions that are persistent then
persistent : (c : After-clean) → c.raise_all.new.versions.items ≡ raised c.self.inside.persistent.items c.in-Some.round.items
persistent c = rw c.deref-in-Some-3.ensures.value at c.raise_all.ensures

raises : (c : After-clean) (f : ℕ) → get_or c.raise_floors.new.floors.items f 0 ≡ floor_of (get_or (raised c.self.inside.persistent.items c.in-Some.round.items) f 0) (get_or c.self.inside.latest.items f 0) (get_or c.self.inside.entries.floors.items f 0)
raises c = rw (c.deref-in-Some-5.ensures.value, persistent c, c.deref-in-Some-6.ensures.value) at c.raise_floors.ensures.each

-- what waits then
left : (c : After-clean) (is : (the_view c.self.inside).round ≡ Some c.in-Some.round.items) → waiting_of (raised c.self.inside.persistent.items c.in-Some.round.items) (live_of c.trim.new.self c.clean.new.entries.floors.items c.clean.new.entries.list.items) ≡ waiting_of (raised c.self.inside.persistent.items c.in-Some.round.items) (left_over c.self.inside c.self.invariant c.in-Some.round.items is c.settle.new.self c.settle.ensures.none c.settle.ensures.one)
left c is =
    (rw (c.deref-in-Some-7.ensures.value, persistent c) at c.clean.ensures.waiting)
    ∙ ap (waiting_of (raised c.self.inside.persistent.items c.in-Some.round.items)) (live_left c.self.inside c.self.invariant c.in-Some.round.items is c.settle.new.self c.settle.ensures.none c.settle.ensures.one c.trim.new.self c.trim.ensures c.raise_floors.new.floors.items (raises c))

joined : (c : After-clean) (is : (the_view c.self.inside).round ≡ Some c.in-Some.round.items) → waiting_of (raised c.self.inside.persistent.items c.in-Some.round.items) (live_of c.trim.new.self c.clean.new.entries.floors.items c.clean.new.entries.list.items) ≡ (after_round (the_view c.self.inside).staging.pending (Some c.in-Some.round.items)).waiting
joined c is = left c is ∙ waiting_settled c.self.inside.persistent.items c.self.inside.latest.items (live_in c.self.inside) c.self.invariant.current c.self.invariant.whole.kept.families c.in-Some.round.items

pub invariant_of-self : goal.invariant_of-self
invariant_of-self c =
    let g = c.self.inside in
    let at = goal.at.invariant_of-self c in
    let is = out at.In-Some in
    let given = rw c.deref-in-Some-2.ensures.value at c.give_up.ensures in
    let current = rw (c.deref-in-Some-7.ensures.value, persistent at.After-clean) at c.clean.ensures.current in
    rw (persistent at.After-clean, left at.After-clean is, c.take.ensures.after)
    (held_later g c.self.invariant c.in-Some.round.items is c.settle.new.self c.settle.ensures.none c.settle.ensures.one c.trim.new.self c.trim.ensures c.raise_floors.new.floors.items (raises at.After-clean)
    c.give_up.new.records given.less given.gone given.rest c.clean.new.entries (λ p. get_number nat_eq c.give_up.new.newest p) (spare c.give_up.new.newest) c.raise_floors.ensures.count current c.clean.ensures.plains c.clean.ensures.floors
    (omega (arith, c.self.invariant.entries_fit, c.clean.ensures.count, c.clean.ensures.capacity)) (omega (arith, c.self.invariant.places_fit, c.clean.ensures.places)) (omega (arith, c.self.invariant.records_fit, c.give_up.ensures.count, c.give_up.ensures.capacity))
    (given.newest c.self.invariant.newest) (omega (arith, c.self.invariant.newest_fit, given.spare)))

pub returns-in-Some-clause-settled : goal.returns-in-Some-clause-settled
returns-in-Some-clause-settled c =
    let g = c.self.inside in
    let at = goal.at.returns-in-Some-clause-settled c in
    let is = out at.In-Some in
    let now : List (Element × Named) → Staging = λ ws. record { pending = record { persistent = raised g.persistent.items c.in-Some.round.items; waiting = ws }; staged = g.staged; latest = g.latest.items } in
    let then : Pending → Staging = λ p. record { pending = p; staged = g.staged; latest = g.latest.items } in
    rw (← c.self.view_is, persistent at.After-clean) (ap now (joined at.After-clean is) ∙ sym (ap (λ o. then (after_round (the_view g).staging.pending o)) is))

pub returns-in-Some-clause-adds : goal.returns-in-Some-clause-adds
returns-in-Some-clause-adds c =
    let at = goal.at.returns-in-Some-clause-adds c in
    let is = out at.In-Some in
    rw (← c.self.view_is, persistent at.After-clean, joined at.After-clean is) (settled_round_adds (the_view c.self.inside) c.self.invariant.whole c.in-Some.round.items is)

pub returns-in-Some-clause-writes : goal.returns-in-Some-clause-writes
returns-in-Some-clause-writes c =
    let at = goal.at.returns-in-Some-clause-writes c in
    let given = rw c.deref-in-Some-2.ensures.value at c.give_up.ensures in
    rw (← c.self.view_is) (writes_less c.self.inside c.self.invariant c.in-Some.round.items (out at.In-Some) c.settle.new.self c.settle.ensures.none c.settle.ensures.one c.trim.new.self c.trim.ensures c.raise_floors.new.floors.items (raises at.After-clean) c.give_up.new.records given.less given.gone given.rest)
