use Rattle.std.proofs.Common.{rules, ◌≡◌, ◌∷◌, All, List, subst, sym}
use Rattle.std.specs.Vec.Iter.{into_iter_items}
use Rattle.std.proofs.lemmas.List.Elements.{All-head, All-tail}
use Rattle.cs_node.specs.declared.jobs.Slot.{Slot}
use Rattle.cs_node.specs.Jobs.{HasGiven}
use Rattle.cs_node.proofs.Given.{given_more}
use Rattle.cs_node.proofs.jobs.given.Goals as goal

pub loop-slot-init : goal.loop-slot-init
loop-slot-init g c =
    let e : into_iter_items c.into_iter-slot-iterator.result ≡ c.args.slots.items = c.into_iter-slot-iterator.ensures.into_iter_gives.0 in
    (search rules, search rules, subst (λ (l : List (Slot g.row.J.Denot g.row.X.Denot)). All HasGiven l) (sym e) c.requires.gave, search rules)

pub unreachable-requires : goal.unreachable-requires
unreachable-requires g c =
    let e : into_iter_items c.loop-slot.slot-iterator ≡ c.in-Some.slot ∷ into_iter_items c.next.new.self = c.in-Some.ensures.steps.0 in
    let each : All HasGiven (c.in-Some.slot ∷ into_iter_items c.next.new.self) = subst (λ (l : List (Slot g.row.J.Denot g.row.X.Denot)). All HasGiven l) e c.loop-slot.invariant.2 in
    let one : HasGiven c.in-Some.slot = All-head HasGiven c.in-Some.slot (into_iter_items c.next.new.self) each in
    c.in_default.not-Gave one.0 one.1

pub loop-slot-preserved : goal.loop-slot-preserved
loop-slot-preserved g c =
    let e : into_iter_items c.loop-slot.slot-iterator ≡ c.in-Some.slot ∷ into_iter_items c.next.new.self = c.in-Some.ensures.steps.0 in
    let each : All HasGiven (c.in-Some.slot ∷ into_iter_items c.next.new.self) = subst (λ (l : List (Slot g.row.J.Denot g.row.X.Denot)). All HasGiven l) e c.loop-slot.invariant.2 in (
      given_more c.args.slots.items c.loop-slot.outs.items c.push_reserved.new.self.items c.in-Some.slot (into_iter_items c.next.new.self) c.in-Gave.out (rw e at c.loop-slot.invariant.0) c.in-Gave.is c.push_reserved.ensures.items,
      search rules,
      All-tail HasGiven c.in-Some.slot (into_iter_items c.next.new.self) each,
      search rules,
    )
