use Rattle.std.proofs.Common.{◌≡◌, ◌∙◌, ◌<◌, ap, arith, subst, sym, ℕ}
use Rattle.std.proofs.lemmas.Bool.{lt-ltb, ltb-true}
use Rattle.cs_index.specs.contracts.indexes.Index.{the_view}
use Rattle.cs_index.specs.State.{id_number, index_of}
use Rattle.cs_index.proofs.Weights.{weight_counted}
use Rattle.law_machine.specs.Geometry.{weigh_in}
use Rattle.law_machine.specs.Index.{weight, weight_with}
use Rattle.cs_index.proofs.indexes.Index.is_full_for.Goals as goal
use Rattle.cs_index.proofs.indexes.Index.is_full_for.Goals.{After-sum_after}

pub sum_after-requires-clause-less : goal.sum_after-requires-clause-less
sum_after-requires-clause-less c =
    let last = rw (← c.self.view_is) at c.lookup.ensures.last in
    weight_counted (weigh_in c.self.inside.format) (index_of (the_view c.self.inside)) (id_number c.args.id) c.self.inside.weight c.standing_of-before.result.weight c.self.invariant.weighs
    (c.standing_of-before.ensures.weighs ∙ ap (weight (weigh_in c.self.inside.format)) last)

pub sum_after-requires-clause-fits : goal.sum_after-requires-clause-fits
sum_after-requires-clause-fits c = omega (arith, c.self.invariant.weighs, c.self.invariant.whole.weight_fits, c.self.invariant.small, c.entry_weight-now.ensures.small)

then_weighs : (c : After-sum_after) → c.sum_after.result ≡ weight_with (weigh_in c.self.inside.format) (index_of (the_view c.self.inside)) (id_number c.args.id) c.args.chunks
then_weighs c =
    let last = rw (← c.self.view_is) at c.lookup.ensures.last in
    omega (arith, c.sum_after.ensures, c.self.invariant.weighs, c.standing_of-before.ensures.weighs ∙ ap (weight (weigh_in c.self.inside.format)) last, c.entry_weight-now.ensures.value)

pub returns : goal.returns
returns c =
    let same = then_weighs (goal.at.returns c).After-sum_after in
    rw (← c.self.view_is) (
      (λ full. subst (λ (n : ℕ). c.self.inside.limit < n) same (ltb-true _ _ full)),
      (λ over. lt-ltb _ _ (subst (λ (n : ℕ). c.self.inside.limit < n) (sym same) over)),
    )
