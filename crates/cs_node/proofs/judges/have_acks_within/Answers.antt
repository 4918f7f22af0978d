use Rattle.std.proofs.Common.{◌<◌, List, arith, below_more, length, rules, subst, sym}
use Rattle.std.specs.Prelude.{IsTrue, slice_index_or}
use Rattle.std.proofs.lemmas.List.Elements.{at_read}
use Rattle.cs_node.specs.Numbers.{Within}
use Rattle.cs_node.specs.Told.{Holdings}
use Rattle.cs_node.proofs.judges.have_acks_within.Goals as goal

pub loop-purse-preserved : goal.loop-purse-preserved
loop-purse-preserved g c =
    let ps : List Holdings = c.args.purses.now in
    let P : Holdings → Type 0 = λ h. Within c.args.most h.acks in
    let lt : c.loop-purse.purse-index < length ps = omega arith in
    let now : P c.purse-item.result = c.has_acks_within.ensures.0 c.if-not-has_acks_within.false in
    λ k d within. below_more (λ k. (d : Holdings) → P (slice_index_or ps k d)) c.loop-purse.purse-index (λ k lt d. c.loop-purse.invariant k d lt) (at_read ps P c.loop-purse.purse-index c.purse-item.result lt c.purse-item.is now) k within d

pub returns-then-not-has_acks_within : goal.returns-then-not-has_acks_within
returns-then-not-has_acks_within g c = (
  (λ t. absurd (cc)),
  (λ all.
      let P : Holdings → Type 0 = λ h. Within c.args.most h.acks in
      let lt : c.loop-purse.purse-index < length {A = Holdings} c.args.purses.now = omega arith in
      let here : P c.purse-item.result = subst P (sym c.purse-item.is) (all c.loop-purse.purse-index c.purse-item.result lt) in
      let yes : IsTrue c.has_acks_within.result = c.has_acks_within.ensures.1 here in
      let no = c.if-not-has_acks_within.true in
      cc),
)

pub returns : goal.returns
returns g c = ((λ t k d lt. c.loop-purse.invariant k d (omega arith)), (λ all. search rules))
