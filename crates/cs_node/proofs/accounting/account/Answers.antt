use Rattle.std.proofs.Common.{get_or, refl, arith, rules}
use Rattle.std.specs.List.Sorted.{IsNonDecreasingBy, IsPermutation}
use Rattle.std.proofs.lemmas.List.Sorted.{IsNonDecreasingBy-from_sort_by_key}
use Rattle.cs_node.specs.declared.stretches.Stretch.{Stretch}
use Rattle.cs_node.specs.Numbers.{AreNumbers, lacking}
use Rattle.cs_node.proofs.Accounted.{missing_at_first, missing_at_last, missing_at_next, whole_at_first, whole_at_last, whole_at_next}
use Rattle.cs_node.proofs.accounting.account.Goals as goal

abbrev none : Stretch
none = record { first = 0; last = 0 }

pub loop-stretch-init : goal.loop-stretch-init
loop-stretch-init c =
    let moved : IsPermutation c.args.stretches.items c.deref-stretch-items.result.now = rw c.deref-stretch-items.ensures.value c.sort_unstable_by_key.ensures.permutation in
    record {
      whole = whole_at_first c.args.most c.args.stretches.items c.deref-stretch-items.result.now moved;
      missing = omega (arith, missing_at_first c.args.most c.args.stretches.items c.deref-stretch-items.result.now moved);
      fits = omega arith;
    }

pub loop-stretch-preserved : goal.loop-stretch-preserved
loop-stretch-preserved c =
    let up : IsNonDecreasingBy (λ s. s.first) c.sort_unstable_by_key.new.self.items = IsNonDecreasingBy-from_sort_by_key (λ s. s.first) _ c.sort_unstable_by_key.ensures.sorted (λ a r q k. search rules) in
    let in_order : IsNonDecreasingBy (λ s. s.first) c.deref-stretch-items.result.now = rw c.deref-stretch-items.ensures.value up in
    record {
      whole = whole_at_next c.args.most c.deref-stretch-items.result.now c.loop-stretch.stretch-index (get_or c.deref-stretch-items.result.now c.loop-stretch.stretch-index none) none in_order c.loop-stretch-test.true refl (AreNumbers c.args.most c.args.stretches.items) c.loop-stretch.tally.seen c.after-tally.result.seen c.loop-stretch.tally.is_whole c.after-tally.result.is_whole c.after-tally.ensures.whole c.loop-stretch.invariant.whole;
      missing = missing_at_next c.args.most c.deref-stretch-items.result.now c.loop-stretch.stretch-index (get_or c.deref-stretch-items.result.now c.loop-stretch.stretch-index none) none in_order c.loop-stretch-test.true refl (lacking c.args.most c.args.stretches.items) c.loop-stretch.tally.seen c.after-tally.result.seen c.loop-stretch.tally.missing c.after-tally.result.missing c.after-tally.ensures.missing c.loop-stretch.invariant.missing;
      fits = c.after-tally.ensures.fits;
    }

pub returns-clause-whole : goal.returns-clause-whole
returns-clause-whole c = whole_at_last c.args.most c.deref-stretch-items.result.now c.loop-stretch.stretch-index (AreNumbers c.args.most c.args.stretches.items) c.loop-stretch.tally.seen c.loop-stretch.tally.is_whole c.if-tally.result (omega arith) (search rules) c.loop-stretch.invariant.whole

pub returns-clause-missing : goal.returns-clause-missing
returns-clause-missing c = rw c.saturating_sub.ensures (missing_at_last c.args.most c.deref-stretch-items.result.now c.loop-stretch.stretch-index (lacking c.args.most c.args.stretches.items) c.loop-stretch.tally.seen c.loop-stretch.tally.missing (omega arith) c.loop-stretch.invariant.missing)
