use Rattle.std.proofs.Common.{rules}
use Rattle.cs_deps.specs.View.{pending_of, rounds_of}
use Rattle.cs_check.proofs.Bound.{passes_of, respects_from, fewest_from}
use Rattle.cs_check.proofs.verdicts.check.Goals as goal

pub returns-in_err-test-clause-failed : goal.returns-in_err-test-clause-failed
returns-in_err-test-clause-failed c = rw (← c.deref.ensures.value) (rw (← c.deref-2.ensures.value) (search rules))

pub returns-clause-passes : goal.returns-clause-passes
returns-clause-passes c = passes_of (pending_of c.args.view.now) c.args.target.now _ _ _ _ c.deref.ensures.value c.deref-2.ensures.value c.in_ok-test.ensures.passes

pub returns-clause-schedule : goal.returns-clause-schedule
returns-clause-schedule c = let passes = passes_of (pending_of c.args.view.now) c.args.target.now _ _ _ _ c.deref.ensures.value c.deref-2.ensures.value c.in_ok-test.ensures.passes in passes.well_formed.schedule

pub returns-clause-covers : goal.returns-clause-covers
returns-clause-covers c = let passes = passes_of (pending_of c.args.view.now) c.args.target.now _ _ _ _ c.deref.ensures.value c.deref-2.ensures.value c.in_ok-test.ensures.passes in passes.covers

pub returns-clause-respects : goal.returns-clause-respects
returns-clause-respects c = let passes = passes_of (pending_of c.args.view.now) c.args.target.now _ _ _ _ c.deref.ensures.value c.deref-2.ensures.value c.in_ok-test.ensures.passes in respects_from (pending_of c.args.view.now) (rounds_of c.args.plan.now) passes.in_time

pub returns-clause-fewest : goal.returns-clause-fewest
returns-clause-fewest c = let passes = passes_of (pending_of c.args.view.now) c.args.target.now _ _ _ _ c.deref.ensures.value c.deref-2.ensures.value c.in_ok-test.ensures.passes in fewest_from (pending_of c.args.view.now) c.args.target.now (rounds_of c.args.plan.now) c.args.plan.now.chain.items passes
