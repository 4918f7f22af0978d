use Rattle.std.proofs.Common.{arith}
use Rattle.std.proofs.lemmas.Option.{slice_get-get_or}
use Rattle.cs_deps.specs.declared.elements.Element.TheVariants.{Plain}
use Rattle.cs_check.specs.Progress.{number_of}
use Rattle.cs_check.proofs.RunSteps.{run_one, run_next, run_whole}
use Rattle.cs_check.proofs.name_runs.last_of_run.Goals as goal

pub loop-i-init : goal.loop-i-init
loop-i-init c = run_one c.args.elements.now c.args.head c.requires

pub loop-i-preserved : goal.loop-i-preserved
loop-i-preserved c = run_next c.args.elements.now c.loop-i.i (number_of c.args.head) c.loop-i.last _ (slice_get-get_or c.args.elements.now c.loop-i.i (Plain 0) c.loop-i-test.true) (c.follows.ensures.0 c.if-not-follows.false) c.loop-i.invariant

pub returns : goal.returns
returns c = run_whole c.args.elements.now c.loop-i.i (number_of c.args.head) c.loop-i.last (omega arith) c.loop-i.invariant
