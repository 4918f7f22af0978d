use Rattle.std.proofs.Common.{arith}
use Rattle.cs_index.proofs.Tallies.{one_outside, set_less}
use Rattle.cs_index.proofs.counts.take_one.Goals as goal

pub returns-then-on-extent-clause-each : goal.returns-then-on-extent-clause-each
returns-then-on-extent-clause-each c = λ e lt. omega (arith, one_outside c.args.on.now c.args.extent c.if-on-extent.true e lt)

pub returns-clause-each : goal.returns-clause-each
returns-clause-each c = λ e lt. set_less c.args.on.now c.args.extent c.if-on-extent.false (c.requires c.if-on-extent.false) e
