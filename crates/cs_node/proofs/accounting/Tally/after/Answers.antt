use Rattle.std.proofs.Common.{◌∷◌, arith, rules}
use Rattle.cs_node.proofs.Tallied.{lacking_from-cons, lacking_from-same, skipped, taken, times-empty}
use Rattle.cs_node.proofs.accounting.Tally.after.Goals as goal

pub returns-then-stretch-clause-whole : goal.returns-then-stretch-clause-whole
returns-then-stretch-clause-whole c rest behind = skipped c.args.self.seen c.args.most c.args.stretch rest c.args.self.is_whole c.if-stretch.true

pub returns-then-stretch-clause-missing : goal.returns-then-stretch-clause-missing
returns-then-stretch-clause-missing c rest behind = omega (arith, lacking_from-same c.args.self.seen c.args.most (c.args.stretch ∷ rest) rest (times-empty c.args.stretch rest c.if-stretch.true))

pub returns-clause-whole : goal.returns-clause-whole
returns-clause-whole c rest behind = rw c.max.ensures (taken c.args.self.seen c.args.most c.args.stretch rest c.args.self.is_whole c.if-self.result c.if-stretch.false behind (search rules))

pub returns-clause-missing : goal.returns-clause-missing
returns-clause-missing c rest behind = rw c.max.ensures (omega (arith, lacking_from-cons c.args.self.seen c.args.most c.args.stretch rest c.if-stretch.false behind))
