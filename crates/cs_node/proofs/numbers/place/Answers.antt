use Rattle.std.proofs.Common.{◌≡◌, ap, insert, arith}
use Rattle.cs_node.specs.Numbers.{times}
use Rattle.cs_node.proofs.Times.{times-insert}
use Rattle.cs_node.proofs.numbers.place.Goals as goal

pub returns-clause-gains : goal.returns-clause-gains
returns-clause-gains c x =
    let inserted : c.insert.new.self.items ≡ insert c.args.stretches.now.items c.partition_point-at.result c.args.stretch = rw (c.insert.ensures.succeeds c.requires.room) at c.insert.ensures.items in
    omega (arith, c.join-2.ensures.same x, c.join.ensures.same x, ap (times x) inserted, times-insert x c.args.stretches.now.items c.partition_point-at.result c.args.stretch)
