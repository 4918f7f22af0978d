use Rattle.std.proofs.Common.{◌≡◌, ◌+◌, ◌≤◌, drop, min}
use Rattle.std.specs.Prelude.{◌↔◌, IsTrue}
use Rattle.cs_node.specs.Numbers.{AreNumbers, lacking}
use Rattle.cs_node.specs.Tallies.{AreFrom, lacking_from}
use Rattle.cs_node.proofs.accounting.account.Given as goal

abbrev pub invariant-loop-stretch : goal.invariant-loop-stretch
invariant-loop-stretch l = record {
  whole : (IsTrue l.tally.is_whole × AreFrom l.tally.seen l.most (drop l.stretch-index l.stretch-items)) ↔ AreNumbers l.most l.fn.stretches.items;
  missing : l.tally.missing + lacking_from l.tally.seen l.most (drop l.stretch-index l.stretch-items) ≡ lacking l.most l.fn.stretches.items;
  fits : l.tally.missing ≤ min l.tally.seen l.most;
}
