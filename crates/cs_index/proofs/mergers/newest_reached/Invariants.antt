use Rattle.std.proofs.Common.{◌≡◌, ◌+◌, ◌-◌, ◌*◌, ◌^◌, ◌≤◌, length, take}
use Rattle.cs_index.specs.State.{newest_first}
use Rattle.law_machine.specs.Device.{Shape}
use Rattle.law_machine.specs.Merges.{reaching, sizes}
use Rattle.cs_index.proofs.mergers.newest_reached.Given as goal

abbrev pub invariant-loop-k : goal.invariant-loop-k
invariant-loop-k l = record {
  reach : (S : Shape) → S.most_runs ≡ l.most → reaching S (sizes (newest_first l.runs)) l.entries ≡ l.k + reaching S (sizes (newest_first (take (length l.runs - l.k) l.runs))) l.size;
  small : l.size ≤ l.entries + l.k * 2 ^ 32;
}
