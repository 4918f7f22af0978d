use Rattle.std.specs.Prelude.{◌≡◌, ◌-◌, ◌^◌, count_by, min, take}
use Rattle.cs_twin.specs.Findings.{is_halved}
use Rattle.cs_tools.proofs.Counting.{IsCountOf}
use Rattle.cs_tools.proofs.pages.count_passed_over.Given as goal

abbrev pub invariant-loop-finding : goal.invariant-loop-finding
invariant-loop-finding l = record {
  none : IsCountOf (take l.finding-index l.findings) l.count;
  all : l.count ≡ min (count_by is_halved (take l.finding-index l.findings)) (2 ^ 64 - 1);
}
