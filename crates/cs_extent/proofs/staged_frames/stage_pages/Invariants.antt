use Rattle.std.proofs.Common.{◌≡◌, ◌+◌, ◌≤◌}
use Rattle.cs_extent.specs.Frames.{ArePagesStaged, AreWritten, IsNextPlain, AddsOnlyOf}
use Rattle.cs_extent.proofs.staged_frames.stage_pages.Given as goal

abbrev pub invariant-loop-i : goal.invariant-loop-i
invariant-loop-i l = record {
  staged : ArePagesStaged l.initial.graph.staging l.graph.staging l.i l.root;
  writes : AreWritten l.graph l.initial.graph.staging.staged l.i (λ i. l.first + i) l.frame;
  others : AddsOnlyOf l.initial.graph l.graph (IsNextPlain l.initial.graph.staging l.i);
  round : l.graph.round ≡ l.initial.graph.round;
  left : l.initial.graph.room ≤ l.graph.room + l.i;
}
