use Rattle.std.proofs.Common.{◌≡◌, ◌≤◌}
use Rattle.std.specs.Prelude.{◌↔◌}
use Rattle.cs_mount.specs.Makings.{LeavesSome, after_writes, halves_up_to}
use Rattle.cs_mount.proofs.makings.write_others.Given as goal

abbrev pub invariant-loop-section : goal.invariant-loop-section
invariant-loop-section g l = record {
  honesty : g.D.PageDisk.honest l.fn.disk ↔ g.D.PageDisk.honest l.disk;
  size : g.D.PageDisk.page_count l.disk ≡ g.D.PageDisk.page_count l.fn.disk;
  failures : g.D.PageDisk.failure_count l.fn.disk ≤ g.D.PageDisk.failure_count l.disk;
  begun : 1 ≤ l.section;
  written : g.D.PageDisk.honest l.fn.disk → g.D.PageDisk.state l.disk ≡ after_writes (g.D.PageDisk.state l.fn.disk) (halves_up_to l.geometry l.section);
  some : g.D.PageDisk.honest l.fn.disk → LeavesSome g.D.PageDisk l.fn.disk l.disk (halves_up_to l.geometry l.section);
}
