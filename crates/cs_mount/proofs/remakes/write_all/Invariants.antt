use Rattle.std.proofs.Common.{◌≡◌, ◌≤◌, take}
use Rattle.std.specs.Prelude.{◌↔◌}
use Rattle.cs_mount.specs.Makings.{LeavesSome, after_writes}
use Rattle.cs_mount.proofs.remakes.write_all.Given as goal

abbrev pub invariant-loop-k : goal.invariant-loop-k
invariant-loop-k g l = record {
  honesty : g.D.PageDisk.honest l.fn.disk ↔ g.D.PageDisk.honest l.disk;
  size : g.D.PageDisk.page_count l.disk ≡ g.D.PageDisk.page_count l.fn.disk;
  failures : g.D.PageDisk.failure_count l.fn.disk ≤ g.D.PageDisk.failure_count l.disk;
  written : g.D.PageDisk.honest l.fn.disk → g.D.PageDisk.state l.disk ≡ after_writes (g.D.PageDisk.state l.fn.disk) (take l.k l.pages);
  some : g.D.PageDisk.honest l.fn.disk → LeavesSome g.D.PageDisk l.fn.disk l.disk (take l.k l.pages);
}
