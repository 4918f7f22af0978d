use Rattle.std.proofs.Common.{◌≡◌, ◌≤◌}
use Rattle.std.specs.Prelude.{◌↔◌}
use Rattle.cs_core.specs.Started.{AreNewWritten, TakesNew}
use Rattle.cs_core.proofs.core_openings.write_sections.Given as goal

abbrev pub invariant-loop-k : goal.invariant-loop-k
invariant-loop-k g l = record {
  honesty : g.D.PageDisk.honest l.fn.disk ↔ g.D.PageDisk.honest l.disk;
  size : g.D.PageDisk.page_count l.disk ≡ g.D.PageDisk.page_count l.fn.disk;
  failures : g.D.PageDisk.failure_count l.fn.disk ≤ g.D.PageDisk.failure_count l.disk;
  written : g.D.PageDisk.honest l.fn.disk
      → AreNewWritten l.geometry.format l.geometry.extents l.geometry.pages l.geometry.sections l.k (g.D.PageDisk.state l.fn.disk) (g.D.PageDisk.state l.disk);
  taken : g.D.PageDisk.honest l.fn.disk → g.D.PageDisk.sound l.fn.disk → TakesNew g.D.PageDisk l.geometry.format l.geometry.extents l.geometry.pages l.geometry.sections 0 l.fn.disk
      → g.D.PageDisk.refusal_count l.disk ≡ g.D.PageDisk.refusal_count l.fn.disk;
  rest : g.D.PageDisk.honest l.fn.disk → g.D.PageDisk.sound l.fn.disk → TakesNew g.D.PageDisk l.geometry.format l.geometry.extents l.geometry.pages l.geometry.sections 0 l.fn.disk
      → g.D.PageDisk.sound l.disk × TakesNew g.D.PageDisk l.geometry.format l.geometry.extents l.geometry.pages l.geometry.sections l.k l.disk;
}
