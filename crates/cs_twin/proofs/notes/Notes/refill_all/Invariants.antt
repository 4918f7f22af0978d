use Rattle.std.proofs.Common.{◌≡◌, ◌≤◌, ◌↔◌, []}
use Rattle.cs_twin.specs.Fitting.{IsFit}
use Rattle.cs_twin.specs.Noted.{AreNotes, AreRight, IsUndoubted, failed, refused_of}
use Rattle.cs_twin.specs.Pairs.{shown}
use Rattle.cs_twin.proofs.MendingAll.{AreFilledTo, LeavesShown}
use Rattle.cs_twin.proofs.notes.Notes.refill_all.Given as goal

abbrev pub invariant-loop-k : goal.invariant-loop-k
invariant-loop-k g l = record {
  laid : g.D.PageDisk.honest l.fn.disk → AreFilledTo (g.R.PageRules.version l.rules) (λ q. g.met.R.PageRules.fence_is_none l.rules q) l.filling l.pairs (g.D.PageDisk.state l.fn.disk).durable (g.D.PageDisk.state l.disk).durable l.k;
  settled : g.D.PageDisk.honest l.fn.disk → (g.D.PageDisk.state l.disk).volatile ≡ [];
  shown : g.D.PageDisk.honest l.fn.disk → shown (g.R.PageRules.version l.rules) l.pairs (g.D.PageDisk.state l.disk).durable ≡ shown (g.R.PageRules.version l.rules) l.pairs (g.D.PageDisk.state l.fn.disk).durable;
  fit : g.D.PageDisk.honest l.fn.disk → IsFit g.R.PageRules l.rules l.pairs (g.D.PageDisk.page_count l.fn.disk) (g.D.PageDisk.state l.fn.disk) → IsFit g.R.PageRules l.rules l.pairs (g.D.PageDisk.page_count l.fn.disk) (g.D.PageDisk.state l.disk);
  crash : g.D.PageDisk.honest l.fn.disk → LeavesShown g.D.PageDisk (g.R.PageRules.version l.rules) l.pairs l.fn.disk l.disk;
  honest : g.D.PageDisk.honest l.fn.disk ↔ g.D.PageDisk.honest l.disk;
  pages : g.D.PageDisk.page_count l.disk ≡ g.D.PageDisk.page_count l.fn.disk;
  notes : AreNotes l.pairs l.self;
  right : g.D.PageDisk.honest l.disk → AreRight (g.R.PageRules.version l.rules) l.pairs l.self (g.D.PageDisk.state l.disk);
  failures : failed (g.D.PageDisk.failure_count l.fn.disk) l.fn.self ≤ failed (g.D.PageDisk.failure_count l.disk) l.self;
  refused : refused_of l.self ≡ refused_of l.fn.self;
  sound : IsUndoubted l.fn.self → IsUndoubted l.self;
}
