use Rattle.std.proofs.Common.{rules, suc, subst}
use Rattle.cs_refusal.specs.declared.refusals.Refusal.{Refusal}
use Rattle.cs_node.specs.Locks.{WhileLocked}
use Rattle.cs_node.specs.Sweeps.{IsSweepRefused}
use Rattle.cs_node.proofs.Sweeping.{turn_falls}
use Rattle.cs_node.proofs.reclaimers.Reclaimer.run.Goals as goal

pub returns-in-Err-Halted-clause-refused : goal.returns-in-Err-Halted-clause-refused
returns-in-Err-Halted-clause-refused g c =
    let w = subst (λ (r : Refusal). WhileLocked g.D.PageDisk g.K.Naming.start (λ old new. IsSweepRefused g.D.PageDisk old c.loop.self r new c.turn.new.self)) c.in-Err-Halted.field-0-is c.in-Err-Halted.ensures in
    (w.0, w.1, w.2, (c.loop.self, w.3))

pub returns-in-Err-HistoryFull-clause-refused : goal.returns-in-Err-HistoryFull-clause-refused
returns-in-Err-HistoryFull-clause-refused g c =
    let w = subst (λ (r : Refusal). WhileLocked g.D.PageDisk g.K.Naming.start (λ old new. IsSweepRefused g.D.PageDisk old c.loop.self r new c.turn.new.self)) c.in-Err-HistoryFull.field-0-is c.in-Err-HistoryFull.ensures in
    (w.0, w.1, w.2, (c.loop.self, w.3))

pub returns-in-Err-Halted-clause-turns : goal.returns-in-Err-Halted-clause-turns
returns-in-Err-Halted-clause-turns g c = let t = c.loop.invariant.3 in (suc t.0, (c.loop.self, t.1, (c.turn.result, c.turn.ensures)))

pub returns-in-Err-HistoryFull-clause-turns : goal.returns-in-Err-HistoryFull-clause-turns
returns-in-Err-HistoryFull-clause-turns g c = let t = c.loop.invariant.3 in (suc t.0, (c.loop.self, t.1, (c.turn.result, c.turn.ensures)))

pub returns-in-Err-Halted-clause-left : goal.returns-in-Err-Halted-clause-left
returns-in-Err-Halted-clause-left g c = turn_falls g.D.PageDisk g.K.Naming.start c.loop.self c.turn.new.self c.turn.result c.args.self.now.left c.turn.ensures c.loop.invariant.2

pub returns-in-Err-HistoryFull-clause-left : goal.returns-in-Err-HistoryFull-clause-left
returns-in-Err-HistoryFull-clause-left g c = turn_falls g.D.PageDisk g.K.Naming.start c.loop.self c.turn.new.self c.turn.result c.args.self.now.left c.turn.ensures c.loop.invariant.2

pub loop-preserved-in-Ok-Idle : goal.loop-preserved-in-Ok-Idle
loop-preserved-in-Ok-Idle g c = (
  search rules,
  search rules,
  turn_falls g.D.PageDisk g.K.Naming.start c.loop.self c.turn.new.self c.turn.result c.args.self.now.left c.turn.ensures c.loop.invariant.2,
  (let t = c.loop.invariant.3 in (suc t.0, (c.loop.self, t.1, (c.turn.result, c.turn.ensures)))),
)

pub loop-preserved-in-Ok : goal.loop-preserved-in-Ok
loop-preserved-in-Ok g c = (
  search rules,
  search rules,
  turn_falls g.D.PageDisk g.K.Naming.start c.loop.self c.turn.new.self c.turn.result c.args.self.now.left c.turn.ensures c.loop.invariant.2,
  (let t = c.loop.invariant.3 in (suc t.0, (c.loop.self, t.1, (c.turn.result, c.turn.ensures)))),
)

pub loop-preserved : goal.loop-preserved
loop-preserved g c = (
  search rules,
  search rules,
  turn_falls g.D.PageDisk g.K.Naming.start c.loop.self c.turn.new.self c.turn.result c.args.self.now.left c.turn.ensures c.loop.invariant.2,
  (let t = c.loop.invariant.3 in (suc t.0, (c.loop.self, t.1, (c.turn.result, c.turn.ensures)))),
)
