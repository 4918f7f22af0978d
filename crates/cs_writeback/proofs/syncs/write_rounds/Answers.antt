use Rattle.std.proofs.Common.{◌+◌, List, subst}
use Rattle.cs_deps.specs.declared.elements.Element.{Element}
use Rattle.cs_writeback.specs.declared.syncs.Stop.TheVariants.{Refused}
use Rattle.cs_writeback.specs.Syncs.{StopsInRounds}
use Rattle.cs_writeback.proofs.Runs.{ran_then}
use Rattle.cs_writeback.proofs.SyncSteps.{if_same, no_rounds, none_between, none_left, not_so_many, so_far_more, stops_in_rounds}
use Rattle.cs_writeback.proofs.syncs.write_rounds.Goals as goal

pub loop-ended-init : goal.loop-ended-init
loop-ended-init g c = no_rounds g.D.PageDisk g.O.Observer.tells c.args.core.now c.args.told.now

pub returns-then-not-has_waiting-clause-done : goal.returns-then-not-has_waiting-clause-done
returns-then-not-has_waiting-clause-done g c =
    let so = c.loop-ended.invariant in
    (so.turns, so.counted, so.went, so.told)

pub returns-then-not-has_waiting-clause-none : goal.returns-then-not-has_waiting-clause-none
returns-then-not-has_waiting-clause-none g c = none_left c.loop-ended.core.store.graph.staging.pending.waiting c.has_waiting.result c.has_waiting.ensures c.if-not-has_waiting.true

pub returns-then-not-has_waiting-clause-ran : goal.returns-then-not-has_waiting-clause-ran
returns-then-not-has_waiting-clause-ran g c = c.loop-ended.invariant.ran

pub run_round-requires-clause-none_out : goal.run_round-requires-clause-none_out
run_round-requires-clause-none_out g c =
    none_between g.D.PageDisk g.O.Observer.tells c.args.core.now c.loop-ended.core c.args.told.now c.loop-ended.told c.loop-ended.ended c.requires c.loop-ended.invariant

pub returns-in_err-round-clause-stopped : goal.returns-in_err-round-clause-stopped
returns-in_err-round-clause-stopped g c =
    let before = c.args.told.now in
    let after = c.loop-ended.told in
    if_same c.from_residual.result (StopsInRounds g.D.PageDisk g.O.Observer.tells c.args.core.now c.run_round.new.core before after) (Refused c.in_err-round.field-0.0) c.from_residual.ensures.1
    (stops_in_rounds g.D.PageDisk g.O.Observer.tells c.args.core.now c.loop-ended.core c.run_round.new.core before after c.loop-ended.ended c.in_err-round.field-0.0 c.loop-ended.invariant c.in_err-round.ensures.refused)

pub returns-in_err-round-clause-ran : goal.returns-in_err-round-clause-ran
returns-in_err-round-clause-ran g c =
    ran_then g.D.PageDisk c.args.core.now c.loop-ended.core c.run_round.new.core c.loop-ended.invariant.ran c.run_round.ensures.ran

pub returns-in-Err-clause-ran : goal.returns-in-Err-clause-ran
returns-in-Err-clause-ran g c =
    ran_then g.D.PageDisk c.args.core.now c.loop-ended.core c.run_round.new.core c.loop-ended.invariant.ran c.run_round.ensures.ran

pub loop-ended-preserved : goal.loop-ended-preserved
loop-ended-preserved g c =
    so_far_more g.D.PageDisk g.O.Observer.tells c.args.core.now c.loop-ended.core c.run_round.new.core c.args.told.now c.loop-ended.told c.tell.new.told c.loop-ended.ended c.in_ok-round.round c.loop-ended.invariant c.in_ok-round.ensures.done c.run_round.ensures.ran
    (subst (λ (l : List Element). g.O.Observer.tells c.loop-ended.told (c.loop-ended.ended + 1) l c.tell.new.told) c.as_slice.ensures c.in_default.ensures)

pub unreachable-requires : goal.unreachable-requires
unreachable-requires g c =
    not_so_many g.D.PageDisk g.O.Observer.tells c.args.core.now c.loop-ended.core c.args.told.now c.loop-ended.told c.loop-ended.ended c.base.result c.history.result.now c.loop-ended.invariant
    c.base.ensures.base c.base.ensures.fits c.history.ensures.kept c.history.type_inv.0 c.loop-ended-test.false
