use Rattle.std.proofs.Common.{◌≡◌, inl, inr}
use Rattle.cs_writeback.specs.Syncs.{MayRefuseSync, StopsSync}
use Rattle.cs_writeback.proofs.DueRefusals.{sync_refuses}
use Rattle.cs_writeback.proofs.Runs.{ran_call, ran_then}
use Rattle.cs_writeback.proofs.SyncSteps.{if_same, none_staged, rounds_refused, stage_refused, written}
use Rattle.cs_writeback.proofs.syncs.sync.Goals as goal

pub returns-in_err-end_round-clause-stopped : goal.returns-in_err-end_round-clause-stopped
returns-in_err-end_round-clause-stopped g c =
    if_same c.from_residual.result (λ r. StopsSync g.D.PageDisk c.args.core.now r c.end_round.new.core) c.in_err-end_round.field-0.0 c.from_residual.ensures.1 (inl c.in_err-end_round.ensures.refused)

pub returns-in_err-end_round-clause-refusals : goal.returns-in_err-end_round-clause-refusals
returns-in_err-end_round-clause-refusals g c =
    if_same c.from_residual.result MayRefuseSync c.in_err-end_round.field-0.0 c.from_residual.ensures.1
    (sync_refuses g.D.PageDisk c.args.core.now c.end_round.new.core c.in_err-end_round.field-0.0 (inl c.in_err-end_round.ensures.refused))

pub returns-in_err-ask-clause-stopped : goal.returns-in_err-ask-clause-stopped
returns-in_err-ask-clause-stopped g c =
    if_same c.from_residual-in_err-ask.result (λ r. StopsSync g.D.PageDisk c.args.core.now r c.ask.new.core) c.in_err-ask.field-0.0 c.from_residual-in_err-ask.ensures.1
    (inr (stage_refused g.D.PageDisk c.args.core.now c.end_round.new.core c.ask.new.core c.in_ok-end_round.field-0 c.in_err-ask.field-0.0 c.in_ok-end_round.ensures.done c.in_err-ask.ensures.refused))

pub returns-in_err-ask-clause-ran : goal.returns-in_err-ask-clause-ran
returns-in_err-ask-clause-ran g c =
    ran_then g.D.PageDisk c.args.core.now c.end_round.new.core c.ask.new.core c.end_round.ensures.ran (ran_call g.D.PageDisk c.end_round.new.core c.ask.new.core c.ask.ensures.call)

pub write_rounds-requires : goal.write_rounds-requires
write_rounds-requires g c =
    let e = c.in_ok-ask.ensures in
    none_staged g.D.PageDisk c.args.core.now c.end_round.new.core c.ask.new.core c.in_ok-end_round.field-0 c.in_ok-ask.field-0 c.in_ok-end_round.ensures.done e.done e.answers e.no_refusal

pub returns-in-Ok-clause-done : goal.returns-in-Ok-clause-done
returns-in-Ok-clause-done g c =
    let e = c.in_ok-ask.ensures in
    let done = c.in-Ok.ensures.done in (
      written g.D.PageDisk c.args.core.now c.end_round.new.core c.ask.new.core c.write_rounds.new.core c.in_ok-end_round.field-0 c.in_ok-ask.field-0 done.0 c.in_ok-end_round.ensures.done e.done e.answers e.no_refusal done.2 c.in-Ok.ensures.none,
      c.frontier.ensures,
    )

pub returns-in-Ok-clause-ran : goal.returns-in-Ok-clause-ran
returns-in-Ok-clause-ran g c =
    ran_then g.D.PageDisk c.args.core.now c.ask.new.core c.write_rounds.new.core
    (ran_then g.D.PageDisk c.args.core.now c.end_round.new.core c.ask.new.core c.end_round.ensures.ran (ran_call g.D.PageDisk c.end_round.new.core c.ask.new.core c.ask.ensures.call))
    c.write_rounds.ensures.ran

pub returns-in-Err-Refused-clause-stopped : goal.returns-in-Err-Refused-clause-stopped
returns-in-Err-Refused-clause-stopped g c =
    let e = c.in_ok-ask.ensures in
    rounds_refused g.D.PageDisk (λ before number round after. after ≡ before) c.args.core.now c.end_round.new.core c.ask.new.core c.write_rounds.new.core tt c.write_rounds.new.told c.in_ok-end_round.field-0 c.in_ok-ask.field-0
    c.in-Err-Refused.field-0 c.in-Err-Refused.refusal c.in-Err-Refused.field-0-is c.in_ok-end_round.ensures.done e.done e.answers e.no_refusal c.in-Err-Refused.ensures.stopped

pub returns-in-Err-Refused-clause-refusals : goal.returns-in-Err-Refused-clause-refusals
returns-in-Err-Refused-clause-refusals g c =
    sync_refuses g.D.PageDisk c.args.core.now c.write_rounds.new.core c.in-Err-Refused.refusal (returns-in-Err-Refused-clause-stopped g c)

pub returns-in-Err-Refused-clause-ran : goal.returns-in-Err-Refused-clause-ran
returns-in-Err-Refused-clause-ran g c =
    ran_then g.D.PageDisk c.args.core.now c.ask.new.core c.write_rounds.new.core
    (ran_then g.D.PageDisk c.args.core.now c.end_round.new.core c.ask.new.core c.end_round.ensures.ran (ran_call g.D.PageDisk c.end_round.new.core c.ask.new.core c.ask.ensures.call))
    c.write_rounds.ensures.ran
