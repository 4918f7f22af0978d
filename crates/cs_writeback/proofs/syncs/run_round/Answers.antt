use Rattle.cs_writeback.proofs.Runs.{ran_call, ran_then}
use Rattle.cs_writeback.proofs.Turned.{begin_refused, begun_is_out, part_refused, turn_from}
use Rattle.cs_writeback.proofs.syncs.run_round.Goals as goal

pub finish_round-requires : goal.finish_round-requires
finish_round-requires g c =
    begun_is_out g.D.PageDisk c.in-Ok-Begun.round c.args.core.now c.ask.new.core c.in-Ok-Begun.field-0 c.in-Ok-Begun.field-0-is c.in-Ok-Begun.ensures.done

pub returns-in-Ok-finish_round-clause-done : goal.returns-in-Ok-finish_round-clause-done
returns-in-Ok-finish_round-clause-done g c =
    turn_from g.D.PageDisk c.in-Ok-Begun.round c.args.core.now c.ask.new.core c.finish_round.new.core c.in-Ok-Begun.field-0 c.in-Ok-Begun.field-0-is c.in-Ok-Begun.ensures.done c.in-Ok-finish_round.field-0 c.in-Ok-finish_round.ensures.done

pub returns-in-Err-finish_round-clause-refused : goal.returns-in-Err-finish_round-clause-refused
returns-in-Err-finish_round-clause-refused g c =
    part_refused g.D.PageDisk c.in-Ok-Begun.round c.args.core.now c.ask.new.core c.finish_round.new.core c.in-Ok-Begun.field-0 c.in-Err-finish_round.refusal c.in-Ok-Begun.field-0-is c.in-Ok-Begun.ensures.done c.in-Err-finish_round.ensures.refused

pub returns-in-Err-clause-refused : goal.returns-in-Err-clause-refused
returns-in-Err-clause-refused g c =
    begin_refused g.D.PageDisk c.args.core.now c.ask.new.core c.in-Err.refusal c.requires.none_out c.requires.waits c.in-Err.ensures.refused

pub returns-in-Ok-finish_round-clause-ran : goal.returns-in-Ok-finish_round-clause-ran
returns-in-Ok-finish_round-clause-ran g c =
    ran_then g.D.PageDisk c.args.core.now c.ask.new.core c.finish_round.new.core (ran_call g.D.PageDisk c.args.core.now c.ask.new.core c.ask.ensures.call) c.finish_round.ensures.ran

pub returns-in-Err-finish_round-clause-ran : goal.returns-in-Err-finish_round-clause-ran
returns-in-Err-finish_round-clause-ran g c =
    ran_then g.D.PageDisk c.args.core.now c.ask.new.core c.finish_round.new.core (ran_call g.D.PageDisk c.args.core.now c.ask.new.core c.ask.ensures.call) c.finish_round.ensures.ran

pub returns-in-Err-clause-ran : goal.returns-in-Err-clause-ran
returns-in-Err-clause-ran g c = ran_call g.D.PageDisk c.args.core.now c.ask.new.core c.ask.ensures.call
