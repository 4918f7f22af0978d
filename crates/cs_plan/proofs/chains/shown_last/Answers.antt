use Rattle.std.proofs.Common.{◌∙◌, length, sym, ap}
use Rattle.cs_plan.proofs.Lowered.{last_of}
use Rattle.cs_plan.proofs.Queued.{none_left}
use Rattle.cs_plan.proofs.chains.shown_last.Goals as goal

pub follow-requires-clause-height : goal.follow-requires-clause-height
follow-requires-clause-height c = c.requires.last c.in-Some.end c.in-Some.ensures.some

pub returns-in-Some-clause-last : goal.returns-in-Some-clause-last
returns-in-Some-clause-last c = last_of c.args.rounds.now c.in-Some.end c.in-Some.ensures.some c.follow.result c.follow.ensures.last

pub returns-in-None-clause-count : goal.returns-in-None-clause-count
returns-in-None-clause-count c = ap length c.new.ensures.items ∙ sym (none_left c.args.rounds.now c.requires.full (c.first_of_last.ensures.none c.in-None.is))
