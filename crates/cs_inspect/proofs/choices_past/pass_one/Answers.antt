use Rattle.std.proofs.Common.{false}
use Rattle.cs_inspect.proofs.Passing.{pass_past, pass_set}
use Rattle.cs_inspect.proofs.choices_past.pass_one.Goals as goal

pub returns-then-extent-uses : goal.returns-then-extent-uses
returns-then-extent-uses c = pass_set c.args.uses.now c.args.extent
    (record { pointer = 0; generation = 0; is_open = false; is_swept = false; holds_runs = false; live = 0; unreadable = 0 }) c.if-extent-uses.true

pub returns-else-extent-uses : goal.returns-else-extent-uses
returns-else-extent-uses c = pass_past c.args.uses.now c.args.extent c.if-extent-uses.false
