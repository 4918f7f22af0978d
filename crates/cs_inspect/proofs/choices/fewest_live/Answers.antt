use Rattle.std.proofs.Common.{Some}
use Rattle.cs_inspect.proofs.Seeking.{fewest_other, no_other, none_at_all, none_other, two_fit, two_too_many}
use Rattle.cs_inspect.proofs.choices.fewest_live.Goals as goal

pub returns-in_default : goal.returns-in_default
returns-in_default c = none_at_all c.args.uses.now c.args.last c.args.pages (none_other c.args.uses.now c.args.last c.in_default.ensures)

pub returns-in_default-fewest_but : goal.returns-in_default-fewest_but
returns-in_default-fewest_but c =
    let uses = c.args.uses.now in
    let extent = c.in-Some.extent in
    no_other uses c.args.last c.args.pages extent (fewest_other uses c.args.last extent c.in-Some.ensures) (none_other uses (Some extent) c.in_default-fewest_but.ensures)

pub returns-then-fit_on_one : goal.returns-then-fit_on_one
returns-then-fit_on_one c =
    let uses = c.args.uses.now in
    let extent = c.in-Some.extent in
    two_fit uses c.args.last c.args.pages extent (fewest_other uses c.args.last extent c.in-Some.ensures) c.in-Some-fewest_but.other
    (fewest_other uses (Some extent) c.in-Some-fewest_but.other c.in-Some-fewest_but.ensures) _ _ (c.fit_on_one.ensures.0 c.if-fit_on_one.true)

pub returns-else-fit_on_one : goal.returns-else-fit_on_one
returns-else-fit_on_one c =
    let uses = c.args.uses.now in
    let extent = c.in-Some.extent in
    two_too_many uses c.args.last c.args.pages extent (fewest_other uses c.args.last extent c.in-Some.ensures) c.in-Some-fewest_but.other
    (fewest_other uses (Some extent) c.in-Some-fewest_but.other c.in-Some-fewest_but.ensures) _ _ c.fit_on_one.result c.if-fit_on_one.false c.fit_on_one.ensures
