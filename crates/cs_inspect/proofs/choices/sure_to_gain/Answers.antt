use Rattle.std.proofs.Common.{refl}
use Rattle.cs_inspect.proofs.Brim.{is_sure, none_sought, not_sure, nothing_lives}
use Rattle.cs_inspect.proofs.choices.sure_to_gain.Goals as goal

pub returns-in_default : goal.returns-in_default
returns-in_default c = none_sought c.args.uses.now c.args.pages c.args.greatest c.in_default.ensures

pub returns-then-live-eq0 : goal.returns-then-live-eq0
returns-then-live-eq0 c = nothing_lives c.args.uses.now c.args.pages c.args.greatest c.in-Some.extent c.in-Some.ensures _ _ refl c.if-live-eq0.true

pub returns-then-is_at_most : goal.returns-then-is_at_most
returns-then-is_at_most c = is_sure c.args.uses.now c.args.pages c.args.greatest c.in-Some.extent c.in-Some.ensures _ _ refl c.if-live-eq0.false
    (c.if-is_at_most.ensures _ c.sure_beside.ensures)

pub returns-else-is_at_most : goal.returns-else-is_at_most
returns-else-is_at_most c = not_sure c.args.uses.now c.args.pages c.args.greatest c.in-Some.extent c.in-Some.ensures _ _ refl
    (c.if-is_at_most.ensures _ c.sure_beside.ensures)
