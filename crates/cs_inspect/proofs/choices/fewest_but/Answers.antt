use Rattle.std.proofs.Common.{◌+◌, subst, sym}
use Rattle.cs_inspect.proofs.Seeking.{IsFewestTo, fewest_kept, fewest_of_all, fewest_taken}
use Rattle.cs_inspect.proofs.choices.fewest_but.Goals as goal
use Rattle.cs_inspect.proofs.choices.fewest_but.Goals.{else-is_fewer, then-is_fewer}

pub loop-extent-preserved : goal.loop-extent-preserved
loop-extent-preserved c =
    let uses = c.args.uses.now in
    let e = c.loop-extent.extent in
    let found = c.loop-extent.found in
    elim c.if-is_fewer.branch [
      | then-is_fewer w ↦ subst (IsFewestTo uses c.args.but c.args.dead (e + 1)) (sym w.found-is) (fewest_taken uses c.args.but c.args.dead e found c.loop-extent.invariant w.if-is_fewer.ensures)
      | else-is_fewer w ↦ subst (IsFewestTo uses c.args.but c.args.dead (e + 1)) (sym w.found-is) (fewest_kept uses c.args.but c.args.dead e found c.loop-extent.invariant w.if-is_fewer.ensures)
    ]

pub returns : goal.returns
returns c = fewest_of_all c.args.uses.now c.args.but c.args.dead c.loop-extent.extent c.loop-extent.found c.loop-extent-test.false c.loop-extent.invariant
