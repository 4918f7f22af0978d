use Rattle.std.proofs.Common.{◌≡◌, refl, subst}
use Rattle.cs_tools.specs.Reclaims.{Emptied, PassedOver, StopsEmptying, Tries}
use Rattle.cs_tools.specs.declared.emptyings.Tried.{Tried}
use Rattle.cs_tools.proofs.Emptying.{passed_on, refused_so}
use Rattle.cs_tools.proofs.Resting.{ok_then}
use Rattle.cs_tools.proofs.emptyings.empty_or_pass.Goals as goal

pub returns-in_err-tried-clause-stopped : goal.returns-in_err-tried-clause-stopped
returns-in_err-tried-clause-stopped g c =
    let start = g.W.Write.contents c.args.writer.now in
    let stop = c.in_err-tried.field-0.0 in
    let stops = StopsEmptying g.D.PageDisk c.args.choice.extent c.args.core.now c.sweep_or_give_up.new.core in
    passed_on (λ r. stops r × (start ≡ start)) c.from_residual.result stop c.from_residual.ensures.1 (refused_so stops (λ r. stops r × (start ≡ start)) (λ r it. (it, refl)) stop c.in_err-tried.ensures.stopped)

-- ---- it is emptied, or passed over

pub returns-in_ok-printed-in-Emptied-clause-handles : goal.returns-in_ok-printed-in-Emptied-clause-handles
returns-in_ok-printed-in-Emptied-clause-handles g c =
    let extent = c.args.choice.extent in
    let empties = subst (λ (t : Tried). Tries g.D.PageDisk extent t c.args.core.now c.sweep_or_give_up.new.core) c.in-Emptied.is c.in_ok-tried.ensures.tries in
    (refl, (Emptied extent, refl, (c.in-Emptied.moved, empties, ok_then c.print_emptied.result _ c.in_ok-printed-in-Emptied.ensures.done c.print_emptied.ensures), refl))

pub returns-in_ok-printed-in-GivenUp-clause-handles : goal.returns-in_ok-printed-in-GivenUp-clause-handles
returns-in_ok-printed-in-GivenUp-clause-handles g c =
    let extent = c.args.choice.extent in
    let passes = subst (λ (t : Tried). Tries g.D.PageDisk extent t c.args.core.now c.sweep_or_give_up.new.core) c.in-GivenUp.is c.in_ok-tried.ensures.tries in
    (refl, (PassedOver extent, refl, (c.in-GivenUp.refusal, passes, ok_then c.print_passed_over.result _ c.in_ok-printed-in-GivenUp.ensures.done c.print_passed_over.ensures), c.push_reserved.ensures.items))
