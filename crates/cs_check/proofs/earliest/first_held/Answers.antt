use Rattle.std.proofs.Common.{◌≡◌, ◌+◌, ◌-◌, List, length, arith, refl, subst, sym}
use Rattle.std.proofs.lemmas.Option.{slice_get_read}
use Rattle.cs_deps.specs.declared.elements.Element.{Element}
use Rattle.cs_deps.specs.View.{pending_of}
use Rattle.cs_check.specs.Progress.{AreHeld, Marks, elements_of}
use Rattle.cs_check.proofs.Places.{elements_at}
use Rattle.cs_check.proofs.Held.{held_next}
use Rattle.cs_check.proofs.earliest.first_held.Goals as goal

pub loop-after-preserved : goal.loop-after-preserved
loop-after-preserved c =
    let g = pending_of c.args.view.now in
    let rounds = elements_of c.args.rounds.now in
    let i = length c.args.rounds.now - 1 - c.loop-after.after in
    let at = elements_at c.args.rounds.now i c.index-rounds-i.result (slice_get_read c.args.rounds.now (length c.args.rounds.now) i c.index-rounds-i.result refl (omega arith) c.index-rounds-i.is) in
    let older : length c.args.rounds.now - c.loop-after.after ≡ i + 1 = omega arith in
    let newer : length c.args.rounds.now - (c.loop-after.after + 1) ≡ i = omega arith in
    let before = subst (λ n. AreHeld g rounds n c.loop-after.firsts.items) older c.loop-after.invariant in
    let marks = subst (λ (xs : List Element). Marks g xs i c.loop-after.firsts.items c.mark.new.firsts.items) c.deref.ensures.value c.mark.ensures in
    subst (λ n. AreHeld g rounds n c.mark.new.firsts.items) (sym newer) (held_next g rounds i c.index-rounds-i.result.items c.loop-after.firsts.items c.mark.new.firsts.items at before marks)
