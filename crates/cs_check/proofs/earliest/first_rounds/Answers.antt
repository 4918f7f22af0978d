use Rattle.std.proofs.Common.{◌≡◌, ◌+◌, ◌-◌, length, arith, refl, subst, sym}
use Rattle.std.proofs.lemmas.Option.{slice_get_read}
use Rattle.cs_deps.specs.View.{pending_of}
use Rattle.cs_check.specs.Progress.{AreSpread, elements_of}
use Rattle.cs_check.proofs.Held.{spread_next, firsts_from}
use Rattle.cs_check.proofs.earliest.first_rounds.Goals as goal

pub loop-after-preserved : goal.loop-after-preserved
loop-after-preserved c =
    let g = pending_of c.args.view.now in
    let rounds = elements_of c.args.rounds.now in
    let items = c.args.view.now.waiting.items in
    let k = c.len-in-loop-after.result - 1 - c.loop-after.after in
    let at = slice_get_read items (length items) k c.index.result.now refl (omega arith) c.index.ensures in
    let older : length items - c.loop-after.after ≡ k + 1 = omega arith in
    let newer : length items - (c.loop-after.after + 1) ≡ k = omega arith in
    let before = subst (λ n. AreSpread g rounds n c.loop-after.firsts.items c.loop-after.families.items) older c.loop-after.invariant in
    subst (λ n. AreSpread g rounds n c.lower.new.firsts.items c.lower.new.families.items) (sym newer)
    (spread_next g c.requires.listing rounds k c.index.result.now.0 c.index.result.now.1 c.loop-after.firsts.items c.lower.new.firsts.items c.loop-after.families.items c.lower.new.families.items at c.lower.ensures before)

pub returns : goal.returns
returns c =
    let items = c.args.view.now.waiting.items in
    let none : length items - c.loop-after.after ≡ 0 = omega arith in
    firsts_from (pending_of c.args.view.now) c.requires.listing (elements_of c.args.rounds.now) c.requires.schedule c.loop-after.firsts.items c.loop-after.families.items
    (subst (λ n. AreSpread (pending_of c.args.view.now) (elements_of c.args.rounds.now) n c.loop-after.firsts.items c.loop-after.families.items) none c.loop-after.invariant)
