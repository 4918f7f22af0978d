use Rattle.std.proofs.Common.{ℕ, length, arith, refl}
use Rattle.std.proofs.lemmas.Option.{slice_get_within, slice_get_read}
use Rattle.cs_check.specs.Names.{IsLetter}
use Rattle.cs_check.proofs.Places.{each_next, all_from, at_from}
use Rattle.cs_check.proofs.writings.all_letters.Goals as goal

pub loop-i-preserved : goal.loop-i-preserved
loop-i-preserved c = each_next (λ _ (x : ℕ). IsLetter x) c.args.letters.now c.loop-i.i _ (slice_get_read c.args.letters.now (length c.args.letters.now) c.loop-i.i c.index-letters-i.result refl c.loop-i-test.true c.index-letters-i.is) (c.is_letter.ensures.0 c.if-not-is_letter.false) c.loop-i.invariant

pub returns-then-not-is_letter : goal.returns-then-not-is_letter
returns-then-not-is_letter c = (
  (λ e. cc e),
  (λ all. absurd (cc (c.is_letter.ensures.1 (at_from IsLetter c.args.letters.now c.loop-i.i _ all (slice_get_read c.args.letters.now (length c.args.letters.now) c.loop-i.i c.index-letters-i.result refl c.loop-i-test.true c.index-letters-i.is)), c.if-not-is_letter.true))),
)

pub returns : goal.returns
returns c = ((λ _. all_from IsLetter c.args.letters.now (λ k x at. c.loop-i.invariant k x (omega (arith, slice_get_within c.args.letters.now k x at)) at)), (λ _. refl))
