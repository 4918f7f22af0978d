use Rattle.std.proofs.Common.{◌≡◌, ◌∙◌, ◌+◌, ◌||◌, Bool, ap, eq-eqb, eqb-true, false, nat_eq, refl, sym, take, true, ℕ}
use Rattle.cs_index.specs.Copies.{newest_copies}
use Rattle.law_machine.specs.Apart.{any_copy_on}
use Rattle.cs_reclaim.proofs.Noted.{copied_more}
use Rattle.cs_reclaim.proofs.roots.any_copy_on.Goals as goal
use Rattle.cs_reclaim.proofs.roots.any_copy_on.Goals.{After-from, else-from-extent, then-from-extent}

other : (a b : ℕ) → (a ≡ b → ⊥) → nat_eq a b ≡ false
other a b not = split (nat_eq a b) refl
  where
    split : (c : Bool) → nat_eq a b ≡ c → nat_eq a b ≡ false
    split true is = absurd (not (eqb-true a b is))
    split false is = is

more : (c : After-from) → (nat_eq c.from.result c.args.extent || c.loop-k.found) ≡ any_copy_on (newest_copies (take (c.loop-k.k + 1) c.args.copies.now)) c.args.extent
more c = ap (λ (n : ℕ). nat_eq n c.args.extent || c.loop-k.found) c.from.ensures ∙ copied_more c.args.copies.now c.loop-k.k c.args.extent _ c.loop-k.found c.loop-k-test.true c.loop-k.invariant

pub loop-k-preserved : goal.loop-k-preserved
loop-k-preserved c =
    let is = more (goal.at.loop-k-preserved c).After-from in elim c.if-from-extent.branch [
      | then-from-extent w ↦ w.found-is ∙ eq-eqb c.from.result c.args.extent w.if-from-extent.true ∙ sym (ap (λ (b : Bool). b || c.loop-k.found) (eq-eqb c.from.result c.args.extent w.if-from-extent.true)) ∙ is
      | else-from-extent w ↦ w.found-is ∙ sym (ap (λ (b : Bool). b || c.loop-k.found) (other c.from.result c.args.extent w.if-from-extent.false)) ∙ is
    ]
