use Rattle.std.proofs.Common.{List, ℕ, subst, sym, refl, inr, arith}
use Rattle.cs_deps.specs.View.{pending_of}
use Rattle.cs_check.specs.Progress.{IsKnown}
use Rattle.cs_check.proofs.Covered.{known_listed, listed_known}
use Rattle.cs_check.proofs.texts.written.Goals as goal

pub returns-then-not-is_known-clause-bad : goal.returns-then-not-is_known-clause-bad
returns-then-not-is_known-clause-bad c = inr (
  refl,
  λ p.
      let ours = c.in_ok-latest.ensures.ok in
      let known = listed_known (pending_of c.args.view.now) ours.0.elements c.in_ok-latest.latest.items ours.1 c.args.target.now p.listed in
      absurd (cc (c.is_known.ensures.1 (subst (λ (xs : List ℕ). IsKnown c.args.target.now xs) (sym c.as_slice-latest.ensures.value) known), c.if-not-is_known.true)),
)

pub text-requires : goal.text-requires
text-requires c =
    let ours = c.in_ok-latest.ensures.ok in
    let known = subst (λ (xs : List ℕ). IsKnown c.args.target.now xs) c.as_slice-latest.ensures.value (c.is_known.ensures.0 c.if-not-is_known.false) in
    record {
      distinct = c.are_letters.ensures.0 c.if-not-are_letters.false;
      count = omega arith;
      well_formed = ours.0;
      listed = known_listed (pending_of c.args.view.now) ours.0.elements c.in_ok-latest.latest.items ours.1 c.args.target.now known;
    }

pub returns-in-Ok-clause-ok : goal.returns-in-Ok-clause-ok
returns-in-Ok-clause-ok c =
    let ours = c.in_ok-latest.ensures.ok in
    let known = subst (λ (xs : List ℕ). IsKnown c.args.target.now xs) c.as_slice-latest.ensures.value (c.is_known.ensures.0 c.if-not-is_known.false) in
    record {
      distinct = c.are_letters.ensures.0 c.if-not-are_letters.false;
      count = omega arith;
      well_formed = ours.0;
      listed = known_listed (pending_of c.args.view.now) ours.0.elements c.in_ok-latest.latest.items ours.1 c.args.target.now known;
    }
