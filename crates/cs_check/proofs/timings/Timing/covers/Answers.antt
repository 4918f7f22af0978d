use Rattle.std.proofs.Common.{ℕ, subst, sym}
use Rattle.std.proofs.lemmas.List.{length-map}
use Rattle.cs_deps.specs.View.{pending_of}
use Rattle.cs_check.specs.Progress.{elements_of, AllBefore}
use Rattle.cs_check.proofs.Covered.{covers_from, covers_to}
use Rattle.cs_check.proofs.timings.Timing.covers.Goals as goal

pub returns-then-is_known : goal.returns-then-is_known
returns-then-is_known c =
    let g = pending_of c.args.self.now.view.now in
    let rounds = elements_of c.args.self.now.rounds.now in
    let count = length-map c.args.self.now.rounds.now (λ round. round.items) in (
      (λ yes. covers_from g c.requires.timed.listing c.args.latest.now c.requires.latest rounds c.args.self.now.firsts.now c.requires.timed.firsts c.args.target.now (c.is_known.ensures.0 c.if-is_known.true)
          (subst (λ (n : ℕ). AllBefore g c.args.self.now.firsts.now c.args.target.now n) (sym count) (c.are_before.ensures.0 yes))),
      (λ covers. c.are_before.ensures.1
          (subst (λ (n : ℕ). AllBefore g c.args.self.now.firsts.now c.args.target.now n) count
          (covers_to g c.requires.timed.listing c.args.latest.now c.requires.latest rounds c.requires.schedule c.args.self.now.firsts.now c.requires.timed.firsts c.args.target.now covers).1)),
    )

pub returns-else-is_known : goal.returns-else-is_known
returns-else-is_known c = (
  (λ yes. absurd (cc (yes, c.if-is_known.false))),
  (λ covers. absurd (cc (c.is_known.ensures.1 (covers_to (pending_of c.args.self.now.view.now) c.requires.timed.listing c.args.latest.now c.requires.latest (elements_of c.args.self.now.rounds.now) c.requires.schedule c.args.self.now.firsts.now c.requires.timed.firsts c.args.target.now covers).0, c.if-is_known.false))),
)
