use Rattle.std.proofs.Common.{List, ℕ, arith, subst, sym}
use Rattle.std.proofs.lemmas.List.{length-map}
use Rattle.cs_deps.specs.View.{pending_of}
use Rattle.cs_check.specs.Progress.{elements_of, AreFirsts}
use Rattle.cs_check.proofs.verdicts.test.Goals as goal

pub covers-requires-clause-timed : goal.covers-requires-clause-timed
covers-requires-clause-timed c = record {
  listing = c.in_ok-latest.ensures.ok.0.elements;
  firsts = subst (λ (xs : List ℕ). AreFirsts (pending_of c.args.view.now) (elements_of c.args.rounds.now) xs) (sym c.as_slice.ensures.value) c.in-Ok.ensures;
}

pub are_in_time-requires : goal.are_in_time-requires
are_in_time-requires c = record {
  timed = record {
    listing = c.in_ok-latest.ensures.ok.0.elements;
    firsts = subst (λ (xs : List ℕ). AreFirsts (pending_of c.args.view.now) (elements_of c.args.rounds.now) xs) (sym c.as_slice.ensures.value) c.in-Ok.ensures;
  };
}

pub returns-then-not-is_chain-clause-failed : goal.returns-then-not-is_chain-clause-failed
returns-then-not-is_chain-clause-failed c = (
  c.in_ok-latest.ensures.ok.0,
  c.is_nested.ensures.0 c.if-not-is_nested.false,
  c.covers.ensures.0 c.if-not-covers.false,
  c.are_in_time.ensures.0 c.if-not-are_in_time.false,
  (λ chain. absurd (cc (c.is_chain.ensures.1 chain, c.if-not-is_chain.true))),
)

pub returns-then-chain-rounds-clause-failed : goal.returns-then-chain-rounds-clause-failed
returns-then-chain-rounds-clause-failed c = (
  c.in_ok-latest.ensures.ok.0,
  c.is_nested.ensures.0 c.if-not-is_nested.false,
  c.covers.ensures.0 c.if-not-covers.false,
  c.are_in_time.ensures.0 c.if-not-are_in_time.false,
  c.is_chain.ensures.0 c.if-not-is_chain.false,
  (λ le. absurd (omega (arith, le, c.if-chain-rounds.true, length-map c.args.rounds.now (λ round. round.items)))),
)

pub returns-clause-passes : goal.returns-clause-passes
returns-clause-passes c = record {
  well_formed = c.in_ok-latest.ensures.ok.0;
  nested = c.is_nested.ensures.0 c.if-not-is_nested.false;
  covers = c.covers.ensures.0 c.if-not-covers.false;
  in_time = c.are_in_time.ensures.0 c.if-not-are_in_time.false;
  linked = c.is_chain.ensures.0 c.if-not-is_chain.false;
  long_enough = omega (arith, c.if-chain-rounds.false, length-map c.args.rounds.now (λ round. round.items));
}
