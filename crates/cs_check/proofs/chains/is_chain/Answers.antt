use Rattle.std.proofs.Common.{◌≡◌, ℕ, ◌<◌, ⊎_elim, arith, refl, subst, sym}
use Rattle.cs_deps.specs.View.{pending_of}
use Rattle.cs_deps.proofs.Within.{below_next}
use Rattle.cs_check.specs.Progress.{IsLink}
use Rattle.cs_check.proofs.Linked.{chain_from, chain_to}
use Rattle.cs_check.proofs.chains.is_chain.Goals as goal

pub loop-i-preserved : goal.loop-i-preserved
loop-i-preserved c = λ j lt.
    ⊎_elim
    (λ (l : j < c.loop-i.i). c.loop-i.invariant j l)
    (λ (s : j ≡ c.loop-i.i). subst (λ (i : ℕ). IsLink (pending_of c.args.view.now) c.args.target.now c.args.chain.now i) (sym s) (c.is_link.ensures.0 c.if-not-is_link.false))
    (below_next j c.loop-i.i lt)

pub returns-then-not-is_link : goal.returns-then-not-is_link
returns-then-not-is_link c = (
  (λ e. cc e),
  (λ chain. absurd (cc (c.is_link.ensures.1 (chain_to (pending_of c.args.view.now) c.args.target.now c.args.chain.now chain c.loop-i.i c.loop-i-test.true), c.if-not-is_link.true))),
)

pub returns : goal.returns
returns c = ((λ _. chain_from (pending_of c.args.view.now) c.args.target.now c.args.chain.now c.requires.waits (λ i lt. c.loop-i.invariant i (omega arith))), (λ _. refl))
