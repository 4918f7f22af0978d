use Rattle.std.proofs.Common.{List, length, arith, refl, subst, sym}
use Rattle.std.specs.Prelude.{All}
use Rattle.std.proofs.lemmas.List.{length-map}
use Rattle.std.proofs.lemmas.Option.{slice_get_within, slice_get_read}
use Rattle.cs_deps.specs.declared.elements.Element.{Element}
use Rattle.cs_deps.specs.View.{pending_of}
use Rattle.cs_deps.specs.Pending.{Waits}
use Rattle.cs_check.specs.Listing.{IsOnce}
use Rattle.cs_check.specs.Progress.{elements_of}
use Rattle.cs_check.proofs.Places.{each_next, elements_at, rounds_from, at_from}
use Rattle.cs_check.proofs.plans.are_rounds.Goals as goal

pub returns-then-not-all_wait : goal.returns-then-not-all_wait
returns-then-not-all_wait c =
    let at = elements_at c.args.rounds.now c.loop-i.i c.index-rounds-i.result (slice_get_read c.args.rounds.now (length c.args.rounds.now) c.loop-i.i c.index-rounds-i.result refl c.loop-i-test.true c.index-rounds-i.is) in
    ((λ e. cc e), (λ both. absurd (cc (c.all_wait.ensures.1 (subst (λ (xs : List Element). All (Waits (pending_of c.args.view.now)) xs) (sym c.deref.ensures.value) (at_from (λ (xs : List Element). All (Waits (pending_of c.args.view.now)) xs) (elements_of c.args.rounds.now) c.loop-i.i c.index-rounds-i.result.items both.0 at)), c.if-not-all_wait.true))))

pub returns-then-not-once : goal.returns-then-not-once
returns-then-not-once c =
    let at = elements_at c.args.rounds.now c.loop-i.i c.index-rounds-i.result (slice_get_read c.args.rounds.now (length c.args.rounds.now) c.loop-i.i c.index-rounds-i.result refl c.loop-i-test.true c.index-rounds-i.is) in
    ((λ e. cc e), (λ both. absurd (cc (c.in_ok-once.ensures.1 (subst (λ (xs : List Element). IsOnce xs) (sym c.deref-in-loop-i.ensures.value) (at_from IsOnce (elements_of c.args.rounds.now) c.loop-i.i c.index-rounds-i.result.items both.1 at)), c.if-not-once.true))))

pub loop-i-preserved : goal.loop-i-preserved
loop-i-preserved c =
    let at = elements_at c.args.rounds.now c.loop-i.i c.index-rounds-i.result (slice_get_read c.args.rounds.now (length c.args.rounds.now) c.loop-i.i c.index-rounds-i.result refl c.loop-i-test.true c.index-rounds-i.is) in
    each_next (λ _ xs. All (Waits (pending_of c.args.view.now)) xs × IsOnce xs) (elements_of c.args.rounds.now) c.loop-i.i c.index-rounds-i.result.items at (
      subst (λ (xs : List Element). All (Waits (pending_of c.args.view.now)) xs) c.deref.ensures.value (c.all_wait.ensures.0 c.if-not-all_wait.false),
      subst (λ (xs : List Element). IsOnce xs) c.deref-in-loop-i.ensures.value (c.in_ok-once.ensures.0 c.if-not-once.false),
    )
    c.loop-i.invariant

pub returns : goal.returns
returns c = (
  (λ _. rounds_from (pending_of c.args.view.now) (elements_of c.args.rounds.now) (λ k xs at. c.loop-i.invariant k xs (omega (arith, length-map c.args.rounds.now (λ round. round.items), slice_get_within (elements_of c.args.rounds.now) k xs at)) at)),
  (λ _. refl),
)
