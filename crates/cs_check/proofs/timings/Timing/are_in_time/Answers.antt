use Rattle.std.proofs.Common.{◌∙◌, ◌≡◌, ℕ, List, ap, get_or, length, arith, refl, subst, sym}
use Rattle.std.specs.Global.{Global}
use Rattle.std.specs.Prelude.{All, Vec}
use Rattle.std.proofs.lemmas.List.{length-map}
use Rattle.std.proofs.lemmas.Option.{slice_get_within, slice_get_read}
use Rattle.cs_deps.specs.declared.elements.Element.{Element}
use Rattle.cs_deps.specs.View.{pending_of}
use Rattle.cs_check.specs.Progress.{elements_of, NeedsBefore}
use Rattle.cs_check.proofs.Places.{each_next, elements_at}
use Rattle.cs_check.proofs.Covered.{in_time_from, in_time_to}
use Rattle.cs_check.proofs.timings.Timing.are_in_time.Goals as goal

-- the elements of a round, as they are read from the list of rounds
value_is : (rounds : List (Vec Element Global)) (i : ℕ) (round : Vec Element Global) (xs : List Element) → xs ≡ (get_or rounds i round).items → round ≡ get_or rounds i round → xs ≡ round.items
value_is rounds i round xs value is = value ∙ ap (λ (r : Vec Element Global). r.items) (sym is)

pub loop-i-preserved : goal.loop-i-preserved
loop-i-preserved c =
    let at = elements_at c.args.self.now.rounds.now c.loop-i.i c.index-self-i.result (slice_get_read c.args.self.now.rounds.now (length c.args.self.now.rounds.now) c.loop-i.i c.index-self-i.result refl c.loop-i-test.true c.index-self-i.is) in
    each_next (λ k xs. All (λ x. NeedsBefore (pending_of c.args.self.now.view.now) c.args.self.now.firsts.now x k) xs) (elements_of c.args.self.now.rounds.now) c.loop-i.i c.index-self-i.result.items at
    (subst (λ (xs : List Element). All (λ x. NeedsBefore (pending_of c.args.self.now.view.now) c.args.self.now.firsts.now x c.loop-i.i) xs) (value_is c.args.self.now.rounds.now c.loop-i.i c.index-self-i.result c.deref.result.now c.deref.ensures.value c.index-self-i.is) (c.is_in_time.ensures.0 c.if-not-is_in_time.false))
    c.loop-i.invariant

pub returns-then-not-is_in_time : goal.returns-then-not-is_in_time
returns-then-not-is_in_time c =
    let at = elements_at c.args.self.now.rounds.now c.loop-i.i c.index-self-i.result (slice_get_read c.args.self.now.rounds.now (length c.args.self.now.rounds.now) c.loop-i.i c.index-self-i.result refl c.loop-i-test.true c.index-self-i.is) in (
      (λ e. cc e),
      (λ in_time. absurd (cc (
        c.is_in_time.ensures.1 (subst (λ (xs : List Element). All (λ x. NeedsBefore (pending_of c.args.self.now.view.now) c.args.self.now.firsts.now x c.loop-i.i) xs) (sym (value_is c.args.self.now.rounds.now c.loop-i.i c.index-self-i.result c.deref.result.now c.deref.ensures.value c.index-self-i.is))
            (in_time_to (pending_of c.args.self.now.view.now) c.requires.timed.listing (elements_of c.args.self.now.rounds.now) c.args.self.now.firsts.now c.requires.timed.firsts in_time c.loop-i.i c.index-self-i.result.items at)),
        c.if-not-is_in_time.true,
      ))),
    )

pub returns : goal.returns
returns c = (
  (λ _. in_time_from (pending_of c.args.self.now.view.now) c.requires.timed.listing (elements_of c.args.self.now.rounds.now) c.args.self.now.firsts.now c.requires.timed.firsts
      (λ k xs at. c.loop-i.invariant k xs (omega (arith, length-map c.args.self.now.rounds.now (λ round. round.items), slice_get_within (elements_of c.args.self.now.rounds.now) k xs at)) at)),
  (λ _. refl),
)
