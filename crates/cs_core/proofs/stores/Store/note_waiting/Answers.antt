use Rattle.std.proofs.Common.{◌≡◌, inl, inr, ⊎_elim, ◌∙◌, ℕ, None, refl, subst, sym}
use Rattle.std.specs.Prelude.{IsSome}
use Rattle.std.proofs.lemmas.Result.{on_ok_weaker}
use Rattle.cs_frame.specs.declared.locators.Locator.{Locator}
use Rattle.cs_core.specs.Known.{IsGiven}
use Rattle.cs_core.specs.Lengths.{noted_at, noted_then}
use Rattle.cs_core.specs.Stored.{Stored}
use Rattle.cs_core.proofs.Known.{noted_said}
use Rattle.cs_core.proofs.NotedChunks.{either_way, noted_place, noted_stays}
use Rattle.cs_core.proofs.stores.Store.note_waiting.Goals as goal

pub returns-then-not-is_given-clause-noted : goal.returns-then-not-is_given-clause-noted
returns-then-not-is_given-clause-noted c = λ image view are. ((λ there. absurd (cc (c.if-not-is_given.ensures.1 there.given))), tt)

pub returns-in-None-clause-noted : goal.returns-in-None-clause-noted
returns-in-None-clause-noted c = rw (← c.self.view_is) (λ image view are. (
  (λ there. ⊎_elim (λ (some : IsSome {T = ℕ} None). absurd (cc some)) (λ none. inr none)
      (c.in-None.ensures.there image view are there.passes)),
  tt,
))

pub returns-in-Some-clause-said : goal.returns-in-Some-clause-said
returns-in-Some-clause-said c = rw (← c.self.view_is)
    (noted_said c.self.inside.extents c.self.inside.graph c.args.lengths.now c.note.new.self c.args.place c.in-Some.count
    (either_way c.note.result c.note.ensures.ok c.note.ensures.err) (record {
      given = subst (λ (s : Stored). IsGiven s.extents c.args.place) (sym c.self.view_is) (c.if-not-is_given.ensures.0 refl);
      fits = c.in-Some.ensures.size;
      said = c.in-Some.ensures.said;
    }))

pub returns-in-Some-clause-noted : goal.returns-in-Some-clause-noted
returns-in-Some-clause-noted c = rw (← c.self.view_is) (on_ok_weaker c.note.result
    (λ (noted : (l : Locator) → noted_at c.note.new.self l ≡ noted_then (noted_at c.args.lengths.now) c.args.place c.in-Some.count l) image view are. (
      (λ there. inl (noted_place c.self.inside.extents view c.args.lengths.now c.note.new.self c.args.place c.in-Some.count noted (c.in-Some.ensures.said image view are).says)),
      tt,
    ))
    c.note.ensures.ok)

pub returns-in-Some-clause-stay : goal.returns-in-Some-clause-stay
returns-in-Some-clause-stay c = rw (← c.self.view_is) (λ image view are l there was.
    let said = c.in-Some.ensures.said image view are in
    ⊎_elim
    (λ (noted : (l : Locator) → noted_at c.note.new.self l ≡ noted_then (noted_at c.args.lengths.now) c.args.place c.in-Some.count l).
    noted_stays c.self.inside.extents view c.args.lengths.now c.note.new.self c.args.place c.in-Some.count noted said.says (record {
      given = subst (λ (s : Stored). IsGiven s.extents c.args.place) (sym c.self.view_is) (c.if-not-is_given.ensures.0 refl);
      passes = said.passes;
    }) l there was)
    (λ (same : (l : Locator) → noted_at c.note.new.self l ≡ noted_at c.args.lengths.now l). same l ∙ was)
    (either_way c.note.result c.note.ensures.ok c.note.ensures.err))
