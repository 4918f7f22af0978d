use Rattle.std.proofs.Common.{◌≡◌, ◌∙◌, ℕ, sym, subst, List, [], ◌∷◌, length, refl, inr, rules}
use Rattle.std.specs.Prelude.{AllPairs}
use Rattle.std.proofs.lemmas.Option.{slice_get_read}
use Rattle.serde_json.specs.Data.{string}
use Rattle.serde_json.specs.View.{view}
use Rattle.cs_check.specs.Faults.{Blames}
use Rattle.cs_check.specs.Names.{AreLetters, IsLetter}
use Rattle.cs_check.specs.Documents.{letters_data}
use Rattle.cs_check.proofs.ValueSteps.{read_next, converted_all, no_item, same_letters}
use Rattle.cs_check.proofs.values.letters.Goals as goal

pub loop-i-preserved : goal.loop-i-preserved
loop-i-preserved c =
    let values = c.in_ok-values.values.now in
    let at = slice_get_read values (length values) c.loop-i.i c.index-values-i.result refl c.loop-i-test.true c.index-values-i.is in
    let next = read_next (λ (n : ℕ). string (n ∷ [])) IsLetter values c.loop-i.i c.index-values-i.result c.loop-i.letters.items c.push.new.self.items c.in_ok-letter.letter at c.in_ok-letter.ensures.ok.0 c.in_ok-letter.ensures.ok.1 c.in_ok-push.ensures.items c.loop-i.invariant.each c.loop-i.invariant.values in
    record { each = next.0; values = next.1 }

pub returns-in_err-letter-clause-err : goal.returns-in_err-letter-clause-err
returns-in_err-letter-clause-err c =
    let values = c.in_ok-values.values.now in
    let at = slice_get_read values (length values) c.loop-i.i c.index-values-i.result refl c.loop-i-test.true c.index-values-i.is in
    let blame : Blames c.in_err-letter.field-0.0 ((letters : List ℕ) × AreLetters letters × (view c.args.value.now ≡ letters_data letters)) =
    inr (c.in_err-letter.ensures.err.0, λ p. no_item (λ (n : ℕ). string (n ∷ [])) IsLetter values c.loop-i.i c.index-values-i.result (view c.args.value.now) c.in_ok-values.ensures.ok at c.in_err-letter.ensures.err.1 p.0 p.1.0 p.2) in
    search rules

pub returns-else-are_distinct-clause-err : goal.returns-else-are_distinct-clause-err
returns-else-are_distinct-clause-err c = inr (
  refl,
  λ p.
      let read = converted_all (λ (n : ℕ). string (n ∷ [])) c.in_ok-values.values.now c.loop-i.i c.loop-i.letters.items (view c.args.value.now) c.in_ok-values.ensures.ok c.loop-i-test.false c.loop-i.invariant.values in
      let same : c.loop-i.letters.items ≡ p.0 = same_letters c.loop-i.letters.items p.0 (sym read ∙ p.2) in
      let distinct = subst (λ (xs : List ℕ). AllPairs (λ a b. a ≡ b → ⊥) xs) (sym same ∙ sym c.deref.ensures.value) p.1.1 in
      absurd (cc (c.are_distinct.ensures.1 distinct, c.if-are_distinct.false)),
)
