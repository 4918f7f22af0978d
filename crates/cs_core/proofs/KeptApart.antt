-- What each step of a store keeps where chunks and runs lie apart.
use Rattle.std.proofs.Common.{◌≡◌, ◌∙◌, inl, inr, ℕ, ◌≤◌, Bool, true, false, List, length, sym, ap, subst, refl}
use Rattle.std.specs.Prelude.{◌==◌}
use Rattle.std.proofs.lemmas.Bool.{cases_eq, cond-false, cond-true, eq-eqb, ne_eqb}
use Rattle.cs_extent.specs.State.{State as ExtentsState, extents_of, shape}
use Rattle.cs_index.specs.State.{State as IndexState, index_of}
use Rattle.law_machine.specs.Device.{Inside, Shape}
use Rattle.law_machine.specs.Element.{Copy}
use Rattle.law_machine.specs.Extents.{Extents, marked}
use Rattle.law_machine.specs.Index.{live_at}
use Rattle.law_refinement.proofs.cs_reclaim.Copying.{up_to_same}
use Rattle.cs_core.specs.Stored.{IsKeptApart}

-- no extent is marked that wasn't, what lives is the same, and there are not too many runs
pub kept_apart_on : (x y : ExtentsState) (i j : IndexState) (copies : List Copy) → shape y ≡ shape x → ((e : ℕ) → (extents_of y).swept e ≡ true → (extents_of x).swept e ≡ true)
    → length j.runs ≤ (shape x).most_runs → ((id : ℕ) → live_at (index_of j) id ≡ live_at (index_of i) id) → IsKeptApart x i copies → IsKeptApart y j copies
kept_apart_on x y i j copies same fewer few live kept = record {
  runs = subst (λ (S : Shape). length j.runs ≤ S.most_runs) (sym same) few;
  one = λ d e is at. kept.one d e (fewer d is) (fewer e at);
  order = kept.order;
  up_to = λ e is. up_to_same (index_of i) (index_of j) copies e live (kept.up_to e (fewer e is));
  placed = λ c among. subst (λ (S : Shape). Inside S c.to.extent c.to.page) (sym same) (kept.placed c among);
  marks = kept.marks;
}

-- only the index's room changed
pub kept_apart_roomed : (x y : ExtentsState) (i j : IndexState) (copies : List Copy) → y ≡ x → j ≡ record i { room = j.room }
    → ((shape x).apart ≡ true → IsKeptApart x i copies) → (shape y).apart ≡ true → IsKeptApart y j copies
kept_apart_roomed x y i j copies same room kept rule = kept_apart_on x y i j copies (ap shape same) (λ e is. ap (λ (z : ExtentsState). (extents_of z).swept e) (sym same) ∙ is)
    (subst (λ (u : IndexState). length u.runs ≤ (shape x).most_runs) (sym room) (kept (ap (λ (z : ExtentsState). (shape z).apart) (sym same) ∙ rule)).runs)
    (λ id. ap (λ (u : IndexState). live_at (index_of u) id) room) (kept (ap (λ (z : ExtentsState). (shape z).apart) (sym same) ∙ rule))

-- an extent is marked by the other rule, or marked no longer
pub kept_apart_marked : (x y : ExtentsState) (i : IndexState) (copies : List Copy) (e : ℕ) (b : Bool) → shape y ≡ shape x → extents_of y ≡ marked (extents_of x) e b
    → (b ≡ true → (shape y).apart ≡ false) → ((shape x).apart ≡ true → IsKeptApart x i copies) → (shape y).apart ≡ true → IsKeptApart y i copies
kept_apart_marked x y i copies e true same extents other kept rule = absurd (let clash : false ≡ true = sym (other refl) ∙ rule in cc clash)
kept_apart_marked x y i copies e false same extents other kept rule =
    let before = kept (ap (λ (S : Shape). S.apart) (sym same) ∙ rule) in
    kept_apart_on x y i i copies same fewer before.runs (λ id. refl) before
  where
    fewer : (d : ℕ) → (extents_of y).swept d ≡ true → (extents_of x).swept d ≡ true
    fewer d is = elim (cases_eq d e) [
      | inl at ↦ absurd (let clash : false ≡ true = sym (ap (λ (u : Extents). u.swept d) extents ∙ cond-true (d == e) false ((extents_of x).swept d) (eq-eqb d e at)) ∙ is in cc clash)
      | inr away ↦ sym (ap (λ (u : Extents). u.swept d) extents ∙ cond-false (d == e) false ((extents_of x).swept d) (ne_eqb d e away)) ∙ is
    ]
