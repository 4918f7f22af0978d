-- What a tally comes to: at least what any identifier counts, and the same where the identifiers have the same.
use Rattle.std.proofs.Common.{◌≡◌, ◌≢◌, ◌↔◌, inl, inr, ℕ, suc, ◌+◌, ◌-◌, ◌≤◌, true, false, List, [], ◌∷◌, Option, ◌==◌, eq-eqb, ne_eqb, le_of_eq, le_trans, refl, sym, ap, ◌∙◌, arith}
use Rattle.std.proofs.lemmas.Bool.{cases_eq}
use Rattle.law_machine.proofs.Sums.{summed, sums_alike, sums_no_more, sums_one}
use Rattle.law_machine.specs.Element.{Entry, Locator}
use Rattle.law_machine.specs.Index.{live, live_at}
use Rattle.law_machine.specs.Lists.{◌∈◌}
use Rattle.law_machine.specs.Tally.{lives_on, one_if_some, places_on, shards, tally}

-- a tally is the sum of what each newest entry has
pub tally_is : (f : List Locator → ℕ) (xs : List Entry) → tally f xs ≡ summed (λ (o : Option (List Locator)). f (live o)) xs
tally_is f [] = refl
tally_is f (x ∷ xs) = ap (λ (n : ℕ). (n - f (live_at xs x.id)) + f x.locators) (tally_is f xs)

module _ (f : List Locator → ℕ) (none : f [] ≡ 0) where
  pub counts : (xs : List Entry) (id : ℕ) → f (live_at xs id) ≤ tally f xs
  counts xs id = le_trans (sums_one (λ (o : Option (List Locator)). f (live o)) none xs id) (le_of_eq (sym (tally_is f xs)))

  pub counts_no_more : (xs ys : List Entry) → ((id : ℕ) → f (live_at xs id) ≤ f (live_at ys id)) → tally f xs ≤ tally f ys
  counts_no_more xs ys same = le_trans (le_of_eq (tally_is f xs))
      (le_trans (sums_no_more (λ (o : Option (List Locator)). f (live o)) none xs ys same) (le_of_eq (sym (tally_is f ys))))

  pub counts_alike : (xs ys : List Entry) → ((id : ℕ) → live_at xs id ≡ live_at ys id) → tally f xs ≡ tally f ys
  counts_alike xs ys same = tally_is f xs
      ∙ sums_alike (λ (o : Option (List Locator)). f (live o)) none xs ys (λ id. ap f (same id)) ∙ sym (tally_is f ys)

  pub counts_none : (xs : List Entry) → ((id : ℕ) → f (live_at xs id) ≡ 0) → tally f xs ≡ 0
  counts_none xs all = let le : tally f xs ≤ 0 = counts_no_more xs [] (λ id. let z : f (live_at xs id) ≡ 0 = all id in omega arith) in
      omega arith

none_counted : (ls : List Locator) → one_if_some ls ≡ 0 → ls ≡ []
none_counted [] is = refl
none_counted (l ∷ ls) is = absurd (omega arith)

pub shards_none : (index : List Entry) → (shards index ≡ 0) ↔ ((id : ℕ) → live_at index id ≡ [])
shards_none index = (
  (λ zero_all id. none_counted (live_at index id)
      (let le : one_if_some (live_at index id) ≤ shards index = counts one_if_some refl index id in omega arith)),
  (λ all. counts_none one_if_some refl index (λ id. ap one_if_some (all id))),
)

places_here : (e : ℕ) (l : Locator) (ls : List Locator) → l.extent ≡ e → places_on e (l ∷ ls) ≡ suc (places_on e ls)
places_here e l ls is = let test : (l.extent == e) ≡ true = eq-eqb l.extent e is in rw test

places_there : (e : ℕ) (l : Locator) (ls : List Locator) → l.extent ≢ e → places_on e (l ∷ ls) ≡ places_on e ls
places_there e l ls not = let test : (l.extent == e) ≡ false = ne_eqb l.extent e not in rw test

none_placed : (e : ℕ) (ls : List Locator) → places_on e ls ≡ 0 → (l : Locator) → l ∈ ls → l.extent ≢ e
none_placed e [] is l none on = none
none_placed e (k ∷ ls) is l (inl same) on =
    let up : places_on e (k ∷ ls) ≡ suc (places_on e ls) = places_here e k ls (ap (λ (x : Locator). x.extent) (sym same) ∙ on) in
    omega arith
none_placed e (k ∷ ls) is l (inr has) on = elim (cases_eq k.extent e) [
  | inl here ↦ (let up : places_on e (k ∷ ls) ≡ suc (places_on e ls) = places_here e k ls here in omega arith)
  | inr there ↦ none_placed e ls (sym (places_there e k ls there) ∙ is) l has on
]

placed_none : (e : ℕ) (ls : List Locator) → ((l : Locator) → l ∈ ls → l.extent ≢ e) → places_on e ls ≡ 0
placed_none e [] all = refl
placed_none e (k ∷ ls) all = places_there e k ls (all k (inl refl)) ∙ placed_none e ls (λ l has. all l (inr has))

pub lives_none : (index : List Entry) (e : ℕ) → (lives_on e index ≡ 0) ↔ ((id : ℕ) (l : Locator) → l ∈ live_at index id → l.extent ≢ e)
lives_none index e = (
  (λ zero_all id. none_placed e (live_at index id)
      (let le : places_on e (live_at index id) ≤ lives_on e index = counts (places_on e) refl index id in omega arith)),
  (λ all. counts_none (places_on e) refl index (λ id. placed_none e (live_at index id) (all id))),
)
