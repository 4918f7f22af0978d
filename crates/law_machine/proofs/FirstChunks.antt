-- The first entry with a locator of which something holds.
use Rattle.std.proofs.Common.{◌≡◌, ◌⊎◌, inl, inr, ⊎_elim, ℕ, zero, suc, ◌<◌, ◌≤◌, List, [], ◌∷◌, Some, None, refl, sym, ap, ◌∙◌, subst, arith}
use Rattle.std.proofs.lemmas.Bool.{cases_eq}
use Rattle.law_machine.proofs.Counting.{lookup_here, lookup_there, ascending_tail, above_head}
use Rattle.law_machine.specs.Element.{Entry, Locator}
use Rattle.law_machine.specs.Index.{Ascending, lookup}
use Rattle.law_machine.specs.Lists.{nth, ◌∈◌}

-- the first locator of which P holds
pub record FirstIn (P : ℕ → Locator → Type 0) (ls : List Locator) (k : ℕ) (l : Locator) : Type 0 where
  pub there : nth ls k ≡ Some l
  pub chosen : P k l
  pub first : (j : ℕ) (x : Locator) → nth ls j ≡ Some x → P j x → k ≤ j

later_in : (P : ℕ → Locator → Type 0) (l : Locator) (ls : List Locator) (k : ℕ) → (P 0 l → ⊥)
    → ((i : ℕ) (y : Locator) → nth ls i ≡ Some y → P (suc i) y → k ≤ i)
    → (j : ℕ) (x : Locator) → nth (l ∷ ls) j ≡ Some x → P j x → suc k ≤ j
later_in P l ls k not all zero x at is = absurd (not
    (subst (λ (y : Locator). P 0 y) (let same : Some x ≡ Some l = sym at in cc) is))
later_in P l ls k not all (suc j) x at is = (let le : k ≤ j = all j x at is in omega arith)

none_in : (P : ℕ → Locator → Type 0) (l : Locator) (ls : List Locator) → (P 0 l → ⊥)
    → ((j : ℕ) (x : Locator) → nth ls j ≡ Some x → P (suc j) x → ⊥) → (j : ℕ) (x : Locator) → nth (l ∷ ls) j ≡ Some x
    → P j x → ⊥
none_in P l ls not none zero x at is = not
    (subst (λ (y : Locator). P 0 y) (let same : Some x ≡ Some l = sym at in cc) is)
none_in P l ls not none (suc j) x at is = none j x at is

first_in : (P : ℕ → Locator → Type 0) → ((j : ℕ) (x : Locator) → P j x ⊎ (P j x → ⊥)) → (ls : List Locator)
    → ((k : ℕ) × (l : Locator) × FirstIn P ls k l) ⊎ ((j : ℕ) (x : Locator) → nth ls j ≡ Some x → P j x → ⊥)
first_in P decided [] = inr (λ j x at. absurd (let wrong : None ≡ Some x = at in cc))
first_in P decided (l ∷ ls) = ⊎_elim
    (λ (is : P 0 l). inl (0, l, record { there = refl; chosen = is; first = λ j x at p. omega arith }))
    (λ (not : P 0 l → ⊥). ⊎_elim
    (λ found. inl (
      suc found.0,
      found.1,
      record { there = found.2.there; chosen = found.2.chosen; first = later_in P l ls found.0 not found.2.first },
    ))
    (λ (none : (j : ℕ) (x : Locator) → nth ls j ≡ Some x → P (suc j) x → ⊥). inr (none_in P l ls not none))
    (first_in (λ j. P (suc j)) (λ j. decided (suc j)) ls))
    (decided 0 l)

-- the first entry with a locator of which P holds, by identifier
pub record FirstEntry (P : ℕ → ℕ → Locator → Type 0) (ws : List Entry) (x : Entry) (k : ℕ) (l : Locator) : Type 0 where
  pub among : x ∈ ws
  pub on : FirstIn (P x.id) x.locators k l
  pub first : (y : Entry) → y ∈ ws → y.id < x.id → (j : ℕ) (z : Locator) → nth y.locators j ≡ Some z → P y.id j z → ⊥

pub first_entry : (P : ℕ → ℕ → Locator → Type 0) → ((d j : ℕ) (x : Locator) → P d j x ⊎ (P d j x → ⊥))
    → (ws : List Entry) → Ascending ws
    → ((x : Entry) × (k : ℕ) × (l : Locator) × FirstEntry P ws x k l)
    ⊎ ((y : Entry) → y ∈ ws → (j : ℕ) (z : Locator) → nth y.locators j ≡ Some z → P y.id j z → ⊥)
first_entry P decided [] order = inr (λ y none. absurd none)
first_entry P decided (w ∷ ws) order = ⊎_elim
    (λ here. inl (
      w,
      here.0,
      here.1,
      record {
        among = inl refl;
        on = here.2;
        first = λ y has lt. absurd
            (⊎_elim (λ (is : y ≡ w). let same : y.id ≡ w.id = ap (λ (v : Entry). v.id) is in omega arith)
            (λ (more : y ∈ ws). let gt : w.id < y.id = above_head w y ws order more in omega arith) has);
      },
    ))
    (λ (none : (j : ℕ) (z : Locator) → nth w.locators j ≡ Some z → P w.id j z → ⊥). ⊎_elim
    (λ found. inl (
      found.0,
      found.1,
      found.2,
      record {
        among = inr found.3.among;
        on = found.3.on;
        first = λ y has lt. ⊎_elim
            (λ (is : y ≡ w). subst (λ (v : Entry). (j : ℕ) (z : Locator) → nth v.locators j ≡ Some z → P v.id j z → ⊥)
            (sym is) none)
            (λ (more : y ∈ ws). found.3.first y more lt) has;
      },
    ))
    (λ (all : (y : Entry) → y ∈ ws → (j : ℕ) (z : Locator) → nth y.locators j ≡ Some z → P y.id j z → ⊥). inr
    (λ y has. ⊎_elim
    (λ (is : y ≡ w). subst (λ (v : Entry). (j : ℕ) (z : Locator) → nth v.locators j ≡ Some z → P v.id j z → ⊥)
    (sym is) none) (λ (more : y ∈ ws). all y more) has))
    (first_entry P decided ws (ascending_tail w ws order)))
    (first_in (P w.id) (decided w.id) w.locators)

-- what is looked up stands in the list
pub lookup_member : (ws : List Entry) (id : ℕ) (ls : List Locator) → lookup id ws ≡ Some ls → (w : Entry) × (w ∈ ws)
    × (w.id ≡ id) × (w.locators ≡ ls)
lookup_member [] id ls at = absurd (let wrong : None ≡ Some ls = at in cc)
lookup_member (w ∷ ws) id ls at = elim (cases_eq w.id id) [
  | inl is ↦ (w, inl refl, is, (let same : Some w.locators ≡ Some ls = sym (lookup_here w ws id is) ∙ at in cc))
  | inr not ↦ (let rest = lookup_member ws id ls (sym (lookup_there w ws id not) ∙ at) in
      (rest.0, inr rest.1, rest.2, rest.3))
]
