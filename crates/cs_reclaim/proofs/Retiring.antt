-- Answers with a refusal alone, and with the sweep beside it.
use Rattle.std.proofs.Common.{◌≡◌, ◌⊎◌, ℕ, List, Result, Ok, Err, ap, inl, inr, refl, subst, ⊎_elim}
use Rattle.std.specs.Prelude.{◌↔◌}
use Rattle.cs_refusal.specs.declared.refusals.Refusal.{Refusal}
use Rattle.cs_refusal.specs.declared.refusals.Refusal.TheVariants.{Full, OutOfMemory, StillLive, WornOut}
use Rattle.cs_index.specs.Staged.{IsWhy}
use Rattle.law_machine.specs.Element.{Entry}
use Rattle.law_machine.specs.Index.{NothingLive}

abbrev alone : Result ℕ Refusal → Refusal
alone (Ok t) = OutOfMemory
alone (Err f) = f

abbrev beside : {V : Type 0} → Result ℕ (Refusal × V) → Refusal
beside (Ok t) = OutOfMemory
beside (Err p) = p.0

module _ {V : Type 0} (v : V) (index : List Entry) (d e : ℕ) (is : d ≡ e) where
  pub alive_err : (f : Refusal) → (◌≡◌ {A = Result ℕ Refusal} (Err f) (Err StillLive)) ↔ (NothingLive index d → ⊥) → (◌≡◌ {A = Result ℕ (Refusal × V)} (Err (f, v)) (Err (StillLive, v))) ↔ (NothingLive index e → ⊥)
  alive_err f h = (
    (λ same. subst (λ (n : ℕ). NothingLive index n → ⊥) is (h.0 (ap Err (ap beside same)))),
    (λ none. ap (λ (r : Refusal). Err (r, v)) (ap alone (h.1 (λ nothing. none (subst (NothingLive index) is nothing))))),
  )

  pub alive_ok : (t : ℕ) → (◌≡◌ {A = Result ℕ Refusal} (Ok t) (Err StillLive)) ↔ (NothingLive index d → ⊥) → (◌≡◌ {A = Result ℕ (Refusal × V)} (Ok t) (Err (StillLive, v))) ↔ (NothingLive index e → ⊥)
  alive_ok t h = (
    (λ same. absurd (cc same)),
    (λ none. absurd (cc (h.1 (λ nothing. none (subst (NothingLive index) is nothing))))),
  )

-- ---- how a retire is refused where nothing is live

-- an extent is retired where there is a place, and neither a number nor its generation would pass its greatest
pub why_retired : (No Staged Last : Type 0) → (No → ⊥) × (Staged → ⊥) → (Last → ⊥) → (No → ⊥) × (Staged ⊎ Last → ⊥)
why_retired No Staged Last why last = (why.0, (λ worn. ⊎_elim why.1 last worn))

module _ (No Worn : Type 0) where
  pub why_refusals : (f : Refusal) → IsWhy f No Worn → (f ≡ StillLive) ⊎ (f ≡ Full) ⊎ (f ≡ WornOut) ⊎ (f ≡ OutOfMemory)
  why_refusals Full why = inr (inl refl)
  why_refusals WornOut why = inr (inr (inl refl))
  why_refusals OutOfMemory why = inr (inr (inr refl))
  why_refusals _ why = absurd why

  pub why_alive : (f : Refusal) (Nothing : Type 0) → IsWhy f No Worn → Nothing → (◌≡◌ {A = Result ℕ Refusal} (Err f) (Err StillLive)) ↔ (Nothing → ⊥)
  why_alive f Nothing why nothing = (
    (λ is. absurd (subst (λ g. IsWhy g No Worn) (ap alone is) why)),
    (λ some. absurd (some nothing)),
  )
