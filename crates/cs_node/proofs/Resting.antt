-- Lists that are told to be empty.
use Rattle.std.proofs.Common.{◌≡◌, ◌≢◌, List, [], ◌∷◌, refl}

-- a list that isn't another one is empty
pub empty_of : {A : Type 0} (xs : List A) → (xs ≢ [] → ⊥) → xs ≡ []
empty_of [] none = refl
empty_of (x ∷ xs) none = absurd (none (λ e. cc))
