-- Whether a store is settled.
use Rattle.std.proofs.Common.{◌≡◌, ◌≢◌, ◌↔◌, Bool, false, List, [], ◌∷◌, IsTrue, true, refl}
use Rattle.cs_core.specs.Checkpoints.{IsSettled}
use Rattle.cs_core.specs.Stored.{Stored, but_for_room}

-- a test that tells whether there is something, and says no
pub none_there : {A : Type 0} (b : Bool) (xs : List A) → (IsTrue b ↔ (xs ≢ [])) → b ≡ false → xs ≡ []
none_there b [] tells says = refl
none_there b (x ∷ xs) tells says = absurd (let yes : b ≡ true = tells.1 (λ same. cc same) in cc (says, yes))

-- rooms don't matter
pub settled_too : (s : Stored) → IsSettled (but_for_room s) → IsSettled s
settled_too s is = record { none_waits = is.none_waits; none_out = is.none_out; none_changed = is.none_changed; none_swept = is.none_swept }
