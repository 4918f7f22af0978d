-- Pages of zeros, one after another.
use Rattle.std.proofs.Common.{◌≡◌, ◌≢◌, ⊎_elim, ◌+◌, ◌<◌, ◌≤◌, ℕ, Bool, true, false, MatchBool, ap, ◌∙◌, arith}
use Rattle.std.proofs.lemmas.Bool.{cases_eq}
use Rattle.cs_disk.specs.Disk.{Image, page}
use Rattle.cs_mount.specs.Makings.{zero_page}

-- what a test says
pub test_holds : (b : Bool) (P Q : Type 0) → MatchBool b P Q → b ≡ true → P
test_holds true P Q is test = is
test_holds false P Q is test = absurd (cc test)

pub test_fails : (b : Bool) (P Q : Type 0) → MatchBool b P Q → b ≡ false → Q
test_fails false P Q is test = is
test_fails true P Q is test = absurd (cc test)

-- one more page of zeros
pub zeros_more : (image : Image) (from n m : ℕ) → m ≤ n + 1 → ((p : ℕ) → from ≤ p → p < n → page image p ≡ zero_page) → page image n ≡ zero_page → (p : ℕ) → from ≤ p → p < m → page image p ≡ zero_page
zeros_more image from n m few before here p le lt = ⊎_elim
    (λ (same : p ≡ n). ap (page image) same ∙ here)
    (λ (other : p ≢ n). before p le (omega (arith, lt, few, other)))
    (cases_eq p n)
