-- What the tests of a locator say.
use Rattle.std.proofs.Common.{◌≡◌, ℕ, ◌<◌, nat_lt, Bool, true, false, Option, Some, None, if◌then◌else◌, refl, arith}
use Rattle.std.proofs.lemmas.Bool.Decides.{nat_tests}
use Rattle.law_machine.specs.Refusal.{Refusal}

pub is_below : (i n : ℕ) → nat_lt i n ≡ true → i < n
is_below i n is = grind (arith, nat_tests)

pub where_damaged : (b : Bool) (o : Option Refusal) (f : Refusal) → (if b then o else None) ≡ Some f
    → (b ≡ true) × (o ≡ Some f)
where_damaged true o f is = (refl, is)
where_damaged false o f is = absurd (let wrong : None ≡ Some f = is in cc)
