-- How no refusal stands.
use Rattle.std.proofs.Common.{◌≡◌, ◌⊎◌, inl, inr, Bool, true, false, true≢false, sym, ◌∙◌}
use Rattle.law_machine.specs.Refusal.{Refusal}

-- no ground stands
pub pass : {Ground : Type 0} {Others : Refusal → Type 0} (n : Refusal) → (Ground → ⊥) → ((f : Refusal) → Others f → ⊥)
    → (f : Refusal) → ((Ground × (f ≡ n)) ⊎ ((Ground → ⊥) × Others f)) → ⊥
pass n not others f (inl stands) = not stands.0
pass n not others f (inr rest) = others f rest.1

pub no_more : (f : Refusal) → ⊥ → ⊥
no_more f none = none

-- what is false isn't true
pub not_both : (b : Bool) → b ≡ false → b ≡ true → ⊥
not_both b not also = true≢false (sym also ∙ not)
