-- What is read of a stream, up to so many bytes.
use Rattle.std.proofs.Common.{◌≡◌, ◌∙◌, ℕ, List, ◌++◌, [], take, Some, ap, subst}
use Rattle.std.specs.Prelude.{Option, IfSome, option_map}
use Rattle.std.specs.Io.Take.{take_inner, take_limit, take_remaining}
use Rattle.std.specs.declared.io.traits.Take.{Take}

-- all of it, where it isn't longer
pub taken : {R : Type 0} (remaining : R → Option (List ℕ)) (t : Take R) (reader : R) (n : ℕ) (text before after : List ℕ) → take_limit t ≡ n → take_inner t ≡ reader → remaining reader ≡ Some text → before ≡ []
    → IfSome (take_remaining remaining t) (λ xs. after ≡ before ++ xs) → after ≡ take n text
taken {R} remaining t reader n text before after limit inner is none read =
    let left : take_remaining remaining t ≡ Some (take n text) = ap (λ (r : R). option_map (take (take_limit t)) (remaining r)) inner ∙ ap (option_map (take (take_limit t))) is ∙ ap (λ k. Some (take k text)) limit in
    subst (λ (o : Option (List ℕ)). IfSome o (λ xs. after ≡ before ++ xs)) left read ∙ ap (λ (b : List ℕ). b ++ take n text) none
