-- The lines of commands to type, one after another.
use Rattle.std.proofs.Common.{◌≡◌, ◌∙◌, ◌<◌, ◌+◌, ℕ, List, [], ◌∷◌, ◌++◌, get_or, length, take, sym, ap, append_assoc}
use Rattle.std.specs.Prelude.{flat_map}
use Rattle.std.proofs.lemmas.Grind.{flat_map-append}
use Rattle.std.proofs.lemmas.List.{append-nil, take_more}

-- a loop's step: one thing more is written
pub written_more : {X : Type 0} (f : X → List ℕ) (old now next : List ℕ) (xs : List X) (k : ℕ) (d : X) → k < length xs → now ≡ old ++ flat_map f (take k xs) → next ≡ now ++ f (get_or xs k d) → next ≡ old ++ flat_map f (take (k + 1) xs)
written_more {X} f old now next xs k d lt was more =
    let x = get_or xs k d in
    let all = flat_map f (take k xs) in
    more ∙ ap (λ (l : List ℕ). l ++ f x) was ∙ append_assoc old all (f x)
    ∙ ap (λ (l : List ℕ). old ++ l) (ap (λ (l : List ℕ). all ++ l) (sym (append-nil (f x))) ∙ sym (flat_map-append f (take k xs) (x ∷ [])) ∙ ap (flat_map f) (sym (take_more xs k d lt)))
