-- Arrays that are written item by item.
use Rattle.std.proofs.Common.{◌≡◌, ◌∙◌, ℕ, ◌+◌, ◌≤◌, List, [], ◌∷◌, ◌++◌, length, take, take_all, map, Some, slice_get, sym, ap}
use Rattle.serde_json.specs.Data.{Data, array}
use Rattle.serde_json.specs.View.{view, items_of, items_view}
use Rattle.serde_json.specs.declared.value.Value.{Value}
use Rattle.cs_check.proofs.ValueSteps.{map_push, take_next_one}

pub written_next : {X : Type 0} (s : X → Data) (xs : List X) (k : ℕ) (x : X) (vs new : List Value) (v : Value) → slice_get xs k ≡ Some x → view v ≡ s x → new ≡ vs ++ v ∷ [] → map view vs ≡ map s (take k xs) → map view new ≡ map s (take (k + 1) xs)
written_next s xs k x vs new v at is pushed before =
    ap (map view) pushed ∙ map_push view vs v ∙ ap (λ ds. ds ++ view v ∷ []) before ∙ ap (λ d. map s (take k xs) ++ d ∷ []) is ∙ sym (map_push s (take k xs) x) ∙ sym (ap (map s) (take_next_one xs k x at))

pub written_all : {X : Type 0} (s : X → Data) (xs : List X) (k : ℕ) (vs : List Value) (d : Data) → d ≡ array (items_view vs) → length xs ≤ k → map view vs ≡ map s (take k xs) → d ≡ array (items_of (map s xs))
written_all s xs k vs d is le all = is ∙ ap (λ ds. array (items_of ds)) (all ∙ ap (map s) (take_all k xs le))
