-- The newest of a list of runs.
use Rattle.std.proofs.Common.{◌≡◌, ◌∙◌, inl, inr, ℕ, zero, suc, ◌-◌, ◌≤◌, ◌++◌, List, [], ◌∷◌, Some, drop, length, map, take, refl, sym, ap, arith}
use Rattle.std.specs.Prelude.{reverse}
use Rattle.std.proofs.Math.Seq.{drop-append_seam}
use Rattle.std.proofs.lemmas.List.{append_assoc, length-drop, length-map, length-reverse, map-append, reverse-append, take-append-drop}
use Rattle.cs_frame.specs.declared.locators.Locator.{Locator}
use Rattle.cs_frame.specs.Formats.{as_locator}
use Rattle.cs_index.proofs.Newest.{lookup_first}
use Rattle.law_machine.specs.Element.{Entry, Locator as Place, Run}
use Rattle.law_machine.specs.Formats.{places}
use Rattle.law_machine.specs.Index.{entries_of, lookup}
use Rattle.law_machine.specs.Lists.{◌∈◌}

pub in_front : {X : Type 0} (k : ℕ) (xs : List X) (x : X) → x ∈ take k xs → x ∈ xs
in_front zero xs x none = absurd none
in_front (suc k) [] x none = absurd none
in_front (suc k) (y ∷ ys) x (inl is) = inl is
in_front (suc k) (y ∷ ys) x (inr has) = inr (in_front k ys x has)

pub has_place : (rs : List Run) (run : Run) → run ∈ rs → run.place ∈ places rs
has_place [] run none = absurd none
has_place (r ∷ rs) run (inl is) = inl (ap (λ (q : Run). q.place) is)
has_place (r ∷ rs) run (inr has) = inr (has_place rs run has)

pub length-places : (rs : List Run) → length (places rs) ≡ length rs
length-places [] = refl
length-places (run ∷ rs) = ap suc (length-places rs)

places_join : (xs ys : List Run) → places (xs ++ ys) ≡ places xs ++ places ys
places_join [] ys = refl
places_join (x ∷ xs) ys = ap (λ (ls : List Place). x.place ∷ ls) (places_join xs ys)

entries_join : (xs ys : List Run) → entries_of (xs ++ ys) ≡ entries_of xs ++ entries_of ys
entries_join [] ys = refl
entries_join (x ∷ xs) ys = ap (λ (es : List Entry). x.entries ++ es) (entries_join xs ys) ∙ sym (append_assoc x.entries (entries_of xs) (entries_of ys))

-- what the newest of them name all of them name so
pub named_in_front : (k : ℕ) (rs : List Run) (id : ℕ) (ls : List Place) → lookup id (entries_of (take k rs)) ≡ Some ls → lookup id (entries_of rs) ≡ Some ls
named_in_front k rs id ls named =
    ap (λ (qs : List Run). lookup id (entries_of qs)) (sym (take-append-drop k rs))
    ∙ ap (lookup id) (entries_join (take k rs) (drop k rs))
    ∙ lookup_first id (entries_of (take k rs)) (entries_of (drop k rs)) ls named

-- oldest first their places are those behind the others
pub front_listed : (rs : List Run) (left : ℕ) → left ≤ length rs → map as_locator (reverse (places (take (length rs - left) rs))) ≡ drop left (map as_locator (reverse (places rs)))
front_listed rs left le =
    let k : ℕ = length rs - left in
    let older : List Locator = map as_locator (reverse (places (drop k rs))) in
    let newer : List Locator = map as_locator (reverse (places (take k rs))) in
    let cut : map as_locator (reverse (places rs)) ≡ older ++ newer =
    ap (λ (qs : List Run). map as_locator (reverse (places qs))) (sym (take-append-drop k rs))
    ∙ ap (λ (ls : List Place). map as_locator (reverse ls)) (places_join (take k rs) (drop k rs))
    ∙ ap (map as_locator) (reverse-append (places (take k rs)) (places (drop k rs)))
    ∙ map-append as_locator (reverse (places (drop k rs))) (reverse (places (take k rs))) in
    let counted : length older ≡ length rs - k = length-map (reverse (places (drop k rs))) as_locator ∙ length-reverse (places (drop k rs)) ∙ length-places (drop k rs) ∙ length-drop k rs in
    let many : length older ≡ left = omega (arith, counted, le) in
    sym (drop-append_seam older newer) ∙ ap (λ (n : ℕ). drop n (older ++ newer)) many ∙ ap (drop left) (sym cut)
