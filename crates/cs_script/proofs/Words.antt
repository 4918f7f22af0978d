-- The words of a text, one after another.
use Rattle.std.proofs.Common.{◌≡◌, ◌∙◌, ℕ, suc, ◌+◌, ◌<◌, ◌≤◌, ◌==◌, Bool, true, false, cond, not, List, [], ◌∷◌, length, take, drop, Some, None, sym, ap, subst, refl, arith, nat_lt}
use Rattle.std.specs.Prelude.{filter, position, Option, unwrap_or}
use Rattle.std.specs.List.{slice_split, onto_first, position_or_len}
use Rattle.std.proofs.lemmas.List.{drop_all}
use Rattle.std.proofs.lemmas.List.Splits.{slice_split-cons_yes, slice_split-cons_no}
use Rattle.std.proofs.lemmas.List.Sums.{prefix_len-le-length}
use Rattle.std.proofs.lemmas.Bool.Decides.{nat_tests}
use Rattle.cs_script.specs.Lines.{words}

-- a space, and another byte
abbrev space : ℕ → Bool
space b = b == 32

abbrev letter : ℕ → Bool
letter b = not (b == 32)

abbrev some_byte : List ℕ → Bool
some_byte word = nat_lt 0 (length word)

one_plus : (n : ℕ) → 1 + n ≡ suc n
one_plus n = omega arith

-- a space at the front changes no word
words_space : (x : ℕ) (xs : List ℕ) → space x ≡ true → words (x ∷ xs) ≡ words xs
words_space x xs e = ap (filter some_byte) (slice_split-cons_yes space x xs e)

-- spaces at the front change no word
words_skip : (text : List ℕ) → words text ≡ words (drop (position_or_len letter text) text)
words_skip [] = refl
words_skip (x ∷ xs) = at_head (space x) refl (words_skip xs)
  where
    at_head : (b : Bool) → space x ≡ b → words xs ≡ words (drop (position_or_len letter xs) xs) → words (x ∷ xs) ≡ words (drop (cond (not (not b)) (1 + position_or_len letter xs) 0) (x ∷ xs))
    at_head true e rest = words_space x xs e ∙ rest ∙ ap (λ n. words (drop n (x ∷ xs))) (sym (one_plus (position_or_len letter xs)))
    at_head false e rest = refl

-- the first part, and the words behind it
abbrev Front : ℕ → List ℕ → Type 0
Front n xs = (parts : List (List ℕ)) × (slice_split space xs ≡ take n xs ∷ parts) × (filter some_byte parts ≡ words (drop n xs))

front : (xs : List ℕ) → Front (position_or_len space xs) xs
front [] = ([], refl, refl)
front (x ∷ xs) = at_head (space x) refl (front xs)
  where
    at_head : (b : Bool) → space x ≡ b → Front (position_or_len space xs) xs → Front (cond (not b) (1 + position_or_len space xs) 0) (x ∷ xs)
    at_head true e rest = (slice_split space xs, slice_split-cons_yes space x xs e, sym (words_space x xs e))
    at_head false e (parts, is, behind) =
        subst (λ n. Front n (x ∷ xs)) (sym (one_plus (position_or_len space xs))) (parts, slice_split-cons_no space x xs e ∙ ap (onto_first x) is, behind)

-- a word that isn't empty, and the words behind it
words_front : (xs : List ℕ) → 0 < length (take (position_or_len space xs) xs) → words xs ≡ take (position_or_len space xs) xs ∷ words (drop (position_or_len space xs) xs)
words_front xs some =
    let r = front xs in
    let word = take (position_or_len space xs) xs in
    let test : some_byte word ≡ true = grind (arith, nat_tests) in
    ap (filter some_byte) r.1 ∙ kept (some_byte word) word (filter some_byte r.0) test ∙ ap (λ (l : List (List ℕ)). word ∷ l) r.2
  where
    kept : (b : Bool) (w : List ℕ) (ws : List (List ℕ)) → b ≡ true → cond b (w ∷ ws) ws ≡ w ∷ ws
    kept true w ws e = refl
    kept false w ws e = absurd (cc e)

-- behind the spaces a word begins
abbrev Begins : ℕ → List ℕ → Type 0
Begins n xs = 0 < length (take (position_or_len space (drop n xs)) (drop n xs))

begins : (xs : List ℕ) → position_or_len letter xs < length xs → Begins (position_or_len letter xs) xs
begins [] lt = absurd (omega arith)
begins (x ∷ xs) lt = at_head (space x) refl (λ less. begins xs less) lt
  where
    first : (b : Bool) → b ≡ false → 0 < length (take (cond (not b) (1 + position_or_len space xs) 0) (x ∷ xs))
    first true e = absurd (cc e)
    first false e = subst (λ n. 0 < length (take n (x ∷ xs))) (sym (one_plus (position_or_len space xs))) (omega arith)

    at_head : (b : Bool) → space x ≡ b → (position_or_len letter xs < length xs → Begins (position_or_len letter xs) xs) → cond (not (not b)) (1 + position_or_len letter xs) 0 < length (x ∷ xs) → Begins (cond (not (not b)) (1 + position_or_len letter xs) 0) (x ∷ xs)
    at_head true e rest lt = subst (λ n. Begins n (x ∷ xs)) (sym (one_plus (position_or_len letter xs))) (rest (omega (arith, lt)))
    at_head false e rest lt = first (space x) e

-- what `position` says
position_some : (p : ℕ → Bool) (xs : List ℕ) (i : ℕ) → position p xs ≡ Some i → (position_or_len p xs ≡ i) × (position_or_len p xs < length xs)
position_some p xs i h = at_test (nat_lt (position_or_len p xs) (length xs)) refl h
  where
    at_test : (b : Bool) → nat_lt (position_or_len p xs) (length xs) ≡ b → cond b (Some (position_or_len p xs)) None ≡ Some i → (position_or_len p xs ≡ i) × (position_or_len p xs < length xs)
    at_test true e h = let less : position_or_len p xs < length xs = grind (arith, nat_tests) in (cc h, less)
    at_test false e h = absurd (cc h)

position_none : (p : ℕ → Bool) (xs : List ℕ) → position p xs ≡ None → length xs ≤ position_or_len p xs
position_none p xs h = at_test (nat_lt (position_or_len p xs) (length xs)) refl h
  where
    at_test : (b : Bool) → nat_lt (position_or_len p xs) (length xs) ≡ b → cond b (Some (position_or_len p xs)) None ≡ None → length xs ≤ position_or_len p xs
    at_test true e h = absurd (cc h)
    at_test false e h = grind (arith, nat_tests)

position_or : (p : ℕ → Bool) (xs : List ℕ) → unwrap_or (position p xs) (length xs) ≡ position_or_len p xs
position_or p xs = at_test (nat_lt (position_or_len p xs) (length xs)) refl
  where
    at_test : (b : Bool) → nat_lt (position_or_len p xs) (length xs) ≡ b → unwrap_or (cond b (Some (position_or_len p xs)) None) (length xs) ≡ position_or_len p xs
    at_test true e = refl
    at_test false e =
        let above : length xs ≤ position_or_len p xs = grind (arith, nat_tests) in
        omega (arith, above, prefix_len-le-length (λ x. not (p x)) xs)

pub no_word : (text : List ℕ) → position letter text ≡ None → words text ≡ []
no_word text h = words_skip text ∙ ap words (drop_all (position_or_len letter text) text (position_none letter text h))

pub first_word : (text : List ℕ) (start : ℕ) → position letter text ≡ Some start → (rest : List ℕ) → rest ≡ drop start text → (end : ℕ) → end ≡ unwrap_or (position space rest) (length rest) → words text ≡ take end rest ∷ words (drop end rest)
first_word text start found rest is end at =
    let h = position_some letter text start found in
    let from : drop (position_or_len letter text) text ≡ rest = ap (λ n. drop n text) h.0 ∙ sym is in
    let ends : position_or_len space rest ≡ end = sym (at ∙ position_or space rest) in
    words_skip text ∙ ap words from
    ∙ words_front rest (subst (λ (l : List ℕ). 0 < length (take (position_or_len space l) l)) from (begins text h.1))
    ∙ ap (λ n. take n rest ∷ words (drop n rest)) ends

-- an option that is no value
pub is_none : (o : Option (List ℕ)) → ((x : List ℕ) → o ≡ Some x → ⊥) → None ≡ o
is_none None never = refl
is_none (Some x) never = absurd (never x refl)
