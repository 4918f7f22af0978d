-- Extents that are drawn one after another, each with its number.
use Rattle.std.proofs.Common.{◌≡◌, ◌∙◌, ℕ, ◌+◌, ◌<◌, ◌≤◌, ◌++◌, List, ap, arith, get_or, length, sym, take, take_all}
use Rattle.std.proofs.lemmas.List.FromFn.{get_or-enumerate_from, length-enumerate_from}
use Rattle.std.specs.List.{enumerate_from}
use Rattle.std.specs.Prelude.{Option, flat_map}
use Rattle.std.specs.Io.KnownBytes.{Appends}
use Rattle.cs_advice.proofs.Appended.{appends_same, appends_then, one_more}
use Rattle.cs_tools.proofs.Rows.{four_then}

-- one element more, with its number
pub one_numbered : {X : Type 0} (f : ℕ × X → List ℕ) (xs : List X) (i : ℕ) (d : X) (a b c : Option (List ℕ)) → i < length xs
    → Appends a b (flat_map f (take i (enumerate_from 0 xs))) → Appends b c (f (i, get_or xs i d)) → Appends a c (flat_map f (take (i + 1) (enumerate_from 0 xs)))
one_numbered {X} f xs i d a b c lt so_far line =
    let long : i < length (enumerate_from 0 xs) = omega (arith, lt, length-enumerate_from 0 xs) in
    let at : (i, get_or xs i d) ≡ get_or (enumerate_from 0 xs) i (0, d) = ap (λ (n : ℕ). (n, get_or xs i d)) (omega arith) ∙ sym (get_or-enumerate_from 0 xs i (0, d) lt) in
    one_more f (enumerate_from 0 xs) i (0, d) a b c long so_far (appends_same b c (f (i, get_or xs i d)) (f (get_or (enumerate_from 0 xs) i (0, d))) (ap f at) line)

-- they are all
pub all_numbered : {X : Type 0} (f : ℕ × X → List ℕ) (xs : List X) (i : ℕ) (a b : Option (List ℕ)) → length xs ≤ i
    → Appends a b (flat_map f (take i (enumerate_from 0 xs))) → Appends a b (flat_map f (enumerate_from 0 xs))
all_numbered {X} f xs i a b le so_far =
    let long : length (enumerate_from 0 xs) ≤ i = omega (arith, le, length-enumerate_from 0 xs) in
    appends_same a b (flat_map f (take i (enumerate_from 0 xs))) (flat_map f (enumerate_from 0 xs)) (ap (flat_map f) (take_all i (enumerate_from 0 xs) long)) so_far

pub five_then : (a b c d e z : Option (List ℕ)) (ks ls ms ns os : List ℕ) → Appends a b ks → Appends b c ls → Appends c d ms → Appends d e ns → Appends e z os → Appends a z (ks ++ ls ++ ms ++ ns ++ os)
five_then a b c d e z ks ls ms ns os k l m n o = appends_then a e z (ks ++ ls ++ ms ++ ns) os (four_then a b c d e ks ls ms ns k l m n) o
