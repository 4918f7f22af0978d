-- Rows that are written one after another.
use Rattle.std.proofs.Common.{◌≡◌, ◌∙◌, ◌⊎◌, inl, inr, ℕ, ◌+◌, ◌-◌, ◌/◌, ◌%◌, ◌<◌, ◌≤◌, List, ◌++◌, add-one, ap, arith, drop, length, length-drop, min, subst, sym, take, take_all}
use Rattle.std.proofs.lemmas.Bool.{cases_lt}
use Rattle.std.specs.Prelude.{Option}
use Rattle.std.specs.Io.KnownBytes.{Appends}
use Rattle.cs_inspect.specs.declared.surveys.ExtentUse.{ExtentUse}
use Rattle.cs_tools.specs.ExtentMaps.{line_text, row_in, rows_before}
use Rattle.cs_advice.proofs.Appended.{appends_then}

-- a row has 64 extents, or what is left of them
pub row_taken : (uses : List ExtentUse) (start end : ℕ) → end ≡ min (start + 64) (length uses) → take (end - start) (drop start uses) ≡ take 64 (drop start uses)
row_taken uses start end is = go (cases_lt (length uses) (start + 64))
  where
    go : (length uses < start + 64) ⊎ (start + 64 ≤ length uses) → take (end - start) (drop start uses) ≡ take 64 (drop start uses)
    go (inl short) =
        let left : length (drop start uses) ≡ length uses - start = length-drop start uses in
        let all : length (drop start uses) ≤ end - start = omega (arith, left, is, short) in
        let few : length (drop start uses) ≤ 64 = omega (arith, left, short) in
        take_all (end - start) (drop start uses) all ∙ sym (take_all 64 (drop start uses) few)
    go (inr long) =
        let whole : end - start ≡ 64 = omega (arith, is, long) in
        ap (λ (n : ℕ). take n (drop start uses)) whole

-- one row more
pub row_more : (pages n : ℕ) (uses : List ExtentUse) (a b c : Option (List ℕ)) → Appends a b (rows_before pages n uses) → Appends b c (line_text pages (row_in n uses)) → Appends a c (rows_before pages (n + 1) uses)
row_more pages n uses a b c before row = subst (λ (m : ℕ). Appends a c (rows_before pages m uses)) (sym (add-one n)) (appends_then a b c (rows_before pages n uses) (line_text pages (row_in n uses)) before row)

-- they are as many as there are
pub rows_counted : (count len : ℕ) → count ≡ len / 64 + min 1 (len % 64) → count ≡ (len + 63) / 64
rows_counted count len is = omega (arith, is)

-- ---- texts one after another

pub three_then : (a b c z : Option (List ℕ)) (ks ls ms : List ℕ) → Appends a b ks → Appends b c ls → Appends c z ms → Appends a z (ks ++ ls ++ ms)
three_then a b c z ks ls ms k l m = appends_then a c z (ks ++ ls) ms (appends_then a b c ks ls k l) m

pub four_then : (a b c d z : Option (List ℕ)) (ks ls ms ns : List ℕ) → Appends a b ks → Appends b c ls → Appends c d ms → Appends d z ns → Appends a z (ks ++ ls ++ ms ++ ns)
four_then a b c d z ks ls ms ns k l m n = appends_then a d z (ks ++ ls ++ ms) ns (three_then a b c d ks ls ms k l m) n
