-- The number that a word of decimal digits stands for.
use Rattle.std.proofs.Common.{◌≡◌, ◌∙◌, ℕ, ◌<◌, ◌^◌, true, List, length, Some, sym, ap, rules}
use Rattle.std.specs.Prelude.{Result, Ok, Err, nat_lt}
use Rattle.std.specs.Result.{OkIff, result_ok}
use Rattle.std.specs.Char.{is_ascii_digit}
use Rattle.std.specs.List.{list_all}
use Rattle.std.specs.Str.{IsUtf8}
use Rattle.std.specs.Str.Parse.{ParsesUnsigned, digits_value}
use Rattle.std.proofs.lemmas.Bool.{and_from, and_parts, cond-false, cond-true, false_from_ne_true, lt-ltb, ltb-true}
use Rattle.std.proofs.lemmas.Fmt.{IsAscii-from_digits}
use Rattle.std.proofs.lemmas.Str.{IsUtf8-from_ascii}
use Rattle.std.proofs.lemmas.Str.Parse.{IsNumeralModel, numerals_by_value, parse_digits}
use Rattle.cs_script.specs.Lines.{decimal_of}

own : IsNumeralModel (λ ds. list_all is_ascii_digit ds ≡ true) (digits_value 10)
own = numerals_by_value _ (search rules)

-- digits are a text
pub digits_are_text : (word : List ℕ) → list_all is_ascii_digit word ≡ true → IsUtf8 word
digits_are_text word e = IsUtf8-from_ascii word (IsAscii-from_digits word (own.to word e))

-- what a text of digits is parsed as
pub digits_parse : {E : Type 0} (word : List ℕ) (r : Result ℕ E) → ParsesUnsigned 64 10 word r → list_all is_ascii_digit word ≡ true → result_ok r ≡ decimal_of word
digits_parse {E} word r parses digits = by_result r (parse_digits own 64 word r parses digits)
  where
    by_result : (r : Result ℕ E) → OkIff r ((0 < length word) × (digits_value 10 word < 2 ^ 64)) (digits_value 10 word) → result_ok r ≡ decimal_of word
    by_result (Ok n) h =
        ap Some h.1 ∙ sym (cond-true _ _ _ (and_from _ _ digits (and_from _ _ (lt-ltb 0 (length word) h.0.0) (lt-ltb (digits_value 10 word) (2 ^ 64) h.0.1))))
    by_result (Err e) not_so = sym (cond-false _ _ _ (false_from_ne_true _ (λ all.
        let parts = and_parts (list_all is_ascii_digit word) _ all in
        let fits = and_parts (nat_lt 0 (length word)) _ parts.1 in
        not_so (ltb-true 0 (length word) fits.0, ltb-true (digits_value 10 word) (2 ^ 64) fits.1))))
