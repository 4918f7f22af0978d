-- The number of an option, as it is read.
use Rattle.std.proofs.Common.{◌≡◌, ◌∙◌, ℕ, ◌^◌, true, List, length, Some, None, refl, sym, ap, rules}
use Rattle.std.specs.Prelude.{Option, Result, Ok, Err, nat_lt, option_and_then}
use Rattle.std.specs.Result.{result_ok}
use Rattle.std.specs.Char.{is_ascii_digit}
use Rattle.std.specs.List.{list_all}
use Rattle.std.specs.Str.Parse.{ParsesUnsigned, digits_value, without_leading_plus}
use Rattle.std.proofs.lemmas.Bool.{and_from, and_parts, cond-false, cond-true, false_from_ne_true, lt-ltb, ltb-true}
use Rattle.std.proofs.lemmas.Str.Parse.{IsNumeralModel, numerals_by_value}
use Rattle.clap.specs.Words.{ReadsOne}
use Rattle.cs_options.specs.Asked.{number_of}

own : IsNumeralModel (λ ds. list_all is_ascii_digit ds ≡ true) (digits_value 10)
own = numerals_by_value _ (search rules)

-- what a text is parsed as
number_parsed : {E : Type 0} (text : List ℕ) (r : Result ℕ E) → ParsesUnsigned 64 10 text r → result_ok r ≡ number_of text
number_parsed text (Ok n) h =
    let digits = without_leading_plus text in
    ap Some h.1 ∙ sym (cond-true _ _ _ (and_from _ _ (own.from digits h.0.0.1) (and_from _ _ (lt-ltb 0 (length digits) h.0.0.0) (lt-ltb (digits_value 10 digits) (2 ^ 64) h.0.1))))
number_parsed text (Err e) not_so =
    let digits = without_leading_plus text in
    sym (cond-false _ _ _ (false_from_ne_true _ (λ all.
    let parts = and_parts (list_all is_ascii_digit digits) _ all in
    let fits = and_parts (nat_lt 0 (length digits)) _ parts.1 in
    not_so ((ltb-true 0 (length digits) fits.0, own.to digits parts.0), ltb-true (digits_value 10 digits) (2 ^ 64) fits.1))))

-- what is read of the text of an option
pub number_read : {E : Type 0} (gives : List ℕ → Result ℕ E → Type 0) → ((text : List ℕ) (r : Result ℕ E) → gives text r → ParsesUnsigned 64 10 text r)
    → (o : Option ℕ) (given : Option (List ℕ)) → (given ≡ None → o ≡ None) → ((text : List ℕ) → given ≡ Some text → ReadsOne gives text o)
    → o ≡ option_and_then number_of given
number_read gives parses o None none value = none refl
number_read {E = E} gives parses (Some n) (Some text) none value = number_parsed {E = E} text (Ok n) (parses text (Ok n) (value text refl))
number_read gives parses None (Some text) none value = let h = value text refl in number_parsed text (Err h.0) (parses text (Err h.0) h.1)
