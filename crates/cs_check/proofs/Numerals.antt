-- Numbers in decimal, and names.
use Rattle.std.proofs.Common.{◌≡◌, ◌∙◌, ℕ, zero, suc, ◌+◌, ◌^◌, ◌<◌, ◌≤◌, ◌⊎◌, List, ◌∷◌, length, get_or, slice_index, Some, None, Option, slice_get, Result, Ok, Err, sym, ap, subst, ⊎_elim, arith, Bor, drop}
use Rattle.std.specs.Prelude.{decimal, MatchOption}
use Rattle.std.specs.Result.{result_ok}
use Rattle.std.specs.Str.Parse.{AllDigits, digits_value, ParsesUnsigned}
use Rattle.std.proofs.lemmas.Bool.{cases_order}
use Rattle.std.proofs.lemmas.Fmt.{decimal_nonempty, first_decimal, parse-decimal, decimal-digits_value, decimal_digit}
use Rattle.std.proofs.lemmas.Str.Parse.{IsNumeralModel, numerals_by_value, tells_digits, parse_plain}
use Rattle.std.specs.Str.Pattern.{FindsCharPrefix}
use Rattle.std.proofs.lemmas.Str.Pattern.{strip_prefix_char}
use Rattle.cs_deps.proofs.Within.{below_next}
use Rattle.std.proofs.lemmas.Option.{MatchOption-at_none, MatchOption-at_some, get_or_from_slice_get, slice_get-get_or}
use Rattle.cs_deps.specs.declared.elements.Element.{Element}
use Rattle.cs_deps.specs.declared.elements.Element.TheVariants.{Plain, Version}
use Rattle.cs_check.specs.Names.{AreLetters, IsLetter, IsName, IsNumber, name_of, plain_letter}

digits_model : IsNumeralModel (AllDigits 10) (digits_value 10)
digits_model = numerals_by_value (AllDigits 10) tells_digits

pub no_first : (bs : List ℕ) → None ≡ slice_get bs 0 → (n : ℕ) → IsNumber n → bs ≡ decimal n → ⊥
no_first bs none n is e =
    let long : 0 < length bs = subst (λ xs. 0 < length xs) (sym e) (decimal_nonempty n (omega (arith, is.1))) in
    let some : slice_get bs 0 ≡ Some (get_or bs 0 0) = slice_get-get_or bs 0 0 long in
    cc (none, some)

pub low_first : (bs : List ℕ) (d : ℕ) → Some d ≡ slice_get bs 0 → d < 49 → (n : ℕ) → IsNumber n → bs ≡ decimal n → ⊥
low_first bs d first low n is e =
    let head : get_or bs 0 0 ≡ d = get_or_from_slice_get bs 0 d 0 (sym first) in
    let above : 48 < get_or bs 0 0 = subst (λ xs. 48 < get_or xs 0 0) (sym e) (first_decimal n (omega (arith, is.0)) (omega (arith, is.1))) in
    absurd (omega (arith, head, above, low))

pub unparsed : {E : Type 0} (bs : List ℕ) (r : Result ℕ E) → ParsesUnsigned 64 10 bs r → result_ok r ≡ None → (n : ℕ) → IsNumber n → bs ≡ decimal n → ⊥
unparsed bs r parses none n is e =
    let ok : r ≡ Ok n = parse-decimal 64 n bs r (omega (arith, is.1)) (omega (arith, is.1)) e parses in
    let some : result_ok r ≡ Some n = ap result_ok ok in
    cc (none, some)

pub too_large : {E : Type 0} (bs : List ℕ) (r : Result ℕ E) (m : ℕ) → ParsesUnsigned 64 10 bs r → result_ok r ≡ Some m → 2 ^ 63 ≤ m → (n : ℕ) → IsNumber n → bs ≡ decimal n → ⊥
too_large bs r m parses some large n is e =
    let ok : r ≡ Ok n = parse-decimal 64 n bs r (omega (arith, is.1)) (omega (arith, is.1)) e parses in
    let other : result_ok r ≡ Some n = ap result_ok ok in
    let same : m ≡ n = cc (some, other) in
    absurd (omega (arith, same, large, is.1))

pub parsed : {E : Type 0} (bs : List ℕ) (r : Result ℕ E) (n d : ℕ) → ParsesUnsigned 64 10 bs r → result_ok r ≡ Some n → Some d ≡ slice_get bs 0 → 49 ≤ d → n < 2 ^ 63 → IsNumber n × (bs ≡ decimal n)
parsed {E} bs (Ok m) n d parses some first high low =
    let head : get_or bs 0 0 ≡ d = get_or_from_slice_get bs 0 d 0 (sym first) in
    let plain = parse_plain digits_model {E = E} 64 bs (Ok m) parses (λ e. absurd (omega (arith, e, head, high))) in
    let same : m ≡ n = cc some in
    let value : digits_value 10 bs ≡ n = sym plain.1 ∙ same in
    let text : decimal (digits_value 10 bs) ≡ bs = decimal-digits_value digits_model bs plain.0.0 plain.0.1 (λ e. absurd (omega (arith, e, head, high))) plain.0.2 in
    let is : bs ≡ decimal n = sym text ∙ ap decimal value in
    ((positive n is head, low), is)
  where
    positive : (n : ℕ) → bs ≡ decimal n → get_or bs 0 0 ≡ d → 1 ≤ n
    positive zero is head = let small : 0 < 10 = omega arith in let e : get_or bs 0 0 ≡ 48 = ap (λ xs. get_or xs 0 0) (is ∙ decimal_digit 0 small) in absurd (omega (arith, e, head, high))
    positive (suc n) is head = omega arith
parsed bs (Err e) n d parses some first high low = cc some

-- ---- names

letter_at : (letters : List ℕ) → AreLetters letters → (f : ℕ) → f < length letters → IsLetter (slice_index letters f)
letter_at letters are f lt = are.0 f 0 lt

pub letter_is_ascii : (letters : List ℕ) → AreLetters letters → (f : ℕ) → f < length letters → slice_index letters f < 128
letter_is_ascii letters are f lt = omega (arith, (letter_at letters are f lt).1)

-- one letter, one family
pub same_family : (letters : List ℕ) → AreLetters letters → (f g : ℕ) → f < length letters → g < length letters → slice_index letters f ≡ slice_index letters g → f ≡ g
same_family letters are f g lf lg e =
    ⊎_elim
    (λ (s : f ≡ g). s)
    (λ (o : (f < g) ⊎ (g < f)). ⊎_elim
    (λ (l : f < g). absurd (are.1 f g 0 l lg e))
    (λ (l : g < f). absurd (are.1 g f 0 l lf (sym e)))
    o)
    (cases_order f g)

pub not_plain : (letters : List ℕ) → AreLetters letters → (name digits : List ℕ) → name ≡ plain_letter ∷ digits → ((n : ℕ) → IsNumber n → digits ≡ decimal n → ⊥) → (x : Element) → IsName letters x → name ≡ name_of letters x → ⊥
not_plain letters are name digits e none (Plain n) is named =
    let both : plain_letter ∷ digits ≡ plain_letter ∷ decimal n = sym e ∙ named in
    let rest : digits ≡ decimal n = cc both in
    none n is rest
not_plain letters are name digits e none (Version f v) is named =
    let both : plain_letter ∷ digits ≡ slice_index letters f ∷ decimal v = sym e ∙ named in
    let head : slice_index letters f ≡ plain_letter = cc both in
    (letter_at letters are f is.0).2 head

pub not_version : (letters : List ℕ) → AreLetters letters → (f : ℕ) → f < length letters → (name digits : List ℕ) → name ≡ slice_index letters f ∷ digits → ((n : ℕ) → IsNumber n → digits ≡ decimal n → ⊥) → (x : Element) → IsName letters x → name ≡ name_of letters x → ⊥
not_version letters are f lt name digits e none (Plain n) is named =
    let both : slice_index letters f ∷ digits ≡ plain_letter ∷ decimal n = sym e ∙ named in
    let head : slice_index letters f ≡ plain_letter = cc both in
    (letter_at letters are f lt).2 head
not_version letters are f lt name digits e none (Version g v) is named =
    let both : slice_index letters f ∷ digits ≡ slice_index letters g ∷ decimal v = sym e ∙ named in
    let rest : digits ≡ decimal v = cc both in
    none v is.1 rest

pub not_any : (letters : List ℕ) (name : List ℕ) → ((rest : List ℕ) → name ≡ plain_letter ∷ rest → ⊥) → ((f : ℕ) → f < length letters → (rest : List ℕ) → name ≡ slice_index letters f ∷ rest → ⊥) → (x : Element) → IsName letters x → name ≡ name_of letters x → ⊥
not_any letters name plain family (Plain n) is named = plain (decimal n) named
not_any letters name plain family (Version f v) is named = family f is.0 (decimal v) named

-- a text that doesn't begin with an ASCII character
pub no_prefix : (c : ℕ) (bs : List ℕ) (r : Option (Bor (List ℕ))) → MatchOption r (FindsCharPrefix c bs None) (λ x. (n : ℕ) × FindsCharPrefix c bs (Some n) × (x.now ≡ drop n bs) × (length x.now + n ≡ length bs)) → c < 128 → r ≡ None → (rest : List ℕ) → bs ≡ c ∷ rest → ⊥
no_prefix c bs r cases ascii none = MatchOption-at_none ((rest : List ℕ) → bs ≡ c ∷ rest → ⊥) (λ x. bs ≡ c ∷ x.now) none (strip_prefix_char c bs r cases ascii)

pub prefix : (c : ℕ) (bs : List ℕ) (r : Option (Bor (List ℕ))) (x : Bor (List ℕ)) → MatchOption r (FindsCharPrefix c bs None) (λ x. (n : ℕ) × FindsCharPrefix c bs (Some n) × (x.now ≡ drop n bs) × (length x.now + n ≡ length bs)) → c < 128 → r ≡ Some x → bs ≡ c ∷ x.now
prefix c bs r x cases ascii some = MatchOption-at_some ((rest : List ℕ) → bs ≡ c ∷ rest → ⊥) (λ x. bs ≡ c ∷ x.now) x some (strip_prefix_char c bs r cases ascii)

pub no_family_next : (letters : List ℕ) (name : List ℕ) (k : ℕ) → ((rest : List ℕ) → name ≡ slice_index letters k ∷ rest → ⊥) → ((f : ℕ) → f < k → (rest : List ℕ) → name ≡ slice_index letters f ∷ rest → ⊥) → (f : ℕ) → f < k + 1 → (rest : List ℕ) → name ≡ slice_index letters f ∷ rest → ⊥
no_family_next letters name k here before f lt rest e =
    ⊎_elim
    (λ (l : f < k). before f l rest e)
    (λ (s : f ≡ k). here rest (subst (λ i. name ≡ slice_index letters i ∷ rest) s e))
    (below_next f k lt)

pub letter_apart : (letters : List ℕ) → AreLetters letters → (f : ℕ) → f < length letters → slice_index letters f ≡ plain_letter → ⊥
letter_apart letters are f lt e = (letter_at letters are f lt).2 e
