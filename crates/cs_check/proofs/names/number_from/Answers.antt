use Rattle.std.proofs.Common.{◌∙◌, ℕ, List, sym, ap, slice_get, arith, option_copied}
use Rattle.cs_check.proofs.Numerals.{no_first, low_first, unparsed, too_large, parsed}
use Rattle.cs_check.proofs.names.number_from.Goals as goal

pub returns-in_err-first : goal.returns-in_err-first
returns-in_err-first c = rw c.from_residual.ensures
    (no_first c.args.digits.now (sym (ap option_copied c.in_err-first.was) ∙ c.first.ensures.value ∙ ap (λ (xs : List ℕ). slice_get xs 0) c.as_bytes.ensures.value))

pub returns-then-first-lt-LEAST_DIGIT : goal.returns-then-first-lt-LEAST_DIGIT
returns-then-first-lt-LEAST_DIGIT c = low_first c.args.digits.now c.in_ok-first.field-0.now (sym (ap option_copied c.in_ok-first.was) ∙ c.first.ensures.value ∙ ap (λ (xs : List ℕ). slice_get xs 0) c.as_bytes.ensures.value) (omega arith)

pub returns-in_err-number : goal.returns-in_err-number
returns-in_err-number c = rw c.from_residual-in_err-number.ensures
    (unparsed c.args.digits.now c.parse.result c.parse.ensures.value.0 (sym c.ok.ensures.value ∙ c.in_err-number.was))

pub returns-then-number-lt-LIMIT : goal.returns-then-number-lt-LIMIT
returns-then-number-lt-LIMIT c =
    parsed c.args.digits.now c.parse.result c.in_ok-number.number c.in_ok-first.field-0.now c.parse.ensures.value.0 (sym c.ok.ensures.value ∙ c.in_ok-number.was)
    (sym (ap option_copied c.in_ok-first.was) ∙ c.first.ensures.value ∙ ap (λ (xs : List ℕ). slice_get xs 0) c.as_bytes.ensures.value) (omega arith) (omega arith)

pub returns-else-number-lt-LIMIT : goal.returns-else-number-lt-LIMIT
returns-else-number-lt-LIMIT c = too_large c.args.digits.now c.parse.result c.in_ok-number.number c.parse.ensures.value.0 (sym c.ok.ensures.value ∙ c.in_ok-number.was) (omega arith)
