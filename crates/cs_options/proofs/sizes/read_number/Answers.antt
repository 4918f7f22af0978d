use Rattle.std.proofs.Common.{◌∙◌, List, ℕ, subst, sym}
use Rattle.std.specs.Str.Parse.{ParsesUnsigned}
use Rattle.cs_script.proofs.NumberSteps.{digits_are_text, digits_parse}
use Rattle.cs_options.proofs.sizes.read_number.Goals as goal

pub returns-in-Ok : goal.returns-in-Ok
returns-in-Ok c =
    c.ok.ensures.value ∙ digits_parse c.args.word.now c.parse.result (subst (λ (word : List ℕ). ParsesUnsigned 64 10 word c.parse.result) c.in-Ok.ensures.cases.0 c.parse.ensures.value.0) (sym c.are_digits.ensures ∙ c.if-not-are_digits.false)

pub returns-in-Err : goal.returns-in-Err
returns-in-Err c = absurd (c.in-Err.ensures.cases.0 (digits_are_text c.args.word.now (sym c.are_digits.ensures ∙ c.if-not-are_digits.false)))
