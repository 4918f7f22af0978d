use Rattle.std.proofs.Common.{List, ℕ}
use Rattle.std.specs.Prelude.{Result}
use Rattle.std.specs.Str.Parse.{ExplainsUnsignedError, HasUnsignedDigitsIfOk, ParsesUnsigned}
use Rattle.std.specs.declared.num.ParseIntError.{ParseIntError}
use Rattle.clap.specs.Words.{found_of, one_text}
use Rattle.cs_options.proofs.NumberSteps.{number_read}
use Rattle.cs_options.proofs.options.number_given.Goals as goal

-- what std says of a number that it reads
abbrev Gives : List ℕ → Result ℕ ParseIntError → Type 0
Gives text r = ParsesUnsigned 64 10 text r × ExplainsUnsignedError 10 text r × HasUnsignedDigitsIfOk text r

pub returns : goal.returns
returns c =
    number_read Gives (λ text r h. h.0) c.get_one.result (one_text (found_of c.args.options.now) c.args.name.now) c.get_one.ensures.none c.get_one.ensures.value
