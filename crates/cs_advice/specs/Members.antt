-- Numbers and members of JSON objects as they are printed, and what is known of a writer that they are printed to.
use Rattle.std.specs.Prelude.{ℕ, List, ◌∷◌, ◌++◌, [], Option, decimal}
use Rattle.std.specs.Io.KnownBytes.{Appends}
use Rattle.cs_advice.specs.Outputs.{quote}

-- a number, and what stands before it
abbrev pub number_text : (before : List ℕ) → ℕ → List ℕ
number_text before n = before ++ decimal n

-- the name of a member of a JSON object
abbrev pub member : (name : List ℕ) → List ℕ
member name = quote ∷ name ++ quote ∷ 58 ∷ []

-- known bytes grow by some
abbrev pub GoesOn : (before after : Option (List ℕ)) → Type 0
GoesOn before after = (more : List ℕ) × Appends before after more

-- known bytes grow by these, and by some behind them
abbrev pub BeginsWith : (before after : Option (List ℕ)) → List ℕ → Type 0
BeginsWith before after text = (more : List ℕ) × Appends before after (text ++ more)
