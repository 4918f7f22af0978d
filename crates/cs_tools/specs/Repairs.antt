-- What is told of a repair that stops.
use Rattle.std.specs.Prelude.{ℕ, List, ◌∷◌, ◌++◌, [], codes}
use Rattle.cs_advice.specs.Members.{member, number_text}
use Rattle.cs_advice.specs.declared.outputs.Style.{Style}
use Rattle.cs_advice.specs.declared.outputs.Style.TheVariants.{Json, Text}

-- the line that names the last command that isn't lost
abbrev pub lost_line : Style → (commands : ℕ) → List ℕ
lost_line Text commands = number_text (codes "commands after ") commands ++ (codes " may be lost" ++ 10 ∷ [])
lost_line Json commands = number_text (123 ∷ member (codes "lost_after")) commands ++ (125 ∷ 10 ∷ [])
