-- What the command `stat` prints.
use Rattle.std.specs.Prelude.{ℕ, List, ◌∷◌, ◌++◌, [], Option, Some, None, codes}
use Rattle.cs_frame.specs.FormatNumbers.{counted_as, number_in}
use Rattle.cs_frame.specs.Roots.{identity_in}
use Rattle.law_machine.specs.Format.{Format}
use Rattle.cs_advice.specs.Members.{member, number_text}
use Rattle.cs_advice.specs.Outputs.{identity_text, quote}
use Rattle.cs_advice.specs.declared.outputs.Style.{Style}
use Rattle.cs_advice.specs.declared.outputs.Style.TheVariants.{Json, Text}

-- How many extents a store has, of how many pages each, how many sections its superblock has, and the number of its
-- format.
abbrev pub dimensions_text : Style → (extents pages sections format : ℕ) → List ℕ
dimensions_text Text extents pages sections format =
    number_text (codes "geometry extents ") extents ++ number_text (codes " pages ") pages ++ number_text (codes " sections ") sections ++ number_text (codes " format ") format
    ++ 10 ∷ []
dimensions_text Json extents pages sections format =
    number_text (123 ∷ member (codes "extents")) extents ++ number_text (44 ∷ member (codes "pages")) pages ++ number_text (44 ∷ member (codes "sections")) sections
    ++ number_text (44 ∷ member (codes "format")) format ++ 44 ∷ []

-- the identity of a store: a line, or a member of a JSON object
abbrev pub store_text : Style → (identity : List ℕ) → List ℕ
store_text Text identity = codes "id " ++ identity_text identity ++ 10 ∷ []
store_text Json identity = member (codes "id") ++ quote ∷ identity_text identity ++ quote ∷ 44 ∷ []

-- the same where a store has one, which it hasn't in format 2
abbrev pub identity_line : Option (List ℕ) → Style → List ℕ
identity_line None style = []
identity_line (Some identity) style = store_text style identity

-- what is printed first: the dimensions of a store, the number of its format, and its identity
abbrev pub geometry_text : Style → (extents pages sections : ℕ) → Format → List ℕ
geometry_text style extents pages sections format =
    dimensions_text style extents pages sections (counted_as (number_in format)) ++ identity_line (identity_in format) style
