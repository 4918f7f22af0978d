-- What several commands print.
use Rattle.std.specs.Prelude.{ℕ, List, [], ◌∷◌, ◌++◌, codes, decimal}
use Rattle.hex.specs.Hex.{encode_lower}
use Rattle.uuid.specs.Text.{hyphenated_text, lower}
use Rattle.cs_refusal.specs.declared.refusals.Refusal.{Refusal}
use Rattle.cs_refusal.specs.Refusals.{name_of, number_of}
use Rattle.cs_frame.specs.declared.identifiers.ShardId.{ShardId}
use Rattle.cs_advice.specs.declared.outputs.Style.{Style}
use Rattle.cs_advice.specs.declared.outputs.Style.TheVariants.{Json, Text}

-- the sign for the ends of a text
abbrev pub quote : ℕ
quote = 34

-- an identifier as a UUID, in lower case with hyphens
abbrev pub id_text : ShardId → List ℕ
id_text id = hyphenated_text lower id.0

-- the identity of a store, two hex digits a byte
abbrev pub identity_text : (identity : List ℕ) → List ℕ
identity_text identity = encode_lower identity

-- what stands before and behind the identifier in its JSON object, and the line feed
abbrev pub before_id : List ℕ
before_id = 123 ∷ quote ∷ 105 ∷ 100 ∷ quote ∷ 58 ∷ quote ∷ []

abbrev pub behind_id : List ℕ
behind_id = quote ∷ 125 ∷ 10 ∷ []

-- the line of an identifier: the UUID alone, or a JSON object
abbrev pub id_line : Style → ShardId → List ℕ
id_line Text id = id_text id ++ 10 ∷ []
id_line Json id = before_id ++ id_text id ++ behind_id

-- the bytes of a shard in hex digits, or a dash for none
abbrev pub payload_text : List ℕ → List ℕ
payload_text [] = codes "-"
payload_text (x ∷ xs) = encode_lower (x ∷ xs)

-- the number and the name of a refusal
abbrev pub refusal_text : Refusal → List ℕ
refusal_text r = codes "refused " ++ decimal (number_of r) ++ codes " " ++ name_of r
