-- The payload of a line, as it is printed.
use Rattle.std.proofs.Common.{◌≡◌, ℕ, ◌==◌, false, List, [], ◌∷◌, length, refl}
use Rattle.hex.specs.Hex.{encode_lower}
use Rattle.cs_advice.specs.Outputs.{payload_text}

-- that of some bytes is their digits
pub some_payload : (bytes : List ℕ) → false ≡ (length bytes == 0) → encode_lower bytes ≡ payload_text bytes
some_payload [] some = absurd (cc some)
some_payload (x ∷ xs) some = refl
