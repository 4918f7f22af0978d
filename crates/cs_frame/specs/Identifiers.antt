-- Identifiers as numbers and as bytes.
use Rattle.std.specs.Prelude.{ℕ, ◌^◌, ◌/◌, List, ◌∷◌}
use Rattle.byteorder.specs.Endian.{big_bytes, big_number}
use Rattle.cs_frame.specs.declared.identifiers.ShardId.{ShardId}

-- an identifier as a number, its first byte the highest
unfoldable pub id_number : ShardId → ℕ
id_number id = big_number 16 id.0

-- the 16 bytes of an identifier's number, high byte first: a number of more bytes has all that is above the lowest
-- 15 in the first
abbrev pub id_bytes : ℕ → List ℕ
id_bytes id = id / 256 ^ 15 ∷ big_bytes 15 id
