-- The payload of a chunk: a piece of the shard's bytes, and then a head. The head says whose chunk it is and which
-- command put it.
use Rattle.std.specs.Prelude.{ℕ, ◌-◌, ◌==◌, Bool, true, List, ◌∷◌, ◌++◌, length, take, slice_index, nat_le, if◌then◌else◌}
use Rattle.byteorder.specs.Endian.{big_bytes}
use Rattle.cs_frame.specs.declared.frames.FrameKind.TheVariants.{Chunk}
use Rattle.cs_frame.specs.Frames.{kind_byte, payload_length}
use Rattle.cs_frame.specs.Identifiers.{id_bytes}
use Rattle.law_machine.specs.Format.{Format, Four, Two}
use Rattle.law_machine.specs.Geometry.{head_bytes_in, store_front}

-- |  0 | 16 | the identifier of the shard                   |
-- | 16 | 1  | the chunk's number in the shard, from 0 on    |
-- | 17 | 1  | how many chunks the shard has                 |
-- | 18 | 8  | the number of the command that put the shard  |
-- | 26 | 8  | the first eight bytes of the store's identity |
abbrev pub spelled_head : (id number count command : ℕ) → (front : List ℕ) → List ℕ
spelled_head id number count command front = id_bytes id ++ number ∷ count ∷ big_bytes 8 command ++ front

-- the payload of a chunk: in format 4 the piece and then the head, in format 2 the piece alone
abbrev pub chunk_in : Format → (id number count command : ℕ) → (piece : List ℕ) → List ℕ
chunk_in Two id number count command piece = piece
chunk_in (Four store device) id number count command piece =
    piece ++ spelled_head id number count command (store_front (Four store device))

-- the piece of a payload: all before the head. A payload that is shorter than a head has none
abbrev pub body_in : Format → (payload : List ℕ) → List ℕ
body_in Two payload = payload
body_in (Four store device) payload = take (length payload - head_bytes_in (Four store device)) payload

-- The frame that begins with this page is long enough for what it holds. A chunk's payload must have room for a head.
abbrev pub is_long_in : Format → (first : List ℕ) → Bool
is_long_in format first =
    if slice_index first 4 == kind_byte Chunk then nat_le (head_bytes_in format) (payload_length first) else true
