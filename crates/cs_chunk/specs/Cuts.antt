-- How the bytes of a put are cut.
use Rattle.std.specs.Prelude.{◌≡◌, ◌⊎◌, ◌+◌, ◌-◌, ◌*◌, ◌<◌, ◌≤◌, ◌++◌, ℕ, zero, suc, List, [], ◌∷◌, drop, map, replicate, take}
use Rattle.cs_chunk.specs.declared.cuts.Cut.{Cut}
use Rattle.cs_frame.specs.FormatNumbers.{number_in}
use Rattle.cs_frame.specs.Formats.{formats_of}
use Rattle.cs_frame.specs.Frames.{page_count, spelled_frame}
use Rattle.law_machine.specs.Device.{Shape}
use Rattle.law_machine.specs.Events.{headed}
use Rattle.law_machine.specs.Geometry.{head_bytes_in}

-- so many pieces of this size, in order, of which the last may be shorter
abbrev pub pieces : (size count : ℕ) → List ℕ → List (List ℕ)
pieces size zero bytes = []
pieces size (suc count) bytes = take size bytes ∷ pieces size count (drop size bytes)

-- the pages of the frames of a cut, each with its head: all but the last have those of a full piece
abbrev pub pages_of : Cut → List ℕ
pages_of cut = replicate (cut.count - 1) cut.pages ++ cut.last ∷ []

-- the frames of the chunks of bytes that are cut so, which a command puts under an identifier
abbrev pub frames_cut : Shape → Cut → (id command : ℕ) → (bytes : List ℕ) → List (List (List ℕ))
frames_cut S cut id command bytes =
    map (spelled_frame (number_in S.format) 0) (headed (formats_of S) id 0 cut.count command (pieces cut.size cut.count bytes))

-- so many bytes are more than a shard may have
abbrev pub IsOversized : Shape → (length : ℕ) → Type 0
IsOversized S length = S.most_chunks * S.chunk_bytes < length

-- so many bytes are cut so: in as few pieces of this size as may be, and at least one
pub record IsCut (S : Shape) (length : ℕ) (cut : Cut) : Type 0 where
  pub size : cut.size ≡ S.piece_bytes length
  pub pages : cut.pages ≡ page_count (head_bytes_in S.format + cut.size)
  pub most : cut.count ≤ S.most_chunks
  pub some : 1 ≤ cut.count
  pub enough : length ≤ cut.count * cut.size
  pub few : (cut.count ≡ 1) ⊎ ((cut.count - 1) * cut.size < length)
  pub last : cut.last ≡ page_count (head_bytes_in S.format + (length - (cut.count - 1) * cut.size))
