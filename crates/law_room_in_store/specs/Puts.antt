-- How many extents the frames of a put fill.
use Rattle.std.specs.Prelude.{ℕ, List}
use Rattle.cs_frame.specs.Formats.{formats_of}
use Rattle.cs_frame.specs.declared.identifiers.ShardId.{ShardId}
use Rattle.cs_index.specs.State.{id_number}
use Rattle.law_machine.specs.Append.{chunk_frames, page_counts}
use Rattle.law_machine.specs.Device.{Shape}
use Rattle.law_machine.specs.Events.{ArePayloads}
use Rattle.law_room.specs.Sweeps.{FillsAtMost}

-- The frames of a put of these bytes fill at most n extents in their order. If each extent takes as many of them as
-- fit, n extents are enough.
abbrev pub FillsExtents : Shape → (n : ℕ) → ShardId → List ℕ → Type 0
FillsExtents S n id bytes = (command : ℕ) (chunks : List (List ℕ)) → ArePayloads S (formats_of S) (id_number id) command bytes chunks
    → FillsAtMost S.pages n (page_counts (chunk_frames S (formats_of S) chunks))
