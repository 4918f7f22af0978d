use Rattle.std.proofs.Common.{◌≡◌, ◌-◌, ◌++◌}
use Rattle.std.specs.Prelude.{map}
use Rattle.cs_chunk.specs.Cuts.{pieces}
use Rattle.cs_extent.specs.State.{shape}
use Rattle.cs_frame.specs.FormatNumbers.{number_in}
use Rattle.cs_frame.specs.Formats.{formats_of}
use Rattle.cs_frame.specs.Frames.{spelled_frame}
use Rattle.cs_frame.specs.Identifiers.{id_number}
use Rattle.law_machine.specs.Events.{headed}
use Rattle.cs_chunk.proofs.chunk_puts.encode_chunks.Given as goal

abbrev pub invariant-loop-number : goal.invariant-loop-number
invariant-loop-number l =
    map (λ f. f.items) l.frames.items ++ map (spelled_frame (number_in (shape l.extents).format) 0) (headed (formats_of (shape l.extents)) (id_number l.origin.id) l.number l.cut.count l.origin.command (pieces l.cut.size (l.cut.count - l.number) l.rest))
    ≡ map (spelled_frame (number_in (shape l.extents).format) 0) (headed (formats_of (shape l.extents)) (id_number l.origin.id) 0 l.cut.count l.origin.command (pieces l.cut.size l.cut.count l.bytes))
