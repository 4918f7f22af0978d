use Rattle.std.proofs.Common.{◌∙◌, ap}
use Rattle.std.specs.Prelude.{map}
use Rattle.cs_chunk.specs.Cuts.{pieces}
use Rattle.cs_chunk.proofs.Pieces.{heads_begun, heads_done, heads_pushed}
use Rattle.cs_extent.specs.State.{shape}
use Rattle.cs_frame.specs.FormatNumbers.{number_in}
use Rattle.cs_frame.specs.Formats.{formats_of}
use Rattle.cs_frame.specs.Frames.{spelled_frame}
use Rattle.cs_frame.specs.Heads.{chunk_in}
use Rattle.cs_frame.specs.Identifiers.{id_number}
use Rattle.law_machine.specs.Events.{headed}
use Rattle.law_machine.specs.Format.{Format}
use Rattle.cs_chunk.proofs.chunk_puts.encode_chunks.Goals as goal

pub loop-number-init : goal.loop-number-init
loop-number-init c =
    heads_begun (formats_of (shape c.args.extents.now)) (λ f. f.items) (spelled_frame (number_in c.args.extents.now.format) 0) (id_number c.args.origin.id) c.args.cut.count c.args.origin.command c.in_ok-frames.frames.items c.args.cut.size c.args.cut.count c.args.bytes.now c.in_ok-frames.ensures.items

pub loop-number-preserved : goal.loop-number-preserved
loop-number-preserved c =
    heads_pushed (formats_of (shape c.args.extents.now)) (λ f. f.items) (spelled_frame (number_in c.args.extents.now.format) 0) (id_number c.args.origin.id) c.args.cut.count c.args.origin.command c.loop-number.frames.items c.push.new.self.items c.in_ok-encode_chunk.field-0 c.args.cut.size c.args.cut.count c.loop-number.number c.min.result _ c.loop-number.rest.now c.split_at.result.0.now c.split_at.result.1.now
    c.loop-number-test.true c.in_ok-push.ensures.items
    (c.in_ok-encode_chunk.ensures.spelled ∙ ap (λ (f : Format). spelled_frame (number_in f) 0 (chunk_in f (id_number c.args.origin.id) c.loop-number.number c.args.cut.count c.args.origin.command c.split_at.result.0.now)) c.format_of-format.ensures)
    c.min.ensures c.split_at.ensures.front c.split_at.ensures.back c.loop-number.invariant

pub returns : goal.returns
returns c =
    heads_done (formats_of (shape c.args.extents.now)) (spelled_frame (number_in c.args.extents.now.format) 0) (id_number c.args.origin.id) c.args.cut.count c.args.origin.command c.args.cut.size c.args.cut.count c.loop-number.number _
    (map (spelled_frame (number_in c.args.extents.now.format) 0) (headed (formats_of (shape c.args.extents.now)) (id_number c.args.origin.id) 0 c.args.cut.count c.args.origin.command (pieces c.args.cut.size c.args.cut.count c.args.bytes.now))) c.loop-number.rest.now c.loop-number-test.false c.loop-number.invariant
