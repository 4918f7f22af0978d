use Rattle.std.proofs.Common.{sym, ◌∙◌}
use Rattle.cs_frame.specs.Frames.{kind_byte}
use Rattle.cs_frame.proofs.FrameLaws.{frame_fault-spelled, payload_is_read, spells}
use Rattle.cs_frame.proofs.TestLaws.{some_and_none}
use Rattle.cs_frame.proofs.frames.decode_frame.Goals as goal

pub returns-in_err-payload-clause-read : goal.returns-in_err-payload-clause-read
returns-in_err-payload-clause-read c = λ payload s. some_and_none c.in_err-payload.ensures.fault (frame_fault-spelled c.args.number (kind_byte c.args.kind) c.args.pages.now payload s)

pub returns-clause-spelled : goal.returns-clause-spelled
returns-clause-spelled c = spells c.args.number (kind_byte c.args.kind) c.args.pages.now _ c.in_ok-payload.ensures.pages c.in_ok-payload.ensures.bytes (sym c.in_ok-payload.ensures.fault) (c.in_ok-from_slice.ensures.items ∙ c.in_ok-payload.ensures.payload)

pub returns-clause-read : goal.returns-clause-read
returns-clause-read c = λ payload s. c.in_ok-from_slice.ensures.items ∙ c.in_ok-payload.ensures.payload ∙ payload_is_read c.args.number (kind_byte c.args.kind) c.args.pages.now payload s
