use Rattle.std.proofs.Common.{sym}
use Rattle.cs_frame.specs.Frames.{kind_byte}
use Rattle.cs_frame.specs.MeantFrames.{meant_fault}
use Rattle.cs_chunk.proofs.FrameFaults.{answered, frame_refusal}
use Rattle.cs_chunk.proofs.reads.framed.Goals as goal

pub returns-in-Err-clause-fault : goal.returns-in-Err-clause-fault
returns-in-Err-clause-fault c = answered c.in-Err.fault (meant_fault c.args.format (kind_byte c.args.kind) c.args.mark c.args.pages.items) c.refusal_of_fault.result c.refusal_of_fault.ensures.same (λ ne. sym c.in-Err.ensures.fault)

pub returns-in-Err-clause-refusals : goal.returns-in-Err-clause-refusals
returns-in-Err-clause-refusals c = frame_refusal c.args.format (kind_byte c.args.kind) c.args.mark c.args.pages.items c.in-Err.fault c.refusal_of_fault.result c.refusal_of_fault.ensures.same c.in-Err.ensures.fault
