use Rattle.std.proofs.Common.{◌∙◌, ◌-◌, Ok, Err, arith, inl, inr, sym}
use Rattle.cs_disk.specs.Disk.{seen}
use Rattle.cs_frame.specs.Frames.{kind_byte}
use Rattle.cs_chunk.proofs.Lengths.{fault_there, header_caused, header_is_refused, mark_or_fault, tells_it, told_there}
use Rattle.cs_chunk.proofs.reads.read_length.Goals as goal

pub returns-in-Ok-decode_meant_header-clause-told : goal.returns-in-Ok-decode_meant_header-clause-told
returns-in-Ok-decode_meant_header-clause-told g c = λ h view are.
    told_there c.args.extents.now c.page_number-number.ensures.whole view c.args.kind c.args.locator c.args.graph.now (seen (g.D.PageDisk.state c.args.disk.now)) are c.page_number-number.result c.page_number-number.ensures.number c.read_page.new.buffer (c.in-Ok.ensures.page h) _ c.in-Ok-decode_meant_header.ensures.length

pub returns-in-Ok-decode_meant_header-clause-header : goal.returns-in-Ok-decode_meant_header-clause-header
returns-in-Ok-decode_meant_header-clause-header g c = λ h view are.
    fault_there c.args.extents.now c.page_number-number.ensures.whole view c.args.kind c.args.locator c.args.graph.now (seen (g.D.PageDisk.state c.args.disk.now)) are c.page_number-number.result c.page_number-number.ensures.number c.read_page.new.buffer (c.in-Ok.ensures.page h) c.format_of.result (c.end_of.result - c.from.result) c.format_of.ensures (omega (arith, c.from.ensures, c.end_of.ensures.end))
    ∙ sym c.in-Ok-decode_meant_header.ensures.fault

pub returns-in-Ok-decode_meant_header-clause-read : goal.returns-in-Ok-decode_meant_header-clause-read
returns-in-Ok-decode_meant_header-clause-read g c = λ h view payload are there.
    tells_it c.args.extents.now c.page_number-number.ensures.whole view c.args.kind c.args.locator (Ok c.in-Ok-decode_meant_header.header.payload_len) payload
    (returns-in-Ok-decode_meant_header-clause-header g c h view are) (returns-in-Ok-decode_meant_header-clause-told g c h view are) there

pub returns-in-Err-decode_meant_header-clause-header : goal.returns-in-Err-decode_meant_header-clause-header
returns-in-Err-decode_meant_header-clause-header g c = λ h view are. inr (
  c.in-Err-decode_meant_header.fault,
  fault_there c.args.extents.now c.page_number-number.ensures.whole view c.args.kind c.args.locator c.args.graph.now (seen (g.D.PageDisk.state c.args.disk.now)) are c.page_number-number.result c.page_number-number.ensures.number c.read_page.new.buffer (c.in-Ok.ensures.page h) c.format_of.result (c.end_of.result - c.from.result) c.format_of.ensures (omega (arith, c.from.ensures, c.end_of.ensures.end))
      ∙ sym c.in-Err-decode_meant_header.ensures.fault,
  c.refusal_of_fault.ensures.same,
)

pub returns-in-Err-decode_meant_header-clause-fault : goal.returns-in-Err-decode_meant_header-clause-fault
returns-in-Err-decode_meant_header-clause-fault g c = λ h view are. inr (
    mark_or_fault c.args.extents.now c.page_number-number.ensures.whole view c.args.kind c.args.locator c.requires.page c.in-Err-decode_meant_header.fault c.refusal_of_fault.result
    (fault_there c.args.extents.now c.page_number-number.ensures.whole view c.args.kind c.args.locator c.args.graph.now (seen (g.D.PageDisk.state c.args.disk.now)) are c.page_number-number.result c.page_number-number.ensures.number c.read_page.new.buffer (c.in-Ok.ensures.page h) c.format_of.result (c.end_of.result - c.from.result) c.format_of.ensures (omega (arith, c.from.ensures, c.end_of.ensures.end))
    ∙ sym c.in-Err-decode_meant_header.ensures.fault) c.refusal_of_fault.ensures.same
    )

pub returns-in-Err-decode_meant_header-clause-read : goal.returns-in-Err-decode_meant_header-clause-read
returns-in-Err-decode_meant_header-clause-read g c = λ h view payload are there.
    tells_it c.args.extents.now c.page_number-number.ensures.whole view c.args.kind c.args.locator (Err c.refusal_of_fault.result) payload
    (returns-in-Err-decode_meant_header-clause-header g c h view are) tt there

pub returns-in-Err-decode_meant_header-clause-refusals : goal.returns-in-Err-decode_meant_header-clause-refusals
returns-in-Err-decode_meant_header-clause-refusals g c = header_is_refused c.format_of.result (kind_byte c.args.kind) c.args.locator.mark c.read_page.new.buffer (c.end_of.result - c.from.result) c.in-Err-decode_meant_header.fault c.refusal_of_fault.result c.refusal_of_fault.ensures.same c.in-Err-decode_meant_header.ensures.fault

pub returns-in-Err-decode_meant_header-clause-cause : goal.returns-in-Err-decode_meant_header-clause-cause
returns-in-Err-decode_meant_header-clause-cause g c = header_caused _ _ c.read_page.result c.in-Err-decode_meant_header.fault c.refusal_of_fault.result c.refusal_of_fault.ensures.same c.read_page.ensures.cause

pub returns-in-Err-clause-fault : goal.returns-in-Err-clause-fault
returns-in-Err-clause-fault g c = λ h view are. inl c.in-Err.ensures.refusals
