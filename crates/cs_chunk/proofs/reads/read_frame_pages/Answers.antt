use Rattle.std.proofs.Common.{◌≡◌, ◌∙◌, ◌-◌, ap, arith, subst, sym, inl, inr, IfOk}
use Rattle.cs_chunk.specs.Chunks.{end_in}
use Rattle.cs_chunk.specs.Newest.{IsReadAs}
use Rattle.cs_chunk.specs.Reads.{AreReadAs, IsOfFault, fault_in}
use Rattle.cs_disk.specs.Disk.{State, seen}
use Rattle.cs_frame.specs.declared.formats.FormatNumber.{FormatNumber}
use Rattle.cs_frame.specs.FormatNumbers.{number_in}
use Rattle.cs_frame.specs.Frames.{header_fault, kind_byte, page_count}
use Rattle.cs_chunk.proofs.Framed.{header_refused, fronts_read}
use Rattle.cs_chunk.proofs.FrameFaults.{header_refusal}
use Rattle.cs_chunk.proofs.Lengths.{header_caused}
use Rattle.cs_chunk.proofs.OnlyRead.{all_fit_in, caused_on, no_fault, read_refusal, some_read}
use Rattle.cs_chunk.proofs.reads.read_frame_pages.Goals as goal
use Rattle.cs_disk.proofs.OnlyRead.{reads_on}

pub returns-in-Ok-decode_frame_header-clause-disk : goal.returns-in-Ok-decode_frame_header-clause-disk
returns-in-Ok-decode_frame_header-clause-disk g c = reads_on g.D.PageDisk c.args.disk.now c.read_page.new.disk c.read_pages.new.disk c.read_page.ensures.disk c.read_pages.ensures.disk

pub returns-in-Ok-decode_frame_header-clause-pages : goal.returns-in-Ok-decode_frame_header-clause-pages
returns-in-Ok-decode_frame_header-clause-pages g c = λ h view are.
    let image = seen (g.D.PageDisk.state c.args.disk.now) in
    let same = c.read_page.ensures.disk.same h in
    let first = c.in-Ok.ensures.page h in
    let here = subst (λ (s : State). IsReadAs c.args.graph.now (seen s) c.page_number-number.result c.read_page.new.buffer) (sym same) first in
    let were = subst (λ (s : State). IfOk c.read_pages.result (λ pages. AreReadAs c.args.graph.now (seen s) c.page_number-number.result c.pages.result pages.items)) same (c.read_pages.ensures.pages (c.read_page.ensures.disk.honesty.0 h) here) in
    let counted = c.pages.ensures ∙ ap page_count c.in-Ok-decode_frame_header.ensures.length in
    fronts_read c.args.extents.now c.page_number-number.ensures.whole view c.args.kind c.args.locator c.requires.page c.args.graph.now image are c.page_number-number.result c.page_number-number.ensures.number c.read_page.new.buffer first (λ pages. pages.items) c.read_pages.result c.pages.result counted (omega (arith, c.pages.ensures, c.in-Ok-decode_frame_header.ensures.room, c.from.ensures, c.end_of.ensures.end)) were

pub returns-in-Err-decode_frame_header-clause-fault : goal.returns-in-Err-decode_frame_header-clause-fault
returns-in-Err-decode_frame_header-clause-fault g c = λ h view are.
    let image = seen (g.D.PageDisk.state c.args.disk.now) in
    let there : end_in c.args.extents.now c.args.locator - c.args.locator.page ≡ c.end_of.result - c.from.result = omega (arith, c.from.ensures, c.end_of.ensures.end) in
    inr (
      c.in-Err-decode_frame_header.fault,
      header_refused c.args.extents.now c.page_number-number.ensures.whole view c.args.kind c.args.locator c.requires.page c.args.graph.now image are c.page_number-number.result c.page_number-number.ensures.number c.read_page.new.buffer (c.in-Ok.ensures.page h) c.in-Err-decode_frame_header.fault
          (ap (λ n. header_fault (number_in c.args.extents.now.format) (kind_byte c.args.kind) c.read_page.new.buffer n) there
          ∙ ap (λ (n : FormatNumber). header_fault n (kind_byte c.args.kind) c.read_page.new.buffer (c.end_of.result - c.from.result)) (sym (c.number.ensures.number ∙ ap number_in c.format_of.ensures))
          ∙ sym c.in-Err-decode_frame_header.ensures.fault),
      c.refusal_of_fault.ensures.same,
    )

pub returns-in-Err-clause-fault : goal.returns-in-Err-clause-fault
returns-in-Err-clause-fault g c = λ h view are. inl c.in-Err.ensures.refusals

pub returns-in-Err-clause-refusals : goal.returns-in-Err-clause-refusals
returns-in-Err-clause-refusals g c = inl c.in-Err.ensures.refusals

pub returns-in-Ok-decode_frame_header-clause-fault : goal.returns-in-Ok-decode_frame_header-clause-fault
returns-in-Ok-decode_frame_header-clause-fault g c = λ h view are. no_fault c.read_pages.result (IsOfFault (fault_in c.args.extents.now view c.args.kind c.args.locator)) c.read_pages.ensures.refusals

pub returns-in-Ok-decode_frame_header-clause-refusals : goal.returns-in-Ok-decode_frame_header-clause-refusals
returns-in-Ok-decode_frame_header-clause-refusals g c = read_refusal c.read_pages.result c.read_pages.ensures.refusals

pub returns-in-Ok-decode_frame_header-clause-some : goal.returns-in-Ok-decode_frame_header-clause-some
returns-in-Ok-decode_frame_header-clause-some g c = some_read c.read_pages.result (λ v. v.items) c.pages.result (omega (arith, c.pages.ensures)) c.read_pages.ensures.size

pub returns-in-Ok-decode_frame_header-clause-fits : goal.returns-in-Ok-decode_frame_header-clause-fits
returns-in-Ok-decode_frame_header-clause-fits g c =
    all_fit_in c.read_pages.result (λ v. v.items) c.pages.result c.args.locator.page (end_in c.args.extents.now c.args.locator)
    (omega (arith, c.pages.ensures, c.in-Ok-decode_frame_header.ensures.room, c.from.ensures, c.end_of.ensures.end, c.end_of.ensures.above)) c.read_pages.ensures.size

pub returns-in-Ok-decode_frame_header-clause-cause : goal.returns-in-Ok-decode_frame_header-clause-cause
returns-in-Ok-decode_frame_header-clause-cause g c = caused_on _ _ _ c.read_page.result c.read_pages.result c.read_page.ensures.cause c.read_pages.ensures.cause

pub returns-in-Err-decode_frame_header-clause-refusals : goal.returns-in-Err-decode_frame_header-clause-refusals
returns-in-Err-decode_frame_header-clause-refusals g c = header_refusal c.number.result (kind_byte c.args.kind) c.read_page.new.buffer (c.end_of.result - c.from.result) c.in-Err-decode_frame_header.fault c.refusal_of_fault.result c.refusal_of_fault.ensures.number c.in-Err-decode_frame_header.ensures.fault

pub returns-in-Err-decode_frame_header-clause-cause : goal.returns-in-Err-decode_frame_header-clause-cause
returns-in-Err-decode_frame_header-clause-cause g c = header_caused _ _ c.read_page.result c.in-Err-decode_frame_header.fault c.refusal_of_fault.result c.refusal_of_fault.ensures.same c.read_page.ensures.cause
