use Rattle.std.proofs.Common.{List, ℕ, Err, arith}
use Rattle.cs_chunk.specs.Chunks.{end_in}
use Rattle.cs_extent.specs.State.{shape}
use Rattle.cs_frame.specs.Frames.{kind_byte}
use Rattle.cs_chunk.proofs.Framed.{all_fit, all_long, all_meant, answers, end_low, frames_there, of_format, reads_it, spelled_of}
use Rattle.cs_chunk.proofs.reads.frame_at.Goals as goal

pub returns-in-Ok-clause-meant : goal.returns-in-Ok-clause-meant
returns-in-Ok-clause-meant g c =
    all_meant c.args.extents.now c.args.kind c.args.locator c.in-Ok.pages.items (λ v. v) c.framed.result (spelled_of c.format_of.result c.args.extents.now.format (kind_byte c.args.kind) c.in-Ok.pages.items (λ v. v) c.framed.result c.format_of.ensures c.framed.ensures.spelled)
    (of_format c.format_of.result c.args.extents.now.format (kind_byte c.args.kind) c.args.locator.mark c.in-Ok.pages.items c.framed.result c.format_of.ensures c.framed.ensures.fault)

pub returns-in-Ok-clause-payload : goal.returns-in-Ok-clause-payload
returns-in-Ok-clause-payload g c = λ h view are.
    frames_there c.args.extents.now c.in-Ok.ensures.whole view c.args.kind c.args.locator c.requires.page c.in-Ok.pages.items (c.in-Ok.ensures.pages h view are) (λ v. v) c.framed.result (spelled_of c.format_of.result c.args.extents.now.format (kind_byte c.args.kind) c.in-Ok.pages.items (λ v. v) c.framed.result c.format_of.ensures c.framed.ensures.spelled)
    (returns-in-Ok-clause-meant g c)
    (all_long c.args.extents.now c.args.kind c.args.locator c.in-Ok.pages.items (λ v. v) c.framed.result (spelled_of c.format_of.result c.args.extents.now.format (kind_byte c.args.kind) c.in-Ok.pages.items (λ v. v) c.framed.result c.format_of.ensures c.framed.ensures.spelled)
    (of_format c.format_of.result c.args.extents.now.format (kind_byte c.args.kind) c.args.locator.mark c.in-Ok.pages.items c.framed.result c.format_of.ensures c.framed.ensures.fault))

pub returns-in-Ok-clause-fault : goal.returns-in-Ok-clause-fault
returns-in-Ok-clause-fault g c = λ h view are.
    answers c.args.extents.now c.in-Ok.ensures.whole view c.args.kind c.args.locator c.requires.page c.in-Ok.pages.items (c.in-Ok.ensures.pages h view are) c.framed.result
    (of_format c.format_of.result c.args.extents.now.format (kind_byte c.args.kind) c.args.locator.mark c.in-Ok.pages.items c.framed.result c.format_of.ensures c.framed.ensures.fault)

pub returns-in-Ok-clause-read : goal.returns-in-Ok-clause-read
returns-in-Ok-clause-read g c = λ h view payload are there.
    reads_it c.args.extents.now c.in-Ok.ensures.whole view c.args.kind c.args.locator c.requires.page (λ v. v) c.framed.result payload
    (returns-in-Ok-clause-fault g c h view are) (returns-in-Ok-clause-payload g c h view are) there

pub returns-in-Err-clause-read : goal.returns-in-Err-clause-read
returns-in-Err-clause-read g c = λ h view payload are there.
    reads_it c.args.extents.now c.read_frame_pages.ensures.whole view c.args.kind c.args.locator c.requires.page {V = List ℕ} (λ v. v) (Err c.in-Err.refusal) payload (c.in-Err.ensures.fault h view are) tt there

pub returns-in-Ok-clause-reach : goal.returns-in-Ok-clause-reach
returns-in-Ok-clause-reach g c =
    all_fit (shape c.args.extents.now) c.args.kind c.args.locator c.in-Ok.pages.items (λ v. v) c.framed.result (end_in c.args.extents.now c.args.locator) c.in-Ok.ensures.fits (spelled_of c.format_of.result c.args.extents.now.format (kind_byte c.args.kind) c.in-Ok.pages.items (λ v. v) c.framed.result c.format_of.ensures c.framed.ensures.spelled)

pub returns-in-Ok-clause-size : goal.returns-in-Ok-clause-size
returns-in-Ok-clause-size g c =
    all_fit (shape c.args.extents.now) c.args.kind c.args.locator c.in-Ok.pages.items (λ v. v) c.framed.result c.args.extents.now.pages
    (omega (arith, c.in-Ok.ensures.fits, end_low c.args.extents.now c.in-Ok.ensures.whole c.args.locator)) (spelled_of c.format_of.result c.args.extents.now.format (kind_byte c.args.kind) c.in-Ok.pages.items (λ v. v) c.framed.result c.format_of.ensures c.framed.ensures.spelled)
