use Rattle.std.proofs.Common.{◌+◌, ◌≤◌, List, ℕ, length}
use Rattle.cs_chunk.specs.Chunks.{IsFrameIn, IsMeant, end_in, kind_of}
use Rattle.cs_chunk.specs.Reads.{fault_in}
use Rattle.cs_extent.specs.State.{shape}
use Rattle.cs_frame.specs.Formats.{formats_of}
use Rattle.cs_chunk.proofs.Copied.{copied_answers, copied_ok, copied_read, copied_refusal}
use Rattle.cs_chunk.proofs.reads.read_frame.Goals as goal

pub returns-in-Ok-clause-payload : goal.returns-in-Ok-clause-payload
returns-in-Ok-clause-payload g c = λ h view are.
    copied_ok c.in-Ok.frame (λ v. v.items) (λ (payload : List ℕ). IsFrameIn c.args.extents.now view (kind_of c.args.kind) c.args.locator payload) c.copied.result (c.in-Ok.ensures.payload h view are) c.copied.ensures.same

pub returns-in-Ok-clause-read : goal.returns-in-Ok-clause-read
returns-in-Ok-clause-read g c = λ h view payload are there.
    copied_read c.in-Ok.frame (λ v. v.items) payload c.copied.result (c.in-Ok.ensures.read h view payload are there) c.copied.ensures.same c.copied.ensures.memory

pub returns-in-Ok-clause-fault : goal.returns-in-Ok-clause-fault
returns-in-Ok-clause-fault g c = λ h view are.
    copied_answers (fault_in c.args.extents.now view c.args.kind c.args.locator) c.copied.result (c.in-Ok.ensures.fault h view are) c.copied.ensures.memory

pub returns-in-Ok-clause-refusals : goal.returns-in-Ok-clause-refusals
returns-in-Ok-clause-refusals g c = copied_refusal c.copied.result c.copied.ensures.memory

pub returns-in-Ok-clause-reach : goal.returns-in-Ok-clause-reach
returns-in-Ok-clause-reach g c =
    let S = shape c.args.extents.now in
    copied_ok c.in-Ok.frame (λ v. v.items) (λ (payload : List ℕ). c.args.locator.page + length ((formats_of S).frame (kind_of c.args.kind) payload) ≤ end_in c.args.extents.now c.args.locator) c.copied.result c.in-Ok.ensures.reach c.copied.ensures.same

pub returns-in-Ok-clause-size : goal.returns-in-Ok-clause-size
returns-in-Ok-clause-size g c =
    let S = shape c.args.extents.now in
    copied_ok c.in-Ok.frame (λ v. v.items) (λ (payload : List ℕ). c.args.locator.page + length ((formats_of S).frame (kind_of c.args.kind) payload) ≤ S.pages) c.copied.result c.in-Ok.ensures.size c.copied.ensures.same

pub returns-in-Ok-clause-meant : goal.returns-in-Ok-clause-meant
returns-in-Ok-clause-meant g c =
    copied_ok c.in-Ok.frame (λ v. v.items) (IsMeant (shape c.args.extents.now) (kind_of c.args.kind) c.args.locator) c.copied.result c.in-Ok.ensures.meant c.copied.ensures.same
