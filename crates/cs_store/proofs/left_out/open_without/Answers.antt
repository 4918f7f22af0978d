use Rattle.std.proofs.Common.{Err, ap, inl, inr, length, sym, subst, ◌∙◌}
use Rattle.cs_disk.specs.Disk.{Image, MayLeave, page, seen}
use Rattle.cs_extent.specs.State.{shape}
use Rattle.cs_frame.specs.Formats.{formats_of}
use Rattle.cs_mount.proofs.Closing.{not_unsettled}
use Rattle.cs_mount.specs.LeftOut.{IsLeftOut, IsRowWorn, LeavesTheMap}
use Rattle.cs_refusal.specs.declared.refusals.Refusal.TheVariants.{Unsettled}
use Rattle.cs_twin.specs.Paired.{failures_of, left_as_shown, moment_of, state_shown}
use Rattle.law_machine.specs.Recovery.{Recovers}
use Rattle.cs_store.specs.LeftOut.{dimensions_in}
use Rattle.cs_store.proofs.Fenced.{leaves_then}
use Rattle.cs_store.proofs.LeavingOut.{never_refused, opening_unworn, settled_leaves, why_of, worn_of}
use Rattle.cs_store.proofs.Maps.{opened_map}
use Rattle.cs_store.proofs.Readied.{rises_from, same_Err}
use Rattle.cs_store.proofs.left_out.open_without.Goals as goal

pub returns-in-Ok-open-clause-left_out : goal.returns-in-Ok-open-clause-left_out
returns-in-Ok-open-clause-left_out g c = λ h n m found.
    subst (λ (image : Image). IsLeftOut (dimensions_in (shape c.args.core.store.extents)) c.args.extent found.runs (seen (state_shown c.args.core.disk)) image)
    (sym (c.in-Ok-open.ensures.image (c.in-Ok.ensures.honest.0 h)).0) (c.in-Ok.ensures.left_out h c.requires n m found).0

pub returns-in-Ok-open-clause-map : goal.returns-in-Ok-open-clause-map
returns-in-Ok-open-clause-map g c = λ h n m found whole.
    let x = c.args.core.store.extents in
    let after = c.in-Ok.ensures.honest.0 h in
    let recovers : Recovers (shape x) (formats_of (shape x)) (page (seen (state_shown c.in-Ok.disk))) n m = c.in-Ok.ensures.recovers h n m found whole in
    let is = c.in-Ok-open.ensures.recovers after x.format (length x.written) x.pages x.sections c.progress.ensures.whole.geometry (c.in-Ok.ensures.pages ∙ c.progress.ensures.core.device) n m recovers in
    (is.0, is.1, opened_map c.in-Ok-open.left (shape x) (seen (state_shown c.in-Ok.disk)) n m is.0 (c.in-Ok-open.ensures.image after).0 is.1 c.in-Ok-open.ensures.new.0 recovers)

pub returns-in-Ok-open-clause-keeps : goal.returns-in-Ok-open-clause-keeps
returns-in-Ok-open-clause-keeps g c = λ h n m found whole.
    let core = c.args.core in
    let mid = c.in-Ok.disk in
    leaves_then moment_of left_as_shown core.disk mid c.in-Ok-open.left.disk (LeavesTheMap (state_shown core.disk) (shape core.store.extents) n m) (MayLeave (state_shown mid))
    (settled_leaves (state_shown mid) (LeavesTheMap (state_shown core.disk) (shape core.store.extents) n m) (c.in-Ok.ensures.left_out h c.requires n m found).1 (inr (c.in-Ok.ensures.recovers h n m found whole)))
    (c.in-Ok.ensures.keeps h n m found whole) (c.in-Ok-open.ensures.crash (c.in-Ok.ensures.honest.0 h))

pub returns-in-Ok-open-clause-honest : goal.returns-in-Ok-open-clause-honest
returns-in-Ok-open-clause-honest g c = ((λ h. c.in-Ok-open.ensures.honest.0 (c.in-Ok.ensures.honest.0 h)), (λ h. c.in-Ok.ensures.honest.1 (c.in-Ok-open.ensures.honest.1 h)))

pub returns-in-Err-open-clause-keeps : goal.returns-in-Err-open-clause-keeps
returns-in-Err-open-clause-keeps g c = λ h n m found whole.
    let core = c.args.core in
    let mid = c.in-Ok.disk in
    leaves_then moment_of left_as_shown core.disk mid c.in-Err-open.refused.1 (LeavesTheMap (state_shown core.disk) (shape core.store.extents) n m) (MayLeave (state_shown mid))
    (settled_leaves (state_shown mid) (LeavesTheMap (state_shown core.disk) (shape core.store.extents) n m) (c.in-Ok.ensures.left_out h c.requires n m found).1 (inr (c.in-Ok.ensures.recovers h n m found whole)))
    (c.in-Ok.ensures.keeps h n m found whole) (c.in-Err-open.ensures.crash (c.in-Ok.ensures.honest.0 h))

pub returns-in-Err-open-clause-why : goal.returns-in-Err-open-clause-why
returns-in-Err-open-clause-why g c = λ h n m found whole.
    let x = c.args.core.store.extents in
    inl (c.in-Err-open.ensures.recovers (c.in-Ok.ensures.honest.0 h) x.format (length x.written) x.pages x.sections c.progress.ensures.whole.geometry (c.in-Ok.ensures.pages ∙ c.progress.ensures.core.device) n m
    (c.in-Ok.ensures.recovers h n m found whole))

pub returns-in-Err-open-clause-honest : goal.returns-in-Err-open-clause-honest
returns-in-Err-open-clause-honest g c = ((λ h. c.in-Err-open.ensures.honest.0 (c.in-Ok.ensures.honest.0 h)), (λ h. c.in-Ok.ensures.honest.1 (c.in-Err-open.ensures.honest.1 h)))

pub returns-in-Err-clause-why : goal.returns-in-Err-clause-why
returns-in-Err-clause-why g c = λ h n m found whole. why_of c.in-Err.refused.0 _ (c.in-Err.ensures.why h n m found)

-- ---- why it is refused

pub returns-in-Ok-open-clause-waits : goal.returns-in-Ok-open-clause-waits
returns-in-Ok-open-clause-waits g c = λ waits. absurd (never_refused c.in-Ok.disk (Unsettled, c.args.core.disk) (c.in-Ok.ensures.waits c.requires waits))

pub returns-in-Err-open-clause-waits : goal.returns-in-Err-open-clause-waits
returns-in-Err-open-clause-waits g c = λ waits. absurd (never_refused c.in-Ok.disk (Unsettled, c.args.core.disk) (c.in-Ok.ensures.waits c.requires waits))

pub returns-in-Err-open-clause-rests : goal.returns-in-Err-open-clause-rests
returns-in-Err-open-clause-rests g c = λ is. absurd (not_unsettled c.in-Err-open.refused.0 (inl c.in-Err-open.ensures.number) is)

pub returns-in-Err-open-clause-worn : goal.returns-in-Err-open-clause-worn
returns-in-Err-open-clause-worn g c = λ h n m found is. absurd (opening_unworn c.in-Err-open.refused.0 c.in-Err-open.ensures.number is)

pub returns-in-Err-open-clause-number : goal.returns-in-Err-open-clause-number
returns-in-Err-open-clause-number g c = inl c.in-Err-open.ensures.number

pub returns-in-Err-open-clause-cause : goal.returns-in-Err-open-clause-cause
returns-in-Err-open-clause-cause g c = λ is.
    rises_from (failures_of c.args.core.disk) (failures_of c.in-Ok.disk) (failures_of c.in-Err-open.refused.1) c.in-Ok.ensures.later (c.in-Err-open.ensures.cause is)

pub returns-in-Err-clause-waits : goal.returns-in-Err-clause-waits
returns-in-Err-clause-waits g c = λ waits. ap (λ it. Err it) (same_Err c.in-Err.refused (Unsettled, c.args.core.disk) (c.in-Err.ensures.waits c.requires waits))

pub returns-in-Err-clause-worn : goal.returns-in-Err-clause-worn
returns-in-Err-clause-worn g c = λ h n m found is.
    worn_of c.in-Err.refused.0 (IsRowWorn (dimensions_in (shape c.args.core.store.extents)) c.args.extent (seen (state_shown c.args.core.disk))) (c.in-Err.ensures.why h n m found) is

pub returns-in-Err-clause-number : goal.returns-in-Err-clause-number
returns-in-Err-clause-number g c = c.in-Err.ensures.number

pub returns-in-Err-clause-cause : goal.returns-in-Err-clause-cause
returns-in-Err-clause-cause g c = c.in-Err.ensures.cause
