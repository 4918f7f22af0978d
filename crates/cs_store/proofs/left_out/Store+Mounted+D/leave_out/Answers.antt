use Rattle.std.proofs.Common.{◌≡◌, ◌≤◌, ℕ, Err, ap, inl, inr, refl, subst, sym, ◌∙◌}
use Rattle.cs_disk.specs.Disk.{LeavesOnly, Rises, page, seen}
use Rattle.cs_extent.specs.State.{shape}
use Rattle.cs_frame.specs.Formats.{formats_of}
use Rattle.cs_mount.proofs.Closing.{still_leaves}
use Rattle.cs_mount.specs.LeftOut.{IsAtRest, IsLeftOut, IsRowWorn, LeavesTheMap, NoneDamagedOn}
use Rattle.cs_mount.specs.StorePairs.{store_version}
use Rattle.cs_refusal.specs.declared.refusals.Refusal.TheVariants.{DeviceFault, Unsettled, WornOut}
use Rattle.cs_twin.specs.Laws.{only_pairs}
use Rattle.cs_twin.specs.Paired.{disk_below, failures_of, left_as_shown, moment_of, state_shown}
use Rattle.law_machine.specs.Element.{Map}
use Rattle.law_machine.specs.Recovery.{Recovers}
use Rattle.cs_store.specs.LeftOut.{IsWhyNotLeftOut, dimensions_in}
use Rattle.cs_store.specs.Maps.{HasMap}
use Rattle.cs_store.proofs.LeavingOut.{never_refused}
use Rattle.cs_store.proofs.left_out.Store+Mounted+D.leave_out.Goals as goal

-- ---- nothing is done

pub returns-then-not-has_twins-clause-keeps : goal.returns-then-not-has_twins-clause-keeps
returns-then-not-has_twins-clause-keeps g c = λ h n m found whole.
    let p = c.args.self.disk in
    subst (λ z. LeavesOnly moment_of left_as_shown p z (LeavesTheMap (state_shown p) (shape c.args.self.store.extents) n m)) (sym c.close-older.ensures)
    (still_leaves moment_of left_as_shown p (LeavesTheMap (state_shown p) (shape c.args.self.store.extents) n m)
    (λ image left. inl (only_pairs (store_version p.rules.geometry) p.pairs.items (g.D.PageDisk.state p.disk) (p.shows h) (g.D.PageDisk.left_since p.disk) (g.D.PageDisk.moment p.disk) (λ below is. g.met.D.PageDisk.only_now p.disk below h is) image left)))

pub returns-then-extent-from-clause-keeps : goal.returns-then-extent-from-clause-keeps
returns-then-extent-from-clause-keeps g c = λ h n m found whole.
    let p = c.args.self.disk in
    subst (λ z. LeavesOnly moment_of left_as_shown p z (LeavesTheMap (state_shown p) (shape c.args.self.store.extents) n m)) (sym c.close-missing.ensures)
    (still_leaves moment_of left_as_shown p (LeavesTheMap (state_shown p) (shape c.args.self.store.extents) n m)
    (λ image left. inl (only_pairs (store_version p.rules.geometry) p.pairs.items (g.D.PageDisk.state p.disk) (p.shows h) (g.D.PageDisk.left_since p.disk) (g.D.PageDisk.moment p.disk) (λ below is. g.met.D.PageDisk.only_now p.disk below h is) image left)))

-- ---- it is closed, and opened again

pub returns-in-Ok-clause-left_out : goal.returns-in-Ok-clause-left_out
returns-in-Ok-clause-left_out g c =
    subst (λ z. g.D.PageDisk.honest (disk_below z.disk) → (n : ℕ) (m : Map) (found : Recovers (shape z.store.extents) (formats_of (shape z.store.extents)) (page (seen (state_shown z.disk))) n m) → IsLeftOut (dimensions_in (shape z.store.extents)) c.args.extent found.runs (seen (state_shown z.disk)) c.in-Ok.core.opened)
    c.into_core.ensures c.in-Ok.ensures.left_out

pub returns-in-Ok-clause-map : goal.returns-in-Ok-clause-map
returns-in-Ok-clause-map g c =
    subst (λ z. g.D.PageDisk.honest (disk_below z.disk) → (n : ℕ) (m : Map) (found : Recovers (shape z.store.extents) (formats_of (shape z.store.extents)) (page (seen (state_shown z.disk))) n m) → NoneDamagedOn (shape z.store.extents) (formats_of (shape z.store.extents)) (seen (state_shown z.disk)) found.runs found.pointers found.generations c.args.extent
    → (shape c.in-Ok.core.store.extents ≡ shape z.store.extents) × (c.in-Ok.core.found.0 ≡ n) × HasMap c.in-Ok.core m)
    c.into_core.ensures c.in-Ok.ensures.map

pub returns-in-Ok-clause-keeps : goal.returns-in-Ok-clause-keeps
returns-in-Ok-clause-keeps g c =
    subst (λ z. g.D.PageDisk.honest (disk_below z.disk) → (n : ℕ) (m : Map) (found : Recovers (shape z.store.extents) (formats_of (shape z.store.extents)) (page (seen (state_shown z.disk))) n m) → NoneDamagedOn (shape z.store.extents) (formats_of (shape z.store.extents)) (seen (state_shown z.disk)) found.runs found.pointers found.generations c.args.extent
    → LeavesOnly moment_of left_as_shown z.disk c.in-Ok.core.disk (LeavesTheMap (state_shown z.disk) (shape z.store.extents) n m))
    c.into_core.ensures c.in-Ok.ensures.keeps

pub returns-in-Err-clause-keeps : goal.returns-in-Err-clause-keeps
returns-in-Err-clause-keeps g c =
    subst (λ z. g.D.PageDisk.honest (disk_below z.disk) → (n : ℕ) (m : Map) (found : Recovers (shape z.store.extents) (formats_of (shape z.store.extents)) (page (seen (state_shown z.disk))) n m) → NoneDamagedOn (shape z.store.extents) (formats_of (shape z.store.extents)) (seen (state_shown z.disk)) found.runs found.pointers found.generations c.args.extent
    → LeavesOnly moment_of left_as_shown z.disk c.in-Err.refused.1 (LeavesTheMap (state_shown z.disk) (shape z.store.extents) n m))
    c.into_core.ensures c.in-Err.ensures.keeps

pub returns-in-Err-clause-why : goal.returns-in-Err-clause-why
returns-in-Err-clause-why g c =
    subst (λ z. g.D.PageDisk.honest (disk_below z.disk) → (n : ℕ) (m : Map) (found : Recovers (shape z.store.extents) (formats_of (shape z.store.extents)) (page (seen (state_shown z.disk))) n m) → NoneDamagedOn (shape z.store.extents) (formats_of (shape z.store.extents)) (seen (state_shown z.disk)) found.runs found.pointers found.generations c.args.extent → IsWhyNotLeftOut c.in-Err.refused.0)
    c.into_core.ensures c.in-Err.ensures.why

pub returns-in-Err-clause-there : goal.returns-in-Err-clause-there
returns-in-Err-clause-there g c = λ is. inr (subst (λ z. (shape z.store.extents).extents ≤ c.args.extent) c.into_core.ensures (c.in-Err.ensures.there is))

-- ---- why it is refused

pub returns-then-not-has_twins-clause-number : goal.returns-then-not-has_twins-clause-number
returns-then-not-has_twins-clause-number g c = inr (inr (inl refl))

pub returns-then-extent-from-clause-number : goal.returns-then-extent-from-clause-number
returns-then-extent-from-clause-number g c = inr (inr (inl refl))

pub returns-in-Ok-clause-waits : goal.returns-in-Ok-clause-waits
returns-in-Ok-clause-waits g c = λ twins there waits.
    absurd (never_refused c.in-Ok.core (Unsettled, c.into_core.result.disk) (c.in-Ok.ensures.waits (subst (λ z. ¬ IsAtRest z.store) (sym c.into_core.ensures) waits)))

pub returns-in-Err-clause-waits : goal.returns-in-Err-clause-waits
returns-in-Err-clause-waits g c = λ twins there waits.
    c.in-Err.ensures.waits (subst (λ z. ¬ IsAtRest z.store) (sym c.into_core.ensures) waits) ∙ ap (λ z. Err (Unsettled, z.disk)) c.into_core.ensures

pub returns-in-Err-clause-rests : goal.returns-in-Err-clause-rests
returns-in-Err-clause-rests g c = λ is. subst (λ z. ¬ IsAtRest z.store) c.into_core.ensures (c.in-Err.ensures.rests is)

pub returns-in-Err-clause-worn : goal.returns-in-Err-clause-worn
returns-in-Err-clause-worn g c =
    subst (λ z. g.D.PageDisk.honest (disk_below z.disk) → (n : ℕ) (m : Map) → Recovers (shape z.store.extents) (formats_of (shape z.store.extents)) (page (seen (state_shown z.disk))) n m → c.in-Err.refused.0 ≡ WornOut
    → IsRowWorn (dimensions_in (shape z.store.extents)) c.args.extent (seen (state_shown z.disk)))
    c.into_core.ensures c.in-Err.ensures.worn

pub returns-in-Err-clause-number : goal.returns-in-Err-clause-number
returns-in-Err-clause-number g c = c.in-Err.ensures.number

pub returns-in-Err-clause-cause : goal.returns-in-Err-clause-cause
returns-in-Err-clause-cause g c = subst (λ z. c.in-Err.refused.0 ≡ DeviceFault → Rises (failures_of z.disk) (failures_of c.in-Err.refused.1)) c.into_core.ensures c.in-Err.ensures.cause
