use Rattle.std.proofs.Common.{inl, inr, ⊎_elim, ap, sym, subst, ◌∙◌, refl}
use Rattle.cs_core.specs.cs_extent.State.{shape}
use Rattle.cs_disk.specs.Disk.{page, seen}
use Rattle.cs_frame.specs.Formats.{formats_of}
use Rattle.law_machine.specs.Geometry.{twins_in}
use Rattle.law_machine.specs.Recovery.{Recovers}
use Rattle.cs_reader.proofs.Loading.{passed}
use Rattle.cs_twin.specs.Laws.{only_pairs}
use Rattle.cs_twin.specs.Paired.{state_shown}
use Rattle.cs_mount.specs.Seals.{IsQuiet}
use Rattle.cs_mount.specs.StorePairs.{store_version}
use Rattle.cs_mount.proofs.Closing.{done_again, done_recovers, honest_there, not_done_recovers, not_unsettled, seal_left, seal_refused, seal_state, still_left}
use Rattle.cs_mount.proofs.seals.seal.Goals as goal

pub returns-then-not-twins-clause-recovers : goal.returns-then-not-twins-clause-recovers
returns-then-not-twins-clause-recovers g c = λ h n m r. subst (λ (z : _). Recovers (shape c.args.core.store.extents) (formats_of (shape c.args.core.store.extents)) (page (seen (state_shown z))) n m) (sym c.into_disk-disk.ensures) r

pub returns-then-not-twins-clause-crash : goal.returns-then-not-twins-clause-crash
returns-then-not-twins-clause-crash g c = λ h. still_left _ c.args.core c.progress.ensures.core c.into_disk-disk.result c.into_disk-disk.ensures h (λ image left. let p = c.args.core.disk in only_pairs (store_version p.rules.geometry) p.pairs.items (g.D.PageDisk.state p.disk) (p.shows h) (g.D.PageDisk.left_since p.disk) (g.D.PageDisk.moment p.disk) (λ below is. g.met.D.PageDisk.only_now p.disk below h is) image left)

pub returns-then-not-quiet-clause-recovers : goal.returns-then-not-quiet-clause-recovers
returns-then-not-quiet-clause-recovers g c = λ h n m r. subst (λ (z : _). Recovers (shape c.args.core.store.extents) (formats_of (shape c.args.core.store.extents)) (page (seen (state_shown z))) n m) (sym c.into_disk-disk.ensures) r

pub returns-then-not-quiet-clause-crash : goal.returns-then-not-quiet-clause-crash
returns-then-not-quiet-clause-crash g c = λ h. still_left _ c.args.core c.progress.ensures.core c.into_disk-disk.result c.into_disk-disk.ensures h (λ image left. let p = c.args.core.disk in only_pairs (store_version p.rules.geometry) p.pairs.items (g.D.PageDisk.state p.disk) (p.shows h) (g.D.PageDisk.left_since p.disk) (g.D.PageDisk.moment p.disk) (λ below is. g.met.D.PageDisk.only_now p.disk below h is) image left)

pub returns-then-not-quiet-clause-refused : goal.returns-then-not-quiet-clause-refused
returns-then-not-quiet-clause-refused g c = λ h. inl (ap (λ z. state_shown z) c.into_disk-disk.ensures)

pub returns-in-Ok-clause-sealed : goal.returns-in-Ok-clause-sealed
returns-in-Ok-clause-sealed g c = λ h twins. seal_state _ c.args.core c.progress.ensures.core c.into_disk-disk.result c.into_disk-disk.ensures h c.reseal.new.disk ((passed (IsQuiet c.args.core.store) (¬ IsQuiet c.args.core.store) c.is_quiet-quiet.result c.is_quiet-quiet.ensures c.if-not-quiet.false)).none_out (c.in-Ok.ensures.sealed (honest_there _ c.args.core c.progress.ensures.core c.into_disk-disk.result c.into_disk-disk.ensures h))

pub returns-in-Ok-clause-recovers : goal.returns-in-Ok-clause-recovers
returns-in-Ok-clause-recovers g c = λ h n m r. done_recovers _ c.args.core c.progress.ensures.core c.into_disk-disk.result c.into_disk-disk.ensures h c.reseal.new.disk c.progress.ensures.whole.geometry (sym (ap twins_in (c.format.ensures.format ∙ c.geometry.ensures.format ∙ ap (λ x. (shape x).format) c.extents.ensures)) ∙ sym c.has_twins-twins.ensures ∙ c.if-not-twins.false) n m r (c.in-Ok.ensures.sealed (honest_there _ c.args.core c.progress.ensures.core c.into_disk-disk.result c.into_disk-disk.ensures h))

pub returns-in-Ok-clause-again : goal.returns-in-Ok-clause-again
returns-in-Ok-clause-again g c = λ h twins n m r.
    let new = c.reseal.new.disk in
    done_again _ c.args.core c.progress.ensures.core c.into_disk-disk.result c.into_disk-disk.ensures h new c.progress.ensures.whole.geometry (sym (ap twins_in (c.format.ensures.format ∙ c.geometry.ensures.format ∙ ap (λ x. (shape x).format) c.extents.ensures)) ∙ sym c.has_twins-twins.ensures ∙ c.if-not-twins.false) n m r ((passed (IsQuiet c.args.core.store) (¬ IsQuiet c.args.core.store) c.is_quiet-quiet.result c.is_quiet-quiet.ensures c.if-not-quiet.false)).none_out (c.in-Ok.ensures.sealed (honest_there _ c.args.core c.progress.ensures.core c.into_disk-disk.result c.into_disk-disk.ensures h))
    new.rules.geometry new.pairs.items (g.D.PageDisk.state new.disk) (g.D.PageDisk.page_count new.disk) (c.reseal.ensures.pages ∙ ap (λ z. g.D.PageDisk.page_count z.disk) c.into_disk-disk.ensures)
    (new.fit (c.reseal.ensures.honest.0 (honest_there _ c.args.core c.progress.ensures.core c.into_disk-disk.result c.into_disk-disk.ensures h))).durable refl

pub returns-in-Ok-clause-crash : goal.returns-in-Ok-clause-crash
returns-in-Ok-clause-crash g c = λ h. seal_left _ c.args.core c.progress.ensures.core c.into_disk-disk.result c.into_disk-disk.ensures h c.reseal.new.disk ((passed (IsQuiet c.args.core.store) (¬ IsQuiet c.args.core.store) c.is_quiet-quiet.result c.is_quiet-quiet.ensures c.if-not-quiet.false)).none_out (c.reseal.ensures.crash (honest_there _ c.args.core c.progress.ensures.core c.into_disk-disk.result c.into_disk-disk.ensures h))

pub returns-in-Ok-clause-calls : goal.returns-in-Ok-clause-calls
returns-in-Ok-clause-calls g c = rw (← c.into_disk-disk.ensures) (λ h twins. c.in-Ok.ensures.calls h)

pub returns-in-Ok-clause-honest : goal.returns-in-Ok-clause-honest
returns-in-Ok-clause-honest g c = rw (← c.into_disk-disk.ensures) c.reseal.ensures.honest

pub returns-in-Err-clause-waits : goal.returns-in-Err-clause-waits
returns-in-Err-clause-waits g c = λ twins waits. absurd (waits (passed (IsQuiet c.args.core.store) (¬ IsQuiet c.args.core.store) c.is_quiet-quiet.result c.is_quiet-quiet.ensures c.if-not-quiet.false))

pub returns-in-Err-clause-quiet : goal.returns-in-Err-clause-quiet
returns-in-Err-clause-quiet g c = λ is. absurd (not_unsettled c.in-Err.refusal c.in-Err.ensures.number is)

pub returns-in-Err-clause-refused : goal.returns-in-Err-clause-refused
returns-in-Err-clause-refused g c = λ h. seal_refused _ c.args.core c.progress.ensures.core c.into_disk-disk.result c.into_disk-disk.ensures h c.reseal.new.disk (c.in-Err.ensures.refused (honest_there _ c.args.core c.progress.ensures.core c.into_disk-disk.result c.into_disk-disk.ensures h))

pub returns-in-Err-clause-recovers : goal.returns-in-Err-clause-recovers
returns-in-Err-clause-recovers g c = λ h n m r. not_done_recovers _ c.args.core c.progress.ensures.core c.into_disk-disk.result c.into_disk-disk.ensures h c.reseal.new.disk c.progress.ensures.whole.geometry (sym (ap twins_in (c.format.ensures.format ∙ c.geometry.ensures.format ∙ ap (λ x. (shape x).format) c.extents.ensures)) ∙ sym c.has_twins-twins.ensures ∙ c.if-not-twins.false) n m r (c.in-Err.ensures.refused (honest_there _ c.args.core c.progress.ensures.core c.into_disk-disk.result c.into_disk-disk.ensures h))

pub returns-in-Err-clause-crash : goal.returns-in-Err-clause-crash
returns-in-Err-clause-crash g c = λ h. seal_left _ c.args.core c.progress.ensures.core c.into_disk-disk.result c.into_disk-disk.ensures h c.reseal.new.disk ((passed (IsQuiet c.args.core.store) (¬ IsQuiet c.args.core.store) c.is_quiet-quiet.result c.is_quiet-quiet.ensures c.if-not-quiet.false)).none_out (c.reseal.ensures.crash (honest_there _ c.args.core c.progress.ensures.core c.into_disk-disk.result c.into_disk-disk.ensures h))

pub returns-in-Err-clause-calls : goal.returns-in-Err-clause-calls
returns-in-Err-clause-calls g c = rw (← c.into_disk-disk.ensures) (λ h twins. c.in-Err.ensures.calls h)

pub returns-in-Err-clause-why : goal.returns-in-Err-clause-why
returns-in-Err-clause-why g c = rw (← c.into_disk-disk.ensures) (λ h. ⊎_elim (λ none. inl none) (λ why. inr (inr why)) (c.in-Err.ensures.why h))

pub returns-in-Err-clause-number : goal.returns-in-Err-clause-number
returns-in-Err-clause-number g c = ⊎_elim (λ opening. inl opening) (λ worn. inr (inr worn)) c.in-Err.ensures.number

pub returns-in-Err-clause-honest : goal.returns-in-Err-clause-honest
returns-in-Err-clause-honest g c = rw (← c.into_disk-disk.ensures) c.reseal.ensures.honest
