use Rattle.std.proofs.Common.{inl, inr, ⊎_elim, List, MatchBool, ap, sym, subst, ◌∙◌, refl, arith}
use Rattle.cs_core.specs.cs_chunk.Reads.{IsNoAnswer}
use Rattle.cs_core.specs.cs_extent.State.{shape}
use Rattle.cs_disk.specs.Disk.{page, seen}
use Rattle.cs_frame.specs.Formats.{formats_of}
use Rattle.law_machine.specs.Element.{Run}
use Rattle.law_machine.specs.Geometry.{twins_in}
use Rattle.law_machine.specs.Recovery.{Recovers}
use Rattle.cs_reader.proofs.Loading.{passed}
use Rattle.cs_twin.specs.Laws.{only_pairs}
use Rattle.cs_twin.specs.Paired.{state_shown}
use Rattle.cs_mount.specs.LeftOut.{IsAtRest, IsLeftOut, NothingOn}
use Rattle.cs_mount.specs.StorePairs.{store_version}
use Rattle.cs_mount.specs.Torn.{dimensions_of}
use Rattle.cs_mount.proofs.Closing.{honest_there, just_when, not_unsettled, not_unswept}
use Rattle.cs_mount.proofs.Leaving.{calls_at_most, calls_in_all, crossed_again, crossed_keeps, crossed_left, crossed_or_same, crossed_out, crossed_recovers_then, not_crossed_recovers, of_disk, opened_out, opened_same, same_dimensions, section_whole, still_out, worn_here}
use Rattle.cs_mount.proofs.left_out.leave_out.Goals as goal

pub returns-then-not-has_twins-clause-recovers : goal.returns-then-not-has_twins-clause-recovers
returns-then-not-has_twins-clause-recovers g c = λ h n m found whole. subst (λ (z : _). Recovers (shape c.args.core.store.extents) (formats_of (shape c.args.core.store.extents)) (page (seen (state_shown z))) n m) (sym c.into_disk-disk.ensures) found

pub returns-then-not-has_twins-clause-crash : goal.returns-then-not-has_twins-clause-crash
returns-then-not-has_twins-clause-crash g c = λ h n m found. still_out _ c.args.core c.progress.ensures.core c.into_disk-disk.result c.into_disk-disk.ensures (λ image. IsLeftOut (dimensions_of c.args.core.store.extents) c.args.extent found.runs (seen (state_shown c.args.core.disk)) image) (λ image left. let p = c.args.core.disk in only_pairs (store_version p.rules.geometry) p.pairs.items (g.D.PageDisk.state p.disk) (p.shows h) (g.D.PageDisk.left_since p.disk) (g.D.PageDisk.moment p.disk) (λ below is. g.met.D.PageDisk.only_now p.disk below h is) image left)

pub returns-then-not-has_twins-clause-keeps : goal.returns-then-not-has_twins-clause-keeps
returns-then-not-has_twins-clause-keeps g c = λ h n m found whole. still_out _ c.args.core c.progress.ensures.core c.into_disk-disk.result c.into_disk-disk.ensures (λ image. Recovers (shape c.args.core.store.extents) (formats_of (shape c.args.core.store.extents)) (page image) n m) (λ image left. let p = c.args.core.disk in only_pairs (store_version p.rules.geometry) p.pairs.items (g.D.PageDisk.state p.disk) (p.shows h) (g.D.PageDisk.left_since p.disk) (g.D.PageDisk.moment p.disk) (λ below is. g.met.D.PageDisk.only_now p.disk below h is) image left)

pub returns-then-not-rests-clause-recovers : goal.returns-then-not-rests-clause-recovers
returns-then-not-rests-clause-recovers g c = λ h n m found whole. subst (λ (z : _). Recovers (shape c.args.core.store.extents) (formats_of (shape c.args.core.store.extents)) (page (seen (state_shown z))) n m) (sym c.into_disk-disk.ensures) found

pub returns-then-not-rests-clause-crash : goal.returns-then-not-rests-clause-crash
returns-then-not-rests-clause-crash g c = λ h n m found. still_out _ c.args.core c.progress.ensures.core c.into_disk-disk.result c.into_disk-disk.ensures (λ image. IsLeftOut (dimensions_of c.args.core.store.extents) c.args.extent found.runs (seen (state_shown c.args.core.disk)) image) (λ image left. let p = c.args.core.disk in only_pairs (store_version p.rules.geometry) p.pairs.items (g.D.PageDisk.state p.disk) (p.shows h) (g.D.PageDisk.left_since p.disk) (g.D.PageDisk.moment p.disk) (λ below is. g.met.D.PageDisk.only_now p.disk below h is) image left)

pub returns-then-not-rests-clause-keeps : goal.returns-then-not-rests-clause-keeps
returns-then-not-rests-clause-keeps g c = λ h n m found whole. still_out _ c.args.core c.progress.ensures.core c.into_disk-disk.result c.into_disk-disk.ensures (λ image. Recovers (shape c.args.core.store.extents) (formats_of (shape c.args.core.store.extents)) (page image) n m) (λ image left. let p = c.args.core.disk in only_pairs (store_version p.rules.geometry) p.pairs.items (g.D.PageDisk.state p.disk) (p.shows h) (g.D.PageDisk.left_since p.disk) (g.D.PageDisk.moment p.disk) (λ below is. g.met.D.PageDisk.only_now p.disk below h is) image left)

pub returns-then-extent-from-clause-recovers : goal.returns-then-extent-from-clause-recovers
returns-then-extent-from-clause-recovers g c = λ h n m found whole. subst (λ (z : _). Recovers (shape c.args.core.store.extents) (formats_of (shape c.args.core.store.extents)) (page (seen (state_shown z))) n m) (sym c.into_disk-disk.ensures) found

pub returns-then-extent-from-clause-crash : goal.returns-then-extent-from-clause-crash
returns-then-extent-from-clause-crash g c = λ h n m found. still_out _ c.args.core c.progress.ensures.core c.into_disk-disk.result c.into_disk-disk.ensures (λ image. IsLeftOut (dimensions_of c.args.core.store.extents) c.args.extent found.runs (seen (state_shown c.args.core.disk)) image) (λ image left. let p = c.args.core.disk in only_pairs (store_version p.rules.geometry) p.pairs.items (g.D.PageDisk.state p.disk) (p.shows h) (g.D.PageDisk.left_since p.disk) (g.D.PageDisk.moment p.disk) (λ below is. g.met.D.PageDisk.only_now p.disk below h is) image left)

pub returns-then-extent-from-clause-keeps : goal.returns-then-extent-from-clause-keeps
returns-then-extent-from-clause-keeps g c = λ h n m found whole. still_out _ c.args.core c.progress.ensures.core c.into_disk-disk.result c.into_disk-disk.ensures (λ image. Recovers (shape c.args.core.store.extents) (formats_of (shape c.args.core.store.extents)) (page image) n m) (λ image left. let p = c.args.core.disk in only_pairs (store_version p.rules.geometry) p.pairs.items (g.D.PageDisk.state p.disk) (p.shows h) (g.D.PageDisk.left_since p.disk) (g.D.PageDisk.moment p.disk) (λ below is. g.met.D.PageDisk.only_now p.disk below h is) image left)

pub returns-then-not-rests-clause-refused : goal.returns-then-not-rests-clause-refused
returns-then-not-rests-clause-refused g c = λ h n m found. inl (ap (λ z. seen (state_shown z)) c.into_disk-disk.ensures)

pub returns-then-extent-from-clause-refused : goal.returns-then-extent-from-clause-refused
returns-then-extent-from-clause-refused g c = λ h n m found. inl (ap (λ z. seen (state_shown z)) c.into_disk-disk.ensures)

pub returns-in-Ok-cross_out-clause-left_out : goal.returns-in-Ok-cross_out-clause-left_out
returns-in-Ok-cross_out-clause-left_out g c = λ h twins n m found. crossed_out _ c.args.core c.progress.ensures.core c.progress.ensures.whole.geometry (sym (ap twins_in (c.format.ensures.format ∙ c.geometry-geometry.ensures.format ∙ ap (λ x. (shape x).format) c.extents.ensures)) ∙ sym c.has_twins.ensures ∙ c.if-not-has_twins.false) c.into_disk-disk.result c.into_disk-disk.ensures c.in-Ok.disk c.cross_out.new.disk (c.in-Ok.ensures.kept (honest_there _ c.args.core c.progress.ensures.core c.into_disk-disk.result c.into_disk-disk.ensures h)) c.geometry-geometry.result (same_dimensions c.args.core.store.extents c.geometry-geometry.result (c.geometry-geometry.ensures.format ∙ ap (λ x. (shape x).format) c.extents.ensures) (c.geometry-geometry.ensures.extents ∙ ap (λ x. (shape x).extents) c.extents.ensures) (c.geometry-geometry.ensures.pages ∙ ap (λ x. (shape x).pages) c.extents.ensures) (c.geometry-geometry.ensures.sections ∙ ap (λ x. (shape x).sections) c.extents.ensures)) n m found c.args.extent (omega (arith, c.if-extent-from.false, c.from.ensures, c.extents-2.ensures, c.geometry-geometry.ensures.extents, ap (λ x. (shape x).extents) c.extents.ensures)) c.in-Ok.lives (of_disk _ c.args.core c.progress.ensures.core c.progress.ensures.whole.geometry (sym (ap twins_in (c.format.ensures.format ∙ c.geometry-geometry.ensures.format ∙ ap (λ x. (shape x).format) c.extents.ensures)) ∙ sym c.has_twins.ensures ∙ c.if-not-has_twins.false) c.into_disk-disk.result c.into_disk-disk.ensures (λ (runs : List Run). MatchBool c.in-Ok.lives (¬ NothingOn runs c.args.extent) (NothingOn runs c.args.extent)) (c.in-Ok.ensures.lives (honest_there _ c.args.core c.progress.ensures.core c.into_disk-disk.result c.into_disk-disk.ensures h)) n m found) (c.in-Ok-cross_out.ensures.crossed (c.in-Ok.ensures.honest.0 (honest_there _ c.args.core c.progress.ensures.core c.into_disk-disk.result c.into_disk-disk.ensures h)))

pub returns-in-Ok-cross_out-clause-recovers : goal.returns-in-Ok-cross_out-clause-recovers
returns-in-Ok-cross_out-clause-recovers g c = λ h n m found whole. crossed_recovers_then _ c.args.core c.progress.ensures.core c.progress.ensures.whole.geometry (sym (ap twins_in (c.format.ensures.format ∙ c.geometry-geometry.ensures.format ∙ ap (λ x. (shape x).format) c.extents.ensures)) ∙ sym c.has_twins.ensures ∙ c.if-not-has_twins.false) c.into_disk-disk.result c.into_disk-disk.ensures c.in-Ok.disk c.cross_out.new.disk (c.in-Ok.ensures.kept (honest_there _ c.args.core c.progress.ensures.core c.into_disk-disk.result c.into_disk-disk.ensures h)) c.geometry-geometry.result (same_dimensions c.args.core.store.extents c.geometry-geometry.result (c.geometry-geometry.ensures.format ∙ ap (λ x. (shape x).format) c.extents.ensures) (c.geometry-geometry.ensures.extents ∙ ap (λ x. (shape x).extents) c.extents.ensures) (c.geometry-geometry.ensures.pages ∙ ap (λ x. (shape x).pages) c.extents.ensures) (c.geometry-geometry.ensures.sections ∙ ap (λ x. (shape x).sections) c.extents.ensures)) n m found c.args.extent (omega (arith, c.if-extent-from.false, c.from.ensures, c.extents-2.ensures, c.geometry-geometry.ensures.extents, ap (λ x. (shape x).extents) c.extents.ensures)) c.in-Ok.lives (of_disk _ c.args.core c.progress.ensures.core c.progress.ensures.whole.geometry (sym (ap twins_in (c.format.ensures.format ∙ c.geometry-geometry.ensures.format ∙ ap (λ x. (shape x).format) c.extents.ensures)) ∙ sym c.has_twins.ensures ∙ c.if-not-has_twins.false) c.into_disk-disk.result c.into_disk-disk.ensures (λ (runs : List Run). MatchBool c.in-Ok.lives (¬ NothingOn runs c.args.extent) (NothingOn runs c.args.extent)) (c.in-Ok.ensures.lives (honest_there _ c.args.core c.progress.ensures.core c.into_disk-disk.result c.into_disk-disk.ensures h)) n m found) whole (c.in-Ok-cross_out.ensures.crossed (c.in-Ok.ensures.honest.0 (honest_there _ c.args.core c.progress.ensures.core c.into_disk-disk.result c.into_disk-disk.ensures h)))

pub returns-in-Ok-cross_out-clause-again : goal.returns-in-Ok-cross_out-clause-again
returns-in-Ok-cross_out-clause-again g c = λ h twins n m found.
    let new = c.cross_out.new.disk in
    crossed_again _ c.args.core c.progress.ensures.core c.progress.ensures.whole.geometry (sym (ap twins_in (c.format.ensures.format ∙ c.geometry-geometry.ensures.format ∙ ap (λ x. (shape x).format) c.extents.ensures)) ∙ sym c.has_twins.ensures ∙ c.if-not-has_twins.false) c.into_disk-disk.result c.into_disk-disk.ensures c.in-Ok.disk c.cross_out.new.disk (c.in-Ok.ensures.kept (honest_there _ c.args.core c.progress.ensures.core c.into_disk-disk.result c.into_disk-disk.ensures h)) c.geometry-geometry.result (same_dimensions c.args.core.store.extents c.geometry-geometry.result (c.geometry-geometry.ensures.format ∙ ap (λ x. (shape x).format) c.extents.ensures) (c.geometry-geometry.ensures.extents ∙ ap (λ x. (shape x).extents) c.extents.ensures) (c.geometry-geometry.ensures.pages ∙ ap (λ x. (shape x).pages) c.extents.ensures) (c.geometry-geometry.ensures.sections ∙ ap (λ x. (shape x).sections) c.extents.ensures)) n m found c.args.extent (omega (arith, c.if-extent-from.false, c.from.ensures, c.extents-2.ensures, c.geometry-geometry.ensures.extents, ap (λ x. (shape x).extents) c.extents.ensures)) c.in-Ok.lives (c.in-Ok-cross_out.ensures.crossed (c.in-Ok.ensures.honest.0 (honest_there _ c.args.core c.progress.ensures.core c.into_disk-disk.result c.into_disk-disk.ensures h))) new.rules.geometry new.pairs.items (g.D.PageDisk.state new.disk) (g.D.PageDisk.page_count new.disk)
    (c.cross_out.ensures.pages ∙ c.in-Ok.ensures.pages ∙ ap (λ z. g.D.PageDisk.page_count z.disk) c.into_disk-disk.ensures) (new.fit (c.cross_out.ensures.honest.0 (c.in-Ok.ensures.honest.0 (honest_there _ c.args.core c.progress.ensures.core c.into_disk-disk.result c.into_disk-disk.ensures h)))).durable refl

pub returns-in-Ok-cross_out-clause-crash : goal.returns-in-Ok-cross_out-clause-crash
returns-in-Ok-cross_out-clause-crash g c = λ h n m found. crossed_left _ c.args.core c.progress.ensures.core c.progress.ensures.whole.geometry (sym (ap twins_in (c.format.ensures.format ∙ c.geometry-geometry.ensures.format ∙ ap (λ x. (shape x).format) c.extents.ensures)) ∙ sym c.has_twins.ensures ∙ c.if-not-has_twins.false) c.into_disk-disk.result c.into_disk-disk.ensures c.in-Ok.disk c.cross_out.new.disk (c.in-Ok.ensures.kept (honest_there _ c.args.core c.progress.ensures.core c.into_disk-disk.result c.into_disk-disk.ensures h)) c.geometry-geometry.result (same_dimensions c.args.core.store.extents c.geometry-geometry.result (c.geometry-geometry.ensures.format ∙ ap (λ x. (shape x).format) c.extents.ensures) (c.geometry-geometry.ensures.extents ∙ ap (λ x. (shape x).extents) c.extents.ensures) (c.geometry-geometry.ensures.pages ∙ ap (λ x. (shape x).pages) c.extents.ensures) (c.geometry-geometry.ensures.sections ∙ ap (λ x. (shape x).sections) c.extents.ensures)) n m found c.args.extent (omega (arith, c.if-extent-from.false, c.from.ensures, c.extents-2.ensures, c.geometry-geometry.ensures.extents, ap (λ x. (shape x).extents) c.extents.ensures)) c.in-Ok.lives (of_disk _ c.args.core c.progress.ensures.core c.progress.ensures.whole.geometry (sym (ap twins_in (c.format.ensures.format ∙ c.geometry-geometry.ensures.format ∙ ap (λ x. (shape x).format) c.extents.ensures)) ∙ sym c.has_twins.ensures ∙ c.if-not-has_twins.false) c.into_disk-disk.result c.into_disk-disk.ensures (λ (runs : List Run). MatchBool c.in-Ok.lives (¬ NothingOn runs c.args.extent) (NothingOn runs c.args.extent)) (c.in-Ok.ensures.lives (honest_there _ c.args.core c.progress.ensures.core c.into_disk-disk.result c.into_disk-disk.ensures h)) n m found) (c.in-Ok.ensures.crash (honest_there _ c.args.core c.progress.ensures.core c.into_disk-disk.result c.into_disk-disk.ensures h)) (c.cross_out.ensures.crash (c.in-Ok.ensures.honest.0 (honest_there _ c.args.core c.progress.ensures.core c.into_disk-disk.result c.into_disk-disk.ensures h)))

pub returns-in-Ok-cross_out-clause-keeps : goal.returns-in-Ok-cross_out-clause-keeps
returns-in-Ok-cross_out-clause-keeps g c = λ h n m found whole. crossed_keeps _ c.args.core c.progress.ensures.core c.progress.ensures.whole.geometry (sym (ap twins_in (c.format.ensures.format ∙ c.geometry-geometry.ensures.format ∙ ap (λ x. (shape x).format) c.extents.ensures)) ∙ sym c.has_twins.ensures ∙ c.if-not-has_twins.false) c.into_disk-disk.result c.into_disk-disk.ensures c.in-Ok.disk c.cross_out.new.disk (c.in-Ok.ensures.kept (honest_there _ c.args.core c.progress.ensures.core c.into_disk-disk.result c.into_disk-disk.ensures h)) c.geometry-geometry.result (same_dimensions c.args.core.store.extents c.geometry-geometry.result (c.geometry-geometry.ensures.format ∙ ap (λ x. (shape x).format) c.extents.ensures) (c.geometry-geometry.ensures.extents ∙ ap (λ x. (shape x).extents) c.extents.ensures) (c.geometry-geometry.ensures.pages ∙ ap (λ x. (shape x).pages) c.extents.ensures) (c.geometry-geometry.ensures.sections ∙ ap (λ x. (shape x).sections) c.extents.ensures)) n m found c.args.extent (omega (arith, c.if-extent-from.false, c.from.ensures, c.extents-2.ensures, c.geometry-geometry.ensures.extents, ap (λ x. (shape x).extents) c.extents.ensures)) c.in-Ok.lives (of_disk _ c.args.core c.progress.ensures.core c.progress.ensures.whole.geometry (sym (ap twins_in (c.format.ensures.format ∙ c.geometry-geometry.ensures.format ∙ ap (λ x. (shape x).format) c.extents.ensures)) ∙ sym c.has_twins.ensures ∙ c.if-not-has_twins.false) c.into_disk-disk.result c.into_disk-disk.ensures (λ (runs : List Run). MatchBool c.in-Ok.lives (¬ NothingOn runs c.args.extent) (NothingOn runs c.args.extent)) (c.in-Ok.ensures.lives (honest_there _ c.args.core c.progress.ensures.core c.into_disk-disk.result c.into_disk-disk.ensures h)) n m found) whole (c.in-Ok.ensures.crash (honest_there _ c.args.core c.progress.ensures.core c.into_disk-disk.result c.into_disk-disk.ensures h)) (c.cross_out.ensures.crash (c.in-Ok.ensures.honest.0 (honest_there _ c.args.core c.progress.ensures.core c.into_disk-disk.result c.into_disk-disk.ensures h)))

pub returns-in-Ok-cross_out-clause-calls : goal.returns-in-Ok-cross_out-clause-calls
returns-in-Ok-cross_out-clause-calls g c = λ h twins. calls_in_all _ _ _ _ (ap (λ z. g.D.PageDisk.moment z.disk) c.into_disk-disk.ensures) (c.in-Ok.ensures.calls (honest_there _ c.args.core c.progress.ensures.core c.into_disk-disk.result c.into_disk-disk.ensures h)) (c.in-Ok-cross_out.ensures.calls (c.in-Ok.ensures.honest.0 (honest_there _ c.args.core c.progress.ensures.core c.into_disk-disk.result c.into_disk-disk.ensures h)))

pub returns-in-Err-cross_out-clause-refused : goal.returns-in-Err-cross_out-clause-refused
returns-in-Err-cross_out-clause-refused g c = λ h n m found. crossed_or_same _ c.args.core c.progress.ensures.core c.progress.ensures.whole.geometry (sym (ap twins_in (c.format.ensures.format ∙ c.geometry-geometry.ensures.format ∙ ap (λ x. (shape x).format) c.extents.ensures)) ∙ sym c.has_twins.ensures ∙ c.if-not-has_twins.false) c.into_disk-disk.result c.into_disk-disk.ensures c.in-Ok.disk c.cross_out.new.disk (c.in-Ok.ensures.kept (honest_there _ c.args.core c.progress.ensures.core c.into_disk-disk.result c.into_disk-disk.ensures h)) c.geometry-geometry.result (same_dimensions c.args.core.store.extents c.geometry-geometry.result (c.geometry-geometry.ensures.format ∙ ap (λ x. (shape x).format) c.extents.ensures) (c.geometry-geometry.ensures.extents ∙ ap (λ x. (shape x).extents) c.extents.ensures) (c.geometry-geometry.ensures.pages ∙ ap (λ x. (shape x).pages) c.extents.ensures) (c.geometry-geometry.ensures.sections ∙ ap (λ x. (shape x).sections) c.extents.ensures)) n m found c.args.extent (omega (arith, c.if-extent-from.false, c.from.ensures, c.extents-2.ensures, c.geometry-geometry.ensures.extents, ap (λ x. (shape x).extents) c.extents.ensures)) c.in-Ok.lives (of_disk _ c.args.core c.progress.ensures.core c.progress.ensures.whole.geometry (sym (ap twins_in (c.format.ensures.format ∙ c.geometry-geometry.ensures.format ∙ ap (λ x. (shape x).format) c.extents.ensures)) ∙ sym c.has_twins.ensures ∙ c.if-not-has_twins.false) c.into_disk-disk.result c.into_disk-disk.ensures (λ (runs : List Run). MatchBool c.in-Ok.lives (¬ NothingOn runs c.args.extent) (NothingOn runs c.args.extent)) (c.in-Ok.ensures.lives (honest_there _ c.args.core c.progress.ensures.core c.into_disk-disk.result c.into_disk-disk.ensures h)) n m found) (c.in-Err-cross_out.ensures.refused (c.in-Ok.ensures.honest.0 (honest_there _ c.args.core c.progress.ensures.core c.into_disk-disk.result c.into_disk-disk.ensures h)))

pub returns-in-Err-cross_out-clause-recovers : goal.returns-in-Err-cross_out-clause-recovers
returns-in-Err-cross_out-clause-recovers g c = λ h n m found whole. not_crossed_recovers _ c.args.core c.progress.ensures.core c.progress.ensures.whole.geometry (sym (ap twins_in (c.format.ensures.format ∙ c.geometry-geometry.ensures.format ∙ ap (λ x. (shape x).format) c.extents.ensures)) ∙ sym c.has_twins.ensures ∙ c.if-not-has_twins.false) c.into_disk-disk.result c.into_disk-disk.ensures c.in-Ok.disk c.cross_out.new.disk (c.in-Ok.ensures.kept (honest_there _ c.args.core c.progress.ensures.core c.into_disk-disk.result c.into_disk-disk.ensures h)) c.geometry-geometry.result (same_dimensions c.args.core.store.extents c.geometry-geometry.result (c.geometry-geometry.ensures.format ∙ ap (λ x. (shape x).format) c.extents.ensures) (c.geometry-geometry.ensures.extents ∙ ap (λ x. (shape x).extents) c.extents.ensures) (c.geometry-geometry.ensures.pages ∙ ap (λ x. (shape x).pages) c.extents.ensures) (c.geometry-geometry.ensures.sections ∙ ap (λ x. (shape x).sections) c.extents.ensures)) n m found c.args.extent (omega (arith, c.if-extent-from.false, c.from.ensures, c.extents-2.ensures, c.geometry-geometry.ensures.extents, ap (λ x. (shape x).extents) c.extents.ensures)) c.in-Ok.lives (of_disk _ c.args.core c.progress.ensures.core c.progress.ensures.whole.geometry (sym (ap twins_in (c.format.ensures.format ∙ c.geometry-geometry.ensures.format ∙ ap (λ x. (shape x).format) c.extents.ensures)) ∙ sym c.has_twins.ensures ∙ c.if-not-has_twins.false) c.into_disk-disk.result c.into_disk-disk.ensures (λ (runs : List Run). MatchBool c.in-Ok.lives (¬ NothingOn runs c.args.extent) (NothingOn runs c.args.extent)) (c.in-Ok.ensures.lives (honest_there _ c.args.core c.progress.ensures.core c.into_disk-disk.result c.into_disk-disk.ensures h)) n m found) whole (c.in-Err-cross_out.ensures.refused (c.in-Ok.ensures.honest.0 (honest_there _ c.args.core c.progress.ensures.core c.into_disk-disk.result c.into_disk-disk.ensures h)))

pub returns-in-Err-cross_out-clause-crash : goal.returns-in-Err-cross_out-clause-crash
returns-in-Err-cross_out-clause-crash g c = λ h n m found. crossed_left _ c.args.core c.progress.ensures.core c.progress.ensures.whole.geometry (sym (ap twins_in (c.format.ensures.format ∙ c.geometry-geometry.ensures.format ∙ ap (λ x. (shape x).format) c.extents.ensures)) ∙ sym c.has_twins.ensures ∙ c.if-not-has_twins.false) c.into_disk-disk.result c.into_disk-disk.ensures c.in-Ok.disk c.cross_out.new.disk (c.in-Ok.ensures.kept (honest_there _ c.args.core c.progress.ensures.core c.into_disk-disk.result c.into_disk-disk.ensures h)) c.geometry-geometry.result (same_dimensions c.args.core.store.extents c.geometry-geometry.result (c.geometry-geometry.ensures.format ∙ ap (λ x. (shape x).format) c.extents.ensures) (c.geometry-geometry.ensures.extents ∙ ap (λ x. (shape x).extents) c.extents.ensures) (c.geometry-geometry.ensures.pages ∙ ap (λ x. (shape x).pages) c.extents.ensures) (c.geometry-geometry.ensures.sections ∙ ap (λ x. (shape x).sections) c.extents.ensures)) n m found c.args.extent (omega (arith, c.if-extent-from.false, c.from.ensures, c.extents-2.ensures, c.geometry-geometry.ensures.extents, ap (λ x. (shape x).extents) c.extents.ensures)) c.in-Ok.lives (of_disk _ c.args.core c.progress.ensures.core c.progress.ensures.whole.geometry (sym (ap twins_in (c.format.ensures.format ∙ c.geometry-geometry.ensures.format ∙ ap (λ x. (shape x).format) c.extents.ensures)) ∙ sym c.has_twins.ensures ∙ c.if-not-has_twins.false) c.into_disk-disk.result c.into_disk-disk.ensures (λ (runs : List Run). MatchBool c.in-Ok.lives (¬ NothingOn runs c.args.extent) (NothingOn runs c.args.extent)) (c.in-Ok.ensures.lives (honest_there _ c.args.core c.progress.ensures.core c.into_disk-disk.result c.into_disk-disk.ensures h)) n m found) (c.in-Ok.ensures.crash (honest_there _ c.args.core c.progress.ensures.core c.into_disk-disk.result c.into_disk-disk.ensures h)) (c.cross_out.ensures.crash (c.in-Ok.ensures.honest.0 (honest_there _ c.args.core c.progress.ensures.core c.into_disk-disk.result c.into_disk-disk.ensures h)))

pub returns-in-Err-cross_out-clause-keeps : goal.returns-in-Err-cross_out-clause-keeps
returns-in-Err-cross_out-clause-keeps g c = λ h n m found whole. crossed_keeps _ c.args.core c.progress.ensures.core c.progress.ensures.whole.geometry (sym (ap twins_in (c.format.ensures.format ∙ c.geometry-geometry.ensures.format ∙ ap (λ x. (shape x).format) c.extents.ensures)) ∙ sym c.has_twins.ensures ∙ c.if-not-has_twins.false) c.into_disk-disk.result c.into_disk-disk.ensures c.in-Ok.disk c.cross_out.new.disk (c.in-Ok.ensures.kept (honest_there _ c.args.core c.progress.ensures.core c.into_disk-disk.result c.into_disk-disk.ensures h)) c.geometry-geometry.result (same_dimensions c.args.core.store.extents c.geometry-geometry.result (c.geometry-geometry.ensures.format ∙ ap (λ x. (shape x).format) c.extents.ensures) (c.geometry-geometry.ensures.extents ∙ ap (λ x. (shape x).extents) c.extents.ensures) (c.geometry-geometry.ensures.pages ∙ ap (λ x. (shape x).pages) c.extents.ensures) (c.geometry-geometry.ensures.sections ∙ ap (λ x. (shape x).sections) c.extents.ensures)) n m found c.args.extent (omega (arith, c.if-extent-from.false, c.from.ensures, c.extents-2.ensures, c.geometry-geometry.ensures.extents, ap (λ x. (shape x).extents) c.extents.ensures)) c.in-Ok.lives (of_disk _ c.args.core c.progress.ensures.core c.progress.ensures.whole.geometry (sym (ap twins_in (c.format.ensures.format ∙ c.geometry-geometry.ensures.format ∙ ap (λ x. (shape x).format) c.extents.ensures)) ∙ sym c.has_twins.ensures ∙ c.if-not-has_twins.false) c.into_disk-disk.result c.into_disk-disk.ensures (λ (runs : List Run). MatchBool c.in-Ok.lives (¬ NothingOn runs c.args.extent) (NothingOn runs c.args.extent)) (c.in-Ok.ensures.lives (honest_there _ c.args.core c.progress.ensures.core c.into_disk-disk.result c.into_disk-disk.ensures h)) n m found) whole (c.in-Ok.ensures.crash (honest_there _ c.args.core c.progress.ensures.core c.into_disk-disk.result c.into_disk-disk.ensures h)) (c.cross_out.ensures.crash (c.in-Ok.ensures.honest.0 (honest_there _ c.args.core c.progress.ensures.core c.into_disk-disk.result c.into_disk-disk.ensures h)))

pub returns-in-Err-cross_out-clause-calls : goal.returns-in-Err-cross_out-clause-calls
returns-in-Err-cross_out-clause-calls g c = λ h twins. calls_at_most _ _ _ _ (ap (λ z. g.D.PageDisk.moment z.disk) c.into_disk-disk.ensures) (c.in-Ok.ensures.calls (honest_there _ c.args.core c.progress.ensures.core c.into_disk-disk.result c.into_disk-disk.ensures h)) (c.in-Err-cross_out.ensures.calls (c.in-Ok.ensures.honest.0 (honest_there _ c.args.core c.progress.ensures.core c.into_disk-disk.result c.into_disk-disk.ensures h)))

pub returns-in-Err-cross_out-clause-why : goal.returns-in-Err-cross_out-clause-why
returns-in-Err-cross_out-clause-why g c = λ h n m found. ⊎_elim (λ none. inl none) (λ worn. inr (inr (inr (worn.0, worn_here _ c.args.core c.progress.ensures.core c.progress.ensures.whole.geometry (sym (ap twins_in (c.format.ensures.format ∙ c.geometry-geometry.ensures.format ∙ ap (λ x. (shape x).format) c.extents.ensures)) ∙ sym c.has_twins.ensures ∙ c.if-not-has_twins.false) c.into_disk-disk.result c.into_disk-disk.ensures c.in-Ok.disk c.cross_out.new.disk (c.in-Ok.ensures.kept (honest_there _ c.args.core c.progress.ensures.core c.into_disk-disk.result c.into_disk-disk.ensures h)) c.geometry-geometry.result (same_dimensions c.args.core.store.extents c.geometry-geometry.result (c.geometry-geometry.ensures.format ∙ ap (λ x. (shape x).format) c.extents.ensures) (c.geometry-geometry.ensures.extents ∙ ap (λ x. (shape x).extents) c.extents.ensures) (c.geometry-geometry.ensures.pages ∙ ap (λ x. (shape x).pages) c.extents.ensures) (c.geometry-geometry.ensures.sections ∙ ap (λ x. (shape x).sections) c.extents.ensures)) n m found c.args.extent (omega (arith, c.if-extent-from.false, c.from.ensures, c.extents-2.ensures, c.geometry-geometry.ensures.extents, ap (λ x. (shape x).extents) c.extents.ensures)) c.in-Ok.lives worn.1)))) (c.in-Err-cross_out.ensures.why (c.in-Ok.ensures.honest.0 (honest_there _ c.args.core c.progress.ensures.core c.into_disk-disk.result c.into_disk-disk.ensures h)) (section_whole _ c.args.core c.progress.ensures.core c.progress.ensures.whole.geometry (sym (ap twins_in (c.format.ensures.format ∙ c.geometry-geometry.ensures.format ∙ ap (λ x. (shape x).format) c.extents.ensures)) ∙ sym c.has_twins.ensures ∙ c.if-not-has_twins.false) c.into_disk-disk.result c.into_disk-disk.ensures c.in-Ok.disk c.cross_out.new.disk (c.in-Ok.ensures.kept (honest_there _ c.args.core c.progress.ensures.core c.into_disk-disk.result c.into_disk-disk.ensures h)) c.geometry-geometry.result (same_dimensions c.args.core.store.extents c.geometry-geometry.result (c.geometry-geometry.ensures.format ∙ ap (λ x. (shape x).format) c.extents.ensures) (c.geometry-geometry.ensures.extents ∙ ap (λ x. (shape x).extents) c.extents.ensures) (c.geometry-geometry.ensures.pages ∙ ap (λ x. (shape x).pages) c.extents.ensures) (c.geometry-geometry.ensures.sections ∙ ap (λ x. (shape x).sections) c.extents.ensures)) n m found c.args.extent (omega (arith, c.if-extent-from.false, c.from.ensures, c.extents-2.ensures, c.geometry-geometry.ensures.extents, ap (λ x. (shape x).extents) c.extents.ensures)) c.in-Ok.lives))

pub returns-in-Err-cross_out-clause-rests : goal.returns-in-Err-cross_out-clause-rests
returns-in-Err-cross_out-clause-rests g c = λ is. absurd (not_unsettled c.in-Err-cross_out.refusal c.in-Err-cross_out.ensures.number is)

pub returns-in-Err-cross_out-clause-waits : goal.returns-in-Err-cross_out-clause-waits
returns-in-Err-cross_out-clause-waits g c = λ twins waits. absurd (waits (passed (IsAtRest c.args.core.store) (¬ IsAtRest c.args.core.store) c.is_at_rest-rests.result c.is_at_rest-rests.ensures c.if-not-rests.false))

pub returns-in-Err-clause-refused : goal.returns-in-Err-clause-refused
returns-in-Err-clause-refused g c = λ h n m found. inl (opened_same _ c.args.core c.progress.ensures.core c.into_disk-disk.result c.in-Err.refused.1 c.into_disk-disk.ensures (c.in-Err.ensures.kept (honest_there _ c.args.core c.progress.ensures.core c.into_disk-disk.result c.into_disk-disk.ensures h)))

pub returns-in-Err-clause-recovers : goal.returns-in-Err-clause-recovers
returns-in-Err-clause-recovers g c = λ h n m found whole. subst (λ (z : _). Recovers (shape c.args.core.store.extents) (formats_of (shape c.args.core.store.extents)) (page z) n m) (sym (opened_same _ c.args.core c.progress.ensures.core c.into_disk-disk.result c.in-Err.refused.1 c.into_disk-disk.ensures (c.in-Err.ensures.kept (honest_there _ c.args.core c.progress.ensures.core c.into_disk-disk.result c.into_disk-disk.ensures h)))) found

pub returns-in-Err-clause-crash : goal.returns-in-Err-clause-crash
returns-in-Err-clause-crash g c = λ h n m found. opened_out _ c.args.core c.progress.ensures.core c.into_disk-disk.result c.in-Err.refused.1 c.into_disk-disk.ensures (λ image. IsLeftOut (dimensions_of c.args.core.store.extents) c.args.extent found.runs (seen (state_shown c.args.core.disk)) image) (c.in-Err.ensures.crash (honest_there _ c.args.core c.progress.ensures.core c.into_disk-disk.result c.into_disk-disk.ensures h))

pub returns-in-Err-clause-keeps : goal.returns-in-Err-clause-keeps
returns-in-Err-clause-keeps g c = λ h n m found whole. opened_out _ c.args.core c.progress.ensures.core c.into_disk-disk.result c.in-Err.refused.1 c.into_disk-disk.ensures (λ image. Recovers (shape c.args.core.store.extents) (formats_of (shape c.args.core.store.extents)) (page image) n m) (c.in-Err.ensures.crash (honest_there _ c.args.core c.progress.ensures.core c.into_disk-disk.result c.into_disk-disk.ensures h))

pub returns-in-Err-clause-why : goal.returns-in-Err-clause-why
returns-in-Err-clause-why g c = λ h n m found. inl (of_disk _ c.args.core c.progress.ensures.core c.progress.ensures.whole.geometry (sym (ap twins_in (c.format.ensures.format ∙ c.geometry-geometry.ensures.format ∙ ap (λ x. (shape x).format) c.extents.ensures)) ∙ sym c.has_twins.ensures ∙ c.if-not-has_twins.false) c.into_disk-disk.result c.into_disk-disk.ensures (λ (runs : List Run). IsNoAnswer c.in-Err.refused.0) (c.in-Err.ensures.lives (honest_there _ c.args.core c.progress.ensures.core c.into_disk-disk.result c.into_disk-disk.ensures h)) n m found)

pub returns-in-Err-clause-rests : goal.returns-in-Err-clause-rests
returns-in-Err-clause-rests g c = λ is. absurd (not_unsettled c.in-Err.refused.0 (inl c.in-Err.ensures.number) is)

pub returns-in-Err-clause-waits : goal.returns-in-Err-clause-waits
returns-in-Err-clause-waits g c = λ twins waits. absurd (waits (passed (IsAtRest c.args.core.store) (¬ IsAtRest c.args.core.store) c.is_at_rest-rests.result c.is_at_rest-rests.ensures c.if-not-rests.false))

pub returns-in-Ok-cross_out-clause-waits : goal.returns-in-Ok-cross_out-clause-waits
returns-in-Ok-cross_out-clause-waits g c = λ twins waits. absurd (waits (passed (IsAtRest c.args.core.store) (¬ IsAtRest c.args.core.store) c.is_at_rest-rests.result c.is_at_rest-rests.ensures c.if-not-rests.false))

pub returns-in-Ok-cross_out-clause-honest : goal.returns-in-Ok-cross_out-clause-honest
returns-in-Ok-cross_out-clause-honest g c = rw (← c.into_disk-disk.ensures) (just_when _ _ _ c.in-Ok.ensures.honest c.cross_out.ensures.honest)

pub returns-in-Err-cross_out-clause-honest : goal.returns-in-Err-cross_out-clause-honest
returns-in-Err-cross_out-clause-honest g c = rw (← c.into_disk-disk.ensures) (just_when _ _ _ c.in-Ok.ensures.honest c.cross_out.ensures.honest)

pub returns-in-Err-cross_out-clause-there : goal.returns-in-Err-cross_out-clause-there
returns-in-Err-cross_out-clause-there g c = λ is. absurd (not_unswept c.in-Err-cross_out.refusal c.in-Err-cross_out.ensures.number is)

pub returns-in-Err-clause-there : goal.returns-in-Err-clause-there
returns-in-Err-clause-there g c = λ is. absurd (not_unswept c.in-Err.refused.0 (inl c.in-Err.ensures.number) is)

pub returns-then-not-rests-clause-number : goal.returns-then-not-rests-clause-number
returns-then-not-rests-clause-number g c = inr (inr (inr refl))

pub returns-then-extent-from-clause-number : goal.returns-then-extent-from-clause-number
returns-then-extent-from-clause-number g c = inr (inr (inl refl))

pub returns-in-Err-cross_out-clause-number : goal.returns-in-Err-cross_out-clause-number
returns-in-Err-cross_out-clause-number g c = ⊎_elim (λ other. inl other) (λ worn. inr (inl worn)) c.in-Err-cross_out.ensures.number

pub returns-in-Err-clause-number : goal.returns-in-Err-clause-number
returns-in-Err-clause-number g c = inl c.in-Err.ensures.number
