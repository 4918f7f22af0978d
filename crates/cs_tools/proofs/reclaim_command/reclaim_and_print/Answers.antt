use Rattle.std.proofs.Common.{◌⊎◌, ℕ, inl, inr, refl, subst, sym}
use Rattle.std.specs.Io.KnownBytes.{Appends}
use Rattle.cs_extent.specs.State.{State as Extents}
use Rattle.cs_tools.specs.Aims.{HasNoRoomFor, HasRoomFor, IfPut, IsFullFor, IsPutAnd}
use Rattle.cs_tools.specs.Reclaims.{IfRefused, MayStop, PrintsLeft, StopsFull, StopsLater, empty_extents, left_text}
use Rattle.cs_tools.specs.declared.reclaim_command.Stop.{Stop}
use Rattle.cs_tools.proofs.Aiming.{err_passed, full_for, in_vain}
use Rattle.cs_tools.proofs.Emptying.{counted_empty, none_refused, passed_on, refused_so}
use Rattle.cs_tools.proofs.Resting.{ok_then}
use Rattle.cs_tools.proofs.reclaim_command.reclaim_and_print.Goals as goal
use Rattle.cs_tools.proofs.reclaim_command.reclaim_and_print.Goals.{In_ok-printed}
use Rattle.cs_tools.proofs.reclaim_command.reclaim_and_print.Given.{Over}

-- the lines at the end
lines : (g : Over) (c : In_ok-printed g) → PrintsLeft c.args.style c.in_ok-left.left.unreadable c.args.core.now c.empty_by_rule.new.core (g.W.Write.contents c.empty_by_rule.new.writer) (g.W.Write.contents c.print_left.new.writer)
lines g c =
    let contents = g.W.Write.contents in
    let old = c.args.core.now in
    let new = c.empty_by_rule.new.core in
    let between = contents c.empty_by_rule.new.writer in
    let end = contents c.print_left.new.writer in
    let unreadable = c.in_ok-left.left.unreadable in
    let before = counted_empty old c.extents.result.now c.empty_count-before.result c.extents.ensures c.empty_count-before.ensures in
    let after = counted_empty new c.extents-2.result.now c.empty_count-after.result c.extents-2.ensures c.empty_count-after.ensures in
    let printed = ok_then c.print_left.result _ c.in_ok-printed.ensures.done c.print_left.ensures in
    subst (λ (n : ℕ). Appends between end (left_text c.args.style n (empty_extents new) unreadable)) before
    (subst (λ (n : ℕ). Appends between end (left_text c.args.style c.empty_count-before.result n unreadable)) after printed)

-- ---- all is done

pub returns-clause-kept : goal.returns-clause-kept
returns-clause-kept g c honest = c.in_ok-left.ensures.kept honest

pub returns-clause-left : goal.returns-clause-left
returns-clause-left g c apart = c.in_ok-left.ensures.left apart

pub returns-clause-counted : goal.returns-clause-counted
returns-clause-counted g c together = c.in_ok-left.ensures.counted together

pub returns-clause-chosen : goal.returns-clause-chosen
returns-clause-chosen g c apart =
    let past = c.in_ok-left.ensures.chosen apart in
    (past.0, past.1, (g.W.Write.contents c.empty_by_rule.new.writer, past.2, lines g (goal.at.returns-clause-chosen g c).In_ok-printed))

pub returns-clause-room : goal.returns-clause-room
returns-clause-room g c = subst (λ (x : Extents). IfPut c.args.aim (HasRoomFor x)) c.extents-3.ensures c.in_ok-check_room.ensures.room

-- ---- it ends early

pub returns-in_err-left-clause-stopped : goal.returns-in_err-left-clause-stopped
returns-in_err-left-clause-stopped g c apart =
    let contents = g.W.Write.contents in
    let start = contents c.args.writer.now in
    let end = contents c.empty_by_rule.new.writer in
    let new = c.empty_by_rule.new.core in
    let later = StopsLater g.D.PageDisk c.args.aim c.args.style c.args.core.now new start end in
    let full = StopsFull g.D.PageDisk c.args.aim c.args.style c.args.core.now new start end in
    let stop = c.in_err-left.field-0.0 in
    passed_on (λ r. later r ⊎ full r) c.from_residual.result stop c.from_residual.ensures.1 (refused_so later (λ r. later r ⊎ full r) (λ r it. inl it) stop (c.in_err-left.ensures.stopped apart))

pub returns-in_err-printed-clause-stopped : goal.returns-in_err-printed-clause-stopped
returns-in_err-printed-clause-stopped g c apart =
    let contents = g.W.Write.contents in
    let start = contents c.args.writer.now in
    let end = contents c.print_left.new.writer in
    let new = c.empty_by_rule.new.core in
    let later = StopsLater g.D.PageDisk c.args.aim c.args.style c.args.core.now new start end in
    let full = StopsFull g.D.PageDisk c.args.aim c.args.style c.args.core.now new start end in
    let stop = c.in_err-printed.field-0.0 in
    passed_on (λ r. later r ⊎ full r) c.from_residual-in_err-printed.result stop c.from_residual-in_err-printed.ensures.1 (none_refused (λ r. later r ⊎ full r) stop c.in_err-printed.ensures.failed)

-- ---- the put has no room

pub returns-in_err-check_room-clause-refusals : goal.returns-in_err-check_room-clause-refusals
returns-in_err-check_room-clause-refusals g c =
    err_passed MayStop c.from_residual-in_err-check_room.result c.in_err-check_room.field-0.0 c.from_residual-in_err-check_room.ensures.1
    (subst MayStop (sym c.in_err-check_room.ensures.full.0) (inl tt))

pub returns-in_err-check_room-clause-stopped : goal.returns-in_err-check_room-clause-stopped
returns-in_err-check_room-clause-stopped g c apart =
    let disks = g.D.PageDisk in
    let contents = g.W.Write.contents in
    let aim = c.args.aim in
    let old = c.args.core.now in
    let new = c.empty_by_rule.new.core in
    let start = contents c.args.writer.now in
    let end = contents c.print_left.new.writer in
    let later = StopsLater disks aim c.args.style old new start end in
    let full = StopsFull disks aim c.args.style old new start end in
    let stop = c.in_err-check_room.field-0.0 in
    let told = c.in_err-check_room.ensures.full in
    let none = subst (λ (x : Extents). IsPutAnd aim (HasNoRoomFor x)) c.extents-3.ensures told.1 in
    let filled : IsPutAnd aim (IsFullFor new.store.extents) = full_for aim old.store.extents new.store.extents c.empty_by_rule.ensures.tidies.shape c.requires none in
    let between = contents c.empty_by_rule.new.writer in
    let past = c.in_ok-left.ensures.chosen apart in
    let vain = in_vain disks aim c.args.style past.0 old new start between past.2 filled in
    let last = lines g (goal.at.returns-in_err-check_room-clause-stopped g c).In_ok-printed in
    passed_on (λ r. later r ⊎ full r) c.from_residual-in_err-check_room.result stop c.from_residual-in_err-check_room.ensures.1
    (subst (λ (s : Stop). IfRefused s (λ r. later r ⊎ full r)) (sym told.0) (inr (refl, past.0, c.in_ok-left.left.unreadable, c.in_ok-left.ensures.left apart, between, vain, last)))
