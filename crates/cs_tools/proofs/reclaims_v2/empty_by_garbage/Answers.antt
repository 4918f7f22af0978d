use Rattle.std.proofs.Common.{refl, subst}
use Rattle.std.specs.Prelude.{List}
use Rattle.cs_inspect.specs.declared.surveys.ExtentUse.{ExtentUse}
use Rattle.cs_tools.specs.Headers.{AreUnreadable}
use Rattle.cs_tools.proofs.Readable.{counts, was_counted}
use Rattle.cs_tools.proofs.Resting.{kept_then}
use Rattle.cs_tools.proofs.Tidying.{tidies_reads, tidies_then}
use Rattle.cs_tools.proofs.reclaims_v2.empty_by_garbage.Goals as goal

pub returns-in_default-clause-tidies : goal.returns-in_default-clause-tidies
returns-in_default-clause-tidies g c =
    let first = c.args.core.now in
    tidies_reads g.D.PageDisk first c.uses.new.core c.uses.ensures.same c.uses.ensures.disk c.progress.ensures.left (λ honest image since. g.met.D.PageDisk.only_now first.disk image honest since)

pub returns-in_err-empty_and_settle-clause-tidies : goal.returns-in_err-empty_and_settle-clause-tidies
returns-in_err-empty_and_settle-clause-tidies g c =
    let disks = g.D.PageDisk in
    let first = c.args.core.now in
    let read = tidies_reads disks first c.uses.new.core c.uses.ensures.same c.uses.ensures.disk c.progress.ensures.left (λ honest image since. g.met.D.PageDisk.only_now first.disk image honest since) in
    tidies_then disks first c.uses.new.core c.empty_and_settle.new.core read c.empty_and_settle.ensures.tidies

pub returns-clause-tidies : goal.returns-clause-tidies
returns-clause-tidies g c =
    let disks = g.D.PageDisk in
    let first = c.args.core.now in
    let read = tidies_reads disks first c.uses.new.core c.uses.ensures.same c.uses.ensures.disk c.progress.ensures.left (λ honest image since. g.met.D.PageDisk.only_now first.disk image honest since) in
    tidies_then disks first c.uses.new.core c.empty_and_settle.new.core read c.empty_and_settle.ensures.tidies

pub returns-clause-kept : goal.returns-clause-kept
returns-clause-kept g c honest =
    kept_then g.D.PageDisk c.args.core.now c.uses.new.core c.empty_and_settle.new.core (c.uses.ensures.same, c.uses.ensures.disk) (c.in_ok-empty_and_settle.ensures.kept (c.uses.ensures.disk.honesty.0 honest))

pub returns-clause-counted : goal.returns-clause-counted
returns-clause-counted g c =
    let disks = g.D.PageDisk in
    let old = c.args.core.now in
    let read = c.uses.new.core in
    let n = c.count_unreadable-unreadable.result in (
      refl,
      was_counted disks n old read (c.uses.ensures.same, c.uses.ensures.disk)
          (counts disks old read c.in-Ok.uses.items c.in-Ok.ensures.extents n (subst (λ (uses : List ExtentUse). AreUnreadable uses n) c.deref.ensures.value c.count_unreadable-unreadable.ensures) c.in-Ok.ensures.bounded c.in-Ok.ensures.counted),
    )
