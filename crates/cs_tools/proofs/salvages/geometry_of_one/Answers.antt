use Rattle.std.proofs.Common.{◌≡◌, ◌⊎◌, ℕ, IfOk, Some, arith, inl, inr, sym}
use Rattle.cs_disk.specs.Disk.{Image}
use Rattle.cs_disk.proofs.OnlyRead.{reads_on}
use Rattle.cs_mount.specs.StorePairs.{dimensions_on}
use Rattle.cs_tools.specs.Salvages.{HasNoGeometry, IsOfOtherLength}
use Rattle.cs_tools.proofs.Salvaging.{are_two, read_before, whatever}
use Rattle.cs_tools.proofs.salvages.geometry_of_one.Goals as goal

pub returns-in-Ok-None-clause-geometry : goal.returns-in-Ok-None-clause-geometry
returns-in-Ok-None-clause-geometry g c = λ h.
    let reads = c.two_stores.ensures.disk in
    read_before g.D.PageDisk c.args.disk.now c.two_stores.new.disk
    (λ (n : ℕ) (i : Image). IfOk c.geometry_to_salvage.result (λ found. (dimensions_on n i ≡ Some found) ⊎ IsOfOtherLength n i found)) reads h (c.geometry_to_salvage.ensures.geometry (reads.honesty.0 h))

pub returns-in-Ok-None-clause-one : goal.returns-in-Ok-None-clause-one
returns-in-Ok-None-clause-one g c = λ h. whatever _ c.geometry_to_salvage.result (sym (rw c.in-Ok-None.field-0-is at (c.in-Ok-None.ensures.stores h)))

pub returns-in-Ok-None-clause-no_store : goal.returns-in-Ok-None-clause-no_store
returns-in-Ok-None-clause-no_store g c = λ h some is.
    let reads = c.two_stores.ensures.disk in
    let there = reads.honesty.0 h in
    let size = reads.pages in
    let none = c.geometry_to_salvage.ensures.no_store there (omega (arith, some, size)) is in
    let cut = c.geometry_to_salvage.ensures.not_cut there (omega (arith, some, size)) is in
    inr (read_before g.D.PageDisk c.args.disk.now c.two_stores.new.disk HasNoGeometry reads h (none, cut))

pub returns-in-Ok-Some-clause-no_store : goal.returns-in-Ok-Some-clause-no_store
returns-in-Ok-Some-clause-no_store g c = λ h some is. inl (are_two _ _ (rw c.in-Ok-Some.field-0-is at (c.in-Ok-Some.ensures.stores h)))

pub returns-in-Ok-None-clause-cause : goal.returns-in-Ok-None-clause-cause
returns-in-Ok-None-clause-cause g c = record {
  later = omega (arith, c.two_stores.ensures.cause.later, c.geometry_to_salvage.ensures.cause.later);
  failed = λ is.
      let rise = c.geometry_to_salvage.ensures.cause.failed is in
      omega (arith, rise, c.two_stores.ensures.cause.later);
}

pub returns-in-Ok-None-clause-disk : goal.returns-in-Ok-None-clause-disk
returns-in-Ok-None-clause-disk g c = reads_on g.D.PageDisk c.args.disk.now c.two_stores.new.disk c.geometry_to_salvage.new.disk c.two_stores.ensures.disk c.geometry_to_salvage.ensures.disk
