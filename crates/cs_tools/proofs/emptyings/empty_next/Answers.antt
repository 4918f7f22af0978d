use Rattle.std.proofs.Common.{◌≡◌, ◌∙◌, ℕ, List, ap, inl, inr, refl, subst}
use Rattle.std.specs.Prelude.{Ok}
use Rattle.std.proofs.lemmas.Result.{IfErr-weaker, IfOk-weaker}
use Rattle.cs_disk.proofs.OnlyRead.{reads_none}
use Rattle.cs_tools.specs.Aims.{IsNextFor, IsSettled, Picks}
use Rattle.cs_tools.specs.Headers.{IsLeft}
use Rattle.cs_tools.specs.Reclaims.{IsPersistent, StopsEmptying, StopsNext, passed_after}
use Rattle.cs_tools.specs.declared.seeks.Next.{Next}
use Rattle.cs_tools.proofs.Emptying.{found_never, found_so, ok_both, refused_so, same_count, step_done}
use Rattle.cs_tools.proofs.Tidying.{tidies_none, tidies_reads, tidies_then}
use Rattle.cs_tools.proofs.emptyings.empty_next.Goals as goal
use Rattle.cs_tools.proofs.emptyings.empty_next.Goals.{In-Extent}
use Rattle.cs_tools.proofs.emptyings.empty_next.Given.{Over}

-- ---- memory runs out

pub returns-in_default-clause-tidies : goal.returns-in_default-clause-tidies
returns-in_default-clause-tidies g c = tidies_none g.D.PageDisk c.args.core.now

pub returns-in_default-clause-stopped : goal.returns-in_default-clause-stopped
returns-in_default-clause-stopped g c = (inl (refl, (refl, reads_none g.D.PageDisk c.args.core.now.disk)), refl)

pub returns-in_default-next_for-clause-tidies : goal.returns-in_default-next_for-clause-tidies
returns-in_default-next_for-clause-tidies g c =
    let first = c.args.core.now in
    let reads = c.next_for.ensures.reads in
    tidies_reads g.D.PageDisk first c.next_for.new.core reads.0 reads.1 c.progress.ensures.left (λ honest image since. g.met.D.PageDisk.only_now first.disk image honest since)

pub returns-in_default-next_for-clause-stopped : goal.returns-in_default-next_for-clause-stopped
returns-in_default-next_for-clause-stopped g c = (inl (refl, c.next_for.ensures.reads), refl)

-- ---- nothing more is to be emptied

pub returns-in-Nothing-clause-tidies : goal.returns-in-Nothing-clause-tidies
returns-in-Nothing-clause-tidies g c =
    let first = c.args.core.now in
    let reads = c.next_for.ensures.reads in
    tidies_reads g.D.PageDisk first c.next_for.new.core reads.0 reads.1 c.progress.ensures.left (λ honest image since. g.met.D.PageDisk.only_now first.disk image honest since)

pub returns-in-Nothing-clause-chosen : goal.returns-in-Nothing-clause-chosen
returns-in-Nothing-clause-chosen g c = (
  c.next_for.ensures.reads,
  subst (λ (es : List ℕ). IsSettled g.D.PageDisk c.args.aim es c.args.core.now) (c.deref.ensures.value ∙ c.reserve.ensures.items)
      (subst (λ (n : Next). IsNextFor g.D.PageDisk c.args.aim c.deref.result.now c.args.core.now c.next_for.new.core n) c.in-Nothing.is c.in-Ok-next_for.ensures.chosen),
  refl,
  c.reserve.ensures.items,
)

pub returns-in-Nothing-clause-left : goal.returns-in-Nothing-clause-left
returns-in-Nothing-clause-left g c unreadable is =
    subst (λ (n : ℕ). IsLeft g.D.PageDisk n c.next_for.new.core) (same_count c.in-Nothing.unreadable unreadable is) (c.in-Ok-next_for.ensures.left c.in-Nothing.unreadable (ap (λ (n : Next). Ok n) c.in-Nothing.is))

-- ---- an extent is emptied, or passed over

pub returns-in-Extent-clause-tidies : goal.returns-in-Extent-clause-tidies
returns-in-Extent-clause-tidies g c =
    let first = c.args.core.now in
    let reads = c.next_for.ensures.reads in
    let read = tidies_reads g.D.PageDisk first c.next_for.new.core reads.0 reads.1 c.progress.ensures.left (λ honest image since. g.met.D.PageDisk.only_now first.disk image honest since) in
    tidies_then g.D.PageDisk first c.next_for.new.core c.empty_or_pass.new.core read c.empty_or_pass.ensures.tidies

pub returns-in-Extent-clause-rests : goal.returns-in-Extent-clause-rests
returns-in-Extent-clause-rests g c honest =
    IfOk-weaker c.empty_or_pass.result _ _ (λ sought it. found_so (IsPersistent c.empty_or_pass.new.core) _ sought it.1.0 it.0)
    (ok_both (IsPersistent c.empty_or_pass.new.core) _ c.empty_or_pass.result (c.empty_or_pass.ensures.rests (c.next_for.ensures.reads.1.honesty.0 honest)) c.empty_or_pass.ensures.handles)

picked : (g : Over) (c : In-Extent g) → Picks g.D.PageDisk c.args.aim c.deref.result.now c.args.core.now c.next_for.new.core c.in-Extent.choice.extent c.in-Extent.choice.dead
picked g c = subst (λ (n : Next). IsNextFor g.D.PageDisk c.args.aim c.deref.result.now c.args.core.now c.next_for.new.core n) c.in-Extent.is c.in-Ok-next_for.ensures.chosen

pub returns-in-Extent-clause-chosen : goal.returns-in-Extent-clause-chosen
returns-in-Extent-clause-chosen g c =
    let contents = g.W.Write.contents in
    let same = c.deref.ensures.value ∙ c.reserve.ensures.items in
    let picks = picked g (goal.at.returns-in-Extent-clause-chosen g c).In-Extent in
    let passed = c.args.passed.now.items in
    let next = c.empty_or_pass.new.passed.items in
    IfOk-weaker c.empty_or_pass.result _ _
    (λ sought it. found_so _ _ sought it.0 (step_done g.D.PageDisk c.args.aim c.args.style passed c.deref.result.now next c.args.core.now c.next_for.new.core c.empty_or_pass.new.core (contents c.args.writer.now) (contents c.empty_or_pass.new.writer)
    c.in-Extent.choice.extent c.in-Extent.choice.dead same c.next_for.ensures.reads picks (it.1.0, it.1.1, it.1.2, it.1.3 ∙ ap (passed_after it.1.0) c.reserve.ensures.items)))
    c.empty_or_pass.ensures.handles

pub returns-in-Extent-clause-left : goal.returns-in-Extent-clause-left
returns-in-Extent-clause-left g c unreadable is = absurd (found_never _ c.empty_or_pass.result unreadable c.empty_or_pass.ensures.handles is)

pub returns-in-Extent-clause-stopped : goal.returns-in-Extent-clause-stopped
returns-in-Extent-clause-stopped g c =
    let disks = g.D.PageDisk in
    let aim = c.args.aim in
    let old = c.args.core.now in
    let read = c.next_for.new.core in
    let new = c.empty_or_pass.new.core in
    let start = g.W.Write.contents c.args.writer.now in
    let end = g.W.Write.contents c.empty_or_pass.new.writer in
    let extent = c.in-Extent.choice.extent in
    let dead = c.in-Extent.choice.dead in
    let passed = c.args.passed.now.items in
    let picks = subst (λ (es : List ℕ). Picks disks aim es old read extent dead) (c.deref.ensures.value ∙ c.reserve.ensures.items) (picked g (goal.at.returns-in-Extent-clause-stopped g c).In-Extent) in
    IfErr-weaker c.empty_or_pass.result _ _
    (λ stop it. refused_so (λ r. StopsEmptying disks extent read new r × (end ≡ start)) (λ r. StopsNext disks aim passed old new r × (end ≡ start))
    (λ r stops. (inr (read, extent, dead, c.next_for.ensures.reads, picks, stops.0), stops.1)) stop it) c.empty_or_pass.ensures.stopped
