use Rattle.std.proofs.Common.{ℕ, ◌+◌, ◌∙◌, List, Ok, Err, ap, arith, get_or, subst, sym}
use Rattle.std.proofs.lemmas.List.{get_or_default}
use Rattle.cs_chunk.specs.Newest.{AreNewest}
use Rattle.cs_disk.proofs.OnlyRead.{reads_on}
use Rattle.cs_disk.specs.Disk.{State, seen}
use Rattle.cs_frame.specs.declared.locators.Locator.{Locator}
use Rattle.law_machine.specs.Geometry.{head_bytes_in}
use Rattle.cs_chunk.proofs.Lengths.{all_told, header_refused_at, tells_all, told_more}
use Rattle.cs_chunk.proofs.reads.read_lengths.Goals as goal
use Rattle.cs_chunk.proofs.reads.read_lengths.Goals.{After-read_length}
use Rattle.cs_chunk.proofs.reads.read_lengths.Given.{Over}

-- the locator at a place
abbrev at_place : List Locator → ℕ → Locator
at_place ls k = get_or ls k (record { extent = 0; page = 0; generation = 0; mark = 0 })

-- what a page reads as is the same after reads
view_here : (g : Over) (c : After-read_length g) → g.D.PageDisk.honest c.args.disk.now → (view : ℕ → List ℕ) → AreNewest c.args.graph.now (seen (g.D.PageDisk.state c.args.disk.now)) view → AreNewest c.args.graph.now (seen (g.D.PageDisk.state c.loop-k.disk)) view
view_here g c h view are = subst (λ (s : State). AreNewest c.args.graph.now (seen s) view) (sym (c.loop-k.invariant.disk.same h)) are

pub loop-k-preserved : goal.loop-k-preserved
loop-k-preserved g c =
    let r = (goal.at.loop-k-preserved g c).After-read_length in record {
      disk = reads_on g.D.PageDisk c.args.disk.now c.loop-k.disk c.read_length.new.disk c.loop-k.invariant.disk c.read_length.ensures.disk;
      small = omega (arith, c.loop-k.invariant.small, c.saturating_sub-total.ensures);
      told = λ h view are.
          let there = c.loop-k.invariant.disk.honesty.0 h in
          told_more c.args.extents.now c.extent_count.ensures.whole view c.args.locators.now c.loop-k.k (at_place c.args.locators.now c.loop-k.k) c.loop-k.total c.in-Ok.count c.head_bytes-head.result _
          c.loop-k-test.true (get_or_default c.args.locators.now c.loop-k.k _ _ c.loop-k-test.true) (c.loop-k.invariant.told h view are)
          (c.in-Ok.ensures.header there view (view_here g r h view are)) (c.in-Ok.ensures.told there view (view_here g r h view are))
          (c.head_bytes-head.ensures.bytes ∙ ap head_bytes_in c.format_of.ensures) (ap (λ n. c.loop-k.total + n) c.saturating_sub-total.ensures);
    }

pub returns-in-Err-clause-disk : goal.returns-in-Err-clause-disk
returns-in-Err-clause-disk g c = reads_on g.D.PageDisk c.args.disk.now c.loop-k.disk c.read_length.new.disk c.loop-k.invariant.disk c.read_length.ensures.disk

pub returns-in-Err-clause-header : goal.returns-in-Err-clause-header
returns-in-Err-clause-header g c = λ h view are.
    header_refused_at c.args.extents.now c.extent_count.ensures.whole view c.args.locators.now c.loop-k.k (at_place c.args.locators.now c.loop-k.k) c.loop-k.total c.in-Err.refusal c.loop-k-test.true (get_or_default c.args.locators.now c.loop-k.k _ _ c.loop-k-test.true) (c.loop-k.invariant.told h view are)
    (c.in-Err.ensures.header (c.loop-k.invariant.disk.honesty.0 h) view (view_here g (goal.at.returns-in-Err-clause-header g c).After-read_length h view are))

pub returns-in-Err-clause-read : goal.returns-in-Err-clause-read
returns-in-Err-clause-read g c = λ h view cs are there.
    tells_all c.args.extents.now c.extent_count.ensures.whole view (Err c.in-Err.refusal) c.args.locators.now cs
    (header_refused_at c.args.extents.now c.extent_count.ensures.whole view c.args.locators.now c.loop-k.k (at_place c.args.locators.now c.loop-k.k) c.loop-k.total c.in-Err.refusal c.loop-k-test.true (get_or_default c.args.locators.now c.loop-k.k _ _ c.loop-k-test.true) (c.loop-k.invariant.told h view are)
    (c.in-Err.ensures.header (c.loop-k.invariant.disk.honesty.0 h) view (view_here g (goal.at.returns-in-Err-clause-read g c).After-read_length h view are))) there

pub returns-clause-told : goal.returns-clause-told
returns-clause-told g c = λ h view are. all_told c.args.extents.now c.extent_count.ensures.whole view c.args.locators.now c.loop-k.k c.loop-k.total c.loop-k-test.false (c.loop-k.invariant.told h view are)

pub returns-clause-read : goal.returns-clause-read
returns-clause-read g c = λ h view cs are there.
    tells_all c.args.extents.now c.extent_count.ensures.whole view (Ok c.loop-k.total) c.args.locators.now cs
    (all_told c.args.extents.now c.extent_count.ensures.whole view c.args.locators.now c.loop-k.k c.loop-k.total c.loop-k-test.false (c.loop-k.invariant.told h view are)) there
