use Rattle.std.proofs.Common.{◌≡◌, ◌<◌, ◌∙◌, [], ℕ, List, ap, get_or, le_trans, subst, sym, Ok, Err}
use Rattle.std.proofs.lemmas.List.{get_or_default}
use Rattle.std.proofs.lemmas.Option.{slice_get_within, get_or_from_slice_get}
use Rattle.std.proofs.lemmas.Result.{err_from_is_err_and}
use Rattle.cs_chunk.specs.Newest.{AreNewest}
use Rattle.cs_disk.proofs.OnlyRead.{reads_on}
use Rattle.cs_disk.specs.Disk.{State, seen}
use Rattle.cs_extent.specs.State.{shape}
use Rattle.cs_frame.specs.declared.locators.Locator.{Locator}
use Rattle.cs_frame.specs.Formats.{formats_of}
use Rattle.cs_frame.specs.Heads.{body_in}
use Rattle.law_machine.specs.Format.{Format}
use Rattle.cs_chunk.proofs.Sharded.{AreInside, all_read, meant_all, one_meant_more, one_more, reads_all, refused_at}
use Rattle.cs_chunk.proofs.reads.read_chunks.Goals as goal
use Rattle.cs_chunk.proofs.reads.read_chunks.Goals.{After-chunk_body, After-extent_count, After-frame_at}
use Rattle.cs_chunk.proofs.reads.read_chunks.Given.{Over}

-- the locator at a place
abbrev at_place : List Locator → ℕ → Locator
at_place ls k = get_or ls k (record { extent = 0; page = 0; generation = 0; mark = 0 })

-- what a page reads as is the same after reads
view_here : (g : Over) (c : After-frame_at g) → g.D.PageDisk.honest c.args.disk.now → (view : ℕ → List ℕ) → AreNewest c.args.graph.now (seen (g.D.PageDisk.state c.args.disk.now)) view → AreNewest c.args.graph.now (seen (g.D.PageDisk.state c.loop-k.disk)) view
view_here g c h view are = subst (λ (s : State). AreNewest c.args.graph.now (seen s) view) (sym (c.loop-k.invariant.disk.same h)) are

inside : (g : Over) (c : After-extent_count g) → AreInside c.args.extents.now c.extent_count.ensures.whole (λ p. []) c.args.locators.now
inside g c = λ k l at. subst (λ (m : Locator). m.page < c.args.extents.now.pages) (get_or_from_slice_get c.args.locators.now k l l at) (c.requires.places k l (slice_get_within c.args.locators.now k l at)).1

-- what is added is all but the head
body_is : (g : Over) (c : After-chunk_body g) → c.chunk_body.result.now ≡ (formats_of (shape c.args.extents.now)).body c.in-Ok.chunk
body_is g c = c.chunk_body.ensures ∙ ap (body_in c.format_of-format.result) c.payload.ensures.value ∙ ap (λ (f : Format). body_in f c.in-Ok.chunk) c.format_of-format.ensures

pub loop-k-preserved : goal.loop-k-preserved
loop-k-preserved g c =
    let r = (goal.at.loop-k-preserved g c).After-frame_at in
    let b = (goal.at.loop-k-preserved g c).After-chunk_body in record {
      disk = reads_on g.D.PageDisk c.args.disk.now c.loop-k.disk c.frame_at.new.disk c.loop-k.invariant.disk c.frame_at.ensures.disk;
      read = λ h view are.
          one_more c.args.extents.now view c.args.locators.now c.loop-k.k (at_place c.args.locators.now c.loop-k.k) c.loop-k.bytes.items c.extend_from_slice.new.self.items c.in-Ok.chunk c.chunk_body.result.now
          c.loop-k-test.true (get_or_default c.args.locators.now c.loop-k.k _ _ c.loop-k-test.true) (c.loop-k.invariant.read h view are)
          (c.in-Ok.ensures.payload (c.loop-k.invariant.disk.honesty.0 h) view (view_here g r h view are)) (body_is g b) c.in_ok-extend_from_slice-in-Ok.ensures.items;
      meant =
          one_meant_more (shape c.args.extents.now) c.args.locators.now c.loop-k.k (at_place c.args.locators.now c.loop-k.k) c.loop-k.bytes.items c.extend_from_slice.new.self.items c.in-Ok.chunk c.chunk_body.result.now
          c.loop-k-test.true (get_or_default c.args.locators.now c.loop-k.k _ _ c.loop-k-test.true) c.loop-k.invariant.meant c.in-Ok.ensures.meant (body_is g b) c.in_ok-extend_from_slice-in-Ok.ensures.items;
    }

pub returns-in_err-extend_from_slice-in-Ok-clause-disk : goal.returns-in_err-extend_from_slice-in-Ok-clause-disk
returns-in_err-extend_from_slice-in-Ok-clause-disk g c = reads_on g.D.PageDisk c.args.disk.now c.loop-k.disk c.frame_at.new.disk c.loop-k.invariant.disk c.frame_at.ensures.disk

pub returns-in_err-extend_from_slice-in-Ok-clause-cause : goal.returns-in_err-extend_from_slice-in-Ok-clause-cause
returns-in_err-extend_from_slice-in-Ok-clause-cause g c =
    let p = err_from_is_err_and c.from_residual.result c.from_residual.ensures.1 in
    rw (p.1) (record { later = le_trans c.loop-k.invariant.disk.failures c.frame_at.ensures.cause.later; failed = λ is. absurd (cc (is, p.2)) })

pub returns-in-Err-clause-disk : goal.returns-in-Err-clause-disk
returns-in-Err-clause-disk g c = reads_on g.D.PageDisk c.args.disk.now c.loop-k.disk c.frame_at.new.disk c.loop-k.invariant.disk c.frame_at.ensures.disk

pub returns-in-Err-clause-fault : goal.returns-in-Err-clause-fault
returns-in-Err-clause-fault g c = λ h view are.
    refused_at c.args.extents.now view c.args.locators.now c.loop-k.k (at_place c.args.locators.now c.loop-k.k) c.loop-k.bytes.items c.in-Err.refusal c.loop-k-test.true (get_or_default c.args.locators.now c.loop-k.k _ _ c.loop-k-test.true) (c.loop-k.invariant.read h view are)
    (c.in-Err.ensures.fault (c.loop-k.invariant.disk.honesty.0 h) view (view_here g (goal.at.returns-in-Err-clause-fault g c).After-frame_at h view are))

pub returns-in-Err-clause-read : goal.returns-in-Err-clause-read
returns-in-Err-clause-read g c = λ h view cs are there.
    reads_all c.args.extents.now c.extent_count.ensures.whole view {V = List ℕ} (λ v. v) (Err c.in-Err.refusal) c.args.locators.now cs (inside g (goal.at.returns-in-Err-clause-read g c).After-extent_count)
    (refused_at c.args.extents.now view c.args.locators.now c.loop-k.k (at_place c.args.locators.now c.loop-k.k) c.loop-k.bytes.items c.in-Err.refusal c.loop-k-test.true (get_or_default c.args.locators.now c.loop-k.k _ _ c.loop-k-test.true) (c.loop-k.invariant.read h view are)
    (c.in-Err.ensures.fault (c.loop-k.invariant.disk.honesty.0 h) view (view_here g (goal.at.returns-in-Err-clause-read g c).After-frame_at h view are))) there

pub returns-clause-bytes : goal.returns-clause-bytes
returns-clause-bytes g c = λ h view are. all_read c.args.extents.now view c.args.locators.now c.loop-k.k c.loop-k.bytes.items c.loop-k-test.false (c.loop-k.invariant.read h view are)

pub returns-clause-read : goal.returns-clause-read
returns-clause-read g c = λ h view cs are there.
    reads_all c.args.extents.now c.extent_count.ensures.whole view {V = List ℕ} (λ v. v) (Ok c.loop-k.bytes.items) c.args.locators.now cs (inside g (goal.at.returns-clause-read g c).After-extent_count)
    (all_read c.args.extents.now view c.args.locators.now c.loop-k.k c.loop-k.bytes.items c.loop-k-test.false (c.loop-k.invariant.read h view are)) there

pub returns-clause-meant : goal.returns-clause-meant
returns-clause-meant g c = meant_all (shape c.args.extents.now) c.args.locators.now c.loop-k.k c.loop-k.bytes.items c.loop-k-test.false c.loop-k.invariant.meant
