use Rattle.std.proofs.Common.{◌≡◌, ◌∙◌, ◌<◌, ◌+◌, ℕ, List, Some, arith, length, refl, slice_get, subst, sym}
use Rattle.std.proofs.lemmas.Option.{slice_get_read}
use Rattle.cs_frame.specs.declared.superblocks.Superblock.{Superblock}
use Rattle.cs_core.specs.Started.{AreNewWritten, IsNewSection, head_page}
use Rattle.cs_core.proofs.Heads.{head_failed, head_is, more_written, none_written}
use Rattle.cs_core.proofs.NewTaken.{taken_from}
use Rattle.cs_core.proofs.Starting.{moved_section}
use Rattle.cs_core.proofs.core_openings.write_sections.Goals as goal
use Rattle.law_machine.specs.Format.{Format}

-- section k of those that are given
section_k : (format : Format) (extents pages sections k : ℕ) (items : List Superblock) (it : Superblock) → ((j : ℕ) (other : Superblock) → slice_get items j ≡ Some other → IsNewSection format extents pages sections j other)
    → slice_get items k ≡ Some it → IsNewSection format extents pages sections it.section it
section_k format extents pages sections k items it each at =
    let here = each k it at in
    subst (λ (n : ℕ). IsNewSection format extents pages sections n it) (sym here.section_at.place) here

pub loop-k-init : goal.loop-k-init
loop-k-init g c = record {
  honesty = ((λ h. h), (λ h. h));
  size = refl;
  failures = omega arith;
  written = λ h. none_written c.args.geometry.format c.args.geometry.extents c.args.geometry.pages c.args.geometry.sections c.requires.new.geometry (g.D.PageDisk.state c.args.disk.now) (g.met.D.PageDisk.sized c.args.disk.now h ∙ c.requires.sized);
  taken = λ h sound takes. refl;
  rest = λ h sound takes. (sound, takes);
}

pub write_section-requires-clause-sized : goal.write_section-requires-clause-sized
write_section-requires-clause-sized g c = c.loop-k.invariant.size ∙ c.requires.sized

pub write_section-requires-clause-section : goal.write_section-requires-clause-section
write_section-requires-clause-section g c =
    section_k c.args.geometry.format c.args.geometry.extents c.args.geometry.pages c.args.geometry.sections c.loop-k.k c.args.sections.now c.index-sections-k.result c.requires.new.new_ones.each
    (slice_get_read c.args.sections.now (length c.args.sections.now) c.loop-k.k c.index-sections-k.result refl c.loop-k-test.true c.index-sections-k.is)

pub loop-k-preserved : goal.loop-k-preserved
loop-k-preserved g c =
    let s = c.args.geometry in
    let it = c.index-sections-k.result in
    let at : slice_get c.args.sections.now c.loop-k.k ≡ Some it = slice_get_read c.args.sections.now (length c.args.sections.now) c.loop-k.k it refl c.loop-k-test.true c.index-sections-k.is in
    let place : it.section ≡ c.loop-k.k = (c.requires.new.new_ones.each c.loop-k.k it at).section_at.place in
    let lt : c.loop-k.k < s.sections = omega (arith, c.loop-k-test.true, c.requires.new.new_ones.counted) in
    record {
      honesty = ((λ h. c.write_section.ensures.honest.0 (c.loop-k.invariant.honesty.0 h)), (λ h. c.loop-k.invariant.honesty.1 (c.write_section.ensures.honest.1 h)));
      size = c.write_section.ensures.pages ∙ c.loop-k.invariant.size;
      failures = omega (arith, c.loop-k.invariant.failures, c.write_section.ensures.cause.later);
      written = λ h.
          let w = moved_section s.format s.extents s.pages s.sections it.section c.loop-k.k place (g.D.PageDisk.state c.loop-k.disk) (g.D.PageDisk.state c.write_section.new.disk) (c.in-Ok.ensures.written (c.loop-k.invariant.honesty.0 h)) in
          more_written s.format s.extents s.pages s.sections c.requires.new.geometry (g.D.PageDisk.state c.args.disk.now) (g.met.D.PageDisk.sized c.args.disk.now h ∙ c.requires.sized) c.loop-k.k (g.D.PageDisk.state c.loop-k.disk) (g.D.PageDisk.state c.write_section.new.disk)
          w.0 (c.loop-k.invariant.written h) lt w.1 w.2;
      taken = λ h sound takes.
          let so_far = c.loop-k.invariant.rest h sound takes in
          c.write_section.ensures.taken (c.loop-k.invariant.honesty.0 h) so_far.0 (taken_from g.D.PageDisk s.format s.extents s.pages s.sections c.loop-k.disk c.loop-k.k it.section (sym place) so_far.1) ∙ c.loop-k.invariant.taken h sound takes;
      rest = λ h sound takes.
          let so_far = c.loop-k.invariant.rest h sound takes in
          let here = taken_from g.D.PageDisk s.format s.extents s.pages s.sections c.loop-k.disk c.loop-k.k it.section (sym place) so_far.1 in
          (c.in-Ok.ensures.sound so_far.0, taken_from g.D.PageDisk s.format s.extents s.pages s.sections c.write_section.new.disk (it.section + 1) (c.loop-k.k + 1) (omega (arith, place)) (c.in-Ok.ensures.others (c.loop-k.invariant.honesty.0 h) here));
    }

pub returns-in-Err-clause-failed : goal.returns-in-Err-clause-failed
returns-in-Err-clause-failed g c = λ h.
    let s = c.args.geometry in
    let it = c.index-sections-k.result in
    head_failed s.extents s.pages (g.D.PageDisk.state c.args.disk.now) (g.D.PageDisk.state c.loop-k.disk) (g.D.PageDisk.state c.write_section.new.disk) (head_page s.extents s.pages it.section) (head_is s.extents s.pages it.section)
    (c.loop-k.invariant.written h).head (c.in-Err.ensures.failed (c.loop-k.invariant.honesty.0 h))

pub returns-clause-written : goal.returns-clause-written
returns-clause-written g c = λ h.
    let s = c.args.geometry in
    let end : c.loop-k.k ≡ s.sections = omega (arith, c.loop-k-test.false, c.loop-k.auto.k-end, c.requires.new.new_ones.counted) in
    subst (λ (n : ℕ). AreNewWritten s.format s.extents s.pages s.sections n (g.D.PageDisk.state c.args.disk.now) (g.D.PageDisk.state c.loop-k.disk)) end (c.loop-k.invariant.written h)

pub returns-in-Err-clause-taken : goal.returns-in-Err-clause-taken
returns-in-Err-clause-taken g c = λ h sound takes.
    let s = c.args.geometry in
    let it = c.index-sections-k.result in
    let at : slice_get c.args.sections.now c.loop-k.k ≡ Some it = slice_get_read c.args.sections.now (length c.args.sections.now) c.loop-k.k it refl c.loop-k-test.true c.index-sections-k.is in
    let place : it.section ≡ c.loop-k.k = (c.requires.new.new_ones.each c.loop-k.k it at).section_at.place in
    let so_far = c.loop-k.invariant.rest h sound takes in
    c.write_section.ensures.taken (c.loop-k.invariant.honesty.0 h) so_far.0 (taken_from g.D.PageDisk s.format s.extents s.pages s.sections c.loop-k.disk c.loop-k.k it.section (sym place) so_far.1) ∙ c.loop-k.invariant.taken h sound takes

pub returns-clause-root : goal.returns-clause-root
returns-clause-root g c = λ h sound takes.
    let s = c.args.geometry in
    let end : c.loop-k.k ≡ s.sections = omega (arith, c.loop-k-test.false, c.loop-k.auto.k-end, c.requires.new.new_ones.counted) in
    let so_far = c.loop-k.invariant.rest h sound takes in
    (so_far.0, taken_from g.D.PageDisk s.format s.extents s.pages s.sections c.loop-k.disk c.loop-k.k s.sections end so_far.1)
