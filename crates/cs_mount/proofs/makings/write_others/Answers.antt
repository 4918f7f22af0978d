use Rattle.std.proofs.Common.{◌≡◌, ◌∙◌, ◌+◌, ◌≤◌, ℕ, ap, arith, subst}
use Rattle.cs_mount.specs.Makings.{LeavesSome, after_writes, halves_up_to}
use Rattle.cs_mount.proofs.Laying.{next_some, next_state, some_of_all}
use Rattle.cs_mount.proofs.makings.write_others.Goals as goal

pub returns-in-Err-clause-some : goal.returns-in-Err-clause-some
returns-in-Err-clause-some g c = λ h. some_of_all g.D.PageDisk c.args.geometry c.args.disk.now c.write_root.new.disk 1 c.args.geometry.sections c.requires.geometry.fewest_sections (c.write_root.ensures.some h)

pub returns-in-Err-write_section-clause-some : goal.returns-in-Err-write_section-clause-some
returns-in-Err-write_section-clause-some g c = λ h.
    let D = g.D.PageDisk in
    let d = c.args.geometry in
    let k = c.loop-section.section in
    let so_far = c.loop-section.invariant in
    let below : k + 1 ≤ d.sections = omega (arith, c.loop-section-test.true, c.sections-section-end.ensures.sections) in
    some_of_all D d c.args.disk.now c.write_section.new.disk (k + 1) d.sections below
    (next_some D d c.args.disk.now c.loop-section.disk c.write_section.new.disk k so_far.begun (so_far.some h) (so_far.written h) (c.write_section.ensures.some (so_far.honesty.0 h)))

pub loop-section-preserved : goal.loop-section-preserved
loop-section-preserved g c =
    let D = g.D.PageDisk in
    let d = c.args.geometry in
    let k = c.loop-section.section in
    let so_far = c.loop-section.invariant in
    record {
      honesty = ((λ h. c.write_section.ensures.honest.0 (so_far.honesty.0 h)), (λ h. so_far.honesty.1 (c.write_section.ensures.honest.1 h)));
      size = c.write_section.ensures.pages ∙ so_far.size;
      failures = omega (arith, so_far.failures, c.write_section.ensures.cause.later);
      begun = omega arith;
      written = λ h. next_state d (D.state c.args.disk.now) (D.state c.loop-section.disk) (D.state c.write_section.new.disk) k so_far.begun (so_far.written h) (c.in-Ok-write_section.ensures.written (so_far.honesty.0 h));
      some = λ h. next_some D d c.args.disk.now c.loop-section.disk c.write_section.new.disk k so_far.begun (so_far.some h) (so_far.written h) (c.write_section.ensures.some (so_far.honesty.0 h));
    }

pub returns-clause-written : goal.returns-clause-written
returns-clause-written g c = λ h.
    let d = c.args.geometry in
    let end : c.loop-section.section ≡ d.sections = omega (arith, c.loop-section-test.false, c.loop-section.auto.section-end, c.sections-section-end.ensures.sections, c.requires.geometry.fewest_sections) in
    c.loop-section.invariant.written h ∙ ap (λ (n : ℕ). after_writes (g.D.PageDisk.state c.args.disk.now) (halves_up_to d n)) end

pub returns-clause-some : goal.returns-clause-some
returns-clause-some g c = λ h.
    let d = c.args.geometry in
    let end : c.loop-section.section ≡ d.sections = omega (arith, c.loop-section-test.false, c.loop-section.auto.section-end, c.sections-section-end.ensures.sections, c.requires.geometry.fewest_sections) in
    subst (λ (n : ℕ). LeavesSome g.D.PageDisk c.args.disk.now c.loop-section.disk (halves_up_to d n)) end (c.loop-section.invariant.some h)
