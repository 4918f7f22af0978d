use Rattle.cs_disk.proofs.OnlyRead.{reads_on}
use Rattle.cs_disk.specs.Disk.{State, Write, seen}
use Rattle.cs_mount.specs.MadeSections.{all_made, made_writes, newest_version, section_serves}
use Rattle.cs_mount.proofs.MadeListed.{caused_later, fit_more, next_section}
use Rattle.std.proofs.Common.{◌∙◌, ◌≡◌, ◌<◌, ◌≤◌, ◌+◌, ◌++◌, ◌^◌, ◌⊎◌, ⊎_elim, List, ap, arith, false, inl, inr, subst, sym}
use Rattle.cs_core.specs.cs_chunk.Reads.{IsNoAnswer}
use Rattle.cs_refusal.specs.declared.refusals.Refusal.TheVariants.{WornOut}
use Rattle.cs_mount.proofs.lost_sections.list_sections.Goals as goal

pub returns-in-Err-clause-disk : goal.returns-in-Err-clause-disk
returns-in-Err-clause-disk g c = reads_on g.D.PageDisk c.args.disk.now c.loop-section.disk c.add_section.new.disk c.loop-section.invariant.disk c.add_section.ensures.disk

pub returns-in-Err-clause-cause : goal.returns-in-Err-clause-cause
returns-in-Err-clause-cause g c = caused_later _ _ _ c.add_section.result c.in-Err.refusal c.loop-section.invariant.disk.failures c.in-Err.is c.add_section.ensures.cause

pub loop-section-preserved : goal.loop-section-preserved
loop-section-preserved g c =
    let D = g.D.PageDisk in
    let was = c.loop-section.invariant in
    let named = c.args.named.now in
    let d = named.geometry in
    let k = c.loop-section.section in
    let image = seen (D.state c.args.disk.now) in
    record {
      disk = reads_on D c.args.disk.now c.loop-section.disk c.add_section.new.disk was.disk c.add_section.ensures.disk;
      made = λ h. subst (λ (s : State). c.add_section.new.pages.items ≡ c.loop-section.pages.items ++ made_writes d (seen s) named.root named.places.items k) (was.disk.same h) (c.in-Ok.ensures.added (was.disk.honesty.0 h))
          ∙ ap (λ (ws : List Write). ws ++ made_writes d image named.root named.places.items k) (was.made h) ∙ sym (next_section d image named.root named.places.items k);
      fit = λ h. fit_more d image named.root named.places.items k (was.fit h)
          (subst (λ (s : State). section_serves d (seen s) named.root named.places.items k ≡ false → 1 + newest_version d (seen s) k < 2 ^ 63) (was.disk.same h) (c.in-Ok.ensures.fit (was.disk.honesty.0 h)));
      inside = c.in-Ok.ensures.inside was.inside;
    }

pub returns-clause-made : goal.returns-clause-made
returns-clause-made g c = λ h.
    let named = c.args.named.now in
    let end : c.loop-section.section ≡ named.geometry.sections = (let e = c.sections-section-end.ensures.sections in omega (arith, c.loop-section-test.false, c.loop-section.auto.section-end, e)) in
    c.loop-section.invariant.made h ∙ ap (all_made named.geometry (seen (g.D.PageDisk.state c.args.disk.now)) named.root named.places.items) end

pub returns-clause-fit : goal.returns-clause-fit
returns-clause-fit g c = λ h j lt.
    c.loop-section.invariant.fit h j (let e = c.sections-section-end.ensures.sections in omega (arith, lt, c.loop-section-test.false, c.loop-section.auto.section-end, e))

pub returns-clause-cause : goal.returns-clause-cause
returns-clause-cause g c = record { later = c.loop-section.invariant.disk.failures; failed = λ e. absurd (cc e) }

pub returns-in-Err-clause-why : goal.returns-in-Err-clause-why
returns-in-Err-clause-why g c = λ h.
    let was = c.loop-section.invariant in
    let d = c.args.named.now.geometry in
    let r = c.in-Err.refusal in
    ⊎_elim (λ none. inl none) (λ worn. inr (worn.0, (c.loop-section.section, (let e = c.sections-section-end.ensures.sections in omega (arith, c.loop-section-test.true, c.loop-section.auto.section-end, e)), worn.1)))
    (subst (λ (s : State). IsNoAnswer r ⊎ ((r ≡ WornOut) × (2 ^ 63 ≤ 1 + newest_version d (seen s) c.loop-section.section))) (was.disk.same h) (c.in-Err.ensures.why (was.disk.honesty.0 h)))
