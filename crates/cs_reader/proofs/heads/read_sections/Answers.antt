use Rattle.std.proofs.Common.{◌≡◌, ◌∙◌, ◌⊎◌, ◌+◌, ◌*◌, ◌<◌, ◌≤◌, ◌++◌, ◌∷◌, ℕ, List, [], ap, arith, length, subst, sym}
use Rattle.cs_chunk.specs.Reads.{IsNoAnswer}
use Rattle.cs_disk.proofs.OnlyRead.{reads_none, reads_on}
use Rattle.cs_disk.specs.Disk.{State, page, seen}
use Rattle.cs_frame.proofs.FirstFormatLaws.{page_zero_fits}
use Rattle.cs_frame.proofs.GeometryLaws.{pages_on_device}
use Rattle.cs_frame.specs.declared.superblocks.Superblock.{Superblock}
use Rattle.cs_reader.specs.Openings.{IsWhyNoSection, SpellsFurther}
use Rattle.cs_reader.proofs.SectionReads.{AreReadTo, all_read, all_sections, all_sized, first_read, more_read, none_more}
use Rattle.cs_reader.proofs.heads.read_sections.Goals as goal

pub read_section-requires-clause-room : goal.read_section-requires-clause-room
read_section-requires-clause-room g c =
    let it = c.args.first in
    let fits = page_zero_fits c.requires.some.0 it.format it.version it.recorded it.extent_count it.pages it.sections it.section it.extents.items c.requires.some.1 in
    omega (arith, pages_on_device it.format it.extent_count it.pages it.sections fits.geometry, c.loop-k.invariant.disk.pages, c.requires.sized)

pub loop-k-init : goal.loop-k-init
loop-k-init g c =
    let it = c.args.first in
    let first : c.push_reserved.new.self.items ≡ it ∷ [] = c.push_reserved.ensures.items ∙ ap (λ (xs : List Superblock). xs ++ it ∷ []) c.in_ok-sections.ensures.items in
    record {
      disk = reads_none g.D.PageDisk c.args.disk.now;
      size = ap length first;
      room = omega (arith, c.in_ok-sections.ensures, c.push_reserved.ensures.capacity);
      read = subst (AreReadTo (g.D.PageDisk.honest c.args.disk.now) (page (seen (g.D.PageDisk.state c.args.disk.now))) it.format it.extent_count it.pages it.sections 1) (sym first)
          (first_read (g.D.PageDisk.honest c.args.disk.now) (page (seen (g.D.PageDisk.state c.args.disk.now))) it c.requires.place c.requires.some c.requires.read);
    }

pub loop-k-preserved : goal.loop-k-preserved
loop-k-preserved g c =
    let it = c.args.first in
    let view = page (seen (g.D.PageDisk.state c.args.disk.now)) in
    let items : c.push_reserved-in-Ok.new.self.items ≡ c.loop-k.sections.items ++ c.in-Ok.superblock ∷ [] = c.push_reserved-in-Ok.ensures.items in
    let some : 0 < c.loop-k.k = omega (arith, c.loop-k.auto.k) in
    record {
      disk = reads_on g.D.PageDisk c.args.disk.now c.loop-k.disk c.read_section.new.disk c.loop-k.invariant.disk c.read_section.ensures.disk;
      size = omega (arith, c.push_reserved-in-Ok.ensures.len, c.loop-k.invariant.size, c.push_reserved-in-Ok.new.self.ok.0, c.loop-k.sections.ok.0);
      room = omega (arith, c.loop-k.invariant.room, c.push_reserved-in-Ok.ensures.capacity);
      read = subst (AreReadTo (g.D.PageDisk.honest c.args.disk.now) view it.format it.extent_count it.pages it.sections (c.loop-k.k + 1)) (sym items)
          (more_read (g.D.PageDisk.honest c.args.disk.now) view it.format it.extent_count it.pages it.sections c.loop-k.k c.loop-k.sections.items c.loop-k.invariant.read c.loop-k.invariant.size some
          c.in-Ok.superblock c.in-Ok.ensures.numbers c.in-Ok.ensures.some
          (λ h. subst (λ (s : State). SpellsFurther (page (seen s) (1 + it.extent_count * it.pages + c.loop-k.k)) c.in-Ok.superblock)
          (c.loop-k.invariant.disk.same h) (c.in-Ok.ensures.read (c.loop-k.invariant.disk.honesty.0 h))));
    }

pub returns-in-Err-clause-disk : goal.returns-in-Err-clause-disk
returns-in-Err-clause-disk g c = reads_on g.D.PageDisk c.args.disk.now c.loop-k.disk c.read_section.new.disk c.loop-k.invariant.disk c.read_section.ensures.disk

pub returns-in-Err-clause-why : goal.returns-in-Err-clause-why
returns-in-Err-clause-why g c = λ h.
    let it = c.args.first in
    let view = page (seen (g.D.PageDisk.state c.args.disk.now)) in
    let some : 0 < c.loop-k.k = omega (arith, c.loop-k.auto.k) in
    none_more (g.D.PageDisk.honest c.args.disk.now) view it.format it.extent_count it.pages it.sections c.loop-k.k c.loop-k.sections.items c.in-Err.refusal c.loop-k.invariant.read h some c.loop-k-test.true
    (subst (λ (s : State). IsNoAnswer c.in-Err.refusal ⊎ IsWhyNoSection it.format it.extent_count it.pages it.sections c.loop-k.k (page (seen s) (1 + it.extent_count * it.pages + c.loop-k.k)) c.in-Err.refusal)
    (c.loop-k.invariant.disk.same h) (c.in-Err.ensures.why (c.loop-k.invariant.disk.honesty.0 h)))

pub returns-in-Err-clause-number : goal.returns-in-Err-clause-number
returns-in-Err-clause-number g c = c.in-Err.ensures.number

pub returns-clause-are : goal.returns-clause-are
returns-clause-are g c =
    let it = c.args.first in
    let some : 1 ≤ it.sections = (page_zero_fits c.requires.some.0 it.format it.version it.recorded it.extent_count it.pages it.sections it.section it.extents.items c.requires.some.1).geometry.fewest_sections in
    let end : c.loop-k.k ≡ it.sections = omega (arith, c.loop-k-test.false, c.loop-k.auto.k-end, some) in
    let view = page (seen (g.D.PageDisk.state c.args.disk.now)) in
    let read : AreReadTo (g.D.PageDisk.honest c.args.disk.now) view it.format it.extent_count it.pages it.sections it.sections c.loop-k.sections.items =
    subst (λ (n : ℕ). AreReadTo (g.D.PageDisk.honest c.args.disk.now) view it.format it.extent_count it.pages it.sections n c.loop-k.sections.items) end c.loop-k.invariant.read in
    all_sections (g.D.PageDisk.honest c.args.disk.now) view it.format it.extent_count it.pages it.sections c.loop-k.sections.items read (omega (arith, c.loop-k.invariant.size, end)) some

pub returns-clause-sized : goal.returns-clause-sized
returns-clause-sized g c =
    let it = c.args.first in
    let some : 1 ≤ it.sections = (page_zero_fits c.requires.some.0 it.format it.version it.recorded it.extent_count it.pages it.sections it.section it.extents.items c.requires.some.1).geometry.fewest_sections in
    let end : c.loop-k.k ≡ it.sections = omega (arith, c.loop-k-test.false, c.loop-k.auto.k-end, some) in
    let view = page (seen (g.D.PageDisk.state c.args.disk.now)) in
    let read : AreReadTo (g.D.PageDisk.honest c.args.disk.now) view it.format it.extent_count it.pages it.sections it.sections c.loop-k.sections.items =
    subst (λ (n : ℕ). AreReadTo (g.D.PageDisk.honest c.args.disk.now) view it.format it.extent_count it.pages it.sections n c.loop-k.sections.items) end c.loop-k.invariant.read in
    all_sized (g.D.PageDisk.honest c.args.disk.now) view it.format it.extent_count it.pages it.sections c.loop-k.sections.items read (omega (arith, c.loop-k.invariant.size, end)) some (g.D.PageDisk.page_count c.args.disk.now) c.requires.sized

pub returns-clause-read : goal.returns-clause-read
returns-clause-read g c = λ h.
    let it = c.args.first in
    let some : 1 ≤ it.sections = (page_zero_fits c.requires.some.0 it.format it.version it.recorded it.extent_count it.pages it.sections it.section it.extents.items c.requires.some.1).geometry.fewest_sections in
    let end : c.loop-k.k ≡ it.sections = omega (arith, c.loop-k-test.false, c.loop-k.auto.k-end, some) in
    let view = page (seen (g.D.PageDisk.state c.args.disk.now)) in
    let read : AreReadTo (g.D.PageDisk.honest c.args.disk.now) view it.format it.extent_count it.pages it.sections it.sections c.loop-k.sections.items =
    subst (λ (n : ℕ). AreReadTo (g.D.PageDisk.honest c.args.disk.now) view it.format it.extent_count it.pages it.sections n c.loop-k.sections.items) end c.loop-k.invariant.read in
    all_read (g.D.PageDisk.honest c.args.disk.now) view it.format it.extent_count it.pages it.sections c.loop-k.sections.items read (omega (arith, c.loop-k.invariant.size, end)) some h
