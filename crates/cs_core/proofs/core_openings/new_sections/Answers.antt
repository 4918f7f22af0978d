use Rattle.std.proofs.Common.{◌≡◌, ◌+◌, ◌<◌, ◌++◌, ◌∷◌, ℕ, [], ap, arith, length, subst, sym}
use Rattle.cs_core.specs.Started.{AreFirstNew}
use Rattle.cs_core.proofs.Starting.{more_new, new_section_is, none_new}
use Rattle.cs_core.proofs.core_openings.new_sections.Goals as goal

pub loop-k-init : goal.loop-k-init
loop-k-init c =
    let g = c.args.geometry in
    let items : c.in_ok-sections.sections.items ≡ [] = c.in_ok-sections.ensures.items in
    record {
      size = ap length items;
      room = omega (arith, c.in_ok-sections.ensures.exact, c.from.ensures);
      new_ones = subst (AreFirstNew g.format g.extents g.pages g.sections 0) (sym items) (none_new g.format g.extents g.pages g.sections);
    }

pub loop-k-preserved : goal.loop-k-preserved
loop-k-preserved c =
    let g = c.args.geometry in
    let it = c.in-Ok.superblock in
    let e = c.in-Ok.ensures in
    let items : c.push_reserved.new.self.items ≡ c.loop-k.sections.items ++ it ∷ [] = c.push_reserved.ensures.items in
    let lt : c.loop-k.k < g.sections = omega (arith, c.loop-k-test.true, c.sections-count.ensures.sections) in
    record {
      size = omega (arith, c.push_reserved.ensures.len, c.loop-k.invariant.size, c.push_reserved.new.self.ok.0, c.loop-k.sections.ok.0);
      room = omega (arith, c.loop-k.invariant.room, c.push_reserved.ensures.capacity);
      new_ones = subst (AreFirstNew g.format g.extents g.pages g.sections (c.loop-k.k + 1)) (sym items)
          (more_new g.format g.extents g.pages g.sections c.loop-k.k c.loop-k.sections.items it c.loop-k.invariant.new_ones
          (new_section_is g.format g.extents g.pages g.sections c.loop-k.k c.sections-count.ensures.geometry lt it e.format e.version e.recorded e.extents e.pages e.sections e.section e.rows));
    }

pub returns : goal.returns
returns c =
    let g = c.args.geometry in
    let end : c.loop-k.k ≡ g.sections = omega (arith, c.loop-k-test.false, c.loop-k.auto.k-end, c.sections-count.ensures.sections) in
    record {
      geometry = c.sections-count.ensures.geometry;
      new_ones = subst (λ (n : ℕ). AreFirstNew g.format g.extents g.pages g.sections n c.loop-k.sections.items) end c.loop-k.invariant.new_ones;
    }
