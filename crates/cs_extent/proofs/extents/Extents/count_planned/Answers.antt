use Rattle.std.proofs.Common.{◌∙◌, arith, length-set, take}
use Rattle.cs_frame.proofs.GeometryLaws.{bounds}
use Rattle.cs_extent.specs.State.{extents_of, shape}
use Rattle.cs_extent.proofs.Planning.{no_next, planned_all, planned_next}
use Rattle.cs_extent.proofs.extents.Extents.count_planned.Goals as goal

pub count-requires : goal.count-requires
count-requires c = omega (arith, c.section.ensures.inside, (bounds _ _ _ _ c.extent_count.ensures.whole.geometry).most_sections)

pub loop-i-preserved : goal.loop-i-preserved
loop-i-preserved c = record {
  size = length-set c.loop-i.planned c.loop-i.i c.in-Some.placement ∙ c.loop-i.invariant.size;
  so_far = planned_next (shape c.args.self.now) (extents_of c.args.self.now) c.args.frame_pages.now c.loop-i.i c.loop-i-test.true c.loop-i.planned c.loop-i.counts
      c.loop-i.invariant.so_far c.in-Some.placement (omega (arith, c.loop-i-test.true, c.requires.few, c.loop-i.invariant.size))
      c.in-Some.ensures.0 c.in-Some.ensures.1 c.section.result c.section.ensures.section
      (omega (arith, c.section.ensures.inside, (bounds _ _ _ _ c.extent_count.ensures.whole.geometry).most_sections)) c.count.new.counts c.count.ensures;
}

pub returns-in-None : goal.returns-in-None
returns-in-None c = λ fits.
    no_next (shape c.args.self.now) (extents_of c.args.self.now) c.args.frame_pages.now c.loop-i.i c.loop-i-test.true (take c.loop-i.i c.loop-i.planned)
    c.in-None.ensures (c.loop-i.invariant.so_far.left fits)

pub returns : goal.returns
returns c =
    planned_all (shape c.args.self.now) (extents_of c.args.self.now) c.args.frame_pages.now c.loop-i.i (take c.loop-i.i c.loop-i.planned) c.loop-i.counts c.loop-i.invariant.so_far c.loop-i-test.false
