use Rattle.std.proofs.Common.{add-one, arith, refl}
use Rattle.cs_frame.proofs.GeometryLaws.{bounds}
use Rattle.cs_extent.specs.Purposes.{reason_of}
use Rattle.cs_extent.specs.State.{extents_of, shape}
use Rattle.cs_extent.proofs.Worn.{counted_all, counted_more, counted_none, place_is, way_inside}
use Rattle.cs_extent.proofs.extents.Extents.count_versions_v2.Goals as goal

pub loop-pages-init : goal.loop-pages-init
loop-pages-init c =
    counted_none c.args.self.now c.room.ensures.whole (reason_of c.args.purpose) c.args.frame_pages.now c.requires.fits (record { extent = c.last_extent.result; room = c.room.result; next = 0 }) c.room.ensures.room c.last_extent.ensures refl

pub goes_on-way-requires-clause-pages : goal.goes_on-way-requires-clause-pages
goes_on-way-requires-clause-pages c = (c.requires.pages c.loop-pages.pages-index 0 c.loop-pages-test.true).1

pub goes_on-way-requires-clause-place : goal.goes_on-way-requires-clause-place
goes_on-way-requires-clause-place c =
    place_is (shape c.args.self.now) (extents_of c.args.self.now) (reason_of c.args.purpose) c.args.frame_pages.now c.loop-pages.pages-index c.loop-pages.way c.loop-pages.counts c.loop-pages.invariant c.loop-pages-test.true
    (c.requires.pages c.loop-pages.pages-index 0 c.loop-pages-test.true).0

pub section-requires : goal.section-requires
section-requires c =
    way_inside (shape c.args.self.now) (extents_of c.args.self.now) (reason_of c.args.purpose) c.args.frame_pages.now c.loop-pages.pages-index c.loop-pages.way c.loop-pages.counts c.loop-pages.invariant c.loop-pages-test.true
    (c.requires.pages c.loop-pages.pages-index 0 c.loop-pages-test.true).0 c.goes_on-way.result c.goes_on-way.ensures.stays c.goes_on-way.ensures.opens

pub count-requires : goal.count-requires
count-requires c = omega (arith, c.section.ensures.inside, (bounds _ _ _ _ c.room.ensures.whole.geometry).most_sections)

pub loop-pages-preserved : goal.loop-pages-preserved
loop-pages-preserved c =
    rw add-one (counted_more (shape c.args.self.now) (extents_of c.args.self.now) (reason_of c.args.purpose) c.args.frame_pages.now c.loop-pages.pages-index c.loop-pages.way c.loop-pages.counts c.loop-pages.invariant c.loop-pages-test.true
    (c.requires.pages c.loop-pages.pages-index 0 c.loop-pages-test.true).0 c.goes_on-way.result c.goes_on-way.ensures.stays c.goes_on-way.ensures.opens
    c.section.result c.section.ensures.section (omega (arith, c.section.ensures.inside, (bounds _ _ _ _ c.room.ensures.whole.geometry).most_sections)) c.count.new.counts c.count.ensures)

pub returns : goal.returns
returns c =
    counted_all (shape c.args.self.now) (extents_of c.args.self.now) (reason_of c.args.purpose) c.args.frame_pages.now c.loop-pages.pages-index c.loop-pages.way c.loop-pages.counts c.loop-pages.invariant c.loop-pages-test.false
