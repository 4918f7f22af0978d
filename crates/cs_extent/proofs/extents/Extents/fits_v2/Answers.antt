use Rattle.std.proofs.Common.{◌∙◌, sym, add-one, Some, None, true, false}
use Rattle.law_machine.specs.Extents.{spare}
use Rattle.cs_extent.specs.Purposes.{reason_of}
use Rattle.cs_extent.specs.State.{shape}
use Rattle.cs_extent.proofs.Fitting.{fits_at, fit_step, fit_end}
use Rattle.cs_extent.proofs.extents.Extents.fits_v2.Goals as goal

pub loop-pages-preserved : goal.loop-pages-preserved
loop-pages-preserved c =
    rw add-one (c.loop-pages.invariant ∙ fit_step (shape c.args.self.now) (spare (reason_of c.args.purpose)) c.loop-pages.supply c.args.frame_pages.now c.loop-pages.pages-index c.extent_pages.result c.spare.result (Some c.in-Some.left) c.loop-pages-test.true c.extent_pages.ensures c.spare.ensures (sym c.in-Some.is ∙ c.after.ensures))

pub returns-in-None : goal.returns-in-None
returns-in-None c =
    fits_at c.args.self.now c.room.ensures.whole (reason_of c.args.purpose) c.args.frame_pages.now c.requires c.room.result c.empty_count.result c.room.ensures.room c.empty_count.ensures false
    (c.loop-pages.invariant ∙ fit_step (shape c.args.self.now) (spare (reason_of c.args.purpose)) c.loop-pages.supply c.args.frame_pages.now c.loop-pages.pages-index c.extent_pages.result c.spare.result None c.loop-pages-test.true c.extent_pages.ensures c.spare.ensures (sym c.in-None.is ∙ c.after.ensures))

pub returns : goal.returns
returns c =
    fits_at c.args.self.now c.room.ensures.whole (reason_of c.args.purpose) c.args.frame_pages.now c.requires c.room.result c.empty_count.result c.room.ensures.room c.empty_count.ensures true
    (c.loop-pages.invariant ∙ fit_end (shape c.args.self.now) (spare (reason_of c.args.purpose)) c.loop-pages.supply c.args.frame_pages.now c.loop-pages.pages-index c.loop-pages-test.false)
