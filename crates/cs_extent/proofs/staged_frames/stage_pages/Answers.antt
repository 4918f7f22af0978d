use Rattle.std.proofs.Common.{◌∙◌, ◌+◌, refl, arith}
use Rattle.cs_extent.proofs.Staged.{pages_more, written_more, others_more}
use Rattle.cs_extent.proofs.staged_frames.stage_pages.Goals as goal

pub loop-i-preserved : goal.loop-i-preserved
loop-i-preserved c =
    let was = c.loop-i.invariant in
    let new = c.stage_page.ensures in
    record {
      staged = pages_more c.args.graph.now.staging c.loop-i.graph.staging c.stage_page.new.graph.staging c.loop-i.i c.args.root was.staged new.staged.0 new.staged.1 new.staged.2;
      writes = written_more c.loop-i.graph c.stage_page.new.graph c.args.graph.now.staging.staged c.loop-i.i c.loop-i.graph.staging.staged was.staged.staged new.others (λ i. c.args.first + i) c.args.frame.now _ was.writes new.write refl;
      others = others_more c.loop-i.graph c.stage_page.new.graph c.args.graph.now.staging.staged c.loop-i.i c.loop-i.graph.staging.staged was.staged.staged new.others c.args.graph.now refl was.others;
      round = new.round ∙ was.round;
      left = omega (arith, was.left, new.left);
    }
