use Rattle.std.proofs.Common.{ℕ, List, ap, subst, take_all}
use Rattle.std.specs.Prelude.{flat_map}
use Rattle.std.specs.Io.KnownBytes.{Appends}
use Rattle.cs_tools.specs.ExtentMaps.{mark_text}
use Rattle.cs_advice.proofs.Appended.{appends_none, one_more}
use Rattle.cs_tools.proofs.extent_maps.print_marks.Goals as goal

pub loop-used-init : goal.loop-used-init
loop-used-init g c = appends_none (g.W.Write.contents c.args.writer.now)

pub loop-used-preserved : goal.loop-used-preserved
loop-used-preserved g c =
    let contents = g.W.Write.contents in
    one_more (mark_text c.args.pages) c.args.row.now c.loop-used.used-index _ (contents c.args.writer.now) (contents c.loop-used.writer) (contents c.print_mark.new.writer)
    c.loop-used-test.true c.loop-used.invariant c.in_ok-print_mark.ensures

pub returns : goal.returns
returns g c =
    let contents = g.W.Write.contents in
    subst (λ (xs : List ℕ). Appends (contents c.args.writer.now) (contents c.loop-used.writer) xs)
    (ap (flat_map (mark_text c.args.pages)) (take_all c.loop-used.used-index c.args.row.now c.loop-used-test.false)) c.loop-used.invariant
