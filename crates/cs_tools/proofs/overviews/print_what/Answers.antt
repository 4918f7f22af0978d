use Rattle.std.proofs.Common.{subst, sym}
use Rattle.std.specs.Prelude.{OnOk}
use Rattle.std.specs.Io.KnownBytes.{Appends}
use Rattle.std.proofs.lemmas.Result.{on_ok_weaker}
use Rattle.cs_tools.specs.ExtentMaps.{map_text}
use Rattle.cs_tools.specs.Overviews.{overview_text}
use Rattle.cs_tools.specs.Summaries.{summary_text}
use Rattle.cs_tools.specs.declared.overviews.Overview.{Overview}
use Rattle.cs_advice.proofs.Appended.{appends_then}
use Rattle.cs_tools.proofs.overviews.print_what.Goals as goal

pub returns-in-Summary : goal.returns-in-Summary
returns-in-Summary g c =
    let contents = g.W.Write.contents in
    subst (λ (what : Overview). OnOk c.print_flushed.result (Appends (contents c.args.writer.now) (contents c.print_flushed.new.writer) (overview_text what c.args.pages c.args.figures c.args.uses.now))) (sym c.in-Summary.is)
    c.print_flushed.ensures

pub returns-in-Map : goal.returns-in-Map
returns-in-Map g c =
    let contents = g.W.Write.contents in
    subst (λ (what : Overview). OnOk c.print_map_flushed.result (Appends (contents c.args.writer.now) (contents c.print_map_flushed.new.writer) (overview_text what c.args.pages c.args.figures c.args.uses.now))) (sym c.in-Map.is)
    c.print_map_flushed.ensures

pub returns-in_ok-print_summary-in-SummaryAndMap : goal.returns-in_ok-print_summary-in-SummaryAndMap
returns-in_ok-print_summary-in-SummaryAndMap g c =
    let contents = g.W.Write.contents in
    let start = contents c.args.writer.now in
    let end = contents c.print_map_flushed-in-SummaryAndMap.new.writer in
    let both = on_ok_weaker c.print_map_flushed-in-SummaryAndMap.result
    (λ ended. appends_then start (contents c.print_summary.new.writer) end (summary_text c.args.figures) (map_text c.args.pages c.args.uses.now) c.in_ok-print_summary-in-SummaryAndMap.ensures ended) c.print_map_flushed-in-SummaryAndMap.ensures in
    subst (λ (what : Overview). OnOk c.print_map_flushed-in-SummaryAndMap.result (Appends start end (overview_text what c.args.pages c.args.figures c.args.uses.now))) (sym c.in-SummaryAndMap.is) both

pub returns-in-Picture : goal.returns-in-Picture
returns-in-Picture g c =
    let contents = g.W.Write.contents in
    subst (λ (what : Overview). OnOk c.draw_flushed.result (Appends (contents c.args.writer.now) (contents c.draw_flushed.new.writer) (overview_text what c.args.pages c.args.figures c.args.uses.now))) (sym c.in-Picture.is)
    c.draw_flushed.ensures
