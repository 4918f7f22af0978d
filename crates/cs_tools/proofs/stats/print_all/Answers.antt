use Rattle.std.proofs.Common.{subst, sym}
use Rattle.std.specs.Prelude.{OnOk}
use Rattle.cs_advice.specs.Members.{BeginsWith}
use Rattle.cs_tools.specs.Stats.{geometry_text}
use Rattle.cs_advice.specs.declared.outputs.Style.{Style}
use Rattle.cs_tools.proofs.stats.print_all.Goals as goal

pub returns-in-Text : goal.returns-in-Text
returns-in-Text g c =
    let contents = g.W.Write.contents in
    let asked = c.args.geometry in
    subst (λ (style : Style). OnOk c.print_lines.result (BeginsWith (contents c.args.writer.now) (contents c.print_lines.new.writer) (geometry_text style asked.extents asked.pages asked.sections asked.format)))
    (sym c.in-Text.is) c.print_lines.ensures

pub returns-in-Json : goal.returns-in-Json
returns-in-Json g c =
    let contents = g.W.Write.contents in
    let asked = c.args.geometry in
    subst (λ (style : Style). OnOk c.print_object.result (BeginsWith (contents c.args.writer.now) (contents c.print_object.new.writer) (geometry_text style asked.extents asked.pages asked.sections asked.format)))
    (sym c.in-Json.is) c.print_object.ensures
