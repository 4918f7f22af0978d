use Rattle.std.specs.Prelude.{codes}
use Rattle.cs_check.specs.Names.{name_of}
use Rattle.cs_picture.specs.Spelling.{spelling}
use Rattle.cs_picture.proofs.Appended.{spelled_arrow}
use Rattle.cs_picture.proofs.lines.draw_bold_arrow.Goals as goal

pub returns : goal.returns
returns g c =
    spelled_arrow c.writeln.result (g.W.Write.contents c.args.writer.now) (g.W.Write.contents c.writeln.new.self) (spelling c.name_of-from.result) (name_of c.args.letters.now c.args.element) (spelling c.name_of-to.result) (name_of c.args.letters.now c.args.need) (codes " [penwidth=2];")
    c.name_of-from.ensures c.name_of-to.ensures c.writeln.ensures.bytes
