use Rattle.std.specs.Prelude.{codes}
use Rattle.cs_check.specs.Names.{name_of}
use Rattle.cs_picture.specs.Spelling.{spelling}
use Rattle.cs_picture.proofs.Appended.{spelled_line}
use Rattle.cs_picture.proofs.lines.draw_bold.Goals as goal

pub returns : goal.returns
returns g c =
    spelled_line c.writeln.result (g.W.Write.contents c.args.writer.now) (g.W.Write.contents c.writeln.new.self) (spelling c.name_of-name.result) (name_of c.args.letters.now c.args.element) (codes " [penwidth=2];")
    c.name_of-name.ensures c.writeln.ensures.bytes
