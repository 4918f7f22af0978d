use Rattle.std.proofs.Common.{List, ℕ, [], ◌∷◌, ◌++◌, sym, subst, append_assoc}
use Rattle.std.specs.Prelude.{OnOk, codes, decimal}
use Rattle.std.specs.Io.KnownBytes.{Appends}
use Rattle.cs_picture.specs.Picture.{quote}
use Rattle.cs_picture.proofs.lines.draw_label.Goals as goal

pub returns : goal.returns
returns g c =
    let contents = g.W.Write.contents in
    subst (λ (l : List ℕ). OnOk c.writeln.result (Appends (contents c.args.writer.now) (contents c.writeln.new.self) (codes "    label=" ++ quote ∷ codes "round " ++ l)))
    (sym (append_assoc (decimal c.args.number) (quote ∷ codes ";") (10 ∷ []))) c.writeln.ensures.bytes
