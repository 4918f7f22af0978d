use Rattle.std.proofs.Common.{◌∙◌, ℕ, List, [], cond, ap, subst, sym, take_all}
use Rattle.std.specs.Prelude.{flat_map}
use Rattle.std.specs.Io.KnownBytes.{Appends}
use Rattle.std.proofs.lemmas.List.Folds.{flat_map-map}
use Rattle.cs_deps.specs.declared.elements.Element.{Element}
use Rattle.cs_deps.specs.Named.{Named}
use Rattle.cs_picture.specs.Picture.{arrow_line, element_line, is_named, target_line}
use Rattle.cs_picture.proofs.Steps.{kept}
use Rattle.cs_picture.proofs.pictures.draw_elements.Goals as goal

pub returns : goal.returns
returns g c =
    let contents = g.W.Write.contents in
    let line : Element × Named → List ℕ = λ w. element_line c.args.letters.now w.0 in
    subst (λ (xs : List ℕ). Appends (contents c.args.writer.now) (contents c.loop-entry.writer) xs) (ap (flat_map line) (take_all c.loop-entry.entry-index c.args.waiting.now c.loop-entry-test.false) ∙ sym (flat_map-map (element_line c.args.letters.now) (λ (w : Element × Named). w.0) c.args.waiting.now))
    c.loop-entry.invariant
