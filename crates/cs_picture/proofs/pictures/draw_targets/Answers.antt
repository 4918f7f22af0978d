use Rattle.std.proofs.Common.{◌∙◌, ℕ, List, [], cond, ap, subst, sym, take_all}
use Rattle.std.specs.Prelude.{flat_map}
use Rattle.std.specs.Io.KnownBytes.{Appends}
use Rattle.std.proofs.lemmas.List.Folds.{flat_map-map}
use Rattle.cs_deps.specs.declared.elements.Element.{Element}
use Rattle.cs_deps.specs.Named.{Named}
use Rattle.cs_picture.specs.Picture.{arrow_line, element_line, is_named, target_line}
use Rattle.cs_picture.proofs.Appended.{one_read}
use Rattle.cs_picture.proofs.Steps.{kept}
use Rattle.cs_picture.proofs.pictures.draw_targets.Goals as goal

pub returns : goal.returns
returns g c =
    let contents = g.W.Write.contents in
    let line : Element × Named → List ℕ = λ w. cond (is_named c.args.target.now w.0) (target_line c.args.letters.now w.0) [] in
    subst (λ (xs : List ℕ). Appends (contents c.args.writer.now) (contents c.loop-entry.writer) xs) (ap (flat_map line) (take_all c.loop-entry.entry-index c.args.waiting.now c.loop-entry-test.false) ∙ kept (target_line c.args.letters.now) (is_named c.args.target.now) c.args.waiting.now)
    c.loop-entry.invariant

pub loop-entry-preserved : goal.loop-entry-preserved
loop-entry-preserved g c =
    let contents = g.W.Write.contents in
    let line : Element × Named → List ℕ = λ w. cond (is_named c.args.target.now w.0) (target_line c.args.letters.now w.0) [] in
    one_read line c.args.waiting.now c.loop-entry.entry-index c.entry-item.result (contents c.args.writer.now) (contents c.loop-entry.writer) (contents c.draw_if_target.new.writer)
    c.loop-entry-test.true c.entry-item.is c.loop-entry.invariant c.in_ok-draw_if_target.ensures
