use Rattle.std.proofs.Common.{◌∙◌, ◌++◌, ℕ, List, ap, sym}
use Rattle.std.proofs.lemmas.List.{append-nil}
use Rattle.std.proofs.lemmas.Result.{on_ok_weaker}
use Rattle.std.specs.Prelude.{Option}
use Rattle.cs_frame.specs.FormatNumbers.{counted_as, number_in}
use Rattle.cs_frame.specs.Roots.{identity_in}
use Rattle.cs_tools.specs.Stats.{dimensions_text, geometry_text, identity_line, store_text}
use Rattle.cs_advice.specs.declared.outputs.Style.TheVariants.{Text}
use Rattle.cs_advice.proofs.Appended.{appends_same, appends_then}
use Rattle.cs_tools.proofs.stats.print_geometry.Goals as goal

pub returns-in-Some : goal.returns-in-Some
returns-in-Some g c =
    let contents = g.W.Write.contents in
    let start = contents c.args.writer.now in
    let last = contents c.print_store.new.writer in
    let asked = c.args.geometry in
    let store = c.in-Some.store.0 in
    let dimensions = dimensions_text Text asked.extents asked.pages asked.sections (counted_as (number_in asked.format)) in
    let said = rw c.in-Some.is at c.store.ensures.store in
    on_ok_weaker c.print_store.result
    (λ ended. appends_same start last (dimensions ++ store_text Text store) (geometry_text Text asked.extents asked.pages asked.sections asked.format)
    (ap (λ (identity : Option (List ℕ)). dimensions ++ identity_line identity Text) (said ∙ ap identity_in c.format.ensures.format))
    (appends_then start (contents c.print_dimensions.new.writer) last dimensions (store_text Text store) c.in_ok-print_dimensions.ensures ended))
    c.print_store.ensures

pub returns-in-None : goal.returns-in-None
returns-in-None g c =
    let contents = g.W.Write.contents in
    let asked = c.args.geometry in
    let dimensions = dimensions_text Text asked.extents asked.pages asked.sections (counted_as (number_in asked.format)) in
    let said = rw c.in-None.is at c.store.ensures.store in
    appends_same (contents c.args.writer.now) (contents c.print_dimensions.new.writer) dimensions (geometry_text Text asked.extents asked.pages asked.sections asked.format)
    (sym (append-nil dimensions) ∙ ap (λ (identity : Option (List ℕ)). dimensions ++ identity_line identity Text) (said ∙ ap identity_in c.format.ensures.format))
    c.in_ok-print_dimensions.ensures
