use Rattle.std.proofs.Common.{◌≡◌, ◌∙◌, ℕ, List, ap, max}
use Rattle.std.proofs.lemmas.Result.{on_ok_weaker}
use Rattle.cs_tools.specs.MapPictures.{bar_text, pixels, label_text, lower_colour, lower_pages}
use Rattle.cs_advice.proofs.Appended.{appends_same, appends_then}
use Rattle.cs_tools.proofs.map_pictures.draw_extent.Goals as goal

pub returns : goal.returns
returns g c =
    let contents = g.W.Write.contents in
    let number = c.args.number in
    let pages = c.args.pages in
    let used = c.args.used in
    let end = contents c.draw_bar.new.writer in
    let drawn = bar_text number c.lower_colour.result.now c.pixels-lower.result c.max-given.result in
    let bar = bar_text number (lower_colour used) (pixels pages (lower_pages pages used)) (max (pixels pages (lower_pages pages used)) (pixels pages used.pointer)) in
    let lower : c.pixels-lower.result ≡ pixels pages (lower_pages pages used) = c.pixels-lower.ensures.pixels ∙ ap (pixels pages) c.lower_pages.ensures in
    let given : c.max-given.result ≡ max (pixels pages (lower_pages pages used)) (pixels pages used.pointer) = c.max-given.ensures ∙ ap (λ (n : ℕ). max c.pixels-lower.result n) c.pixels.ensures.pixels ∙ ap (λ (n : ℕ). max n (pixels pages used.pointer)) lower in
    let same : drawn ≡ bar = ap (λ (colour : List ℕ). bar_text number colour c.pixels-lower.result c.max-given.result) c.lower_colour.ensures
    ∙ ap (λ (n : ℕ). bar_text number (lower_colour used) n c.max-given.result) lower
    ∙ ap (λ (n : ℕ). bar_text number (lower_colour used) (pixels pages (lower_pages pages used)) n) given in
    on_ok_weaker c.draw_bar.result
    (λ ended. appends_then (contents c.args.writer.now) (contents c.draw_label.new.writer) end (label_text number) bar c.in_ok-draw_label.ensures (appends_same (contents c.draw_label.new.writer) end drawn bar same ended))
    c.draw_bar.ensures
