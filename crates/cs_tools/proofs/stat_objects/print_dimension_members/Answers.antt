use Rattle.std.proofs.Common.{◌∙◌, [], ◌∷◌, ap}
use Rattle.std.proofs.lemmas.Result.{on_ok_weaker}
use Rattle.std.specs.Prelude.{codes}
use Rattle.cs_frame.specs.FormatNumbers.{counted_as, number_in}
use Rattle.cs_advice.specs.Members.{member, number_text}
use Rattle.cs_tools.specs.Stats.{dimensions_text}
use Rattle.cs_advice.specs.declared.outputs.Style.TheVariants.{Json}
use Rattle.cs_advice.proofs.Appended.{appends_same}
use Rattle.cs_tools.proofs.Continued.{five_then, same_dimensions}
use Rattle.cs_tools.proofs.stat_objects.print_dimension_members.Goals as goal

pub returns : goal.returns
returns g c =
    let contents = g.W.Write.contents in
    let start = contents c.args.writer.now in
    let last = contents c.write.new.self in
    let extents = c.from-extents.result in
    let pages = c.from-pages.result in
    let sections = c.from-sections.result in
    let format = c.from-format.result in
    let asked = c.args.geometry in
    on_ok_weaker c.write.result
    (λ ended. appends_same start last (dimensions_text Json extents pages sections format) (dimensions_text Json asked.extents asked.pages asked.sections (counted_as (number_in asked.format)))
    (same_dimensions Json extents pages sections format asked.extents asked.pages asked.sections (counted_as (number_in asked.format))
    (c.from-extents.ensures ∙ c.extents.ensures.extents) (c.from-pages.ensures ∙ c.pages.ensures.pages) (c.from-sections.ensures ∙ c.sections.ensures.sections) (c.from-format.ensures ∙ c.value.ensures ∙ ap counted_as (c.number.ensures.number ∙ ap number_in c.format.ensures.format)))
    (five_then start (contents c.print_number.new.writer) (contents c.print_number-2.new.writer) (contents c.print_number-3.new.writer) (contents c.print_number-4.new.writer) last
    (number_text (123 ∷ member (codes "extents")) extents) (number_text (44 ∷ member (codes "pages")) pages) (number_text (44 ∷ member (codes "sections")) sections) (number_text (44 ∷ member (codes "format")) format) (44 ∷ [])
    c.in_ok-print_number.ensures c.in_ok-print_number-2.ensures c.in_ok-print_number-3.ensures c.in_ok-print_number-4.ensures ended))
    c.write.ensures.bytes
