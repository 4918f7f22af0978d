use Rattle.std.proofs.Common.{◌∙◌, sym}
use Rattle.cs_frame.proofs.FirstFormatLaws.{count_of, one_of_first_format, spelled_has_none, spells}
use Rattle.cs_frame.proofs.TestLaws.{some_and_none}
use Rattle.cs_frame.proofs.page_zero.decode_first_format.Goals as goal

pub returns-in_err-check_first_format-clause-read : goal.returns-in_err-check_first_format-clause-read
returns-in_err-check_first_format-clause-read c = λ version pages extents s. some_and_none c.in_err-check_first_format.ensures.fault (spelled_has_none c.args.page.now version pages extents s)

pub returns-clause-spelled : goal.returns-clause-spelled
returns-clause-spelled c =
    let it = c.in_ok-first_format_from.ensures in
    let is = spells c.args.page.now _ _ _ c.in_ok-check_first_format.ensures.page (sym c.in_ok-check_first_format.ensures.fault) it.version it.pages it.extents in
    record {
      spells = is;
      written_in = it.format;
      no_record = it.record;
      all_extents = it.extent_count ∙ count_of c.args.page.now _ _ _ is;
      one_section = it.sections;
      first_section = it.section;
    }

pub returns-clause-read : goal.returns-clause-read
returns-clause-read c = λ version pages extents s.
    let it = c.in_ok-first_format_from.ensures in
    let one = one_of_first_format c.args.page.now version pages extents s in
    (it.format, it.version ∙ one.0, it.record, it.extent_count ∙ count_of c.args.page.now version pages extents s, it.pages ∙ one.1, it.sections, it.section, it.extents ∙ one.2)
