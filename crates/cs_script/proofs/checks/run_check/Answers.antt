use Rattle.std.proofs.Common.{◌∙◌, ℕ, List, ap, subst}
use Rattle.std.specs.Io.KnownBytes.{Appends}
use Rattle.cs_script.specs.Checks.{Checks}
use Rattle.cs_script.proofs.CheckSteps.{all_read}
use Rattle.cs_script.proofs.checks.run_check.Goals as goal

pub returns-in-Ok-answer_check-clause-check : goal.returns-in-Ok-answer_check-clause-check
returns-in-Ok-answer_check-clause-check g c text is small =
    let left = ap g.R.Read.remaining c.new-reader.ensures ∙ is in
    let all = c.deref.ensures.value ∙ all_read (g.R.Read.remaining c.new-reader.result.reader) text c.new-text.result.items c.read_to_end.new.buf.items left c.new-text.ensures.items c.in-Ok.ensures.bytes in
    let before = g.W.Write.contents c.args.writer.now in
    let after = g.W.Write.contents c.answer_check.new.writer in
    subst (λ (l : List ℕ). (out : List ℕ) × Checks l c.in-Ok-answer_check.status out × Appends before after out) all c.in-Ok-answer_check.ensures.check
