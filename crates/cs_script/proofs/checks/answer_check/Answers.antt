use Rattle.cs_script.proofs.CheckSteps.{reported}
use Rattle.cs_script.proofs.checks.answer_check.Goals as goal

pub returns-clause-check : goal.returns-clause-check
returns-clause-check g c =
    reported c.args.text.now c.check_text.result c.in_ok-status.status (g.W.Write.contents c.args.writer.now) (g.W.Write.contents c.print_check.new.writer) (g.W.Write.contents c.flush.new.self)
    c.check_text.ensures.optimal c.check_text.ensures.faulty c.in_ok-status.ensures c.in_ok-flush.ensures.bytes
