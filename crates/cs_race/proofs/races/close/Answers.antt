use Rattle.std.proofs.Common.{◌∙◌, ℕ, ap, subst}
use Rattle.std.specs.Io.KnownBytes.{Appends}
use Rattle.cs_node.specs.cs_core.Views.{View}
use Rattle.cs_race.specs.Races.{counts_lines}
use Rattle.cs_race.proofs.RaceSteps.{closed}
use Rattle.cs_race.proofs.races.close.Goals as goal

pub returns-clause-closes : goal.returns-clause-closes
returns-clause-closes g c =
    let contents = g.W.Write.contents in
    let before = contents c.args.writer.now in
    let counted = contents c.print_counts.new.writer in
    let read = c.args.left.read_back in
    let accepted = c.accepted-accepted.ensures ∙ ap (λ (v : View g.row.D.Denot). v.store.accepted) c.core.ensures.core in
    let counts = subst (λ (n : ℕ). Appends before counted (counts_lines n read)) accepted c.in_ok-print_counts.ensures in
    closed g.D.PageDisk g.K.Naming.start c.args.left.rest c.args.left.purses.items read c.answer_of-answer.result c.in_ok-status.status
    before counted (contents c.print_answer.new.writer) (contents c.flush.new.self)
    c.answer_of-answer.ensures c.in_ok-status.ensures.0 counts c.in_ok-status.ensures.1 c.in_ok-flush.ensures.bytes
