use Rattle.cs_tools.proofs.Drawing.{none_told, told_bad, told_faults}
use Rattle.cs_tools.specs.Graphs.{IsDocumentText}
use Rattle.cs_tools.proofs.graph_command.draw_text.Goals as goal

pub returns-in-Ok-clause-bad : goal.returns-in-Ok-clause-bad
returns-in-Ok-clause-bad g c told = none_told c.draw_document.result _ _ c.draw_document.ensures told

pub returns-in-Ok-clause-untouched : goal.returns-in-Ok-clause-untouched
returns-in-Ok-clause-untouched g c r told = none_told c.draw_document.result r _ c.draw_document.ensures told

pub returns-in-Err-clause-bad : goal.returns-in-Err-clause-bad
returns-in-Err-clause-bad g c told = told_bad c.in-Err.fault c.from.result (IsDocumentText c.args.text.now) c.from.ensures c.in-Err.ensures.bad told

pub returns-in-Err-clause-ends : goal.returns-in-Err-clause-ends
returns-in-Err-clause-ends g c = told_faults c.in-Err.fault c.from.result (IsDocumentText c.args.text.now) c.from.ensures c.in-Err.ensures.bad
