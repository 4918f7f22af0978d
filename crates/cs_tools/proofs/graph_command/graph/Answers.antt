use Rattle.std.proofs.Common.{◌∙◌, ℕ, List, subst}
use Rattle.cs_tools.specs.Graphs.{IsDocumentText}
use Rattle.cs_tools.proofs.graph_command.graph.Goals as goal

pub returns-in-Ok-clause-bad : goal.returns-in-Ok-clause-bad
returns-in-Ok-clause-bad g c text is told = subst (λ (t : List ℕ). ¬ IsDocumentText t) (c.deref.ensures.value ∙ c.in-Ok.ensures text is) (c.draw_text.ensures.bad told)
