use Rattle.std.proofs.Common.{rules, true≢false, sym, ◌∙◌}
use Rattle.cs_node.proofs.Resting.{empty_of}
use Rattle.cs_node.proofs.streams.next_event.Goals as goal

pub returns-then-may_stage : goal.returns-then-may_stage
returns-then-may_stage g c = (
  search rules,
  c.if-may_stage.ensures,
)

pub returns-then-has_waiting : goal.returns-then-has_waiting
returns-then-has_waiting g c = (
  search rules,
  c.if-may_stage.ensures,
  c.has_waiting.ensures.0 c.if-has_waiting.true,
)

pub returns : goal.returns
returns g c = (
  search rules,
  empty_of _ (λ some. absurd (true≢false (sym (c.has_waiting.ensures.1 some) ∙ c.if-has_waiting.false))),
  c.if-may_stage.ensures,
)
