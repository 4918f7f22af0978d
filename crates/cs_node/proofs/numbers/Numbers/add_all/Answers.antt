use Rattle.std.proofs.Common.{◌∙◌, ap, arith}
use Rattle.cs_node.specs.Numbers.{times}
use Rattle.cs_node.proofs.numbers.Numbers.add_all.Goals as goal

pub returns-clause-ok : goal.returns-clause-ok
returns-clause-ok c = (
  λ x. omega (arith, c.place_all.ensures.gains x, ap (times x) (c.reserve.ensures.items ∙ c.self.view_is), ap (times x) c.other.view_is),
  c.place_all.ensures.moved,
)
