use Rattle.std.proofs.Common.{◌≤◌, All, rules}
use Rattle.std.specs.Prelude.{◌↔◌, IsTrue}
use Rattle.cs_node.proofs.Times.{ends_from_within, within_from_ends}
use Rattle.cs_node.proofs.numbers.Numbers.is_within.Goals as goal

pub returns : goal.returns
returns c =
    let all : IsTrue c.all.result ↔ All (λ s. s.last ≤ c.args.most) c.self.inside.stretches.items = search rules in
    rw (← c.self.view_is) (
      (λ t. within_from_ends c.args.most c.self.inside.stretches.items (all.0 t)),
      (λ none. all.1 (ends_from_within c.args.most c.self.inside.stretches.items c.self.invariant none)),
    )
