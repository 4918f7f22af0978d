use Rattle.std.proofs.Common.{rules}
use Rattle.std.proofs.lemmas.List.Sorted.{answers_always}
use Rattle.cs_salvage.specs.declared.parts.Part.{Part}
use Rattle.cs_salvage.proofs.Orders.{in_order}
use Rattle.cs_salvage.proofs.whole_shards.by_puts.Goals as goal

pub returns-clause-ordered : goal.returns-clause-ordered
returns-clause-ordered c =
    in_order c.sort_by_key.new.self.items (c.in_ok-sort_by_key.ensures.sorted (λ (p : Part). (p.head.id, record { 0 = p.head.command })) (answers_always _ _ _ (λ f a r q k. search rules)))
