use Rattle.std.proofs.Common.{◌≡◌, rules}
use Rattle.std.proofs.lemmas.Fn.{filter_same}
use Rattle.cs_node.specs.Told.{from_place}
use Rattle.cs_node.proofs.LogSteps.{kept_from}
use Rattle.cs_node.proofs.logs.Log.forget.Goals as goal

pub invariant_of-self : goal.invariant_of-self
invariant_of-self c =
    let left : c.retain.new.self.items ≡ from_place c.args.base c.self.inside.calls.items = filter_same _ _ _ (λ x b f' k. search rules) _ _ c.retain.ensures.filtered in
    kept_from c.args.base c.self.inside.next c.self.inside.floor c.self.inside.calls.items c.retain.new.self.items left c.self.invariant

pub returns-clause-calls : goal.returns-clause-calls
returns-clause-calls c = rw (← c.self.view_is) (filter_same _ _ _ (λ x b f' k. search rules) _ _ c.retain.ensures.filtered)
