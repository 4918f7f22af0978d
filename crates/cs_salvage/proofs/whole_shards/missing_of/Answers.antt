use Rattle.std.proofs.Common.{refl}
use Rattle.cs_salvage.specs.Shards.{AreAllOf, IsWhole}
use Rattle.cs_salvage.proofs.Missings.{missing_here, none_found}
use Rattle.cs_salvage.proofs.whole_shards.missing_of.Goals as goal

pub returns : goal.returns
returns c =
    let not_whole = none_found (IsWhole c.args.parts.now c.args.put → ⊥) (λ pieces. AreAllOf c.args.parts.now c.args.put pieces.items) c.in_ok-whole_of.field-0 c.if-is_some.ensures c.in_ok-whole_of.ensures in
    (refl, missing_here c.args.put c.args.parts.now c.requires.some c.requires.own c.are_ambiguous-ambiguous.result not_whole c.are_ambiguous-ambiguous.ensures)
