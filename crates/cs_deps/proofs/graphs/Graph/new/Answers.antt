use Rattle.std.proofs.Common.{◌∙◌, refl, ap, arith}
use Rattle.std.specs.Prelude.{nat_eq}
use Rattle.std.specs.HashMap.{get}
use Rattle.std.specs.Map.{lookup}
use Rattle.cs_deps.proofs.Noted.{newest_new}
use Rattle.cs_deps.specs.Records.{writes_of}
use Rattle.cs_deps.proofs.FiledSteps.{filed_new, room_new}
use Rattle.cs_deps.proofs.StateSteps.{whole_new}
use Rattle.cs_deps.proofs.Queues.{indexed_new}
use Rattle.cs_deps.proofs.graphs.Graph.new.Goals as goal

pub invariant_of-result : goal.invariant_of-result
invariant_of-result c =
    let ps = c.args.persistent.now in
    let p = c.in_ok-persistent.ensures.items_if_clones_equal (λ x y e. e) in
    let l = c.in_ok-latest.ensures.items_if_clones_equal (λ x y e. e) in
    let floors = c.new-2.ensures.floors ∙ c.in_ok-floors.ensures.items_if_clones_equal (λ x y e. e) in
    let none = c.new-3.ensures.empty in
    rw (p, l, c.new-2.ensures.items, floors) (record {
      whole = whole_new ps (writes_of c.new-3.result.slots);
      current = λ k f v d at. absurd (cc at);
      plains = λ n listed. absurd (cc listed.2);
      floors_count = refl;
      floors_low = λ f. omega arith;
      filed = filed_new ps c.in_ok-levels.levels c.in_ok-levels.ensures c.new-3.result none;
      entries_fit = omega (arith, c.new-2.ensures.len);
      places_fit = omega arith;
      records_fit = room_new c.new-3.result none;
      newest = newest_new c.new-3.result none (get nat_eq c.new-4.result) (λ p. ap (lookup (nat_eq p)) c.new-4.ensures.empty);
      newest_fit = omega arith;
      indexed = indexed_new ps c.in_ok-levels.levels c.in_ok-levels.ensures (omega (arith, c.requires.families.1)) (writes_of c.new-3.result.slots);
    })
