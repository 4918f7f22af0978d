use Rattle.std.proofs.Common.{◌≡◌, ◌≤◌, ◌-◌, [], ◌∷◌, vec_len, ap, arith}
use Rattle.std.proofs.lemmas.Grind.{common_steps}
use Rattle.std.proofs.lemmas.List.Elements.{All-take}
use Rattle.cs_node.specs.Numbers.{times}
use Rattle.cs_node.proofs.Times.{times-append}
use Rattle.cs_node.proofs.numbers.place_all.Goals as goal

pub loop-stretch-preserved : goal.loop-stretch-preserved
loop-stretch-preserved c = record {
  room = omega (arith, c.place.ensures.len, c.place.ensures.capacity, c.loop-stretch.invariant.room, c.in-Some.ensures.cases);
  filled = (
    c.place.ensures.filled,
    rw c.in-Some.ensures.rest (All-take (λ s. s.first ≤ s.last) (vec_len c.loop-stretch.more - 1) c.loop-stretch.more.items c.loop-stretch.invariant.filled.1),
  );
  same = λ x. omega (arith, c.place.ensures.gains x, c.loop-stretch.invariant.same x, ap (times x) c.in-Some.ensures.items, times-append x c.pop.new.self.items (c.in-Some.stretch ∷ []));
}

pub returns-clause-gains : goal.returns-clause-gains
returns-clause-gains c x =
    let none : c.loop-stretch.more.items ≡ [] = grind (arith, common_steps) in
    omega (arith, c.loop-stretch.invariant.same x, ap (times x) none)
