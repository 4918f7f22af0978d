use Rattle.std.proofs.Common.{◌≡◌, ◌≤◌, length, map, take, vec_capacity}
use Rattle.cs_store.proofs.sections.pages_of.Given as goal

abbrev pub invariant-loop-k : goal.invariant-loop-k
invariant-loop-k l = record {
  items : l.pages.items ≡ map (λ w. w.0) (take l.k l.made);
  size : length l.pages.items ≡ l.k;
  room : length l.made ≤ vec_capacity l.pages;
}
