use Rattle.std.proofs.Common.{◌≡◌, ◌≤◌, length, vec_capacity}
use Rattle.test_store.proofs.Divided.{AreFirst}
use Rattle.test_store.proofs.stores.new_sections.Given as goal

abbrev pub invariant-loop-k : goal.invariant-loop-k
invariant-loop-k l = record {
  size : length l.sections.items ≡ l.k;
  room : l.count ≤ vec_capacity l.sections;
  first : AreFirst l.geometry.format l.geometry.extents l.geometry.pages l.geometry.sections l.k l.sections.items;
}
