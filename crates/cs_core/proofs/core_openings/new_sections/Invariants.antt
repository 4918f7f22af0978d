use Rattle.std.proofs.Common.{◌≡◌, ◌≤◌, length, vec_capacity}
use Rattle.cs_core.specs.Started.{AreFirstNew}
use Rattle.cs_core.proofs.core_openings.new_sections.Given as goal

abbrev pub invariant-loop-k : goal.invariant-loop-k
invariant-loop-k l = record {
  size : length l.sections.items ≡ l.k;
  room : l.count ≤ vec_capacity l.sections;
  new_ones : AreFirstNew l.geometry.format l.geometry.extents l.geometry.pages l.geometry.sections l.k l.sections.items;
}
