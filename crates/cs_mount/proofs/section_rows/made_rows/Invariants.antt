use Rattle.std.proofs.Common.{◌≡◌, ◌≤◌, length, map, vec_capacity}
use Rattle.std.specs.List.{AllByRecursion, range_with_len}
use Rattle.cs_mount.specs.MadeSections.{made_row}
use Rattle.cs_mount.proofs.section_rows.made_rows.Given as goal

abbrev pub invariant-loop-k : goal.invariant-loop-k
invariant-loop-k l = record {
  items : l.rows.items ≡ map (made_row l.geometry.pages l.named) (range_with_len l.start l.k);
  fits : AllByRecursion (λ row. row.0 ≤ l.geometry.pages) l.rows.items;
  size : length l.rows.items ≡ l.k;
  room : l.count ≤ vec_capacity l.rows;
}
