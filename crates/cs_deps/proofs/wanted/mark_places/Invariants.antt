use Rattle.std.proofs.Common.{◌≡◌, ℕ, ◌<◌, ◌≤◌, ◌⊎◌, true, false, max, length}
use Rattle.std.specs.Prelude.{◌↔◌, slice_index_or}
use Rattle.cs_deps.proofs.wanted.mark_places.Given as goal

abbrev pub invariant-loop-place : goal.invariant-loop-place
invariant-loop-place l = record {
  low : l.fn.from ≤ l.place;
  high : l.place ≤ max l.fn.from l.place-end;
  count : length l.marks.items ≡ length l.fn.marks.items;
  marks : (i : ℕ) → i < length l.fn.marks.items → (slice_index_or l.marks.items i false ≡ true) ↔ ((slice_index_or l.fn.marks.items i false ≡ true) ⊎ ((l.fn.from ≤ i) × (i < l.place)));
}
