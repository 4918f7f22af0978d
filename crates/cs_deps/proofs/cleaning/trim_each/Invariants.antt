use Rattle.std.specs.Prelude.{◌≡◌, ℕ, ◌+◌, ◌≤◌, All, length, slice_index}
use Rattle.std.specs.VecDeque.{deque_len, deque_capacity}
use Rattle.cs_deps.specs.Levels.{family_at}
use Rattle.cs_deps.specs.Trimmed.{IsTrimmedList}
use Rattle.cs_deps.proofs.cleaning.trim_each.Given as goal

abbrev pub invariant-loop-family : goal.invariant-loop-family
invariant-loop-family l = record {
  lists : (f : ℕ) → IsTrimmedList l.base (family_at l.fn.versions.items f) (family_at l.versions.items f);
  counts : (f : ℕ) → slice_index l.starts.items f + length (family_at l.versions.items f) ≡ slice_index l.latest f;
  count : length l.versions.items ≡ length l.fn.versions.items;
  room : (n : ℕ) → All (λ q. deque_len q + n ≤ deque_capacity q) l.fn.versions.items → All (λ q. deque_len q + n ≤ deque_capacity q) l.versions.items;
}
