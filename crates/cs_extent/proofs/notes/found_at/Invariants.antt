use Rattle.std.proofs.Common.{◌≡◌, ℕ, take}
use Rattle.std.specs.Prelude.{map}
use Rattle.cs_extent.proofs.notes.found_at.Given as goal

abbrev pub invariant-loop-extent : goal.invariant-loop-extent
invariant-loop-extent l = l.found.items ≡ map (λ (row : ℕ × ℕ). row.0) (take l.extent-index l.written)
