use Rattle.std.proofs.Common.{◌≡◌, ℕ, ◌<◌, ◌≤◌, length, get_or}
use Rattle.cs_deps.specs.Levels.{floor_of}
use Rattle.cs_deps.proofs.cleaning.raise_floors.Given as goal

abbrev pub invariant-loop-family : goal.invariant-loop-family
invariant-loop-family l = record {
  done : (f : ℕ) → f < l.family → get_or l.floors.items f 0 ≡ floor_of (get_or l.persistent f 0) (get_or l.latest f 0) (get_or l.fn.floors.items f 0);
  left : (f : ℕ) → l.family ≤ f → get_or l.floors.items f 0 ≡ get_or l.fn.floors.items f 0;
  count : length l.floors.items ≡ length l.fn.floors.items;
}
