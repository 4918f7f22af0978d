use Rattle.std.proofs.Common.{◌≡◌, ℕ, zero, suc, List, [], ◌∷◌, None, arith, get_or, map, refl, subst, sym}
use Rattle.std.specs.List.{AllByRecursion}
use Rattle.std.specs.Prelude.{replicate}
use Rattle.law_machine.specs.Element.{Entry}
use Rattle.cs_index.specs.Sorted.{IsStart}
use Rattle.cs_index.specs.State.{IsAfter, named_entry}
use Rattle.cs_index.proofs.stored_runs.entries_from.Goals as goal

-- each identifier comes after none
all_after : (xs : List Entry) → AllByRecursion (λ x. IsAfter None x.id) xs
all_after [] = tt
all_after (x ∷ xs) = (tt, all_after xs)

from_first : (xs : List Entry) → IsStart None 0 xs
from_first xs = record { inside = omega arith; before = tt; behind = all_after xs }

-- so all runs are read from their first entry on
zeros_at : (n k : ℕ) → get_or {A = ℕ} (replicate n 0) k 0 ≡ 0
zeros_at zero k = refl
zeros_at (suc n) zero = refl
zeros_at (suc n) (suc k) = zeros_at n k

pub invariant_of-result : goal.invariant_of-result
invariant_of-result c = record {
  readable = c.requires;
  in_table = from_first (map named_entry c.args.table.now);
  in_runs = λ k run there.
      subst (λ (n : ℕ). IsStart None n (map named_entry run.entries.items)) (sym (zeros_at 24 k)) (from_first (map named_entry run.entries.items));
}
