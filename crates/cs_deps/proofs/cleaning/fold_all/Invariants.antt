use Rattle.std.specs.Prelude.{◌≡◌, ◌≤◌, ℕ, List, vec_len, vec_capacity}
use Rattle.cs_deps.specs.declared.levels.Levels.{Levels}
use Rattle.cs_deps.specs.Entries.{waiting_of, AreCurrent}
use Rattle.cs_deps.specs.Levels.{AreLive}
use Rattle.cs_deps.proofs.cleaning.fold_all.Given as goal

abbrev pub invariant-loop-family : goal.invariant-loop-family
invariant-loop-family l = record {
  waiting : waiting_of l.persistent l.entries.items ≡ waiting_of l.persistent l.fn.entries.items;
  current : (latest : List ℕ) → AreCurrent l.persistent latest l.fn.entries.items → AreCurrent l.persistent latest l.entries.items;
  live : (m : Levels) (floors : List ℕ) → AreLive m floors l.fn.entries.items → AreLive m floors l.entries.items;
  count : vec_len l.entries ≤ vec_len l.fn.entries;
  capacity : vec_capacity l.entries ≡ vec_capacity l.fn.entries;
}
