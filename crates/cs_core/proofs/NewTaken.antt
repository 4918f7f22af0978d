-- Disks that take what is written of a new store.
use Rattle.std.proofs.Common.{◌≡◌, ◌≢◌, ◌∙◌, ℕ, ◌+◌, List, Result, Ok, Err, OnOk, arith, subst, sym}
use Rattle.cs_disk.specs.declared.disk.PageDisk.{Ghosts as PageDisk}
use Rattle.cs_core.specs.Started.{TakesNew, head_page}
use Rattle.cs_core.proofs.Heads.{head_apart, head_not_root}
use Rattle.law_machine.specs.Format.{Format}

module _ {D : Type 0} (disks : PageDisk D) (format : Format) (extents pages sections : ℕ) where
  -- a section was written
  pub others_taken : {T E : Type 0} (r : Result T E) (before after : D) (j number : ℕ) → number ≡ head_page extents pages j
      → OnOk r ((other : ℕ) (later : List ℕ) → other ≢ number → disks.takes before other later → disks.takes after other later)
      → OnOk r (TakesNew disks format extents pages sections j before → TakesNew disks format extents pages sections (j + 1) after)
  others_taken (Ok t) before after j number at others = λ takes. record {
    of_section = λ k bytes from few spelled. others (head_page extents pages k) bytes (λ e. head_apart extents pages k j (λ same. absurd (omega (arith, from, same))) (e ∙ at)) (takes.of_section k bytes (omega (arith, from)) few spelled);
    of_root = λ bytes spelled. others 1 bytes (λ e. head_not_root extents pages j (sym at ∙ sym e)) (takes.of_root bytes spelled);
  }
  others_taken (Err e) before after j number at others = tt

  -- what it takes of the sections from a place on is named otherwise
  pub taken_from : (disk : D) (i j : ℕ) → i ≡ j → TakesNew disks format extents pages sections i disk → TakesNew disks format extents pages sections j disk
  taken_from disk i j same takes = subst (λ (n : ℕ). TakesNew disks format extents pages sections n disk) same takes
