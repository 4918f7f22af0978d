-- What the writes and flushes do that fill a page.
use Rattle.std.proofs.Common.{◌≡◌, ◌⊎◌, inl, inr, ℕ, List, Result, Ok, Err, OnErr, OnOk, sym, ◌∙◌, ap, subst}
use Rattle.cs_disk.specs.Disk.{Image, LeavesOnly, MayLeave, State, flushed, written}
use Rattle.cs_twin.specs.declared.findings.Filling.{Filling}
use Rattle.cs_twin.specs.declared.findings.Filling.TheVariants.{Copy, Fence}
use Rattle.cs_twin.specs.Fillings.{IsFilling, LeavesFilling, fenced_over, filled_with}
use Rattle.cs_twin.specs.Pairs.{fence}
use Rattle.cs_twin.proofs.Mending.{leaves_more, leaves_then}

module _ (filling : Filling) (s : State) (p : ℕ) (bytes : List ℕ) where
  -- a fence alone
  pub fence_done : (now : State) → filling ≡ Fence → now ≡ fenced_over s p → now ≡ filled_with filling s p bytes
  fence_done now is done = done ∙ ap (λ (f : Filling). filled_with f s p bytes) (sym is)

  pub fence_failed : (now : State) → (now ≡ s) ⊎ (now ≡ written s p fence) → IsFilling filling s now p bytes
  fence_failed now either = by_filling filling
    where
      by_filling : (f : Filling) → IsFilling f s now p bytes
      by_filling Fence = either
      by_filling Copy = inl either

  fence_left : (c : Image) → MayLeave (written s p fence) c → LeavesFilling filling s p bytes c
  fence_left c left = by_filling filling
    where
      by_filling : (f : Filling) → LeavesFilling f s p bytes c
      by_filling Fence = left
      by_filling Copy = inl left

  pub fence_leaves : {D : Type 0} (moment : D → ℕ) (left_since : D → ℕ → Image → Type 0) (old new : D) → LeavesOnly moment left_since old new (MayLeave (written s p fence)) → LeavesOnly moment left_since old new (LeavesFilling filling s p bytes)
  fence_leaves moment left_since old new only = leaves_more moment left_since old new (MayLeave (written s p fence)) (LeavesFilling filling s p bytes) fence_left only

  -- and then a copy
  pub copy_done : {T E : Type 0} (result : Result T E) (mid now : State) → filling ≡ Copy → mid ≡ fenced_over s p → OnOk result (now ≡ flushed (written mid p bytes)) → OnOk result (now ≡ filled_with filling s p bytes)
  copy_done (Ok t) mid now is fenced done = done ∙ ap (λ (z : State). flushed (written z p bytes)) fenced ∙ ap (λ (f : Filling). filled_with f s p bytes) (sym is)
  copy_done (Err e) mid now is fenced done = tt

  pub copy_failed : {T E : Type 0} (result : Result T E) (mid now : State) → filling ≡ Copy → mid ≡ fenced_over s p → OnErr result ((now ≡ mid) ⊎ (now ≡ written mid p bytes)) → OnErr result (IsFilling filling s now p bytes)
  copy_failed (Ok t) mid now is fenced either = tt
  copy_failed (Err e) mid now is fenced either = subst (λ (f : Filling). IsFilling f s now p bytes) (sym is) (inr (subst (λ (z : State). (now ≡ z) ⊎ (now ≡ written z p bytes)) fenced either))

  copy_left : (c : Image) → filling ≡ Copy → MayLeave (written (fenced_over s p) p bytes) c → LeavesFilling filling s p bytes c
  copy_left c is left = subst (λ (f : Filling). LeavesFilling f s p bytes c) (sym is) (inr left)

  pub copy_leaves : {D : Type 0} (moment : D → ℕ) (left_since : D → ℕ → Image → Type 0) (old mid new : D) (between : State) → filling ≡ Copy → between ≡ fenced_over s p → LeavesOnly moment left_since old mid (MayLeave (written s p fence))
      → LeavesOnly moment left_since mid new (MayLeave (written between p bytes)) → LeavesOnly moment left_since old new (LeavesFilling filling s p bytes)
  copy_leaves moment left_since old mid new between is fenced first more =
      leaves_then moment left_since old mid new (LeavesFilling filling s p bytes) (fence_leaves moment left_since old mid first)
      (leaves_more moment left_since mid new (MayLeave (written between p bytes)) (LeavesFilling filling s p bytes)
      (λ c left. copy_left c is (subst (λ (z : State). MayLeave (written z p bytes) c) fenced left)) more)
