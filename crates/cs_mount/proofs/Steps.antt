-- The twins steps in which a new store is laid, one after another.
use Rattle.std.proofs.Common.{◌≡◌, ◌∙◌, inl, inr, Result, Ok, Err, OnOk, ap, subst}
use Rattle.cs_disk.specs.declared.disk.PageDisk.{Ghosts as PageDisk}
use Rattle.cs_disk.specs.Disk.{MayLeave, State, flushed}
use Rattle.cs_disk.proofs.Moments.{IsSafe, narrows, weakens}
use Rattle.cs_frame.specs.Geometries.{Dimensions}
use Rattle.cs_mount.specs.Makings.{LeavesLaying, LeavesSome, after_writes, both_halves, cleared, clearing, half_laid, halves_up_to, laid}
use Rattle.cs_mount.proofs.Laying.{safe_of}

module _ {D : Type 0} (disks : PageDisk D) (d : Dimensions) where
  abbrev SafeLaying : D → D → Type 0
  SafeLaying old new = IsSafe disks.state disks.moment disks.left_since old new (LeavesLaying d (disks.state old))

  -- after the first
  pub safe_cleared : (old mid : D) → LeavesSome disks old mid (clearing d) → SafeLaying old mid
  safe_cleared old mid some =
      weakens disks.state disks.moment disks.left_since old mid (LeavesLaying d (disks.state old)) (MayLeave (after_writes (disks.state old) (clearing d))) (safe_of disks old mid (clearing d) some) (λ c left. inl left)

  -- after the second
  pub safe_others : (old mid new : D) → SafeLaying old mid → disks.state mid ≡ cleared d (disks.state old) → LeavesSome disks mid new (halves_up_to d d.sections) → SafeLaying old new
  safe_others old mid new before is some =
      narrows disks.state disks.moment disks.left_since old mid new (LeavesLaying d (disks.state old)) (MayLeave (after_writes (disks.state mid) (halves_up_to d d.sections))) before
      (λ c left. inr (inl (subst (λ (z : State). MayLeave (after_writes z (halves_up_to d d.sections)) c) is left))) (safe_of disks mid new (halves_up_to d d.sections) some)

  -- after the third
  pub safe_first : (old mid new : D) → SafeLaying old mid → disks.state mid ≡ half_laid d (disks.state old) → LeavesSome disks mid new (both_halves d 0) → SafeLaying old new
  safe_first old mid new before is some =
      narrows disks.state disks.moment disks.left_since old mid new (LeavesLaying d (disks.state old)) (MayLeave (after_writes (disks.state mid) (both_halves d 0))) before
      (λ c left. inr (inr (subst (λ (z : State). MayLeave (after_writes z (both_halves d 0)) c) is left))) (safe_of disks mid new (both_halves d 0) some)

-- what the disk holds after the second step, and after the third
pub half_is : (d : Dimensions) (s mid new : State) → mid ≡ cleared d s → new ≡ flushed (after_writes mid (halves_up_to d d.sections)) → new ≡ half_laid d s
half_is d s mid new before is = is ∙ ap (λ (z : State). flushed (after_writes z (halves_up_to d d.sections))) before

pub laid_is : {T E : Type 0} (r : Result T E) (d : Dimensions) (s mid new : State) → mid ≡ half_laid d s → OnOk r (new ≡ flushed (after_writes mid (both_halves d 0))) → OnOk r (new ≡ laid d s)
laid_is (Ok t) d s mid new before is = is ∙ ap (λ (z : State). flushed (after_writes z (both_halves d 0))) before
laid_is (Err e) d s mid new before is = tt
