-- Events one after another, and checkpoints between them.
use Rattle.std.specs.Prelude.{List, [], ◌∷◌, ◌≡◌, ◌≤◌, ◌⊎◌, ℕ}
use Rattle.std.specs.List.{AllByRecursion}
use Rattle.cs_deps.specs.declared.elements.Element.{Element as Name}
use Rattle.cs_disk.specs.declared.disk.PageDisk.{Ghosts as PageDisk}
use Rattle.cs_disk.specs.Disk.{GoesOn, LeavesOnly}
use Rattle.cs_core.specs.declared.events.Event.{Event}
use Rattle.cs_core.specs.declared.events.Event.TheVariants.{Begin, End}
use Rattle.cs_core.specs.declared.events.Reply.{Reply}
use Rattle.cs_core.specs.declared.events.Reply.TheVariants.{Begun, Ended}
use Rattle.cs_core.specs.Checkpoints.{Replaces}
use Rattle.cs_core.specs.Stored.{Stored}
use Rattle.cs_core.specs.Views.{Applies, IsUntouched, View}
use Rattle.cs_core.specs.Writebacks.{WritesBack}
use Rattle.cs_core.specs.Prefixes.{IsPrefixOf}

-- these events with their replies, one after another, do this to a store
abbrev pub AreDone : (old : Stored) → List (Event × Reply) → (new : Stored) → Type 0
AreDone old [] new = new ≡ old
AreDone old (x ∷ xs) new = (between : Stored) × WritesBack old x.0 x.1 between × AreDone between xs new

-- no round ends
abbrev pub EndsNone : Event → Reply → Type 0
EndsNone End (Ended n) = ⊥
EndsNone event reply = Unit {0}

-- A round began, then these events came, none of which ended it, and then it ended.
pub record IsRoundDone (old new : Stored) : Type 0 where
  pub round : List Name
  pub begun : Stored
  pub begin : WritesBack old Begin (Begun round) begun
  pub between : List (Event × Reply)
  pub last : Stored
  pub done : AreDone begun between last
  pub still_out : AllByRecursion (λ (e : Event × Reply). EndsNone e.0 e.1) between
  pub frontier : ℕ
  pub end : WritesBack last End (Ended frontier) new

module _ {D : Type 0} (disks : PageDisk D) where
  -- One call of `apply` or of `checkpoint`, by what its contract says of crashes: an event was done, or nothing for
  -- want of memory, or the history was replaced.
  pub record IsCall (old new : View D) : Type 0 where
    pub did : ((event : Event) × (reply : Reply) × Applies disks old event reply new) ⊎ IsUntouched disks old new ⊎ ((n : ℕ) × Replaces old n new)
    pub rises : old.store.frontier ≤ new.store.frontier
    pub stays_honest : disks.honest old.disk → disks.honest new.disk
    pub pages : disks.page_count new.disk ≡ disks.page_count old.disk
    -- a crash within leaves what one before it might have left, or what one after it may
    pub time : GoesOn disks.honest disks.state disks.moment disks.left_since old.disk new.disk
    pub crash : disks.honest old.disk → LeavesOnly disks.moment disks.left_since old.disk new.disk (IsPrefixOf old)

  -- one call and more, with these cores between them
  abbrev pub AreCalls : (old : View D) → List (View D) → (new : View D) → Type 0
  AreCalls old [] new = IsCall old new
  AreCalls old (between ∷ later) new = IsCall old between × AreCalls between later new
