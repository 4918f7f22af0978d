-- What a half that is passed over is filled with.
use Rattle.std.specs.Prelude.{◌≡◌, ◌⊎◌, List, ℕ}
use Rattle.cs_disk.specs.Disk.{Image, MayLeave, State, flushed, page, written}
use Rattle.cs_twin.specs.declared.findings.Filling.{Filling}
use Rattle.cs_twin.specs.declared.findings.Filling.TheVariants.{Copy, Fence}
use Rattle.cs_twin.specs.declared.pairs.Pair.{Pair}
use Rattle.cs_twin.specs.Pairs.{Versions, fence, half, is_turned}

-- a fence, or what the newest half holds
abbrev pub filling_of : Versions → Filling → Image → Pair → List ℕ
filling_of V Fence image x = fence
filling_of V Copy image x = page image (half x (is_turned V image x))

-- a disk after a fence was written over this page and flushed
abbrev pub fenced_over : State → (page : ℕ) → State
fenced_over s p = flushed (written s p fence)

-- a disk after this page was filled, and all flushed: with a fence, or with a fence and then with these bytes
abbrev pub filled_with : Filling → State → (page : ℕ) → List ℕ → State
filled_with Fence s p bytes = fenced_over s p
filled_with Copy s p bytes = flushed (written (fenced_over s p) p bytes)

-- a page of a disk is being filled: nothing is written yet, or a fence is waiting; or, for a copy, the fence is
-- durable, and the copy may be waiting over it
abbrev pub IsFilling : Filling → (before now : State) → (page : ℕ) → List ℕ → Type 0
IsFilling Fence s now p bytes = (now ≡ s) ⊎ (now ≡ written s p fence)
IsFilling Copy s now p bytes = ((now ≡ s) ⊎ (now ≡ written s p fence)) ⊎ ((now ≡ fenced_over s p) ⊎ (now ≡ written (fenced_over s p) p bytes))

-- what a crash may leave while it is filled
abbrev pub LeavesFilling : Filling → State → (page : ℕ) → List ℕ → Image → Type 0
LeavesFilling Fence s p bytes image = MayLeave (written s p fence) image
LeavesFilling Copy s p bytes image = MayLeave (written s p fence) image ⊎ MayLeave (written (fenced_over s p) p bytes) image
