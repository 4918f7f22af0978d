-- What a disk in memory has held, and the images that a crash might have left.
use Rattle.std.specs.Prelude.{◌⊎◌, ◌≤◌, ℕ, List, [], ◌∷◌, length}
use Rattle.std.proofs.Common.{inl, inr}
use Rattle.std.proofs.Math.Nat.{le_refl, le_trans, le_of_suc-le, not-suc-le_self}
use Rattle.cs_disk.specs.Disk.{State, Image, MayLeave}
use Rattle.cs_disk.specs.declared.contents.Contents.{Contents}
use Rattle.cs_disk.specs.declared.past.Past.{Past, Start, After'}

-- the durable image and the volatile writes of these contents
abbrev pub state_of : Contents → State
state_of c = record { durable = c.durable.items; volatile = c.volatile.items }

-- what the disk held before each of its writes and flushes, the newest first
abbrev pub past_states : Past → List State
past_states Start = []
past_states (After' contents _ past) = state_of contents.value ∷ past_states past

-- at moment t or later, before now, a crash might have left this image: the first of the list was there at the moment
-- that the length of the others tells
abbrev pub MightHaveLeft : List State → ℕ → Image → Type 0
MightHaveLeft [] t image = ⊥
MightHaveLeft (s ∷ past) t image = ((t ≤ length past) × MayLeave s image) ⊎ MightHaveLeft past t image

-- a crash at moment t or later, now among them, might have left this image
abbrev pub LeftSince : List State → State → ℕ → Image → Type 0
LeftSince past now t image = MayLeave now image ⊎ MightHaveLeft past t image

-- none of them was there at this moment or later
none_left : (past : List State) (t : ℕ) (image : Image) → length past ≤ t → MightHaveLeft past t image → ⊥
none_left [] t image late left = left
none_left (s ∷ past) t image late (inl here) = not-suc-le_self (length past) (le_trans late here.0)
none_left (s ∷ past) t image late (inr left) = none_left past t image (le_of_suc-le late) left

-- At this moment or later there is what is there now.
pub only_now : (past : List State) (now : State) (image : Image) → LeftSince past now (length past) image → MayLeave now image
only_now past now image (inl here) = here
only_now past now image (inr left) = absurd (none_left past (length past) image (le_refl (length past)) left)
