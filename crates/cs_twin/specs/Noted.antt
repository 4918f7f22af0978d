-- What is noted of pairs.
use Rattle.std.specs.Prelude.{◌≡◌, ◌≢◌, ◌+◌, ◌-◌, ◌^◌, ℕ, Bool, List, Some, length, map, min, slice_get}
use Rattle.cs_disk.specs.Disk.{State, Write, seen}
use Rattle.cs_twin.specs.declared.notes.Notes.{Notes}
use Rattle.cs_twin.specs.declared.notes.Trust.{Trust}
use Rattle.cs_twin.specs.declared.notes.Trust.TheVariants.{Doubted, Read, Unfenced, Unread}
use Rattle.cs_twin.specs.declared.pairs.Pair.{Pair}
use Rattle.cs_twin.specs.declared.pairs.Place.{Place}
use Rattle.cs_twin.specs.declared.pairs.Place.TheVariants.{Own, OfPair, OfTwin}
use Rattle.cs_twin.specs.Fences.{AreFenced, AreWhole, IsGuarded}
use Rattle.cs_twin.specs.Pairs.{AreNoOlder, Versions, half, held_in}

-- what a page number is among the pairs: no half of any, the number of the pair at a place, or a twin
abbrev pub IsPlace : List Pair → ℕ → Place → Type 0
IsPlace pairs p Own = (k : ℕ) (x : Pair) (twin : Bool) → slice_get pairs k ≡ Some x → p ≡ half x twin → ⊥
IsPlace pairs p (OfPair k) = (x : Pair) × (slice_get pairs k ≡ Some x) × (p ≡ x.page)
IsPlace pairs p OfTwin = (k : ℕ) × (x : Pair) × (slice_get pairs k ≡ Some x) × (p ≡ x.twin)

-- There is a note of each pair.
pub record AreNotes (pairs : List Pair) (notes : Notes) : Type 0 where
  pub durable : length notes.durable.items ≡ length pairs
  pub newest : length notes.newest.items ≡ length pairs

-- no volatile write goes to a pair
abbrev pub NoneIsWritten : List Pair → State → Type 0
NoneIsWritten pairs s = (k i : ℕ) (x : Pair) (w : Write) (twin : Bool) → slice_get pairs k ≡ Some x → slice_get s.volatile i ≡ Some w → w.0 ≡ half x twin → ⊥

-- the pairs were read, and no write is in doubt
abbrev pub IsRead : Trust → Type 0
IsRead Unread = ⊥
IsRead Read = Unit {0}
IsRead Unfenced = Unit {0}
IsRead Doubted = ⊥

-- Volatile writes are newer than what is durable, or the same, or fences. If the pairs were read, the notes say which
-- half of each is the newest, of the durable image and of what the disk reads as. If they weren't, or if a half is
-- neither whole nor a fence, no pair was written. A whole page waits only over halves that are whole or a fence. A
-- fence waits only while a write is in doubt.
pub record AreRight (V : Versions) (pairs : List Pair) (notes : Notes) (s : State) : Type 0 where
  pub newer : AreNoOlder V pairs s
  pub durable : IsRead notes.trust → notes.durable.items ≡ map (held_in V s.durable) pairs
  pub newest : IsRead notes.trust → notes.newest.items ≡ map (held_in V (seen s)) pairs
  pub unwritten : notes.trust ≡ Unread → NoneIsWritten pairs s
  pub unfenced : notes.trust ≡ Unfenced → NoneIsWritten pairs s
  pub damaged : notes.trust ≡ Unfenced → AreFenced V pairs (seen s) → ⊥
  pub fenced : notes.trust ≡ Read → AreFenced V pairs s.durable
  pub whole : notes.trust ≢ Doubted → AreWhole V pairs s
  pub guarded : IsGuarded V pairs s

-- no write is in doubt, so no read and no flush is refused without the device
abbrev pub IsUndoubted : Notes → Type 0
IsUndoubted notes = notes.trust ≢ Doubted

-- how many calls were refused without the device
abbrev pub refused_of : Notes → ℕ
refused_of notes = notes.refused

-- how many calls failed: those of the device, and those that were refused without it
abbrev pub failed : ℕ → Notes → ℕ
failed below notes = min (below + notes.refused) (2 ^ 64 - 1)
