-- Which writes a disk in pairs takes, and what is kept of it, whatever is written by way of it.
use Rattle.std.specs.Prelude.{◌≡◌, ◌≢◌, ℕ, Bool, true, List, Some, slice_get}
use Rattle.cs_disk.specs.Disk.{Image, State, Write}
use Rattle.cs_twin.specs.declared.pairs.Pair.{Pair}
use Rattle.cs_twin.specs.Fences.{AreFenced}
use Rattle.cs_twin.specs.Pairs.{IsNewer, Versions}
use Rattle.cs_twin.specs.Tears.{IsUnpaired}

-- each volatile write to a page of no pair is one that may be made
abbrev pub AreAllowed : (allowed : ℕ → List ℕ → Bool) → List Pair → State → Type 0
AreAllowed allowed pairs s = (i : ℕ) (w : Write) → slice_get s.volatile i ≡ Some w → IsUnpaired pairs w.0 → allowed w.0 w.1 ≡ true

-- Where the device reads so, a write of these bytes to this page isn't refused without it: the page is no twin. If it
-- shows a pair, the bytes are newer than that, and each half of each pair is whole or a fence. If it is in no pair,
-- the bytes are allowed there.
pub record TakesWrite (V : Versions) (allowed : ℕ → List ℕ → Bool) (pairs : List Pair) (image : Image) (number : ℕ) (bytes : List ℕ) : Type 0 where
  pub shown : (k : ℕ) (x : Pair) → slice_get pairs k ≡ Some x → number ≢ x.twin
  pub newer : (k : ℕ) (x : Pair) → slice_get pairs k ≡ Some x → number ≡ x.page → IsNewer V image x bytes
  pub fenced : (k : ℕ) (x : Pair) → slice_get pairs k ≡ Some x → number ≡ x.page → AreFenced V pairs image
  pub may : IsUnpaired pairs number → allowed number bytes ≡ true
