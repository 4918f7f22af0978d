-- What a crash may leave of a disk that tears the pages that were being written.
use Rattle.std.specs.Prelude.{◌≡◌, ◌⊎◌, ◌<◌, ◌+◌, ◌*◌, ◌++◌, ℕ, Bool, List, [], ◌∷◌, Some, length, min, replicate, slice_get, slice_index, slice_set, take, drop}
use Rattle.cs_disk.specs.Disk.{Image, State, Write, applied, kept, page}
use Rattle.cs_twin.specs.declared.pairs.Pair.{Pair}
use Rattle.cs_twin.specs.declared.tears.Fate.{Fate}
use Rattle.cs_twin.specs.declared.tears.Fate.TheVariants.{Kept, Lost, Sectors, Torn}
use Rattle.cs_twin.specs.declared.tears.Sector.{Sector}
use Rattle.cs_twin.specs.declared.tears.Sector.TheVariants.{New, Noise, Old}
use Rattle.cs_twin.specs.Fences.{IsWholeOrFence}
use Rattle.cs_twin.specs.Pairs.{Versions, half}

-- a page holds what some of the volatile writes to it leave there, in order
abbrev pub IsLeft : State → ℕ → List ℕ → Type 0
IsLeft s p bytes = (mask : List Bool) × (length mask ≡ length s.volatile) × (bytes ≡ page (applied s.durable (kept mask s.volatile)) p)

-- a write that isn't flushed goes to the page
abbrev pub HasWaitingWrite : State → (page : ℕ) → Type 0
HasWaitingWrite disk p = (i : ℕ) × (w : Write) × (slice_get disk.volatile i ≡ Some w) × (w.0 ≡ p)

-- whichever half of a pair this page is, the bytes aren't whole there
abbrev pub IsNotWhole : Versions → List Pair → ℕ → List ℕ → Type 0
IsNotWhole V pairs p bytes = (k : ℕ) (x : Pair) (twin : Bool) → slice_get pairs k ≡ Some x → p ≡ half x twin → V x.page bytes ≡ 0

-- whichever half of a pair this page is, the bytes are whole or a fence there
abbrev pub IsKnownAt : Versions → List Pair → ℕ → List ℕ → Type 0
IsKnownAt V pairs p bytes = (k : ℕ) (x : Pair) (twin : Bool) → slice_get pairs k ≡ Some x → p ≡ half x twin → IsWholeOrFence V x.page bytes

-- A page holds a mixture, byte by byte, of what is durable there and of the writes to it that aren't flushed.
pub record IsMixed (s : State) (p : ℕ) (bytes : List ℕ) : Type 0 where
  pub size : length bytes ≡ length (page s.durable p)
  pub each : (i : ℕ) → i < length bytes → (slice_index bytes i ≡ slice_index (page s.durable p) i)
      ⊎ ((k : ℕ) × (w : Write) × (slice_get s.volatile k ≡ Some w) × (w.0 ≡ p) × (slice_index bytes i ≡ slice_index w.1 i))

-- Two pages alone are mixed here, each whole or a fence as a half of a pair: what is durable, and one write.
pub record MixesTwo (V : Versions) (pairs : List Pair) (s : State) (p : ℕ) : Type 0 where
  pub one_write : (i j : ℕ) (v w : Write) → slice_get s.volatile i ≡ Some v → slice_get s.volatile j ≡ Some w → v.0 ≡ p → w.0 ≡ p → i ≡ j
  pub durable : IsKnownAt V pairs p (page s.durable p)
  pub written : (i : ℕ) (w : Write) → slice_get s.volatile i ≡ Some w → w.0 ≡ p → IsKnownAt V pairs p w.1

-- The one thing assumed of digests: a mixture of two pages, each whole or a fence, is whole only as one of them.
abbrev pub AreTold : Versions → List Pair → State → Image → Type 0
AreTold V pairs s image = (p : ℕ) → p < length s.durable → MixesTwo V pairs s p → IsMixed s p (page image p) → IsLeft s p (page image p) ⊎ IsNotWhole V pairs p (page image p)

-- What a crash may leave if it tears pages, at any byte. Each page holds a mixture; or it was being written, some
-- sector of it holds neither what was there nor what was written, and it isn't whole.
pub record MayTear (V : Versions) (pairs : List Pair) (s : State) (image : Image) : Type 0 where
  pub size : length image ≡ length s.durable
  pub each : (p : ℕ) → p < length s.durable → IsMixed s p (page image p) ⊎ (HasWaitingWrite s p × IsNotWhole V pairs p (page image p))
  pub told : AreTold V pairs s image

-- no half of any pair
abbrev pub IsUnpaired : List Pair → (page : ℕ) → Type 0
IsUnpaired pairs p = (k : ℕ) (x : Pair) (twin : Bool) → slice_get pairs k ≡ Some x → p ≡ half x twin → ⊥

-- It is what a crash left of a disk as it shows, but that each page of no pair to which a write wasn't flushed may
-- hold anything.
pub record IsTornBeside (pairs : List Pair) (disk : State) (left image : Image) : Type 0 where
  pub size : length image ≡ length left
  pub each : (p : ℕ) → p < length left → (page image p ≡ page left p) ⊎ (IsUnpaired pairs p × HasWaitingWrite disk p)

-- a page of which the bytes from place a up to place b were written
abbrev pub spliced_at : (a b : ℕ) → (new old : List ℕ) → List ℕ
spliced_at a b new old = take a old ++ (drop a (take b new) ++ drop b old)

-- the same of any two places, of which those in the page count
abbrev pub spliced : (from to : ℕ) → (new old : List ℕ) → List ℕ
spliced from to new old = spliced_at (min from (min to 4096)) (min to 4096) new old

-- a page after this became of its sector with this number, which has 512 bytes
abbrev pub after_sector : (number : ℕ) → Sector → (new old : List ℕ) → List ℕ
after_sector n Old new old = old
after_sector n New new old = spliced (512 * n) (512 * n + 512) new old
after_sector n (Noise byte) new old = spliced (512 * n) (512 * n + 512) (replicate 4096 byte) old

-- and of those from this number on
abbrev pub after_sectors : (number : ℕ) → List Sector → (new old : List ℕ) → List ℕ
after_sectors n [] new old = old
after_sectors n (sector ∷ sectors) new old = after_sectors (n + 1) sectors new (after_sector n sector new old)

-- an image after a write of which this became
abbrev pub after_fate : Image → Write → Fate → Image
after_fate image w Lost = image
after_fate image w Kept = slice_set image w.0 w.1
after_fate image w (Torn from to) = slice_set image w.0 (spliced from to w.1 (page image w.0))
after_fate image w (Sectors sectors) = slice_set image w.0 (after_sectors 0 sectors w.1 (page image w.0))

-- what volatile writes leave, in order, of each of which it is said what became of it
abbrev pub left_by : Image → List Write → List Fate → Image
left_by image (w ∷ writes) (fate ∷ fates) = left_by (after_fate image w fate) writes fates
left_by image writes fates = image

-- a sector of a write to this page became noise
abbrev pub IsNoisy : List Write → List Fate → (page : ℕ) → Type 0
IsNoisy writes fates p = (i : ℕ) × (w : Write) × (sectors : List Sector) × (j byte : ℕ) × (slice_get writes i ≡ Some w) × (slice_get fates i ≡ Some (Sectors sectors)) × (slice_get sectors j ≡ Some (Noise byte)) × (w.0 ≡ p)

-- no page with a noisy sector is whole
abbrev pub NoneLooksWhole : Versions → List Pair → State → List Fate → Image → Type 0
NoneLooksWhole V pairs s fates image = (p : ℕ) → IsNoisy s.volatile fates p → IsNotWhole V pairs p (page image p)
