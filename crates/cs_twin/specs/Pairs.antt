-- Pairs of pages of a device, each of which shows as one page of the disk above, with the newest that either of the
-- two holds.
use Rattle.std.specs.Prelude.{◌≡◌, ◌<◌, ◌≤◌, ◌==◌, ℕ, Bool, true, false, if◌then◌else◌, List, [], ◌∷◌, Some, length, map, nat_le, replicate, slice_get}
use Rattle.std.specs.List.{range_with_len}
use Rattle.cs_disk.specs.Disk.{Image, State, Write, page}
use Rattle.cs_twin.specs.declared.pairs.Held.{Held}
use Rattle.cs_twin.specs.declared.pairs.Pair.{Pair}

-- the version that bytes spell as what a page of the disk above holds, from 1 on; 0 where they spell none
abbrev pub Versions : Type 0
Versions = (page : ℕ) → (bytes : List ℕ) → ℕ

-- a page of zeros
unfoldable pub blank : List ℕ
blank = replicate 4096 0

-- a fence: a page of bytes of 255
unfoldable pub fence : List ℕ
fence = replicate 4096 255

-- one of the two pages of a pair: its twin, or the one that has the number under which both show
abbrev pub half : Pair → (twin : Bool) → ℕ
half x twin = if twin then x.twin else x.page

-- the version of what a half holds
abbrev pub version_at : Versions → Image → Pair → (twin : Bool) → ℕ
version_at V image x twin = V x.page (page image (half x twin))

-- the twin is the newer half; it counts as that where neither holds a version
abbrev pub is_turned : Versions → Image → Pair → Bool
is_turned V image x = nat_le (version_at V image x false) (version_at V image x true)

-- which half is the newest, and its version
abbrev pub held_in : Versions → Image → Pair → Held
held_in V image x = record { turned = is_turned V image x; version = version_at V image x (is_turned V image x) }

-- these bytes are newer than what either half of a pair holds
abbrev pub IsNewer : Versions → Image → Pair → List ℕ → Type 0
IsNewer V image x bytes = version_at V image x (is_turned V image x) < V x.page bytes

-- No page of the device is a half of two pairs, nor both halves of one, and each is there.
pub record ArePairs (pairs : List Pair) (pages : ℕ) : Type 0 where
  pub inside : (k : ℕ) (x : Pair) (twin : Bool) → slice_get pairs k ≡ Some x → half x twin < pages
  pub apart : (i j : ℕ) (x y : Pair) (b c : Bool) → slice_get pairs i ≡ Some x → slice_get pairs j ≡ Some y → half x b ≡ half y c → (i ≡ j) × (b ≡ c)

-- what a page shows: of a pair's own page its newest half, of a twin zeros, and of any other page what it holds
abbrev pub shown_page : Versions → List Pair → Image → ℕ → List ℕ
shown_page V [] image p = page image p
shown_page V (x ∷ pairs) image p =
    if x.twin == p then blank else (if x.page == p then page image (half x (is_turned V image x)) else shown_page V pairs image p)

-- an image as it shows
abbrev pub shown : Versions → List Pair → Image → Image
shown V pairs image = map (shown_page V pairs image) (range_with_len 0 (length image))

-- What a write to a half shows as: a write to its pair. Bytes that aren't whole show as zeros written to the twin,
-- which shows as zeros anyway.
abbrev pub shown_half : Versions → Pair → List ℕ → Write
shown_half V x bytes = if V x.page bytes == 0 then (x.twin, blank) else (x.page, bytes)

-- a write as it shows
abbrev pub shown_write : Versions → List Pair → Write → Write
shown_write V [] w = w
shown_write V (x ∷ pairs) w =
    if x.twin == w.0 then shown_half V x w.1 else (if x.page == w.0 then shown_half V x w.1 else shown_write V pairs w)

-- a disk as it shows: its durable image, and each volatile write under the number of its pair
abbrev pub shown_state : Versions → List Pair → State → State
shown_state V pairs s = record { durable = shown V pairs s.durable; volatile = map (shown_write V pairs) s.volatile }

-- what images that have P show as
abbrev pub Shows : Versions → List Pair → (Image → Type 0) → Image → Type 0
Shows V pairs P c = (image : Image) × P image × (c ≡ shown V pairs image)

-- A write that goes to a half of this pair goes to the one that isn't the newest of the image. If it is whole, its
-- version is no less than the newest one's, and where the two are the same, so are the bytes. If it isn't whole, it
-- is a fence.
abbrev pub IsNoOlder : Versions → Image → Pair → Write → Type 0
IsNoOlder V image x w = (twin : Bool) → w.0 ≡ half x twin → (twin ≡ is_turned V image x → ⊥)
    × (0 < V x.page w.1 → (version_at V image x (is_turned V image x) ≤ V x.page w.1) × (V x.page w.1 ≡ version_at V image x (is_turned V image x) → w.1 ≡ page image (half x (is_turned V image x))))
    × (V x.page w.1 ≡ 0 → w.1 ≡ fence)

-- So is each of these writes to each pair; and of those to one pair all are whole, or none is.
pub record NoneIsOlder (V : Versions) (pairs : List Pair) (image : Image) (writes : List Write) : Type 0 where
  pub each : (k i : ℕ) (x : Pair) (w : Write) → slice_get pairs k ≡ Some x → slice_get writes i ≡ Some w → IsNoOlder V image x w
  pub alike : (k i j : ℕ) (x : Pair) (v w : Write) (b c : Bool) → slice_get pairs k ≡ Some x → slice_get writes i ≡ Some v → slice_get writes j ≡ Some w → v.0 ≡ half x b → w.0 ≡ half x c
      → V x.page v.1 ≡ 0 → V x.page w.1 ≡ 0

-- so are the volatile writes
abbrev pub AreNoOlder : Versions → List Pair → State → Type 0
AreNoOlder V pairs s = NoneIsOlder V pairs s.durable s.volatile

-- the images that a crash at some moment from that one on might have left, as they show
abbrev pub left_shown : Versions → List Pair → (ℕ → Image → Type 0) → ℕ → Image → Type 0
left_shown V pairs left_since t = Shows V pairs (left_since t)
