-- Halves of a store's pairs that can't be read, and pages that are filled with fences.
use Rattle.std.specs.Prelude.{◌≡◌, ◌⊎◌, ◌<◌, ◌≤◌, ◌+◌, ◌-◌, ◌++◌, ◌^◌, ℕ, Bool, true, false, if◌then◌else◌, List, [], ◌∷◌, Option, Some, None, length, map, min, option_to_list, slice_get}
use Rattle.cs_disk.specs.Disk.{Image, MayLeave, State, Write, page}
use Rattle.cs_frame.specs.FirstFormat.{page_zero_fault}
use Rattle.cs_frame.specs.Geometries.{Dimensions}
use Rattle.cs_twin.specs.declared.pairs.Pair.{Pair}
use Rattle.cs_twin.specs.Pairs.{fence, half}
use Rattle.cs_mount.specs.Hidden.{hidden_at, is_among, end_to_hide, without_hidden}
use Rattle.cs_mount.specs.Identities.{both_said, identity_said}
use Rattle.cs_mount.specs.StorePairs.{dimensions_on, first_says, store_pairs, unless_two, zero_or_last}

-- A count has risen by so many at least, or stands at 2^64 - 1, where it stays.
abbrev pub RisesBy : (count before now : ℕ) → Type 0
RisesBy count before now = min (before + count) (2 ^ 64 - 1) ≤ now

-- the page that is hidden where a store is chosen by its identity, by what page 0 and the last page hold; none if no
-- store is chosen
abbrev pub end_hidden_for : (pages : ℕ) → (id : Option (List ℕ)) → (zero last : List ℕ) → Option ℕ
end_hidden_for pages None zero last = None
end_hidden_for pages (Some id) zero last = end_to_hide pages id zero last

-- the page that is hidden so, by those pages of a device that were read
abbrev pub other_hidden : (pages : ℕ) → (id : Option (List ℕ)) → (unread : List ℕ) → Image → Option ℕ
other_hidden pages id unread image = end_hidden_for pages id (page (without_hidden unread image) 0) (page (without_hidden unread image) (pages - 1))

-- all pages that are hidden: that one, and those that weren't read
abbrev pub all_hidden : (pages : ℕ) → (id : Option (List ℕ)) → (unread : List ℕ) → Image → List ℕ
all_hidden pages id unread image = option_to_list (other_hidden pages id unread image) ++ unread

-- the dimensions of the store on a device of so many pages, by what page 0 and the last page hold
abbrev pub dimensions_by : (pages : ℕ) → (zero last : List ℕ) → Option Dimensions
dimensions_by pages zero last =
    unless_two (both_said (identity_said zero) (identity_said last)) (zero_or_last pages (page_zero_fault zero) zero (first_says pages last))

-- the page is a half of one of the first so many pairs
abbrev pub IsHalfOfFirst : List Pair → (count page : ℕ) → Type 0
IsHalfOfFirst pairs count p = (k : ℕ) × (x : Pair) × (twin : Bool) × (k < count) × (slice_get pairs k ≡ Some x) × (p ≡ half x twin)

-- Each of these pages is a half of one of the first so many pairs. Of section 0 and of the root, the first two pairs,
-- one half at least isn't among them.
pub record AreHalves (pairs : List Pair) (count : ℕ) (unread : List ℕ) : Type 0 where
  pub each : (p : ℕ) → is_among unread p ≡ true → IsHalfOfFirst pairs count p
  pub one_left : (k : ℕ) (x : Pair) → k < 2 → slice_get pairs k ≡ Some x → (twin : Bool) × (is_among unread (half x twin) ≡ false)

-- There are none; or they are such halves of the pairs of the store that is found where these pages are hidden.
abbrev pub AreOfStore : (pages : ℕ) → (hidden unread : List ℕ) → Image → Type 0
AreOfStore pages hidden unread image =
    (unread ≡ []) ⊎ ((d : Dimensions) × (dimensions_on pages (without_hidden hidden image) ≡ Some d) × AreHalves (store_pairs d) (length (store_pairs d)) unread)

-- the two ends of a device hold these bytes, but that zeros stand for those of pages that are hidden
pub record AreEnds (pages : ℕ) (hidden : List ℕ) (image : Image) (zero last : List ℕ) : Type 0 where
  pub first : zero ≡ hidden_at hidden 0 (page image 0)
  pub final : last ≡ hidden_at hidden (pages - 1) (page image (pages - 1))

-- The pages are ends of a device of so many pages, and not both.
pub record AreOneEnd (pages : ℕ) (unread : List ℕ) : Type 0 where
  pub ends : (p : ℕ) → is_among unread p ≡ true → (p ≡ 0) ⊎ (p ≡ pages - 1)
  pub one_left : (is_among unread 0 ≡ false) ⊎ (is_among unread (pages - 1) ≡ false)

-- No store is found on the device if one of its ends isn't read.
abbrev pub NoneIsFound : (pages : ℕ) → (id : Option (List ℕ)) → Image → Type 0
NoneIsFound pages id image =
    (unread : List ℕ) × (0 < length unread) × AreOneEnd pages unread × (dimensions_on pages (without_hidden (all_hidden pages id unread image) image) ≡ None)

-- the halves of a pair that weren't read, by whether each of them was
abbrev pub halves_unread : Pair → (own twin : Bool) → List ℕ
halves_unread x own twin = (if own then [] else x.page ∷ []) ++ (if twin then [] else x.twin ∷ [])

-- ---- pages that are filled

-- the writes of fences to these pages
abbrev pub fences_on : List ℕ → List Write
fences_on pages = map (λ p. (p, fence)) pages

-- The image is that of before, but that some of these pages are filled with fences.
pub record IsFencedFrom (pages : List ℕ) (before image : Image) : Type 0 where
  pub size : length image ≡ length before
  pub each : (p : ℕ) → p < length before → (page image p ≡ page before p) ⊎ ((is_among pages p ≡ true) × (page image p ≡ fence))

-- It is one that a crash of this disk might have left, but that some of these pages are filled with fences.
abbrev pub LeavesFenced : (pages : List ℕ) → State → Image → Type 0
LeavesFenced pages s image = (before : Image) × MayLeave s before × IsFencedFrom pages before image
