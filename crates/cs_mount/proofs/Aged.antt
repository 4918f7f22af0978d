-- The newest root that is whole, and what a disk shows as of it.
use Rattle.std.proofs.Common.{◌≡◌, ◌≢◌, ⊎_elim, subst, if◌then◌else◌, ◌+◌, ℕ, zero, suc, ◌<◌, ◌≤◌, Bool, true, List, [], ◌∷◌, Option, Some, None, slice_get, length, map, sym, ◌∙◌, ap, arith}
use Rattle.std.proofs.lemmas.Option.{same_Some}
use Rattle.std.specs.List.{range_with_len}
use Rattle.cs_disk.proofs.Crashes.{MayLeave-flushed, seen_MayLeave}
use Rattle.cs_disk.specs.Disk.{Image, LeavesOnly, MayLeave, State, seen}
use Rattle.cs_disk.proofs.Images.{length-applied}
use Rattle.cs_frame.specs.Geometries.{Dimensions, IsGeometry}
use Rattle.law_machine.specs.Geometry.{twins_in}
use Rattle.cs_twin.specs.declared.findings.Finding.{Finding}
use Rattle.cs_twin.specs.declared.pairs.Held.{Held}
use Rattle.cs_twin.specs.declared.pairs.Pair.{Pair}
use Rattle.cs_twin.specs.Findings.{finding_in, held_of}
use Rattle.cs_mount.specs.Identities.{AreOfTwo, stores_on}
use Rattle.cs_mount.specs.Lowered.{lowered, lowered_state}
use Rattle.cs_twin.specs.Pairs.{shown}
use Rattle.cs_mount.specs.Showing.{findings_on, shown_by, shown_on}
use Rattle.cs_mount.specs.StorePairs.{dimensions_on, pages_of, pairs_where, root_version, store_pair, store_pairs, store_version}
use Rattle.cs_mount.proofs.Blank.{apart_of}
use Rattle.cs_mount.proofs.Telling.{found_third}
use Rattle.cs_twin.proofs.Holding.{held_found}
use Rattle.cs_twin.proofs.Roles.{shown_page-own}
use Rattle.cs_twin.proofs.Shown.{page-shown}
use Rattle.cs_mount.specs.Older.{ShowsOlderOn, as_of, newest_root, older_by, older_on, root_found, root_shown, version_found}

-- ---- the pair of the root

made_there : {A : Type 0} (f : ℕ → A) (a n k : ℕ) → k < n → slice_get (map f (range_with_len a n)) k ≡ Some (f (a + k))
made_there f a zero k lt = absurd (omega (arith, lt))
made_there f a (suc n) zero lt = ap (λ m. Some (f m)) (omega arith)
made_there f a (suc n) (suc k) lt = made_there f (a + 1) n k (omega (arith, lt)) ∙ ap (λ m. Some (f m)) (omega arith)

get_map : {A B : Type 0} (f : A → B) (xs : List A) (k : ℕ) (x : A) → slice_get xs k ≡ Some x → slice_get (map f xs) k ≡ Some (f x)
get_map f [] k x at = cc
get_map f (y ∷ xs) zero x at = ap (λ z. Some (f z)) (same_Some y x at)
get_map f (y ∷ xs) (suc k) x at = get_map f xs k x at

module _ (d : Dimensions) (geometry : IsGeometry d.format d.extents d.pages d.sections) (twins : twins_in d.format ≡ true) (image : Image) (sized : length image ≡ pages_of d) (inside : 1 < length image) where
  abbrev x : Pair
  x = store_pair d 1

  root_there : slice_get (store_pairs d) 1 ≡ Some x
  root_there =
      ap (λ (b : Bool). slice_get (if b then map (store_pair d) (range_with_len 0 (1 + d.sections)) else []) 1) (twins)
      ∙ made_there (store_pair d) 0 (1 + d.sections) 1 (let some = geometry.fewest_sections in omega (arith, some))

  -- what is held there is the root that shows
  root_held : (held_of (finding_in (store_version (Some d)) image x)).version ≡ root_shown (Some d) (shown (store_version (Some d)) (store_pairs d) image)
  root_held =
      ap (λ (h : Held). h.version) (held_found (store_version (Some d)) image x)
      ∙ ap (root_version d.format) (sym (shown_page-own (store_version (Some d)) image (store_pairs d) (pages_of d) (apart_of d geometry) 1 x root_there) ∙ sym (page-shown (store_version (Some d)) (store_pairs d) image 1 inside))

  root_by : (o : Option Dimensions) (found : List Finding) (version : ℕ) → o ≡ Some d → found ≡ map (finding_in (store_version o) image) (pairs_where o)
      → version ≡ root_found found → version ≡ root_shown o (shown (store_version o) (pairs_where o) image)
  root_by o found version some is says =
      let found_is = is ∙ ap (λ (z : Option Dimensions). map (finding_in (store_version z) image) (pairs_where z)) some in
      says ∙ ap version_found (ap (λ (l : List Finding). slice_get l 1) found_is ∙ get_map (finding_in (store_version (Some d)) image) (store_pairs d) 1 x root_there)
      ∙ root_held ∙ sym (ap (λ (z : Option Dimensions). root_shown z (shown (store_version z) (pairs_where z) image)) some)

-- By the findings of a store the newest root is that which shows.
pub root_is : (pages : ℕ) (image : Image) (d : Dimensions) (found : List Finding) (version : ℕ) → IsGeometry d.format d.extents d.pages d.sections → dimensions_on pages image ≡ Some d → pages_of d ≡ pages → length image ≡ pages → 10 ≤ pages
    → found ≡ findings_on pages image → version ≡ root_found found → version ≡ newest_root pages image
root_is pages image d found version geometry some sized long enough is says =
    root_by d geometry (found_third pages image d some).0 image (long ∙ sym sized) (omega (arith, long, enough)) (dimensions_on pages image) found version some is says

-- the disk as of that root
pub aged : (pages : ℕ) (image : Image) (d : Dimensions) (root : ℕ) (s : State) → dimensions_on pages image ≡ Some d → root ≡ newest_root pages image → s ≡ record { durable = shown_on pages image; volatile = [] }
    → lowered_state d root s ≡ record { durable = older_on pages image; volatile = [] }
aged pages image d root s some is shows =
    ap (lowered_state d root) shows ∙ ap (λ r. record { durable = as_of (Some d) r (shown_on pages image); volatile = [] }) is
    ∙ ap (λ (o : Option Dimensions). record { durable = as_of o (newest_root pages image) (shown_on pages image); volatile = [] }) (sym some)

-- It is what is opened, by the steps of an opening: `was` is what the disk holds behind the reads, `n` the number of
-- its pages then.
pub aged_behind : (pages n : ℕ) (s was b : State) (d g : Dimensions) (root r : ℕ) (found : List Finding) → IsGeometry d.format d.extents d.pages d.sections → Some d ≡ dimensions_on pages (seen s) → pages_of d ≡ pages → length s.durable ≡ pages → 10 ≤ pages
    → n ≡ pages → was ≡ s → found ≡ findings_on n (seen was) → root ≡ root_found found → g ≡ d → r ≡ root → b ≡ record { durable = shown_on n (seen was); volatile = [] }
    → lowered_state g r b ≡ record { durable = older_on pages (seen s); volatile = [] }
aged_behind pages n s was b d g root r found geometry some sized long enough same still is says dimensions version shows =
    ap (λ (z : Dimensions). lowered_state z r b) dimensions ∙ ap (λ z. lowered_state d z b) version
    ∙ aged pages (seen s) d root b (sym some)
    (root_is pages (seen s) d found root geometry (sym some) sized (length-applied s.durable s.volatile ∙ long) enough (is ∙ ap (λ z. findings_on z (seen was)) same ∙ ap (λ (z : State). findings_on pages (seen z)) still) says)
    (shows ∙ ap (λ z. record { durable = shown_on z (seen was); volatile = [] }) same ∙ ap (λ (z : State). record { durable = shown_on pages (seen z); volatile = [] }) still)

-- ---- the same behind reads

pub aged_by : (n pages : ℕ) (was s : State) → n ≡ pages → was ≡ s
    → ◌≡◌ {A = State} (record { durable = older_on n (seen was); volatile = [] }) (record { durable = older_on pages (seen s); volatile = [] })
aged_by n pages was s same still = ap (λ z. record { durable = older_on z (seen was); volatile = [] }) same ∙ ap (λ (z : State). record { durable = older_on pages (seen z); volatile = [] }) still

pub dimensions_by : (n pages : ℕ) (was s : State) (d : Dimensions) → n ≡ pages → was ≡ s → Some d ≡ dimensions_on pages (seen s) → Some d ≡ dimensions_on n (seen was)
dimensions_by n pages was s d same still some = some ∙ sym (ap (λ z. dimensions_on z (seen was)) same ∙ ap (λ (z : State). dimensions_on pages (seen z)) still)

pub findings_by : (n pages : ℕ) (was s : State) → n ≡ pages → was ≡ s → findings_on n (seen was) ≡ findings_on pages (seen s)
findings_by n pages was s same still = ap (λ z. findings_on z (seen was)) same ∙ ap (λ (z : State). findings_on pages (seen z)) still

pub two_by : (n pages : ℕ) (was s : State) → n ≡ pages → was ≡ s → AreOfTwo n (seen was) → AreOfTwo pages (seen s)
two_by n pages was s same still two one = two (ap (λ z. stores_on z (seen was)) same ∙ ap (λ (z : State). stores_on pages (seen z)) still ∙ one)

pub some_there : (o : Option Dimensions) (d : Dimensions) → Some d ≡ o → o ≢ None
some_there (Some found) d is none = cc
some_there None d is none = cc

-- ---- what a crash leaves, as of that root

pub older_left : (n : ℕ) (image : Image) (d g : Dimensions) (root : ℕ) (shows below left : Image) → dimensions_on n image ≡ Some d → g ≡ d → root ≡ newest_root n image → left ≡ lowered g root shows → shows ≡ shown_by n image below
    → left ≡ older_by n image below
older_left n image d g root shows below left some dimensions version is by_pairs =
    is ∙ ap (λ (z : Dimensions). lowered z root shows) dimensions ∙ ap (λ r. lowered d r shows) version ∙ ap (λ (z : Image). lowered d (newest_root n image) z) by_pairs
    ∙ ap (λ (o : Option Dimensions). as_of o (newest_root n image) (shown_by n image below)) (sym some)

-- after calls that leave what a crash might have left before
pub older_later : {D : Type 0} (moment : D → ℕ) (left_since : D → ℕ → Image → Type 0) (n : ℕ) (s : State) (old new : D) (t : ℕ) (shows : State) (left : Image)
    → shows ≡ record { durable = older_on n (seen s); volatile = [] } → t ≤ moment old
    → ((c : Image) → left_since old t c → ShowsOlderOn n (seen s) (MayLeave s) c) → LeavesOnly moment left_since old new (MayLeave shows) → left_since new t left → ShowsOlderOn n (seen s) (MayLeave s) left
older_later moment left_since n s old new t shows left is le before calls past =
    ⊎_elim (λ (was : left_since old t left). before left was)
    (λ (now : MayLeave shows left). (seen s, seen_MayLeave s, MayLeave-flushed (record { durable = older_on n (seen s); volatile = [] }) left (subst (λ (z : State). MayLeave z left) is now)))
    (calls.before t left le past)

-- behind reads
pub older_here : (n pages : ℕ) (was s : State) (left : Image) → n ≡ pages → was ≡ s → ShowsOlderOn n (seen was) (MayLeave was) left → ShowsOlderOn pages (seen s) (MayLeave s) left
older_here n pages was s left same still is =
    subst (λ k. ShowsOlderOn k (seen s) (MayLeave s) left) same (subst (λ (z : State). ShowsOlderOn n (seen z) (MayLeave z) left) still is)
