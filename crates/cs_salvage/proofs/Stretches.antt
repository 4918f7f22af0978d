-- Scans that pass over pages: stretches of pages that were read, from one to the next.
use Rattle.std.proofs.Common.{◌≡◌, ◌∙◌, ℕ, ◌+◌, ◌-◌, ◌*◌, ◌<◌, ◌≤◌, List, [], ◌∷◌, ◌++◌, All, Bool, true, false, MatchBool, take, length, get_or, drop, refl, sym, ap, subst, inr, ⊎_elim, arith}
use Rattle.std.specs.Prelude.{max, min}
use Rattle.std.specs.List.{Contains}
use Rattle.std.proofs.lemmas.Bool.{cases_lt}
use Rattle.std.proofs.lemmas.List.{get_or-drop, length-drop, take_all}
use Rattle.std.proofs.lemmas.List.Elements.{All-contains, All-nil, All-push, Contains-append_left, Contains-push, Contains-push_cases}
use Rattle.std.proofs.lemmas.List.Quantifiers.{all_pairs_push}
use Rattle.std.proofs.lemmas.Nat.{mul-add-lt, mul-le}
use Rattle.std.proofs.Math.Nat.{mul_comm}
use Rattle.cs_disk.specs.Disk.{Image, State, page, seen}
use Rattle.cs_disk.proofs.Images.{length-applied}
use Rattle.cs_frame.specs.Geometries.{Dimensions}
use Rattle.cs_salvage.specs.declared.parts.Part.{Part}
use Rattle.cs_salvage.specs.declared.searches.Sought.{Sought}
use Rattle.cs_salvage.specs.Frames.{AreReadAs}
use Rattle.cs_salvage.specs.Looks.{AreApart, AreEnded, AreFoundBefore, AreWithin, look_end}
use Rattle.cs_salvage.specs.Parts.{AreParts, IsPart}
use Rattle.cs_salvage.specs.Passed.{Avoids, IsLookedAt, RisesBy, first_page_of, from_on, without}
use Rattle.cs_salvage.proofs.Pages.{before_end, found_there, inside, lies_there, on_image, some_page}

-- ---- the pages that are left of a stretch

pub read_behind : (image : Image) (n k : ℕ) (pages rest : List (List ℕ)) → k ≤ length pages → rest ≡ drop k pages → AreReadAs image n (length pages) pages → AreReadAs image (n + k) (length rest) rest
read_behind image n k pages rest le is read = record {
  size = refl;
  each = λ i lt.
      let size : length rest ≡ length pages - k = ap length is ∙ length-drop k pages in
      let next : n + (k + i) ≡ n + k + i = omega arith in
      ap (λ (ps : List (List ℕ)). get_or ps i []) is ∙ get_or-drop k pages i [] ∙ read.each (k + i) (omega (arith, lt, size, le)) ∙ ap (page image) next;
}

-- the rest of a list, as it is cut from it
pub rest_of : {A : Type 0} (k : ℕ) (xs : List A) → take (length xs - k) (drop k xs) ≡ drop k xs
rest_of k xs = take_all (length xs - k) (drop k xs) (omega (arith, length-drop k xs))

pub within_behind : (sought : Sought) (image : Image) (n k end : ℕ) (passed : List ℕ) → n + k < end → AreWithin sought image n end end passed → AreWithin sought image (n + k) (n + k + 1) end passed
within_behind sought image n k end passed lt within = λ part payload is from before avoids. within part payload is (omega (arith, from)) (omega (arith, before, lt)) avoids

-- one place more of a stretch: what its call says, and what was so before it
module _ (sought : Sought) (image : Image) (first n k here : ℕ) (passed : List ℕ) (pages rest : List (List ℕ)) (old mid new : List Part) (at : here ≡ n + k) (lt : k < length pages) (is : rest ≡ drop k pages) where
  size : length rest ≡ length pages - k
  size = ap length is ∙ length-drop k pages

  pub part_more : (AreReadAs image here (length rest) rest → first ≤ here → AreWithin sought image here (here + 1) (here + length rest) passed → AreFoundBefore sought image first here passed mid → AreFoundBefore sought image first (here + 1) passed new)
      → (AreReadAs image n (length pages) pages → first ≤ n → AreWithin sought image n (n + length pages) (n + length pages) passed → AreFoundBefore sought image first n passed old → AreFoundBefore sought image first (n + k) passed mid)
      → AreReadAs image n (length pages) pages → first ≤ n → AreWithin sought image n (n + length pages) (n + length pages) passed → AreFoundBefore sought image first n passed old → AreFoundBefore sought image first (n + (k + 1)) passed new
  part_more step was read from within are =
      let end : here + length rest ≡ n + length pages = omega (arith, at, size, lt) in
      let next : here + 1 ≡ n + (k + 1) = omega (arith, at) in
      subst (λ (m : ℕ). AreFoundBefore sought image first m passed new) next
      (step (subst (λ (m : ℕ). AreReadAs image m (length rest) rest) (sym at) (read_behind image n k pages rest (omega (arith, lt)) is read))
      (omega (arith, from, at))
      (subst (λ (m : ℕ). AreWithin sought image here (here + 1) m passed) (sym end)
      (subst (λ (m : ℕ). AreWithin sought image m (m + 1) (n + length pages) passed) (sym at) (within_behind sought image n k (n + length pages) passed (omega (arith, lt)) within)))
      (subst (λ (m : ℕ). AreFoundBefore sought image first m passed mid) (sym at) (was read from within are)))

  pub ended_more : (g : Dimensions) → (AreEnded g (here + length rest) mid → AreEnded g (here + length rest) new) → (AreEnded g (n + length pages) old → AreEnded g (n + length pages) mid) → AreEnded g (n + length pages) old → AreEnded g (n + length pages) new
  ended_more g step was all =
      let end : here + length rest ≡ n + length pages = omega (arith, at, size, lt) in
      subst (λ (m : ℕ). AreEnded g m new) end (step (subst (λ (m : ℕ). AreEnded g m mid) (sym end) (was all)))

pub below_later : (n here k : ℕ) (passed : List ℕ) → here ≡ n + k → All (λ (p : ℕ). p < n) passed → All (λ (p : ℕ). p < here) passed
below_later n here k passed at all = λ j d lt. let less = all j d lt in omega (arith, less, at)

-- ---- what begins on a stretch ends on it

-- where the page after it is passed over
pub within_cut : (sought : Sought) (image : Image) (from end : ℕ) (passed : List ℕ) → Contains passed end → AreWithin sought image from end end passed
within_cut sought image from end passed there = λ part payload is begun before avoids. ⊎_elim
    (λ (l : end < first_page_of sought.geometry part). absurd (omega (arith, l, before)))
    (λ (ends : first_page_of sought.geometry part + part.pages ≤ end). ends)
    (avoids end there)

-- where it goes to the end of its extent, or of the device
pub within_end : (sought : Sought) (image : Image) (e i count len : ℕ) (passed : List ℕ) → i < sought.geometry.pages → count ≡ length image → 2 + (e * sought.geometry.pages + i) < count
    → len ≡ min (sought.geometry.pages - i) (count - (2 + (e * sought.geometry.pages + i)))
    → AreWithin sought image (2 + (e * sought.geometry.pages + i)) (2 + (e * sought.geometry.pages + i) + len) (2 + (e * sought.geometry.pages + i) + len) passed
within_end sought image e i count len passed inner sized there all = λ part payload is begun before avoids.
    let within_image = on_image sought image part payload is in
    let ends = inside sought image part payload is in
    let some = some_page sought image part payload is in
    ⊎_elim
    (λ (later : e < part.extent).
    let rows = mul-add-lt e sought.geometry.pages (sought.geometry.pages - 1) part.extent later (omega (arith, inner)) in
    absurd (omega (arith, rows, mul_comm sought.geometry.pages part.extent, before, all, inner)))
    (λ (le : part.extent ≤ e).
    let rows = mul-le part.extent sought.geometry.pages e sought.geometry.pages le (omega arith) in
    omega (arith, rows, ends, within_image, sized, all, there, inner))
    (cases_lt e part.extent)

-- ---- a page that is passed over

pub more_passed : (sought : Sought) (image : Image) (first n q : ℕ) (passed : List ℕ) (parts : List Part) → AreFoundBefore sought image first n passed parts → AreFoundBefore sought image first n (passed ++ q ∷ []) parts
more_passed sought image first n q passed parts are = record {
  sound = are.sound;
  complete = λ part payload is from before avoids. are.complete part payload is from before (λ p there. avoids p (Contains-append_left passed (q ∷ []) p there));
  ordered = are.ordered;
}

pub past_passed : (sought : Sought) (image : Image) (first n : ℕ) (passed : List ℕ) (parts : List Part) → Contains passed n → AreFoundBefore sought image first n passed parts → AreFoundBefore sought image first (n + 1) passed parts
past_passed sought image first n passed parts there are = record {
  sound = λ part has. let was = are.sound part has in (was.0, omega (arith, was.1), was.2);
  complete = λ part payload is from before avoids. ⊎_elim
      (λ (l : n < first_page_of sought.geometry part). absurd (omega (arith, l, before)))
      (λ (ends : first_page_of sought.geometry part + part.pages ≤ n). are.complete part payload is from (omega (arith, ends, some_page sought image part payload is)) avoids)
      (avoids n there);
  ordered = are.ordered;
}

-- ---- a stretch, by what is said of its pages where they are read

module _ (sought : Sought) (image : Image) (first here : ℕ) (passed : List ℕ) (pages items : List (List ℕ)) (value : items ≡ pages) (old new : List Part)
    (step : (unread : List ℕ) → AreReadAs image here (length items) items → first ≤ here → AreWithin sought image here (here + length items) (here + length items) unread → AreFoundBefore sought image first here unread old
    → AreFoundBefore sought image first (here + length items) unread new)
    (read : AreReadAs image here (length pages) pages) (from : first ≤ here) (are : AreFoundBefore sought image first here passed old) where
  on_pages : (unread : List ℕ) → AreWithin sought image here (here + length pages) (here + length pages) unread → AreFoundBefore sought image first here unread old → AreFoundBefore sought image first (here + length pages) unread new
  on_pages unread within was = subst (λ (ps : List (List ℕ)). AreFoundBefore sought image first (here + length ps) unread new) value
      (step unread (subst (λ (ps : List (List ℕ)). AreReadAs image here (length ps) ps) (sym value) read) from
      (subst (λ (ps : List (List ℕ)). AreWithin sought image here (here + length ps) (here + length ps) unread) (sym value) within) was)

  -- the page after it can't be read
  pub stretch_cut : AreFoundBefore sought image first (here + length pages + 1) (passed ++ (here + length pages) ∷ []) new
  stretch_cut =
      let unread : List ℕ = passed ++ (here + length pages) ∷ [] in
      let there : Contains unread (here + length pages) = Contains-push passed (here + length pages) in
      past_passed sought image first (here + length pages) unread new there
      (on_pages unread (within_cut sought image here (here + length pages) unread there) (more_passed sought image first here (here + length pages) passed old are))

  -- it goes as far as it may
  pub stretch_end : AreWithin sought image here (here + length pages) (here + length pages) passed → AreFoundBefore sought image first (here + length pages) passed new
  stretch_end within = on_pages passed within are

-- a stretch that is cut ends before the scan
pub cut_before_end : (P E e i count len : ℕ) → e < E → i < P → 2 + (e * P + i) < count → len < min (P - i) (count - (2 + (e * P + i))) → 2 + (e * P + i) + len < min (2 + E * P) count
cut_before_end P E e i count len there inner before short =
    let rows = mul-add-lt e P (P - 1) E there (omega (arith, inner)) in
    omega (arith, rows, mul_comm P E, before, short, inner)

-- an image has as many pages as its disk
pub length_seen : (s : State) (count : ℕ) → length s.durable ≡ count → count ≡ length (seen s)
length_seen s count is = sym (length-applied s.durable s.volatile ∙ is)

-- which of the two sizes a stretch has
pub size_cut : (b : Bool) (A B : Type 0) → b ≡ true → MatchBool b A B → A
size_cut true A B is one = one
size_cut false A B is one = absurd (cc is)

pub size_end : (b : Bool) (A B : Type 0) → b ≡ false → MatchBool b A B → B
size_end true A B is one = absurd (cc is)
size_end false A B is one = one

-- ---- whatever the disk answers

module _ (g : Dimensions) (first count n end : ℕ) (passed : List ℕ) (old new : List Part) where
  pub apart_more : n ≤ end → AreApart g first count n passed old → AreEnded g end new → All (Avoids g passed) new → AreApart g first count end passed new
  apart_more le are ended avoid = record {
    passed_are = are.passed_are;
    before = λ k d lt. let less = are.before k d lt in omega (arith, less, le);
    ended = ended;
    avoid = avoid;
  }

-- what ends before a page ends before a later one
pub ended_later : (g : Dimensions) (n end : ℕ) (parts : List Part) → n ≤ end → AreEnded g n parts → AreEnded g end parts
ended_later g n end parts le all = λ k d lt. let less = all k d lt in omega (arith, less, le)

pub apart_cut : (g : Dimensions) (first count end : ℕ) (passed : List ℕ) (parts : List Part) → first ≤ end → 2 ≤ end → end < look_end g count → AreApart g first count end passed parts
    → AreApart g first count (end + 1) (passed ++ end ∷ []) parts
apart_cut g first count end passed parts from above below are = record {
  passed_are = record {
    each = All-push (IsLookedAt g first count) passed end are.passed_are.each (record { asked = from; extents = above; below = omega (arith, below); there = omega (arith, below) });
    rising = all_pairs_push (λ (a b : ℕ). a < b) passed end are.passed_are.rising (λ k d lt. are.before k d lt);
  };
  before = All-push (λ (p : ℕ). p < end + 1) passed end (λ k d lt. let less = are.before k d lt in omega (arith, less)) (omega arith);
  ended = λ k d lt. let less = are.ended k d lt in omega (arith, less);
  avoid = λ k d lt p there. ⊎_elim
      (λ (old : Contains passed p). are.avoid k d lt p old)
      (λ (same : end ≡ p). let ends = are.ended k d lt in inr (omega (arith, ends, same)))
      (Contains-push_cases passed end p there);
}

-- once more
pub rises_once : (amount before mid now : ℕ) → RisesBy amount before mid → RisesBy 1 mid now → RisesBy (amount + 1) before now
rises_once amount before mid now was more = omega (arith, was, more)

pub rises_on : (amount before mid now : ℕ) → RisesBy amount before mid → mid ≤ now → RisesBy amount before now
rises_on amount before mid now was le = omega (arith, was, le)

-- ---- from the first page to the end

pub none_found : (sought : Sought) (image : Image) (first n : ℕ) → n ≡ max first 2 → AreFoundBefore sought image first n [] []
none_found sought image first n is = record {
  sound = λ part there. absurd (omega (arith, there.1));
  complete = λ part payload it from before avoids. absurd (omega (arith, from, before, is));
  ordered = λ i j d less lt. absurd (omega (arith, lt));
}

pub none_apart : (g : Dimensions) (first count n : ℕ) → AreApart g first count n [] []
none_apart g first count n = record {
  passed_are = record { each = All-nil (IsLookedAt g first count); rising = λ i j d less lt. absurd (omega (arith, lt)) };
  before = All-nil (λ (p : ℕ). p < n);
  ended = All-nil (λ (part : Part). first_page_of g part + part.pages ≤ n);
  avoid = All-nil (Avoids g []);
}

pub all_found : (sought : Sought) (image : Image) (first n count : ℕ) (passed : List ℕ) (parts : List Part) → count ≡ length image → look_end sought.geometry count ≤ n → AreFoundBefore sought image first n passed parts → All (Avoids sought.geometry passed) parts
    → AreParts sought (without passed (from_on first image)) parts
all_found sought image first n count passed parts sized ends are avoid = record {
  sound = λ part there. let was = are.sound part there in
      (was.2.0, found_there sought image first passed part was.2.0 was.2.1 was.0 (All-contains (Avoids sought.geometry passed) parts part avoid there));
  complete = λ part payload is.
      let it = lies_there sought image first passed part payload is in
      are.complete part payload it.0 it.1 (omega (arith, before_end sought image part payload it.0, ends, sized)) it.2;
  ordered = are.ordered;
}

pub none_without_heads : (sought : Sought) (image : Image) → ((part : Part) (payload : List ℕ) → IsPart sought image part payload → ⊥) → AreParts sought image []
none_without_heads sought image none = record {
  sound = λ part there. absurd (omega (arith, there.1));
  complete = λ part payload is. absurd (none part payload is);
  ordered = λ i j d less lt. absurd (omega (arith, lt));
}
