-- What a crash may leave, as it shows, and how time goes on.
use Rattle.std.proofs.Common.{◌≡◌, inl, inr, ⊎_elim, if◌then◌else◌, ◌==◌, ℕ, zero, suc, ◌<◌, Bool, true, false, List, [], ◌∷◌, Some, All, get_or, slice_get, length, map, replicate, sym, ◌∙◌, ap, subst, arith}
use Rattle.std.proofs.lemmas.List.{get_or_default, length-map, length-replicate}
use Rattle.std.proofs.lemmas.List.Elements.{All-map}
use Rattle.cs_disk.specs.Disk.{Elapses, Image, IsBytes, IsWhole, MayLeave, State, Write, applied, kept, page, seen}
use Rattle.cs_disk.proofs.Images.{kept-map}
use Rattle.cs_twin.specs.declared.pairs.Pair.{Pair}
use Rattle.cs_twin.specs.Laws.{ShowsKept}
use Rattle.cs_twin.specs.Pairs.{ArePairs, AreNoOlder, Versions, blank, half, is_turned, left_shown, shown, shown_half, shown_page, shown_state, shown_write}
use Rattle.cs_twin.proofs.Roles.{IsHalf, IsOwn, role, shown_page-none, shown_page-own, shown_page-twin}
use Rattle.cs_twin.proofs.Shown.{Newer, length-shown, page-shown, shown-applied}

-- what is kept was there
pub kept_among : {A : Type 0} (mask : List Bool) (xs : List A) (i : ℕ) (x : A) → slice_get (kept mask xs) i ≡ Some x → (j : ℕ) × (slice_get xs j ≡ Some x)
kept_among [] xs i x at = cc
kept_among (true ∷ mask) [] i x at = cc
kept_among (false ∷ mask) [] i x at = cc
kept_among (true ∷ mask) (y ∷ xs) zero x at = (0, at)
kept_among (true ∷ mask) (y ∷ xs) (suc i) x at = let found = kept_among mask xs i x at in (suc found.0, found.1)
kept_among (false ∷ mask) (y ∷ xs) i x at = let found = kept_among mask xs i x at in (suc found.0, found.1)

zero_bytes : (n : ℕ) → IsBytes (replicate n 0)
zero_bytes zero i = omega arith
zero_bytes (suc n) zero = omega arith
zero_bytes (suc n) (suc i) = zero_bytes n i

module _ (V : Versions) (pairs : List Pair) where
  pub kept_newer : (s : State) (mask : List Bool) → AreNoOlder V pairs s → Newer V pairs s.durable (kept mask s.volatile)
  kept_newer s mask newer = record {
    each = λ k i x w at at_i. let found = kept_among mask s.volatile i w at_i in newer.each k found.0 x w at found.1;
    alike = λ k i j x v w b c at at_i at_j there goes none.
        let first = kept_among mask s.volatile i v at_i in
        let second = kept_among mask s.volatile j w at_j in
        newer.alike k first.0 second.0 x v w b c at first.1 second.1 there goes none;
  }

  module _ (s : State) (are : ArePairs pairs (length s.durable)) (newer : AreNoOlder V pairs s) where
    -- what some volatile writes leave shows as what they leave as they show
    pub shown_kept : ShowsKept V pairs s
    shown_kept mask =
        shown-applied V pairs s.durable (kept mask s.volatile) are (kept_newer s mask newer)
        ∙ ap (applied (shown V pairs s.durable)) (sym (kept-map (shown_write V pairs) mask s.volatile))

    -- A crash image shows as one of the disk as it shows.
    pub shows_left : (c : Image) → MayLeave s c → MayLeave (shown_state V pairs s) (shown V pairs c)
    shows_left c left = (left.0, left.1 ∙ sym (length-map s.volatile (shown_write V pairs)), ap (shown V pairs) left.2 ∙ shown_kept left.0)

    -- what the disk reads as shows as what it reads as, as it shows
    pub seen_shown : seen (shown_state V pairs s) ≡ shown V pairs (seen s)
    seen_shown = sym (shown-applied V pairs s.durable s.volatile are newer)

    -- time goes on
    pub elapses_shown : (before now : ℕ) (past since : ℕ → Image → Type 0) → Elapses before now past since s → Elapses before now (left_shown V pairs past) (left_shown V pairs since) (shown_state V pairs s)
    elapses_shown before now past since time = record {
      later = time.later;
      nothing_else = λ t c le left. ⊎_elim
          (λ (was : past t left.0). inl (left.0, was, left.2))
          (λ (is : MayLeave s left.0). inr (subst (λ (image : Image). MayLeave (shown_state V pairs s) image) (sym left.2) (shows_left left.0 is)))
          (time.nothing_else t left.0 le left.1);
      keeps = λ t c le left. (left.0, time.keeps t left.0 le left.1, left.2);
    }

  -- ---- whole pages

  module _ (P : List ℕ → Type 0) (image : Image) (are : ArePairs pairs (length image)) (zeros : P blank) (each : All P image) where
    at_page : (p : ℕ) → p < length image → P (page image p)
    at_page p lt = each p [] lt

    half_has : (k : ℕ) (x : Pair) (twin : Bool) → slice_get pairs k ≡ Some x → P (shown_page V pairs image (half x twin))
    half_has k x true at = subst P (sym (shown_page-twin V image pairs (length image) are k x at)) zeros
    half_has k x false at =
        subst P (sym (shown_page-own V image pairs (length image) are k x at)) (at_page (half x (is_turned V image x)) (are.inside k x (is_turned V image x) at))

    shown_each : (p : ℕ) → p < length image → P (shown_page V pairs image p)
    shown_each p lt = ⊎_elim
        (λ (found : IsHalf pairs p). subst (λ q. P (shown_page V pairs image q)) (sym found.is) (half_has found.place found.pair found.twin found.at))
        (λ (none : IsOwn pairs p). subst P (sym (shown_page-none V image pairs p none)) (at_page p lt))
        (role pairs p)

    -- what each page has, and zeros have, each page as it shows has
    pub shown_All : All P (shown V pairs image)
    shown_All i d lt =
        let inside : i < length image = omega (arith, lt, length-shown V pairs image) in
        subst P (sym (get_or_default (shown V pairs image) i d [] lt ∙ page-shown V pairs image i inside)) (shown_each i inside)

  shown_has : (P : List ℕ → Type 0) (ps : List Pair) (w : Write) → P blank → P w.1 → P (shown_write V ps w).1
  shown_has P [] w zeros has = has
  shown_has P (x ∷ ps) w zeros has = by_test (x.twin == w.0) _ _ here (by_test (x.page == w.0) _ _ here (shown_has P ps w zeros has))
    where
      by_test : (b : Bool) (u v : Write) → P u.1 → P v.1 → P (if b then u else v).1
      by_test true u v first second = first
      by_test false u v first second = second

      here : P (shown_half V x w.1).1
      here = by_test (V x.page w.1 == 0) _ _ zeros has

  pub volatile_All : (P : List ℕ → Type 0) (writes : List Write) → P blank → All (λ (w : Write). P w.1) writes → All (λ (w : Write). P w.1) (map (shown_write V pairs) writes)
  volatile_All P writes zeros each =
      All-map (λ (w : Write). P w.1) (shown_write V pairs) writes (λ i d lt. shown_has P pairs (get_or writes i d) zeros (each i d lt))

  pub whole_shown : (s : State) → ArePairs pairs (length s.durable) → IsWhole s → IsWhole (shown_state V pairs s)
  unfolding blank
  whole_shown s are whole = record {
    durable = shown_All (λ bytes. length bytes ≡ 4096) s.durable are (length-replicate {A = ℕ} 4096 0) whole.durable;
    volatile = volatile_All (λ bytes. length bytes ≡ 4096) s.volatile (length-replicate {A = ℕ} 4096 0) whole.volatile;
    durable_bytes = shown_All (λ bytes. IsBytes bytes) s.durable are (zero_bytes 4096) whole.durable_bytes;
    volatile_bytes = volatile_All (λ bytes. IsBytes bytes) s.volatile (zero_bytes 4096) whole.volatile_bytes;
  }

-- the pairs of a disk with so many pages
pub are_on : (pairs : List Pair) (pages : ℕ) (image : Image) → ArePairs pairs pages → length image ≡ pages → ArePairs pairs (length image)
are_on pairs pages image are sized = subst (λ n. ArePairs pairs n) (sym sized) are
