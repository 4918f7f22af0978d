-- What a crash leaves of a disk shows as what a crash might leave of the disk as it shows.
use Rattle.std.proofs.Common.{◌≡◌, ◌≢◌, ◌⊎◌, inl, inr, ⊎_elim, if◌then◌else◌, ◌==◌, ℕ, zero, suc, ◌<◌, ◌≤◌, Bool, true, false, not, List, [], ◌∷◌, Some, slice_get, length, map, nat_le, refl, sym, ◌∙◌, ap, subst, arith}
use Rattle.std.proofs.lemmas.Bool.{cases_eq, cases_lt}
use Rattle.std.proofs.lemmas.Bool.Decides.{nat_tests}
use Rattle.std.proofs.lemmas.List.{ext_get_or}
use Rattle.std.proofs.lemmas.List.FromFn.{get_or-map-range_with_len, length-map-range_with_len}
use Rattle.std.proofs.lemmas.Option.{same_Some}
use Rattle.cs_disk.specs.Disk.{Image, Write, applied, latest, page}
use Rattle.cs_disk.proofs.Images.{length-applied, page-applied}
use Rattle.cs_twin.specs.declared.pairs.Held.{Held}
use Rattle.cs_twin.specs.declared.pairs.Pair.{Pair}
use Rattle.cs_twin.specs.Pairs.{ArePairs, NoneIsOlder, Versions, blank, half, held_in, is_turned, shown, shown_page, shown_write, version_at}
use Rattle.cs_twin.proofs.Roles.{IsHalf, IsOwn, if_is, if_other, if_same, role, shown_half-none, shown_half-whole, shown_page-none, shown_page-own, shown_page-twin, shown_write-half, shown_write-none}

-- ---- the last of some writes to a page

-- each of these writes has P
abbrev pub Each : (Write → Type 0) → List Write → Type 0
Each P writes = (i : ℕ) (w : Write) → slice_get writes i ≡ Some w → P w

each_other : (P : Write → Type 0) (x : Write) (writes : List Write) → Each P (x ∷ writes) → Each P writes
each_other P x writes each i w at = each (suc i) w at

-- none of them goes there
pub latest_none : (writes : List Write) (p : ℕ) (bytes : List ℕ) → Each (λ w. w.0 ≡ p → ⊥) writes → latest writes p bytes ≡ bytes
latest_none [] p bytes none = refl
latest_none (w ∷ writes) p bytes none =
    ap (latest writes p) (if_other w.0 p w.1 bytes (none 0 w refl)) ∙ latest_none writes p bytes (each_other (λ x. x.0 ≡ p → ⊥) w writes none)

-- one of them, or what was there before
pub record IsLast (writes : List Write) (p : ℕ) : Type 0 where
  pub place : ℕ
  pub write : Write
  pub at : slice_get writes place ≡ Some write
  pub goes : write.0 ≡ p
  pub is : (bytes : List ℕ) → latest writes p bytes ≡ write.1

pub latest_of : (writes : List Write) (p : ℕ) → IsLast writes p ⊎ Each (λ w. w.0 ≡ p → ⊥) writes
latest_of [] p = inr (λ i w at. cc)
latest_of (x ∷ writes) p = from (latest_of writes p) (cases_eq x.0 p)
  where
    from : IsLast writes p ⊎ Each (λ w. w.0 ≡ p → ⊥) writes → (x.0 ≡ p) ⊎ (x.0 ≢ p) → IsLast (x ∷ writes) p ⊎ Each (λ w. w.0 ≡ p → ⊥) (x ∷ writes)
    from (inl later) _ = inl (record { place = suc later.place; write = later.write; at = later.at; goes = later.goes; is = λ bytes. later.is (if x.0 == p then x.1 else bytes) })
    from (inr none) (inl here) = inl (record {
      place = 0;
      write = x;
      at = refl;
      goes = here;
      is = λ bytes. ap (latest writes p) (subst (λ q. (if x.0 == q then x.1 else bytes) ≡ x.1) here (if_same x.0 x.1 bytes)) ∙ latest_none writes p x.1 none;
    })
    from (inr none) (inr other) = inr no
      where
        no : Each (λ w. w.0 ≡ p → ⊥) (x ∷ writes)
        no zero w at goes = other (ap (λ (z : Write). z.0) (same_Some x w at) ∙ goes)
        no (suc i) w at goes = none i w at goes

-- a write that shows as one to page p with its bytes if it goes to page q, and else as one elsewhere
abbrev pub ShowsThere : (show : Write → Write) (p q : ℕ) → Write → Type 0
ShowsThere show p q w = ((w.0 ≡ q) × (show w ≡ (p, w.1))) ⊎ ((w.0 ≡ q → ⊥) × ((show w).0 ≡ p → ⊥))

-- writes of which the same ones go there
pub latest_shown : (show : Write → Write) (writes : List Write) (p q : ℕ) (bytes : List ℕ) → Each (ShowsThere show p q) writes → latest (map show writes) p bytes ≡ latest writes q bytes
latest_shown show [] p q bytes each = refl
latest_shown show (w ∷ writes) p q bytes each =
    latest_shown show writes p q (if (show w).0 == p then (show w).1 else bytes) (each_other (ShowsThere show p q) w writes each) ∙ ap (latest writes q) (one (each 0 w refl))
  where
    one : ShowsThere show p q w → (if (show w).0 == p then (show w).1 else bytes) ≡ (if w.0 == q then w.1 else bytes)
    one (inl here) =
        ap (λ (v : Write). if v.0 == p then v.1 else bytes) here.1 ∙ if_same p w.1 bytes ∙ sym (if_is w.0 q w.1 bytes here.0)
    one (inr other) = if_other (show w).0 p (show w).1 bytes other.1 ∙ sym (if_other w.0 q w.1 bytes other.0)

-- writes each of which shows elsewhere, or with these bytes
pub latest_same : (show : Write → Write) (writes : List Write) (p : ℕ) (bytes : List ℕ) → Each (λ w. ((show w).0 ≡ p → ⊥) ⊎ ((show w).1 ≡ bytes)) writes → latest (map show writes) p bytes ≡ bytes
latest_same show [] p bytes each = refl
latest_same show (w ∷ writes) p bytes each =
    ap (latest (map show writes) p) (one (each 0 w refl)) ∙ latest_same show writes p bytes (each_other (λ v. ((show v).0 ≡ p → ⊥) ⊎ ((show v).1 ≡ bytes)) w writes each)
  where
    alike : (b : Bool) → (if b then bytes else bytes) ≡ bytes
    alike true = refl
    alike false = refl

    one : ((show w).0 ≡ p → ⊥) ⊎ ((show w).1 ≡ bytes) → (if (show w).0 == p then (show w).1 else bytes) ≡ bytes
    one (inl other) = if_other (show w).0 p (show w).1 bytes other
    one (inr same) = ap (λ (l : List ℕ). if (show w).0 == p then l else bytes) same ∙ alike ((show w).0 == p)

-- ---- which half is the newest

-- two images that have the same halves
pub held_same : (V : Versions) (image other : Image) (x : Pair) → ((twin : Bool) → page image (half x twin) ≡ page other (half x twin)) → held_in V image x ≡ held_in V other x
held_same V image other x same =
    let own = ap (V x.page) (same false) in
    let twin = ap (V x.page) (same true) in
    let turned : is_turned V image x ≡ is_turned V other x = ap (λ n. nat_le n (version_at V image x true)) own ∙ ap (λ n. nat_le (version_at V other x false) n) twin in
    let version : version_at V image x (is_turned V image x) ≡ version_at V other x (is_turned V other x) = ap (λ (b : Bool). version_at V image x b) turned ∙ ap (V x.page) (same (is_turned V other x)) in
    cc

-- a half whose version is greater than the other's
pub turns : (V : Versions) (image : Image) (x : Pair) (twin : Bool) → version_at V image x twin < version_at V image x (not twin) → is_turned V image x ≡ not twin
turns V image x true above = grind (arith, nat_tests)
turns V image x false above = grind (arith, nat_tests)

-- a half that isn't whole isn't newer than one that was the newest
older : (own twin now : ℕ) (t : Bool) → nat_le own twin ≡ t → now ≡ 0 → (if t then nat_le now twin else nat_le own now) ≡ t
older own twin now true is none = grind (arith, nat_tests)
older own twin now false is none = grind (arith, nat_tests)

pub keeps_turned : (V : Versions) (image now : Image) (x : Pair) (t : Bool) → is_turned V image x ≡ t → page now (half x t) ≡ page image (half x t) → V x.page (page now (half x (not t))) ≡ 0 → is_turned V now x ≡ t
keeps_turned V image now x true is newest none =
    let stays = ap (V x.page) newest in
    ap (λ n. nat_le (version_at V now x false) n) stays ∙ older (version_at V image x false) (version_at V image x true) (version_at V now x false) true is none
keeps_turned V image now x false is newest none =
    let stays = ap (V x.page) newest in
    ap (λ n. nat_le n (version_at V now x true)) stays ∙ older (version_at V image x false) (version_at V image x true) (version_at V now x true) false is none

-- one half is the newest, or the other is
pub either : (b c : Bool) → (b ≡ c → ⊥) → b ≡ not c
either true true other = absurd (other refl)
either true false other = refl
either false true other = refl
either false false other = absurd (other refl)

pub by_halves : (t : Bool) (P : Bool → Type 0) → P t → P (not t) → (b : Bool) → P b
by_halves true P here other true = here
by_halves true P here other false = other
by_halves false P here other true = other
by_halves false P here other false = here

-- ---- what shows under which number

-- a write to a half shows under one of the numbers of its pair
shown_within : (V : Versions) (pairs : List Pair) (n : ℕ) → ArePairs pairs n → (k : ℕ) (x : Pair) (twin : Bool) (w : Write) → slice_get pairs k ≡ Some x → w.0 ≡ half x twin
    → (V x.page w.1 ≡ 0) × (shown_write V pairs w ≡ (x.twin, blank)) ⊎ (0 < V x.page w.1) × (shown_write V pairs w ≡ (x.page, w.1))
shown_within V pairs n are k x twin w at goes = ⊎_elim
    (λ (some : 0 < V x.page w.1). inr (some, shown_write-half V pairs n are k x twin w at goes ∙ shown_half-whole V x w.1 some))
    (λ (none : V x.page w.1 ≤ 0). let is : V x.page w.1 ≡ 0 = omega (arith, none) in inl (is, shown_write-half V pairs n are k x twin w at goes ∙ shown_half-none V x w.1 is))
    (cases_lt 0 (V x.page w.1))

module _ (V : Versions) (pairs : List Pair) (n : ℕ) (are : ArePairs pairs n) where
  -- Only a page that is no half shows under its own number, where that is no half.
  pub own_only : (p : ℕ) → IsOwn pairs p → (w : Write) → ShowsThere (shown_write V pairs) p p w
  own_only p none w = from (role pairs w.0)
    where
      elsewhere : (found : IsHalf pairs w.0) → (w.0 ≡ p → ⊥) × ((shown_write V pairs w).0 ≡ p → ⊥)
      elsewhere found = (
        (λ here. none found.place found.pair found.twin found.at (sym here ∙ found.is)),
        (λ shows. ⊎_elim
            (λ (hidden : (V found.pair.page w.1 ≡ 0) × (shown_write V pairs w ≡ (found.pair.twin, blank))). none found.place found.pair true found.at (sym shows ∙ ap (λ (z : Write). z.0) hidden.1))
            (λ (whole : (0 < V found.pair.page w.1) × (shown_write V pairs w ≡ (found.pair.page, w.1))). none found.place found.pair false found.at (sym shows ∙ ap (λ (z : Write). z.0) whole.1))
            (shown_within V pairs n are found.place found.pair found.twin w found.at found.is)),
      )

      from : IsHalf pairs w.0 ⊎ IsOwn pairs w.0 → ShowsThere (shown_write V pairs) p p w
      from (inl found) = inr (elsewhere found)
      from (inr own) = ⊎_elim
          (λ (here : w.0 ≡ p). inl (here, shown_write-none V pairs w own ∙ ap (λ q. (q, w.1)) here))
          (λ (other : w.0 ≢ p). inr (other, λ shows. other (ap (λ (z : Write). z.0) (sym (shown_write-none V pairs w own)) ∙ shows)))
          (cases_eq w.0 p)

  -- what shows under a number of a pair goes to one of its halves
  pub half_of : (k : ℕ) (x : Pair) (b : Bool) → slice_get pairs k ≡ Some x → (w : Write) → (shown_write V pairs w).0 ≡ half x b → (twin : Bool) × (w.0 ≡ half x twin)
  half_of k x b at w shows = from (role pairs w.0)
    where
      same : (found : IsHalf pairs w.0) (c : Bool) → half found.pair c ≡ half x b → (twin : Bool) × (w.0 ≡ half x twin)
      same found c is =
          let here = are.apart found.place k found.pair x c b found.at at is in
          (found.twin, found.is ∙ ap (λ (z : Pair). half z found.twin) (same_Some found.pair x (sym found.at ∙ ap (slice_get pairs) here.0 ∙ at)))

      from : IsHalf pairs w.0 ⊎ IsOwn pairs w.0 → (twin : Bool) × (w.0 ≡ half x twin)
      from (inr own) = absurd (own k x b at (ap (λ (z : Write). z.0) (sym (shown_write-none V pairs w own)) ∙ shows))
      from (inl found) = ⊎_elim
          (λ (hidden : (V found.pair.page w.1 ≡ 0) × (shown_write V pairs w ≡ (found.pair.twin, blank))). same found true (ap (λ (z : Write). z.0) (sym hidden.1) ∙ shows))
          (λ (whole : (0 < V found.pair.page w.1) × (shown_write V pairs w ≡ (found.pair.page, w.1))). same found false (ap (λ (z : Write). z.0) (sym whole.1) ∙ shows))
          (shown_within V pairs n are found.place found.pair found.twin w found.at found.is)

  -- zeros alone show under the number of a twin
  pub twin_zeros : (k : ℕ) (x : Pair) → slice_get pairs k ≡ Some x → (w : Write) → ((shown_write V pairs w).0 ≡ x.twin → ⊥) ⊎ ((shown_write V pairs w).1 ≡ blank)
  twin_zeros k x at w = ⊎_elim
      (λ (here : (shown_write V pairs w).0 ≡ x.twin). inr (zeros (half_of k x true at w here) here))
      (λ (other : (shown_write V pairs w).0 ≢ x.twin). inl other)
      (cases_eq (shown_write V pairs w).0 x.twin)
    where
      apart : x.page ≡ x.twin → ⊥
      apart e = let both = are.apart k k x x false true at at e in let clash : false ≡ true = both.1 in cc

      zeros : (twin : Bool) × (w.0 ≡ half x twin) → (shown_write V pairs w).0 ≡ x.twin → (shown_write V pairs w).1 ≡ blank
      zeros goes here = ⊎_elim
          (λ (hidden : (V x.page w.1 ≡ 0) × (shown_write V pairs w ≡ (x.twin, blank))). ap (λ (z : Write). z.1) hidden.1)
          (λ (whole : (0 < V x.page w.1) × (shown_write V pairs w ≡ (x.page, w.1))). absurd (apart (ap (λ (z : Write). z.0) (sym whole.1) ∙ here)))
          (shown_within V pairs n are k x goes.0 w at goes.1)

  -- a write that isn't whole shows nothing under the number of its pair
  pub hides : (k : ℕ) (x : Pair) → slice_get pairs k ≡ Some x → (w : Write) → ((twin : Bool) → w.0 ≡ half x twin → V x.page w.1 ≡ 0) → (shown_write V pairs w).0 ≡ x.page → ⊥
  hides k x at w none shows =
      let goes = half_of k x false at w shows in
      let hidden = shown_write-half V pairs n are k x goes.0 w at goes.1 ∙ shown_half-none V x w.1 (none goes.0 goes.1) in
      let both = are.apart k k x x true false at at (ap (λ (z : Write). z.0) (sym hidden) ∙ shows) in
      let clash : true ≡ false = both.1 in
      cc

-- ---- an image after some writes

module _ (V : Versions) (pairs : List Pair) where
  pub length-shown : (image : Image) → length (shown V pairs image) ≡ length image
  length-shown image = length-map-range_with_len (shown_page V pairs image) 0 (length image)

  pub page-shown : (image : Image) (p : ℕ) → p < length image → page (shown V pairs image) p ≡ shown_page V pairs image p
  page-shown image p lt = get_or-map-range_with_len (shown_page V pairs image) 0 (length image) p p [] lt (omega arith)

  -- each write that goes to a pair is newer than what the image has there, or the same
  abbrev pub Newer : Image → List Write → Type 0
  Newer image writes = NoneIsOlder V pairs image writes

  module _ (image : Image) (writes : List Write) (are : ArePairs pairs (length image)) (newer : Newer image writes) where
    -- the newest half of the image stays as it is
    pub newest_stays : (k : ℕ) (x : Pair) → slice_get pairs k ≡ Some x → page (applied image writes) (half x (is_turned V image x)) ≡ page image (half x (is_turned V image x))
    newest_stays k x at =
        let a = half x (is_turned V image x) in
        page-applied image writes a (are.inside k x (is_turned V image x) at) ∙ latest_none writes a (page image a) (λ i w at_i goes. (newer.each k i x w at at_i (is_turned V image x) goes).0 refl)

    -- whole pages that show under the pair's number go to the other half
    alike : (k : ℕ) (x : Pair) → slice_get pairs k ≡ Some x → ((i : ℕ) (w : Write) (twin : Bool) → slice_get writes i ≡ Some w → w.0 ≡ half x twin → 0 < V x.page w.1)
        → Each (ShowsThere (shown_write V pairs) x.page (half x (not (is_turned V image x)))) writes
    alike k x at whole i w at_i = ⊎_elim
        (λ (here : w.0 ≡ half x (not (is_turned V image x))).
        inl (here, shown_write-half V pairs (length image) are k x (not (is_turned V image x)) w at here ∙ shown_half-whole V x w.1 (whole i w (not (is_turned V image x)) at_i here)))
        (λ (other : w.0 ≢ half x (not (is_turned V image x))).
        inr (
          other,
          λ shows.
              let one = half_of V pairs (length image) are k x false at w shows in
              other (one.1 ∙ ap (half x) (either one.0 (is_turned V image x) (newer.each k i x w at at_i one.0 one.1).0)),
        ))
        (cases_eq w.0 (half x (not (is_turned V image x))))

    -- of one pair all writes are whole, or none is
    all_whole : (k i : ℕ) (x : Pair) (w : Write) (twin : Bool) → slice_get pairs k ≡ Some x → slice_get writes i ≡ Some w → w.0 ≡ half x twin → 0 < V x.page w.1
        → (j : ℕ) (v : Write) (b : Bool) → slice_get writes j ≡ Some v → v.0 ≡ half x b → 0 < V x.page v.1
    all_whole k i x w twin at at_i goes some j v b at_j there = ⊎_elim
        (λ (is : 0 < V x.page v.1). is)
        (λ (none : V x.page v.1 ≤ 0).
        let zero_too : V x.page w.1 ≡ 0 = newer.alike k j i x v w b twin at at_j at_i there goes (omega (arith, none)) in
        absurd (omega (arith, zero_too, some)))
        (cases_lt 0 (V x.page v.1))

    -- the other half is what the last write to it made it
    other_is : (k : ℕ) (x : Pair) (twin : Bool) → slice_get pairs k ≡ Some x → page (applied image writes) (half x twin) ≡ latest writes (half x twin) (page image (half x twin))
    other_is k x twin at = page-applied image writes (half x twin) (are.inside k x twin at)

    -- where none goes there, all is as it was
    pub stays_held : (k : ℕ) (x : Pair) → slice_get pairs k ≡ Some x → Each (λ w. w.0 ≡ half x (not (is_turned V image x)) → ⊥) writes → held_in V (applied image writes) x ≡ held_in V image x
    stays_held k x at none =
        held_same V (applied image writes) image x (by_halves (is_turned V image x) (λ b. page (applied image writes) (half x b) ≡ page image (half x b)) (newest_stays k x at)
        (other_is k x (not (is_turned V image x)) at ∙ latest_none writes (half x (not (is_turned V image x))) (page image (half x (not (is_turned V image x)))) none))

    -- and where one does, that half is the newest
    pub turned_held : (k : ℕ) (x : Pair) (last : IsLast writes (half x (not (is_turned V image x)))) → slice_get pairs k ≡ Some x
        → version_at V image x (is_turned V image x) < V x.page last.write.1
        → held_in V (applied image writes) x ≡ record { turned = not (is_turned V image x); version = V x.page last.write.1 }
    turned_held k x last at above =
        let t = is_turned V image x in
        let new : page (applied image writes) (half x (not t)) ≡ last.write.1 = other_is k x (not t) at ∙ last.is (page image (half x (not t))) in
        let old = ap (V x.page) (newest_stays k x at) in
        let version = ap (V x.page) new in
        let turned = turns V (applied image writes) x t (omega (arith, old, above, version)) in
        let newest : version_at V (applied image writes) x (is_turned V (applied image writes) x) ≡ V x.page last.write.1 = ap (version_at V (applied image writes) x) turned ∙ version in
        cc

    -- where none that goes there is whole, it has the same newest version
    stays_turned : (k : ℕ) (x : Pair) (last : IsLast writes (half x (not (is_turned V image x)))) → slice_get pairs k ≡ Some x → V x.page last.write.1 ≡ 0 → is_turned V (applied image writes) x ≡ is_turned V image x
    stays_turned k x last at none =
        let t = is_turned V image x in
        let new : page (applied image writes) (half x (not t)) ≡ last.write.1 = other_is k x (not t) at ∙ last.is (page image (half x (not t))) in
        keeps_turned V image (applied image writes) x t refl (newest_stays k x at) (ap (V x.page) new ∙ none)

    -- what the number of a pair shows then
    own_shows : (k : ℕ) (x : Pair) → slice_get pairs k ≡ Some x → shown_page V pairs (applied image writes) x.page ≡ latest (map (shown_write V pairs) writes) x.page (shown_page V pairs image x.page)
    own_shows k x at = shown_page-own V (applied image writes) pairs (length image) are k x at ∙ from (latest_of writes b)
      where
        t : Bool
        t = is_turned V image x

        b : ℕ
        b = half x (not t)

        was : List ℕ
        was = shown_page V pairs image x.page

        was_newest : was ≡ page image (half x t)
        was_newest = shown_page-own V image pairs (length image) are k x at

        -- each is whole
        new_shows : (last : IsLast writes b) → 0 < V x.page last.write.1 → page (applied image writes) (half x (is_turned V (applied image writes) x)) ≡ latest writes b was
        new_shows last some =
            let no_older = (newer.each k last.place x last.write at last.at (not t) last.goes).1 some in
            ⊎_elim
            (λ (above : version_at V image x t < V x.page last.write.1).
            ap (λ (h : Held). page (applied image writes) (half x h.turned)) (turned_held k x last at above)
            ∙ other_is k x (not t) at ∙ last.is (page image b) ∙ sym (last.is was))
            (λ (most : V x.page last.write.1 ≤ version_at V image x t).
            let same : last.write.1 ≡ page image (half x t) = no_older.1 (omega (arith, most, no_older.0)) in
            by_halves t (λ h. page (applied image writes) (half x h) ≡ last.write.1) (newest_stays k x at ∙ sym same) (other_is k x (not t) at ∙ last.is (page image b)) (is_turned V (applied image writes) x)
            ∙ sym (last.is was))
            (cases_lt (version_at V image x t) (V x.page last.write.1))

        -- none is
        none_shows : Each (λ w. (shown_write V pairs w).0 ≡ x.page → ⊥) writes → latest (map (shown_write V pairs) writes) x.page was ≡ was
        none_shows none = latest_same (shown_write V pairs) writes x.page was (λ i w at_i. inl (none i w at_i))

        from : IsLast writes b ⊎ Each (λ w. w.0 ≡ b → ⊥) writes → page (applied image writes) (half x (is_turned V (applied image writes) x)) ≡ latest (map (shown_write V pairs) writes) x.page was
        from (inl last) = ⊎_elim
            (λ (some : 0 < V x.page last.write.1).
            new_shows last some
            ∙ sym (latest_shown (shown_write V pairs) writes x.page b was (alike k x at (λ j v c at_j there. all_whole k last.place x last.write (not t) at last.at last.goes some j v c at_j there))))
            (λ (most : V x.page last.write.1 ≤ 0).
            let none : V x.page last.write.1 ≡ 0 = omega (arith, most) in
            ap (λ (c : Bool). page (applied image writes) (half x c)) (stays_turned k x last at none) ∙ newest_stays k x at ∙ sym was_newest
            ∙ sym (none_shows (λ i w at_i. hides V pairs (length image) are k x at w (λ twin goes. newer.alike k last.place i x last.write w (not t) twin at last.at at_i last.goes goes none))))
            (cases_lt 0 (V x.page last.write.1))
        from (inr none) =
            ap (λ (h : Held). page (applied image writes) (half x h.turned)) (stays_held k x at none)
            ∙ newest_stays k x at ∙ sym was_newest
            ∙ sym (none_shows (λ i w at_i shows.
            let one = half_of V pairs (length image) are k x false at w shows in
            none i w at_i (one.1 ∙ ap (half x) (either one.0 t (newer.each k i x w at at_i one.0 one.1).0))))

    -- a twin shows zeros, and zeros alone show under its number
    twin_shows : (k : ℕ) (x : Pair) → slice_get pairs k ≡ Some x → shown_page V pairs (applied image writes) x.twin ≡ latest (map (shown_write V pairs) writes) x.twin (shown_page V pairs image x.twin)
    twin_shows k x at =
        let zeros = shown_page-twin V image pairs (length image) are k x at in
        shown_page-twin V (applied image writes) pairs (length image) are k x at
        ∙ sym (latest_same (shown_write V pairs) writes x.twin blank (λ i w at_i. twin_zeros V pairs (length image) are k x at w))
        ∙ ap (latest (map (shown_write V pairs) writes) x.twin) (sym zeros)

    -- any other page is as it is
    else_shows : (p : ℕ) → IsOwn pairs p → p < length image → shown_page V pairs (applied image writes) p ≡ latest (map (shown_write V pairs) writes) p (shown_page V pairs image p)
    else_shows p none lt =
        shown_page-none V (applied image writes) pairs p none ∙ page-applied image writes p lt ∙ ap (latest writes p) (sym (shown_page-none V image pairs p none))
        ∙ sym (latest_shown (shown_write V pairs) writes p p (shown_page V pairs image p) (λ i w at. own_only V pairs (length image) are p none w))

    -- so each page shows what it would after the writes as they show
    abbrev ShowsAfter : ℕ → Type 0
    ShowsAfter p = shown_page V pairs (applied image writes) p ≡ latest (map (shown_write V pairs) writes) p (shown_page V pairs image p)

    half_shows : (k : ℕ) (x : Pair) (twin : Bool) → slice_get pairs k ≡ Some x → ShowsAfter (half x twin)
    half_shows k x true at = twin_shows k x at
    half_shows k x false at = own_shows k x at

    each_shows : (p : ℕ) → p < length image → ShowsAfter p
    each_shows p lt = ⊎_elim
        (λ (found : IsHalf pairs p). subst (λ q. ShowsAfter q) (sym found.is) (half_shows found.place found.pair found.twin found.at))
        (λ (none : IsOwn pairs p). else_shows p none lt)
        (role pairs p)

    -- What the image with the writes shows is what it shows, with the writes as they show.
    pub shown-applied : shown V pairs (applied image writes) ≡ applied (shown V pairs image) (map (shown_write V pairs) writes)
    shown-applied =
        let left : length (shown V pairs (applied image writes)) ≡ length image = length-shown (applied image writes) ∙ length-applied image writes in
        let right : length (applied (shown V pairs image) (map (shown_write V pairs) writes)) ≡ length image = length-applied (shown V pairs image) (map (shown_write V pairs) writes) ∙ length-shown image in
        ext_get_or [] (shown V pairs (applied image writes)) (applied (shown V pairs image) (map (shown_write V pairs) writes)) (left ∙ sym right)
        (λ p lt.
        let inside : p < length image = omega (arith, lt, left) in
        page-shown (applied image writes) p (omega (arith, inside, length-applied image writes))
        ∙ each_shows p inside
        ∙ ap (latest (map (shown_write V pairs) writes) p) (sym (page-shown image p inside))
        ∙ sym (page-applied (shown V pairs image) (map (shown_write V pairs) writes) p (omega (arith, inside, length-shown image))))
