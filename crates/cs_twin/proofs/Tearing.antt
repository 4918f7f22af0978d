-- What is left where pages tear shows as a crash of the disk as it shows, but for frames that were being written.
use Rattle.std.proofs.Common.{◌≡◌, ◌≢◌, ◌⊎◌, inl, inr, ⊎_elim, if◌then◌else◌, ◌==◌, ℕ, zero, suc, ◌+◌, ◌<◌, ◌≤◌, Bool, true, false, not, List, [], ◌∷◌, Some, drop, slice_get, get_or, length, map, refl, sym, ◌∙◌, ap, subst, arith}
use Rattle.std.proofs.lemmas.Bool.{cases_eq, cases_lt}
use Rattle.std.proofs.lemmas.Option.{same_Some}
use Rattle.cs_disk.specs.Disk.{Image, MayLeave, State, Write, applied, kept, latest, page}
use Rattle.cs_disk.proofs.Images.{length-applied, page-applied}
use Rattle.cs_twin.specs.declared.pairs.Held.{Held}
use Rattle.cs_twin.specs.declared.pairs.Pair.{Pair}
use Rattle.cs_twin.specs.Pairs.{ArePairs, AreNoOlder, Versions, half, is_turned, shown, shown_page, shown_state, shown_write}
use Rattle.cs_twin.specs.Tears.{HasWaitingWrite, IsLeft, IsNotWhole, IsTornBeside}
use Rattle.cs_twin.proofs.Leaving.{kept_newer, shows_left}
use Rattle.cs_twin.proofs.Roles.{IsHalf, IsOwn, if_other, role, shown_page-none, shown_page-own, shown_page-twin, shown_write-none}
use Rattle.cs_twin.proofs.Shown.{by_halves, held_same, keeps_turned, length-shown, newest_stays, page-shown}

-- ---- one mask for all pages

-- the first write, and the others
kept_first : (mask : List Bool) (w : Write) (writes : List Write) (p : ℕ) (bytes : List ℕ)
    → latest (kept mask (w ∷ writes)) p bytes ≡ latest (kept (drop 1 mask) writes) p (if get_or mask 0 false then (if w.0 == p then w.1 else bytes) else bytes)
kept_first [] w writes p bytes = refl
kept_first (true ∷ mask) w writes p bytes = refl
kept_first (false ∷ mask) w writes p bytes = refl

get_or_other : (mask : List Bool) (j : ℕ) → get_or mask (suc j) false ≡ get_or (drop 1 mask) j false
get_or_other [] j = refl
get_or_other (b ∷ mask) j = refl

-- what a page has then depends on the writes to it alone
latest_agrees : (m n : List Bool) (writes : List Write) (p : ℕ) (bytes : List ℕ) → ((j : ℕ) (w : Write) → slice_get writes j ≡ Some w → w.0 ≡ p → get_or m j false ≡ get_or n j false)
    → latest (kept m writes) p bytes ≡ latest (kept n writes) p bytes
latest_agrees [] [] [] p bytes agree = refl
latest_agrees [] (b ∷ n) [] p bytes agree = none_left (b ∷ n) p bytes
  where
    none_left : (n : List Bool) (p : ℕ) (bytes : List ℕ) → bytes ≡ latest (kept n []) p bytes
    none_left [] p bytes = refl
    none_left (true ∷ n) p bytes = refl
    none_left (false ∷ n) p bytes = refl
latest_agrees (b ∷ m) n [] p bytes agree = both (b ∷ m) n
  where
    both : (m n : List Bool) → latest (kept m []) p bytes ≡ latest (kept n []) p bytes
    both [] [] = refl
    both [] (true ∷ n) = refl
    both [] (false ∷ n) = refl
    both (true ∷ m) [] = refl
    both (true ∷ m) (true ∷ n) = refl
    both (true ∷ m) (false ∷ n) = refl
    both (false ∷ m) [] = refl
    both (false ∷ m) (true ∷ n) = refl
    both (false ∷ m) (false ∷ n) = refl
latest_agrees m n (w ∷ writes) p bytes agree =
    kept_first m w writes p bytes ∙ ap (latest (kept (drop 1 m) writes) p) (one (get_or m 0 false) (get_or n 0 false) (λ goes. agree 0 w refl goes))
    ∙ latest_agrees (drop 1 m) (drop 1 n) writes p _ (λ j x at goes. sym (get_or_other m j) ∙ agree (suc j) x at goes ∙ get_or_other n j) ∙ sym (kept_first n w writes p bytes)
  where
    alike : (b : Bool) → (if b then bytes else bytes) ≡ bytes
    alike true = refl
    alike false = refl

    one : (b c : Bool) → (w.0 ≡ p → b ≡ c) → (if b then (if w.0 == p then w.1 else bytes) else bytes) ≡ (if c then (if w.0 == p then w.1 else bytes) else bytes)
    one b c same = ⊎_elim
        (λ (goes : w.0 ≡ p). ap (λ (x : Bool). if x then (if w.0 == p then w.1 else bytes) else bytes) (same goes))
        (λ (other : w.0 ≢ p).
        let skipped = if_other w.0 p w.1 bytes other in
        ap (λ (l : List ℕ). if b then l else bytes) skipped ∙ alike b ∙ sym (ap (λ (l : List ℕ). if c then l else bytes) skipped ∙ alike c))
        (cases_eq w.0 p)

-- of each write, what is chosen for its page
abbrev chosen : (choose : ℕ → List Bool) (i : ℕ) → List Write → List Bool
chosen choose i [] = []
chosen choose i (w ∷ writes) = get_or (choose w.0) i false ∷ chosen choose (suc i) writes

length-chosen : (choose : ℕ → List Bool) (i : ℕ) (writes : List Write) → length (chosen choose i writes) ≡ length writes
length-chosen choose i [] = refl
length-chosen choose i (w ∷ writes) = omega (arith, length-chosen choose (suc i) writes)

chosen_at : (choose : ℕ → List Bool) (i : ℕ) (writes : List Write) (j : ℕ) (w : Write) → slice_get writes j ≡ Some w → get_or (chosen choose i writes) j false ≡ get_or (choose w.0) (i + j) false
chosen_at choose i [] j w at = cc
chosen_at choose i (x ∷ writes) zero w at = ap (λ k. get_or (choose x.0) k false) (omega arith) ∙ ap (λ (z : Write). get_or (choose z.0) (i + 0) false) (same_Some x w at)
chosen_at choose i (x ∷ writes) (suc j) w at = chosen_at choose (suc i) writes j w at ∙ ap (λ k. get_or (choose w.0) k false) (omega arith)

latest_chosen : (choose : ℕ → List Bool) (writes : List Write) (p : ℕ) (bytes : List ℕ) → latest (kept (chosen choose 0 writes) writes) p bytes ≡ latest (kept (choose p) writes) p bytes
latest_chosen choose writes p bytes =
    latest_agrees (chosen choose 0 writes) (choose p) writes p bytes
    (λ j w at goes. chosen_at choose 0 writes j w at ∙ ap (λ k. get_or (choose w.0) k false) (omega arith) ∙ ap (λ q. get_or (choose q) j false) goes)

-- a write to a page of no pair waits as it shows
mapped_at : {A B : Type 0} (f : A → B) (xs : List A) (i : ℕ) (x : A) → slice_get xs i ≡ Some x → slice_get (map f xs) i ≡ Some (f x)
mapped_at f [] i x at = cc
mapped_at f (y ∷ xs) zero x at = ap (λ z. Some (f z)) (same_Some y x at)
mapped_at f (y ∷ xs) (suc i) x at = mapped_at f xs i x at

waits_shown : (V : Versions) (pairs : List Pair) (s : State) (p : ℕ) → IsOwn pairs p → HasWaitingWrite s p → HasWaitingWrite (shown_state V pairs s) p
waits_shown V pairs s p own waits =
    (waits.0, shown_write V pairs waits.1, mapped_at (shown_write V pairs) s.volatile waits.0 waits.1 waits.2, ap (λ (w : Write). w.0) (shown_write-none V pairs waits.1 (subst (IsOwn pairs) (sym waits.3) own)) ∙ waits.3)

-- Each page holds what some of the volatile writes to it leave, each its own; or it was being written, and holds
-- bytes that aren't whole.
pub record MaySpoil (V : Versions) (pairs : List Pair) (s : State) (image : Image) : Type 0 where
  pub size : length image ≡ length s.durable
  pub each : (p : ℕ) → p < length s.durable → IsLeft s p (page image p) ⊎ (HasWaitingWrite s p × IsNotWhole V pairs p (page image p))

module _ (V : Versions) (pairs : List Pair) (s : State) (c : Image) (are : ArePairs pairs (length s.durable)) (newer : AreNoOlder V pairs s) (tear : MaySpoil V pairs s c) where
  -- ---- the crash that is nearest

  abbrev Left : ℕ → Type 0
  Left p = IsLeft s p (page c p) ⊎ (HasWaitingWrite s p × IsNotWhole V pairs p (page c p))

  -- the mask that a page took, none where it is torn
  picked : (p : ℕ) → Left p → List Bool
  picked p (inl left) = left.0
  picked p (inr torn) = []

  picks : (p : ℕ) → (p < length s.durable) ⊎ (length s.durable ≤ p) → List Bool
  unfolding picked
  picks p (inl lt) = picked p (tear.each p lt)
  picks p (inr le) = []

  mask : List Bool
  unfolding picked picks
  mask = chosen (λ p. picks p (cases_lt p (length s.durable))) 0 s.volatile

  nearest : Image
  nearest = applied s.durable (kept mask s.volatile)

  nearest_left : MayLeave s nearest
  unfolding nearest mask
  nearest_left = (mask, length-chosen (λ p. picks p (cases_lt p (length s.durable))) 0 s.volatile, refl)

  -- where a page is torn, the nearest crash has there what is durable
  record IsTorn (p : ℕ) : Type 0 where
    written : HasWaitingWrite s p
    not_whole : IsNotWhole V pairs p (page c p)
    durable : page nearest p ≡ page s.durable p

  by_pick : (p : ℕ) → p < length s.durable → (l : Left p) → page nearest p ≡ latest (kept (picked p l) s.volatile) p (page s.durable p) → (page c p ≡ page nearest p) ⊎ IsTorn p
  unfolding picked
  by_pick p lt (inl left) is = inl (left.2 ∙ page-applied s.durable (kept left.0 s.volatile) p lt ∙ sym is)
  by_pick p lt (inr torn) is = inr (record { written = torn.0; not_whole = torn.1; durable = is })

  by_place : (p : ℕ) → p < length s.durable → (d : (p < length s.durable) ⊎ (length s.durable ≤ p)) → page nearest p ≡ latest (kept (picks p d) s.volatile) p (page s.durable p) → (page c p ≡ page nearest p) ⊎ IsTorn p
  unfolding picks
  by_place p lt (inl here) is = by_pick p lt (tear.each p here) is
  by_place p lt (inr le) is = absurd (omega (arith, lt, le))

  near : (p : ℕ) → p < length s.durable → (page c p ≡ page nearest p) ⊎ IsTorn p
  unfolding nearest mask
  near p lt =
      by_place p lt (cases_lt p (length s.durable))
      (page-applied s.durable (kept mask s.volatile) p lt ∙ latest_chosen (λ q. picks q (cases_lt q (length s.durable))) s.volatile p (page s.durable p))

  -- ---- as it shows

  nearest_newest : (k : ℕ) (x : Pair) → slice_get pairs k ≡ Some x → page nearest (half x (is_turned V s.durable x)) ≡ page s.durable (half x (is_turned V s.durable x))
  unfolding nearest
  nearest_newest k x at = newest_stays V pairs s.durable (kept mask s.volatile) are (kept_newer V pairs s mask newer) k x at

  -- the newest half of the durable image isn't torn
  newest_whole : (k : ℕ) (x : Pair) → slice_get pairs k ≡ Some x → page c (half x (is_turned V s.durable x)) ≡ page nearest (half x (is_turned V s.durable x))
  newest_whole k x at = ⊎_elim
      (λ (same : page c (half x (is_turned V s.durable x)) ≡ page nearest (half x (is_turned V s.durable x))). same)
      (λ (torn : IsTorn (half x (is_turned V s.durable x))). absurd ((newer.each k torn.written.0 x torn.written.1 at torn.written.2 (is_turned V s.durable x) torn.written.3).0 refl))
      (near (half x (is_turned V s.durable x)) (are.inside k x (is_turned V s.durable x) at))

  -- so each pair shows the same
  pair_shows : (k : ℕ) (x : Pair) → slice_get pairs k ≡ Some x → shown_page V pairs c x.page ≡ shown_page V pairs nearest x.page
  pair_shows k x at = shown_page-own V c pairs (length s.durable) are k x at ∙ from (near (half x (not t)) (are.inside k x (not t) at)) ∙ sym (shown_page-own V nearest pairs (length s.durable) are k x at)
    where
      t : Bool
      t = is_turned V s.durable x

      from : (page c (half x (not t)) ≡ page nearest (half x (not t))) ⊎ IsTorn (half x (not t)) → page c (half x (is_turned V c x)) ≡ page nearest (half x (is_turned V nearest x))
      from (inl same) =
          let halves = by_halves t (λ b. page c (half x b) ≡ page nearest (half x b)) (newest_whole k x at) same in
          halves (is_turned V c x) ∙ ap (λ (h : Held). page nearest (half x h.turned)) (held_same V c nearest x halves)
      from (inr torn) =
          let durable = newest_whole k x at ∙ nearest_newest k x at in
          let there = keeps_turned V s.durable c x t refl durable (torn.not_whole k x (not t) at refl) in
          let here = held_same V nearest s.durable x (by_halves t (λ b. page nearest (half x b) ≡ page s.durable (half x b)) (nearest_newest k x at) torn.durable) in
          ap (λ b. page c (half x b)) there ∙ newest_whole k x at ∙ sym (ap (λ (h : Held). page nearest (half x h.turned)) here)

  half_shows : (k : ℕ) (x : Pair) (twin : Bool) → slice_get pairs k ≡ Some x → shown_page V pairs c (half x twin) ≡ shown_page V pairs nearest (half x twin)
  half_shows k x true at = shown_page-twin V c pairs (length s.durable) are k x at ∙ sym (shown_page-twin V nearest pairs (length s.durable) are k x at)
  half_shows k x false at = pair_shows k x at

  each_shows : (p : ℕ) → p < length s.durable → (shown_page V pairs c p ≡ shown_page V pairs nearest p) ⊎ (IsOwn pairs p × HasWaitingWrite (shown_state V pairs s) p)
  each_shows p lt = ⊎_elim
      (λ (found : IsHalf pairs p). inl (subst (λ q. shown_page V pairs c q ≡ shown_page V pairs nearest q) (sym found.is) (half_shows found.place found.pair found.twin found.at)))
      (λ (own : IsOwn pairs p). ⊎_elim
      (λ (same : page c p ≡ page nearest p). inl (shown_page-none V c pairs p own ∙ same ∙ sym (shown_page-none V nearest pairs p own)))
      (λ (torn : IsTorn p). inr (own, waits_shown V pairs s p own torn.written))
      (near p lt))
      (role pairs p)

  length-nearest : length nearest ≡ length s.durable
  unfolding nearest
  length-nearest = length-applied s.durable (kept mask s.volatile)

  -- What is left shows as what a crash of the disk as it shows might leave, but for pages of no pair that were being
  -- written.
  pub torn_shows : (d : Image) × MayLeave (shown_state V pairs s) d × IsTornBeside pairs (shown_state V pairs s) d (shown V pairs c)
  torn_shows = (
    shown V pairs nearest,
    shows_left V pairs s are newer nearest nearest_left,
    record {
      size = length-shown V pairs c ∙ tear.size ∙ sym length-nearest ∙ sym (length-shown V pairs nearest);
      each = λ p lt.
          let inside : p < length s.durable = omega (arith, lt, length-shown V pairs nearest, length-nearest) in
          let same = page-shown V pairs c p (omega (arith, inside, tear.size)) in
          let other = page-shown V pairs nearest p (omega (arith, inside, length-nearest)) in
          ⊎_elim
          (λ (is : shown_page V pairs c p ≡ shown_page V pairs nearest p). inl (same ∙ is ∙ sym other))
          (λ (torn : IsOwn pairs p × HasWaitingWrite (shown_state V pairs s) p). inr torn)
          (each_shows p inside);
    },
  )
