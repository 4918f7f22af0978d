-- What a crash leaves that tears pages at any byte.
use Rattle.std.proofs.Common.{◌≡◌, ◌⊎◌, inl, inr, ⊎_elim, ℕ, zero, suc, ◌<◌, Bool, false, not, List, [], ◌∷◌, Some, slice_get, slice_index, length, replicate, refl, sym, ◌∙◌, ap, subst, arith}
use Rattle.std.proofs.lemmas.List.{ext_get_or, length-replicate}
use Rattle.cs_disk.specs.Disk.{Image, State, Write, applied, kept, page}
use Rattle.cs_twin.specs.declared.pairs.Held.{Held}
use Rattle.cs_twin.specs.declared.pairs.Pair.{Pair}
use Rattle.cs_twin.specs.Fences.{AreFences, AreOverKnown, AreWrittenOnce, IsWholeOrFence}
use Rattle.cs_twin.specs.Pairs.{ArePairs, AreNoOlder, Versions, fence, half, is_turned, shown}
use Rattle.cs_twin.specs.Tears.{HasWaitingWrite, IsLeft, IsMixed, IsNotWhole, MayTear, MixesTwo}
use Rattle.cs_twin.proofs.Fencing.{IsWritten, left_at}
use Rattle.cs_twin.proofs.Roles.{IsHalf, IsOwn, role, shown_page-own}
use Rattle.cs_twin.proofs.Shown.{IsLast, by_halves, held_same, keeps_turned, latest_of, page-shown}
use Rattle.cs_twin.proofs.Tearing.{MaySpoil}

-- a mask that keeps nothing
pub kept_none : (n : ℕ) (writes : List Write) → kept (replicate n false) writes ≡ []
kept_none zero writes = refl
kept_none (suc n) [] = refl
kept_none (suc n) (w ∷ writes) = kept_none n writes

-- a page that has what is durable is left by none of the writes
pub left_durable : (s : State) (p : ℕ) (bytes : List ℕ) → bytes ≡ page s.durable p → IsLeft s p bytes
left_durable s p bytes same = (
  replicate (length s.volatile) false,
  length-replicate (length s.volatile) false,
  same ∙ ap (λ (l : List Write). page (applied s.durable l) p) (sym (kept_none (length s.volatile) s.volatile)),
)

-- a page to which no write waits mixes nothing
mixes_none : (s : State) (p : ℕ) (bytes : List ℕ) → ((i : ℕ) (w : Write) → slice_get s.volatile i ≡ Some w → w.0 ≡ p → ⊥) → IsMixed s p bytes → bytes ≡ page s.durable p
mixes_none s p bytes none mixed = ext_get_or 0 bytes (page s.durable p) mixed.size (λ i lt. from i (mixed.each i lt))
  where
    from : (i : ℕ) → (slice_index bytes i ≡ slice_index (page s.durable p) i) ⊎ ((k : ℕ) × (w : Write) × (slice_get s.volatile k ≡ Some w) × (w.0 ≡ p) × (slice_index bytes i ≡ slice_index w.1 i)) → slice_index bytes i ≡ slice_index (page s.durable p) i
    from i (inl same) = same
    from i (inr w) = absurd (none w.0 w.1 w.2 w.3)

-- What tears pages at any byte leaves of each page what some writes leave, or spoils it.
module _ (V : Versions) (pairs : List Pair) (s : State) (c : Image) (newer : AreNoOlder V pairs s) (known : AreOverKnown V pairs s) (once : AreWrittenOnce pairs s) (tear : MayTear V pairs s c) where
  mixes_two : (p : ℕ) → IsLast s.volatile p → IsHalf pairs p → MixesTwo V pairs s p
  mixes_two p last found = record {
    one_write = λ i j v w at_i at_j there here. once found.place i j found.pair v w found.twin found.twin found.at at_i at_j (there ∙ found.is) (here ∙ found.is);
    durable = λ k x twin at is.
        subst (λ q. IsWholeOrFence V x.page (page s.durable q)) (sym is)
        (known k last.place x last.write twin at last.at (last.goes ∙ is));
    written = λ i w at_i goes k x twin at is. (newer.each k i x w at at_i twin (goes ∙ is)).2;
  }

  spoils_at : (p : ℕ) → p < length s.durable → IsMixed s p (page c p) ⊎ (HasWaitingWrite s p × IsNotWhole V pairs p (page c p)) → IsLeft s p (page c p) ⊎ (HasWaitingWrite s p × IsNotWhole V pairs p (page c p))
  spoils_at p lt (inr spoilt) = inr spoilt
  spoils_at p lt (inl mixed) = by_writes (latest_of s.volatile p) (role pairs p)
    where
      by_writes : IsLast s.volatile p ⊎ ((i : ℕ) (w : Write) → slice_get s.volatile i ≡ Some w → w.0 ≡ p → ⊥) → IsHalf pairs p ⊎ IsOwn pairs p → IsLeft s p (page c p) ⊎ (HasWaitingWrite s p × IsNotWhole V pairs p (page c p))
      by_writes (inr none) either = inl (left_durable s p (page c p) (mixes_none s p (page c p) none mixed))
      by_writes (inl last) (inr own) = inr ((last.place, last.write, last.at, last.goes), λ k x twin at is. absurd (own k x twin at is))
      by_writes (inl last) (inl found) = ⊎_elim (λ (left : IsLeft s p (page c p)). inl left)
          (λ (spoilt : IsNotWhole V pairs p (page c p)). inr ((last.place, last.write, last.at, last.goes), spoilt))
          (tear.told p lt (mixes_two p last found) mixed)

  pub tear_spoils : MaySpoil V pairs s c
  tear_spoils = record { size = tear.size; each = λ p lt. spoils_at p lt (tear.each p lt) }

-- Where fences alone wait, each pair shows as before.
module _ (V : Versions) (pairs : List Pair) (s : State) (c : Image) (are : ArePairs pairs (length s.durable)) (newer : AreNoOlder V pairs s) (hollow : (q : ℕ) → V q fence ≡ 0) (fences : AreFences pairs s) (size : length c ≡ length s.durable)
    (each : (k : ℕ) (x : Pair) (twin : Bool) → slice_get pairs k ≡ Some x → IsLeft s (half x twin) (page c (half x twin)) ⊎ (HasWaitingWrite s (half x twin) × IsNotWhole V pairs (half x twin) (page c (half x twin)))) where
  -- a half has what was durable, or isn't whole
  kept_or_hollow : (k : ℕ) (x : Pair) (twin : Bool) → slice_get pairs k ≡ Some x → (page c (half x twin) ≡ page s.durable (half x twin)) ⊎ (HasWaitingWrite s (half x twin) × (V x.page (page c (half x twin)) ≡ 0))
  kept_or_hollow k x twin at = from (each k x twin at)
    where
      by_left : (left : IsLeft s (half x twin) (page c (half x twin))) → (page (applied s.durable (kept left.0 s.volatile)) (half x twin) ≡ page s.durable (half x twin)) ⊎ IsWritten s (half x twin) (page (applied s.durable (kept left.0 s.volatile)) (half x twin))
          → (page c (half x twin) ≡ page s.durable (half x twin)) ⊎ (HasWaitingWrite s (half x twin) × (V x.page (page c (half x twin)) ≡ 0))
      by_left left (inl same) = inl (left.2 ∙ same)
      by_left left (inr w) = inr ((w.place, w.write, w.at, w.goes), ap (V x.page) (left.2 ∙ w.is ∙ fences k w.place x w.write twin at w.at w.goes) ∙ hollow x.page)

      from : IsLeft s (half x twin) (page c (half x twin)) ⊎ (HasWaitingWrite s (half x twin) × IsNotWhole V pairs (half x twin) (page c (half x twin))) → (page c (half x twin) ≡ page s.durable (half x twin)) ⊎ (HasWaitingWrite s (half x twin) × (V x.page (page c (half x twin)) ≡ 0))
      from (inl left) = by_left left (left_at s left.0 (half x twin))
      from (inr spoilt) = inr (spoilt.0, spoilt.1 k x twin at refl)

  -- the newest half wasn't being written
  newest_kept : (k : ℕ) (x : Pair) → slice_get pairs k ≡ Some x → page c (half x (is_turned V s.durable x)) ≡ page s.durable (half x (is_turned V s.durable x))
  newest_kept k x at = ⊎_elim
      (λ (same : page c (half x (is_turned V s.durable x)) ≡ page s.durable (half x (is_turned V s.durable x))). same)
      (λ (waits : HasWaitingWrite s (half x (is_turned V s.durable x)) × (V x.page (page c (half x (is_turned V s.durable x))) ≡ 0)).
      absurd ((newer.each k waits.0.0 x waits.0.1 at waits.0.2 (is_turned V s.durable x) waits.0.3).0 refl))
      (kept_or_hollow k x (is_turned V s.durable x) at)

  same_newest : (k : ℕ) (x : Pair) → slice_get pairs k ≡ Some x → page c (half x (is_turned V c x)) ≡ page s.durable (half x (is_turned V s.durable x))
  same_newest k x at = ⊎_elim
      (λ (same : page c (half x (not t)) ≡ page s.durable (half x (not t))).
      let halves = by_halves t (λ b. page c (half x b) ≡ page s.durable (half x b)) (newest_kept k x at) same in
      halves (is_turned V c x) ∙ ap (λ (h : Held). page s.durable (half x h.turned)) (held_same V c s.durable x halves))
      (λ (waits : HasWaitingWrite s (half x (not t)) × (V x.page (page c (half x (not t))) ≡ 0)).
      ap (λ b. page c (half x b)) (keeps_turned V s.durable c x t refl (newest_kept k x at) waits.1) ∙ newest_kept k x at)
      (kept_or_hollow k x (not t) at)
    where
      t : Bool
      t = is_turned V s.durable x

  pub fences_show : (k : ℕ) (x : Pair) → slice_get pairs k ≡ Some x → page (shown V pairs c) x.page ≡ page (shown V pairs s.durable) x.page
  fences_show k x at =
      let inside = are.inside k x false at in
      let are_left = subst (λ n. ArePairs pairs n) (sym size) are in
      page-shown V pairs c x.page (omega (arith, inside, size)) ∙ shown_page-own V c pairs (length c) are_left k x at ∙ same_newest k x at
      ∙ sym (page-shown V pairs s.durable x.page inside ∙ shown_page-own V s.durable pairs (length s.durable) are k x at)
