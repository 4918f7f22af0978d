-- A disk in pairs, over the disk below.
use Rattle.std.proofs.Common.{◌≡◌, ◌⊎◌, inl, inr, ℕ, ◌<◌, Bool, List, [], Some, Result, Ok, Err, OnOk, slice_get, length, sym, ◌∙◌, ap, subst, arith}
use Rattle.cs_disk.specs.Disk.{Elapses, Image, IsWhole, LeavesOnly, MayLeave, State, crashed, flushed, page, seen, written}
use Rattle.cs_disk.proofs.Images.{length-applied}
use Rattle.cs_disk.proofs.Moments.{flushes, started}
use Rattle.cs_twin.specs.declared.pairs.Pair.{Pair}
use Rattle.cs_twin.specs.Laws.{ShowsKept}
use Rattle.cs_twin.specs.Pairs.{ArePairs, AreNoOlder, Versions, blank, half, is_turned, left_shown, shown_page, shown_state}
use Rattle.cs_twin.proofs.Leaving.{are_on, elapses_shown, seen_shown, shown_kept, whole_shown}
use Rattle.cs_twin.proofs.Roles.{IsOwn, shown_page-none, shown_page-own, shown_page-twin, shown_write-none}
use Rattle.cs_twin.proofs.Shown.{page-shown}
use Rattle.cs_twin.proofs.Writing.{shows_as_written}

module _ (V : Versions) (pairs : List Pair) (pages : ℕ) (s : State) (are : ArePairs pairs pages) (sized : length s.durable ≡ pages) (newer : AreNoOlder V pairs s) where
  here : ArePairs pairs (length s.durable)
  here = are_on pairs pages s.durable are sized

  -- what the type says of it
  pub shows_here : ShowsKept V pairs s
  shows_here = shown_kept V pairs s here newer

  pub whole_here : IsWhole s → IsWhole (shown_state V pairs s)
  whole_here whole = whole_shown V pairs s here whole

  -- time goes on
  pub time_here : (before now : ℕ) (past since : ℕ → Image → Type 0) → Elapses before now past since s → Elapses before now (left_shown V pairs past) (left_shown V pairs since) (shown_state V pairs s)
  time_here before now past since time = elapses_shown V pairs s here newer before now past since time

  -- what a page reads as
  seen_at : (p : ℕ) → p < pages → page (seen (shown_state V pairs s)) p ≡ shown_page V pairs (seen s) p
  seen_at p lt =
      ap (λ (image : Image). page image p) (seen_shown V pairs s here newer)
      ∙ page-shown V pairs (seen s) p (omega (arith, lt, sized, length-applied s.durable s.volatile))

  pub reads_own : (p : ℕ) (bytes : List ℕ) → p < pages → IsOwn pairs p → bytes ≡ page (seen s) p → bytes ≡ page (seen (shown_state V pairs s)) p
  reads_own p bytes lt own is = is ∙ sym (shown_page-none V (seen s) pairs p own) ∙ sym (seen_at p lt)

  pub reads_twin : (p k : ℕ) (x : Pair) → p < pages → slice_get pairs k ≡ Some x → p ≡ x.twin → blank ≡ page (seen (shown_state V pairs s)) p
  reads_twin p k x lt at is = sym (seen_at p lt ∙ ap (shown_page V pairs (seen s)) is ∙ shown_page-twin V (seen s) pairs pages are k x at)

  pub reads_pair : (p k : ℕ) (x : Pair) (bytes : List ℕ) → p < pages → slice_get pairs k ≡ Some x → p ≡ x.page → bytes ≡ page (seen s) (half x (is_turned V (seen s) x)) → bytes ≡ page (seen (shown_state V pairs s)) p
  reads_pair p k x bytes lt at own is = is ∙ sym (seen_at p lt ∙ ap (shown_page V pairs (seen s)) own ∙ shown_page-own V (seen s) pairs pages are k x at)

  pub reads_own_ok : {T E : Type 0} (result : Result T E) (p : ℕ) (bytes : List ℕ) → p < pages → IsOwn pairs p → OnOk result (bytes ≡ page (seen s) p) → OnOk result (bytes ≡ page (seen (shown_state V pairs s)) p)
  reads_own_ok (Ok t) p bytes lt own is = reads_own p bytes lt own is
  reads_own_ok (Err e) p bytes lt own is = tt

  pub reads_pair_ok : {T E : Type 0} (result : Result T E) (p k : ℕ) (x : Pair) (bytes : List ℕ) → p < pages → slice_get pairs k ≡ Some x → p ≡ x.page → OnOk result (bytes ≡ page (seen s) (half x (is_turned V (seen s) x)))
      → OnOk result (bytes ≡ page (seen (shown_state V pairs s)) p)
  reads_pair_ok (Ok t) p k x bytes lt at own is = reads_pair p k x bytes lt at own is
  reads_pair_ok (Err e) p k x bytes lt at own is = tt

  -- a flush
  pub flush_ok : {T E : Type 0} (result : Result T E) (now : State) → OnOk result (now ≡ flushed s) → OnOk result (shown_state V pairs now ≡ flushed (shown_state V pairs s))
  flush_ok (Ok t) now is = ap (shown_state V pairs) is ∙ ap (λ (image : Image). record { durable = image; volatile = [] }) (sym (seen_shown V pairs s here newer))
  flush_ok (Err e) now is = tt

  -- a crash
  pub crash_shows : (now : State) (mask : List Bool) → now ≡ crashed s mask → shown_state V pairs now ≡ crashed (shown_state V pairs s) mask
  crash_shows now mask is = ap (shown_state V pairs) is ∙ ap (λ (image : Image). record { durable = image; volatile = [] }) (shows_here mask)

-- ---- writes of other pages

module _ (V : Versions) (pairs : List Pair) (s now : State) (p : ℕ) (bytes : List ℕ) (own : IsOwn pairs p) where
  own_written : now ≡ written s p bytes → shown_state V pairs now ≡ written (shown_state V pairs s) p bytes
  own_written is = ap (shown_state V pairs) is ∙ shows_as_written V pairs s p p bytes (shown_write-none V pairs (p, bytes) own)

  pub own_ok : {T E : Type 0} (result : Result T E) → OnOk result (now ≡ written s p bytes) → OnOk result (shown_state V pairs now ≡ written (shown_state V pairs s) p bytes)
  own_ok (Ok t) is = own_written is
  own_ok (Err e) is = tt

  pub own_either : (now ≡ s) ⊎ (now ≡ written s p bytes) → (shown_state V pairs now ≡ shown_state V pairs s) ⊎ (shown_state V pairs now ≡ written (shown_state V pairs s) p bytes)
  own_either (inl same) = inl (ap (shown_state V pairs) same)
  own_either (inr is) = inr (own_written is)

-- ---- an opening

pub flush_leaves : {D : Type 0} (state : D → State) (moment : D → ℕ) (left_since : D → ℕ → Image → Type 0) (old new : D) → ((c : Image) → left_since old (moment old) c → MayLeave (state old) c)
    → Elapses (moment old) (moment new) (left_since old) (left_since new) (state new) → state new ≡ flushed (state old) → LeavesOnly moment left_since old new (MayLeave (state old))
flush_leaves state moment left_since old new only_now time is =
    (flushes state moment left_since old old new (MayLeave (state old)) (started state moment left_since old (MayLeave (state old)) (λ c left. left) only_now) time is).any_moment

-- ---- a pair among pairs that are these

pub pair_either : (V : Versions) (ps pairs : List Pair) (s now : State) (p q : ℕ) (bytes : List ℕ) → ps ≡ pairs → p ≡ q → (shown_state V ps now ≡ shown_state V ps s) ⊎ (shown_state V ps now ≡ written (shown_state V ps s) q bytes)
    → (shown_state V pairs now ≡ shown_state V pairs s) ⊎ (shown_state V pairs now ≡ written (shown_state V pairs s) p bytes)
pair_either V ps pairs s now p q bytes same number either =
    subst (λ (l : List Pair). (shown_state V l now ≡ shown_state V l s) ⊎ (shown_state V l now ≡ written (shown_state V l s) p bytes)) same
    (subst (λ n. (shown_state V ps now ≡ shown_state V ps s) ⊎ (shown_state V ps now ≡ written (shown_state V ps s) n bytes)) (sym number) either)
