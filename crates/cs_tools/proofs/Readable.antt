-- How many headers of chunks couldn't be read.
use Rattle.std.proofs.Common.{◌≡◌, ◌≢◌, ◌∙◌, ◌⊎◌, ◌==◌, ◌<◌, ◌≤◌, ◌+◌, ◌-◌, ◌^◌, ℕ, Bool, true, false, zero, suc, List, [], ◌∷◌, Some, eqb-true, get_or, length, take, inl, inr, refl, sym, ap, subst, arith}
use Rattle.std.specs.Prelude.{MatchBool, min, slice_get}
use Rattle.std.proofs.lemmas.List.{take_all}
use Rattle.cs_core.specs.Stored.{Stored}
use Rattle.cs_core.specs.Views.{View}
use Rattle.cs_chunk.specs.Newest.{AreNewest}
use Rattle.cs_disk.specs.Disk.{Rises, State as DiskState, seen}
use Rattle.cs_disk.specs.declared.disk.PageDisk.{Ghosts as PageDisk}
use Rattle.cs_extent.specs.State.{extents_of, shape}
use Rattle.cs_inspect.specs.Choices.{ReadsOn}
use Rattle.cs_index.specs.State.{index_of}
use Rattle.cs_inspect.specs.Chunks.{AreLiveChunks}
use Rattle.cs_inspect.specs.Uses.{AreBounded, AreCounted, AreExtents, Head, HoldsOfHeads, heads_of, unreadable_on}
use Rattle.cs_inspect.specs.declared.surveys.ExtentUse.{ExtentUse}
use Rattle.cs_tools.specs.Headers.{AllSay, AreReadable, AreUnreadable, HasUnreadable, IsLeft, NoneIsUnreadable, OneSaysNothing, SomeIsUnreadable, WasCounted, WasUnreadable}

-- ---- counting

-- so many of these, none or some
abbrev pub IsCountOf : List ExtentUse → ℕ → Type 0
IsCountOf uses n = ((n ≡ 0) × NoneIsUnreadable uses) ⊎ ((0 < n) × SomeIsUnreadable uses)

some_taken : (uses : List ExtentUse) (i e : ℕ) (used : ExtentUse) → slice_get (take i uses) e ≡ Some used → slice_get (take (suc i) uses) e ≡ Some used
some_taken [] zero e used at = at
some_taken [] (suc i) e used at = at
some_taken (u ∷ us) zero e used at = absurd (cc at)
some_taken (u ∷ us) (suc i) zero used at = at
some_taken (u ∷ us) (suc i) (suc e) used at = some_taken us i e used at

last_taken : (uses : List ExtentUse) (i : ℕ) (d : ExtentUse) → i < length uses → slice_get (take (suc i) uses) i ≡ Some (get_or uses i d)
last_taken [] i d lt = absurd (omega (arith, lt))
last_taken (u ∷ us) zero d lt = refl
last_taken (u ∷ us) (suc i) d lt = last_taken us i d (omega (arith, lt))

-- each that is taken is one of the earlier ones, or the last
taken : (uses : List ExtentUse) (i e : ℕ) (d used : ExtentUse) → i < length uses → slice_get (take (suc i) uses) e ≡ Some used → (slice_get (take i uses) e ≡ Some used) ⊎ (used ≡ get_or uses i d)
taken [] i e d used lt at = absurd (omega (arith, lt))
taken (u ∷ us) zero zero d used lt at = inr (cc at)
taken (u ∷ us) zero (suc e) d used lt at = absurd (cc at)
taken (u ∷ us) (suc i) zero d used lt at = inl at
taken (u ∷ us) (suc i) (suc e) d used lt at = taken us i e d used (omega (arith, lt)) at

none_more : (uses : List ExtentUse) (i : ℕ) (d : ExtentUse) → i < length uses → NoneIsUnreadable (take i uses) → (get_or uses i d).unreadable ≡ 0 → NoneIsUnreadable (take (suc i) uses)
none_more uses i d lt none is e used at = go (taken uses i e d used lt at)
  where
    go : (slice_get (take i uses) e ≡ Some used) ⊎ (used ≡ get_or uses i d) → used.unreadable ≡ 0
    go (inl earlier) = none e used earlier
    go (inr last) = ap (λ (u : ExtentUse). u.unreadable) last ∙ is

some_more : (uses : List ExtentUse) (i : ℕ) → SomeIsUnreadable (take i uses) → SomeIsUnreadable (take (suc i) uses)
some_more uses i (e, used, at, is) = (e, used, some_taken uses i e used at, is)

some_last : (uses : List ExtentUse) (i : ℕ) (d : ExtentUse) → i < length uses → (get_or uses i d).unreadable ≢ 0 → SomeIsUnreadable (take (suc i) uses)
some_last uses i d lt is = (i, get_or uses i d, last_taken uses i d lt, is)

count_more : (uses : List ExtentUse) (i : ℕ) (d : ExtentUse) (n m : ℕ) → i < length uses → IsCountOf (take i uses) n → m ≡ min (n + (get_or uses i d).unreadable) (2 ^ 64 - 1) → IsCountOf (take (suc i) uses) m
count_more uses i d n m lt (inr so_far) sum = inr (omega (arith, sum, so_far.0), some_more uses i so_far.1)
count_more uses i d n m lt (inl so_far) sum = go (get_or uses i d).unreadable refl
  where
    go : (k : ℕ) → (get_or uses i d).unreadable ≡ k → IsCountOf (take (suc i) uses) m
    go zero is = inl (omega (arith, sum, so_far.0, is), none_more uses i d lt so_far.1 is)
    go (suc k) is = inr (omega (arith, sum, so_far.0, is), some_last uses i d lt (λ none. let clash : suc k ≡ 0 = sym is ∙ none in absurd (omega (arith, clash))))

pub counted : (uses : List ExtentUse) (i : ℕ) (d : ExtentUse) (n m : ℕ) → i < length uses → IsCountOf (take i uses) n → m ≡ min (n + (get_or uses i d).unreadable) (2 ^ 64 - 1) → IsCountOf (take (i + 1) uses) m
counted uses i d n m lt so_far sum =
    let next : suc i ≡ i + 1 = omega arith in
    subst (λ (k : ℕ). IsCountOf (take k uses) m) next (count_more uses i d n m lt so_far sum)

pub none_counted : IsCountOf [] 0
none_counted = inl (refl, λ e used at. absurd (cc at))

none_or_some : (uses : List ExtentUse) (n : ℕ) → IsCountOf uses n → AreUnreadable uses n
none_or_some uses n (inl is) = subst (λ (k : ℕ). AreUnreadable uses k) (sym is.0) is.1
none_or_some uses n (inr is) = go (n == 0) refl
  where
    go : (b : Bool) → (n == 0) ≡ b → MatchBool b (NoneIsUnreadable uses) (SomeIsUnreadable uses)
    go true none = let no : n ≡ 0 = eqb-true n 0 none in absurd (omega (arith, no, is.0))
    go false some = is.1

pub all_counted : (uses : List ExtentUse) (i n : ℕ) → length uses ≤ i → IsCountOf (take i uses) n → AreUnreadable uses n
all_counted uses i n le is = none_or_some uses n (subst (λ (l : List ExtentUse). IsCountOf l n) (take_all i uses le) is)

-- ---- what headers say, by what was counted

there_at : (uses : List ExtentUse) (e : ℕ) → e < length uses → (used : ExtentUse) × (slice_get uses e ≡ Some used)
there_at [] e lt = absurd (omega (arith, lt))
there_at (u ∷ us) zero lt = (u, refl)
there_at (u ∷ us) (suc e) lt = there_at us e (omega (arith, lt))

within : (uses : List ExtentUse) (e : ℕ) (used : ExtentUse) → slice_get uses e ≡ Some used → e < length uses
within [] e used at = absurd (cc at)
within (u ∷ us) zero used at = omega arith
within (u ∷ us) (suc e) used at = let less = within us e used at in omega (arith, less)

none_say : (extents : ℕ) (heads : List Head) (uses : List ExtentUse) → length uses ≡ extents → AreBounded heads uses → NoneIsUnreadable uses → AllSay extents heads
none_say extents heads uses long bounded none e lt =
    let it = there_at uses e (omega (arith, long, lt)) in
    let least = (bounded e it.0 it.1).1 in
    let is = none e it.0 it.1 in
    omega (arith, least, is)

one_says : (extents : ℕ) (heads : List Head) (uses : List ExtentUse) → length uses ≡ extents → AreCounted heads uses → SomeIsUnreadable uses → OneSaysNothing extents heads
one_says extents heads uses long counted (e, used, at, is) =
    let less : e < length uses = within uses e used at in
    let count = (counted e used at).1 in
    (e, omega (arith, less, long), some (unreadable_on e heads) used.unreadable count is)
  where
    some : (heads_say used_says : ℕ) → used_says ≡ min heads_say (2 ^ 64 - 1) → used_says ≢ 0 → 0 < heads_say
    some zero used_says is not = absurd (not is)
    some (suc n) used_says is not = omega arith

module _ {D : Type 0} (disks : PageDisk D) where
  -- by the uses of the extents that were read between the one and the other
  module _ (old new : View D) (uses : List ExtentUse) (are : AreExtents (shape old.store.extents).extents (extents_of old.store.extents) uses) where
    pub readable : (disks.honest old.disk → HoldsOfHeads disks old (λ heads. AreBounded heads uses)) → NoneIsUnreadable uses → AreReadable disks old
    readable bounded none h view chunks newest live = none_say _ _ uses are.0 (bounded h view chunks newest live) none

    pub has_unreadable : (disks.honest old.disk → ¬ Rises (disks.failure_count old.disk) (disks.failure_count new.disk) → HoldsOfHeads disks old (λ heads. AreCounted heads uses)) → SomeIsUnreadable uses → HasUnreadable disks old new
    has_unreadable counted some h not view chunks newest live = one_says _ _ uses are.0 (counted h not view chunks newest live) some

    pub counts : (n : ℕ) → AreUnreadable uses n → (disks.honest old.disk → HoldsOfHeads disks old (λ heads. AreBounded heads uses))
        → (disks.honest old.disk → ¬ Rises (disks.failure_count old.disk) (disks.failure_count new.disk) → HoldsOfHeads disks old (λ heads. AreCounted heads uses))
        → MatchBool (n == 0) (AreReadable disks old) (HasUnreadable disks old new)
    counts n is bounded counted = go (n == 0) is
      where
        go : (b : Bool) → MatchBool b (NoneIsUnreadable uses) (SomeIsUnreadable uses) → MatchBool b (AreReadable disks old) (HasUnreadable disks old new)
        go true none = readable bounded none
        go false some = has_unreadable counted some

  -- after reads they can be read still
  readable_then : (old new : View D) → ReadsOn disks old new → AreReadable disks old → AreReadable disks new
  readable_then old new reads can h view chunks newest live =
      let before = reads.1.honesty.1 h in
      let store : new.store ≡ old.store = ap (λ (v : View D). v.store) reads.0 in
      subst (λ (w : Stored). AllSay (shape w.extents).extents (heads_of w.extents view chunks)) (sym store)
      (can before view chunks
      (subst (λ (w : Stored). AreNewest w.graph (seen (disks.state old.disk)) view) store (subst (λ (s : DiskState). AreNewest new.store.graph (seen s) view) (reads.1.same before) newest))
      (subst (λ (w : Stored). AreLiveChunks (index_of w.index) chunks) store live))

  -- what is left after the last look
  pub left : (n : ℕ) (old new : View D) → ReadsOn disks old new → MatchBool (n == 0) (AreReadable disks old) (HasUnreadable disks old new) → IsLeft disks n new
  left n old new reads is = go (n == 0) is
    where
      go : (b : Bool) → MatchBool b (AreReadable disks old) (HasUnreadable disks old new) → MatchBool b (AreReadable disks new) ((last : View D) × ReadsOn disks last new × HasUnreadable disks last new)
      go true can = readable_then old new reads can
      go false has = (old, reads, has)

  -- none is left, or some
  pub none_left : (n : ℕ) (new : View D) → n ≡ 0 → IsLeft disks n new → AreReadable disks new
  none_left n new none is = subst (λ (k : ℕ). IsLeft disks k new) none is

  pub some_left : (n : ℕ) (new : View D) → n ≢ 0 → IsLeft disks n new → (last : View D) × ReadsOn disks last new × HasUnreadable disks last new
  some_left n new some is = go (n == 0) refl is
    where
      go : (b : Bool) → (n == 0) ≡ b → MatchBool b (AreReadable disks new) ((last : View D) × ReadsOn disks last new × HasUnreadable disks last new) → (last : View D) × ReadsOn disks last new × HasUnreadable disks last new
      go true zero_is can = absurd (some (eqb-true n 0 zero_is))
      go false one_is has = has

  -- what was counted at first
  pub was_counted : (n : ℕ) (old read : View D) → ReadsOn disks old read → MatchBool (n == 0) (AreReadable disks old) (HasUnreadable disks old read) → WasCounted disks n old
  was_counted n old read reads is = go (n == 0) is
    where
      go : (b : Bool) → MatchBool b (AreReadable disks old) (HasUnreadable disks old read) → MatchBool b (AreReadable disks old) (WasUnreadable disks old)
      go true can = can
      go false has = (read, reads, has)

  pub was_some : (n : ℕ) (old : View D) → n ≢ 0 → WasCounted disks n old → WasUnreadable disks old
  was_some n old some is = go (n == 0) refl is
    where
      go : (b : Bool) → (n == 0) ≡ b → MatchBool b (AreReadable disks old) (WasUnreadable disks old) → WasUnreadable disks old
      go true zero_is can = absurd (some (eqb-true n 0 zero_is))
      go false one_is was = was
