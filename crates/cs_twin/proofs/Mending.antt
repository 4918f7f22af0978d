-- A half that is passed over is filled, with a fence or with what the other half holds.
use Rattle.std.proofs.Common.{◌≡◌, ◌⊎◌, inl, inr, ⊎_elim, if◌then◌else◌, ◌==◌, ◌&&◌, ℕ, ◌+◌, ◌<◌, ◌≤◌, Bool, true, false, not, List, [], ◌∷◌, ◌++◌, Option, Some, None, IfSome, slice_get, get_or, set, length, nat_lt, Result, OnErr, OnOk, refl, sym, ◌∙◌, ap, subst, arith}
use Rattle.std.proofs.lemmas.Bool.{and_parts}
use Rattle.std.proofs.lemmas.Bool.Decides.{nat_tests}
use Rattle.std.proofs.lemmas.List.{length-set, length_push, set-get_or, set-set}
use Rattle.std.proofs.lemmas.Option.{same_Some, slice_get-get_or}
use Rattle.cs_disk.specs.declared.disk.PageDisk.{Ghosts as PageDisk}
use Rattle.cs_disk.specs.Disk.{Elapses, Image, Leaves, LeavesOnly, MayLeave, State, Write, applied, flushed, kept, page, seen, written}
use Rattle.cs_disk.proofs.Crashes.{MayLeave-settled, MayLeave-written, seen_MayLeave}
use Rattle.cs_disk.proofs.Images.{applied_push, page_other, page_same}
use Rattle.cs_disk.proofs.Moments.{IsSafe, flushes_or_not, goes_on, started}
use Rattle.cs_disk.specs.Reads.{OnlyReads}
use Rattle.cs_twin.specs.declared.findings.Filling.{Filling}
use Rattle.cs_twin.specs.declared.findings.Filling.TheVariants.{Copy, Fence}
use Rattle.cs_twin.specs.declared.findings.Finding.{Finding}
use Rattle.cs_twin.specs.declared.notes.Notes.{Notes}
use Rattle.cs_twin.specs.declared.notes.Trust.TheVariants.{Doubted}
use Rattle.cs_twin.specs.declared.pairs.Held.{Held}
use Rattle.cs_twin.specs.declared.pairs.Pair.{Pair}
use Rattle.cs_twin.specs.Fences.{IsGuarded, IsWholeOrFence}
use Rattle.cs_twin.specs.Fillings.{IsFilling, LeavesFilling, fenced_over, filled_with, filling_of}
use Rattle.cs_twin.specs.Findings.{finding_in, half_in, held_of, is_damaged, is_halved, laid_over, other_half, passed_over}
use Rattle.cs_twin.specs.Noted.{AreRight}
use Rattle.cs_twin.specs.Pairs.{ArePairs, AreNoOlder, IsNoOlder, NoneIsOlder, Versions, blank, fence, half, is_turned, left_shown, shown, shown_state, shown_write, version_at}
use Rattle.cs_twin.proofs.Fencing.{known_half}
use Rattle.cs_twin.proofs.Holding.{held_found}
use Rattle.cs_twin.proofs.Leaving.{are_on, seen_shown, shows_left}
use Rattle.cs_twin.proofs.Opening.{reads_alone}
use Rattle.cs_twin.proofs.Right.{in_doubt, none_older, pushed_at}
use Rattle.cs_twin.proofs.Roles.{shown_half-none, shown_half-whole, shown_page-own, shown_page-twin, shown_write-half}
use Rattle.cs_twin.proofs.Shown.{by_halves, keeps_turned, page-shown, shown-applied}

-- ---- which half it is

-- the page that is passed over, by which half is the newest
pub passed_is : (V : Versions) (image : Image) (x : Pair) → passed_over (finding_in V image x) ≡ (if is_halved (finding_in V image x) then Some (half x (not (is_turned V image x))) else None)
passed_is V image x = ap (λ (h : Held). if is_halved (finding_in V image x) then Some (half x (not h.turned)) else None) (held_found V image x)

-- a page that is passed over is the half that isn't the newest
pub record IsPassed (V : Versions) (image : Image) (x : Pair) (p : ℕ) : Type 0 where
  pub other : p ≡ half x (not (is_turned V image x))
  pub test : is_halved (finding_in V image x) ≡ true

pub damaged_half : (V : Versions) (image : Image) (x : Pair) (p : ℕ) → Some p ≡ passed_over (finding_in V image x) → IsPassed V image x p
damaged_half V image x p is = by_test (is_halved (finding_in V image x)) refl (is ∙ passed_is V image x)
  where
    by_test : (b : Bool) → is_halved (finding_in V image x) ≡ b → Some p ≡ (if b then Some (half x (not (is_turned V image x))) else None) → IsPassed V image x p
    by_test true test is = record { other = same_Some p (half x (not (is_turned V image x))) is; test = test }
    by_test false test is = cc

pub none_passed : (V : Versions) (image : Image) (x : Pair) → None ≡ passed_over (finding_in V image x) → is_halved (finding_in V image x) ≡ false
none_passed V image x is = by_test (is_halved (finding_in V image x)) refl (is ∙ passed_is V image x)
  where
    by_test : (b : Bool) → is_halved (finding_in V image x) ≡ b → None ≡ (if b then Some (half x (not (is_turned V image x))) else None) → is_halved (finding_in V image x) ≡ false
    by_test true test is = cc
    by_test false test is = test

-- what is laid over it
pub laid_there : (V : Versions) (image : Image) (x : Pair) (bytes : List ℕ) → is_halved (finding_in V image x) ≡ true → laid_over V image x bytes ≡ set image (half x (not (is_turned V image x))) bytes
laid_there V image x bytes test = ap (λ (b : Bool). if b then set image (half x (not (is_turned V image x))) bytes else image) test

pub laid_nowhere : (V : Versions) (image : Image) (x : Pair) (bytes : List ℕ) → is_halved (finding_in V image x) ≡ false → laid_over V image x bytes ≡ image
laid_nowhere V image x bytes test = ap (λ (b : Bool). if b then set image (half x (not (is_turned V image x))) bytes else image) test

-- the newest half is whole then
pub newest_some : (V : Versions) (image : Image) (x : Pair) → is_halved (finding_in V image x) ≡ true → 0 < version_at V image x (is_turned V image x)
newest_some V image x test =
    let positive : 0 < (held_of (finding_in V image x)).version = lt_of (held_of (finding_in V image x)).version (and_parts (nat_lt 0 (held_of (finding_in V image x)).version) (is_damaged (other_half (finding_in V image x))) test).0 in
    let version = ap (λ (h : Held). h.version) (held_found V image x) in
    omega (arith, positive, version)
  where
    lt_of : (n : ℕ) → nat_lt 0 n ≡ true → 0 < n
    lt_of n test = grind (arith, nat_tests)

-- what is said of whatever is there
pub of_some : {A : Type 0} (o : Option A) (x : A) (P : Type 0) → o ≡ Some x → IfSome o (λ _. P) → P
of_some None x P is says = cc
of_some (Some y) x P is says = says

-- a half on the device
pub half_inside : (x : Pair) (b : Bool) (n : ℕ) → x.page < n → x.twin < n → half x b < n
half_inside x true n own twin = twin
half_inside x false n own twin = own

pub passed_inside : (it : Finding) (x : Pair) (p n : ℕ) → it.pair ≡ x → x.page < n → x.twin < n → Some p ≡ passed_over it → p < n
passed_inside it x p n same own twin is = by_test (is_halved it) refl is
  where
    by_test : (b : Bool) → is_halved it ≡ b → Some p ≡ (if b then Some (half it.pair (not (held_of it).turned)) else None) → p < n
    by_test true test is =
        subst (λ q. q < n) (sym (same_Some p (half it.pair (not (held_of it).turned)) is ∙ ap (λ (y : Pair). half y (not (held_of it).turned)) same)) (half_inside x (not (held_of it).turned) n own twin)
    by_test false test is = cc

-- a pair each half of which is whole or a fence has none that is passed over
pub not_halved : (V : Versions) (image : Image) (x : Pair) → ((twin : Bool) → IsWholeOrFence V x.page (page image (half x twin))) → is_halved (finding_in V image x) ≡ false
not_halved V image x known = of_half (held_of (finding_in V image x)).turned (known_half V image x true (known true)) (known_half V image x false (known false))
  where
    none_either : (b : Bool) → (b && false) ≡ false
    none_either true = refl
    none_either false = refl

    of_half : (t : Bool) → is_damaged (half_in V image x true) ≡ false → is_damaged (half_in V image x false) ≡ false
        → (nat_lt 0 (held_of (finding_in V image x)).version && is_damaged (if t then half_in V image x false else half_in V image x true)) ≡ false
    of_half true twin own = ap (λ b. nat_lt 0 (held_of (finding_in V image x)).version && b) own ∙ none_either (nat_lt 0 (held_of (finding_in V image x)).version)
    of_half false twin own = ap (λ b. nat_lt 0 (held_of (finding_in V image x)).version && b) twin ∙ none_either (nat_lt 0 (held_of (finding_in V image x)).version)

-- and where none is, the other half of one whose newest is whole isn't damaged
pub not_passed : (V : Versions) (image : Image) (x : Pair) → 0 < version_at V image x (is_turned V image x) → is_halved (finding_in V image x) ≡ false → is_damaged (half_in V image x (not (is_turned V image x))) ≡ false
not_passed V image x some test =
    let held = held_found V image x in
    let positive : 0 < (held_of (finding_in V image x)).version = subst (λ (h : Held). 0 < h.version) (sym held) some in
    of_tests (held_of (finding_in V image x)).version (is_damaged (half_in V image x (not (is_turned V image x)))) positive
    (ap (λ b. nat_lt 0 (held_of (finding_in V image x)).version && b) (sym (ap (λ (h : Held). is_damaged (if h.turned then half_in V image x false else half_in V image x true)) held ∙ by_turned (is_turned V image x))) ∙ test)
  where
    by_turned : (t : Bool) → is_damaged (if t then half_in V image x false else half_in V image x true) ≡ is_damaged (half_in V image x (not t))
    by_turned true = refl
    by_turned false = refl

    of_tests : (n : ℕ) (b : Bool) → 0 < n → (nat_lt 0 n && b) ≡ false → b ≡ false
    of_tests n b some test = grind (arith, nat_tests)

pub none_left_over : (V : Versions) (image : Image) (x : Pair) → is_halved (finding_in V image x) ≡ false → passed_over (finding_in V image x) ≡ None
none_left_over V image x test = ap (λ (b : Bool). if b then Some (half x (not (held_of (finding_in V image x)).turned)) else None) test

-- ---- bytes that do no harm over the half that isn't the newest

-- They are a fence, or what the newest half holds while each half is whole or a fence.
abbrev pub IsHarmless : Versions → Image → Pair → List ℕ → Type 0
IsHarmless V image x bytes = ((bytes ≡ fence) × (V x.page bytes ≡ 0))
    ⊎ ((bytes ≡ page image (half x (is_turned V image x))) × (0 < V x.page bytes) × ((twin : Bool) → IsWholeOrFence V x.page (page image (half x twin))))

not_itself : (t : Bool) → t ≡ not t → ⊥
not_itself true e = cc
not_itself false e = cc

nothing_at : (s : State) (i : ℕ) (w : Write) → s.volatile ≡ [] → slice_get s.volatile i ≡ Some w → ⊥
nothing_at s i w none at = empty i (ap (λ (l : List Write). slice_get l i) (sym none) ∙ at)
  where
    empty : (i : ℕ) → slice_get {X = Write} [] i ≡ Some w → ⊥
    empty i at = cc

set_same : (image : Image) (w : Write) (q : ℕ) (bytes : List ℕ) → w ≡ (q, bytes) → page image q ≡ bytes → set image w.0 w.1 ≡ image
set_same image w q bytes is there = ap (λ (v : Write). set image v.0 v.1) is ∙ ap (λ (l : List ℕ). set image q l) (sym there) ∙ set-get_or image q []

module _ (V : Versions) (pairs : List Pair) (s : State) (k p : ℕ) (x : Pair) (bytes : List ℕ) (are : ArePairs pairs (length s.durable)) (at : slice_get pairs k ≡ Some x) (none : s.volatile ≡ [])
    (goes : p ≡ half x (not (is_turned V s.durable x))) (harmless : IsHarmless V s.durable x bytes) where
  same_pair : (j : ℕ) (z : Pair) (twin : Bool) → slice_get pairs j ≡ Some z → p ≡ half z twin → (x ≡ z) × (not (is_turned V s.durable x) ≡ twin)
  same_pair j z twin at_j here =
      let both = are.apart k j x z (not (is_turned V s.durable x)) twin at at_j (sym goes ∙ here) in
      (same_Some x z (sym at ∙ ap (slice_get pairs) both.0 ∙ at_j), both.1)

  no_older_here : IsNoOlder V s.durable x (p, bytes)
  no_older_here twin here = ((λ e. not_itself (is_turned V s.durable x) (sym e ∙ sym (same_pair k x twin at here).1)), whole harmless, hollow harmless)
    where
      whole : IsHarmless V s.durable x bytes → 0 < V x.page bytes
          → (version_at V s.durable x (is_turned V s.durable x) ≤ V x.page bytes) × (V x.page bytes ≡ version_at V s.durable x (is_turned V s.durable x) → bytes ≡ page s.durable (half x (is_turned V s.durable x)))
      whole (inl fenced) some = absurd (let is = fenced.1 in omega (arith, is, some))
      whole (inr copy) some = let version = ap (V x.page) copy.0 in (omega (arith, version), λ e. copy.0)

      hollow : IsHarmless V s.durable x bytes → V x.page bytes ≡ 0 → bytes ≡ fence
      hollow (inl fenced) is = fenced.0
      hollow (inr copy) is = absurd (let some = copy.1 in omega (arith, is, some))

  -- its write is no older
  pub anew_no_older : AreNoOlder V pairs (written s p bytes)
  anew_no_older = record {
    each = λ j i z w at_j at_i. ⊎_elim
        (λ (old : slice_get s.volatile i ≡ Some w). absurd (nothing_at s i w none old))
        (λ (new : (p, bytes) ≡ w) twin here.
        subst (λ (v : Write). IsNoOlder V s.durable z v) new (λ b there. subst (λ (y : Pair). IsNoOlder V s.durable y (p, bytes)) (same_pair j z b at_j there).0 no_older_here b there) twin here)
        (pushed_at s.volatile (p, bytes) i w at_i);
    alike = λ j i l z v w b c at_j at_i at_l there here hidden. ⊎_elim
        (λ (old : slice_get s.volatile i ≡ Some v). absurd (nothing_at s i v none old))
        (λ (new_v : (p, bytes) ≡ v). ⊎_elim
        (λ (old : slice_get s.volatile l ≡ Some w). absurd (nothing_at s l w none old))
        (λ (new_w : (p, bytes) ≡ w). subst (λ (u : Write). V z.page u.1 ≡ 0) (sym new_v ∙ new_w) hidden)
        (pushed_at s.volatile (p, bytes) l w at_l))
        (pushed_at s.volatile (p, bytes) i v at_i);
  }

  one_no_older : NoneIsOlder V pairs s.durable ((p, bytes) ∷ [])
  one_no_older = subst (λ (l : List Write). NoneIsOlder V pairs s.durable (l ++ (p, bytes) ∷ [])) none anew_no_older

  -- a whole page waits over halves that are known
  pub anew_guarded : IsGuarded V pairs (written s p bytes)
  anew_guarded j i z w twin other at_j at_i here some = ⊎_elim
      (λ (old : slice_get s.volatile i ≡ Some w). absurd (nothing_at s i w none old))
      (λ (new : (p, bytes) ≡ w).
      let same = (same_pair j z twin at_j (ap (λ (v : Write). v.0) new ∙ here)).0 in
      subst (λ (y : Pair). IsWholeOrFence V y.page (page s.durable (half y other))) same
      (known harmless (subst (λ (y : Pair). 0 < V y.page bytes) (sym same) (subst (λ (l : List ℕ). 0 < V z.page l) (ap (λ (v : Write). v.1) (sym new)) some))))
      (pushed_at s.volatile (p, bytes) i w at_i)
    where
      known : IsHarmless V s.durable x bytes → 0 < V x.page bytes → IsWholeOrFence V x.page (page s.durable (half x other))
      known (inl fenced) some = absurd (let is = fenced.1 in omega (arith, is, some))
      known (inr copy) some = copy.2 other

  seen_before : seen s ≡ s.durable
  seen_before = ap (applied s.durable) none

  pub seen_after : seen (written s p bytes) ≡ set s.durable p bytes
  seen_after = applied_push s.durable s.volatile (p, bytes) ∙ ap (λ (image : Image). set image p bytes) seen_before

  -- what shows is the same
  pub anew_shows : shown V pairs (set s.durable p bytes) ≡ shown V pairs s.durable
  anew_shows = shown-applied V pairs s.durable ((p, bytes) ∷ []) are one_no_older ∙ by_bytes harmless
    where
      write : shown_write V pairs (p, bytes) ≡ (if V x.page bytes == 0 then (x.twin, blank) else (x.page, bytes))
      write = shown_write-half V pairs (length s.durable) are k x (not (is_turned V s.durable x)) (p, bytes) at goes

      by_bytes : IsHarmless V s.durable x bytes → set (shown V pairs s.durable) (shown_write V pairs (p, bytes)).0 (shown_write V pairs (p, bytes)).1 ≡ shown V pairs s.durable
      by_bytes (inl fenced) =
          set_same (shown V pairs s.durable) (shown_write V pairs (p, bytes)) x.twin blank (write ∙ shown_half-none V x bytes fenced.1)
          (page-shown V pairs s.durable x.twin (are.inside k x true at) ∙ shown_page-twin V s.durable pairs (length s.durable) are k x at)
      by_bytes (inr copy) =
          set_same (shown V pairs s.durable) (shown_write V pairs (p, bytes)) x.page bytes (write ∙ shown_half-whole V x bytes copy.1)
          (page-shown V pairs s.durable x.page (are.inside k x false at) ∙ shown_page-own V s.durable pairs (length s.durable) are k x at ∙ sym copy.0)

  pub left_shows : (c : Image) → MayLeave (written s p bytes) c → shown V pairs c ≡ shown V pairs s.durable
  left_shows c left =
      let from = MayLeave-written s p bytes c left in
      let old = MayLeave-settled s from.0 none from.1 in
      ⊎_elim (λ (same : c ≡ from.0). ap (shown V pairs) (same ∙ old)) (λ (new : c ≡ set from.0 p bytes). ap (shown V pairs) (new ∙ ap (λ (image : Image). set image p bytes) old) ∙ anew_shows) from.2

  pub written_shows : (now : State) → now ≡ written s p bytes → shown V pairs (seen now) ≡ shown V pairs s.durable
  written_shows now new = ap (λ (z : State). shown V pairs (seen z)) new ∙ ap (shown V pairs) seen_after ∙ anew_shows

  pub flushed_is : (now : State) → now ≡ flushed (written s p bytes) → now ≡ record { durable = set s.durable p bytes; volatile = [] }
  flushed_is now new = new ∙ ap (λ (image : Image). record { durable = image; volatile = [] }) seen_after

  -- where it isn't known whether it is there
  pub anew_doubted : (new : Notes) (now : State) → now ≡ written s p bytes → new.trust ≡ Doubted → AreRight V pairs new now
  anew_doubted new now is trust =
      in_doubt V pairs new now trust (subst (λ (z : State). AreNoOlder V pairs z) (sym is) anew_no_older) (subst (λ (z : State). IsGuarded V pairs z) (sym is) anew_guarded)

-- ---- what a crash meanwhile may leave

module _ {D : Type 0} (moment : D → ℕ) (left_since : D → ℕ → Image → Type 0) where
  pub leaves_more : (old new : D) (P Q : Image → Type 0) → ((c : Image) → P c → Q c) → LeavesOnly moment left_since old new P → LeavesOnly moment left_since old new Q
  leaves_more old new P Q is only = record {
    later = only.later;
    each = λ c left. is c (only.each c left);
    before = λ t c le left. ⊎_elim (λ (was : left_since old t c). inl was) (λ (has : P c). inr (is c has)) (only.before t c le left);
  }

  -- two parts of it
  pub leaves_then : (old mid new : D) (P : Image → Type 0) → LeavesOnly moment left_since old mid P → LeavesOnly moment left_since mid new P → LeavesOnly moment left_since old new P
  leaves_then old mid new P first more = record {
    later = omega (arith, first.later, more.later);
    each = λ c left. ⊎_elim (λ (was : left_since mid (moment old) c). first.each c was) (λ (has : P c). has) (more.before (moment old) c first.later left);
    before = λ t c le left. ⊎_elim (λ (was : left_since mid t c). first.before t c le was) (λ (has : P c). inr has) (more.before t c (omega (arith, le, first.later)) left);
  }

-- reads, and then what leaves no more than this
pub reads_then : {D : Type 0} (disks : PageDisk D) (old mid new : D) (P : Image → Type 0) → disks.honest old → OnlyReads disks old mid → ((c : Image) → disks.left_since old (disks.moment old) c → MayLeave (disks.state old) c)
    → ((c : Image) → MayLeave (disks.state old) c → P c) → LeavesOnly disks.moment disks.left_since mid new P → LeavesOnly disks.moment disks.left_since old new P
reads_then disks old mid new P h reads only_now is more =
    leaves_then disks.moment disks.left_since old mid new P (leaves_more disks.moment disks.left_since old mid (MayLeave (disks.state old)) P is (reads_alone disks old mid h reads only_now)) more

-- what a crash before a write may leave it may leave after it
kept_less : (mask : List Bool) (writes : List Write) (w : Write) → length mask ≡ length writes → kept (mask ++ false ∷ []) (writes ++ w ∷ []) ≡ kept mask writes
kept_less [] [] w same = refl
kept_less [] (x ∷ writes) w same = absurd (omega arith)
kept_less (b ∷ mask) [] w same = absurd (omega arith)
kept_less (true ∷ mask) (x ∷ writes) w same = ap (λ (l : List Write). x ∷ l) (kept_less mask writes w (omega arith))
kept_less (false ∷ mask) (x ∷ writes) w same = kept_less mask writes w (omega arith)

pub left_still : (s : State) (p : ℕ) (bytes : List ℕ) (c : Image) → MayLeave s c → MayLeave (written s p bytes) c
left_still s p bytes c left = (
  left.0 ++ false ∷ [],
  length_push left.0 false ∙ ap (λ n. n + 1) left.1 ∙ sym (length_push s.volatile (p, bytes)),
  left.2 ∙ ap (applied s.durable) (sym (kept_less left.0 s.volatile (p, bytes) left.1)),
)

module _ {D : Type 0} (state : D → State) (moment : D → ℕ) (left_since : D → ℕ → Image → Type 0) where
  -- a write, whatever it answers
  pub write_leaves : (old new : D) (p : ℕ) (bytes : List ℕ) → ((c : Image) → left_since old (moment old) c → MayLeave (state old) c) → Elapses (moment old) (moment new) (left_since old) (left_since new) (state new)
      → (state new ≡ state old) ⊎ (state new ≡ written (state old) p bytes) → IsSafe state moment left_since old new (MayLeave (written (state old) p bytes))
  write_leaves old new p bytes only_now time either =
      goes_on state moment left_since old old new (MayLeave (written (state old) p bytes))
      (started state moment left_since old (MayLeave (written (state old) p bytes)) (left_still (state old) p bytes) only_now) time (here either)
    where
      here : (state new ≡ state old) ⊎ (state new ≡ written (state old) p bytes) → Leaves (state new) (MayLeave (written (state old) p bytes))
      here (inl same) = subst (λ (s : State). Leaves s (MayLeave (written (state old) p bytes))) (sym same) (left_still (state old) p bytes)
      here (inr is) = subst (λ (s : State). Leaves s (MayLeave (written (state old) p bytes))) (sym is) (λ c left. left)

-- ---- of a pair at a place, on a disk that was read

module _ (V : Versions) (hollow : (q : ℕ) → V q fence ≡ 0) (pairs : List Pair) (s : State) (k p : ℕ) (x : Pair) (bytes : List ℕ) (are : ArePairs pairs (length s.durable)) (at : slice_get pairs k ≡ Some x)
    (none : s.volatile ≡ []) (passed : IsPassed V s.durable x p) (is : bytes ≡ page s.durable (half x (is_turned V s.durable x))) where
  t : Bool
  t = is_turned V s.durable x

  some : 0 < V x.page bytes
  some = let newest = newest_some V s.durable x passed.test in let version = ap (V x.page) is in omega (arith, newest, version)

  -- first a fence
  fence_first : IsHarmless V s.durable x fence
  fence_first = inl (refl, hollow x.page)

  -- which is durable then
  abbrev middle : State
  middle = record { durable = set s.durable p fence; volatile = [] }

  middle_is : fenced_over s p ≡ middle
  middle_is = flushed_is V pairs s k p x fence are at none passed.other fence_first (fenced_over s p) refl

  inside : p < length s.durable
  inside = subst (λ q. q < length s.durable) (sym passed.other) (are.inside k x (not (is_turned V s.durable x)) at)

  fence_there : page (set s.durable p fence) p ≡ fence
  fence_there = page_same s.durable p fence inside

  apart : half x (is_turned V s.durable x) ≡ p → ⊥
  apart e = not_itself (is_turned V s.durable x) (are.apart k k x x (is_turned V s.durable x) (not (is_turned V s.durable x)) at at (e ∙ passed.other)).1

  newest_there : page (set s.durable p fence) (half x (is_turned V s.durable x)) ≡ page s.durable (half x (is_turned V s.durable x))
  newest_there = page_other s.durable p (half x (is_turned V s.durable x)) fence apart

  turned_there : is_turned V (set s.durable p fence) x ≡ is_turned V s.durable x
  turned_there =
      keeps_turned V s.durable (set s.durable p fence) x (is_turned V s.durable x) refl newest_there
      (ap (λ q. V x.page (page (set s.durable p fence) q)) (sym passed.other) ∙ ap (V x.page) fence_there ∙ hollow x.page)

  are_middle : ArePairs pairs (length (set s.durable p fence))
  are_middle = subst (λ n. ArePairs pairs n) (sym (length-set s.durable p fence)) are

  goes_middle : p ≡ half x (not (is_turned V (set s.durable p fence) x))
  goes_middle = passed.other ∙ ap (λ b. half x (not b)) (sym turned_there)

  known_middle : (twin : Bool) → IsWholeOrFence V x.page (page (set s.durable p fence) (half x twin))
  known_middle = by_halves (is_turned V s.durable x) (λ b. IsWholeOrFence V x.page (page (set s.durable p fence) (half x b)))
      (λ hidden. absurd (let version = ap (V x.page) (newest_there ∙ sym is) in let positive = some in omega (arith, version, hidden, positive)))
      (λ hidden. ap (page (set s.durable p fence)) (sym passed.other) ∙ fence_there)

  -- and then a copy
  copy_then : IsHarmless V (set s.durable p fence) x bytes
  copy_then = inr (is ∙ sym newest_there ∙ ap (λ b. page (set s.durable p fence) (half x b)) (sym turned_there), some, known_middle)

  middle_shows : shown V pairs (set s.durable p fence) ≡ shown V pairs s.durable
  middle_shows = anew_shows V pairs s k p x fence are at none passed.other fence_first

  copied_is : (now : State) → now ≡ flushed (written (fenced_over s p) p bytes) → now ≡ record { durable = set s.durable p bytes; volatile = [] }
  copied_is now new =
      flushed_is V pairs middle k p x bytes are_middle at refl goes_middle copy_then now (new ∙ ap (λ (z : State). flushed (written z p bytes)) middle_is)
      ∙ ap (λ (image : Image). record { durable = image; volatile = [] }) (set-set s.durable p fence bytes)

  pub filled_is : (filling : Filling) (now : State) → now ≡ filled_with filling s p bytes → now ≡ record { durable = laid_over V s.durable x (filling_of V filling s.durable x); volatile = [] }
  filled_is Fence now new =
      new ∙ middle_is ∙ ap (λ (image : Image). record { durable = image; volatile = [] }) (ap (λ q. set s.durable q fence) passed.other ∙ sym (laid_there V s.durable x fence passed.test))
  filled_is Copy now new =
      copied_is now new ∙ ap (λ (image : Image). record { durable = image; volatile = [] })
      (ap (λ q. set s.durable q bytes) passed.other ∙ ap (λ (l : List ℕ). set s.durable (half x (not (is_turned V s.durable x))) l) is
      ∙ sym (laid_there V s.durable x (page s.durable (half x (is_turned V s.durable x))) passed.test))

  pub filled_shows : (filling : Filling) (now : State) → now ≡ filled_with filling s p bytes → shown V pairs (seen now) ≡ shown V pairs s.durable
  filled_shows Fence now new = ap (λ (z : State). shown V pairs (seen z)) (new ∙ middle_is) ∙ middle_shows
  filled_shows Copy now new =
      ap (λ (z : State). shown V pairs (seen z)) (new ∙ ap (λ (z : State). flushed (written z p bytes)) middle_is)
      ∙ written_shows V pairs middle k p x bytes are_middle at refl goes_middle copy_then (written middle p bytes) refl ∙ middle_shows

  still_shows : (now : State) → now ≡ s → shown V pairs (seen now) ≡ shown V pairs s.durable
  still_shows now same = ap (λ (z : State). shown V pairs (seen z)) same ∙ ap (λ (l : List Write). shown V pairs (applied s.durable l)) none

  pub filling_shows : (filling : Filling) (now : State) → IsFilling filling s now p bytes → shown V pairs (seen now) ≡ shown V pairs s.durable
  filling_shows Fence now (inl same) = still_shows now same
  filling_shows Fence now (inr new) = written_shows V pairs s k p x fence are at none passed.other fence_first now new
  filling_shows Copy now (inl (inl same)) = still_shows now same
  filling_shows Copy now (inl (inr new)) = written_shows V pairs s k p x fence are at none passed.other fence_first now new
  filling_shows Copy now (inr (inl done)) = ap (λ (z : State). shown V pairs (seen z)) (done ∙ middle_is) ∙ middle_shows
  filling_shows Copy now (inr (inr new)) =
      written_shows V pairs middle k p x bytes are_middle at refl goes_middle copy_then now (new ∙ ap (λ (z : State). written z p bytes) middle_is) ∙ middle_shows

  -- where it isn't known what is there
  none_waits : (new : Notes) (now z : State) → now ≡ z → z.volatile ≡ [] → new.trust ≡ Doubted → AreRight V pairs new now
  none_waits new now z same settled trust = in_doubt V pairs new now trust
      (none_older V pairs now nothing) (λ j i y w twin other at_j at_i goes some. absurd (nothing j i y w twin at_j at_i goes))
    where
      nothing : (j i : ℕ) (y : Pair) (w : Write) (twin : Bool) → slice_get pairs j ≡ Some y → slice_get now.volatile i ≡ Some w → w.0 ≡ half y twin → ⊥
      nothing j i y w twin at_j at_i goes = nothing_at now i w (ap (λ (u : State). u.volatile) same ∙ settled) at_i

  pub filling_right : (filling : Filling) (new : Notes) (now : State) → IsFilling filling s now p bytes → new.trust ≡ Doubted → AreRight V pairs new now
  filling_right Fence new now (inl same) trust = none_waits new now s same none trust
  filling_right Fence new now (inr is_new) trust = anew_doubted V pairs s k p x fence are at none passed.other fence_first new now is_new trust
  filling_right Copy new now (inl (inl same)) trust = none_waits new now s same none trust
  filling_right Copy new now (inl (inr is_new)) trust = anew_doubted V pairs s k p x fence are at none passed.other fence_first new now is_new trust
  filling_right Copy new now (inr (inl done)) trust = none_waits new now middle (done ∙ middle_is) refl trust
  filling_right Copy new now (inr (inr is_new)) trust =
      anew_doubted V pairs middle k p x bytes are_middle at refl goes_middle copy_then new now (is_new ∙ ap (λ (z : State). written z p bytes) middle_is) trust

  -- what a crash meanwhile leaves shows the same
  pub filling_left : (filling : Filling) (c : Image) → LeavesFilling filling s p bytes c → shown V pairs c ≡ shown V pairs s.durable
  filling_left Fence c left = left_shows V pairs s k p x fence are at none passed.other fence_first c left
  filling_left Copy c (inl left) = left_shows V pairs s k p x fence are at none passed.other fence_first c left
  filling_left Copy c (inr left) =
      left_shows V pairs middle k p x bytes are_middle at refl goes_middle copy_then c (subst (λ (z : State). MayLeave (written z p bytes) c) middle_is left) ∙ middle_shows

  -- the writes, for what is kept by them
  pub fence_newer : AreNoOlder V pairs (written s p fence)
  fence_newer = anew_no_older V pairs s k p x fence are at none passed.other fence_first

  pub copy_newer : AreNoOlder V pairs (written (fenced_over s p) p bytes)
  copy_newer = subst (λ (z : State). AreNoOlder V pairs (written z p bytes)) (sym middle_is) (anew_no_older V pairs middle k p x bytes are_middle at refl goes_middle copy_then)

-- of one at a place
module _ (V : Versions) (hollow : (q : ℕ) → V q fence ≡ 0) (filling : Filling) (pairs : List Pair) (s mid : State) (n k p : ℕ) (d : Pair) (bytes : List ℕ) (are : ArePairs pairs n) (sized : length s.durable ≡ n) (inside : k < length pairs)
    (same : mid ≡ s) (none : s.volatile ≡ []) (damaged : Some p ≡ passed_over (finding_in V (seen s) (get_or pairs k d))) (is : bytes ≡ page (seen s) (half (get_or pairs k d) (is_turned V (seen s) (get_or pairs k d)))) where
  pub at_place : slice_get pairs k ≡ Some (get_or pairs k d)
  at_place = slice_get-get_or pairs k d inside

  pub sized_pairs : ArePairs pairs (length s.durable)
  sized_pairs = subst (λ m. ArePairs pairs m) (sym sized) are

  durable_seen : seen s ≡ s.durable
  durable_seen = ap (applied s.durable) none

  pub passed_there : IsPassed V s.durable (get_or pairs k d) p
  passed_there = damaged_half V s.durable (get_or pairs k d) p (damaged ∙ ap (λ (image : Image). passed_over (finding_in V image (get_or pairs k d))) durable_seen)

  pub bytes_there : bytes ≡ page s.durable (half (get_or pairs k d) (is_turned V s.durable (get_or pairs k d)))
  bytes_there = is ∙ ap (λ (image : Image). page image (half (get_or pairs k d) (is_turned V image (get_or pairs k d)))) durable_seen

  pub filled_there : (now : State) → now ≡ filled_with filling mid p bytes → (x : Pair) → slice_get pairs k ≡ Some x → now ≡ record { durable = laid_over V s.durable x (filling_of V filling s.durable x); volatile = [] }
  filled_there now new x at_x =
      filled_is V hollow pairs s k p (get_or pairs k d) bytes sized_pairs at_place none passed_there bytes_there filling now (new ∙ ap (λ (z : State). filled_with filling z p bytes) same)
      ∙ ap (λ (y : Pair). record { durable = laid_over V s.durable y (filling_of V filling s.durable y); volatile = [] }) (same_Some (get_or pairs k d) x (sym at_place ∙ at_x))

  pub shown_there : (now : State) → now ≡ filled_with filling mid p bytes → shown V pairs (seen now) ≡ shown V pairs s.durable
  shown_there now new =
      filled_shows V hollow pairs s k p (get_or pairs k d) bytes sized_pairs at_place none passed_there bytes_there filling now (new ∙ ap (λ (z : State). filled_with filling z p bytes) same)

  pub filling_here : (now : State) → IsFilling filling mid now p bytes → IsFilling filling s now p bytes
  filling_here now is_on = subst (λ (z : State). IsFilling filling z now p bytes) same is_on

  pub shown_either : (now : State) → IsFilling filling mid now p bytes → shown V pairs (seen now) ≡ shown V pairs s.durable
  shown_either now is_on = filling_shows V hollow pairs s k p (get_or pairs k d) bytes sized_pairs at_place none passed_there bytes_there filling now (filling_here now is_on)

  pub doubted_there : (new : Notes) (now : State) → IsFilling filling mid now p bytes → new.trust ≡ Doubted → AreRight V pairs new now
  doubted_there new now is_on trust = filling_right V hollow pairs s k p (get_or pairs k d) bytes sized_pairs at_place none passed_there bytes_there filling new now (filling_here now is_on) trust

  -- what a crash meanwhile leaves shows the same
  pub leaves_there : {D : Type 0} (disks : PageDisk D) (old read new : D) → disks.honest old → disks.state old ≡ s → disks.state read ≡ mid → OnlyReads disks old read
      → ((c : Image) → disks.left_since old (disks.moment old) c → MayLeave (disks.state old) c) → LeavesOnly disks.moment disks.left_since read new (LeavesFilling filling (disks.state read) p bytes)
      → LeavesOnly disks.moment disks.left_since old new (λ c. shown V pairs c ≡ shown V pairs s.durable)
  leaves_there disks old read new h is_s is_mid reads only_now more =
      reads_then disks old read new (λ c. shown V pairs c ≡ shown V pairs s.durable) h reads only_now
      (λ c left. ap (shown V pairs) (MayLeave-settled s c none (subst (λ (z : State). MayLeave z c) is_s left)))
      (leaves_more disks.moment disks.left_since read new (LeavesFilling filling (disks.state read) p bytes) (λ c. shown V pairs c ≡ shown V pairs s.durable)
      (λ c left. filling_left V hollow pairs s k p (get_or pairs k d) bytes sized_pairs at_place none passed_there bytes_there filling c (subst (λ (z : State). LeavesFilling filling z p bytes c) (is_mid ∙ same) left)) more)

module _ (V : Versions) (filling : Filling) (pairs : List Pair) (s now : State) (k : ℕ) (d : Pair) (inside : k < length pairs) (same : now ≡ s) (none : s.volatile ≡ []) (whole : None ≡ passed_over (finding_in V (seen s) (get_or pairs k d))) where
  pub stays_there : (x : Pair) → slice_get pairs k ≡ Some x → now ≡ record { durable = laid_over V s.durable x (filling_of V filling s.durable x); volatile = [] }
  stays_there x at_x =
      let is = same_Some (get_or pairs k d) x (sym (slice_get-get_or pairs k d inside) ∙ at_x) in
      let none_there : None ≡ passed_over (finding_in V s.durable x) =
      whole ∙ ap (λ (l : List Write). passed_over (finding_in V (applied s.durable l) (get_or pairs k d))) none ∙ ap (λ (y : Pair). passed_over (finding_in V s.durable y)) is in
      same ∙ ap (λ (l : List Write). record { durable = s.durable; volatile = l }) none
      ∙ ap (λ (image : Image). record { durable = image; volatile = [] }) (sym (laid_nowhere V s.durable x (filling_of V filling s.durable x) (none_passed V s.durable x none_there)))

-- ---- behind a flush

module _ (V : Versions) (pairs : List Pair) (n : ℕ) (s : State) (are : ArePairs pairs n) (sized : length s.durable ≡ n) (newer : AreNoOlder V pairs s) where
  -- what shows stays
  pub repair_shows : (mid now : State) → mid ≡ flushed s → length now.durable ≡ n → AreNoOlder V pairs now → shown V pairs (seen now) ≡ shown V pairs mid.durable → seen (shown_state V pairs now) ≡ seen (shown_state V pairs s)
  repair_shows mid now flush size newer_now same =
      seen_shown V pairs now (are_on pairs n now.durable are size) newer_now ∙ same ∙ ap (λ (z : State). shown V pairs z.durable) flush ∙ sym (seen_shown V pairs s (are_on pairs n s.durable are sized) newer)

  -- and what is left while it is flushed
  pub flush_shown : {D T E : Type 0} (disks : PageDisk D) (result : Result T E) (old new : D) → disks.state old ≡ s → ((c : Image) → disks.left_since old (disks.moment old) c → MayLeave (disks.state old) c)
      → Elapses (disks.moment old) (disks.moment new) (disks.left_since old) (disks.left_since new) (disks.state new) → OnOk result (disks.state new ≡ flushed (disks.state old)) → OnErr result (disks.state new ≡ disks.state old)
      → LeavesOnly disks.moment disks.left_since old new (λ c. MayLeave (shown_state V pairs s) (shown V pairs c))
  flush_shown disks result old new is only_now time ok err =
      (flushes_or_not disks.state disks.moment disks.left_since result old old new (λ c. MayLeave (shown_state V pairs s) (shown V pairs c))
      (started disks.state disks.moment disks.left_since old (λ c. MayLeave (shown_state V pairs s) (shown V pairs c))
      (λ c left. shows_left V pairs s (are_on pairs n s.durable are sized) newer c (subst (λ (z : State). MayLeave z c) is left)) only_now) time ok err).any_moment

  -- what shows as the disk does is left by a crash before
  shows_seen : (c : Image) → shown V pairs c ≡ shown V pairs (seen s) → MayLeave (shown_state V pairs s) (shown V pairs c)
  shows_seen c same = subst (λ (image : Image). MayLeave (shown_state V pairs s) image) (seen_shown V pairs s (are_on pairs n s.durable are sized) newer ∙ sym same) (seen_MayLeave (shown_state V pairs s))

  pub repair_leaves : {D : Type 0} (disks : PageDisk D) (old mid new : D) → disks.state mid ≡ flushed s → LeavesOnly disks.moment disks.left_since old mid (λ c. MayLeave (shown_state V pairs s) (shown V pairs c))
      → LeavesOnly disks.moment disks.left_since mid new (λ c. shown V pairs c ≡ shown V pairs (disks.state mid).durable)
      → LeavesOnly disks.moment disks.left_since old new (λ c. MayLeave (shown_state V pairs s) (shown V pairs c))
  repair_leaves disks old mid new flush first more =
      leaves_then disks.moment disks.left_since old mid new (λ c. MayLeave (shown_state V pairs s) (shown V pairs c)) first
      (leaves_more disks.moment disks.left_since mid new (λ c. shown V pairs c ≡ shown V pairs (disks.state mid).durable) (λ c. MayLeave (shown_state V pairs s) (shown V pairs c))
      (λ c same. shows_seen c (same ∙ ap (λ (z : State). shown V pairs z.durable) flush)) more)

-- of the disk as it shows
pub leaves_as_shown : {D : Type 0} (disks : PageDisk D) (V : Versions) (pairs : List Pair) (old new : D) (P : Image → Type 0) → LeavesOnly disks.moment disks.left_since old new (λ c. P (shown V pairs c))
    → LeavesOnly disks.moment (λ d. left_shown V pairs (disks.left_since d)) old new P
leaves_as_shown disks V pairs old new P only = record {
  later = only.later;
  each = λ c left. subst P (sym left.2) (only.each left.0 left.1);
  before = λ t c le left. ⊎_elim (λ (was : disks.left_since old t left.0). inl (left.0, was, left.2)) (λ (has : P (shown V pairs left.0)). inr (subst P (sym left.2) has)) (only.before t left.0 le left.1);
}
