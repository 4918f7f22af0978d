-- Of each pair the half that is passed over is filled, pair by pair.
use Rattle.std.proofs.Common.{◌≡◌, ◌≢◌, ◌⊎◌, inl, inr, if◌then◌else◌, ℕ, zero, suc, ◌+◌, ◌<◌, ◌≤◌, Bool, true, false, not, List, [], ◌∷◌, Some, None, All, slice_get, get_or, set, length, Result, Ok, Err, IsErrOf, OnOk, refl, sym, ◌∙◌, ap, subst, arith}
use Rattle.std.specs.List.{AllByRecursion}
use Rattle.std.proofs.lemmas.Bool.{cases_eq}
use Rattle.std.proofs.lemmas.List.{length-set}
use Rattle.std.proofs.lemmas.Option.{same_Some, slice_get-get_or, slice_get_within}
use Rattle.cs_disk.specs.declared.disk.PageDisk.{Ghosts as PageDisk}
use Rattle.cs_disk.specs.declared.fault.DiskFault.{DiskFault}
use Rattle.cs_disk.specs.declared.fault.DiskFault.TheVariants.{DeviceFault}
use Rattle.cs_disk.specs.Disk.{HasCause, Image, LeavesOnly, MayLeave, State, applied, page, seen}
use Rattle.cs_disk.proofs.Crashes.{MayLeave-settled}
use Rattle.cs_disk.proofs.Images.{page_other, page_same}
use Rattle.cs_disk.proofs.Moments.{started}
use Rattle.cs_twin.specs.declared.findings.Finding.{Finding}
use Rattle.cs_twin.specs.declared.pairs.Pair.{Pair}
use Rattle.cs_twin.specs.declared.findings.Filling.{Filling}
use Rattle.cs_twin.specs.declared.findings.Filling.TheVariants.{Copy, Fence}
use Rattle.cs_twin.specs.declared.pairs.Held.{Held}
use Rattle.cs_twin.specs.Fences.{AreFenced, IsWholeOrFence}
use Rattle.cs_twin.specs.Fillings.{filling_of}
use Rattle.cs_twin.specs.Findings.{AreLaidOver, finding_in, half_with, is_halved, laid_over, passed_over}
use Rattle.cs_twin.specs.Pairs.{ArePairs, Versions, fence, half, held_in, is_turned, shown, version_at}
use Rattle.cs_twin.proofs.Fencing.{half_known}
use Rattle.cs_twin.proofs.Leaving.{are_on}
use Rattle.cs_twin.proofs.Mending.{damaged_half, laid_nowhere, laid_there, leaves_more, leaves_then, newest_some, none_left_over, none_passed, not_halved, not_passed, passed_is}
use Rattle.cs_twin.proofs.Shown.{by_halves, held_same, keeps_turned}

-- what is so of each of a list
each_listed : {A : Type 0} (P : A → Type 0) (xs : List A) → ((k : ℕ) (x : A) → slice_get xs k ≡ Some x → P x) → AllByRecursion P xs
each_listed P [] is = tt
each_listed P (x ∷ xs) is = (is 0 x refl, each_listed P xs (λ k y at. is (suc k) y at))

one_listed : {A : Type 0} (P : A → Type 0) (xs : List A) (k : ℕ) (x : A) → AllByRecursion P xs → slice_get xs k ≡ Some x → P x
one_listed P [] k x all at = cc
one_listed P (y ∷ xs) zero x all at = subst P (same_Some y x at) all.0
one_listed P (y ∷ xs) (suc k) x all at = one_listed P xs k x all.1 at

-- ---- one pair

module _ (V : Versions) (image : Image) (x : Pair) (bytes : List ℕ) where
  -- the page that is passed over is one of its halves
  passed_half : (p : ℕ) → passed_over (finding_in V image x) ≡ Some p → p ≡ half x (not (is_turned V image x))
  passed_half p is = (damaged_half V image x p (sym is)).other

  laid_here : (p : ℕ) → p < length image → passed_over (finding_in V image x) ≡ Some p → page (laid_over V image x bytes) p ≡ bytes
  laid_here p lt is =
      let passed = damaged_half V image x p (sym is) in
      ap (λ (i : Image). page i p) (laid_there V image x bytes passed.test) ∙ ap (λ q. page (set image q bytes) p) (sym passed.other) ∙ page_same image p bytes lt

  laid_other : (p : ℕ) → passed_over (finding_in V image x) ≢ Some p → page (laid_over V image x bytes) p ≡ page image p
  laid_other p other = by_test (is_halved (finding_in V image x)) refl
    where
      q : ℕ
      q = half x (not (is_turned V image x))

      by_test : (b : Bool) → is_halved (finding_in V image x) ≡ b → page (laid_over V image x bytes) p ≡ page image p
      by_test false test = ap (λ (i : Image). page i p) (laid_nowhere V image x bytes test)
      by_test true test =
          ap (λ (i : Image). page i p) (laid_there V image x bytes test)
          ∙ page_other image q p bytes (λ e. other (passed_is V image x ∙ ap (λ (b : Bool). if b then Some q else None) test ∙ ap (λ n. Some n) (sym e)))

  length-laid : length (laid_over V image x bytes) ≡ length image
  length-laid = by_test (is_halved (finding_in V image x))
    where
      by_test : (b : Bool) → length (if b then set image (half x (not (is_turned V image x))) bytes else image) ≡ length image
      by_test false = refl
      by_test true = length-set image (half x (not (is_turned V image x))) bytes

-- what a pair holds is what its halves hold
found_alike : (V : Versions) (a b : Image) (x : Pair) → ((twin : Bool) → page a (half x twin) ≡ page b (half x twin)) → finding_in V a x ≡ finding_in V b x
found_alike V a b x same =
    let of : List ℕ → List ℕ → Finding = λ own twin. record { pair = x; own = half_with (V x.page own) own; twin = half_with (V x.page twin) twin } in
    ap (λ (own : List ℕ). of own (page a x.twin)) (same false) ∙ ap (λ (twin : List ℕ). of (page b x.page) twin) (same true)

-- one half or the other is the newest
at_either : (t u : Bool) (f : Bool → ℕ) (v : ℕ) → f t ≡ v → f (not t) ≡ v → f u ≡ v
at_either t u f v here other = by_halves t (λ b. f b ≡ v) here other u

module _ (V : Versions) (hollow : (q : ℕ) → V q fence ≡ 0) (filling : Filling) where
  abbrev bytes_for : Image → Pair → List ℕ
  bytes_for image x = filling_of V filling image x

  -- what it is filled with depends on its halves alone
  bytes_alike : (a b : Image) (x : Pair) → ((twin : Bool) → page a (half x twin) ≡ page b (half x twin)) → filling_of V filling a x ≡ filling_of V filling b x
  bytes_alike a b x same = by_filling filling
    where
      by_filling : (f : Filling) → filling_of V f a x ≡ filling_of V f b x
      by_filling Fence = refl
      by_filling Copy = same (is_turned V a x) ∙ ap (λ (h : Held). page b (half x h.turned)) (held_same V a b x same)

  -- So none is passed over once it is filled, and the newest version is the same.
  record IsFilled (image now : Image) (x : Pair) : Type 0 where
    passed : passed_over (finding_in V now x) ≡ None
    version : (held_in V now x).version ≡ (held_in V image x).version

  laid_filled : (pairs : List Pair) (image : Image) (k : ℕ) (x : Pair) → ArePairs pairs (length image) → slice_get pairs k ≡ Some x → IsFilled image (laid_over V image x (bytes_for image x)) x
  laid_filled pairs image k x are at = by_test (is_halved (finding_in V image x)) refl
    where
      t : Bool
      t = is_turned V image x

      now : List ℕ → Image
      now bytes = set image (half x (not (is_turned V image x))) bytes

      not_itself : (b : Bool) → b ≡ not b → ⊥
      not_itself true e = cc
      not_itself false e = cc

      newest : (bytes : List ℕ) → page (set image (half x (not (is_turned V image x))) bytes) (half x (is_turned V image x)) ≡ page image (half x (is_turned V image x))
      newest bytes =
          page_other image (half x (not (is_turned V image x))) (half x (is_turned V image x)) bytes
          (λ e. not_itself (is_turned V image x) (are.apart k k x x (is_turned V image x) (not (is_turned V image x)) at at e).1)

      other : (bytes : List ℕ) → page (set image (half x (not (is_turned V image x))) bytes) (half x (not (is_turned V image x))) ≡ bytes
      other bytes = page_same image (half x (not (is_turned V image x))) bytes (are.inside k x (not (is_turned V image x)) at)

      by_filling : (f : Filling) → is_halved (finding_in V image x) ≡ true → IsFilled image (set image (half x (not (is_turned V image x))) (filling_of V f image x)) x
      by_filling Fence test =
          let some = newest_some V image x test in
          let kept = newest fence in
          let filled = other fence in
          let version = ap (V x.page) kept in
          let turned = keeps_turned V image (set image (half x (not (is_turned V image x))) fence) x (is_turned V image x) refl kept (ap (V x.page) filled ∙ hollow x.page) in
          record {
            passed = none_left_over V (set image (half x (not (is_turned V image x))) fence) x (not_halved V (set image (half x (not (is_turned V image x))) fence) x
                (by_halves (is_turned V image x) (λ b. IsWholeOrFence V x.page (page (set image (half x (not (is_turned V image x))) fence) (half x b)))
                (λ none. absurd (omega (arith, version, none, some))) (λ none. filled)));
            version = ap (version_at V (set image (half x (not (is_turned V image x))) fence) x) turned ∙ version;
          }
      by_filling Copy test =
          let some = newest_some V image x test in
          let bytes = page image (half x (is_turned V image x)) in
          let kept = newest bytes in
          let copied = other bytes in
          let version = ap (V x.page) kept in
          let same = ap (V x.page) copied in
          record {
            passed = none_left_over V (set image (half x (not (is_turned V image x))) bytes) x (not_halved V (set image (half x (not (is_turned V image x))) bytes) x
                (by_halves (is_turned V image x) (λ b. IsWholeOrFence V x.page (page (set image (half x (not (is_turned V image x))) bytes) (half x b)))
                (λ none. absurd (omega (arith, version, none, some))) (λ none. absurd (omega (arith, same, none, some)))));
            version =
                at_either (is_turned V image x) (is_turned V (set image (half x (not (is_turned V image x))) bytes) x) (version_at V (set image (half x (not (is_turned V image x))) bytes) x) (version_at V image x (is_turned V image x)) version same;
          }

      by_test : (b : Bool) → is_halved (finding_in V image x) ≡ b → IsFilled image (laid_over V image x (bytes_for image x)) x
      by_test false test =
          subst (λ (i : Image). IsFilled image i x) (sym (laid_nowhere V image x (bytes_for image x) test)) (record { passed = none_left_over V image x test; version = refl })
      by_test true test = subst (λ (i : Image). IsFilled image i x) (sym (laid_there V image x (bytes_for image x) test)) (by_filling filling test)

  -- ---- the first so many

  -- Of the first k pairs none has a page that is passed over, and so on; the others hold what they held.
  pub record AreFilledTo (pairs : List Pair) (before now : Image) (k : ℕ) : Type 0 where
    pub size : length now ≡ length before
    pub whole : (j : ℕ) (x : Pair) → slice_get pairs j ≡ Some x → j < k → passed_over (finding_in V now x) ≡ None
    pub laid : (j : ℕ) (x : Pair) (p : ℕ) → slice_get pairs j ≡ Some x → j < k → passed_over (finding_in V before x) ≡ Some p → page now p ≡ filling_of V filling before x
    pub ahead : (j : ℕ) (x : Pair) (twin : Bool) → slice_get pairs j ≡ Some x → k ≤ j → page now (half x twin) ≡ page before (half x twin)
    pub untouched : (p : ℕ) → AllByRecursion (λ x. passed_over (finding_in V before x) ≢ Some p) pairs → page now p ≡ page before p
    pub versions : (j : ℕ) (x : Pair) → slice_get pairs j ≡ Some x → (held_in V now x).version ≡ (held_in V before x).version

  module _ (pairs : List Pair) (before : Image) where
    pub none_filled : AreFilledTo pairs before before 0
    none_filled = record {
      size = refl;
      whole = λ j x at lt. absurd (omega (arith, lt));
      laid = λ j x p at lt is. absurd (omega (arith, lt));
      ahead = λ j x twin at le. refl;
      untouched = λ p none. refl;
      versions = λ j x at. refl;
    }

    pub all_filled : (now : Image) (k : ℕ) → length pairs ≤ k → AreFilledTo pairs before now k → AreLaidOver V (filling_of V filling) pairs before now
    all_filled now k le so_far = record {
      whole = each_listed (λ x. passed_over (finding_in V now x) ≡ None) pairs (λ j x at. so_far.whole j x at (inside j x at));
      laid = each_listed (λ x. (p : ℕ) → passed_over (finding_in V before x) ≡ Some p → page now p ≡ filling_of V filling before x) pairs (λ j x at p is. so_far.laid j x p at (inside j x at) is);
      untouched = so_far.untouched;
      versions = each_listed (λ x. (held_in V now x).version ≡ (held_in V before x).version) pairs so_far.versions;
    }
      where
        inside : (j : ℕ) (x : Pair) → slice_get pairs j ≡ Some x → j < k
        inside j x at = let lt = slice_get_within pairs j x at in omega (arith, lt, le)

    -- one pair more
    module _ (now : Image) (k : ℕ) (x : Pair) (are : ArePairs pairs (length before)) (at : slice_get pairs k ≡ Some x) (so_far : AreFilledTo pairs before now k) where
      abbrev bytes : List ℕ
      bytes = filling_of V filling now x

      are_now : ArePairs pairs (length now)
      are_now = are_on pairs (length before) now are so_far.size

      -- It holds what it held.
      same_halves : (twin : Bool) → page now (half x twin) ≡ page before (half x twin)
      same_halves twin = so_far.ahead k x twin at (omega arith)

      unchanged : finding_in V now x ≡ finding_in V before x
      unchanged = found_alike V now before x same_halves

      -- the halves of another pair stay
      stays : (j : ℕ) (y : Pair) (twin : Bool) → slice_get pairs j ≡ Some y → j ≢ k → page (laid_over V now x bytes) (half y twin) ≡ page now (half y twin)
      stays j y twin at_j other = laid_other V now x bytes (half y twin) (λ is. other (are.apart j k y x twin (not (is_turned V now x)) at_j at (passed_half V now x bytes (half y twin) is)).0)

      this_filled : IsFilled now (laid_over V now x bytes) x
      this_filled = laid_filled pairs now k x are_now at

      this_one : (j : ℕ) (y : Pair) → slice_get pairs j ≡ Some y → j ≡ k → x ≡ y
      this_one j y at_j same = same_Some x y (sym at ∙ ap (slice_get pairs) (sym same) ∙ at_j)

      whole_then : (j : ℕ) (y : Pair) → slice_get pairs j ≡ Some y → j < k + 1 → (j < k) ⊎ (j ≡ k) → passed_over (finding_in V (laid_over V now x bytes) y) ≡ None
      whole_then j y at_j lt (inl less) =
          ap passed_over (found_alike V (laid_over V now x bytes) now y (λ twin. stays j y twin at_j (λ e. omega (arith, less, e)))) ∙ so_far.whole j y at_j less
      whole_then j y at_j lt (inr same) = subst (λ (z : Pair). passed_over (finding_in V (laid_over V now x bytes) z) ≡ None) (this_one j y at_j same) this_filled.passed

      version_then : (j : ℕ) (y : Pair) → slice_get pairs j ≡ Some y → (j ≡ k) ⊎ (j ≢ k) → (held_in V (laid_over V now x bytes) y).version ≡ (held_in V now y).version
      version_then j y at_j (inl same) = subst (λ (z : Pair). (held_in V (laid_over V now x bytes) z).version ≡ (held_in V now z).version) (this_one j y at_j same) this_filled.version
      version_then j y at_j (inr other) = ap (λ (h : Held). h.version) (held_same V (laid_over V now x bytes) now y (λ twin. stays j y twin at_j other))

      laid_first : (p : ℕ) → passed_over (finding_in V before x) ≡ Some p → page (laid_over V now x bytes) p ≡ filling_of V filling before x
      laid_first p is =
          let passed : passed_over (finding_in V now x) ≡ Some p = ap passed_over unchanged ∙ is in
          let inside = subst (λ q. q < length now) (sym (passed_half V now x bytes p passed)) (are_now.inside k x (not (is_turned V now x)) at) in
          laid_here V now x bytes p inside passed ∙ bytes_alike now before x same_halves

      laid_then : (j : ℕ) (y : Pair) (p : ℕ) → slice_get pairs j ≡ Some y → (j < k) ⊎ (j ≡ k) → passed_over (finding_in V before y) ≡ Some p → page (laid_over V now x bytes) p ≡ filling_of V filling before y
      laid_then j y p at_j (inl less) is =
          let here = passed_half V before y bytes p is in
          ap (page (laid_over V now x bytes)) here ∙ stays j y (not (is_turned V before y)) at_j (λ e. omega (arith, less, e)) ∙ ap (page now) (sym here) ∙ so_far.laid j y p at_j less is
      laid_then j y p at_j (inr same) is =
          subst (λ (z : Pair). passed_over (finding_in V before z) ≡ Some p → page (laid_over V now x bytes) p ≡ filling_of V filling before z) (this_one j y at_j same) (laid_first p) is

      or_last : (j : ℕ) → j < k + 1 → (j < k) ⊎ (j ≡ k)
      or_last j lt = grind arith

      pub one_filled : AreFilledTo pairs before (laid_over V now x bytes) (k + 1)
      one_filled = record {
        size = length-laid V now x bytes ∙ so_far.size;
        whole = λ j y at_j lt. whole_then j y at_j lt (or_last j lt);
        laid = λ j y p at_j lt is. laid_then j y p at_j (or_last j lt) is;
        ahead = λ j y twin at_j le. stays j y twin at_j (λ e. omega (arith, le, e)) ∙ so_far.ahead j y twin at_j (omega (arith, le));
        untouched = λ p none.
            laid_other V now x bytes p (λ is. one_listed (λ y. passed_over (finding_in V before y) ≢ Some p) pairs k x none at (ap passed_over (sym unchanged) ∙ is)) ∙ so_far.untouched p none;
        versions = λ j y at_j. version_then j y at_j (cases_eq j k) ∙ so_far.versions j y at_j;
      }

-- what a settled disk reads as is what is durable
pub seen_settled : (s : State) → s.volatile ≡ [] → seen s ≡ s.durable
seen_settled s none = ap (applied s.durable) none

module _ (V : Versions) (hollow : (q : ℕ) → V q fence ≡ 0) (filling : Filling) (pairs : List Pair) (before : Image) (s now : State) (k : ℕ) (inside : k < length pairs)
    (next : (x : Pair) → slice_get pairs k ≡ Some x → now ≡ record { durable = laid_over V s.durable x (filling_of V filling s.durable x); volatile = [] }) where
  abbrev first_left : Pair
  first_left = get_or pairs k (record { page = 0; twin = 0 })

  there : slice_get pairs k ≡ Some first_left
  there = slice_get-get_or pairs k (record { page = 0; twin = 0 }) inside

  pub one_more : (n : ℕ) → ArePairs pairs n → length before ≡ n → AreFilledTo V hollow filling pairs before s.durable k → AreFilledTo V hollow filling pairs before now.durable (k + 1)
  one_more n are sized so_far =
      subst (λ (z : State). AreFilledTo V hollow filling pairs before z.durable (k + 1)) (sym (next first_left there)) (one_filled V hollow filling pairs before s.durable k first_left (are_on pairs n before are sized) there so_far)

  pub one_settled : now.volatile ≡ []
  one_settled = ap (λ (z : State). z.volatile) (next first_left there)

  -- what shows is the same
  pub one_shown : shown V pairs (seen now) ≡ shown V pairs s.durable → shown V pairs s.durable ≡ shown V pairs before → shown V pairs now.durable ≡ shown V pairs before
  one_shown same so_far = ap (shown V pairs) (sym (seen_settled now one_settled)) ∙ same ∙ so_far

-- the cause of a refusal by a call after some others
err_of : {T U : Type 0} (fault e : DiskFault) → IsErrOf {T = U} (Err fault) e → IsErrOf {T = T} (Err fault) e
err_of fault e is = cc

pub caused_err : {T U : Type 0} (a b c : ℕ) (fault : DiskFault) → a ≤ b → HasCause {T = T} b c (Err fault) → HasCause {T = U} a c (Err fault)
caused_err {T = T} {U = U} a b c fault le cause = record {
  later = omega (arith, le, cause.later);
  failed = λ is. let rise = cause.failed (err_of {T = T} {U = U} fault DeviceFault is) in omega (arith, rise, le);
}

-- ---- on a disk

module _ {D : Type 0} (disks : PageDisk D) (V : Versions) (pairs : List Pair) where
  -- what a crash leaves shows the same, so far
  abbrev pub LeavesShown : (old new : D) → Type 0
  LeavesShown old new = LeavesOnly disks.moment disks.left_since old new (λ c. shown V pairs c ≡ shown V pairs (disks.state old).durable)

  pub leaves_at_first : (old : D) → ((c : Image) → disks.left_since old (disks.moment old) c → MayLeave (disks.state old) c) → (disks.state old).volatile ≡ [] → LeavesShown old old
  leaves_at_first old only_now none =
      (started disks.state disks.moment disks.left_since old (λ c. shown V pairs c ≡ shown V pairs (disks.state old).durable)
      (λ c left. ap (shown V pairs) (MayLeave-settled (disks.state old) c none left)) only_now).any_moment

  pub leaves_on : (old mid new : D) → shown V pairs (disks.state mid).durable ≡ shown V pairs (disks.state old).durable → LeavesShown old mid → LeavesShown mid new → LeavesShown old new
  leaves_on old mid new same first more =
      leaves_then disks.moment disks.left_since old mid new (λ c. shown V pairs c ≡ shown V pairs (disks.state old).durable) first
      (leaves_more disks.moment disks.left_since mid new (λ c. shown V pairs c ≡ shown V pairs (disks.state mid).durable) (λ c. shown V pairs c ≡ shown V pairs (disks.state old).durable) (λ c is. is ∙ same) more)

-- a part of what a call did that succeeded
pub untouched_of : {T E : Type 0} (result : Result T E) (V : Versions) (fill : Image → Pair → List ℕ) (pairs : List Pair) (before now : Image) → OnOk result (AreLaidOver V fill pairs before now)
    → OnOk result ((number : ℕ) → AllByRecursion (λ x. passed_over (finding_in V before x) ≢ Some number) pairs → page now number ≡ page before number)
untouched_of (Ok t) V fill pairs before now are = are.untouched
untouched_of (Err e) V fill pairs before now are = tt

-- If the newest half of each pair was whole, each half is whole or a fence.
pub known_of : {T E : Type 0} (result : Result T E) (V : Versions) (fill : Image → Pair → List ℕ) (pairs : List Pair) (before : Image) (now : State) → ArePairs pairs (length now.durable) → All (λ (l : List ℕ). length l ≡ 4096) now.durable
    → OnOk result (now.volatile ≡ []) → OnOk result (AreLaidOver V fill pairs before (seen now)) → OnOk result (AllByRecursion (λ x. 0 < (held_in V before x).version) pairs → AreFenced V pairs now.durable)
known_of (Err e) V fill pairs before now are sized settled laid = tt
known_of (Ok u) V fill pairs before now are sized settled laid = λ newest k x twin at.
    let same = seen_settled now settled in
    let passed : passed_over (finding_in V now.durable x) ≡ None = ap (λ (i : Image). passed_over (finding_in V i x)) (sym same) ∙ one_listed (λ y. passed_over (finding_in V (seen now) y) ≡ None) pairs k x laid.whole at in
    let was = one_listed (λ y. 0 < (held_in V before y).version) pairs k x newest at in
    let version = ap (λ (i : Image). (held_in V i x).version) (sym same) ∙ one_listed (λ y. (held_in V (seen now) y).version ≡ (held_in V before y).version) pairs k x laid.versions at in
    by_halves (is_turned V now.durable x) (λ b. IsWholeOrFence V x.page (page now.durable (half x b)))
    (λ none. absurd (omega (arith, version, was, none)))
    (half_known V now.durable x (not (is_turned V now.durable x)) (sized (half x (not (is_turned V now.durable x))) [] (are.inside k x (not (is_turned V now.durable x)) at))
    (not_passed V now.durable x (omega (arith, version, was)) (none_passed V now.durable x (sym passed)))) twin
