-- A disk in pairs goes on to fit its rules.
use Rattle.std.proofs.Common.{◌≡◌, ◌⊎◌, inl, inr, ⊎_elim, ℕ, ◌<◌, Bool, true, not, List, [], ◌∷◌, ◌++◌, Some, slice_get, get_or, length, Result, Ok, Err, OnErr, OnOk, refl, sym, ◌∙◌, ap, subst}
use Rattle.std.proofs.lemmas.Option.{slice_get-get_or}
use Rattle.std.proofs.Math.Logic.{∥∥₁_map}
use Rattle.cs_disk.specs.Disk.{Image, MayLeave, State, Write, crashed, flushed, page, seen, written}
use Rattle.cs_disk.proofs.Crashes.{seen_MayLeave}
use Rattle.cs_disk.proofs.Images.{length-applied}
use Rattle.cs_twin.specs.declared.pairs.Pair.{Pair}
use Rattle.cs_twin.specs.declared.pairs.PageRules.{Ghosts as PageRules}
use Rattle.cs_twin.specs.declared.findings.Filling.{Filling}
use Rattle.cs_twin.specs.declared.findings.Filling.TheVariants.{Copy, Fence}
use Rattle.cs_twin.specs.Fillings.{IsFilling, fenced_over, filled_with}
use Rattle.cs_twin.specs.Findings.{finding_in, passed_over}
use Rattle.cs_twin.specs.Fitting.{IsFit}
use Rattle.cs_twin.specs.Kept.{AreAllowed}
use Rattle.cs_twin.specs.Pairs.{ArePairs, AreNoOlder, Versions, fence, half, is_turned}
use Rattle.cs_twin.specs.Tears.{IsUnpaired}
use Rattle.cs_twin.proofs.Mending.{IsPassed, bytes_there, copy_newer, fence_newer, passed_there, sized_pairs}
use Rattle.cs_twin.proofs.Right.{pushed_at}

-- the law of the rules
abbrev pub Keeps : {R : Type 0} → PageRules R → R → Type 0
Keeps rules r = (pairs : List Pair) (pages : ℕ) (s : State) (c : Image) → ArePairs pairs pages → length s.durable ≡ pages → AreNoOlder (rules.version r) pairs s → AreAllowed (rules.allowed r) pairs s
    → rules.fits r pairs pages s.durable → MayLeave s c → rules.fits r pairs pages c

-- where a write to a half goes, behind reads
pub goes_below : (V : Versions) (x : Pair) (t : Bool) (bytes : List ℕ) (s mid now : State) → mid ≡ s → (now ≡ mid) ⊎ ((0 < V x.page bytes) × (now ≡ written mid (half x t) bytes)) → (now ≡ s) ⊎ ((twin : Bool) × (now ≡ written s (half x twin) bytes))
goes_below V x t bytes s mid now same (inl still) = inl (still ∙ same)
goes_below V x t bytes s mid now same (inr is) = inr (t, is.1 ∙ ap (λ (z : State). written z (half x t) bytes) same)

pub goes_below_ok : {T E : Type 0} (result : Result T E) (x : Pair) (t : Bool) (bytes : List ℕ) (s mid now : State) → mid ≡ s → OnOk result (now ≡ written mid (half x t) bytes) → OnOk result ((twin : Bool) × (now ≡ written s (half x twin) bytes))
goes_below_ok (Ok u) x t bytes s mid now same is = (t, is ∙ ap (λ (z : State). written z (half x t) bytes) same)
goes_below_ok (Err e) x t bytes s mid now same is = tt

-- so it lies on some page there
pub own_lies : {T E : Type 0} (result : Result T E) (s now : State) (p : ℕ) (bytes : List ℕ) → OnOk result (now ≡ written s p bytes) → OnOk result ((place : ℕ) × (now ≡ written s place bytes))
own_lies (Ok u) s now p bytes is = (p, is)
own_lies (Err e) s now p bytes is = tt

pub own_may_lie : (s now : State) (p : ℕ) (bytes : List ℕ) → (now ≡ s) ⊎ (now ≡ written s p bytes) → (now ≡ s) ⊎ ((place : ℕ) × (now ≡ written s place bytes))
own_may_lie s now p bytes (inl same) = inl same
own_may_lie s now p bytes (inr is) = inr (p, is)

pub pair_lies : {T E : Type 0} (result : Result T E) (s now : State) (x : Pair) (bytes : List ℕ) → OnOk result ((twin : Bool) × (now ≡ written s (half x twin) bytes)) → OnOk result ((place : ℕ) × (now ≡ written s place bytes))
pair_lies (Ok u) s now x bytes is = (half x is.0, is.1)
pair_lies (Err e) s now x bytes is = tt

pub pair_may_lie : (s now : State) (x : Pair) (bytes : List ℕ) → (now ≡ s) ⊎ ((twin : Bool) × (now ≡ written s (half x twin) bytes)) → (now ≡ s) ⊎ ((place : ℕ) × (now ≡ written s place bytes))
pair_may_lie s now x bytes (inl same) = inl same
pair_may_lie s now x bytes (inr is) = inr (half x is.0, is.1)

module _ {R : Type 0} (rules : PageRules R) (r : R) (pairs : List Pair) (n : ℕ) where
  pub fit_same : (s now : State) → now ≡ s → IsFit rules r pairs n s → IsFit rules r pairs n now
  fit_same s now same fit = subst (λ (z : State). IsFit rules r pairs n z) (sym same) fit

  pub fit_read : (m : ℕ) (s now : State) → m ≡ n → now ≡ s → IsFit rules r pairs n s → IsFit rules r pairs m now
  fit_read m s now pages same fit = subst (λ k. IsFit rules r pairs k now) (sym pages) (fit_same s now same fit)

  -- nothing is volatile
  pub fit_settled : (now : State) → now.volatile ≡ [] → ∥ rules.fits r pairs n now.durable ∥₁ → IsFit rules r pairs n now
  fit_settled now none durable = record { allowed = λ i w at. absurd (nothing i w (ap (λ (l : List Write). slice_get l i) (sym none) ∙ at)); durable = durable }
    where
      nothing : (i : ℕ) (w : Write) → slice_get {X = Write} [] i ≡ Some w → ⊥
      nothing i w at = cc

  pub fit_opened : (s now : State) → now ≡ flushed s → rules.fits r pairs n (seen s) → IsFit rules r pairs n now
  fit_opened s now is fits = fit_same (flushed s) now is (fit_settled (flushed s) refl ∣ fits ∣₁)

  pub fit_flushed : Keeps rules r → (s now : State) → ArePairs pairs n → length s.durable ≡ n → AreNoOlder (rules.version r) pairs s → now ≡ flushed s → IsFit rules r pairs n s → IsFit rules r pairs n now
  fit_flushed keeps s now are sized newer is fit =
      fit_same (flushed s) now is (fit_settled (flushed s) refl (∥∥₁_map fit.durable (λ durable. keeps pairs n s (seen s) are sized newer fit.allowed durable (seen_MayLeave s))))

  pub fit_crashed : Keeps rules r → (s now : State) (mask : List Bool) → ArePairs pairs n → length s.durable ≡ n → AreNoOlder (rules.version r) pairs s → length mask ≡ length s.volatile → now ≡ crashed s mask → IsFit rules r pairs n s
      → IsFit rules r pairs n now
  fit_crashed keeps s now mask are sized newer long is fit =
      fit_same (crashed s mask) now is (fit_settled (crashed s mask) refl (∥∥₁_map fit.durable (λ durable. keeps pairs n s (crashed s mask).durable are sized newer fit.allowed durable (mask, long, refl))))

  -- a flush, whatever it answers
  pub fit_either : {T E : Type 0} (result : Result T E) → Keeps rules r → (s now : State) → ArePairs pairs n → length s.durable ≡ n → AreNoOlder (rules.version r) pairs s → OnOk result (now ≡ flushed s) → OnErr result (now ≡ s)
      → IsFit rules r pairs n s → IsFit rules r pairs n now
  fit_either (Ok t) keeps s now are sized newer ok err fit = fit_flushed keeps s now are sized newer ok fit
  fit_either (Err e) keeps s now are sized newer ok err fit = fit_same s now err fit

  -- a write
  fit_written : (s : State) (p : ℕ) (bytes : List ℕ) → (IsUnpaired pairs p → rules.allowed r p bytes ≡ true) → IsFit rules r pairs n s → IsFit rules r pairs n (written s p bytes)
  fit_written s p bytes may fit = record {
    allowed = λ i w at own. ⊎_elim
        (λ (old : slice_get s.volatile i ≡ Some w). fit.allowed i w old own)
        (λ (new : (p, bytes) ≡ w). subst (λ (v : Write). IsUnpaired pairs v.0 → rules.allowed r v.0 v.1 ≡ true) new may own)
        (pushed_at s.volatile (p, bytes) i w at);
    durable = fit.durable;
  }

  pub fit_own : (s now : State) (p : ℕ) (bytes : List ℕ) → rules.allowed r p bytes ≡ true → (now ≡ s) ⊎ (now ≡ written s p bytes) → IsFit rules r pairs n s → IsFit rules r pairs n now
  fit_own s now p bytes may (inl same) fit = fit_same s now same fit
  fit_own s now p bytes may (inr is) fit = fit_same (written s p bytes) now is (fit_written s p bytes (λ own. may) fit)

  -- one that goes to a half
  pub fit_half : (s now : State) (k : ℕ) (x : Pair) (twin : Bool) (p : ℕ) (bytes : List ℕ) → slice_get pairs k ≡ Some x → p ≡ half x twin → (now ≡ s) ⊎ (now ≡ written s p bytes) → IsFit rules r pairs n s → IsFit rules r pairs n now
  fit_half s now k x twin p bytes at goes (inl same) fit = fit_same s now same fit
  fit_half s now k x twin p bytes at goes (inr is) fit = fit_same (written s p bytes) now is (fit_written s p bytes (λ own. absurd (own k x twin at goes)) fit)

  pub fit_below : (s now : State) (k : ℕ) (x : Pair) (bytes : List ℕ) → slice_get pairs k ≡ Some x → (now ≡ s) ⊎ ((twin : Bool) × (now ≡ written s (half x twin) bytes)) → IsFit rules r pairs n s → IsFit rules r pairs n now
  fit_below s now k x bytes at (inl same) fit = fit_same s now same fit
  fit_below s now k x bytes at (inr goes) fit = fit_half s now k x goes.0 (half x goes.0) bytes at refl (inr goes.1) fit

  -- a call after others, on pairs and a disk that are these
  pub fit_call : (ps : List Pair) (m k : ℕ) (s now : State) → ps ≡ pairs → m ≡ n → k ≡ n → (IsFit rules r ps m s → IsFit rules r ps m now) → IsFit rules r pairs n s → IsFit rules r pairs k now
  fit_call ps m k s now same before after call fit =
      let here = subst (λ j. IsFit rules r pairs j s) (sym before) fit in
      let done = call (subst (λ (l : List Pair). IsFit rules r l m s) (sym same) here) in
      subst (λ j. IsFit rules r pairs j now) (before ∙ sym after) (subst (λ (l : List Pair). IsFit rules r l m now) same done)

  -- ---- a page that is passed over is filled

  module _ (hollow : (q : ℕ) → rules.version r q fence ≡ 0) (filling : Filling) (s mid : State) (k p : ℕ) (d : Pair) (bytes : List ℕ) (are : ArePairs pairs n) (sized : length s.durable ≡ n) (inside : k < length pairs) (same : mid ≡ s) (none : s.volatile ≡ [])
      (damaged : Some p ≡ passed_over (finding_in (rules.version r) (seen s) (get_or pairs k d))) (is : bytes ≡ page (seen s) (half (get_or pairs k d) (is_turned (rules.version r) (seen s) (get_or pairs k d)))) (fit : IsFit rules r pairs n s) (keeps : Keeps rules r) where
    abbrev V : Versions
    V = rules.version r

    abbrev x : Pair
    x = get_or pairs k d

    at : slice_get pairs k ≡ Some x
    at = slice_get-get_or pairs k d inside

    here : ArePairs pairs (length s.durable)
    here = sized_pairs V hollow filling pairs s mid n k p d bytes are sized inside same none damaged is

    passed : IsPassed V s.durable x p
    passed = passed_there V hollow filling pairs s mid n k p d bytes are sized inside same none damaged is

    newest : bytes ≡ page s.durable (half x (is_turned V s.durable x))
    newest = bytes_there V hollow filling pairs s mid n k p d bytes are sized inside same none damaged is

    -- a write over it
    over : (z : State) (b : List ℕ) → IsFit rules r pairs n z → IsFit rules r pairs n (written z p b)
    over z b fits = fit_half z (written z p b) k x (not (is_turned V s.durable x)) p b at passed.other (inr refl) fits

    fence_waits : IsFit rules r pairs n (written s p fence)
    fence_waits = over s fence fit

    fence_lies : IsFit rules r pairs n (fenced_over s p)
    fence_lies = fit_flushed keeps (written s p fence) (fenced_over s p) are sized (fence_newer V hollow pairs s k p x bytes here at none passed newest) refl fence_waits

    copy_waits : IsFit rules r pairs n (written (fenced_over s p) p bytes)
    copy_waits = over (fenced_over s p) bytes fence_lies

    size_fenced : length (fenced_over s p).durable ≡ n
    size_fenced = length-applied s.durable (s.volatile ++ (p, fence) ∷ []) ∙ sized

    by_filling : (f : Filling) (now : State) → IsFilling f s now p bytes → IsFit rules r pairs n now
    by_filling Fence now (inl still) = fit_same s now still fit
    by_filling Fence now (inr new) = fit_same (written s p fence) now new fence_waits
    by_filling Copy now (inl (inl still)) = fit_same s now still fit
    by_filling Copy now (inl (inr new)) = fit_same (written s p fence) now new fence_waits
    by_filling Copy now (inr (inl done)) = fit_same (fenced_over s p) now done fence_lies
    by_filling Copy now (inr (inr new)) = fit_same (written (fenced_over s p) p bytes) now new copy_waits

    pub fit_filling : (now : State) → IsFilling filling mid now p bytes → IsFit rules r pairs n now
    fit_filling now is_on = by_filling filling now (subst (λ (z : State). IsFilling filling z now p bytes) same is_on)

    when_filled : (f : Filling) (now : State) → now ≡ filled_with f s p bytes → IsFit rules r pairs n now
    when_filled Fence now new = fit_same (fenced_over s p) now new fence_lies
    when_filled Copy now new = fit_flushed keeps (written (fenced_over s p) p bytes) now are size_fenced (copy_newer V hollow pairs s k p x bytes here at none passed newest) new copy_waits

    pub fit_filled : (now : State) → now ≡ filled_with filling mid p bytes → IsFit rules r pairs n now
    fit_filled now new = when_filled filling now (new ∙ ap (λ (z : State). filled_with filling z p bytes) same)
