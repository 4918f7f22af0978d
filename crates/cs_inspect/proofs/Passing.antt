-- Extents that are passed over.
use Rattle.std.proofs.Common.{◌≡◌, ◌≢◌, ◌∙◌, ◌∷◌, ◌++◌, ◌+◌, ◌<◌, ◌≤◌, ℕ, zero, suc, Bool, List, [], Option, Some, None, ap, arith, drop, get_or, inl, inr, length, refl, subst, sym, take}
use Rattle.std.specs.Prelude.{IfSome, slice_get, slice_index_or, slice_set}
use Rattle.std.proofs.lemmas.List.{append-nil, drop_all, take_all, take_more}
use Rattle.cs_core.specs.Views.{View}
use Rattle.cs_disk.specs.declared.disk.PageDisk.{Ghosts as PageDisk}
use Rattle.cs_extent.specs.State.{State as Extents, extents_of, shape}
use Rattle.cs_inspect.specs.declared.choices.Choice.{Choice}
use Rattle.cs_inspect.specs.declared.surveys.ExtentUse.{ExtentUse}
use Rattle.cs_inspect.specs.Brim.{AreSurveyed, ChoosesNext, IsNext}
use Rattle.cs_inspect.specs.Choices.{ChoosesApart, ChoosesBy, ChoosesNextBy, GoesBy, GoesNext, chosen_extent, run_pages}
use Rattle.cs_inspect.specs.Fewest.{IsMovable}
use Rattle.cs_inspect.specs.Kinds.{LieApart}
use Rattle.cs_inspect.specs.Past.{GoesPast, IsNoneOf, PairsPast, pass_over, passing}
use Rattle.cs_inspect.specs.Uses.{AreExtents, Head}

-- ---- one after another

-- one more
passing_push : (es : List ℕ) (e : ℕ) (uses : List ExtentUse) → passing (es ++ e ∷ []) uses ≡ pass_over (passing es uses) e
passing_push [] e uses = refl
passing_push (x ∷ xs) e uses = passing_push xs e (pass_over uses x)

pub passing_more : (passed : List ℕ) (i : ℕ) (uses now next : List ExtentUse) → i < length passed → now ≡ passing (take i passed) uses
    → next ≡ pass_over now (get_or passed i 0) → next ≡ passing (take (i + 1) passed) uses
passing_more passed i uses now next lt so_far step =
    step ∙ ap (λ (us : List ExtentUse). pass_over us (get_or passed i 0)) so_far ∙ sym (passing_push (take i passed) (get_or passed i 0) uses)
    ∙ ap (λ (es : List ℕ). passing es uses) (sym (take_more passed i 0 lt))

-- one that is there, and one that isn't
pub pass_set : (uses : List ExtentUse) (e : ℕ) (d : ExtentUse) → e < length uses → slice_set uses e (record (slice_index_or uses e d) { unreadable = 1 }) ≡ pass_over uses e
pass_set [] e d lt = absurd (omega arith)
pass_set (used ∷ uses) zero d lt = refl
pass_set (used ∷ uses) (suc e) d lt = ap (λ (us : List ExtentUse). used ∷ us) (pass_set uses e d (omega arith))

pub pass_past : (uses : List ExtentUse) (e : ℕ) → length uses ≤ e → uses ≡ pass_over uses e
pass_past [] e le = refl
pass_past (used ∷ uses) zero le = absurd (omega arith)
pass_past (used ∷ uses) (suc e) le = ap (λ (us : List ExtentUse). used ∷ us) (pass_past uses e (omega arith))

-- the uses, once all of them were written
pub written : {A : Type 0} (xs ys : List A) (len : ℕ) → len ≡ length xs → length ys ≡ length xs → take len (ys ++ drop (length ys) xs) ≡ ys
written xs ys len is same = rw (drop_all (length ys) xs (omega arith), append-nil ys) (take_all len ys (omega arith))

-- ---- one that is passed over isn't chosen

-- if the extent is there, it counts as one with a header that can't be read
abbrev IsMarked : List ExtentUse → ℕ → Type 0
IsMarked uses e = (used : ExtentUse) → slice_get uses e ≡ Some used → used.unreadable ≢ 0

marked_one : (uses : List ExtentUse) (e : ℕ) → IsMarked (pass_over uses e) e
marked_one [] e used at = absurd (cc at)
marked_one (u ∷ uses) zero used at = λ none.
    let same : record u { unreadable = 1 } ≡ used = cc at in
    let one : used.unreadable ≡ 1 = sym (ap (λ (x : ExtentUse). x.unreadable) same) in
    absurd (omega (arith, one, none))
marked_one (u ∷ uses) (suc e) used at = marked_one uses e used at

marked_still : (uses : List ExtentUse) (e x : ℕ) → IsMarked uses e → IsMarked (pass_over uses x) e
marked_still [] e x is = is
marked_still (u ∷ uses) zero zero is = marked_one (u ∷ uses) zero
marked_still (u ∷ uses) zero (suc x) is = is
marked_still (u ∷ uses) (suc e) zero is = is
marked_still (u ∷ uses) (suc e) (suc x) is = marked_still uses e x is

marked_all : (passed : List ℕ) (uses : List ExtentUse) (e : ℕ) → IsMarked uses e → IsMarked (passing passed uses) e
marked_all [] uses e is = is
marked_all (x ∷ passed) uses e is = marked_all passed (pass_over uses x) e (marked_still uses e x is)

none_of : (passed : List ℕ) (uses : List ExtentUse) (e : ℕ) (used : ExtentUse) → slice_get (passing passed uses) e ≡ Some used → used.unreadable ≡ 0 → IsNoneOf passed e
none_of [] uses e used at can = tt
none_of (x ∷ passed) uses e used at can = (
  λ same. marked_all passed (pass_over uses x) e (subst (λ (y : ℕ). IsMarked (pass_over uses x) y) (sym same) (marked_one uses x)) used at can,
  none_of passed (pass_over uses x) e used at can,
)

-- of one that is chosen all headers can be read
next_there : (uses : List ExtentUse) (last : Option ℕ) (pages greatest e : ℕ) → IsNext uses last pages greatest e → (used : ExtentUse) × (slice_get uses e ≡ Some used) × IsMovable used
next_there uses last pages greatest e (inl pair) = (pair.best.its, pair.best.there.0, pair.best.there.2)
next_there uses last pages greatest e (inr (inl (none, dead))) = (dead.its, dead.there.0, dead.there.1)
next_there uses last pages greatest e (inr (inr (none, nothing, sure))) = (sure.0.its, sure.0.there.0, sure.0.there.2)

pub next_fresh : (passed : List ℕ) (uses given : List ExtentUse) (last : Option ℕ) (pages greatest : ℕ) (found : Option Choice) → given ≡ passing passed uses
    → ChoosesNext given last pages greatest (chosen_extent found) → IfSome found (λ choice. IsNoneOf passed choice.extent)
next_fresh passed uses given last pages greatest None are chooses = tt
next_fresh passed uses given last pages greatest (Some choice) are chooses =
    let it = next_there given last pages greatest choice.extent chooses.0 in
    none_of passed uses choice.extent it.0 (subst (λ (us : List ExtentUse). slice_get us choice.extent ≡ Some it.0) are it.1) it.2.readable

pub pair_fresh : (passed : List ℕ) (uses given : List ExtentUse) (last : Option ℕ) (pages : ℕ) (found : Option Choice) → given ≡ passing passed uses
    → ChoosesApart given last pages (chosen_extent found) → IfSome found (λ choice. IsNoneOf passed choice.extent)
pair_fresh passed uses given last pages None are chooses = tt
pair_fresh passed uses given last pages (Some choice) are chooses =
    let best = chooses.0.best in
    none_of passed uses choice.extent best.its (subst (λ (us : List ExtentUse). slice_get us choice.extent ≡ Some best.its) are best.there.0) best.there.2.readable

-- ---- what is chosen of the uses where some are passed over

pub goes_past : {D : Type 0} (disks : PageDisk D) (old read : View D) (passed : List ℕ) (heads : List Head) (found : Option (ℕ × ℕ)) (last : Option ℕ) (pages greatest : ℕ) (uses given : List ExtentUse)
    → AreExtents (shape old.store.extents).extents (extents_of old.store.extents) uses → AreSurveyed (disks.failure_count old.disk) (disks.failure_count read.disk) heads uses greatest
    → given ≡ passing passed uses → last ≡ (extents_of old.store.extents).last → pages ≡ (shape old.store.extents).pages
    → ChoosesNext given last pages greatest found → GoesPast disks passed heads old read found
goes_past disks old read passed heads found last pages greatest uses given extents are_read are lasts all next = record {
  uses = uses;
  greatest = greatest;
  extents = extents;
  read = are_read;
  chooses = subst (λ (us : List ExtentUse). ChoosesNext us (extents_of old.store.extents).last (shape old.store.extents).pages greatest found) are
      (subst (λ (l : Option ℕ). ChoosesNext given l (shape old.store.extents).pages greatest found) lasts
      (subst (λ (n : ℕ). ChoosesNext given last n greatest found) all next));
}

-- the same of one of two that fit on one, by the uses that were read first
pub pairs_past : (x : Extents) (passed : List ℕ) (found : Option (ℕ × ℕ)) (last : Option ℕ) (pages : ℕ) (uses given : List ExtentUse)
    → given ≡ passing passed uses → last ≡ (extents_of x).last → pages ≡ (shape x).pages → ChoosesApart given last pages found
    → ChoosesApart (passing passed uses) (extents_of x).last (shape x).pages found
pairs_past x passed found last pages uses given are lasts all goes =
    subst (λ (us : List ExtentUse). ChoosesApart us (extents_of x).last (shape x).pages found) are
    (subst (λ (l : Option ℕ). ChoosesApart given l (shape x).pages found) lasts
    (subst (λ (n : ℕ). ChoosesApart given last n found) all goes))

-- ---- if none is passed over

module _ {D : Type 0} (disks : PageDisk D) (old read : View D) (entries : ℕ) (heads : List Head) (chosen : Option (ℕ × ℕ)) (apart : LieApart (shape old.store.extents)) where
  pub as_next : GoesPast disks [] heads old read chosen → GoesNext disks heads entries old read chosen
  as_next past = record {
    uses = past.uses;
    greatest = past.greatest;
    extents = past.extents;
    read = past.read;
    chooses = subst (λ (b : Bool). ChoosesNextBy b past.uses past.greatest (run_pages entries) (extents_of old.store.extents).last (shape old.store.extents).pages chosen) (sym apart) past.chooses;
  }

  pub as_pair : PairsPast disks [] heads old read chosen → GoesBy disks heads entries old read chosen
  as_pair past = record {
    uses = past.uses;
    extents = past.extents;
    read = past.read;
    chooses = subst (λ (b : Bool). ChoosesBy b past.uses (run_pages entries) (extents_of old.store.extents).last (shape old.store.extents).pages chosen) (sym apart) past.chooses;
  }
