-- Runs that are read from the newest on.
use Rattle.std.proofs.Common.{◌≡◌, ◌≢◌, ◌∙◌, ◌⊎◌, inl, inr, ⊎_elim, ℕ, zero, suc, ◌+◌, ◌-◌, ◌<◌, ◌≤◌, List, [], ◌∷◌, Some, None, Result, Ok, Err, IfOk, Option, Vec, drop, length, map, refl, sym, ap, subst, arith}
use Rattle.std.specs.Prelude.{slice_get}
use Rattle.std.specs.List.{AllByRecursion}
use Rattle.std.specs.declared.alloc.Global.{Global}
use Rattle.cs_chunk.specs.Reads.{IsCaused, IsNoAnswer}
use Rattle.cs_refusal.specs.declared.refusals.Refusal.{Refusal}
use Rattle.cs_refusal.specs.declared.refusals.Refusal.TheVariants.{DeviceFault, OutOfMemory}
use Rattle.cs_extent.specs.State.{State as ExtentsState}
use Rattle.cs_frame.specs.declared.locators.Locator.{Locator}
use Rattle.cs_index.specs.declared.stored_runs.StoredRun.{StoredRun}
use Rattle.cs_reader.proofs.Lists.{drop_all, drop_some}
use Rattle.cs_salvage.specs.declared.rescued_runs.DamagedRun.{DamagedRun}
use Rattle.cs_salvage.specs.declared.rescued_runs.NewestRuns.{NewestRuns}
use Rattle.cs_salvage.specs.Runs.{AreNewestRead, IsDamageCaused, IsEndOf, IsRunRescued, IsWhyNoRun}

-- ---- one after another

-- none were read yet
pub listed_none : (places : List Locator) (runs : List StoredRun) → runs ≡ [] → map (λ run. run.place) runs ≡ drop (length places - 0) places
listed_none places runs is =
    let none : length places - 0 ≡ length places = omega arith in
    subst (λ (rs : List StoredRun). map (λ run. run.place) rs ≡ drop (length places - 0) places) (sym is) (sym (drop_all places (length places - 0) none))

-- the runs that are told are those that were read
pub told_runs : (P : StoredRun → Type 0) (runs : Vec StoredRun Global) (result : Result NewestRuns Refusal) → IfOk result (λ f. f.runs ≡ runs) → AllByRecursion P runs.items → IfOk result (λ f. AllByRecursion P f.runs.items)
told_runs P runs (Ok f) same all = subst (λ (v : Vec StoredRun Global). AllByRecursion P v.items) (sym same) all
told_runs P runs (Err r) same all = tt

-- where the device failed for the one that is told, its count rose since before
pub told_caused : {T : Type 0} (before mid now : ℕ) → before ≤ mid → (read : Result T Refusal) → IsCaused mid now read → (place : Locator) (r : Refusal) → read ≡ Err r → (result : Result NewestRuns Refusal)
    → IfOk result (λ f. f.damaged ≡ Some (record { place = place; refusal = r })) → IfOk result (λ f. IsDamageCaused before now f.damaged)
told_caused before mid now le read caused place r is (Ok f) damaged =
    subst (λ (d : Option DamagedRun). IsDamageCaused before now d) (sym damaged)
    (λ device. let rise = caused.failed (is ∙ ap Err device) in omega (arith, rise, le))
told_caused before mid now le read caused place r is (Err e) damaged = tt

-- what is before the newest ones
pub listed_more : (places : List Locator) (k j : ℕ) (run : StoredRun) (runs : List StoredRun) → k < length places → j ≡ length places - 1 - k → slice_get places j ≡ Some run.place
    → map (λ run. run.place) runs ≡ drop (length places - k) places → map (λ run. run.place) (run ∷ runs) ≡ drop (length places - (k + 1)) places
listed_more places k j run runs lt is at listed =
    let here : j ≡ length places - (k + 1) = omega (arith, lt, is) in
    let next : suc j ≡ length places - k = omega (arith, lt, is) in
    ap (λ (ls : List Locator). run.place ∷ ls) (listed ∙ ap (λ (n : ℕ). drop n places) (sym next)) ∙ sym (drop_some places j run.place at).0 ∙ ap (λ (n : ℕ). drop n places) here

module _ (honest : Type 0) (x : ExtentsState) (view : ℕ → List ℕ) (places : List Locator) where
  -- reading stops at one
  pub newest_stopped : (k : ℕ) (place : Locator) (r : Refusal) (runs : Vec StoredRun Global) → k < length places → slice_get places (length places - 1 - k) ≡ Some place
      → map (λ run. run.place) runs.items ≡ drop (length places - k) places → (honest → AllByRecursion (IsRunRescued x view) runs.items) → (honest → IsNoAnswer r ⊎ IsWhyNoRun x view place r)
      → (result : Result NewestRuns Refusal) → IfOk result (λ f. f.runs ≡ runs) → IfOk result (λ f. f.damaged ≡ Some (record { place = place; refusal = r })) → IfOk result (λ _. r ≢ OutOfMemory)
      → IfOk result (λ f. AreNewestRead honest x view places f.runs.items f.damaged)
  newest_stopped k place r runs lt at listed each why (Ok f) same damaged answered =
      let before : length places - 1 - k ≡ length places - k - 1 = omega (arith, lt) in
      subst (λ (d : Option DamagedRun). AreNewestRead honest x view places f.runs.items d) (sym damaged)
      (subst (λ (v : Vec StoredRun Global). AreNewestRead honest x view places v.items (Some (record { place = place; refusal = r }))) (sym same) (record {
        left = length places - k;
        no_more = omega arith;
        listed = listed;
        each = each;
        end = record {
          some = omega (arith, lt);
          last = subst (λ (n : ℕ). slice_get places n ≡ Some place) before at;
          answered = answered;
          why = λ h. ⊎_elim (λ (n : IsNoAnswer r). ⊎_elim (λ d. inl d) (λ m. absurd (answered m)) n) (λ (w : IsWhyNoRun x view place r). inr w) (why h);
        };
      }))
  newest_stopped k place r runs lt at listed each why (Err e) same damaged answered = tt

  -- or all are read
  pub newest_all : (k : ℕ) (runs : List StoredRun) → length places ≤ k → map (λ run. run.place) runs ≡ drop (length places - k) places → (honest → AllByRecursion (IsRunRescued x view) runs)
      → AreNewestRead honest x view places runs None
  newest_all k runs all listed each =
      let none : length places - k ≡ 0 = omega (arith, all) in
      record {
        left = length places - k;
        no_more = omega arith;
        listed = listed;
        each = each;
        end = none;
      }

-- what was read later was there before
module _ (before now : Type 0) (later : before → now) (x : ExtentsState) (old mid : ℕ → List ℕ) (same : before → mid ≡ old) (places : List Locator) where
  end_before : (left : ℕ) (damaged : Option DamagedRun) → IsEndOf now x mid places left damaged → IsEndOf before x old places left damaged
  end_before left None end = end
  end_before left (Some d) end = record {
    some = end.some;
    last = end.last;
    answered = end.answered;
    why = λ h. subst (λ (v : ℕ → List ℕ). (d.refusal ≡ DeviceFault) ⊎ IsWhyNoRun x v d.place d.refusal) (same h) (end.why (later h));
  }

  pub newest_before : (runs : List StoredRun) (damaged : Option DamagedRun) → AreNewestRead now x mid places runs damaged → AreNewestRead before x old places runs damaged
  newest_before runs damaged are = record {
    left = are.left;
    no_more = are.no_more;
    listed = are.listed;
    each = λ h. subst (λ (v : ℕ → List ℕ). AllByRecursion (IsRunRescued x v) runs) (same h) (are.each (later h));
    end = end_before are.left damaged are.end;
  }

-- the runs that were read are some of the root's
pub few_read : (honest : Type 0) (x : ExtentsState) (view : ℕ → List ℕ) (places : List Locator) (runs : List StoredRun) (damaged : Option DamagedRun) → AreNewestRead honest x view places runs damaged → (most : ℕ) → length places ≤ most → length runs ≤ most
few_read honest x view places runs damaged are most few = go
  where
    shorter : (n : ℕ) (ls : List Locator) → length (drop n ls) ≤ length ls
    shorter zero ls = omega arith
    shorter (suc n) [] = omega arith
    shorter (suc n) (l ∷ ls) = let le : length (drop n ls) ≤ length ls = shorter n ls in omega (arith, le)

    sized : (rs : List StoredRun) → length (map (λ run. run.place) rs) ≡ length rs
    sized [] = refl
    sized (r ∷ rs) = ap suc (sized rs)

    go : length runs ≤ most
    go = let a : length (map (λ run. run.place) runs) ≡ length runs = sized runs in
        let b : length (map (λ run. run.place) runs) ≡ length (drop are.left places) = ap length are.listed in
        let c : length (drop are.left places) ≤ length places = shorter are.left places in
        omega (arith, a, b, c, few)

-- what all of the root's places have their places have
pub of_all : (P : Locator → Type 0) (n : ℕ) (ls : List Locator) → AllByRecursion P ls → AllByRecursion P (drop n ls)
of_all P zero ls all = all
of_all P (suc n) [] all = tt
of_all P (suc n) (l ∷ ls) all = of_all P n ls all.1
