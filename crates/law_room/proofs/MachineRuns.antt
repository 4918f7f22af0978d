-- The frame of a run goes in room as in the machine.
use Rattle.std.proofs.Common.{◌≡◌, ◌≢◌, inl, inr, ℕ, zero, suc, ◌+◌, ◌<◌, ◌≤◌, ◌==◌, Bool, true, false, List, [], ◌∷◌, drop, Some, None, if◌then◌else◌, eq-eqb, refl, sym, ap, ◌∙◌, arith, le_refl}
use Rattle.std.proofs.lemmas.Bool.{cases_Bool, ne_eqb, true≢false}
use Rattle.law_machine.specs.Device.{Shape}
use Rattle.law_machine.specs.Element.{Run}
use Rattle.law_machine.specs.Extents.{Extents, ForMerge, ForRun, GoesApart, Takes, run_extents as machine_runs}
use Rattle.law_machine.specs.Lists.{with}
use Rattle.law_room.proofs.MachineGoes.{empty_here, empty_still, filled_grows, filled_here, holds_given, holds_runs, pointer_given, pointer_is, runs_counted}
use Rattle.law_room.specs.Events.{GoesForRun, OnEmpty, given, unless}
use Rattle.law_room.specs.OfMachine.{AreExtentsOf, IsFilled, holding, run_places}
use Rattle.law_room.specs.Rooms.{OfRuns, Room, run_extents}

pub places_dropped : (k : ℕ) (runs : List Run) → run_places (drop k runs) ≡ drop k (run_places runs)
places_dropped zero runs = refl
places_dropped (suc k) [] = refl
places_dropped (suc k) (run ∷ runs) = places_dropped k runs

module _ (S : Shape) (aside : ℕ → Bool) (x : Extents) (r : Room) (of : AreExtentsOf S aside x r)
    (aside_fresh : (e : ℕ) → aside e ≡ true → x.fresh ≡ Some e) where
  filled_aside : (e : ℕ) → (IsFilled S x e → ⊥) → aside e ≡ false
  filled_aside e not = elim (cases_Bool (aside e)) [
    | inl on ↦ absurd (not (of.noted.opened e (aside_fresh e on)))
    | inr off ↦ off
  ]

  -- a run may go there: behind runs, or onto an empty extent
  pub record IsForRun (e : ℕ) : Type 0 where
    pub exists : e < S.extents
    pub off : aside e ≡ false
    pub other : (d : ℕ) → x.of_runs d ≡ false → 0 < x.pointer d → d ≢ e

  behind_runs : (k e : ℕ) → Takes S x ForRun k e → IsForRun e
  behind_runs k e takes = record {
    exists = takes.0;
    off = filled_aside e (λ filled. true≢false (sym takes.2 ∙ filled.2));
    other = λ d chunks some same. true≢false (sym takes.2 ∙ ap x.of_runs (sym same) ∙ chunks);
  }

  on_empty : (e : ℕ) → e < S.extents → x.pointer e ≡ 0 → IsForRun e
  on_empty e lt none = record {
    exists = lt;
    off = filled_aside e (λ filled. (let some : 0 < x.pointer e = filled.1 in omega arith));
    other = λ d chunks some same. (let at : x.pointer d ≡ x.pointer e = ap x.pointer same in omega arith);
  }

  pub run_goes_there : (k e : ℕ) → GoesApart S x ForRun k e → GoesForRun S S.run_extents r k e × IsForRun e
  run_goes_there k e (inl (wrong, takes)) = absurd (let no : None ≡ Some e = wrong in cc)
  run_goes_there k e (inr (inl (full, first))) =
      let takes = first.0 in
      let at : IsForRun e = behind_runs k e takes in
      let fits : x.pointer e + k ≤ S.pages = takes.3 in
      let is : r.pointer e ≡ x.pointer e = pointer_is S aside x r of e takes.0 at.off in (
        inl (takes.0, filled_here S aside x r of e at.off takes.1 takes.0 true takes.2, omega arith),
        at,
      )
  run_goes_there k e (inr (inr (none, first, fits, more))) = (
    inr (
      (first.0, empty_here S aside x r of e first.0 first.1, fits),
      (let counted : run_extents r S.extents ≤ machine_runs x S.extents = runs_counted S aside x r of S.extents (le_refl _) in
          let few : machine_runs x S.extents < S.run_extents = more in omega arith),
    ),
    on_empty e first.0 first.1,
  )

  pub merge_goes_there : (k e : ℕ) → GoesApart S x ForMerge k e → OnEmpty S r k e × IsForRun e
  merge_goes_there k e (inl (wrong, takes)) = absurd takes
  merge_goes_there k e (inr (inl (full, first))) = absurd first.0
  merge_goes_there k e (inr (inr (none, first, fits, more))) =
      ((first.0, empty_here S aside x r of e first.0 first.1, fits), on_empty e first.0 first.1)

  -- y: the extents with k pages of e given to a run
  pub run_extents_are : (k e : ℕ) (y : Extents) → 0 < k → IsForRun e → y.pointer ≡ with x.pointer e (x.pointer e + k)
      → y.found ≡ x.found → y.of_runs ≡ (λ d. if d == e then true else x.of_runs d) → y.open_extent ≡ x.open_extent
      → y.last ≡ x.last → ((d : ℕ) → y.fresh ≡ Some d → x.fresh ≡ Some d)
      → AreExtentsOf S aside y (given r e k OfRuns)
  run_extents_are k e y some at pointer found runs opened last fresh =
      let others : (d : ℕ) → d ≢ e → y.of_runs d ≡ x.of_runs d = λ d not. ap (λ (f : ℕ → Bool). f d) runs ∙ off d not in
      let filled : (d : ℕ) → IsFilled S x d → IsFilled S y d = filled_grows S aside x r of e k y pointer found
      (λ c chunks some_there. others c (at.other c chunks some_there) ∙ chunks) in
      let up : 0 < y.pointer e = (let test : (e == e) ≡ true = eq-eqb e e refl in
      let is : y.pointer e ≡ x.pointer e + k = ap (λ (f : ℕ → ℕ). f e) pointer ∙ rw test refl in omega arith) in
      let there : holding y e ≡ OfRuns = holds_runs y e true up (ap (λ (f : ℕ → Bool). f e) runs
      ∙ (let test : (e == e) ≡ true = eq-eqb e e refl in rw test refl)) in record {
        pointer = λ d lt. pointer_given S aside x r of e k OfRuns y at.off pointer there others d lt;
        holds = λ d lt. holds_given S aside x r of e k OfRuns y at.off pointer there others d lt;
        open_extent = of.open_extent ∙ ap (unless aside) (sym opened);
        last = of.last ∙ ap (unless aside) (sym last);
        noted = record {
          appended = λ d is. filled d (of.noted.appended d (sym opened ∙ is));
          copied = λ d is. filled d (of.noted.copied d (sym last ∙ is));
          opened = λ d is. filled d (of.noted.opened d (fresh d is));
          empty = empty_still S aside x r of e k y some pointer found others;
        };
      }
    where
      off : (d : ℕ) → d ≢ e → (if d == e then true else x.of_runs d) ≡ x.of_runs d
      off d not = let test : (d == e) ≡ false = ne_eqb d e not in rw test refl
