-- Extents as a store is opened: on which of them runs lie, and which are emptied.
use Rattle.std.proofs.Common.{◌≡◌, inl, inr, ◌∙◌, ◌||◌, ◌==◌, ℕ, suc, ◌+◌, ◌<◌, ◌≤◌, Bool, true, false, if◌then◌else◌, List, [], ◌∷◌, get_or, length, take, eq-eqb, ne_eqb, true≢false, refl, sym, ap, subst, arith}
use Rattle.std.specs.Prelude.{slice_index}
use Rattle.std.proofs.lemmas.List.{take_all}
use Rattle.std.proofs.lemmas.Bool.{cases_Bool, cases_eq, cond-false, cond-true}
use Rattle.cs_extent.specs.State.{IsWhole, State as ExtentsState, extents_at, extents_of, found_at, shape}
use Rattle.cs_reader.proofs.Listed.{all_default}
use Rattle.cs_reader.proofs.Superblocks.{found_all}
use Rattle.law_refinement.specs.Images.{AreExtentsNoted}
use Rattle.cs_index.proofs.Newest.{newest_more}
use Rattle.cs_index.specs.declared.stored_runs.StoredRun.{StoredRun}
use Rattle.cs_index.specs.State.{State as IndexState, index_of, newest_first, run_of}
use Rattle.law_machine.proofs.ApartResets.{swept_stay}
use Rattle.law_machine.specs.Apart.{any_run_on, is_blank_by}
use Rattle.law_machine.specs.Element.{Copy, Run}
use Rattle.law_machine.specs.Extents.{Extents}
use Rattle.law_refinement.proofs.cs_reclaim.Freeing.{resets_within}
use Rattle.law_refinement.specs.cs_reclaim.Rooted.{freed_under, lying_apart}
use Rattle.cs_core.specs.Openings.{AreExtentsOpened}

-- ---- on which extents runs lie

-- one run more
module _ (x y z : ExtentsState) (runs : List StoredRun) (k e : ℕ) (run : StoredRun) (lt : k < length runs) (at : run ≡ get_or runs k run) (there : e ≡ run.place.extent) where
  newest : newest_first (take (k + 1) runs) ≡ run_of run ∷ newest_first (take k runs)
  newest = (let same : k + 1 ≡ suc k = omega arith in ap (λ (n : ℕ). newest_first (take n runs)) same) ∙ newest_more runs k run lt ∙ ap (λ (r : StoredRun). run_of r ∷ newest_first (take k runs)) (sym at)

  either : (d : ℕ) (rest old : Bool) → (if d == e then true else (rest || old)) ≡ (((run.place.extent == d) || rest) || old)
  either d rest old = elim (cases_eq d e) [
    | inl here ↦ cond-true (d == e) true (rest || old) (eq-eqb _ _ here) ∙ ap (λ (b : Bool). (b || rest) || old) (sym (eq-eqb _ _ (sym (here ∙ there))))
    | inr other ↦ cond-false (d == e) true (rest || old) (ne_eqb _ _ other) ∙ ap (λ (b : Bool). (b || rest) || old) (sym (ne_eqb _ _ (λ is. other (sym (there ∙ is)))))
  ]

  each : (d : ℕ) → (if d == e then true else (any_run_on (newest_first (take k runs)) d || (extents_of x).of_runs d))
      ≡ (any_run_on (newest_first (take (k + 1) runs)) d || (extents_of x).of_runs d)
  each d = either d (any_run_on (newest_first (take k runs)) d) ((extents_of x).of_runs d) ∙ ap (λ (rs : List Run). any_run_on rs d || (extents_of x).of_runs d) (sym newest)

  pub noted_more : extents_of y ≡ record (extents_of x) { of_runs = λ d. any_run_on (newest_first (take k runs)) d || (extents_of x).of_runs d }
      → extents_of z ≡ record (extents_of y) { of_runs = λ d. if d == e then true else (extents_of y).of_runs d }
      → extents_of z ≡ record (extents_of x) { of_runs = λ d. any_run_on (newest_first (take (k + 1) runs)) d || (extents_of x).of_runs d }
  noted_more was now =
      now ∙ ap (λ (u : Extents). record u { of_runs = λ d. if d == e then true else u.of_runs d }) was
      ∙ ap (λ (f : ℕ → Bool). record (extents_of x) { of_runs = f }) (λ i d. each d i)

-- all of them
pub noted_all : (x y : ExtentsState) (runs : List StoredRun) (k : ℕ) → length runs ≤ k
    → extents_of y ≡ record (extents_of x) { of_runs = λ e. any_run_on (newest_first (take k runs)) e || (extents_of x).of_runs e }
    → extents_of y ≡ record (extents_of x) { of_runs = λ e. any_run_on (newest_first runs) e || (extents_of x).of_runs e }
noted_all x y runs k all now = now ∙ ap (λ (rs : List StoredRun). record (extents_of x) { of_runs = λ e. any_run_on (newest_first rs) e || (extents_of x).of_runs e }) (take_all k runs all)

-- so it is noted of extents as they were read
pub are_noted : (x y : ExtentsState) (runs : List Run) → x ≡ extents_at x.format x.pages x.sections x.written → (shape x).apart ≡ true → shape y ≡ shape x
    → extents_of y ≡ record (extents_of x) { of_runs = λ e. any_run_on runs e || (extents_of x).of_runs e } → AreExtentsNoted x runs y
are_noted x y runs is on same now = record {
  same_shape = same;
  extents = now ∙ λ i. record (extents_of x) { of_runs = λ e. kinds e i; found = λ e. pages e i };
}
  where
    or_false : (a b : Bool) → b ≡ false → (a || b) ≡ a
    or_false true b none = refl
    or_false false b none = none

    kinds : (e : ℕ) → (any_run_on runs e || (extents_of x).of_runs e) ≡ any_run_on runs e
    kinds e = or_false (any_run_on runs e) ((extents_of x).of_runs e) (ap (λ (z : ExtentsState). (extents_of z).of_runs e) is ∙ all_default (length x.written) e false)

    pages : (e : ℕ) → (extents_of x).found e ≡ (extents_of x).pointer e
    pages e = ap (λ (z : ExtentsState). (extents_of z).found e) is ∙ ap (λ (b : Bool). slice_index (found_at b x.written) e) on ∙ found_all x.written e

-- ---- which are emptied

-- where chunks and runs may lie on one extent the extents are those that were read
pub opened_together : (x : ExtentsState) (i : IndexState) (root : ℕ) → (shape x).apart ≡ false → AreExtentsOpened x i root x
opened_together x i root rule = record { same_shape = refl; together = λ same. refl; apart = λ on. absurd (true≢false (sym on ∙ rule)) }

-- where they lie apart the blank ones were emptied, with no copies
pub opened_apart : (x noted y : ExtentsState) (i : IndexState) (copies : List Copy) (root : ℕ) → (shape x).apart ≡ true → IsWhole noted → AreExtentsNoted x i.runs noted → copies ≡ []
    → shape y ≡ shape noted → extents_of y ≡ freed_under (shape noted) (extents_of noted) i copies root → AreExtentsOpened x i root y
opened_apart x noted y i copies root rule whole are none same freed = record {
  same_shape = same ∙ are.same_shape;
  together = λ not. absurd (true≢false (sym rule ∙ not));
  apart = λ on. (noted, whole, are, freed ∙ ap (λ (cs : List Copy). freed_under (shape noted) (extents_of noted) i cs root) none);
}

-- no extent is marked that wasn't, and what was reset goes with the root
module _ (x y : ExtentsState) (i : IndexState) (root : ℕ) (opened : AreExtentsOpened x i root y) where
  pub none_swept : ((e : ℕ) → (extents_of x).swept e ≡ false) → (e : ℕ) → (extents_of y).swept e ≡ false
  none_swept none e = elim (cases_Bool (shape x).apart) [
    | inl on ↦ (let f = opened.apart on in
        ap (λ (u : Extents). u.swept e) f.3
        ∙ ap (λ (s : ℕ → Bool). s e) (swept_stay (lying_apart (shape f.0)) (extents_of f.0) root (is_blank_by (shape f.0) (extents_of f.0) (index_of i) i.runs []) (shape f.0).extents)
        ∙ ap (λ (u : Extents). u.swept e) f.2.extents ∙ none e)
    | inr not ↦ ap (λ (z : ExtentsState). (extents_of z).swept e) (opened.together not) ∙ none e
  ]

  pub resets_opened : ((e : ℕ) → (extents_of x).reset e ≤ root) → (e : ℕ) → (extents_of y).reset e ≤ root
  resets_opened old e = elim (cases_Bool (shape x).apart) [
    | inl on ↦ (let f = opened.apart on in
        subst (λ (u : Extents). u.reset e ≤ root) (sym f.3)
        (resets_within (lying_apart (shape f.0)) (extents_of f.0) root (is_blank_by (shape f.0) (extents_of f.0) (index_of i) i.runs []) root
        (λ d. subst (λ (u : Extents). u.reset d ≤ root) (sym f.2.extents) (old d)) (omega arith) (shape f.0).extents e))
    | inr not ↦ subst (λ (z : ExtentsState). (extents_of z).reset e ≤ root) (sym (opened.together not)) (old e)
  ]
