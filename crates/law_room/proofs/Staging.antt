-- A run and a root are staged.
use Rattle.std.proofs.Common.{◌≡◌, ◌⊎◌, inl, inr, ⊎_elim, ℕ, zero, suc, ◌+◌, ◌<◌, ◌≤◌, ◌==◌, true, false, List, [], ◌∷◌, drop, Option, Some, None, le_refl, le_trans, refl, sym, ap, ◌∙◌, subst, arith}
use Rattle.std.proofs.lemmas.Bool.{cases_Bool, cases_eq, or_cases, eqb-true, true≢false}
use Rattle.law_machine.specs.Device.{Shape}
use Rattle.law_machine.specs.Lists.{◌∈◌}
use Rattle.law_room.specs.Events.{Stages, freed, given, is_blank, staged}
use Rattle.law_room.specs.Invariant.{IsRoot, LiesRight, SweepsRight}
use Rattle.law_room.specs.Rooms.{Holding, OfChunks, OfRuns, Room, Root, Sweep, any_on, copied_pages, has, how_many, is_of_runs, live_pages, run_extents}
use Rattle.law_room.proofs.Chunks.{has_of}
use Rattle.law_room.proofs.Counts.{count_le, count_more, count_none, count_one}
use Rattle.law_room.proofs.Freeing.{freed_kept, freed_named, freed_only, freed_orderly, freed_run}
use Rattle.law_room.proofs.Given.{Orderly, chunks_not_empty, chunks_not_runs, given_covers, given_empty, given_fits, holds_here, holds_there, kind_stays, other_stays, pointer_there, runs_not_empty}
use Rattle.law_room.proofs.Resets.{fewer_runs}

in_dropped : (n : ℕ) (ds : List ℕ) (e : ℕ) → e ∈ drop n ds → e ∈ ds
in_dropped zero ds e has_it = has_it
in_dropped (suc n) [] e none = none
in_dropped (suc n) (d ∷ ds) e has_it = inr (in_dropped n ds e has_it)

abbrev with_runs : Room → List ℕ → List Root → Room
with_runs s runs roots = record s { runs = runs; rooted = true; roots = roots }

module _ (S : Shape) (J : ℕ) where
  -- what is known of t where a run was staged in s
  pub record IsStaged (s t : Room) : Type 0 where
    pub orderly : Orderly S J t
    pub only : (e : ℕ) → t.holds e ≡ OfChunks → s.holds e ≡ OfChunks
    pub named : s.sweep ≡ None → (e : ℕ) → t.holds e ≡ OfChunks → any_on s.chunks e ≡ true
    pub sweep : t.sweep ≡ s.sweep
    pub chunks : t.chunks ≡ s.chunks
    pub kept : (e : ℕ) → s.holds e ≡ OfChunks
        → ((t.holds e ≡ OfChunks) × (t.pointer e ≡ s.pointer e) × (s.last ≡ Some e → t.last ≡ Some e))
        ⊎ (t.holds e ≡ OfChunks → ⊥)

  pub root_is : (s : Room) → LiesRight S J s → how_many (any_on s.chunks) S.extents + J + 2 ≤ S.extents
      → how_many (has s.runs) S.extents ≤ J
      → IsRoot S J (record { chunks = s.chunks; runs = s.runs; pointers = s.pointer })
  root_is s lies few runs = record {
    few_chunks = few;
    few_runs = runs;
    apart = λ c has_it. elim (cases_Bool (has s.runs c.extent)) [
      | inl on ↦ absurd (chunks_not_runs (sym (lies.chunks c has_it).1 ∙ (lies.runs c.extent
          (has_of s.runs c.extent on)).1))
      | inr off ↦ off
    ];
    chunks_there = λ c has_it. (lies.chunks c has_it).0;
    runs_there = λ e has_it. (lies.runs e has_it).0;
    given = λ e lt. let all : live_pages s.chunks e + copied_pages s.chunks e ≤ s.pointer e = lies.given e lt in
        omega arith;
  }

  -- a run goes to e
  run_lies : (s : Room) (e k : ℕ) (runs : List ℕ) (roots : List Root) → LiesRight S J s → e < S.extents
      → (s.holds e ≡ OfChunks → ⊥) → s.pointer e + k ≤ S.pages → ((d : ℕ) → d ∈ runs → (d ≡ e) ⊎ (d ∈ s.runs))
      → LiesRight S J (with_runs (given s e k OfRuns) runs roots)
  run_lies s e k runs roots lies there not fits from = record {
    given = given_covers s e k OfRuns S.extents (λ d. live_pages s.chunks d + copied_pages s.chunks d)
        (λ d. live_pages s.chunks d + copied_pages s.chunks d) lies.given (omega arith) (λ d other. le_refl _);
    fits = given_fits s e k OfRuns S.extents S.pages lies.fits fits;
    empty = given_empty s e k OfRuns runs_not_empty lies.empty;
    chunks = λ c has_it. let old = lies.chunks c has_it in
        (old.0, other_stays s e k OfRuns c.extent OfChunks old.1 not);
    runs = λ d has_it. ⊎_elim
        (λ same. subst (λ (x : ℕ). (x < S.extents) × ((given s e k OfRuns).holds x ≡ OfRuns)) (sym same)
        (there, holds_here s e k OfRuns))
        (λ more. let old = lies.runs d more in (old.0, kind_stays s e k OfRuns d old.1))
        (from d has_it);
  }

  run_sweeps : (s : Room) (e k : ℕ) (runs : List ℕ) (roots : List Root) → (s.holds e ≡ OfChunks → ⊥)
      → (o : Option Sweep) → SweepsRight S J s o → SweepsRight S J (with_runs (given s e k OfRuns) runs roots) o
  run_sweeps s e k runs roots not None none = none
  run_sweeps s e k runs roots not (Some w) sweep = record {
    swept = (sweep.swept.0, other_stays s e k OfRuns w.extent OfChunks sweep.swept.1 not);
    targets = λ d has_it. let old = sweep.targets d has_it in
        (old.0, other_stays s e k OfRuns d OfChunks old.1 not, old.2);
    copies = sweep.copies;
    fresh = λ f at. let old = sweep.fresh f at in (
      old.0,
      old.1,
      old.2,
      rw (pointer_there s e k OfRuns f (λ same. not (ap s.holds (sym same)
          ∙ (sweep.targets f old.0).1))) old.3,
    );
  }

  abbrev root_now : Room → List ℕ → Root
  root_now s runs = record { chunks = s.chunks; runs = runs; pointers = s.pointer }

  -- of s with a run on e
  written : (s : Room) (e k : ℕ) (runs : List ℕ) → Orderly S J s → e < S.extents
      → (s.holds e ≡ OfChunks → ⊥) → s.pointer e + k ≤ S.pages → ((d : ℕ) → d ∈ runs → (d ≡ e) ⊎ (d ∈ s.runs))
      → how_many (any_on s.chunks) S.extents + J + 2 ≤ S.extents → how_many (has runs) S.extents ≤ J
      → IsStaged s (staged (given s e k OfRuns) runs)
  written s e k runs keeps there not fits from few few_runs =
      let s1 : Room = with_runs (given s e k OfRuns) runs (root_now (given s e k OfRuns) runs ∷ s.roots) in
      let lies : LiesRight S J s1 = run_lies s e k runs (root_now (given s e k OfRuns) runs ∷ s.roots) keeps.lies there
      not fits from in
      let sweeps : SweepsRight S J s1 s.sweep = run_sweeps s e k runs (root_now (given s e k OfRuns) runs ∷ s.roots) not
      s.sweep keeps.sweeps in record {
        orderly = freed_orderly S J s1 lies sweeps
            (λ r has_it. ⊎_elim
            (λ is. subst (λ (x : Root). IsRoot S J x) (sym is) (root_is s1 lies few few_runs))
            (λ more. keeps.roots r more) has_it)
            (le_trans (count_le (λ d. is_of_runs ((freed s1).holds d)) (has runs) S.extents
            (λ d lt on. freed_run S J s1 lies sweeps d on)) few_runs);
        only = λ d is. before d (freed_only S J s1 d is);
        named = λ no_sweep d is. freed_named S J s1 lies no_sweep d is;
        sweep = refl;
        chunks = refl;
        kept = λ d is. ⊎_elim
            (λ same. inl (same.0, same.1 ∙ pointer_there s e k OfRuns d (λ at. not (ap s.holds (sym at) ∙ is)), same.2))
            (λ gone. inr (λ there. chunks_not_empty (sym there ∙ gone)))
            (freed_kept S J s1 d (other_stays s e k OfRuns d OfChunks is not));
      }
    where
      before : (d : ℕ) → (given s e k OfRuns).holds d ≡ OfChunks → s.holds d ≡ OfChunks
      before d is = elim (cases_eq d e) [
        | inl same ↦ absurd (chunks_not_runs (sym is ∙ subst (λ (x : ℕ). (given s e k OfRuns).holds x ≡ OfRuns)
            (sym same) (holds_here s e k OfRuns)))
        | inr other ↦ sym (holds_there s e k OfRuns d other) ∙ is
      ]

  same_sweeps : (s : Room) (runs : List ℕ) (roots : List Root) (o : Option Sweep) → SweepsRight S J s o
      → SweepsRight S J (with_runs s runs roots) o
  same_sweeps s runs roots None none = none
  same_sweeps s runs roots (Some w) sweep = record {
    swept = sweep.swept;
    targets = sweep.targets;
    copies = sweep.copies;
    fresh = sweep.fresh;
  }

  -- nothing is to be staged
  unchanged : (s : Room) → Orderly S J s → IsStaged s (freed s)
  unchanged s keeps = record {
    orderly = freed_orderly S J s keeps.lies keeps.sweeps keeps.roots
        (le_trans (fewer_runs s (is_blank s) S.extents) keeps.runs);
    only = freed_only S J s;
    named = freed_named S J s keeps.lies;
    sweep = refl;
    chunks = refl;
    kept = λ e is. ⊎_elim (λ same. inl same) (λ gone. inr (λ there. chunks_not_empty (sym there ∙ gone)))
        (freed_kept S J s e is);
  }

  -- no run is there any more
  emptied : (s : Room) → Orderly S J s → how_many (any_on s.chunks) S.extents + J + 2 ≤ S.extents
      → IsStaged s (staged s [])
  emptied s keeps few =
      let s1 : Room = with_runs s [] (root_now s [] ∷ s.roots) in
      let lies : LiesRight S J s1 = record {
        given = keeps.lies.given;
        fits = keeps.lies.fits;
        empty = keeps.lies.empty;
        chunks = keeps.lies.chunks;
        runs = λ e none. absurd none;
      } in
      let none_there : how_many (has []) S.extents ≡ 0 = count_none (has []) S.extents (λ e lt. refl) in
      record {
        orderly = freed_orderly S J s1 lies (same_sweeps s [] (root_now s [] ∷ s.roots) s.sweep keeps.sweeps)
            (λ r has_it. ⊎_elim
            (λ is. subst (λ (x : Root). IsRoot S J x) (sym is) (root_is s1 lies few (omega arith)))
            (λ more. keeps.roots r more) has_it)
            (le_trans (fewer_runs s1 (is_blank s1) S.extents) keeps.runs);
        only = freed_only S J s1;
        named = freed_named S J s1 lies;
        sweep = refl;
        chunks = refl;
        kept = λ e is. ⊎_elim (λ same. inl same) (λ gone. inr (λ there. chunks_not_empty (sym there ∙ gone)))
            (freed_kept S J s1 e is);
      }

  runs_there : (s : Room) (n e : ℕ) → Orderly S J s → (d : ℕ) → has (e ∷ drop n s.runs) d ≡ true
      → (is_of_runs (s.holds d) ≡ true) ⊎ (d ≡ e)
  runs_there s n e keeps d on = ⊎_elim
      (λ here. inr (sym (eqb-true e d here)))
      (λ more. inl (ap (λ (h : Holding). is_of_runs h)
      (keeps.lies.runs d (in_dropped n s.runs d (has_of (drop n s.runs) d more))).1))
      (or_cases (e == d) (has (drop n s.runs) d) on)

  pub stage_is : (s t : Room) (newest pages all : ℕ) → 1 ≤ J → Orderly S J s
      → how_many (any_on s.chunks) S.extents + J + 2 ≤ S.extents → Stages S J s newest pages all t → IsStaged s t
  stage_is s t newest pages all some keeps few (inl same) = rw same.1 (unchanged s keeps)
  stage_is s t newest pages all some keeps few (inr (inl run)) = rw run.3 (⊎_elim
      (λ behind. written s run.1 pages (run.1 ∷ drop newest s.runs) keeps behind.0
      (λ is. chunks_not_runs (sym is ∙ behind.1)) behind.2
      (λ d has_it. ⊎_elim (λ here. inl here) (λ more. inr (in_dropped newest s.runs d more)) has_it) few
      (le_trans (count_le (has (run.1 ∷ drop newest s.runs)) (λ d. is_of_runs (s.holds d)) S.extents
      (λ d lt on. ⊎_elim (λ there. there)
      (λ at. ap (λ (h : Holding). is_of_runs h) (ap s.holds at ∙ behind.1))
      (runs_there s newest run.1 keeps d on))) keeps.runs))
      (λ empty. let none : s.pointer run.1 ≡ 0 = keeps.lies.empty run.1 empty.0.1 in
      let fits : pages ≤ S.pages = empty.0.2 in
      let more : how_many (has (run.1 ∷ drop newest s.runs)) S.extents ≤ suc (run_extents s S.extents) =
      count_more (has (run.1 ∷ drop newest s.runs)) (λ d. is_of_runs (s.holds d)) run.1 S.extents
      (λ d lt on. runs_there s newest run.1 keeps d on) in
      let room : run_extents s S.extents < J = empty.1 in
      written s run.1 pages (run.1 ∷ drop newest s.runs) keeps empty.0.0
      (λ is. chunks_not_empty (sym is ∙ empty.0.1)) (omega arith)
      (λ d has_it. ⊎_elim (λ here. inl here) (λ rest. inr (in_dropped newest s.runs d rest)) has_it) few (omega arith))
      run.2)
  stage_is s t newest pages all some keeps few (inr (inr (inl run))) = rw run.3 (
      let empty = run.2 in
      let none : s.pointer run.1 ≡ 0 = keeps.lies.empty run.1 empty.1 in
      let fits : all ≤ S.pages = empty.2 in
      let one : how_many (has (run.1 ∷ [])) S.extents ≤ 1 = count_one (has (run.1 ∷ [])) run.1 S.extents
      (λ d lt on. ⊎_elim (λ here. sym (eqb-true run.1 d here)) (λ more. absurd (true≢false (sym more)))
      (or_cases (run.1 == d) false on)) in
      written s run.1 all (run.1 ∷ []) keeps empty.0 (λ is. chunks_not_empty (sym is ∙ empty.1)) (omega arith)
      (λ d has_it. ⊎_elim (λ here. inl here) (λ more. absurd more) has_it) few (omega arith))
  stage_is s t newest pages all some keeps few (inr (inr (inr nothing))) = rw nothing.2 (emptied s keeps few)

  pub stage_leaves : (s t : Room) (newest pages all : ℕ) → Stages S J s newest pages all t
      → (t.chunks ≡ s.chunks) × (t.sweep ≡ s.sweep)
  stage_leaves s t newest pages all (inl same) = rw same.1 (refl, refl)
  stage_leaves s t newest pages all (inr (inl run)) = rw run.3 (refl, refl)
  stage_leaves s t newest pages all (inr (inr (inl run))) = rw run.3 (refl, refl)
  stage_leaves s t newest pages all (inr (inr (inr nothing))) = rw nothing.2 (refl, refl)
