-- What the newest root names stands.
use Rattle.std.proofs.Common.{◌≡◌, ◌≢◌, ◌⊎◌, inl, inr, ⊎_elim, ℕ, ◌==◌, true, false, ◌||◌, List, [], ◌∷◌, drop, Option, Some, None, le_refl, le_trans, refl, sym, ap, ◌∙◌, subst, arith}
use Rattle.std.proofs.lemmas.Bool.{cases_Bool, cases_eq, eqb-true, not-true, or_cases, or_from, or_parts, true≢false}
use Rattle.law_machine.specs.Device.{Shape}
use Rattle.law_room.specs.Events.{GoesForPut, GoesForRun, Stages, Writes, freed, given, is_blank, is_held, with_chunk}
use Rattle.law_room.specs.Invariant.{Grows, IsReset, Keeps, KeepsNewest, SweepsRight}
use Rattle.law_room.specs.Rooms.{Empty, Holding, OfChunks, OfRuns, Room, Root, Sweep, any_on, fresh_of, has, is_at, is_named}
use Rattle.law_room.proofs.Chunks.{any_of, has_of}
use Rattle.law_room.proofs.Given.{chunks_not_empty, chunks_not_runs, holds_here, holds_there, pointer_here, pointer_there, runs_not_empty}
use Rattle.law_room.proofs.Resets.{kept_holds, kept_pointer, reset_holds}

both_grow : (s m t : Room) (e : ℕ) → Grows s m e → Grows m t e → Grows s t e
both_grow s m t e a b = (
  le_trans a.0 b.0,
  ⊎_elim (λ empty. inl empty)
      (λ same. ⊎_elim (λ empty. inl (sym same ∙ empty)) (λ more. inr (more ∙ same)) b.1) a.1,
)

pub given_grows : (s : Room) (e k : ℕ) (kind : Holding) → (s.holds e ≡ kind) ⊎ (s.holds e ≡ Empty) → (d : ℕ)
    → Grows s (given s e k kind) d
given_grows s e k kind was d = elim (cases_eq d e) [
  | inl same ↦ subst (λ (x : ℕ). Grows s (given s e k kind) x) (sym same) (
    rw (pointer_here s e k kind) (omega arith),
    ⊎_elim (λ is. inr (holds_here s e k kind ∙ sym is)) (λ empty. inl empty) was,
  )
  | inr other ↦ (rw (pointer_there s e k kind d other) (le_refl _), inr (holds_there s e k kind d other))
]

pub not_empty : (s t : Room) (e : ℕ) → Grows s t e → s.holds e ≢ Empty → t.holds e ≢ Empty
not_empty s t e grows some is = ⊎_elim (λ empty. some empty) (λ same. some (sym same ∙ is)) grows.1

module _ (S : Shape) (J : ℕ) where
  -- an extent on which something lies isn't empty, and the sweep didn't open it
  pub named_stands : (t : Room) → Keeps S J t → (e : ℕ) → (any_on t.chunks e || has t.runs e) ≡ true
      → (t.holds e ≢ Empty) × (is_at (fresh_of t.sweep) e ≡ false)
  named_stands t keeps e on = ⊎_elim
      (λ chunk. let found = any_of t.chunks e chunk in
      let is : t.holds e ≡ OfChunks = subst (λ (x : ℕ). t.holds x ≡ OfChunks) found.2
      (keeps.lies.chunks found.0 found.1).1 in
      ((λ empty. chunks_not_empty (sym is ∙ empty)), no_chunk t.sweep keeps.sweeps chunk))
      (λ run. let is : t.holds e ≡ OfRuns = (keeps.lies.runs e (has_of t.runs e run)).1 in
      ((λ empty. runs_not_empty (sym is ∙ empty)), no_run t.sweep keeps.sweeps is))
      (or_cases (any_on t.chunks e) (has t.runs e) on)
    where
      fresh_not : (w : Sweep) (o : Option ℕ) → w.fresh ≡ o → ((f : ℕ) → w.fresh ≡ Some f → f ≢ e) → is_at o e ≡ false
      fresh_not w None is apart = refl
      fresh_not w (Some f) is apart = elim (cases_Bool (f == e)) [
        | inl same ↦ absurd (apart f is (eqb-true f e same))
        | inr off ↦ off
      ]

      no_chunk : (o : Option Sweep) → SweepsRight S J t o → any_on t.chunks e ≡ true → is_at (fresh_of o) e ≡ false
      no_chunk None none there = refl
      no_chunk (Some w) sweep there = fresh_not w w.fresh refl (λ f at same. true≢false (sym there
          ∙ subst (λ (x : ℕ). any_on t.chunks x ≡ false) same (sweep.fresh f at).2))

      no_run : (o : Option Sweep) → SweepsRight S J t o → t.holds e ≡ OfRuns → is_at (fresh_of o) e ≡ false
      no_run None none is = refl
      no_run (Some w) sweep is = fresh_not w w.fresh refl (λ f at same. chunks_not_runs (sym
          (subst (λ (x : ℕ). t.holds x ≡ OfChunks) same (sweep.targets f (sweep.fresh f at).0).1) ∙ is))

  -- the newest root is of now
  pub newest_now : (t : Room) (r : Root) (older : List Root) → Keeps S J t → t.roots ≡ r ∷ older
      → ((e : ℕ) → is_named r e ≡ true → (any_on t.chunks e || has t.runs e) ≡ true) → KeepsNewest S J t
  newest_now t r older keeps first now = record {
    newest = r;
    older = older;
    first = first;
    stands = λ e on. named_stands t keeps e (now e on);
    lives = λ rooted. now;
  }

  -- the newest root stays, the extents grow, and the table isn't empty
  pub newest_grows : (s t : Room) → KeepsNewest S J s → t.roots ≡ s.roots → t.sweep ≡ s.sweep → t.rooted ≡ false
      → ((e : ℕ) → Grows s t e) → KeepsNewest S J t
  newest_grows s t keeps roots sweep rooted grows = record {
    newest = keeps.newest;
    older = keeps.older;
    first = roots ∙ keeps.first;
    stands = λ e on. let old = keeps.stands e on in
        (not_empty s t e (grows e) old.0, ap (λ (o : Option Sweep). is_at (fresh_of o) e) sweep ∙ old.1);
    lives = λ is. absurd (true≢false (sym is ∙ rooted));
  }

  put_was : (s : Room) (k e : ℕ) → GoesForPut S s k e → (s.holds e ≡ OfChunks) ⊎ (s.holds e ≡ Empty)
  put_was s k e (inl on) = inl on.1.0.1
  put_was s k e (inr (inl behind)) = inl behind.1.0.1
  put_was s k e (inr (inr empty)) = inr empty.1.1

  -- frames that are written change nothing of the roots
  pub record IsWriting (s t : Room) : Type 0 where
    pub roots : t.roots ≡ s.roots
    pub sweep : t.sweep ≡ s.sweep
    pub rooted : t.rooted ≡ s.rooted
    pub grows : (e : ℕ) → Grows s t e

  pub writing : (sizes : List ℕ) (s : Room) (id : ℕ) (t : Room) → Writes S s id sizes t → IsWriting s t
  writing [] s id t is = rw is (record {
    roots = refl;
    sweep = refl;
    rooted = refl;
    grows = λ e. (le_refl _, inr refl);
  })
  writing (k ∷ ks) s id t writes =
      let rest : IsWriting (with_chunk S s id k writes.0) t = writing ks (with_chunk S s id k writes.0) id t writes.2 in
      let first : (e : ℕ) → Grows s (given s writes.0 k OfChunks) e = given_grows s writes.0 k OfChunks
      (put_was s k writes.0 writes.1) in record {
        roots = rest.roots;
        sweep = rest.sweep;
        rooted = rest.rooted;
        grows = λ e. both_grow s (with_chunk S s id k writes.0) t e (first e) (rest.grows e);
      }

  -- what is freed isn't named, and all else stays
  pub freed_right : (s : Room) (e : ℕ) → ((r : Root) (older : List Root) → s.roots ≡ r ∷ older → is_named r e ≡ true
      → (any_on s.chunks e || has s.runs e) ≡ true) → Grows s (freed s) e ⊎ IsReset (freed s) e
  freed_right s e now = elim (cases_Bool (is_blank s e)) [
    | inl on ↦ inr (
      reset_holds s (is_blank s) e on,
      (λ r older first. elim (cases_Bool (is_named r e)) [
        | inr off ↦ off
        | inl named ↦ absurd (true≢false (sym (now r older first named) ∙ blank_not on))
      ]),
    )
    | inr off ↦ inl ((rw (kept_pointer s (is_blank s) e off) (le_refl _)), inr (kept_holds s (is_blank s) e off))
  ]
    where
      blank_not : is_blank s e ≡ true → (any_on s.chunks e || has s.runs e) ≡ false
      blank_not on =
          let all = or_parts (any_on s.chunks e) (has s.runs e || is_held s.sweep e) (not-true _ on) in
          let runs = or_parts (has s.runs e) (is_held s.sweep e) all.1 in
          or_from (any_on s.chunks e) (has s.runs e) all.0 runs.0

  same_root : (r x : Root) (rs older : List Root) → r ∷ rs ≡ x ∷ older → r ≡ x
  same_root r x rs older is = cc

  -- what was named of s before it was freed
  abbrev Named : Room → Type 0
  Named s = (r : Root) (older : List Root) → s.roots ≡ r ∷ older → (e : ℕ) → is_named r e ≡ true
      → (any_on s.chunks e || has s.runs e) ≡ true

  named_of : (s : Room) → KeepsNewest S J s → s.rooted ≡ true → Named s
  named_of s keeps rooted r older first e on = keeps.lives rooted e
      (subst (λ (x : Root). is_named x e ≡ true) (same_root r keeps.newest older keeps.older (sym first ∙ keeps.first)) on)

  abbrev now_of : Room → List ℕ → Root
  now_of s runs = record { chunks = s.chunks; runs = runs; pointers = s.pointer }

  abbrev rooted_over : Room → List ℕ → Room
  rooted_over s runs = record s { runs = runs; rooted = true; roots = now_of s runs ∷ s.roots }

  staged_named : (s : Room) (runs : List ℕ) → Named (rooted_over s runs)
  staged_named s runs r older first e on = subst (λ (x : Root). is_named x e ≡ true)
      (sym (same_root (now_of s runs) r s.roots older first)) on

  -- a Stage, of s or of what is settled
  pub stage_newest : (s t : Room) (newest pages all : ℕ) → Keeps S J t → KeepsNewest S J s → Stages S J s newest pages all t
      → KeepsNewest S J t
  stage_newest s t newest pages all keeps old (inl same) = newest_now t old.newest old.older keeps
      (rw same.1 old.first) (rw same.1 (old.lives same.0))
  stage_newest s t newest pages all keeps old (inr (inl run)) = newest_now t
      (now_of (given s run.1 pages OfRuns) (run.1 ∷ drop newest s.runs)) s.roots keeps (rw run.3 refl)
      (rw run.3 (λ e on. on))
  stage_newest s t newest pages all keeps old (inr (inr (inl run))) = newest_now t
      (now_of (given s run.1 all OfRuns) (run.1 ∷ [])) s.roots keeps (rw run.3 refl) (rw run.3 (λ e on. on))
  stage_newest s t newest pages all keeps old (inr (inr (inr nothing))) = newest_now t (now_of s []) s.roots keeps
      (rw nothing.2 refl) (rw nothing.2 (λ e on. on))

  then_freed : (s s1 : Room) → ((e : ℕ) → Grows s s1 e) → Named s1 → (e : ℕ)
      → Grows s (freed s1) e ⊎ IsReset (freed s1) e
  then_freed s s1 grows named e = ⊎_elim (λ more. inl (both_grow s s1 (freed s1) e (grows e) more)) (λ gone. inr gone)
      (freed_right s1 e (λ r older first on. named r older first e on))

  run_was : (s : Room) (k e : ℕ) → GoesForRun S J s k e → (s.holds e ≡ OfRuns) ⊎ (s.holds e ≡ Empty)
  run_was s k e (inl behind) = inl behind.1
  run_was s k e (inr empty) = inr empty.0.1

  pub stage_resets : (s t : Room) (newest pages all : ℕ) → KeepsNewest S J s → Stages S J s newest pages all t → (e : ℕ)
      → Grows s t e ⊎ IsReset t e
  stage_resets s t newest pages all old (inl same) = rw same.1 (then_freed s s (λ e. (le_refl _, inr refl))
      (named_of s old same.0))
  stage_resets s t newest pages all old (inr (inl run)) = rw run.3 (then_freed s
      (rooted_over (given s run.1 pages OfRuns) (run.1 ∷ drop newest s.runs))
      (λ e. given_grows s run.1 pages OfRuns (run_was s pages run.1 run.2) e)
      (staged_named (given s run.1 pages OfRuns) (run.1 ∷ drop newest s.runs)))
  stage_resets s t newest pages all old (inr (inr (inl run))) = rw run.3 (then_freed s
      (rooted_over (given s run.1 all OfRuns) (run.1 ∷ []))
      (λ e. given_grows s run.1 all OfRuns (inr run.2.1) e)
      (staged_named (given s run.1 all OfRuns) (run.1 ∷ [])))
  stage_resets s t newest pages all old (inr (inr (inr nothing))) = rw nothing.2 (then_freed s (rooted_over s [])
      (λ e. (le_refl _, inr refl)) (staged_named s []))
