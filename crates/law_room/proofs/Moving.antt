-- A copy is written, and what lies right goes on lying right.
use Rattle.std.proofs.Common.{◌≡◌, ◌≢◌, ◌⊎◌, inl, inr, ⊎_elim, ℕ, suc, ◌+◌, ◌<◌, ◌≤◌, ◌==◌, Bool, true, false, ◌&&◌, ◌||◌, List, [], ◌∷◌, ◌++◌, Option, Some, None, le_trans, le_of_eq, refl, sym, ap, ◌∙◌, subst, arith}
use Rattle.std.specs.Prelude.{is_none}
use Rattle.std.proofs.lemmas.Bool.{and_right, cases_Bool, cases_eq, eq-eqb, ne_eqb}
use Rattle.law_machine.specs.Device.{Shape}
use Rattle.law_machine.specs.Lists.{◌∈◌}
use Rattle.law_room.specs.Events.{GoesForCopy, IsLeft, TakesCopy, with_copy}
use Rattle.law_room.specs.Invariant.{IsSweep, Keeps, LiesRight, SweepsRight}
use Rattle.law_room.specs.Rooms.{Chunk, Empty, Holding, OfChunks, OfRuns, Room, Sweep, any_on, chunk_extents, copied_pages, is_at, is_of_chunks, is_of_runs, left_pages, live_pages, one_if, opened_by, run_extents}
use Rattle.law_room.proofs.Chunks.{any_of, in_middle, middle_in, sum_gone, sum_same}
use Rattle.law_room.proofs.Counts.{count_le, count_more, runs_is}
use Rattle.law_room.proofs.Given.{chunks_not_empty, chunks_not_runs, given_covers, given_empty, given_fits, holds_here, holds_there, kind_stays, other_stays, pointer_here, runs_not_empty}
use Rattle.law_room.proofs.Places.{left_fits, left_here, sweep_of}

abbrev pub copied_to : Chunk → ℕ → Chunk
copied_to c e = record c { copy = Some e }

pub any_same : (xs ys : List Chunk) (c d : Chunk) (e : ℕ) → c.extent ≡ d.extent
    → any_on (xs ++ c ∷ ys) e ≡ any_on (xs ++ d ∷ ys) e
any_same [] ys c d e is = ap (λ (x : ℕ). (x == e) || any_on ys e) is
any_same (x ∷ xs) ys c d e is = ap (λ (b : Bool). (x.extent == e) || b) (any_same xs ys c d e is)

-- one chunk that isn't copied is copied to e
module _ (before behind : List Chunk) (c : Chunk) (e : ℕ) (none : c.copy ≡ None) where
  pub copy_live : (d : ℕ) → live_pages (before ++ copied_to c e ∷ behind) d ≡ live_pages (before ++ c ∷ behind) d
  copy_live d = sum_same before behind (λ x. x.extent == d) (copied_to c e) c refl refl

  pub copy_here : copied_pages (before ++ copied_to c e ∷ behind) e ≡ c.pages + copied_pages (before ++ c ∷ behind) e
  copy_here = sum_gone before behind (λ x. is_at x.copy e) (copied_to c e) c (eq-eqb e e refl)
      (ap (λ (o : Option ℕ). is_at o e) none)

  pub copy_there : (d : ℕ) → d ≢ e → copied_pages (before ++ copied_to c e ∷ behind) d
      ≡ copied_pages (before ++ c ∷ behind) d
  copy_there d other = sum_same before behind (λ x. is_at x.copy d) (copied_to c e) c
      (ne_eqb e d (λ same. other (sym same)) ∙ sym (ap (λ (o : Option ℕ). is_at o d) none)) refl

  pub copy_left : (x : ℕ) → ((c.extent == x) && is_none c.copy) ≡ true → left_pages (before ++ c ∷ behind) x
      ≡ c.pages + left_pages (before ++ copied_to c e ∷ behind) x
  copy_left x on = sum_gone before behind (λ y. (y.extent == x) && is_none y.copy) c (copied_to c e) on
      (and_right (c.extent == x) false refl)

-- what is known where a copy of c goes to e
pub record IsCopied (S : Shape) (s : Room) (w : Sweep) (before : List Chunk) (c : Chunk) (behind : List Chunk) (e : ℕ)
    (fresh : Option ℕ) : Type 0 where
  pub chunks : s.chunks ≡ before ++ c ∷ behind
  pub left : IsLeft S w c
  pub goes : GoesForCopy S s w c.pages e fresh

module _ (S : Shape) (J : ℕ) (s : Room) (w : Sweep) (before : List Chunk) (c : Chunk) (behind : List Chunk) (e : ℕ)
    (fresh : Option ℕ) (keeps : Keeps S J s) (is : s.sweep ≡ Some w)
    (copied : IsCopied S s w before c behind e fresh) where
  abbrev moved : Room
  moved = with_copy S s w before c behind e fresh

  sweep : IsSweep S J s w
  sweep = sweep_of S J s w keeps is

  has_it : c ∈ s.chunks
  has_it = subst (λ (cs : List Chunk). c ∈ cs) (sym copied.chunks) (middle_in before behind c)

  -- what is left before and after
  pub left_before : left_pages s.chunks w.extent ≡ c.pages + left_pages moved.chunks w.extent
  left_before = ap (λ (cs : List Chunk). left_pages cs w.extent) copied.chunks
      ∙ copy_left before behind c e copied.left.1 w.extent (left_here S J w c copied.left)

  fits_last : (f : ℕ) → w.fresh ≡ Some f → TakesCopy S s w c.pages f
  fits_last f at =
      let old = sweep.fresh f at in
      let target = sweep.targets f old.0 in
      let all : s.pointer f + left_pages s.chunks w.extent ≤ S.pages = old.3 in
      let same : left_pages s.chunks w.extent ≡ c.pages + left_pages moved.chunks w.extent = left_before in
      ((target.0, target.1, omega arith), target.2)

  -- where the copy goes
  there : (e < S.extents) × (s.pointer e + c.pages ≤ S.pages) × (e ≢ w.extent) × (s.holds e ≡ OfRuns → ⊥)
  there = go copied.goes
    where
      behind_chunks : TakesCopy S s w c.pages e → (e < S.extents) × (s.pointer e + c.pages ≤ S.pages) × (e ≢ w.extent)
          × (s.holds e ≡ OfRuns → ⊥)
      behind_chunks takes = (takes.0.0, takes.0.2, takes.1, (λ runs. chunks_not_runs (sym takes.0.1 ∙ runs)))

      go : GoesForCopy S s w c.pages e fresh → (e < S.extents) × (s.pointer e + c.pages ≤ S.pages) × (e ≢ w.extent)
          × (s.holds e ≡ OfRuns → ⊥)
      go (inl last) = behind_chunks last.1
      go (inr (inl other)) = behind_chunks other.1
      go (inr (inr empty)) = (
        empty.1.0,
        (let none : s.pointer e ≡ 0 = keeps.lies.empty e empty.1.1 in let small : c.pages ≤ S.pages = empty.1.2 in
            omega arith),
        (λ same. chunks_not_empty (sym sweep.swept.1 ∙ ap s.holds (sym same) ∙ empty.1.1)),
        (λ runs. runs_not_empty (sym runs ∙ empty.1.1)),
      )

  in_old : (x : Chunk) → x ∈ moved.chunks → (x ≡ copied_to c e) ⊎ (x ∈ s.chunks)
  in_old x got = ⊎_elim (λ here. inl here)
      (λ more. inr (subst (λ (cs : List Chunk). x ∈ cs) (sym copied.chunks) more))
      (in_middle before behind (copied_to c e) x c got)

  pub moved_live : (d : ℕ) → live_pages moved.chunks d ≡ live_pages s.chunks d
  moved_live d = copy_live before behind c e copied.left.1 d
      ∙ ap (λ (cs : List Chunk). live_pages cs d) (sym copied.chunks)

  pub moved_here : copied_pages moved.chunks e ≡ c.pages + copied_pages s.chunks e
  moved_here = copy_here before behind c e copied.left.1
      ∙ ap (λ (cs : List Chunk). c.pages + copied_pages cs e) (sym copied.chunks)

  pub moved_there : (d : ℕ) → d ≢ e → copied_pages moved.chunks d ≡ copied_pages s.chunks d
  moved_there d other = copy_there before behind c e copied.left.1 d other
      ∙ ap (λ (cs : List Chunk). copied_pages cs d) (sym copied.chunks)

  pub moved_at_most : (d : ℕ) → copied_pages moved.chunks d ≤ c.pages + copied_pages s.chunks d
  moved_at_most d = elim (cases_eq d e) [
    | inl same ↦ subst (λ (x : ℕ). copied_pages moved.chunks x ≤ c.pages + copied_pages s.chunks x) (sym same)
        (le_of_eq moved_here)
    | inr other ↦ (let is_same : copied_pages moved.chunks d ≡ copied_pages s.chunks d = moved_there d other in omega arith)
  ]

  pub moved_lies : LiesRight S J moved
  moved_lies = record {
    given = given_covers s e c.pages OfChunks S.extents (λ d. live_pages s.chunks d + copied_pages s.chunks d)
        (λ d. live_pages moved.chunks d + copied_pages moved.chunks d) keeps.lies.given
        (let a : live_pages moved.chunks e ≡ live_pages s.chunks e = moved_live e in
        let b : copied_pages moved.chunks e ≡ c.pages + copied_pages s.chunks e = moved_here in omega arith)
        (λ d other. let a : live_pages moved.chunks d ≡ live_pages s.chunks d = moved_live d in
        let b : copied_pages moved.chunks d ≡ copied_pages s.chunks d = moved_there d other in omega arith);
    fits = given_fits s e c.pages OfChunks S.extents S.pages keeps.lies.fits there.1;
    empty = given_empty s e c.pages OfChunks chunks_not_empty keeps.lies.empty;
    chunks = λ x got. ⊎_elim
        (λ here. subst (λ (y : Chunk). (y.extent < S.extents) × (moved.holds y.extent ≡ OfChunks)) (sym here)
        (stays c has_it))
        (λ more. stays x more) (in_old x got);
    runs = λ d got. let old = keeps.lies.runs d got in
        (old.0, other_stays s e c.pages OfChunks d OfRuns old.1 there.3);
  }
    where
      stays : (x : Chunk) → x ∈ s.chunks → (x.extent < S.extents) × (moved.holds x.extent ≡ OfChunks)
      stays x got = let old = keeps.lies.chunks x got in (old.0, kind_stays s e c.pages OfChunks x.extent old.1)

  pub any_before : (d : ℕ) → any_on moved.chunks d ≡ any_on s.chunks d
  any_before d = any_same before behind (copied_to c e) c d refl
      ∙ ap (λ (cs : List Chunk). any_on cs d) (sym copied.chunks)

  some_is : (a b : ℕ) → Some a ≡ Some b → a ≡ b
  some_is a b same = cc

  -- the extent that the sweep opened: all that is left fits behind it
  pub fresh_fits : (f : ℕ) → fresh ≡ Some f → (f ≡ e) × (any_on s.chunks f ≡ false)
      × (s.pointer e + c.pages + left_pages moved.chunks w.extent ≤ S.pages)
  fresh_fits f at = go copied.goes
    where
      go : GoesForCopy S s w c.pages e fresh → (f ≡ e) × (any_on s.chunks f ≡ false)
          × (s.pointer e + c.pages + left_pages moved.chunks w.extent ≤ S.pages)
      go (inl last) =
          let old = sweep.fresh f (sym last.2 ∙ at) in
          let same : f ≡ e = some_is f e (sym old.1 ∙ last.0) in
          let all : s.pointer f + left_pages s.chunks w.extent ≤ S.pages = old.3 in
          let pointers : s.pointer f ≡ s.pointer e = ap s.pointer same in
          let parts : left_pages s.chunks w.extent ≡ c.pages + left_pages moved.chunks w.extent = left_before in
          (same, old.2, omega arith)
      go (inr (inl other)) = absurd (other.0 f (sweep.fresh f (sym other.2 ∙ at)).1
          (fits_last f (sym other.2 ∙ at)))
      go (inr (inr empty)) =
          let same : f ≡ e = some_is f e (sym at ∙ empty.3) in
          let none : s.pointer e ≡ 0 = keeps.lies.empty e empty.1.1 in
          let parts : left_pages s.chunks w.extent ≡ c.pages + left_pages moved.chunks w.extent = left_before in
          let all : left_pages s.chunks w.extent ≤ S.pages = left_fits S J s w keeps sweep in (
            same,
            elim (cases_Bool (any_on s.chunks f)) [
              | inl on ↦ absurd (let found = any_of s.chunks f on in
                  chunks_not_empty (sym (keeps.lies.chunks found.0 found.1).1
                  ∙ ap s.holds (found.2 ∙ same) ∙ empty.1.1))
              | inr off ↦ off
            ],
            omega arith,
          )

  pub moved_sweeps : SweepsRight S J moved moved.sweep
  moved_sweeps = record {
    swept = (sweep.swept.0, kind_stays s e c.pages OfChunks w.extent sweep.swept.1);
    targets = λ d got. ⊎_elim
        (λ same. subst (λ (x : ℕ). (x < S.extents) × (moved.holds x ≡ OfChunks) × (x ≢ w.extent)) (sym same)
        (there.0, holds_here s e c.pages OfChunks, there.2))
        (λ more. let old = sweep.targets d more in (old.0, kind_stays s e c.pages OfChunks d old.1, old.2)) got;
    copies = λ x d got at. ⊎_elim
        (λ here. inl (sym (some_is e d (ap (λ (y : Chunk). y.copy) (sym here) ∙ at))))
        (λ more. inr (sweep.copies x d more at)) (in_old x got);
    fresh = λ f at. let fits = fresh_fits f at in (
      inl fits.0,
      ap (λ (x : ℕ). Some x) (sym fits.0),
      any_before f ∙ fits.1,
      subst (λ (x : ℕ). moved.pointer x + left_pages moved.chunks w.extent ≤ S.pages) (sym fits.0)
          (rw (pointer_here s e c.pages OfChunks) fits.2),
    );
  }

  pub moved_runs : run_extents moved S.extents ≤ run_extents s S.extents
  moved_runs = count_le (λ d. is_of_runs (moved.holds d)) (λ d. is_of_runs (s.holds d)) S.extents
      (λ d lt on. elim (cases_eq d e) [
        | inl same ↦ absurd (chunks_not_runs (sym (subst (λ (x : ℕ). moved.holds x ≡ OfChunks) (sym same)
            (holds_here s e c.pages OfChunks)) ∙ runs_is (moved.holds d) on))
        | inr other ↦ ap (λ (h : Holding). is_of_runs h) (sym (holds_there s e c.pages OfChunks d other)) ∙ on
      ])

  moved_more : chunk_extents moved S.extents ≤ suc (chunk_extents s S.extents)
  moved_more = count_more (λ d. is_of_chunks (moved.holds d)) (λ d. is_of_chunks (s.holds d)) e S.extents
      (λ d lt on. elim (cases_eq d e) [
        | inl same ↦ inr same
        | inr other ↦ inl (ap (λ (h : Holding). is_of_chunks h) (sym (holds_there s e c.pages OfChunks d other)) ∙ on)
      ])

  moved_same : s.holds e ≡ OfChunks → chunk_extents moved S.extents ≤ chunk_extents s S.extents
  moved_same chunks = count_le (λ d. is_of_chunks (moved.holds d)) (λ d. is_of_chunks (s.holds d)) S.extents
      (λ d lt on. elim (cases_eq d e) [
        | inl same ↦ ap (λ (h : Holding). is_of_chunks h) (ap s.holds same ∙ chunks)
        | inr other ↦ ap (λ (h : Holding). is_of_chunks h) (sym (holds_there s e c.pages OfChunks d other)) ∙ on
      ])

  -- the sweep opens an extent, or no more extents hold chunks than before
  pub moved_chunks : chunk_extents moved S.extents + one_if w.fresh ≤ chunk_extents s S.extents + one_if fresh
  moved_chunks = go copied.goes
    where
      kept : (o : Option ℕ) → o ≡ w.fresh → chunk_extents moved S.extents ≤ chunk_extents s S.extents
          → chunk_extents moved S.extents + one_if w.fresh ≤ chunk_extents s S.extents + one_if o
      kept o same less = let ones : one_if o ≡ one_if w.fresh = ap one_if same in omega (arith, less)

      go : GoesForCopy S s w c.pages e fresh
          → chunk_extents moved S.extents + one_if w.fresh ≤ chunk_extents s S.extents + one_if fresh
      go (inl last) = kept fresh last.2 (moved_same last.1.0.1)
      go (inr (inl other)) = kept fresh other.2 (moved_same other.1.0.1)
      go (inr (inr empty)) =
          let none : one_if w.fresh ≡ 0 = ap one_if empty.2 in
          let one : one_if fresh ≡ 1 = ap one_if empty.3 in
          let more : chunk_extents moved S.extents ≤ suc (chunk_extents s S.extents) = moved_more in omega arith

  pub moved_keeps : Keeps S J moved
  moved_keeps =
      let quota : chunk_extents s S.extents + J + 2 ≤ S.extents + opened_by s.sweep = keeps.quotas.chunks in
      let old : opened_by s.sweep ≡ one_if w.fresh = ap opened_by is in
      let few : chunk_extents moved S.extents + one_if w.fresh ≤ chunk_extents s S.extents + one_if fresh = moved_chunks in
      record {
        quotas = record { chunks = omega arith; runs = le_trans moved_runs keeps.quotas.runs };
        lies = moved_lies;
        sweeps = moved_sweeps;
        roots = keeps.roots;
      }

  -- the extent that the sweep opened: it had opened it before, or it was empty
  pub fresh_from : (f : ℕ) → fresh ≡ Some f → (w.fresh ≡ Some f) ⊎ (s.holds e ≡ Empty)
  fresh_from f at = go copied.goes
    where
      go : GoesForCopy S s w c.pages e fresh → (w.fresh ≡ Some f) ⊎ (s.holds e ≡ Empty)
      go (inl last) = inl (sym last.2 ∙ at)
      go (inr (inl other)) = inl (sym other.2 ∙ at)
      go (inr (inr empty)) = inr empty.1.1
