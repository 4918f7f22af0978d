-- Extents on which nothing lies are reset, and what lies right goes on lying right.
use Rattle.std.proofs.Common.{◌≡◌, inl, inr, ℕ, ◌<◌, ◌≤◌, ◌==◌, Bool, true, false, Option, Some, None, refl, sym, ap, ◌∙◌, arith}
use Rattle.std.proofs.lemmas.Bool.{cases_Bool, eqb-true, ne_eqb, true≢false}
use Rattle.law_machine.specs.Device.{Shape}
use Rattle.law_machine.specs.Lists.{◌∈◌}
use Rattle.law_room.specs.Events.{reset, unless}
use Rattle.law_room.specs.Invariant.{LiesRight, SweepsRight}
use Rattle.law_room.specs.Rooms.{Chunk, Empty, Holding, OfChunks, Room, Sweep, chunk_extents, copied_pages, is_at, is_of_chunks, is_of_runs, live_pages, run_extents}
use Rattle.law_room.proofs.Chunks.{sum_none}
use Rattle.law_room.proofs.Counts.{count_le, count_less}

module _ (s : Room) (test : ℕ → Bool) where
  pub reset_pointer : (e : ℕ) → test e ≡ true → (reset s test).pointer e ≡ 0
  reset_pointer e on = rw on

  pub kept_pointer : (e : ℕ) → test e ≡ false → (reset s test).pointer e ≡ s.pointer e
  kept_pointer e off = rw off

  pub reset_holds : (e : ℕ) → test e ≡ true → (reset s test).holds e ≡ Empty
  reset_holds e on = rw on

  pub kept_holds : (e : ℕ) → test e ≡ false → (reset s test).holds e ≡ s.holds e
  kept_holds e off = rw off

  -- what an extent holds it held before
  pub held_before : (f : Holding → Bool) (e : ℕ) → f Empty ≡ false → f ((reset s test).holds e) ≡ true
      → (test e ≡ false) × (f (s.holds e) ≡ true)
  held_before f e none on = elim (cases_Bool (test e)) [
    | inl there ↦ absurd (true≢false (sym on ∙ ap f (reset_holds e there) ∙ none))
    | inr off ↦ (off, ap f (sym (kept_holds e off)) ∙ on)
  ]

  pub fewer_chunks : (n : ℕ) → chunk_extents (reset s test) n ≤ chunk_extents s n
  fewer_chunks n = count_le (λ e. is_of_chunks ((reset s test).holds e)) (λ e. is_of_chunks (s.holds e)) n
      (λ e lt on. (held_before is_of_chunks e refl on).1)

  pub fewer_runs : (n : ℕ) → run_extents (reset s test) n ≤ run_extents s n
  fewer_runs n = count_le (λ e. is_of_runs ((reset s test).holds e)) (λ e. is_of_runs (s.holds e)) n
      (λ e lt on. (held_before is_of_runs e refl on).1)

  -- one extent of chunks was reset
  pub one_fewer : (e n : ℕ) → e < n → s.holds e ≡ OfChunks → test e ≡ true
      → chunk_extents (reset s test) n < chunk_extents s n
  one_fewer e n lt is on = count_less (λ d. is_of_chunks ((reset s test).holds d)) (λ d. is_of_chunks (s.holds d)) e n lt
      (ap (λ (h : Holding). is_of_chunks h) (reset_holds e on)) (ap (λ (h : Holding). is_of_chunks h) is)
      (λ d l there. (held_before is_of_chunks d refl there).1)

  pub last_kept : (e : ℕ) → s.last ≡ Some e → test e ≡ false → (reset s test).last ≡ Some e
  last_kept e is off = ap (unless test) is ∙ kept
    where
      kept : unless test (Some e) ≡ Some e
      kept = rw off

-- nothing lies on the extents that pass the test
pub record IsUnused (s : Room) (test : ℕ → Bool) : Type 0 where
  pub chunks : (c : Chunk) → c ∈ s.chunks → test c.extent ≡ false
  pub copies : (c : Chunk) (e : ℕ) → c ∈ s.chunks → c.copy ≡ Some e → test e ≡ false
  pub runs : (e : ℕ) → e ∈ s.runs → test e ≡ false
  pub sweeps : (w : Sweep) → s.sweep ≡ Some w → (test w.extent ≡ false)
      × ((e : ℕ) → e ∈ w.targets → test e ≡ false)

pub at_some : (o : Option ℕ) (e : ℕ) → is_at o e ≡ true → o ≡ Some e
at_some None e is = absurd (true≢false (sym is))
at_some (Some d) e is = ap (λ (x : ℕ). Some x) (eqb-true d e is)

not_at : (o : Option ℕ) (e : ℕ) → (o ≡ Some e → ⊥) → is_at o e ≡ false
not_at o e not = elim (cases_Bool (is_at o e)) [
  | inl on ↦ absurd (not (at_some o e on))
  | inr off ↦ off
]

module _ (S : Shape) (J : ℕ) (s : Room) (test : ℕ → Bool) (unused : IsUnused s test) where
  pub reset_lies : LiesRight S J s → LiesRight S J (reset s test)
  reset_lies lies = record {
    given = λ e lt. elim (cases_Bool (test e)) [
      | inl on ↦ (
          let a : live_pages s.chunks e ≡ 0 = sum_none (λ c. c.extent == e) s.chunks
          (λ c has_it. ne_eqb c.extent e (λ is. true≢false (sym on ∙ ap test (sym is) ∙ unused.chunks c has_it))) in
          let b : copied_pages s.chunks e ≡ 0 = sum_none (λ c. is_at c.copy e) s.chunks
          (λ c has_it. not_at c.copy e (λ is. true≢false (sym on ∙ unused.copies c e has_it is))) in
          rw (reset_pointer s test e on) (omega arith))
      | inr off ↦ rw (kept_pointer s test e off) (lies.given e lt)
    ];
    fits = λ e lt. elim (cases_Bool (test e)) [
      | inl on ↦ rw (reset_pointer s test e on) (omega arith)
      | inr off ↦ rw (kept_pointer s test e off) (lies.fits e lt)
    ];
    empty = λ e is. elim (cases_Bool (test e)) [
      | inl on ↦ reset_pointer s test e on
      | inr off ↦ kept_pointer s test e off ∙ lies.empty e (sym (kept_holds s test e off) ∙ is)
    ];
    chunks = λ c has_it. let old = lies.chunks c has_it in
        (old.0, kept_holds s test c.extent (unused.chunks c has_it) ∙ old.1);
    runs = λ e has_it. let old = lies.runs e has_it in
        (old.0, kept_holds s test e (unused.runs e has_it) ∙ old.1);
  }

  pub reset_sweeps : (o : Option Sweep) → s.sweep ≡ o → SweepsRight S J s o → SweepsRight S J (reset s test) o
  reset_sweeps None is none = none
  reset_sweeps (Some w) is sweep = record {
    swept = (sweep.swept.0, kept_holds s test w.extent (unused.sweeps w is).0 ∙ sweep.swept.1);
    targets = λ e has_it. let old = sweep.targets e has_it in
        (old.0, kept_holds s test e ((unused.sweeps w is).1 e has_it) ∙ old.1, old.2);
    copies = sweep.copies;
    fresh = λ f at.
        let old = sweep.fresh f at in
        let off : test f ≡ false = (unused.sweeps w is).1 f old.0 in
        (old.0, last_kept s test f old.1 off, old.2, rw (kept_pointer s test f off) old.3);
  }
