-- What is blank is reset.
use Rattle.std.proofs.Common.{◌≡◌, ◌⊎◌, inl, inr, ⊎_elim, ℕ, ◌≤◌, ◌==◌, Bool, true, false, not, ◌||◌, Option, Some, None, refl, sym, ap, ◌∙◌, subst}
use Rattle.std.proofs.lemmas.Bool.{cases_Bool, eq-eqb, eqb-true, not-false, or_cases, or_left, or_right, true≢false}
use Rattle.law_machine.specs.Device.{Shape}
use Rattle.law_machine.specs.Lists.{◌∈◌}
use Rattle.law_room.specs.Events.{freed, is_blank, is_held}
use Rattle.law_room.specs.Invariant.{IsRoot, LiesRight, SweepsRight}
use Rattle.law_room.specs.Rooms.{Chunk, Empty, Holding, OfChunks, Room, Root, Sweep, any_on, has, is_of_chunks, is_of_runs, run_extents}
use Rattle.law_room.proofs.Chunks.{any_of, any_there, has_of, has_there}
use Rattle.law_room.proofs.Counts.{chunks_is}
use Rattle.law_room.proofs.Given.{Orderly, chunks_not_runs}
use Rattle.law_room.proofs.Resets.{IsUnused, held_before, kept_holds, kept_pointer, last_kept, reset_holds, reset_lies, reset_sweeps}

not_blank : (a b : Bool) → (a || b) ≡ true → not (a || b) ≡ false
not_blank a b is = ap not is

module _ (S : Shape) (J : ℕ) (s : Room) where
  held_copy : (o : Option Sweep) → SweepsRight S J s o → (c : Chunk) (e : ℕ) → c ∈ s.chunks → c.copy ≡ Some e
      → is_held o e ≡ true
  held_copy None none c e has_it is = absurd (let wrong : None ≡ Some e = sym (none c has_it) ∙ is in cc)
  held_copy (Some w) sweep c e has_it is = or_right (w.extent == e) (has w.targets e)
      (has_there w.targets e (sweep.copies c e has_it is))

  blank_is_unused : SweepsRight S J s s.sweep → IsUnused s (is_blank s)
  blank_is_unused sweeps = record {
    chunks = λ c has_it. ap not (or_left (any_on s.chunks c.extent) (has s.runs c.extent || is_held s.sweep c.extent)
        (any_there s.chunks c has_it));
    copies = λ c e has_it is. ap not (held_is e (held_copy s.sweep sweeps c e has_it is));
    runs = λ e has_it. ap not (or_right (any_on s.chunks e) (has s.runs e || is_held s.sweep e)
        (or_left (has s.runs e) (is_held s.sweep e) (has_there s.runs e has_it)));
    sweeps = λ w is. (
      ap not (held_is w.extent (ap (λ (o : Option Sweep). is_held o w.extent) is
          ∙ or_left (w.extent == w.extent) (has w.targets w.extent) (eq-eqb w.extent w.extent refl))),
      (λ e has_it. ap not (held_is e (ap (λ (o : Option Sweep). is_held o e) is
          ∙ or_right (w.extent == e) (has w.targets e) (has_there w.targets e has_it)))),
    );
  }
    where
      held_is : (e : ℕ) → is_held s.sweep e ≡ true → (any_on s.chunks e || (has s.runs e || is_held s.sweep e)) ≡ true
      held_is e is = or_right (any_on s.chunks e) (has s.runs e || is_held s.sweep e)
          (or_right (has s.runs e) (is_held s.sweep e) is)

  pub freed_orderly : LiesRight S J s → SweepsRight S J s s.sweep → ((r : Root) → r ∈ s.roots → IsRoot S J r)
      → run_extents (freed s) S.extents ≤ J → Orderly S J (freed s)
  freed_orderly lies sweeps roots few = let unused : IsUnused s (is_blank s) = blank_is_unused sweeps in record {
    lies = reset_lies S J s (is_blank s) unused lies;
    sweeps = reset_sweeps S J s (is_blank s) unused s.sweep refl sweeps;
    roots = roots;
    runs = few;
  }

  -- what isn't reset is named, or held by the sweep
  used_by : (e : ℕ) → is_blank s e ≡ false
      → (any_on s.chunks e ≡ true) ⊎ (has s.runs e ≡ true) ⊎ (is_held s.sweep e ≡ true)
  used_by e off = ⊎_elim (λ on. inl on) (λ more. ⊎_elim (λ on. inr (inl on)) (λ held. inr (inr held))
      (or_cases (has s.runs e) (is_held s.sweep e) more))
      (or_cases (any_on s.chunks e) (has s.runs e || is_held s.sweep e) (not-false _ off))

  pub freed_only : (e : ℕ) → (freed s).holds e ≡ OfChunks → s.holds e ≡ OfChunks
  freed_only e is = chunks_is (s.holds e) (held_before s (is_blank s) is_of_chunks e refl
      (ap (λ (h : Holding). is_of_chunks h) is)).1

  -- with no sweep chunks lie on what is left
  pub freed_named : LiesRight S J s → s.sweep ≡ None → (e : ℕ) → (freed s).holds e ≡ OfChunks
      → any_on s.chunks e ≡ true
  freed_named lies no_sweep e is =
      let old = held_before s (is_blank s) is_of_chunks e refl (ap (λ (h : Holding). is_of_chunks h) is) in
      ⊎_elim (λ on. on)
      (λ more. ⊎_elim
      (λ run. absurd (chunks_not_runs (sym (chunks_is (s.holds e) old.1) ∙ (lies.runs e (has_of s.runs e run)).1)))
      (λ held. absurd (true≢false (sym held ∙ ap (λ (o : Option Sweep). is_held o e) no_sweep))) more)
      (used_by e old.0)

  pub freed_kept : (e : ℕ) → s.holds e ≡ OfChunks
      → (((freed s).holds e ≡ OfChunks) × ((freed s).pointer e ≡ s.pointer e)
      × (s.last ≡ Some e → (freed s).last ≡ Some e)) ⊎ ((freed s).holds e ≡ Empty)
  freed_kept e is = elim (cases_Bool (is_blank s e)) [
    | inl on ↦ inr (reset_holds s (is_blank s) e on)
    | inr off ↦ inl (
      kept_holds s (is_blank s) e off ∙ is,
      kept_pointer s (is_blank s) e off,
      (λ last. last_kept s (is_blank s) e last off),
    )
  ]

  -- runs lie on what is left of extents of runs
  pub freed_run : LiesRight S J s → SweepsRight S J s s.sweep → (e : ℕ) → is_of_runs ((freed s).holds e) ≡ true
      → has s.runs e ≡ true
  freed_run lies sweeps e on =
      let old = held_before s (is_blank s) is_of_runs e refl on in
      ⊎_elim
      (λ there. absurd (not_both (s.holds e) (holds_of e there) old.1))
      (λ more. ⊎_elim (λ run. run)
      (λ held. absurd (not_both (s.holds e) (held_holds s.sweep sweeps e held) old.1)) more)
      (used_by e old.0)
    where
      not_both : (h : Holding) → h ≡ OfChunks → is_of_runs h ≡ true → ⊥
      not_both h is runs = true≢false (sym runs ∙ ap (λ (x : Holding). is_of_runs x) is)

      holds_of : (d : ℕ) → any_on s.chunks d ≡ true → s.holds d ≡ OfChunks
      holds_of d there = let found = any_of s.chunks d there in
          subst (λ (x : ℕ). s.holds x ≡ OfChunks) found.2 (lies.chunks found.0 found.1).1

      held_holds : (o : Option Sweep) → SweepsRight S J s o → (d : ℕ) → is_held o d ≡ true → s.holds d ≡ OfChunks
      held_holds None none d held = absurd (true≢false (sym held))
      held_holds (Some w) sweep d held = ⊎_elim
          (λ same. subst (λ (x : ℕ). s.holds x ≡ OfChunks) (eqb-true w.extent d same) sweep.swept.1)
          (λ there. (sweep.targets d (has_of w.targets d there)).1)
          (or_cases (w.extent == d) (has w.targets d) held)
