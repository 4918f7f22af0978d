-- Marks of sweeps are steps of the machine.
use Rattle.std.proofs.Common.{◌≡◌, ◌⊎◌, inl, inr, ℕ, ◌<◌, ◌≤◌, true, false, Ok, Err, refl, sym, ap, ◌∙◌, subst, arith}
use Rattle.std.specs.Prelude.{◌↔◌, IfErr, OnErr, OnOk, Result}
use Rattle.std.proofs.lemmas.Bool.{cases_Bool, false_from_ne_true}
use Rattle.cs_refusal.specs.declared.refusals.Refusal.{Refusal as Code}
use Rattle.cs_refusal.specs.declared.refusals.Refusal.TheVariants as code
use Rattle.cs_extent.specs.State.{IsWhole, State as ExtentsState, extents_of, shape}
use Rattle.cs_frame.specs.Formats.{formats_of}
use Rattle.law_machine.specs.Apart.{MayNotBegin, swept_aside, sweeping}
use Rattle.law_machine.specs.Events.{mark}
use Rattle.law_machine.specs.Extents.{Extents, marked}
use Rattle.law_machine.specs.Grounds.{Refuses}
use Rattle.law_machine.specs.Refusal.{Halted, NotSweepable, Refusal}
use Rattle.law_machine.specs.State.{Abandon, Abandoned, BeginSweep, MoveOne, Refused, Retire, State, Sweeping}
use Rattle.law_machine.specs.Step.{Step}
use Rattle.law_refinement.proofs.Calls.{abandon, sweep}
use Rattle.law_refinement.proofs.CallsApart.{begin_sweep}
use Rattle.law_refinement.proofs.RefusedRounds.{begin_sweep_refused}
use Rattle.law_refinement.proofs.RefusedSweeps.{begin_refused}
use Rattle.law_refinement.specs.Copying.{AreAllPartsOf}
use Rattle.law_refinement.specs.cs_reclaim.Sweeps.{IsMarked, IsNotMarked, IsNotSweepable}
use Rattle.cs_core.specs.States.{IsStateOf}
use Rattle.cs_core.specs.Steps.{Answers, Declines, Steps}
use Rattle.cs_core.specs.Stored.{AreSwept, Stored, but_for_room}
use Rattle.cs_core.proofs.Going.{frontier_same, goes_on, going, no_more, pass, roomed, roots_same, same_state}

-- an extent that is marked is there
pub swept_inside : (x : ExtentsState) (e : ℕ) → AreSwept x → (extents_of x).swept e ≡ true → e < (shape x).extents
swept_inside x e swept is = elim (cases_Bool (shape x).apart) [
  | inl apart ↦ ((swept e is).1 apart).inside
  | inr together ↦ ((swept e is).0 together).inside
]

-- an extent that isn't there isn't marked
pub unswept : (x : ExtentsState) (e : ℕ) → AreSwept x → ((shape x).extents ≤ e) ⊎ ((extents_of x).swept e ≡ false) → (extents_of x).swept e ≡ false
unswept x e swept (inl out) = false_from_ne_true ((extents_of x).swept e) (λ is. let lt : e < (shape x).extents = swept_inside x e swept is in absurd (omega (arith, lt, out)))
unswept x e swept (inr not) = not

-- a sweep goes on at an extent, or it doesn't
abbrev pub IsFound : ExtentsState → ℕ → Type 0
IsFound x e = IsMarked (shape x) (extents_of x) e

abbrev pub IsGone : ExtentsState → ℕ → Type 0
IsGone x e = IsNotMarked (shape x) (extents_of x) e

-- what a sweep copied is one of the parts too
pub all_parts : (v : Stored) (s : State) → IsStateOf v s → AreAllPartsOf v.extents v.graph v.index v.copies s
all_parts v s is = record { parts = is.parts; same_copies = is.copies }

module _ (v : Stored) (whole : IsWhole v.extents) (runs : v.halted ≡ false) (e : ℕ) where
  -- where chunks and runs may lie on one extent
  module _ (together : (shape v.extents).apart ≡ false) where
    refused_before : (s : State) → IsStateOf v s → (f : Refusal)
        → Refuses (shape v.extents) (formats_of (shape v.extents)) s (BeginSweep e) f ↔ (IsNotSweepable (shape v.extents) (extents_of v.extents) e × (f ≡ NotSweepable))
    refused_before s is f = begin_sweep_refused (formats_of (shape v.extents)) v.extents v.graph v.index s e f is.parts (is.halted ∙ runs) together

    pub begin_declines : (w : Stored) → but_for_room w ≡ but_for_room v → IsNotSweepable (shape v.extents) (extents_of v.extents) e → Declines v (BeginSweep e) code.NotSweepable w
    begin_declines w same not = inr (NotSweepable, refl, λ s is. (s, (inl ((refused_before s is NotSweepable).1 (not, refl)), refl), same_state v w s is same))

    pub begin_steps : (y : ExtentsState) → (IsNotSweepable (shape v.extents) (extents_of v.extents) e → ⊥) → shape y ≡ shape v.extents → extents_of y ≡ marked (extents_of v.extents) e true
        → Steps v (BeginSweep e) Sweeping (record v { extents = y })
    begin_steps y may same extents s is =
        let done = sweep v.extents y v.graph v.index s e is.parts same together may extents in
        let step : Step (shape v.extents) (formats_of (shape v.extents)) s (BeginSweep e) Sweeping (mark s e true) = ((λ f refused. may ((refused_before s is f).0 refused).0), done.0) in (
          mark s e true,
          step,
          goes_on v (record v { extents = y }) s (mark s e true) (BeginSweep e) Sweeping whole is step same done.1 is.copies (record { round_out = refl; left = refl; issued = refl; halted = refl; count = refl }) refl refl refl refl is.accepted
              (frontier_same (shape v.extents) (formats_of (shape v.extents)) s (mark s e true) v.frontier is.frontier (record { roots = refl; persistent = refl; root = refl }) refl)
              (roots_same v.roots s (mark s e true) is.roots (record { roots = refl; persistent = refl; root = refl }) refl),
        )

  -- where they lie apart
  module _ (apart : (shape v.extents).apart ≡ true) where
    refused_apart : (s : State) → IsStateOf v s → (f : Refusal)
        → Refuses (shape v.extents) (formats_of (shape v.extents)) s (BeginSweep e) f ↔ (MayNotBegin (shape v.extents) (extents_of v.extents) v.copies e × (f ≡ NotSweepable))
    refused_apart s is f = begin_refused v.extents v.graph v.index v.copies s (all_parts v s is) apart (formats_of (shape v.extents)) e f (is.halted ∙ runs)

    begin_declines_apart : (w : Stored) → but_for_room w ≡ but_for_room v → MayNotBegin (shape v.extents) (extents_of v.extents) v.copies e → Declines v (BeginSweep e) code.NotSweepable w
    begin_declines_apart w same not = inr (NotSweepable, refl, λ s is. (s, (inl ((refused_apart s is NotSweepable).1 (not, refl)), refl), same_state v w s is same))

    begin_steps_apart : (y : ExtentsState) → ¬ MayNotBegin (shape v.extents) (extents_of v.extents) v.copies e → shape y ≡ shape v.extents
        → extents_of y ≡ swept_aside (shape v.extents) (extents_of v.extents) e → Steps v (BeginSweep e) Sweeping (record v { extents = y })
    begin_steps_apart y may same extents s is =
        let t : State = sweeping (shape v.extents) s e in
        let done = begin_sweep v.extents v.graph v.index v.copies s apart (all_parts v s is) y e may same extents in
        let step : Step (shape v.extents) (formats_of (shape v.extents)) s (BeginSweep e) Sweeping t = ((λ f refused. may ((refused_apart s is f).0 refused).0), done.0) in (
          t,
          step,
          goes_on v (record v { extents = y }) s t (BeginSweep e) Sweeping whole is step same done.1.parts done.1.same_copies (record { round_out = refl; left = refl; issued = refl; halted = refl; count = refl }) refl refl refl refl is.accepted
              (frontier_same (shape v.extents) (formats_of (shape v.extents)) s t v.frontier is.frontier (record { roots = refl; persistent = refl; root = refl }) refl)
              (roots_same v.roots s t is.roots (record { roots = refl; persistent = refl; root = refl }) refl),
        )

    pub begin_answers : {T : Type 0} (result : Result T Code) (y : ExtentsState) → OnOk result (extents_of y ≡ swept_aside (shape v.extents) (extents_of v.extents) e) → shape y ≡ shape v.extents
        → (result ≡ Err code.NotSweepable) ↔ MayNotBegin (shape v.extents) (extents_of v.extents) v.copies e → IfErr result (λ r. r ≡ code.NotSweepable) → OnErr result (y ≡ v.extents)
        → Answers v (BeginSweep e) (λ _. Sweeping) result (record v { extents = y })
    begin_answers (Ok t) y begun same refused is unwritten = begin_steps_apart y (λ not. let clash : Ok t ≡ Err code.NotSweepable = refused.1 not in cc) same begun
    begin_answers (Err r) y begun same refused is unwritten = subst (λ (q : Code). Declines v (BeginSweep e) q (record v { extents = y })) (sym is)
        (begin_declines_apart (record v { extents = y }) (roomed v y v.graph v.index unwritten refl refl) (refused.0 (ap Err is)))

  module _ (not : (extents_of v.extents).swept e ≡ false) where
    unmarked : (s : State) → IsStateOf v s → s.world.extents.swept e ≡ false
    unmarked s is = ap (λ (x : Extents). x.swept e) is.parts.world.extents ∙ not

    pub abandon_declines : Declines v (Abandon e) code.NotSweepable v
    abandon_declines = inr (NotSweepable, refl, λ s is. (s, (inl (inr (going s.halted (is.halted ∙ runs), inl (unmarked s is, refl))), refl), is))

    pub retire_unmarked : Declines v (Retire e) code.NotSweepable v
    retire_unmarked = inr (NotSweepable, refl, λ s is. (s, (inl (inr (going s.halted (is.halted ∙ runs), inl (unmarked s is, refl))), refl), is))

    pub move_unmarked : (s : State) → IsStateOf v s → Step (shape v.extents) (formats_of (shape v.extents)) s (MoveOne e) (Refused NotSweepable) s
    move_unmarked s is = (inl (inr (going s.halted (is.halted ∙ runs), inl (unmarked s is, refl))), refl)

  module _ (yes : (extents_of v.extents).swept e ≡ true) where
    pub is_marked : (s : State) → IsStateOf v s → s.world.extents.swept e ≡ true
    is_marked s is = ap (λ (x : Extents). x.swept e) is.parts.world.extents ∙ yes

    pub abandon_steps : (y : ExtentsState) → shape y ≡ shape v.extents → extents_of y ≡ marked (extents_of v.extents) e false → Steps v (Abandon e) Abandoned (record v { extents = y })
    abandon_steps y same extents s is =
        let done = abandon v.extents y v.graph v.index s e is.parts same (is_marked s is) extents in
        let none : (f : Refusal) → Refuses (shape v.extents) (formats_of (shape v.extents)) s (Abandon e) f → ⊥
        = pass Halted (going s.halted (is.halted ∙ runs)) (pass NotSweepable (λ gone. going (s.world.extents.swept e) gone (is_marked s is)) no_more) in
        let step : Step (shape v.extents) (formats_of (shape v.extents)) s (Abandon e) Abandoned (mark s e false) = (none, done.0) in (
          mark s e false,
          step,
          goes_on v (record v { extents = y }) s (mark s e false) (Abandon e) Abandoned whole is step same done.1 is.copies (record { round_out = refl; left = refl; issued = refl; halted = refl; count = refl }) refl refl refl refl is.accepted
              (frontier_same (shape v.extents) (formats_of (shape v.extents)) s (mark s e false) v.frontier is.frontier (record { roots = refl; persistent = refl; root = refl }) refl)
              (roots_same v.roots s (mark s e false) is.roots (record { roots = refl; persistent = refl; root = refl }) refl),
        )

  -- it is given up, or it wasn't swept
  pub abandon_answers : {T : Type 0} (result : Result T Code) (y : ExtentsState) → AreSwept v.extents → OnOk result (IsFound v.extents e) → OnOk result (extents_of y ≡ marked (extents_of v.extents) e false)
      → shape y ≡ shape v.extents → IfErr result (λ r. (r ≡ code.NotSweepable) × IsGone v.extents e) → OnErr result (y ≡ v.extents)
      → Answers v (Abandon e) (λ _. Abandoned) result (record v { extents = y })
  abandon_answers (Ok t) y swept found ended same refused unwritten = abandon_steps found.1 y same ended
  abandon_answers (Err r) y swept found ended same refused unwritten =
      subst (λ (x : ExtentsState). Declines v (Abandon e) r (record v { extents = x })) (sym unwritten)
      (subst (λ (q : Code). Declines v (Abandon e) q v) (sym refused.0) (abandon_declines (unswept v.extents e swept refused.1)))
