-- Whether there is something to stage a root for, as the machine has it.
use Rattle.std.proofs.Common.{◌≡◌, ◌≢◌, ◌⊎◌, ◌↔◌, inl, ⊎_elim, ℕ, Bool, true, false, [], sym}
use Rattle.std.specs.Prelude.{◌&&◌}
use Rattle.cs_extent.specs.State.{extents_of, shape}
use Rattle.law_machine.specs.Apart.{MayStage as MayStageIn, by_rule}
use Rattle.law_machine.specs.State.{State}
use Rattle.law_refinement.specs.cs_reclaim.Rooted.{is_left_over}
use Rattle.law_refinement.proofs.Indexes.{none_too}
use Rattle.law_refinement.proofs.RefusedRetires.{may_stage}
use Rattle.cs_core.specs.States.{IsStateOf}
use Rattle.cs_core.specs.Stored.{Stored}
use Rattle.cs_core.specs.Unstaged.{MayStage}

-- what is left counts where chunks and runs lie apart alone
by_format : (apart left : Bool) (Some SomeThere MayThere : Type 0) → Some ↔ SomeThere → MayThere ↔ (Some ⊎ (left ≡ true))
    → (Some ⊎ ((apart && left) ≡ true)) ↔ by_rule apart SomeThere MayThere
by_format true left Some SomeThere MayThere some may = (may.1, may.0)
by_format false left Some SomeThere MayThere some may = (
  (λ so. ⊎_elim some.0 (λ (clash : false ≡ true). absurd (cc clash)) so),
  (λ so. inl (some.1 so)),
)

-- a store may stage where its state may
pub staged_agrees : (v : Stored) (s : State) → IsStateOf v s → MayStage v ↔ by_rule (shape v.extents).apart (s.table ≢ []) (MayStageIn (shape v.extents) s)
staged_agrees v s is = by_format (shape v.extents).apart (is_left_over (shape v.extents) (extents_of v.extents) v.copies)
    (v.index.table ≢ []) (s.table ≢ []) (MayStageIn (shape v.extents) s) (
      (λ some. λ none. some (none_too s.table v.index.table (λ (id : ℕ). sym (is.parts.index.lookups id)) none)),
      (λ some. λ none. some (none_too v.index.table s.table is.parts.index.lookups none)),
    )
    (may_stage v.extents v.graph v.index v.copies s (record { parts = is.parts; same_copies = is.copies }))
