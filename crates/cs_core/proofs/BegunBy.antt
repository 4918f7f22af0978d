-- A sweep begins, by the rule of the format.
use Rattle.std.proofs.Common.{◌≡◌, ℕ, Bool, true, false, Result, Ok, Err, refl, sym, ap, ◌∙◌, subst}
use Rattle.std.specs.Prelude.{◌↔◌, IfErr, OnErr, OnOk}
use Rattle.cs_refusal.specs.declared.refusals.Refusal.{Refusal as Code}
use Rattle.cs_refusal.specs.declared.refusals.Refusal.TheVariants as code
use Rattle.cs_extent.specs.State.{IsWhole, State as ExtentsState, extents_of, shape}
use Rattle.law_machine.proofs.Rules.{apart_rule, before_rule}
use Rattle.law_machine.specs.Device.{Shape}
use Rattle.law_machine.specs.State.{BeginSweep, Sweeping}
use Rattle.law_refinement.specs.cs_reclaim.ByRule.{IsBegunBy, IsSweptBy, MayNotBeginBy}
use Rattle.law_refinement.specs.cs_reclaim.Sweeps.{IsSwept, IsSweptApart}
use Rattle.cs_core.specs.Steps.{Answers, Declines}
use Rattle.cs_core.specs.Stored.{AreSwept, IsKept, Stored}
use Rattle.cs_core.proofs.Going.{roomed}
use Rattle.cs_core.proofs.Kept.{kept_marked}
use Rattle.cs_core.proofs.KeptCopies.{kept_begun}
use Rattle.cs_core.proofs.SweepSteps.{begin_answers, begin_declines, begin_steps}

-- an extent that is marked is being swept, by either rule
pub swept_by : (b : Bool) (x : ExtentsState) (e : ℕ) → (shape x).apart ≡ b → AreSwept x → (extents_of x).swept e ≡ true → IsSweptBy b (shape x) (extents_of x) e
swept_by false x e rule swept is = (swept e is).0 rule
swept_by true x e rule swept is = (swept e is).1 rule

-- extents of one shape are by one rule
pub same_rule : (b : Bool) (x y : ExtentsState) → shape y ≡ shape x → (shape x).apart ≡ b → (shape y).apart ≡ b
same_rule b x y same rule = ap (λ (S : Shape). S.apart) same ∙ rule

pub kept_begun_by : {T : Type 0} (v : Stored) → IsKept v → (b : Bool) → (shape v.extents).apart ≡ b → (y : ExtentsState) (e : ℕ) → shape y ≡ shape v.extents → (result : Result T Code)
    → OnOk result (IsBegunBy b (shape v.extents) (extents_of v.extents) v.copies e (extents_of y)) → OnOk result (IsSweptBy (shape y).apart (shape y) (extents_of y) e)
    → (result ≡ Err code.NotSweepable) ↔ MayNotBeginBy b (shape v.extents) (extents_of v.extents) v.copies e → OnErr result (y ≡ v.extents) → IsKept (record v { extents = y })
kept_begun_by v kept false rule y e same (Ok t) begun swept refused unwritten =
    let then_rule : (shape y).apart ≡ false = same_rule false v.extents y same rule in
    kept_marked v kept y e true same begun (λ on. (then_rule, before_rule (IsSwept (shape y) (extents_of y) e) (IsSweptApart (shape y) (extents_of y) e) (shape y).apart then_rule swept))
kept_begun_by v kept true rule y e same (Ok t) begun swept refused unwritten =
    let then_rule : (shape y).apart ≡ true = same_rule true v.extents y same rule in
    kept_begun v kept rule y e same (Ok t) begun.0 (apart_rule (IsSwept (shape y) (extents_of y) e) (IsSweptApart (shape y) (extents_of y) e) (shape y).apart then_rule swept) begun.1 refused unwritten
kept_begun_by v kept b rule y e same (Err r) begun swept refused unwritten = subst (λ (x : ExtentsState). IsKept (record v { extents = x })) (sym unwritten) kept

pub begin_answers_by : {T : Type 0} (v : Stored) → IsWhole v.extents → v.halted ≡ false → (e : ℕ) (b : Bool) → (shape v.extents).apart ≡ b → (result : Result T Code) (y : ExtentsState)
    → OnOk result (IsBegunBy b (shape v.extents) (extents_of v.extents) v.copies e (extents_of y)) → shape y ≡ shape v.extents
    → (result ≡ Err code.NotSweepable) ↔ MayNotBeginBy b (shape v.extents) (extents_of v.extents) v.copies e → IfErr result (λ r. r ≡ code.NotSweepable) → OnErr result (y ≡ v.extents)
    → Answers v (BeginSweep e) (λ _. Sweeping) result (record v { extents = y })
begin_answers_by v whole runs e false rule (Ok t) y begun same refused is unwritten =
    begin_steps v whole runs e rule y (λ not. let clash : Ok t ≡ Err code.NotSweepable = refused.1 not in cc clash) same begun
begin_answers_by v whole runs e false rule (Err r) y begun same refused is unwritten = subst (λ (q : Code). Declines v (BeginSweep e) q (record v { extents = y })) (sym is)
    (begin_declines v whole runs e rule (record v { extents = y }) (roomed v y v.graph v.index unwritten refl refl) (refused.0 (ap Err is)))
begin_answers_by v whole runs e true rule (Ok t) y begun same refused is unwritten = begin_answers v whole runs e rule (Ok t) y begun.0 same refused is unwritten
begin_answers_by v whole runs e true rule (Err r) y begun same refused is unwritten = begin_answers v whole runs e rule (Err r) y begun same refused is unwritten
