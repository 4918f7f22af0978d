use Rattle.std.proofs.Common.{rules, ◌≡◌, refl, sym, subst, ℕ, List, [], Ok, Some, None}
use Rattle.std.specs.Prelude.{Option, Result, Vec}
use Rattle.std.specs.declared.alloc.Global.{Global}
use Rattle.cs_deps.specs.declared.elements.Element.{Element as Name}
use Rattle.cs_refusal.specs.declared.refusals.Refusal.{Refusal as Code}
use Rattle.cs_core.specs.Rounds.{BeginAnswers}
use Rattle.cs_core.specs.declared.events.Event.{Event as Asked}
use Rattle.cs_core.specs.declared.events.Event.TheVariants as asked
use Rattle.cs_core.specs.declared.events.Reply.TheVariants as told
use Rattle.cs_index.specs.State.{id_number}
use Rattle.law_machine.specs.State as model
use Rattle.cs_core.specs.Steps.{Answers, Declines, Steps, deleted_or_not, staged_or_not}
use Rattle.cs_core.specs.Views.{Serves}
use Rattle.std.specs.Prelude.{IfOk, MatchOption}
use Rattle.cs_core.specs.Answered.{IsAnswered}
use Rattle.cs_core.specs.Lookups.{AreMeantBytes}
use Rattle.cs_core.specs.Puts.{MeansTheSame, MeansTheSameBut}
use Rattle.cs_core.specs.Stored.{but_for_room}
use Rattle.cs_core.specs.Writebacks.{AddsCommand, IsRoundBegun, Stages}
use Rattle.cs_core.proofs.Answering.{abandon_so, begin_none_so, begin_refused_so, begin_so, begin_sweep_so, delete_absent_so, delete_so, if_refused_so, no_other, ok_of, put_so, refused_alone, retire_so, stage_none_so, stage_so}
use Rattle.cs_core.proofs.ServeSteps.{begun_served, declined, if_refused, nothing_served, on_any, on_any_refused, served}
use Rattle.cs_core.proofs.stores.Store.serve_alone.Goals as goal

pub returns-in-Err-clause-step : goal.returns-in-Err-clause-step
returns-in-Err-clause-step c = λ disk.
    let after = disk in
    let runs = c.requires.running in
    if_refused c.args.self.now c.put.new.self disk after c.args.event.now c.in-Err.refusal c.refused.result c.refused.ensures (λ known.
    subst (λ (e : Asked). Serves c.args.self.now disk e (told.Refused c.in-Err.refusal) c.put.new.self after) (sym c.in-Put.is)
    (declined c.args.self.now c.put.new.self disk after (asked.Put c.in-Put.id c.in-Put.bytes) c.in-Err.refusal (λ s t f step. step.1) refl (on_any_refused c.args.self.now c.put.new.self disk (model.Put (id_number c.in-Put.id) c.in-Put.bytes) c.in-Err.refusal (subst (λ (b : List ℕ). Declines c.args.self.now (model.Put (id_number c.in-Put.id) b) c.in-Err.refusal c.put.new.self) c.as_slice.ensures (c.in-Err.ensures.step runs))) known))

pub returns-in-Ok-clause-step : goal.returns-in-Ok-clause-step
returns-in-Ok-clause-step c = λ disk.
    let runs = c.requires.running in
    subst (λ (e : Asked). Serves c.args.self.now disk e (told.Accepted c.in-Ok.n) c.put.new.self disk) (sym c.in-Put.is)
    (served c.args.self.now c.put.new.self disk disk (asked.Put c.in-Put.id c.in-Put.bytes) (told.Accepted c.in-Ok.n) (model.Accepted c.in-Ok.n) refl (λ e. cc e) (λ e. cc e) refl (on_any c.args.self.now c.put.new.self disk (model.Put (id_number c.in-Put.id) c.in-Put.bytes) (model.Accepted c.in-Ok.n) (subst (λ (b : List ℕ). Steps c.args.self.now (model.Put (id_number c.in-Put.id) b) (model.Accepted c.in-Ok.n) c.put.new.self) c.as_slice.ensures (c.in-Ok.ensures.step runs))))

pub returns-in-Err-clause-answered : goal.returns-in-Err-clause-answered
returns-in-Err-clause-answered c =
    let v = but_for_room c.args.self.now in
    let w = but_for_room c.put.new.self in
    if_refused_so v w c.args.event.now c.in-Err.refusal c.refused.result c.refused.ensures (λ known. subst (λ (e : Asked). IsAnswered v e (told.Refused c.in-Err.refusal) w) (sym c.in-Put.is) (refused_alone v w (asked.Put c.in-Put.id c.in-Put.bytes) tt c.in-Err.refusal c.in-Err.ensures.refusals known c.in-Err.ensures.refused))

pub returns-in-Ok-clause-answered : goal.returns-in-Ok-clause-answered
returns-in-Ok-clause-answered c =
    let v = but_for_room c.args.self.now in
    let w = but_for_room c.put.new.self in
    subst (λ (e : Asked). IsAnswered v e (told.Accepted c.in-Ok.n) w) (sym c.in-Put.is) (put_so v w c.in-Put.id c.in-Put.bytes c.in-Ok.n c.in-Ok.ensures.adds c.put.ensures.round c.in-Ok.ensures.behind
    (subst (λ (b : List ℕ). AreMeantBytes w (id_number c.in-Put.id) b × MeansTheSameBut (id_number c.in-Put.id) v.index w.index) c.as_slice.ensures c.in-Ok.ensures.meaning))

pub returns-in-Err-delete-clause-step : goal.returns-in-Err-delete-clause-step
returns-in-Err-delete-clause-step c = λ disk.
    let after = disk in
    let runs = c.requires.running in
    if_refused c.args.self.now c.delete.new.self disk after c.args.event.now c.in-Err-delete.refusal c.refused-in-Err-delete.result c.refused-in-Err-delete.ensures (λ known.
    subst (λ (e : Asked). Serves c.args.self.now disk e (told.Refused c.in-Err-delete.refusal) c.delete.new.self after) (sym c.in-Delete.is)
    (declined c.args.self.now c.delete.new.self disk after (asked.Delete c.in-Delete.id) c.in-Err-delete.refusal (λ s t f step. step.1) refl (on_any_refused c.args.self.now c.delete.new.self disk (model.Delete (id_number c.in-Delete.id)) c.in-Err-delete.refusal (c.in-Err-delete.ensures.step runs)) known))

pub returns-in-Ok-Some-clause-step : goal.returns-in-Ok-Some-clause-step
returns-in-Ok-Some-clause-step c = λ disk.
    let is_ : c.delete.result ≡ Ok (Some c.in-Ok-Some.n) = search rules in
    let runs = c.requires.running in
    subst (λ (e : Asked). Serves c.args.self.now disk e (told.Accepted c.in-Ok-Some.n) c.delete.new.self disk) (sym c.in-Delete.is)
    (served c.args.self.now c.delete.new.self disk disk (asked.Delete c.in-Delete.id) (told.Accepted c.in-Ok-Some.n) (model.Accepted c.in-Ok-Some.n) refl (λ e. cc e) (λ e. cc e) refl (on_any c.args.self.now c.delete.new.self disk (model.Delete (id_number c.in-Delete.id)) (model.Accepted c.in-Ok-Some.n) (subst (λ (r : Result (Option ℕ) Code). Answers c.args.self.now (model.Delete (id_number c.in-Delete.id)) deleted_or_not r c.delete.new.self) is_ (c.delete.ensures.step runs))))

pub returns-in-Ok-None-clause-step : goal.returns-in-Ok-None-clause-step
returns-in-Ok-None-clause-step c = λ disk.
    let is_ : c.delete.result ≡ Ok None = search rules in
    let runs = c.requires.running in
    subst (λ (e : Asked). Serves c.args.self.now disk e (told.Absent) c.delete.new.self disk) (sym c.in-Delete.is)
    (served c.args.self.now c.delete.new.self disk disk (asked.Delete c.in-Delete.id) (told.Absent) (model.Absent) refl (λ e. cc e) (λ e. cc e) refl (on_any c.args.self.now c.delete.new.self disk (model.Delete (id_number c.in-Delete.id)) (model.Absent) (subst (λ (r : Result (Option ℕ) Code). Answers c.args.self.now (model.Delete (id_number c.in-Delete.id)) deleted_or_not r c.delete.new.self) is_ (c.delete.ensures.step runs))))

pub returns-in-Err-delete-clause-answered : goal.returns-in-Err-delete-clause-answered
returns-in-Err-delete-clause-answered c =
    let v = but_for_room c.args.self.now in
    let w = but_for_room c.delete.new.self in
    if_refused_so v w c.args.event.now c.in-Err-delete.refusal c.refused-in-Err-delete.result c.refused-in-Err-delete.ensures (λ known. subst (λ (e : Asked). IsAnswered v e (told.Refused c.in-Err-delete.refusal) w) (sym c.in-Delete.is) (refused_alone v w (asked.Delete c.in-Delete.id) tt c.in-Err-delete.refusal c.in-Err-delete.ensures.refusals known c.in-Err-delete.ensures.refused))

pub returns-in-Ok-Some-clause-answered : goal.returns-in-Ok-Some-clause-answered
returns-in-Ok-Some-clause-answered c =
    let v = but_for_room c.args.self.now in
    let w = but_for_room c.delete.new.self in
    let is_ : c.delete.result ≡ Ok (Some c.in-Ok-Some.n) = search rules in
    let e = subst (λ (r : Result (Option ℕ) Code). IfOk r (λ deleted. MatchOption deleted (but_for_room c.delete.new.self ≡ but_for_room c.args.self.now) (λ n. AddsCommand n c.args.self.now c.delete.new.self))) is_ c.delete.ensures.adds in
    subst (λ (e : Asked). IsAnswered v e (told.Accepted c.in-Ok-Some.n) w) (sym c.in-Delete.is) (delete_so v w c.in-Delete.id c.in-Ok-Some.n e c.delete.ensures.round c.delete.ensures.staging (ok_of (MeansTheSameBut (id_number c.in-Delete.id) v.index w.index) c.delete.result (Some c.in-Ok-Some.n) is_ c.delete.ensures.meaning))

pub returns-in-Ok-None-clause-answered : goal.returns-in-Ok-None-clause-answered
returns-in-Ok-None-clause-answered c =
    let v = but_for_room c.args.self.now in
    let w = but_for_room c.delete.new.self in
    let is_ : c.delete.result ≡ Ok None = search rules in
    let e = subst (λ (r : Result (Option ℕ) Code). IfOk r (λ deleted. MatchOption deleted (but_for_room c.delete.new.self ≡ but_for_room c.args.self.now) (λ n. AddsCommand n c.args.self.now c.delete.new.self))) is_ c.delete.ensures.adds in
    subst (λ (e : Asked). IsAnswered v e told.Absent w) (sym c.in-Delete.is) (delete_absent_so v w c.in-Delete.id e)

pub returns-in-Err-stage-clause-step : goal.returns-in-Err-stage-clause-step
returns-in-Err-stage-clause-step c = λ disk.
    let after = disk in
    let runs = c.requires.running in
    if_refused c.args.self.now c.stage.new.self disk after c.args.event.now c.in-Err-stage.refusal c.refused-in-Err-stage.result c.refused-in-Err-stage.ensures (λ known.
    subst (λ (e : Asked). Serves c.args.self.now disk e (told.Refused c.in-Err-stage.refusal) c.stage.new.self after) (sym c.in-Stage.is)
    (declined c.args.self.now c.stage.new.self disk after (asked.Stage) c.in-Err-stage.refusal (λ s t f step. step.1) refl (on_any_refused c.args.self.now c.stage.new.self disk (model.Stage) c.in-Err-stage.refusal (c.in-Err-stage.ensures.step runs)) known))

pub returns-in-Ok-Some-stage-clause-step : goal.returns-in-Ok-Some-stage-clause-step
returns-in-Ok-Some-stage-clause-step c = λ disk.
    let is_ : c.stage.result ≡ Ok (Some c.in-Ok-Some-stage.v) = search rules in
    let runs = c.requires.running in
    subst (λ (e : Asked). Serves c.args.self.now disk e (told.Staged c.in-Ok-Some-stage.v) c.stage.new.self disk) (sym c.in-Stage.is)
    (served c.args.self.now c.stage.new.self disk disk (asked.Stage) (told.Staged c.in-Ok-Some-stage.v) (model.Staged c.in-Ok-Some-stage.v) refl (λ e. cc e) (λ e. cc e) refl (on_any c.args.self.now c.stage.new.self disk (model.Stage) (model.Staged c.in-Ok-Some-stage.v) (subst (λ (r : Result (Option ℕ) Code). Answers c.args.self.now model.Stage staged_or_not r c.stage.new.self) is_ (c.stage.ensures.step runs))))

pub returns-in-Ok-None-stage-clause-step : goal.returns-in-Ok-None-stage-clause-step
returns-in-Ok-None-stage-clause-step c = λ disk.
    let is_ : c.stage.result ≡ Ok None = search rules in
    let runs = c.requires.running in
    subst (λ (e : Asked). Serves c.args.self.now disk e (told.Unchanged) c.stage.new.self disk) (sym c.in-Stage.is)
    (served c.args.self.now c.stage.new.self disk disk (asked.Stage) (told.Unchanged) (model.Unchanged) refl (λ e. cc e) (λ e. cc e) refl (on_any c.args.self.now c.stage.new.self disk (model.Stage) (model.Unchanged) (subst (λ (r : Result (Option ℕ) Code). Answers c.args.self.now model.Stage staged_or_not r c.stage.new.self) is_ (c.stage.ensures.step runs))))

pub returns-in-Err-stage-clause-answered : goal.returns-in-Err-stage-clause-answered
returns-in-Err-stage-clause-answered c =
    let v = but_for_room c.args.self.now in
    let w = but_for_room c.stage.new.self in
    if_refused_so v w c.args.event.now c.in-Err-stage.refusal c.refused-in-Err-stage.result c.refused-in-Err-stage.ensures (λ known. subst (λ (e : Asked). IsAnswered v e (told.Refused c.in-Err-stage.refusal) w) (sym c.in-Stage.is) (refused_alone v w asked.Stage tt c.in-Err-stage.refusal c.in-Err-stage.ensures.refusals known c.in-Err-stage.ensures.refused))

pub returns-in-Ok-Some-stage-clause-answered : goal.returns-in-Ok-Some-stage-clause-answered
returns-in-Ok-Some-stage-clause-answered c =
    let v = but_for_room c.args.self.now in
    let w = but_for_room c.stage.new.self in
    let is_ : c.stage.result ≡ Ok (Some c.in-Ok-Some-stage.v) = search rules in
    let e = subst (λ (r : Result (Option ℕ) Code). IfOk r (λ staged. MatchOption staged ((c.args.self.now.index.table ≡ []) × (but_for_room c.stage.new.self ≡ but_for_room c.args.self.now)) (λ v. c.stage.new.self.index.table ≡ []))) is_ c.stage.ensures.staged in
    subst (λ (e : Asked). IsAnswered v e (told.Staged c.in-Ok-Some-stage.v) w) (sym c.in-Stage.is) (stage_so v w c.in-Ok-Some-stage.v e c.stage.ensures.round (ok_of (Stages v w) c.stage.result (Some c.in-Ok-Some-stage.v) is_ c.stage.ensures.behind)
    (ok_of (MeansTheSame v.index w.index) c.stage.result (Some c.in-Ok-Some-stage.v) is_ c.stage.ensures.meaning))

pub returns-in-Ok-None-stage-clause-answered : goal.returns-in-Ok-None-stage-clause-answered
returns-in-Ok-None-stage-clause-answered c =
    let v = but_for_room c.args.self.now in
    let w = but_for_room c.stage.new.self in
    let is_ : c.stage.result ≡ Ok None = search rules in
    let e = subst (λ (r : Result (Option ℕ) Code). IfOk r (λ staged. MatchOption staged ((c.args.self.now.index.table ≡ []) × (but_for_room c.stage.new.self ≡ but_for_room c.args.self.now)) (λ v. c.stage.new.self.index.table ≡ []))) is_ c.stage.ensures.staged in
    subst (λ (e : Asked). IsAnswered v e told.Unchanged w) (sym c.in-Stage.is) (stage_none_so v w e)

pub returns-in-Err-begin-clause-step : goal.returns-in-Err-begin-clause-step
returns-in-Err-begin-clause-step c = λ disk.
    let after = disk in
    let runs = c.requires.running in
    if_refused c.args.self.now c.begin.new.self disk after c.args.event.now c.in-Err-begin.refusal c.refused-in-Err-begin.result c.refused-in-Err-begin.ensures (λ known.
    subst (λ (e : Asked). Serves c.args.self.now disk e (told.Refused c.in-Err-begin.refusal) c.begin.new.self after) (sym c.in-Begin.is)
    (declined c.args.self.now c.begin.new.self disk after (asked.Begin) c.in-Err-begin.refusal (λ s t f step. step.1) refl (on_any_refused c.args.self.now c.begin.new.self disk (model.Begin) c.in-Err-begin.refusal (c.in-Err-begin.ensures.step runs)) known))

pub returns-in-Ok-Some-begin-clause-step : goal.returns-in-Ok-Some-begin-clause-step
returns-in-Ok-Some-begin-clause-step c = λ disk.
    let is_ : c.begin.result ≡ Ok (Some (c.in-Ok-Some-begin.told, c.in-Ok-Some-begin.noted)) = search rules in
    let runs = c.requires.running in
    subst (λ (e : Asked). Serves c.args.self.now disk e (told.Begun c.new.result) c.begin.new.self disk) (sym c.in-Begin.is)
    (subst (λ (k : List Name). Serves c.args.self.now disk asked.Begin (told.Begun k) c.begin.new.self disk) (sym c.new.ensures) (begun_served c.args.self.now c.begin.new.self disk c.in-Ok-Some-begin.told c.in-Ok-Some-begin.noted (subst (λ (r : Result (Option (Vec Name Global × Vec Name Global)) Code). BeginAnswers c.args.self.now r c.begin.new.self) is_ (c.begin.ensures.step runs))))

pub returns-in-Ok-None-begin-clause-step : goal.returns-in-Ok-None-begin-clause-step
returns-in-Ok-None-begin-clause-step c = λ disk.
    let is_ : c.begin.result ≡ Ok None = search rules in
    let runs = c.requires.running in
    subst (λ (e : Asked). Serves c.args.self.now disk e told.Nothing c.begin.new.self disk) (sym c.in-Begin.is)
    (nothing_served c.args.self.now c.begin.new.self disk (subst (λ (r : Result (Option (Vec Name Global × Vec Name Global)) Code). BeginAnswers c.args.self.now r c.begin.new.self) is_ (c.begin.ensures.step runs)))

pub returns-in-Err-begin-clause-answered : goal.returns-in-Err-begin-clause-answered
returns-in-Err-begin-clause-answered c =
    let v = but_for_room c.args.self.now in
    let w = but_for_room c.begin.new.self in
    if_refused_so v w c.args.event.now c.in-Err-begin.refusal c.refused-in-Err-begin.result c.refused-in-Err-begin.ensures (λ known. subst (λ (e : Asked). IsAnswered v e (told.Refused c.in-Err-begin.refusal) w) (sym c.in-Begin.is) (begin_refused_so v w c.in-Err-begin.refusal c.in-Err-begin.ensures.refusals known c.in-Err-begin.ensures.stays))

pub returns-in-Ok-Some-begin-clause-answered : goal.returns-in-Ok-Some-begin-clause-answered
returns-in-Ok-Some-begin-clause-answered c =
    let v = but_for_room c.args.self.now in
    let w = but_for_room c.begin.new.self in
    let is_ : c.begin.result ≡ Ok (Some (c.in-Ok-Some-begin.told, c.in-Ok-Some-begin.noted)) = search rules in
    let e = subst (λ (r : Result (Option (Vec Name Global × Vec Name Global)) Code). IfOk r (λ begun. MatchOption begun ((c.args.self.now.graph.staging.pending.waiting ≡ []) × (c.args.self.now.out ≡ None) × (but_for_room c.begin.new.self ≡ but_for_room c.args.self.now)) (λ r. IsRoundBegun r.0.items (but_for_room c.args.self.now) (but_for_room c.begin.new.self)))) is_ c.begin.ensures.begun in
    subst (λ (e : Asked). IsAnswered v e (told.Begun c.new.result) w) (sym c.in-Begin.is) (begin_so v w c.new.result (subst (λ (xs : List Name). IsRoundBegun xs (but_for_room c.args.self.now) (but_for_room c.begin.new.self)) (sym c.new.ensures) e))

pub returns-in-Ok-None-begin-clause-answered : goal.returns-in-Ok-None-begin-clause-answered
returns-in-Ok-None-begin-clause-answered c =
    let v = but_for_room c.args.self.now in
    let w = but_for_room c.begin.new.self in
    let is_ : c.begin.result ≡ Ok None = search rules in
    let e = subst (λ (r : Result (Option (Vec Name Global × Vec Name Global)) Code). IfOk r (λ begun. MatchOption begun ((c.args.self.now.graph.staging.pending.waiting ≡ []) × (c.args.self.now.out ≡ None) × (but_for_room c.begin.new.self ≡ but_for_room c.args.self.now)) (λ r. IsRoundBegun r.0.items (but_for_room c.args.self.now) (but_for_room c.begin.new.self)))) is_ c.begin.ensures.begun in
    subst (λ (e : Asked). IsAnswered v e told.Nothing w) (sym c.in-Begin.is) (begin_none_so v w e)

pub returns-in-Err-begin_sweep-clause-step : goal.returns-in-Err-begin_sweep-clause-step
returns-in-Err-begin_sweep-clause-step c = λ disk.
    let after = disk in
    let runs = c.requires.running in
    if_refused c.args.self.now c.begin_sweep.new.self disk after c.args.event.now c.in-Err-begin_sweep.refusal c.refused-in-Err-begin_sweep.result c.refused-in-Err-begin_sweep.ensures (λ known.
    subst (λ (e : Asked). Serves c.args.self.now disk e (told.Refused c.in-Err-begin_sweep.refusal) c.begin_sweep.new.self after) (sym c.in-BeginSweep.is)
    (declined c.args.self.now c.begin_sweep.new.self disk after (asked.BeginSweep c.in-BeginSweep.e) c.in-Err-begin_sweep.refusal (λ s t f step. step.1) refl (on_any_refused c.args.self.now c.begin_sweep.new.self disk (model.BeginSweep c.in-BeginSweep.e) c.in-Err-begin_sweep.refusal (c.in-Err-begin_sweep.ensures.step runs)) known))

pub returns-in-Ok-begin_sweep-clause-step : goal.returns-in-Ok-begin_sweep-clause-step
returns-in-Ok-begin_sweep-clause-step c = λ disk.
    let runs = c.requires.running in
    subst (λ (e : Asked). Serves c.args.self.now disk e (told.Sweeping) c.begin_sweep.new.self disk) (sym c.in-BeginSweep.is)
    (served c.args.self.now c.begin_sweep.new.self disk disk (asked.BeginSweep c.in-BeginSweep.e) (told.Sweeping) (model.Sweeping) refl (λ e. cc e) (λ e. cc e) refl (on_any c.args.self.now c.begin_sweep.new.self disk (model.BeginSweep c.in-BeginSweep.e) (model.Sweeping) (c.in-Ok-begin_sweep.ensures.step runs)))

pub returns-in-Err-begin_sweep-clause-answered : goal.returns-in-Err-begin_sweep-clause-answered
returns-in-Err-begin_sweep-clause-answered c =
    let v = but_for_room c.args.self.now in
    let w = but_for_room c.begin_sweep.new.self in
    if_refused_so v w c.args.event.now c.in-Err-begin_sweep.refusal c.refused-in-Err-begin_sweep.result c.refused-in-Err-begin_sweep.ensures (λ known. subst (λ (e : Asked). IsAnswered v e (told.Refused c.in-Err-begin_sweep.refusal) w) (sym c.in-BeginSweep.is) (refused_alone v w (asked.BeginSweep c.in-BeginSweep.e) tt c.in-Err-begin_sweep.refusal c.in-Err-begin_sweep.ensures.refusals known c.in-Err-begin_sweep.ensures.refused))

pub returns-in-Ok-begin_sweep-clause-answered : goal.returns-in-Ok-begin_sweep-clause-answered
returns-in-Ok-begin_sweep-clause-answered c =
    let v = but_for_room c.args.self.now in
    let w = but_for_room c.begin_sweep.new.self in
    subst (λ (e : Asked). IsAnswered v e told.Sweeping w) (sym c.in-BeginSweep.is) (begin_sweep_so v w c.in-BeginSweep.e c.begin_sweep.ensures.round c.begin_sweep.ensures.staging c.in-Ok-begin_sweep.ensures.meaning)

pub returns-in-Err-retire-clause-step : goal.returns-in-Err-retire-clause-step
returns-in-Err-retire-clause-step c = λ disk.
    let after = disk in
    let runs = c.requires.running in
    if_refused c.args.self.now c.retire.new.self disk after c.args.event.now c.in-Err-retire.refusal c.refused-in-Err-retire.result c.refused-in-Err-retire.ensures (λ known.
    subst (λ (e : Asked). Serves c.args.self.now disk e (told.Refused c.in-Err-retire.refusal) c.retire.new.self after) (sym c.in-Retire.is)
    (declined c.args.self.now c.retire.new.self disk after (asked.Retire c.in-Retire.e) c.in-Err-retire.refusal (λ s t f step. step.1) refl (on_any_refused c.args.self.now c.retire.new.self disk (model.Retire c.in-Retire.e) c.in-Err-retire.refusal (c.in-Err-retire.ensures.step runs)) known))

pub returns-in-Ok-retire-clause-step : goal.returns-in-Ok-retire-clause-step
returns-in-Ok-retire-clause-step c = λ disk.
    let runs = c.requires.running in
    subst (λ (e : Asked). Serves c.args.self.now disk e (told.Retired c.in-Ok-retire.v) c.retire.new.self disk) (sym c.in-Retire.is)
    (served c.args.self.now c.retire.new.self disk disk (asked.Retire c.in-Retire.e) (told.Retired c.in-Ok-retire.v) (model.Retired c.in-Ok-retire.v) refl (λ e. cc e) (λ e. cc e) refl (on_any c.args.self.now c.retire.new.self disk (model.Retire c.in-Retire.e) (model.Retired c.in-Ok-retire.v) (c.in-Ok-retire.ensures.step runs)))

pub returns-in-Err-retire-clause-answered : goal.returns-in-Err-retire-clause-answered
returns-in-Err-retire-clause-answered c =
    let v = but_for_room c.args.self.now in
    let w = but_for_room c.retire.new.self in
    if_refused_so v w c.args.event.now c.in-Err-retire.refusal c.refused-in-Err-retire.result c.refused-in-Err-retire.ensures (λ known. subst (λ (e : Asked). IsAnswered v e (told.Refused c.in-Err-retire.refusal) w) (sym c.in-Retire.is) (refused_alone v w (asked.Retire c.in-Retire.e) tt c.in-Err-retire.refusal c.in-Err-retire.ensures.refusals known c.in-Err-retire.ensures.refused))

pub returns-in-Ok-retire-clause-answered : goal.returns-in-Ok-retire-clause-answered
returns-in-Ok-retire-clause-answered c =
    let v = but_for_room c.args.self.now in
    let w = but_for_room c.retire.new.self in
    subst (λ (e : Asked). IsAnswered v e (told.Retired c.in-Ok-retire.v) w) (sym c.in-Retire.is) (retire_so v w c.in-Retire.e c.in-Ok-retire.v c.in-Ok-retire.ensures.staged c.retire.ensures.round c.in-Ok-retire.ensures.behind c.in-Ok-retire.ensures.meaning)

pub returns-in-Err-abandon-clause-step : goal.returns-in-Err-abandon-clause-step
returns-in-Err-abandon-clause-step c = λ disk.
    let after = disk in
    let runs = c.requires.running in
    if_refused c.args.self.now c.abandon.new.self disk after c.args.event.now c.in-Err-abandon.refusal c.refused-in-Err-abandon.result c.refused-in-Err-abandon.ensures (λ known.
    subst (λ (e : Asked). Serves c.args.self.now disk e (told.Refused c.in-Err-abandon.refusal) c.abandon.new.self after) (sym c.in-Abandon.is)
    (declined c.args.self.now c.abandon.new.self disk after (asked.Abandon c.in-Abandon.e) c.in-Err-abandon.refusal (λ s t f step. step.1) refl (on_any_refused c.args.self.now c.abandon.new.self disk (model.Abandon c.in-Abandon.e) c.in-Err-abandon.refusal (c.in-Err-abandon.ensures.step runs)) known))

pub returns-in-Ok-abandon-clause-step : goal.returns-in-Ok-abandon-clause-step
returns-in-Ok-abandon-clause-step c = λ disk.
    let runs = c.requires.running in
    subst (λ (e : Asked). Serves c.args.self.now disk e (told.Abandoned) c.abandon.new.self disk) (sym c.in-Abandon.is)
    (served c.args.self.now c.abandon.new.self disk disk (asked.Abandon c.in-Abandon.e) (told.Abandoned) (model.Abandoned) refl (λ e. cc e) (λ e. cc e) refl (on_any c.args.self.now c.abandon.new.self disk (model.Abandon c.in-Abandon.e) (model.Abandoned) (c.in-Ok-abandon.ensures.step runs)))

pub returns-in-Err-abandon-clause-answered : goal.returns-in-Err-abandon-clause-answered
returns-in-Err-abandon-clause-answered c =
    let v = but_for_room c.args.self.now in
    let w = but_for_room c.abandon.new.self in
    if_refused_so v w c.args.event.now c.in-Err-abandon.refusal c.refused-in-Err-abandon.result c.refused-in-Err-abandon.ensures (λ known. subst (λ (e : Asked). IsAnswered v e (told.Refused c.in-Err-abandon.refusal) w) (sym c.in-Abandon.is) (refused_alone v w (asked.Abandon c.in-Abandon.e) tt c.in-Err-abandon.refusal c.in-Err-abandon.ensures.refusals known c.in-Err-abandon.ensures.refused))

pub returns-in-Ok-abandon-clause-answered : goal.returns-in-Ok-abandon-clause-answered
returns-in-Ok-abandon-clause-answered c =
    let v = but_for_room c.args.self.now in
    let w = but_for_room c.abandon.new.self in
    subst (λ (e : Asked). IsAnswered v e told.Abandoned w) (sym c.in-Abandon.is) (abandon_so v w c.in-Abandon.e c.abandon.ensures.round c.abandon.ensures.staging c.in-Ok-abandon.ensures.meaning)

pub unreachable-requires : goal.unreachable-requires
unreachable-requires c =
    let d = c.in_default in
    no_other c.args.event.now c.requires.alone d.not-Put d.not-Delete d.not-Stage d.not-Begin d.not-BeginSweep d.not-Retire d.not-Abandon
