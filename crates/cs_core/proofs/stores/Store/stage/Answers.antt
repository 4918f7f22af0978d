use Rattle.std.proofs.Common.{rules, ◌≡◌, Bool, Some, None, Ok, ap, false, refl, subst, sym}
use Rattle.cs_deps.specs.State.{State as GraphState}
use Rattle.cs_extent.specs.State.{extents_of, shape}
use Rattle.cs_index.specs.Staged.{IsExact}
use Rattle.law_machine.specs.State.{Stage, Staged, Unchanged}
use Rattle.law_refinement.specs.cs_reclaim.ByRule.{IsSweepStageFullBy, IsSweepStageWornBy, MayStageBy}
use Rattle.cs_core.specs.contracts.stores.Store.{the_view}
use Rattle.cs_core.specs.Steps.{Declines, Steps}
use Rattle.cs_core.specs.Stored.{StagesBehind, Stored, but_for_room}
use Rattle.cs_core.proofs.Going.{round_told, same_graph, same_index}
use Rattle.cs_core.proofs.KeptStages.{kept_refused}
use Rattle.cs_core.proofs.Moves.{behind_none, root_on}
use Rattle.cs_core.proofs.Noted.{pushed_last}
use Rattle.cs_core.proofs.StagedBy.{kept_staged_by, may_indeed, none_staged, stage_declines_by, stage_none_by, stage_steps_by, staged_moves_by, staged_table_by}
use Rattle.cs_core.proofs.StagesApart.{roomed_copies}
use Rattle.cs_core.proofs.StageSteps.{staged_none, staged_some}
use Rattle.cs_core.proofs.PutsMeant.{live_means}
use Rattle.cs_core.proofs.stores.Store.stage.Goals as goal

pub stage-requires-clause-runs : goal.stage-requires-clause-runs
stage-requires-clause-runs c = λ rule. (c.self.invariant.apart rule).runs

pub returns-in-Ok-None-clause-step : goal.returns-in-Ok-None-clause-step
returns-in-Ok-None-clause-step c = subst (λ (u : Stored). u.halted ≡ false → Steps u Stage Unchanged (record (the_view c.self.inside) { extents = c.stage.new.extents; graph = c.stage.new.graph; index = c.stage.new.index; copies = c.stage.new.self; roots = c.reserve.new.self.items; out = c.stage.new.graph.round })) c.self.view_is (λ runs.
    let v : Stored = the_view c.self.inside in
    let b : Bool = (shape v.extents).apart in
    let new = c.stage.new in
    let none : c.stage.result ≡ Ok None = search rules in
    let e = c.stage.ensures.unchanged none in
    let w : Stored = record v { extents = new.extents; graph = new.graph; index = new.index; copies = new.self; roots = c.reserve.new.self.items } in
    round_told (λ (u : Stored). Steps v Stage Unchanged u) w (ap (λ (k : GraphState). k.round) e.3) (stage_none_by v c.extent_count.ensures.whole runs b refl w
    (roomed_copies v new.extents new.graph new.index new.self c.reserve.new.self.items e.2 (same_graph v.graph new.graph e.3) (same_index v.index new.index e.1) e.0 c.reserve.ensures.items)
    (staged_none c.stage.result (MayStageBy b (shape v.extents) (extents_of v.extents) v.index v.copies → ⊥) c.stage.ensures.none none)))

pub returns-in-Ok-None-clause-staged : goal.returns-in-Ok-None-clause-staged
returns-in-Ok-None-clause-staged c = rw (← c.self.view_is) (
    let v : Stored = the_view c.self.inside in
    let b : Bool = (shape v.extents).apart in
    let new = c.stage.new in
    let none : c.stage.result ≡ Ok None = search rules in
    let e = c.stage.ensures.unchanged none in
    let w : Stored = record v { extents = new.extents; graph = new.graph; index = new.index; copies = new.self; roots = c.reserve.new.self.items } in (
      none_staged v b (staged_none c.stage.result (MayStageBy b (shape v.extents) (extents_of v.extents) v.index v.copies → ⊥) c.stage.ensures.none none),
      round_told (λ (u : Stored). but_for_room u ≡ but_for_room v) w (ap (λ (k : GraphState). k.round) e.3)
          (roomed_copies v new.extents new.graph new.index new.self c.reserve.new.self.items e.2 (same_graph v.graph new.graph e.3) (same_index v.index new.index e.1) e.0 c.reserve.ensures.items),
    ))

pub returns-in-Ok-None-clause-behind : goal.returns-in-Ok-None-clause-behind
returns-in-Ok-None-clause-behind c = rw (← c.self.view_is) (
    let v : Stored = the_view c.self.inside in
    let none : c.stage.result ≡ Ok None = search rules in
    subst (λ (k : GraphState). StagesBehind v.graph.staging.pending k.staging.pending) (sym (c.stage.ensures.unchanged none).3) (behind_none v.graph.staging.pending))

pub returns-in-Err-clause-step : goal.returns-in-Err-clause-step
returns-in-Err-clause-step c = subst (λ (u : Stored). u.halted ≡ false → Declines u Stage c.in-Err.refusal (record (the_view c.self.inside) { extents = c.stage.new.extents; graph = c.stage.new.graph; index = c.stage.new.index; copies = c.stage.new.self; roots = c.reserve.new.self.items; out = c.stage.new.graph.round })) c.self.view_is (λ runs.
    let v : Stored = the_view c.self.inside in
    let e = c.in-Err.ensures in
    let new = c.stage.new in
    let w : Stored = record v { extents = new.extents; graph = new.graph; index = new.index; copies = new.self; roots = c.reserve.new.self.items } in
    round_told (λ (u : Stored). Declines v Stage c.in-Err.refusal u) w (ap (λ (k : GraphState). k.round) e.unstaged) (stage_declines_by v c.extent_count.ensures.whole runs (shape v.extents).apart refl w
    (roomed_copies v new.extents new.graph new.index new.self c.reserve.new.self.items e.unwritten e.unstaged (same_index v.index new.index e.refused) e.kept c.reserve.ensures.items) c.in-Err.refusal e.why))

pub invariant_of-self-in-Err : goal.invariant_of-self-in-Err
invariant_of-self-in-Err c =
    let e = c.stage.ensures in
    let d = c.in-Err.ensures in
    let new = c.stage.new in
    kept_refused (the_view c.self.inside) c.self.invariant new.extents new.graph new.index new.self c.reserve.new.self.items e.ready e.format e.limit
    d.refused d.kept d.unwritten d.unstaged c.reserve.ensures.items

pub invariant_of-self-in-Ok-Some : goal.invariant_of-self-in-Ok-Some
invariant_of-self-in-Ok-Some c =
    let s : Stored = the_view c.self.inside in
    let e = c.stage.ensures in
    let new = c.stage.new in
    kept_staged_by s c.self.invariant new.extents new.graph new.index new.self c.push_back_reserved.new.self.items e.ready e.format e.limit
    (shape s.extents).apart refl c.extent_count.ensures.whole c.families.ensures.whole.kept c.in-Ok-Some.version _ e.shape e.map (e.staged c.in-Ok-Some.version (search rules))
    (pushed_last c.push_back_reserved.new.self.items c.reserve.new.self.items s.roots _ c.push_back_reserved.ensures.items c.reserve.ensures.items)

pub returns-in-Ok-Some-clause-step : goal.returns-in-Ok-Some-clause-step
returns-in-Ok-Some-clause-step c = subst (λ (u : Stored). u.halted ≡ false → Steps u Stage (Staged c.in-Ok-Some.version) (record (the_view c.self.inside) { extents = c.stage.new.extents; graph = c.stage.new.graph; index = c.stage.new.index; copies = c.stage.new.self; roots = c.push_back_reserved.new.self.items; out = c.stage.new.graph.round })) c.self.view_is (λ runs.
    let v : Stored = the_view c.self.inside in
    let b : Bool = (shape v.extents).apart in
    let whole = c.extent_count.ensures.whole in
    let e = c.stage.ensures in
    let new = c.stage.new in
    let is : c.stage.result ≡ Ok (Some c.in-Ok-Some.version) = search rules in
    let done = e.staged c.in-Ok-Some.version is in
    let why = subst (λ r. IsExact r (IsSweepStageFullBy b v.index v.extents v.copies) (IsSweepStageWornBy b v.index v.extents v.graph.staging v.copies)) is e.why in
    let may = may_indeed v b (staged_some c.stage.result (MayStageBy b (shape v.extents) (extents_of v.extents) v.index v.copies → ⊥) c.in-Ok-Some.version e.none is) in
    let m = staged_moves_by v.index v.extents v.graph v.copies c.in-Ok-Some.version _ new.index new.extents new.graph new.self b done (root_on _ whole) in
    round_told (λ (u : Stored). Steps v Stage (Staged c.in-Ok-Some.version) u)
    (record v { graph = new.graph; extents = new.extents; index = new.index; copies = new.self; roots = c.push_back_reserved.new.self.items }) m.round
    (stage_steps_by v whole runs b refl c.in-Ok-Some.version new.extents new.graph new.index new.self c.push_back_reserved.new.self.items why.0 why.1 may done e.shape
    (pushed_last c.push_back_reserved.new.self.items c.reserve.new.self.items v.roots _ c.push_back_reserved.ensures.items c.reserve.ensures.items)))

pub returns-in-Ok-Some-clause-staged : goal.returns-in-Ok-Some-clause-staged
returns-in-Ok-Some-clause-staged c =
    let s : Stored = the_view c.self.inside in
    staged_table_by s.index s.extents s.graph s.copies c.in-Ok-Some.version _ c.stage.new.index c.stage.new.extents c.stage.new.graph c.stage.new.self (shape s.extents).apart
    (c.stage.ensures.staged c.in-Ok-Some.version (search rules))

pub returns-in-Ok-Some-clause-behind : goal.returns-in-Ok-Some-clause-behind
returns-in-Ok-Some-clause-behind c = rw (← c.self.view_is) (
    let s : Stored = the_view c.self.inside in
    (staged_moves_by s.index s.extents s.graph s.copies c.in-Ok-Some.version _ c.stage.new.index c.stage.new.extents c.stage.new.graph c.stage.new.self (shape s.extents).apart
    (c.stage.ensures.staged c.in-Ok-Some.version (search rules)) (root_on _ c.extent_count.ensures.whole)).behind)

pub returns-in-Ok-Some-clause-round : goal.returns-in-Ok-Some-clause-round
returns-in-Ok-Some-clause-round c = rw (← c.self.view_is) (
    let s : Stored = the_view c.self.inside in (
      (staged_moves_by s.index s.extents s.graph s.copies c.in-Ok-Some.version _ c.stage.new.index c.stage.new.extents c.stage.new.graph c.stage.new.self (shape s.extents).apart
          (c.stage.ensures.staged c.in-Ok-Some.version (search rules)) (root_on _ c.extent_count.ensures.whole)).round,
      refl,
    ))

pub returns-in-Ok-Some-clause-meaning : goal.returns-in-Ok-Some-clause-meaning
returns-in-Ok-Some-clause-meaning c = rw (← c.self.view_is) (live_means (the_view c.self.inside).index c.stage.new.index c.stage.ensures.map)

pub returns-in-Ok-None-clause-meaning : goal.returns-in-Ok-None-clause-meaning
returns-in-Ok-None-clause-meaning c = rw (← c.self.view_is) (live_means (the_view c.self.inside).index c.stage.new.index c.stage.ensures.map)
