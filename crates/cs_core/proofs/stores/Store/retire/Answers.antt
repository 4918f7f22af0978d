use Rattle.std.proofs.Common.{◌≡◌, Bool, Result, Ok, Err, OnOk, ap, arith, refl, subst, false, true}
use Rattle.std.specs.Result.{is_ok}
use Rattle.cs_refusal.specs.declared.refusals.Refusal.TheVariants as code
use Rattle.cs_deps.specs.State.{State as GraphState}
use Rattle.cs_extent.specs.State.{shape}
use Rattle.law_machine.specs.State.{Retire, Retired}
use Rattle.cs_core.specs.contracts.stores.Store.{the_view}
use Rattle.cs_core.specs.Steps.{Declines, Steps}
use Rattle.cs_core.specs.Stored.{Stored, but_for_room}
use Rattle.cs_reader.proofs.Loading.{failed, passed}
use Rattle.cs_core.proofs.BegunBy.{swept_by}
use Rattle.cs_core.proofs.Going.{round_told, same_index}
use Rattle.cs_core.proofs.KeptStages.{kept_refused}
use Rattle.cs_core.proofs.Moves.{root_on}
use Rattle.cs_core.proofs.Noted.{pushed_last}
use Rattle.cs_core.proofs.RetiredBy.{kept_retired_by, retire_refused_by, retire_steps_by, retired_means_by, retired_moves_by}
use Rattle.cs_core.proofs.StagesApart.{roomed_copies}
use Rattle.cs_core.proofs.SweepSteps.{IsFound, IsGone, retire_unmarked, unswept}
use Rattle.cs_core.proofs.stores.Store.retire.Goals as goal

pub returns-then-not-is_swept-clause-step : goal.returns-then-not-is_swept-clause-step
returns-then-not-is_swept-clause-step c = subst (λ (u : Stored). u.halted ≡ false → Declines u (Retire c.args.extent) code.NotSweepable u) c.self.view_is (λ runs.
    retire_unmarked (the_view c.self.inside) c.extent_count.ensures.whole runs c.args.extent
    (unswept c.self.inside.extents c.args.extent c.self.invariant.swept (failed (IsFound c.self.inside.extents c.args.extent) (IsGone c.self.inside.extents c.args.extent) c.is_swept.result c.is_swept.ensures c.if-not-is_swept.true)))

pub retire-requires-clause-swept : goal.retire-requires-clause-swept
retire-requires-clause-swept c =
    let x = c.self.inside.extents in
    swept_by (shape x).apart x c.args.extent refl c.self.invariant.swept (passed (IsFound x c.args.extent) (IsGone x c.args.extent) c.is_swept.result c.is_swept.ensures c.if-not-is_swept.false).1

pub retire-requires-clause-order : goal.retire-requires-clause-order
retire-requires-clause-order c = λ rule. (c.self.invariant.apart rule).order

pub retire-requires-clause-up_to : goal.retire-requires-clause-up_to
retire-requires-clause-up_to c = λ rule.
    let x = c.self.inside.extents in
    (c.self.invariant.apart rule).up_to c.args.extent (passed (IsFound x c.args.extent) (IsGone x c.args.extent) c.is_swept.result c.is_swept.ensures c.if-not-is_swept.false).1

pub retire-requires-clause-runs : goal.retire-requires-clause-runs
retire-requires-clause-runs c = λ rule. (c.self.invariant.apart rule).runs

pub invariant_of-self-in-Ok : goal.invariant_of-self-in-Ok
invariant_of-self-in-Ok c =
    let s : Stored = the_view c.self.inside in
    let e = c.retire.ensures in
    let new = c.retire.new in
    let marks = (passed (IsFound s.extents c.args.extent) (IsGone s.extents c.args.extent) c.is_swept.result c.is_swept.ensures c.if-not-is_swept.false).1 in
    kept_retired_by s c.self.invariant new.extents new.graph new.index new.self c.push_back_reserved.new.self.items e.ready e.format e.limit
    (shape s.extents).apart refl c.extent_count.ensures.whole c.families.ensures.whole.kept c.args.extent c.in-Ok.version _ marks e.shape e.map c.in-Ok.ensures.retired
    (pushed_last c.push_back_reserved.new.self.items c.reserve.new.self.items s.roots _ c.push_back_reserved.ensures.items c.reserve.ensures.items)

pub invariant_of-self-in-Err : goal.invariant_of-self-in-Err
invariant_of-self-in-Err c =
    let e = c.retire.ensures in
    let d = c.in-Err.ensures in
    let new = c.retire.new in
    kept_refused (the_view c.self.inside) c.self.invariant new.extents new.graph new.index new.self c.reserve.new.self.items e.ready e.format e.limit
    d.refused d.kept d.unwritten d.unstaged c.reserve.ensures.items

pub returns-in-Ok-clause-step : goal.returns-in-Ok-clause-step
returns-in-Ok-clause-step c = subst (λ (u : Stored). u.halted ≡ false → Steps u (Retire c.args.extent) (Retired c.in-Ok.version) (record (the_view c.self.inside) { extents = c.retire.new.extents; graph = c.retire.new.graph; index = c.retire.new.index; copies = c.retire.new.self; roots = c.push_back_reserved.new.self.items; out = c.retire.new.graph.round })) c.self.view_is (λ runs.
    let v : Stored = the_view c.self.inside in
    let b : Bool = (shape v.extents).apart in
    let whole = c.extent_count.ensures.whole in
    let new = c.retire.new in
    let d = c.in-Ok.ensures in
    let at = passed (IsFound v.extents c.args.extent) (IsGone v.extents c.args.extent) c.is_swept.result c.is_swept.ensures c.if-not-is_swept.false in
    let m = retired_moves_by v.index v.extents v.graph v.copies c.args.extent c.in-Ok.version _ new.index new.extents new.graph new.self b d.retired (root_on _ whole) c.retire.ensures.shape in
    round_told (λ (u : Stored). Steps v (Retire c.args.extent) (Retired c.in-Ok.version) u)
    (record v { extents = new.extents; graph = new.graph; index = new.index; copies = new.self; roots = c.push_back_reserved.new.self.items }) m.round
    (retire_steps_by v whole runs c.args.extent at.1 b refl d.all c.in-Ok.version new.extents new.graph new.index new.self c.push_back_reserved.new.self.items (d.why d.all) at.0 d.retired c.retire.ensures.shape
    (pushed_last c.push_back_reserved.new.self.items c.reserve.new.self.items v.roots _ c.push_back_reserved.ensures.items c.reserve.ensures.items)))

pub returns-in-Err-clause-step : goal.returns-in-Err-clause-step
returns-in-Err-clause-step c = subst (λ (u : Stored). u.halted ≡ false → Declines u (Retire c.args.extent) c.in-Err.refusal (record (the_view c.self.inside) { extents = c.retire.new.extents; graph = c.retire.new.graph; index = c.retire.new.index; copies = c.retire.new.self; roots = c.reserve.new.self.items; out = c.retire.new.graph.round })) c.self.view_is (λ runs.
    let v : Stored = the_view c.self.inside in
    let new = c.retire.new in
    let d = c.in-Err.ensures in
    let marks = (passed (IsFound v.extents c.args.extent) (IsGone v.extents c.args.extent) c.is_swept.result c.is_swept.ensures c.if-not-is_swept.false).1 in
    let w : Stored = record v { extents = new.extents; graph = new.graph; index = new.index; copies = new.self; roots = c.reserve.new.self.items } in
    let same : but_for_room w ≡ but_for_room v = roomed_copies v new.extents new.graph new.index new.self c.reserve.new.self.items d.unwritten d.unstaged (same_index v.index new.index d.refused) d.kept c.reserve.ensures.items in
    round_told (λ (u : Stored). Declines v (Retire c.args.extent) c.in-Err.refusal u) w (ap (λ (k : GraphState). k.round) d.unstaged)
    (retire_refused_by v c.extent_count.ensures.whole runs c.args.extent marks (shape v.extents).apart refl c.self.invariant w same c.in-Err.refusal d.left d.why d.refusals))

pub returns-in-Ok-clause-behind : goal.returns-in-Ok-clause-behind
returns-in-Ok-clause-behind c = rw (← c.self.view_is) (
    let s : Stored = the_view c.self.inside in
    (retired_moves_by s.index s.extents s.graph s.copies c.args.extent c.in-Ok.version _ c.retire.new.index c.retire.new.extents c.retire.new.graph c.retire.new.self (shape s.extents).apart c.in-Ok.ensures.retired
    (root_on _ c.extent_count.ensures.whole) c.retire.ensures.shape).behind)

pub returns-in-Ok-clause-round : goal.returns-in-Ok-clause-round
returns-in-Ok-clause-round c = rw (← c.self.view_is) (
    let s : Stored = the_view c.self.inside in (
      (retired_moves_by s.index s.extents s.graph s.copies c.args.extent c.in-Ok.version _ c.retire.new.index c.retire.new.extents c.retire.new.graph c.retire.new.self (shape s.extents).apart c.in-Ok.ensures.retired
          (root_on _ c.extent_count.ensures.whole) c.retire.ensures.shape).round,
      refl,
    ))

-- what is ensured where it went well
on_ok : {T E : Type 0} (r : Result T E) (P : Type 0) → is_ok r ≡ true → OnOk r P → P
on_ok (Ok t) P is ensured = ensured
on_ok (Err e) P is ensured = absurd (let clash : false ≡ true = is in cc clash)

pub push_back_reserved-requires : goal.push_back_reserved-requires
push_back_reserved-requires c = omega (arith, on_ok c.reserve.result _ c.if-is_err.ensures.negation c.reserve.ensures.ok)

pub returns-in-Ok-clause-meaning : goal.returns-in-Ok-clause-meaning
returns-in-Ok-clause-meaning c = rw (← c.self.view_is) (
    let s : Stored = the_view c.self.inside in
    retired_means_by s.index s.extents s.graph s.copies c.args.extent c.in-Ok.version _ c.retire.new.index c.retire.new.extents c.retire.new.graph c.retire.new.self c.self.invariant.apart c.retire.ensures.map
    (shape s.extents).apart refl c.in-Ok.ensures.retired)
