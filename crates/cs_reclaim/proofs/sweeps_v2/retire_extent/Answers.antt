use Rattle.std.proofs.Common.{◌≡◌, ◌∙◌, ◌+◌, ap, arith, false, inl, refl, sym, Err}
use Rattle.std.proofs.lemmas.Result.{err_from_is_err_and}
use Rattle.cs_extent.specs.State.{extents_of, shape}
use Rattle.cs_frame.specs.Formats.{place_of}
use Rattle.cs_index.proofs.Exact.{why_same}
use Rattle.cs_index.specs.State.{id_number, index_of}
use Rattle.law_machine.specs.Device.{Shape}
use Rattle.law_machine.specs.Extents.{Extents, ForMove, marked}
use Rattle.law_machine.specs.Index.{NothingLive}
use Rattle.cs_index.specs.declared.live.LiveChunk.{LiveChunk}
use Rattle.cs_reclaim.proofs.Living.{alive, dead}
use Rattle.cs_reclaim.proofs.Retiring.{why_alive, why_refusals, why_retired}
use Rattle.cs_reclaim.proofs.Sweeping.{emptied_alone, merge_generation, merge_root, merge_shape, merge_stays, resets_emptied}
use Rattle.cs_reclaim.proofs.sweeps_v2.retire_extent.Goals as goal
use Rattle.cs_reclaim.proofs.sweeps_v2.retire_extent.Goals.{In_ok-root, Then-is_some}

still_live : (c : Then-is_some) → NothingLive (index_of c.args.index.now) c.args.extent → ⊥
still_live c none =
    alive c.first_live.result (index_of c.args.index.now) c.args.extent (λ (f : LiveChunk). id_number f.id) (λ (f : LiveChunk). f.chunk) (λ (f : LiveChunk). place_of f.place)
    c.first_live.ensures.found (sym c.is_some.ensures ∙ c.if-is_some.true) none

pub returns-then-is_some-clause-alive : goal.returns-then-is_some-clause-alive
returns-then-is_some-clause-alive c = ((λ is none. still_live c none), (λ some. refl))

pub returns-then-is_some-clause-why : goal.returns-then-is_some-clause-why
returns-then-is_some-clause-why c = still_live c

pub returns-clause-nothing : goal.returns-clause-nothing
returns-clause-nothing c = dead c.first_live.result _ _ c.first_live.ensures.found (sym c.is_some.ensures ∙ c.if-is_some.false)

-- the shape stays as the run is staged
same_shape : (c : In_ok-root) → shape c.stage_merged.new.extents ≡ shape c.args.extents.now
same_shape c =
    merge_shape c.first_live.new.self c.args.extents.now c.args.graph.now ForMove c.in_ok-root.root c.args.commands c.stage_merged.new.self c.stage_merged.new.extents c.stage_merged.new.graph c.args.extent
    c.in_ok-root.ensures.staged

still_together : (c : In_ok-root) → (shape c.stage_merged.new.extents).apart ≡ false
still_together c = ap (λ (S : Shape). S.apart) (same_shape c) ∙ c.requires.together

pub returns-clause-retired : goal.returns-clause-retired
returns-clause-retired c =
    let at = (goal.at.returns-clause-retired c).In_ok-root in (
      c.stage_merged.new.extents,
      (rw (c.first_live.ensures.same) at c.in_ok-root.ensures.staged),
      c.set_swept.ensures.extents
          ∙ ap (λ (z : Extents). marked z c.args.extent false)
          (emptied_alone (shape c.stage_merged.new.extents) (extents_of c.stage_merged.new.extents) (extents_of c.reset.new.self) c.args.extent c.in_ok-root.root (still_together at) c.in-Ok.ensures.extents),
      c.set_swept.ensures.shape ∙ c.reset.ensures.shape ∙ same_shape at,
    )

pub reset-requires-clause-closed : goal.reset-requires-clause-closed
reset-requires-clause-closed c = λ rule.
    (merge_stays c.first_live.new.self c.args.extents.now c.args.graph.now ForMove c.in_ok-root.root c.args.commands c.stage_merged.new.self c.stage_merged.new.extents c.stage_merged.new.graph c.args.extent
    c.in_ok-root.ensures.staged c.requires.swept).closed

pub returns-clause-alive : goal.returns-clause-alive
returns-clause-alive c = (
  (λ is. absurd (cc is)),
  (λ some. absurd (some (dead c.first_live.result _ _ c.first_live.ensures.found (sym c.is_some.ensures ∙ c.if-is_some.false)))),
)

pub reset-requires-clause-written : goal.reset-requires-clause-written
reset-requires-clause-written c = λ rule.
    (merge_stays c.first_live.new.self c.args.extents.now c.args.graph.now ForMove c.in_ok-root.root c.args.commands c.stage_merged.new.self c.stage_merged.new.extents c.stage_merged.new.graph c.args.extent
    c.in_ok-root.ensures.staged c.requires.swept).written

pub unreachable-requires : goal.unreachable-requires
unreachable-requires c =
    c.if-generation.false (c.generation.ensures
    ∙ sym (merge_generation c.first_live.new.self c.args.extents.now c.args.graph.now ForMove c.in_ok-root.root c.args.commands c.stage_merged.new.self c.stage_merged.new.extents c.stage_merged.new.graph c.args.extent
    c.in_ok-root.ensures.staged c.requires.swept)
    ∙ c.reset.ensures.worn.0 (c.in-Err.is ∙ ap Err c.in-Err.ensures.refusals))

pub returns-clause-ready : goal.returns-clause-ready
returns-clause-ready c =
    let at = (goal.at.returns-clause-ready c).In_ok-root in
    let ready = c.in_ok-root.ensures.ready in record {
      families = ready.families ∙ ap (λ (S : Shape). 1 + S.sections) (sym (c.set_swept.ensures.shape ∙ c.reset.ensures.shape));
      resets = resets_emptied (extents_of c.stage_merged.new.extents) (extents_of c.reset.new.self) (extents_of c.set_swept.new.self) c.stage_merged.new.graph.staging c.args.extent c.in_ok-root.root false
          (emptied_alone (shape c.stage_merged.new.extents) (extents_of c.stage_merged.new.extents) (extents_of c.reset.new.self) c.args.extent c.in_ok-root.root (still_together at) c.in-Ok.ensures.extents)
          c.set_swept.ensures.extents
          (merge_root c.first_live.new.self c.args.extents.now c.args.graph.now ForMove c.in_ok-root.root c.args.commands c.stage_merged.new.self c.stage_merged.new.extents c.stage_merged.new.graph c.args.extent
          c.in_ok-root.ensures.staged (omega (arith, ready.families, ap (λ (S : Shape). S.sections) (same_shape at), c.extent_count-extents.ensures.whole.geometry.fewest_sections)))
          ready.resets;
    }

pub returns-clause-why : goal.returns-clause-why
returns-clause-why c =
    let why = rw (c.first_live.ensures.same) at c.in_ok-root.ensures.why in
    λ none. why_retired _ _ _ why (λ last. c.if-generation.false (c.generation.ensures ∙ last))

pub returns-in_err-root-clause-why : goal.returns-in_err-root-clause-why
returns-in_err-root-clause-why c =
    let why = rw (c.first_live.ensures.same) at c.in_err-root.ensures.why in
    let p = err_from_is_err_and c.from_residual.result c.from_residual.ensures.1 in
    rw (p.1, p.2) (λ none. why_same c.in_err-root.field-0.0 _ _ _ _ (λ full. full) (λ full. full) (λ worn. inl worn) why)

pub returns-in_err-root-clause-alive : goal.returns-in_err-root-clause-alive
returns-in_err-root-clause-alive c =
    let p = err_from_is_err_and c.from_residual.result c.from_residual.ensures.1 in
    rw (p.1, p.2) (why_alive _ _ c.in_err-root.field-0.0 (NothingLive (index_of c.args.index.now) c.args.extent) c.in_err-root.ensures.why (dead c.first_live.result _ _ c.first_live.ensures.found (sym c.is_some.ensures ∙ c.if-is_some.false)))

pub returns-in_err-root-clause-refusals : goal.returns-in_err-root-clause-refusals
returns-in_err-root-clause-refusals c =
    let p = err_from_is_err_and c.from_residual.result c.from_residual.ensures.1 in
    rw (p.1, p.2) (why_refusals _ _ c.in_err-root.field-0.0 c.in_err-root.ensures.why)
