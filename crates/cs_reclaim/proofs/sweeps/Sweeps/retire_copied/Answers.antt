use Rattle.std.proofs.Common.{List, [], arith, ◌≡◌, ◌∙◌, ◌+◌, ◌<◌, ◌≤◌, ◌==◌, ◌⊎◌, ℕ, Err, Ok, Result, ap, length, refl, subst, sym, true}
use Rattle.cs_refusal.specs.declared.refusals.Refusal.{Refusal}
use Rattle.cs_deps.specs.Staging.{Staging}
use Rattle.cs_deps.specs.State.{State as GraphState}
use Rattle.cs_extent.specs.Appended.{IsReady}
use Rattle.cs_extent.specs.Frames.{AreResetsStaged, root_family}
use Rattle.cs_extent.specs.State.{State as ExtentsState, extents_of, shape}
use Rattle.cs_frame.specs.Formats.{place_of}
use Rattle.cs_index.specs.Apart.{IsStageFullApart, IsStageWornApart}
use Rattle.cs_index.specs.declared.live.LiveChunk.{LiveChunk}
use Rattle.cs_index.specs.Copies.{IsSettled, newest_copies}
use Rattle.cs_index.specs.State.{State as IndexState, id_number, index_of}
use Rattle.law_machine.specs.Element.{Copy}
use Rattle.std.specs.Prelude.{slice_index}
use Rattle.law_machine.specs.Apart.{AllCopied}
use Rattle.law_machine.specs.Device.{Shape}
use Rattle.law_machine.specs.Extents.{Extents}
use Rattle.cs_reclaim.specs.Rooted.{IsRootedApart, IsUnmarked}
use Rattle.cs_reclaim.proofs.Resting.{none_rest, staged_format, staged_limit, staged_root, staged_shape, staged_small}
use Rattle.cs_reclaim.proofs.Left.{all_there, exact_not_alive, exact_refusals, last_same, some_there}
use Rattle.cs_reclaim.proofs.sweeps.Sweeps.retire_copied.Goals as goal
use Rattle.cs_reclaim.proofs.sweeps.Sweeps.retire_copied.Goals.{After-end_root, After-mark_again, After-stage_settled, In-Err, In-Ok, Then-is_some}

-- ---- where something is left

still_left : (c : Then-is_some) → AllCopied (index_of c.args.index.now) c.args.self.now c.args.extent → ⊥
still_left c all =
    some_there (index_of c.args.index.now) c.args.self.now c.args.extent c.requires.order c.requires.up_to _ c.last.ensures (λ (f : LiveChunk). id_number f.id) (λ (f : LiveChunk). f.chunk) (λ (f : LiveChunk). place_of f.place)
    c.first_behind.result c.first_behind.ensures (sym c.is_some.ensures ∙ c.if-is_some.true) all

pub returns-then-is_some-clause-left : goal.returns-then-is_some-clause-left
returns-then-is_some-clause-left c = ((λ is all. still_left (goal.at.returns-then-is_some-clause-left c).Then-is_some all), (λ some. refl))

pub returns-then-is_some-clause-why : goal.returns-then-is_some-clause-why
returns-then-is_some-clause-why c = λ all. absurd (still_left (goal.at.returns-then-is_some-clause-why c).Then-is_some all)

-- ---- where all is copied

all_copied : (c : After-stage_settled) → AllCopied (index_of c.args.index.now) c.args.self.now c.args.extent
all_copied c =
    all_there (index_of c.args.index.now) c.args.self.now c.args.extent c.requires.order c.requires.up_to _ c.last.ensures (λ (f : LiveChunk). id_number f.id) (λ (f : LiveChunk). f.chunk) (λ (f : LiveChunk). place_of f.place)
    c.first_behind.result c.first_behind.ensures (sym c.is_some.ensures ∙ c.if-is_some.false)

pub stage_settled-requires-clause-limit : goal.stage_settled-requires-clause-limit
stage_settled-requires-clause-limit c = c.requires.limit ∙ ap (λ (S : Shape). S.most_weight) (sym c.unmark.ensures.same_shape)

pub stage_settled-requires-clause-format : goal.stage_settled-requires-clause-format
stage_settled-requires-clause-format c = c.requires.format ∙ ap (λ (S : Shape). S.format) (sym c.unmark.ensures.same_shape)

pub stage_settled-requires-clause-apart : goal.stage_settled-requires-clause-apart
stage_settled-requires-clause-apart c = ap (λ (S : Shape). S.apart) c.unmark.ensures.same_shape ∙ c.requires.apart

pub stage_settled-requires-clause-runs : goal.stage_settled-requires-clause-runs
stage_settled-requires-clause-runs c = subst (λ (S : Shape). length c.args.index.now.runs ≤ S.most_runs) (sym c.unmark.ensures.same_shape) c.requires.runs

pub stage_settled-requires-clause-ready : goal.stage_settled-requires-clause-ready
stage_settled-requires-clause-ready c = record {
  families = c.requires.ready.families ∙ ap (λ (S : Shape). 1 + S.sections) (sym c.unmark.ensures.same_shape);
  resets = subst (λ (x : Extents). AreResetsStaged x c.args.graph.now.staging) (sym c.unmark.ensures.mark) c.requires.ready.resets;
}

-- ---- what counts then

settled : (c : After-stage_settled) → (mid : IndexState) → IsSettled c.args.index.now (newest_copies c.deref.result.now) mid → IsSettled c.args.index.now c.args.self.now mid
settled c mid is = subst (λ (cs : List Copy). IsSettled c.args.index.now cs mid) (ap newest_copies c.deref.ensures.value ∙ c.self.view_is) is

same_shape : (c : In-Ok) → shape c.stage_settled.new.extents ≡ shape c.unmark.new.extents
same_shape c =
    let s = c.in-Ok.ensures.settled in
    staged_shape s.0 c.stage_settled.new.self c.unmark.new.extents c.stage_settled.new.extents c.args.graph.now c.stage_settled.new.graph c.in-Ok.root c.args.commands s.2.0

pub end_root-requires-clause-apart : goal.end_root-requires-clause-apart
end_root-requires-clause-apart c = ap (λ (S : Shape). S.apart) (same_shape (goal.at.end_root-requires-clause-apart c).In-Ok ∙ c.unmark.ensures.same_shape) ∙ c.requires.apart

pub end_root-requires-clause-root : goal.end_root-requires-clause-root
end_root-requires-clause-root c =
    let s = c.in-Ok.ensures.settled in
    staged_small s.0 c.stage_settled.new.self c.unmark.new.extents c.stage_settled.new.extents c.args.graph.now c.stage_settled.new.graph c.in-Ok.root c.args.commands s.2.0

-- what goes with the root was done, of no copies
rooted : (c : After-end_root) → IsRootedApart c.stage_settled.new.self c.stage_settled.new.extents [] c.in-Ok.root c.end_root.new.extents c.end_root.new.self
rooted c = subst (λ (cs : List Copy). IsRootedApart c.stage_settled.new.self c.stage_settled.new.extents cs c.in-Ok.root c.end_root.new.extents c.end_root.new.self) (ap newest_copies c.clear.ensures.items) c.end_root.ensures.rooted

pub returns-in-Ok-clause-retired : goal.returns-in-Ok-clause-retired
returns-in-Ok-clause-retired c =
    let at = goal.at.returns-in-Ok-clause-retired c in
    let s = c.in-Ok.ensures.settled in (
      record {
        counted = s.0;
        unmarked = c.unmark.new.extents;
        settled = settled at.After-stage_settled s.0 s.1;
        ended = c.unmark.ensures;
        staged = record {
          mid = c.stage_settled.new.extents;
          staged = s.2.0;
          same_shape = same_shape at.In-Ok;
          whole = c.end_root.ensures.whole;
          rooted = rooted at.After-end_root;
        };
      },
      none_rest (shape c.stage_settled.new.extents) (extents_of c.stage_settled.new.extents) c.end_root.new.self (rooted at.After-end_root).copies_rest,
    )

pub returns-in-Ok-clause-all : goal.returns-in-Ok-clause-all
returns-in-Ok-clause-all c = all_copied (goal.at.returns-in-Ok-clause-all c).After-stage_settled

pub returns-in-Ok-clause-left : goal.returns-in-Ok-clause-left
returns-in-Ok-clause-left c = ((λ is. absurd (cc is)), (λ not. absurd (not (all_copied (goal.at.returns-in-Ok-clause-left c).After-stage_settled))))

pub returns-in-Ok-clause-why : goal.returns-in-Ok-clause-why
returns-in-Ok-clause-why c = λ all.
    let s = c.in-Ok.ensures.settled in record {
      counted = s.0;
      unmarked = c.unmark.new.extents;
      settled = settled (goal.at.returns-in-Ok-clause-why c).After-stage_settled s.0 s.1;
      ended = c.unmark.ensures;
      why = last_same ℕ (Ok c.in-Ok.root) (IsStageFullApart s.0 c.unmark.new.extents) (IsStageWornApart s.0 c.unmark.new.extents c.args.graph.now.staging)
          ((extents_of c.args.extents.now).generation c.args.extent) (shape c.args.extents.now).greatest_generation _ (ap (λ (n : ℕ). n == 4294967295) c.generation-generation_worn.ensures) s.3;
    }

pub returns-in-Ok-clause-shape : goal.returns-in-Ok-clause-shape
returns-in-Ok-clause-shape c = c.end_root.ensures.rooted.same_shape ∙ same_shape (goal.at.returns-in-Ok-clause-shape c).In-Ok ∙ c.unmark.ensures.same_shape

pub returns-in-Ok-clause-limit : goal.returns-in-Ok-clause-limit
returns-in-Ok-clause-limit c =
    let s = c.in-Ok.ensures.settled in
    staged_limit s.0 c.stage_settled.new.self c.unmark.new.extents c.stage_settled.new.extents c.args.graph.now c.stage_settled.new.graph c.in-Ok.root c.args.commands s.2.0 ∙ s.1.limit

pub returns-in-Ok-clause-format : goal.returns-in-Ok-clause-format
returns-in-Ok-clause-format c =
    let s = c.in-Ok.ensures.settled in
    staged_format s.0 c.stage_settled.new.self c.unmark.new.extents c.stage_settled.new.extents c.args.graph.now c.stage_settled.new.graph c.in-Ok.root c.args.commands s.2.0 ∙ s.1.format

pub returns-in-Ok-clause-ready : goal.returns-in-Ok-clause-ready
returns-in-Ok-clause-ready c =
    let s = c.in-Ok.ensures.settled in
    let ready = c.in-Ok.ensures.ready in
    let shapes = c.end_root.ensures.rooted.same_shape in
    let root = staged_root s.0 c.stage_settled.new.self c.unmark.new.extents c.stage_settled.new.extents c.args.graph.now c.stage_settled.new.graph c.in-Ok.root c.args.commands s.2.0
    (omega (arith, ready.families, c.end_root.ensures.whole.geometry.fewest_sections)) in record {
      families = ready.families ∙ ap (λ (S : Shape). 1 + S.sections) (sym shapes);
      resets = c.end_root.ensures.resets (slice_index c.stage_settled.new.graph.staging.latest root_family) ready.resets (omega (arith, root));
    }

-- ---- where it is refused

same_again : (c : After-mark_again) → c.mark_again.new.extents ≡ c.args.extents.now
same_again c = c.mark_again.ensures c.args.extents.now c.extent_count.ensures.whole c.requires.swept.marked
    (subst (λ (y : ExtentsState). IsUnmarked c.args.extents.now c.args.extent y) (sym c.in-Err.ensures.unwritten) c.unmark.ensures)

pub mark_again-requires : goal.mark_again-requires
mark_again-requires c = subst (λ (S : Shape). c.args.extent < S.extents) (sym (ap shape c.in-Err.ensures.unwritten ∙ c.unmark.ensures.same_shape)) c.requires.swept.inside

abbrev Nowhere : In-Err → Type 0
Nowhere c = IsStageFullApart c.in-Err.ensures.settled.0 c.unmark.new.extents

abbrev Worn : In-Err → Type 0
Worn c = IsStageWornApart c.in-Err.ensures.settled.0 c.unmark.new.extents c.args.graph.now.staging ⊎ ((c.generation-generation_worn.result == 4294967295) ≡ true)

pub returns-in-Err-clause-left : goal.returns-in-Err-clause-left
returns-in-Err-clause-left c = (
  (λ is.
      let at = (goal.at.returns-in-Err-clause-left c).In-Err in
      let r : Result ℕ Refusal = Err c.in-Err.refusal in absurd (exact_not_alive (Nowhere at) (Worn at) r c.in-Err.ensures.settled.3 is)),
  (λ not. absurd (not (all_copied (goal.at.returns-in-Err-clause-left c).After-stage_settled))),
)

pub returns-in-Err-clause-why : goal.returns-in-Err-clause-why
returns-in-Err-clause-why c = λ all.
    let s = c.in-Err.ensures.settled in record {
      counted = s.0;
      unmarked = c.unmark.new.extents;
      settled = settled (goal.at.returns-in-Err-clause-why c).After-stage_settled s.0 s.1;
      ended = c.unmark.ensures;
      why = last_same ℕ (Err c.in-Err.refusal) (IsStageFullApart s.0 c.unmark.new.extents) (IsStageWornApart s.0 c.unmark.new.extents c.args.graph.now.staging)
          ((extents_of c.args.extents.now).generation c.args.extent) (shape c.args.extents.now).greatest_generation _ (ap (λ (n : ℕ). n == 4294967295) c.generation-generation_worn.ensures) s.3;
    }

pub returns-in-Err-clause-refusals : goal.returns-in-Err-clause-refusals
returns-in-Err-clause-refusals c =
    let at = (goal.at.returns-in-Err-clause-refusals c).In-Err in exact_refusals (Nowhere at) (Worn at) c.in-Err.refusal c.in-Err.ensures.settled.3

pub returns-in-Err-clause-unwritten : goal.returns-in-Err-clause-unwritten
returns-in-Err-clause-unwritten c = same_again (goal.at.returns-in-Err-clause-unwritten c).After-mark_again

pub returns-in-Err-clause-ready : goal.returns-in-Err-clause-ready
returns-in-Err-clause-ready c =
    subst (λ (x : ExtentsState). IsReady x c.stage_settled.new.graph.staging) (sym (same_again (goal.at.returns-in-Err-clause-ready c).After-mark_again))
    (subst (λ (t : Staging). IsReady c.args.extents.now t) (sym (ap (λ (g : GraphState). g.staging) c.in-Err.ensures.unstaged)) c.requires.ready)

pub returns-in-Err-clause-shape : goal.returns-in-Err-clause-shape
returns-in-Err-clause-shape c = ap shape (same_again (goal.at.returns-in-Err-clause-shape c).After-mark_again)
