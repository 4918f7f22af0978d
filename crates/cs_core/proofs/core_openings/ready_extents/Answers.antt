use Rattle.std.proofs.Common.{◌≡◌, ◌∙◌, ◌||◌, ◌<◌, List, subst, sym}
use Rattle.std.specs.List.{AllByRecursion}
use Rattle.cs_extent.specs.State.{extents_of, shape}
use Rattle.cs_index.proofs.Newest.{all_oldest}
use Rattle.law_machine.specs.Apart.{any_run_on}
use Rattle.law_machine.specs.Element.{Run}
use Rattle.cs_core.proofs.Readying.{are_noted, opened_apart, opened_together}
use Rattle.cs_core.proofs.core_openings.ready_extents.Goals as goal

pub note_runs-requires : goal.note_runs-requires
note_runs-requires c = all_oldest (λ (run : Run). run.place.extent < (shape c.args.extents.now).extents) c.runs.result.now
    (subst (AllByRecursion (λ (run : Run). run.place.extent < (shape c.args.extents.now).extents)) (sym c.runs.ensures) c.requires.places)

pub returns-then-not-is_apart : goal.returns-then-not-is_apart
returns-then-not-is_apart c = opened_together c.args.extents.now c.args.index.now c.args.root (sym c.is_apart.ensures ∙ c.if-not-is_apart.true)

pub returns : goal.returns
returns c =
    let x = c.args.extents.now in
    let rule = sym c.is_apart.ensures ∙ c.if-not-is_apart.false in
    opened_apart x c.note_runs.new.extents c.free_blank.new.extents c.args.index.now c.args.sweeps.now c.args.root rule c.extent_count.ensures.whole
    (are_noted x c.note_runs.new.extents c.args.index.now.runs c.requires.read rule c.note_runs.ensures.shape
    (subst (λ (rs : List Run). extents_of c.note_runs.new.extents ≡ record (extents_of x) { of_runs = λ e. any_run_on rs e || (extents_of x).of_runs e }) c.runs.ensures c.note_runs.ensures.extents))
    c.requires.none c.free_blank.ensures.shape c.free_blank.ensures.freed
