use Rattle.std.proofs.Common.{◌≡◌, ◌<◌, ◌≤◌, ◌^◌, ◌∙◌, ap, arith, subst, sym, ℕ}
use Rattle.std.proofs.lemmas.Bool.{false≢true}
use Rattle.cs_frame.proofs.GeometryLaws.{bounds}
use Rattle.cs_frame.specs.FormatRuns.{run_size}
use Rattle.cs_frame.specs.Frames.{page_count}
use Rattle.cs_frame.specs.Runs.{IsRun, entries_of}
use Rattle.cs_index.proofs.Spelled.{pages_most, size_most}
use Rattle.cs_index.proofs.stages.prepare.Goals as goal
use Rattle.cs_index.proofs.stages.prepare.Goals.{After-frame_of}
use Rattle.law_machine.specs.Format.{Format}

pub returns-then-is_last_root-clause-why : goal.returns-then-is_last_root-clause-why
returns-then-is_last_root-clause-why c = ((λ none. none), c.is_last_root.ensures.0 c.if-is_last_root.true)

pub returns-clause-why : goal.returns-clause-why
returns-clause-why c = ((λ none. none), (λ worn. false≢true (c.if-is_last_root.ensures.1 worn)))

-- the format is that of the extents
format_is : (c : After-frame_of) → c.format.result ≡ c.args.extents.now.format
format_is c = c.format.ensures.format ∙ c.geometry.ensures.format

pub frame_of-requires-clause-run : goal.frame_of-requires-clause-run
frame_of-requires-clause-run c = subst (λ (f : Format). IsRun f c.args.run.now) (sym (c.format.ensures.format ∙ c.geometry.ensures.format)) c.requires.run

pub frame_of-requires-clause-most : goal.frame_of-requires-clause-most
frame_of-requires-clause-most c =
    let b = bounds _ _ _ _ c.geometry.ensures.whole.geometry in
    subst (λ (f : Format). run_size f (entries_of c.args.run.now.entries.items) < 2 ^ 32) (sym (c.format.ensures.format ∙ c.geometry.ensures.format))
    (omega (arith, size_most c.args.extents.now.format c.args.extents.now.pages c.args.run.now.entries.items b.fewest_pages c.requires.weight, b.most_pages))

pub returns-clause-frame : goal.returns-clause-frame
returns-clause-frame c = c.in_ok-frame.ensures.frame c.args.extents.now (sym (format_is (goal.at.returns-clause-frame c).After-frame_of))

pub returns-clause-pages : goal.returns-clause-pages
returns-clause-pages c =
    let b = bounds _ _ _ _ c.geometry.ensures.whole.geometry in
    subst (λ (n : ℕ). (1 ≤ n) × (n ≤ c.args.extents.now.pages))
    (sym (c.in_ok-frame.ensures.count ∙ ap (λ (f : Format). page_count (run_size f (entries_of c.args.run.now.entries.items))) (format_is (goal.at.returns-clause-pages c).After-frame_of)))
    (pages_most c.args.extents.now.format c.args.extents.now.pages c.args.run.now.entries.items b.fewest_pages c.requires.weight)
