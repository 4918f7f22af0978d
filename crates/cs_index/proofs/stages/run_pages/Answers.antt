use Rattle.std.proofs.Common.{◌≡◌, ◌≤◌, ◌∙◌, ap, arith, map, subst, sym, ℕ}
use Rattle.std.proofs.lemmas.List.{length-map}
use Rattle.cs_frame.proofs.GeometryLaws.{bounds}
use Rattle.cs_frame.specs.FormatRuns.{run_size}
use Rattle.cs_frame.specs.Frames.{page_count}
use Rattle.cs_frame.specs.Runs.{entries_of}
use Rattle.cs_index.specs.State.{named_entry}
use Rattle.cs_index.proofs.Spelled.{pages_most, run_pages, size_most}
use Rattle.cs_index.proofs.Staging.{counts_of}
use Rattle.cs_index.proofs.Weights.{entries_weigh, most_few}
use Rattle.cs_index.proofs.stages.run_pages.Goals as goal
use Rattle.cs_index.proofs.stages.run_pages.Goals.{After-run_size}
use Rattle.law_machine.specs.Format.{Format}

pub run_size-requires-clause-few : goal.run_size-requires-clause-few
run_size-requires-clause-few c = counts_of c.args.run.now.entries.items c.requires.short

pub run_size-requires-clause-most : goal.run_size-requires-clause-most
run_size-requires-clause-most c =
    omega (arith, c.requires.weight, most_few c.args.extents.now.format c.args.extents.now.pages (bounds _ _ _ _ c.geometry.ensures.whole.geometry).most_pages, entries_weigh c.args.extents.now.format (map named_entry c.args.run.now.entries.items), length-map c.args.run.now.entries.items named_entry)

-- how many bytes the payload has
bytes_are : (c : After-run_size) → c.run_size.result ≡ run_size c.args.extents.now.format (entries_of c.args.run.now.entries.items)
bytes_are c = c.run_size.ensures ∙ ap (λ (f : Format). run_size f (entries_of c.args.run.now.entries.items)) (c.format.ensures.format ∙ c.geometry.ensures.format)

pub frame_pages-requires : goal.frame_pages-requires
frame_pages-requires c =
    let b = bounds _ _ _ _ c.geometry.ensures.whole.geometry in
    omega (arith, bytes_are (goal.at.frame_pages-requires c).After-run_size, size_most c.args.extents.now.format c.args.extents.now.pages c.args.run.now.entries.items b.fewest_pages c.requires.weight, b.most_pages)

pub returns-clause-count : goal.returns-clause-count
returns-clause-count c =
    c.frame_pages.ensures ∙ ap page_count (bytes_are (goal.at.returns-clause-count c).After-run_size) ∙ sym (run_pages c.args.extents.now c.args.run.now.entries.items c.geometry.ensures.whole.geometry.fits_format c.requires.short)

pub returns-clause-fits : goal.returns-clause-fits
returns-clause-fits c =
    let b = bounds _ _ _ _ c.geometry.ensures.whole.geometry in
    subst (λ (n : ℕ). (1 ≤ n) × (n ≤ c.args.extents.now.pages)) (sym (c.frame_pages.ensures ∙ ap page_count (bytes_are (goal.at.returns-clause-fits c).After-run_size)))
    (pages_most c.args.extents.now.format c.args.extents.now.pages c.args.run.now.entries.items b.fewest_pages c.requires.weight)
