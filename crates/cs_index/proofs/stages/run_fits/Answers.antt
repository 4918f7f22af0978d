use Rattle.std.proofs.Common.{◌≢◌, ◌∙◌, [], arith, inl, length, map, sym, ℕ}
use Rattle.std.proofs.lemmas.Bool.{eqb-true, eqb-false}
use Rattle.cs_extent.specs.Places.{GoesIn}
use Rattle.cs_extent.specs.Purposes.{reason_of}
use Rattle.cs_index.specs.Staged.{run_frame}
use Rattle.cs_index.specs.State.{named_entry}
use Rattle.cs_index.proofs.Exact.{none_of, some_of, fits_some}
use Rattle.cs_index.proofs.stages.run_fits.Goals as goal

pub returns-then-is_empty : goal.returns-then-is_empty
returns-then-is_empty c = inl (none_of named_entry c.args.run.now.entries.items (omega (arith, c.args.run.now.entries.ok.0, eqb-true _ 0 (sym c.is_empty.ensures ∙ c.if-is_empty.true))))

pub returns : goal.returns
returns c =
    let some : map named_entry c.args.run.now.entries.items ≢ [] = some_of named_entry c.args.run.now.entries.items (λ none. eqb-false _ 0 (sym c.is_empty.ensures ∙ c.if-is_empty.false) (omega (arith, c.args.run.now.entries.ok.0, none))) in
    fits_some (λ (k e : ℕ). GoesIn c.args.extents.now (reason_of c.args.purpose) k e) (map named_entry c.args.run.now.entries.items) c.run_pages.result
    (length (run_frame c.args.extents.now (map named_entry c.args.run.now.entries.items))) c.has_place.result some c.run_pages.ensures.count c.has_place.ensures
