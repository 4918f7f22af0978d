use Rattle.std.proofs.Common.{◌≡◌, ◌∙◌, ◌<◌, arith, drop, length, map, subst, sym, inl, inr, refl, ℕ}
use Rattle.cs_extent.specs.State.{shape}
use Rattle.cs_index.proofs.OfFormat.{fewest_runs}
use Rattle.law_machine.specs.Extents.{ForMerge, ForRun}
use Rattle.cs_index.specs.Apart.{IsFullApart, WritesNewest}
use Rattle.cs_index.specs.State.{named_entry}
use Rattle.cs_index.proofs.Chosen.{full_run, takes_below, takes_some}
use Rattle.cs_index.proofs.Sizes.{none_left}
use Rattle.cs_index.proofs.Weights.{shape_light}
use Rattle.cs_index.proofs.indexes.Index.choose.Goals as goal

pub run_fits-requires-clause-weight : goal.run_fits-requires-clause-weight
run_fits-requires-clause-weight c = shape_light c.args.self.now c.args.extents.now (map named_entry c.in_ok-run.run'.entries.items) c.requires.format c.requires.limit c.in_ok-run.ensures.light

pub run_fits-requires-2-clause-weight : goal.run_fits-requires-2-clause-weight
run_fits-requires-2-clause-weight c = shape_light c.args.self.now c.args.extents.now (map named_entry c.in_ok-all.all.entries.items) c.requires.format c.requires.limit c.in_ok-all.ensures.light

pub returns-then-run_fits-clause-chosen : goal.returns-then-run_fits-clause-chosen
returns-then-run_fits-clause-chosen c = inl (refl, c.newest_portion-portion.ensures.newest ∙ sym (takes_some (shape c.args.extents.now) c.args.self.now c.requires.some))

pub returns-then-run_fits-clause-left : goal.returns-then-run_fits-clause-left
returns-then-run_fits-clause-left c =
    subst (λ (n : ℕ). length (drop n c.args.self.now.runs) < (shape c.args.extents.now).most_runs) (sym c.newest_portion-portion.ensures.newest)
    (takes_below (shape c.args.extents.now) c.args.self.now (fewest_runs c.args.extents.now.format))

pub returns-then-run_fits-2-clause-chosen : goal.returns-then-run_fits-2-clause-chosen
returns-then-run_fits-2-clause-chosen c =
    inr (
      refl,
      c.whole_portion-whole.ensures.newest,
      subst (λ (n : ℕ). IsFullApart (WritesNewest (shape c.args.extents.now) c.args.self.now n) c.args.extents.now ForRun) (c.newest_portion-portion.ensures.newest ∙ sym (takes_some (shape c.args.extents.now) c.args.self.now c.requires.some))
          (full_run (shape c.args.extents.now).apart c.requires.apart c.args.self.now c.args.extents.now c.newest_portion-portion.result.newest c.newest_portion-portion.result.without_deletions ForRun (map named_entry c.in_ok-run.run'.entries.items) c.newest_portion-portion.ensures.deletions
          c.in_ok-run.ensures.merged c.if-run_fits.ensures.0 c.if-run_fits.ensures.1),
    )

pub returns-then-run_fits-2-clause-left : goal.returns-then-run_fits-2-clause-left
returns-then-run_fits-2-clause-left c =
    let none : length (drop (length c.args.self.now.runs) c.args.self.now.runs) ≡ 0 = none_left (shape c.args.extents.now) c.args.self.now in
    subst (λ (n : ℕ). length (drop n c.args.self.now.runs) < (shape c.args.extents.now).most_runs) (sym c.whole_portion-whole.ensures.newest)
    (omega (arith, none, fewest_runs c.args.extents.now.format))

pub returns-clause-refused : goal.returns-clause-refused
returns-clause-refused c = inl (
  refl,
  (
    subst (λ (n : ℕ). IsFullApart (WritesNewest (shape c.args.extents.now) c.args.self.now n) c.args.extents.now ForRun) (c.newest_portion-portion.ensures.newest ∙ sym (takes_some (shape c.args.extents.now) c.args.self.now c.requires.some))
        (full_run (shape c.args.extents.now).apart c.requires.apart c.args.self.now c.args.extents.now c.newest_portion-portion.result.newest c.newest_portion-portion.result.without_deletions ForRun (map named_entry c.in_ok-run.run'.entries.items) c.newest_portion-portion.ensures.deletions
        c.in_ok-run.ensures.merged c.if-run_fits.ensures.0 c.if-run_fits.ensures.1),
    subst (λ (n : ℕ). IsFullApart (WritesNewest (shape c.args.extents.now) c.args.self.now n) c.args.extents.now ForMerge) c.whole_portion-whole.ensures.newest
        (full_run (shape c.args.extents.now).apart c.requires.apart c.args.self.now c.args.extents.now c.whole_portion-whole.result.newest c.whole_portion-whole.result.without_deletions ForMerge (map named_entry c.in_ok-all.all.entries.items) c.whole_portion-whole.ensures.deletions
        c.in_ok-all.ensures.merged c.if-run_fits-2.ensures.0 c.if-run_fits-2.ensures.1),
  ),
)
