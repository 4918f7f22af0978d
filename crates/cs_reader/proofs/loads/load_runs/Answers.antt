use Rattle.std.proofs.Common.{◌≡◌, ◌∙◌, ◌^◌, ◌<◌, ◌≤◌, ℕ, Err, Ok, ap, arith, inl, inr, map, subst, sym, ⊎_elim}
use Rattle.std.specs.List.{AllByRecursion}
use Rattle.cs_refusal.specs.declared.refusals.Refusal.TheVariants.{NotAStore}
use Rattle.cs_frame.proofs.GeometryLaws.{bounds}
use Rattle.cs_frame.specs.Locators.{KeepFormat}
use Rattle.cs_frame.specs.Runs.{IsRun}
use Rattle.cs_reader.specs.Loads.{index_at}
use Rattle.cs_index.proofs.Weights.{most_few}
use Rattle.cs_index.specs.State.{newest_first}
use Rattle.law_machine.specs.Format.{Format}
use Rattle.law_machine.specs.Geometry.{most_weight_in, weigh_in}
use Rattle.law_machine.specs.Index.{entries_of, named_weight}
use Rattle.cs_reader.proofs.Loading.{no_heavier}
use Rattle.cs_reader.proofs.loads.load_runs.Goals as goal

-- a limit is that of other dimensions of the same format and pages
limit_same : (limit : ℕ) (format : Format) (pages : ℕ) (f : Format) (p : ℕ) → limit ≡ most_weight_in format pages → format ≡ f → pages ≡ p → limit ≡ most_weight_in f p
limit_same limit format pages f p is of_format of_pages = is ∙ ap (λ (k : Format). most_weight_in k pages) of_format ∙ ap (λ (k : ℕ). most_weight_in f k) of_pages

pub load-requires-clause-limit : goal.load-requires-clause-limit
load-requires-clause-limit c =
    let it = c.geometry-geometry.result in
    let most : it.pages ≤ 65535 = omega (arith, c.geometry-geometry.ensures.pages, (bounds _ _ _ _ c.geometry-geometry.ensures.whole.geometry).most_pages) in
    subst (λ (n : ℕ). n < 2 ^ 29) (sym c.most_weight-limit.ensures) (most_few it.format it.pages most)

pub load-requires-clause-runs : goal.load-requires-clause-runs
load-requires-clause-runs c = subst (λ (f : Format). AllByRecursion (λ run. IsRun f (record { entries = run.entries })) c.args.runs.items) (sym (c.format.ensures.format ∙ c.geometry-geometry.ensures.format)) c.requires.runs

pub load-requires-clause-places : goal.load-requires-clause-places
load-requires-clause-places c = subst (λ (f : Format). KeepFormat f (map (λ run. run.place) c.args.runs.items)) (sym (c.format.ensures.format ∙ c.geometry-geometry.ensures.format)) c.requires.marks

pub returns-in-Ok-clause-loaded : goal.returns-in-Ok-clause-loaded
returns-in-Ok-clause-loaded c =
    let x = c.args.extents.now in
    c.in-Ok.ensures.loaded
    ∙ ap (λ (f : Format). index_at (newest_first c.args.runs.items) f c.most_weight-limit.result) (c.format.ensures.format ∙ c.geometry-geometry.ensures.format)
    ∙ ap (λ (n : ℕ). index_at (newest_first c.args.runs.items) x.format n)
    (limit_same c.most_weight-limit.result c.geometry-geometry.result.format c.geometry-geometry.result.pages x.format x.pages c.most_weight-limit.ensures c.geometry-geometry.ensures.format c.geometry-geometry.ensures.pages)

pub returns-in-Ok-clause-named : goal.returns-in-Ok-clause-named
returns-in-Ok-clause-named c =
    let x = c.args.extents.now in
    let same = limit_same c.most_weight-limit.result c.geometry-geometry.result.format c.geometry-geometry.result.pages x.format x.pages c.most_weight-limit.ensures c.geometry-geometry.ensures.format c.geometry-geometry.ensures.pages in
    subst (λ (n : ℕ). named_weight (weigh_in x.format) (entries_of (newest_first c.args.runs.items)) ≤ n) same
    (subst (λ (f : Format). named_weight (weigh_in f) (entries_of (newest_first c.args.runs.items)) ≤ c.most_weight-limit.result) (c.format.ensures.format ∙ c.geometry-geometry.ensures.format)
    (no_heavier c.most_weight-limit.result (named_weight (weigh_in c.format.result) (entries_of (newest_first c.args.runs.items)))
    (λ heavy. let clash : Ok c.in-Ok.index ≡ Err NotAStore = c.in-Ok.ensures.full.1 heavy in cc clash)))

pub returns-in-Err-clause-number : goal.returns-in-Err-clause-number
returns-in-Err-clause-number c = ⊎_elim (λ is. inr (inr is)) (λ is. inl (inr is)) c.in-Err.ensures.refusals

pub returns-in-Err-clause-why : goal.returns-in-Err-clause-why
returns-in-Err-clause-why c =
    let x = c.args.extents.now in
    let same = limit_same c.most_weight-limit.result c.geometry-geometry.result.format c.geometry-geometry.result.pages x.format x.pages c.most_weight-limit.ensures c.geometry-geometry.ensures.format c.geometry-geometry.ensures.pages in
    ⊎_elim (λ is. inr (
      is,
      subst (λ (n : ℕ). n < named_weight (weigh_in x.format) (entries_of (newest_first c.args.runs.items))) same
          (subst (λ (f : Format). c.most_weight-limit.result < named_weight (weigh_in f) (entries_of (newest_first c.args.runs.items))) (c.format.ensures.format ∙ c.geometry-geometry.ensures.format) (c.in-Err.ensures.full.0 (ap Err is))),
    )) inl c.in-Err.ensures.refusals
