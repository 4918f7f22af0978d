use Rattle.std.proofs.Common.{◌≡◌, ◌≤◌, ◌<◌, ◌∙◌, ◌&&◌, ◌||◌, Bool, ap, arith, drop, length, nat_le, nat_lt, refl, subst, sym, ℕ}
use Rattle.cs_extent.specs.State.{shape}
use Rattle.cs_frame.proofs.GeometryLaws.{bounds}
use Rattle.cs_index.proofs.OfFormat.{fewest_runs}
use Rattle.law_machine.specs.Format.{Format}
use Rattle.law_machine.specs.Geometry.{by_size_in, most_runs_in, weigh_in}
use Rattle.cs_index.specs.Merges.{deletions_go, stage_takes}
use Rattle.cs_index.proofs.Sizes.{goes_all, takes_inside, takes_left}
use Rattle.cs_index.proofs.Weights.{most_few}
use Rattle.cs_index.proofs.indexes.Index.newest_portion.Goals as goal
use Rattle.cs_index.proofs.indexes.Index.newest_portion.Goals.{After-lets_deletions_go}

format_is : (c : After-lets_deletions_go) → c.format-format.result ≡ (shape c.args.extents.now).format
format_is c = c.format-format.ensures.format ∙ c.geometry.ensures.format

is_newest : (c : After-lets_deletions_go) → c.newest_to_merge-newest.result ≡ stage_takes (shape c.args.extents.now) c.args.self.now
is_newest c =
    c.newest_to_merge-newest.ensures (shape c.args.extents.now) (ap (λ (f : Format). by_size_in f) (sym (format_is c))) (ap (λ (f : Format). weigh_in f) (sym c.requires.format)) (sym c.requires.limit)
    (ap (λ (f : Format). most_runs_in f) (sym (format_is c)))

goes_so : (c : After-lets_deletions_go) → c.lets_deletions_go.result ≡ deletions_go (shape c.args.extents.now) c.args.self.now c.newest_to_merge-newest.result
goes_so c =
    c.lets_deletions_go.ensures
    ∙ ap (λ (n : ℕ). nat_le n c.newest_to_merge-newest.result && (c.merges_by_size-by_size.result || nat_lt 0 c.newest_to_merge-newest.result)) c.run_count-runs.ensures.count
    ∙ ap (λ (b : Bool). nat_le (length c.args.self.now.runs) c.newest_to_merge-newest.result && (b || nat_lt 0 c.newest_to_merge-newest.result))
    (c.merges_by_size-by_size.ensures ∙ ap (λ (f : Format). by_size_in f) (format_is c))

pub newest_to_merge-newest-requires : goal.newest_to_merge-newest-requires
newest_to_merge-newest-requires c =
    omega (arith, c.requires.limit, most_few c.args.extents.now.format c.args.extents.now.pages (bounds _ _ _ _ c.geometry.ensures.whole.geometry).most_pages)

pub returns-clause-newest : goal.returns-clause-newest
returns-clause-newest c = is_newest (goal.at.returns-clause-newest c).After-lets_deletions_go

pub returns-clause-deletions : goal.returns-clause-deletions
returns-clause-deletions c = goes_so (goal.at.returns-clause-deletions c).After-lets_deletions_go

pub returns-clause-inside : goal.returns-clause-inside
returns-clause-inside c =
    subst (λ (n : ℕ). n ≤ length c.args.self.now.runs) (sym (is_newest (goal.at.returns-clause-inside c).After-lets_deletions_go)) (takes_inside (shape c.args.extents.now) c.args.self.now)

pub returns-clause-left : goal.returns-clause-left
returns-clause-left c =
    let at = (goal.at.returns-clause-left c).After-lets_deletions_go in
    let format : Format = c.args.extents.now.format in
    subst (λ (n : ℕ). length (drop n c.args.self.now.runs) < most_runs_in format) (sym (is_newest at))
    (takes_left (shape c.args.extents.now) c.args.self.now (most_runs_in format) (fewest_runs format) (λ by. refl))

pub returns-clause-alone : goal.returns-clause-alone
returns-clause-alone c = λ go.
    goes_all (shape c.args.extents.now) c.args.self.now c.newest_to_merge-newest.result (sym (goes_so (goal.at.returns-clause-alone c).After-lets_deletions_go) ∙ go)
