use Rattle.std.proofs.Common.{◌≡◌, ◌<◌, ◌∙◌, false, inr, length, drop, rules, subst, sym, ℕ}
use Rattle.cs_extent.specs.State.{shape}
use Rattle.law_machine.specs.Geometry.{most_runs_in}
use Rattle.cs_index.specs.Merges.{deletions_go, stage_takes}
use Rattle.cs_index.proofs.Exact.{exact_stage}
use Rattle.cs_index.proofs.StagedV2.{as_newest, keeps_live, keeps_lookups}
use Rattle.cs_index.proofs.indexes.Index.stage_v2.Goals as goal
use Rattle.cs_index.proofs.indexes.Index.stage_v2.Goals.{Then-not-portion}

pub stage_table-requires-clause-few : goal.stage_table-requires-clause-few
stage_table-requires-clause-few c = subst (λ (n : ℕ). length (drop n c.args.self.now.runs) < most_runs_in c.args.extents.now.format) c.if-portion-eq0.true c.newest_portion-portion.ensures.left

pub stage_newest-requires-clause-some : goal.stage_newest-requires-clause-some
stage_newest-requires-clause-some c = inr c.requires.some

-- nothing but the table is merged
none_merged : (c : Then-not-portion) → 0 ≡ stage_takes (shape c.args.extents.now) c.args.self.now
none_merged c = sym c.if-portion-eq0.true ∙ c.newest_portion-portion.ensures.newest

stay : (c : Then-not-portion) → false ≡ deletions_go (shape c.args.extents.now) c.args.self.now 0
stay c =
    let stays : c.newest_portion-portion.result.without_deletions ≡ false = search rules in
    subst (λ (k : ℕ). false ≡ deletions_go (shape c.args.extents.now) c.args.self.now k) c.if-portion-eq0.true (sym stays ∙ c.newest_portion-portion.ensures.deletions)

pub returns-then-not-portion-clause-staged : goal.returns-then-not-portion-clause-staged
returns-then-not-portion-clause-staged c =
    let at = (goal.at.returns-then-not-portion-clause-staged c).Then-not-portion in
    as_newest c.args.self.now c.args.extents.now 0 false (none_merged at) (stay at) c.args.graph.now c.args.commands c.stage_table.result c.stage_table.new.self c.stage_table.new.extents c.stage_table.new.graph c.stage_table.ensures.staged

pub returns-then-not-portion-clause-lookups : goal.returns-then-not-portion-clause-lookups
returns-then-not-portion-clause-lookups c =
    let at = (goal.at.returns-then-not-portion-clause-lookups c).Then-not-portion in
    keeps_lookups c.args.self.now c.args.extents.now 0 false (none_merged at) (stay at) c.args.graph.now c.args.commands c.stage_table.result c.stage_table.new.self c.stage_table.new.extents c.stage_table.new.graph c.stage_table.ensures.staged c.stage_table.ensures.refused

pub returns-then-not-portion-clause-map : goal.returns-then-not-portion-clause-map
returns-then-not-portion-clause-map c =
    let at = (goal.at.returns-then-not-portion-clause-map c).Then-not-portion in
    keeps_live c.args.self.now c.args.extents.now 0 false (none_merged at) (stay at) c.args.graph.now c.args.commands c.stage_table.result c.stage_table.new.self c.stage_table.new.extents c.stage_table.new.graph c.stage_table.ensures.staged c.stage_table.ensures.refused (λ go. absurd (cc go))

pub returns-then-not-portion-clause-why : goal.returns-then-not-portion-clause-why
returns-then-not-portion-clause-why c =
    let at = (goal.at.returns-then-not-portion-clause-why c).Then-not-portion in
    exact_stage (shape c.args.extents.now) c.args.self.now 0 false c.args.extents.now c.args.graph.now.staging c.stage_table.result (none_merged at) (stay at) c.requires.some c.stage_table.ensures.why

pub returns-clause-staged : goal.returns-clause-staged
returns-clause-staged c =
    let p = c.newest_portion-portion in
    as_newest c.args.self.now c.args.extents.now p.result.newest p.result.without_deletions p.ensures.newest p.ensures.deletions c.args.graph.now c.args.commands c.stage_newest.result c.stage_newest.new.self c.stage_newest.new.extents c.stage_newest.new.graph c.stage_newest.ensures.staged

pub returns-clause-lookups : goal.returns-clause-lookups
returns-clause-lookups c =
    let p = c.newest_portion-portion in
    keeps_lookups c.args.self.now c.args.extents.now p.result.newest p.result.without_deletions p.ensures.newest p.ensures.deletions c.args.graph.now c.args.commands c.stage_newest.result c.stage_newest.new.self c.stage_newest.new.extents c.stage_newest.new.graph c.stage_newest.ensures.staged c.stage_newest.ensures.refused

pub returns-clause-map : goal.returns-clause-map
returns-clause-map c =
    let p = c.newest_portion-portion in
    keeps_live c.args.self.now c.args.extents.now p.result.newest p.result.without_deletions p.ensures.newest p.ensures.deletions c.args.graph.now c.args.commands c.stage_newest.result c.stage_newest.new.self c.stage_newest.new.extents c.stage_newest.new.graph c.stage_newest.ensures.staged c.stage_newest.ensures.refused p.ensures.alone

pub returns-clause-why : goal.returns-clause-why
returns-clause-why c =
    let p = c.newest_portion-portion in
    exact_stage (shape c.args.extents.now) c.args.self.now p.result.newest p.result.without_deletions c.args.extents.now c.args.graph.now.staging c.stage_newest.result p.ensures.newest p.ensures.deletions c.requires.some c.stage_newest.ensures.why
