use Rattle.std.proofs.Common.{◌∙◌, arith, sym}
use Rattle.cs_frame.proofs.RootLaws.{most_by_number}
use Rattle.cs_index.proofs.Cases.{takes_all, takes_none}
use Rattle.cs_index.proofs.Sizes.{takes_reached}
use Rattle.cs_index.proofs.indexes.Index.newest_to_merge.Goals as goal

pub returns-then-merges_by_size : goal.returns-then-merges_by_size
returns-then-merges_by_size c = λ S by rule most runs.
    c.newest_by_size.ensures S rule most (runs ∙ sym (c.greatest_runs.ensures ∙ most_by_number c.args.format))
    ∙ sym (takes_reached S c.args.self.now (by ∙ sym c.merges_by_size.ensures ∙ c.if-merges_by_size.true))

pub returns-then-runs-lt4 : goal.returns-then-runs-lt4
returns-then-runs-lt4 c = λ S by rule most runs.
    sym (takes_none S c.args.self.now (by ∙ sym c.merges_by_size.ensures ∙ c.if-merges_by_size.false) (omega (arith, c.run_count-runs.ensures.count, c.if-runs-lt4.true)))

pub returns-else-runs-lt4 : goal.returns-else-runs-lt4
returns-else-runs-lt4 c = λ S by rule most runs.
    c.run_count-runs.ensures.count ∙ sym (takes_all S c.args.self.now (by ∙ sym c.merges_by_size.ensures ∙ c.if-merges_by_size.false) (omega (arith, c.run_count-runs.ensures.count, c.if-runs-lt4.false)))
