use Rattle.std.proofs.Common.{◌∙◌, ◌&&◌, ◌||◌, Bool, ap, length, nat_le, nat_lt, ℕ}
use Rattle.law_machine.specs.Format.{Format}
use Rattle.law_machine.specs.Geometry.{by_size_in}
use Rattle.cs_index.proofs.indexes.Index.whole_portion.Goals as goal

pub returns-clause-deletions : goal.returns-clause-deletions
returns-clause-deletions c =
    c.lets_deletions_go.ensures
    ∙ ap (λ (n : ℕ). nat_le n c.run_count-runs.result && (c.merges_by_size-by_size.result || nat_lt 0 c.run_count-runs.result)) c.run_count-runs.ensures.count
    ∙ ap (λ (b : Bool). nat_le (length c.args.self.now.runs) c.run_count-runs.result && (b || nat_lt 0 c.run_count-runs.result))
    (c.merges_by_size-by_size.ensures ∙ ap (λ (f : Format). by_size_in f) (c.format.ensures.format ∙ c.geometry.ensures.format))
