use Rattle.std.proofs.Common.{◌∙◌, ap, length}
use Rattle.cs_index.specs.declared.stored_runs.StoredRun.{StoredRun}
use Rattle.cs_inspect.proofs.Counted.{runs_more}
use Rattle.cs_inspect.proofs.figures.run_uses.Goals as goal

pub loop-k-preserved : goal.loop-k-preserved
loop-k-preserved c =
    runs_more c.args.runs.now c.loop-k.k c.index-runs-k.result c.loop-k.uses.items c.push.new.self.items
    (record { place = c.index-runs-k.result.place; entries = c.len.result })
    c.loop-k-test.true c.loop-k.invariant c.in_ok-push.ensures.items
    (ap (λ (r : StoredRun). r.place) c.index-runs-k.is)
    (c.len.ensures ∙ c.index-runs-k.result.entries.ok.0 ∙ ap (λ (r : StoredRun). length r.entries.items) c.index-runs-k.is)
