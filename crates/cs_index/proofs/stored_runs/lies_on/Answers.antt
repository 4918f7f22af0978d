use Rattle.std.proofs.Common.{◌∙◌, ◌||◌, ap, nat_eq, ℕ}
use Rattle.cs_index.specs.declared.stored_runs.StoredRun.{StoredRun}
use Rattle.cs_index.proofs.Next.{on_more}
use Rattle.cs_index.proofs.stored_runs.lies_on.Goals as goal

pub loop-k-preserved : goal.loop-k-preserved
loop-k-preserved c =
    c.either-found.ensures
    ∙ ap (λ (n : ℕ). nat_eq n c.args.extent || c.loop-k.found) (c.from.ensures ∙ ap (λ (r : StoredRun). r.place.extent) c.index-runs-k.is)
    ∙ on_more c.args.runs.now c.loop-k.k c.args.extent c.index-runs-k.result c.loop-k.found c.loop-k-test.true c.loop-k.invariant
