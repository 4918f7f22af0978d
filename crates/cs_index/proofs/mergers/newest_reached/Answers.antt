use Rattle.std.proofs.Common.{◌≡◌, ◌+◌, ◌-◌, ◌<◌, ◌^◌, ◌∙◌, ap, arith, get_or, length, take, List, ℕ}
use Rattle.std.proofs.Math.Seq.{take-length}
use Rattle.cs_index.specs.declared.stored_runs.StoredRun.{StoredRun}
use Rattle.cs_index.specs.State.{newest_first}
use Rattle.law_machine.specs.Merges.{reaching, sizes}
use Rattle.cs_index.proofs.Newest.{all_get}
use Rattle.cs_index.proofs.Sizes.{reaches_all, reaches_no_further, reaches_on}
use Rattle.cs_index.proofs.mergers.newest_reached.Goals as goal
use Rattle.cs_index.proofs.mergers.newest_reached.Goals.{After-len-count}

count_is : (c : After-len-count) → c.len-count.result ≡ length (get_or c.args.runs.now (length c.args.runs.now - 1 - c.loop-k.k) c.index-runs-runs.result).entries.items
count_is c = omega (arith, c.len-count.ensures, c.index-runs-runs.result.entries.ok.0, ap (λ (r : StoredRun). length r.entries.items) c.index-runs-runs.is)

small_run : (c : After-len-count) → c.len-count.result < 2 ^ 32
small_run c =
    let at : length (get_or c.args.runs.now (length c.args.runs.now - 1 - c.loop-k.k) c.index-runs-runs.result).entries.items < 2 ^ 32 =
    all_get (λ (r : StoredRun). length r.entries.items < 2 ^ 32) c.args.runs.now (length c.args.runs.now - 1 - c.loop-k.k) c.index-runs-runs.result (omega (arith, c.loop-k-test.true)) c.requires.short in
    omega (arith, at, count_is c)

pub goes_on-requires : goal.goes_on-requires
goes_on-requires c = omega (arith, c.loop-k.invariant.small, c.requires.entries, c.requires.few, c.loop-k-test.true)

pub overflow_add-size : goal.overflow_add-size
overflow_add-size c = omega (arith, small_run (goal.at.overflow_add-size c).After-len-count, c.loop-k.invariant.small, c.requires.entries, c.requires.few, c.loop-k-test.true)

pub loop-k-init : goal.loop-k-init
loop-k-init c = record {
  reach = λ S same.
      let none : length c.args.runs.now - 0 ≡ length c.args.runs.now = omega arith in
      let whole : take (length c.args.runs.now - 0) c.args.runs.now ≡ c.args.runs.now = ap (λ (n : ℕ). take n c.args.runs.now) none ∙ take-length c.args.runs.now in
      omega (arith, ap (λ (rs : List StoredRun). reaching S (sizes (newest_first rs)) c.args.entries) whole);
  small = omega arith;
}

pub loop-k-preserved : goal.loop-k-preserved
loop-k-preserved c =
    let at = (goal.at.loop-k-preserved c).After-len-count in
    let runs : List StoredRun = c.args.runs.now in
    let k : ℕ = c.loop-k.k in
    let m : ℕ = length c.args.runs.now - 1 - c.loop-k.k in
    record {
      reach = λ S same.
          let on = reaches_on S runs k m c.loop-k.size c.len-count.result c.index-runs-runs.result (omega (arith, c.loop-k-test.true)) (count_is at) c.goes_on.result c.args.most same c.goes_on.ensures c.if-not-goes_on.false in
          let next : length runs - (k + 1) ≡ m = omega (arith, c.loop-k-test.true) in
          omega (arith, c.loop-k.invariant.reach S same, on, ap (λ (n : ℕ). reaching S (sizes (newest_first (take n runs))) (c.loop-k.size + c.len-count.result)) next);
      small = omega (arith, small_run at, c.loop-k.invariant.small);
    }

pub returns-then-not-goes_on : goal.returns-then-not-goes_on
returns-then-not-goes_on c = λ S same.
    let at = (goal.at.returns-then-not-goes_on c).After-len-count in
    let off = reaches_no_further S c.args.runs.now c.loop-k.k (length c.args.runs.now - 1 - c.loop-k.k) c.loop-k.size c.len-count.result c.index-runs-runs.result (omega (arith, c.loop-k-test.true)) (count_is at) c.goes_on.result c.args.most same c.goes_on.ensures c.if-not-goes_on.true in
    omega (arith, c.loop-k.invariant.reach S same, off)

pub returns : goal.returns
returns c = λ S same.
    omega (arith, c.loop-k.invariant.reach S same, reaches_all S c.args.runs.now c.loop-k.k c.loop-k.size c.loop-k-test.false, c.loop-k-test.false)
