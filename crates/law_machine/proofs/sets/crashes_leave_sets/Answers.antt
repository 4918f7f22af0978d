use Rattle.std.proofs.Common.{le_refl}
use Rattle.law_machine.proofs.sets.crashes_leave_sets.Goals as goal
use Rattle.law_machine.proofs.Rounds.{kept_image}

pub returns : goal.returns
returns c = λ S F opening opened w issued mask shape safe are.
    let kept = kept_image S F shape opened w safe issued w.persistent are (record {
      low = record { writes = λ n has. has; superblocks = λ j. le_refl _; root = le_refl _ };
      high = safe.within;
      exact = safe.exact;
    }) mask in
    (kept.0, kept.1.low, kept.1.high, kept.2)
