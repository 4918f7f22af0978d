-- By how much a count of failures rose, call by call.
use Rattle.std.proofs.Common.{◌≡◌, ◌+◌, ◌≤◌, ℕ, arith}
use Rattle.cs_disk.specs.Disk.{Rises}
use Rattle.cs_inspect.specs.Failures.{RisesBy}

pub risen_none : (n first : ℕ) → n ≡ 0 → RisesBy n first first
risen_none n first none = omega (arith, none)

-- in a call that no failure is told of
pub risen_still : (n k first before after : ℕ) → k ≡ 0 → before ≤ after → RisesBy n first before → RisesBy (n + k) first after
risen_still n k first before after none le rose = omega (arith, none, le, rose)

-- in a call that a failure is told of
pub risen_one : (n k first before after : ℕ) → k ≤ 1 → Rises before after → RisesBy n first before → RisesBy (n + k) first after
risen_one n k first before after one rise rose = omega (arith, one, rise, rose)

pub risen_both : (n k first mid last : ℕ) → RisesBy n first mid → RisesBy k mid last → RisesBy (n + k) first last
risen_both n k first mid last one two = omega (arith, one, two)

pub risen_so : (n m first last : ℕ) → m ≡ n → RisesBy n first last → RisesBy m first last
risen_so n m first last same rose = omega (arith, same, rose)
