-- Figures of a summary, none of which is too great.
use Rattle.std.proofs.Common.{ℕ, ◌*◌, ◌≤◌}
use Rattle.std.proofs.Math.Nat.{mul-le-mul}

-- so many extents have so many pages at most
pub few_pages : (extents pages : ℕ) → extents ≤ 7680 → pages ≤ 65535 → extents * pages ≤ 503308800
few_pages extents pages few short = mul-le-mul {n₁ = extents} {m₁ = pages} {n₂ = 7680} {m₂ = 65535} few short
