use Rattle.std.proofs.Common.{◌≡◌, ◌<◌, ℕ, false}
use Rattle.cs_extent.specs.State.{extents_of}
use Rattle.cs_core.proofs.stores.Store.swept_extent.Given as goal

abbrev pub invariant-loop-extent : goal.invariant-loop-extent
invariant-loop-extent l = (k : ℕ) → k < l.extent → (extents_of l.self.extents).swept k ≡ false
