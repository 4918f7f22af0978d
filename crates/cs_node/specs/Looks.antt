-- What a look at a node tells.
use Rattle.std.specs.Prelude.{◌≡◌, ◌<◌, ℕ, true, false, length, MatchOption}
use Rattle.cs_extent.specs.State.{extents_of}
use Rattle.cs_core.specs.Views.{View, kept}
use Rattle.cs_node.specs.declared.nodes.Look.{Look}

-- This is what the core has: so many commands accepted and persistent, events kept, replaced and allowed; and the
-- lowest extent that is being swept.
pub record IsLookAt {D : Type 0} (v : View D) (look : Look) : Type 0 where
  pub accepted : look.accepted ≡ v.store.accepted
  pub frontier : look.frontier ≡ v.store.frontier
  pub events : look.events ≡ length (kept v)
  pub base : look.base ≡ v.base
  pub limit : look.limit ≡ v.limit
  pub swept : MatchOption look.swept ((e : ℕ) → (extents_of v.store.extents).swept e ≡ false)
      (λ e. ((extents_of v.store.extents).swept e ≡ true) × ((k : ℕ) → k < e → (extents_of v.store.extents).swept k ≡ false))
