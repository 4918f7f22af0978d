-- When a history may be replaced by the state that it led to, and what that changes.
use Rattle.std.specs.Prelude.{◌≡◌, ◌≤◌, ◌^◌, ℕ, false, true, [], None, length}
use Rattle.cs_refusal.specs.declared.refusals.Refusal.{Refusal}
use Rattle.cs_refusal.specs.declared.refusals.Refusal.TheVariants.{Halted, Unsettled, WornOut}
use Rattle.cs_extent.specs.State.{extents_of}
use Rattle.cs_core.specs.Stored.{Stored}
use Rattle.cs_core.specs.Views.{View, kept}

-- A store is settled: nothing waits, no round is out, the index has no change that isn't staged, and no extent is being
-- swept.
pub record IsSettled (s : Stored) : Type 0 where
  pub none_waits : s.graph.staging.pending.waiting ≡ []
  pub none_out : s.out ≡ None
  pub none_changed : s.index.table ≡ []
  pub none_swept : (e : ℕ) → (extents_of s.extents).swept e ≡ false

-- the events that were kept, so many, are replaced by the present state, and nothing else changes
abbrev pub Replaces : {D : Type 0} → (old : View D) → ℕ → (new : View D) → Type 0
Replaces old n new = (n ≡ length (kept old)) × (new ≡ record old { base = length old.history })

-- why a history isn't replaced: the store is halted; else it isn't settled; else more events would have been replaced
-- than can be counted
abbrev pub IsNotReplaced : {D : Type 0} → View D → Refusal → Type 0
IsNotReplaced v Halted = v.store.halted ≡ true
IsNotReplaced v Unsettled = (v.store.halted ≡ false) × ¬ IsSettled v.store
IsNotReplaced v WornOut = (v.store.halted ≡ false) × IsSettled v.store × (2 ^ 63 ≤ length v.history)
IsNotReplaced v refusal = ⊥
