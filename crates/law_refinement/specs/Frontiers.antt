-- The roots that a store notes, and how many commands are persistent by them.
use Rattle.std.specs.Prelude.{◌≡◌, ◌⊎◌, ◌+◌, ◌≤◌, ◌∷◌, ◌++◌, ℕ, Contains, List, [], slice_index}
use Rattle.cs_deps.specs.Staging.{Staging}
use Rattle.cs_extent.specs.Frames.{root_family}
use Rattle.law_machine.specs.Element.{Root, roots_of}
use Rattle.law_machine.specs.Lists.{◌∈◌}
use Rattle.law_machine.specs.State.{Reply, Retired, Staged, State}

-- a root as it is noted: its version, and how many of the commands since open it includes
abbrev pub Noted : Type 0
Noted = ℕ × ℕ

-- Each root that is noted was staged, with so many commands. All are noted, but perhaps not those before the one that is
-- persistent.
pub record AreRootsOf (roots : List Noted) (s : State) : Type 0 where
  pub staged : (v n : ℕ) → Contains roots (v, n)
      → (r : Root) × (r ∈ roots_of s.world.elements) × (r.version ≡ v) × (r.commands ≡ s.count + n)
  pub all : (r : Root) → r ∈ roots_of s.world.elements → s.world.persistent.root ≤ r.version
      → (n : ℕ) × Contains roots (r.version, n) × (r.commands ≡ s.count + n)

-- the roots that are noted after an event: with the one that it staged, which has all commands
abbrev pub noted_after : List Noted → (commands : ℕ) → Reply → List Noted
noted_after roots n (Staged v) = roots ++ (v, n) ∷ []
noted_after roots n (Retired v) = roots ++ (v, n) ∷ []
noted_after roots n reply = roots

-- version v of the root is persistent
abbrev pub IsRootPersistent : Staging → ℕ → Type 0
IsRootPersistent staging v = v ≤ slice_index staging.pending.persistent root_family

-- so many commands are persistent by these roots: the most that one has which is persistent, none without one
pub record IsFrontierOf (staging : Staging) (roots : List Noted) (n : ℕ) : Type 0 where
  pub reached : (n ≡ 0) ⊎ ((v : ℕ) × Contains roots (v, n) × IsRootPersistent staging v)
  pub greatest : (v k : ℕ) → Contains roots (v, k) → IsRootPersistent staging v → k ≤ n
