-- What contracts see under the lock, and of a node at rest.
use Rattle.std.specs.Prelude.{ℕ, Bool, List}
use Rattle.cs_node.specs.declared.stretches.Stretch.{Stretch}
use Rattle.cs_core.specs.Views.{View}

-- the core, and whether no event was done since the lock was taken
pub record EngineView (D : Type 0) : Type 0 where
  pub core : View D
  pub fresh : Bool

-- what does events, how many purses were given, whether the pilot was, and the numbers of the acks that were handed in
pub record Under (D : Type 0) : Type 0 where
  pub engine : EngineView D
  pub given : ℕ
  pub piloted : Bool
  pub handed : List Stretch

-- the core of a node at rest, how many purses it gave, and the numbers of the acks that were handed in
pub record RestView (D : Type 0) : Type 0 where
  pub core : View D
  pub given : ℕ
  pub handed : List Stretch
