-- What a close answers.
use Rattle.std.specs.Prelude.{◌≡◌, List}
use Rattle.cs_core.specs.Views.{kept}
use Rattle.cs_node.specs.declared.rests.Unclosed.{Unclosed}
use Rattle.cs_node.specs.declared.rests.Unclosed.TheVariants.{Missing, OutOfMemory}
use Rattle.cs_node.specs.declared.rests.Closed.{Closed}
use Rattle.cs_node.specs.Told.{Holdings}
use Rattle.cs_node.specs.Under.{RestView}
use Rattle.cs_node.specs.Accounts.{Accounted, lacking}

-- the purses account for the core, whose disk, kept events and counts these are
pub record IsClosed {D : Type 0} (rest : RestView D) (purses : List Holdings) (c : Closed D) : Type 0 where
  pub tests : Accounted rest.core rest.given rest.handed purses
  pub disk : c.disk ≡ rest.core.disk
  pub history : c.history.items ≡ kept rest.core
  pub base : c.base ≡ rest.core.base
  pub accepted : c.accepted ≡ rest.core.store.accepted
  pub acknowledged : c.acknowledged ≡ rest.core.store.frontier

-- they don't, and so many numbers are missing; or there was no memory to tell
abbrev pub Fails : {D : Type 0} → RestView D → List Holdings → Unclosed → Type 0
Fails rest purses (Missing n) = (n ≡ lacking rest.core.store.accepted rest.handed purses) × ¬ (Accounted rest.core rest.given rest.handed purses)
Fails rest purses OutOfMemory = Unit {0}
