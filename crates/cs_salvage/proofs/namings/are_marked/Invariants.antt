use Rattle.std.proofs.Common.{◌≡◌, ◌<◌, ℕ, get_or}
use Rattle.cs_frame.specs.declared.locators.Locator.{Locator}
use Rattle.cs_salvage.specs.Namings.{mark_of}
use Rattle.cs_salvage.specs.declared.parts.Part.{Part}
use Rattle.cs_salvage.proofs.namings.are_marked.Given as goal

abbrev pub invariant-loop-k : goal.invariant-loop-k
invariant-loop-k l = record {
  each : (j : ℕ) (d : Locator) (e : Part) → j < l.k → (get_or l.places j d).mark ≡ mark_of (get_or l.parts j e);
}
