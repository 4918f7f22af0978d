use Rattle.std.proofs.Common.{true, ◌≡◌, ◌++◌, take}
use Rattle.cs_frame.specs.Locators.{FitsLocator, spelled_locators}
use Rattle.std.specs.List.{AllByRecursion}
use Rattle.cs_frame.proofs.format_runs.append_locators.Given as goal

abbrev pub invariant-loop-locator : goal.invariant-loop-locator
invariant-loop-locator l =
    (l.payload.items ≡ l.initial.payload.items ++ spelled_locators true (take l.locator-index l.locators)) × AllByRecursion (FitsLocator true) (take l.locator-index l.locators)
