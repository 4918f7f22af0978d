use Rattle.std.proofs.Common.{false, ◌≡◌, ◌++◌, take}
use Rattle.cs_frame.specs.Locators.{FitsLocator, spelled_locators}
use Rattle.std.specs.List.{AllByRecursion}
use Rattle.cs_frame.proofs.run_frames.append_locators.Given as goal

abbrev pub invariant-loop-locator : goal.invariant-loop-locator
invariant-loop-locator l =
    (l.payload.items ≡ l.initial.payload.items ++ spelled_locators false (take l.locator-index l.locators)) × AllByRecursion (FitsLocator false) (take l.locator-index l.locators)
