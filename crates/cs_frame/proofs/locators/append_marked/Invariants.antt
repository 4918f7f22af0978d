use Rattle.std.proofs.Common.{true, ◌≡◌, ◌++◌, take}
use Rattle.cs_frame.specs.Locators.{FitsLocator, spelled_locators}
use Rattle.std.specs.List.{AllByRecursion}
use Rattle.cs_frame.specs.Buffers.{text_of}
use Rattle.cs_frame.proofs.locators.append_marked.Given as goal

abbrev pub invariant-loop-locator : goal.invariant-loop-locator
invariant-loop-locator l =
    (text_of l.page ≡ text_of l.initial.page ++ spelled_locators true (take l.locator-index l.locators)) × AllByRecursion (FitsLocator true) (take l.locator-index l.locators)
