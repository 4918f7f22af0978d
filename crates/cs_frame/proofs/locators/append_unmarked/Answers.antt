use Rattle.std.proofs.Common.{false, length, take, ap, arith, length-append}
use Rattle.std.proofs.lemmas.List.{length-take-le}
use Rattle.cs_frame.specs.Locators.{spelled_locators}
use Rattle.cs_frame.specs.Buffers.{text_of}
use Rattle.cs_frame.proofs.LocatorLaws.{length-spelled_locators}
use Rattle.cs_frame.proofs.locators.append_unmarked.Goals as goal

pub append-requires : goal.append-requires
append-requires c =
    let before = take c.loop-locator.locator-index c.args.locators.now in
    omega (arith, ap length c.loop-locator.invariant.0, length-append (text_of c.args.page.now) (spelled_locators false before), length-spelled_locators false before, length-take-le c.loop-locator.locator-index c.args.locators.now)
