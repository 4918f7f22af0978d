use Rattle.std.proofs.Common.{◌∙◌, ap, map, List}
use Rattle.cs_frame.specs.declared.locators.Locator.{Locator}
use Rattle.cs_frame.specs.Formats.{place_of}
use Rattle.law_machine.specs.Lists.{replaced}
use Rattle.cs_index.proofs.Settled.{set_replaced}
use Rattle.cs_index.proofs.counted_copies.with_copy.Goals as goal

pub returns-clause-places : goal.returns-clause-places
returns-clause-places c =
    ap (map place_of) c.set.ensures
    ∙ set_replaced c.in_ok-new.new.items c.args.chunk c.args.place
    ∙ ap (λ (ls : List Locator). replaced (map place_of ls) c.args.chunk (place_of c.args.place)) c.in_ok-new.ensures.same
