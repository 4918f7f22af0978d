use Rattle.std.proofs.Common.{◌∙◌, sym}
use Rattle.cs_frame.specs.declared.locators.Locator.{Locator}
use Rattle.cs_index.proofs.Living.{first_found, none_more, none_on}
use Rattle.cs_inspect.proofs.listings.place_on.Goals as goal

-- a place that stands for none
abbrev nowhere : Locator
nowhere = record { extent = 0; page = 0; generation = 0; mark = 0 }

pub returns-then-from-extent : goal.returns-then-from-extent
returns-then-from-extent c = first_found c.args.places.now c.loop-k.k c.args.extent nowhere c.loop-k-test.true (sym c.from.ensures ∙ c.if-from-extent.true) c.loop-k.invariant

pub loop-k-preserved : goal.loop-k-preserved
loop-k-preserved c = none_more c.args.places.now c.loop-k.k c.args.extent nowhere c.loop-k-test.true (λ on. c.if-from-extent.false (c.from.ensures ∙ on)) c.loop-k.invariant

pub returns : goal.returns
returns c = none_on c.args.places.now c.loop-k.k c.args.extent c.loop-k-test.false c.loop-k.invariant
