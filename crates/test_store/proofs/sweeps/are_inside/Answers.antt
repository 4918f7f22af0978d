use Rattle.std.proofs.Common.{arith}
use Rattle.std.proofs.lemmas.List.{length-map}
use Rattle.cs_frame.specs.declared.locators.Locator.{Locator}
use Rattle.cs_frame.specs.Formats.{place_of}
use Rattle.test_store.proofs.Places.{IsThere, have_all, have_more}
use Rattle.test_store.proofs.sweeps.are_inside.Goals as goal

-- a place that stands for none
abbrev nowhere : Locator
nowhere = record { extent = 0; page = 0; generation = 0; mark = 0 }

pub loop-k-preserved : goal.loop-k-preserved
loop-k-preserved c = have_more (IsThere c.args.extents c.args.pages) c.args.places.now c.loop-k.k nowhere c.loop-k-test.true (c.is_inside.ensures.0 c.if-not-is_inside.false) c.loop-k.invariant

pub returns : goal.returns
returns c = λ yes. have_all (IsThere c.args.extents c.args.pages) c.args.places.now c.loop-k.k (omega (arith, c.loop-k-test.false, length-map c.args.places.now place_of)) c.loop-k.invariant
