use Rattle.std.proofs.Common.{◌≡◌, ◌∙◌, ◌<◌, ap, arith, length, map, refl, sym, take, take_all, ℕ}
use Rattle.cs_frame.specs.declared.locators.Locator.{Locator}
use Rattle.cs_frame.specs.Formats.{place_of}
use Rattle.cs_index.specs.Held.{one_on}
use Rattle.cs_index.proofs.Tallies.{one_to_take, places_more}
use Rattle.law_machine.specs.Tally.{places_on}
use Rattle.cs_index.proofs.counts.take_places.Goals as goal

-- a place that stands for none
abbrev nowhere : Locator
nowhere = record { extent = 0; page = 0; generation = 0; mark = 0 }

pub loop-k-init : goal.loop-k-init
loop-k-init c = record { size = refl; each = λ e lt. omega arith }

pub take_one-requires : goal.take_one-requires
take_one-requires c = λ lt.
    let inside : c.from.result < length c.args.on.now = omega (arith, lt, c.loop-k.invariant.size) in
    one_to_take c.args.places.now c.loop-k.k nowhere c.loop-k-test.true c.from.result _ _ (sym c.from.ensures) (c.loop-k.invariant.each c.from.result inside) (c.requires c.from.result inside)

pub loop-k-preserved : goal.loop-k-preserved
loop-k-preserved c = record {
  size = c.take_one.ensures.size ∙ c.loop-k.invariant.size;
  each = λ e lt. omega (arith, c.take_one.ensures.each e (omega (arith, lt, c.loop-k.invariant.size)), c.loop-k.invariant.each e lt, places_more e c.args.places.now c.loop-k.k nowhere c.loop-k-test.true, ap (λ (n : ℕ). one_on n e) c.from.ensures);
}

pub returns-clause-each : goal.returns-clause-each
returns-clause-each c = λ e lt.
    let all : places_on e (map place_of (take c.loop-k.k c.args.places.now)) ≡ places_on e (map place_of c.args.places.now) = ap (λ (ps : _). places_on e (map place_of ps)) (take_all c.loop-k.k c.args.places.now c.loop-k-test.false) in
    omega (arith, c.loop-k.invariant.each e lt, all)
