use Rattle.cs_frame.specs.declared.locators.Locator.{Locator}
use Rattle.std.proofs.lemmas.Bool.{false≢true}
use Rattle.std.proofs.Common.{sym, ◌∙◌}
use Rattle.cs_index.proofs.Next.{found_between, none_behind_all, none_between}
use Rattle.cs_index.proofs.live.first_on_behind.Goals as goal

-- a place that stands for none
abbrev nowhere : Locator
nowhere = record { extent = 0; page = 0; generation = 0; mark = 0 }

pub returns-then-is_on_behind : goal.returns-then-is_on_behind
returns-then-is_on_behind c = found_between c.args.places.now c.loop-k.k c.args.last c.args.extent nowhere c.loop-k-test.true (c.is_on_behind.ensures.0 c.if-is_on_behind.true) c.loop-k.invariant

pub loop-k-preserved : goal.loop-k-preserved
loop-k-preserved c = none_between c.args.places.now c.loop-k.k c.args.last c.args.extent nowhere c.loop-k-test.true (λ on. false≢true (sym c.if-is_on_behind.false ∙ c.is_on_behind.ensures.1 on)) c.loop-k.invariant

pub returns : goal.returns
returns c = none_behind_all c.args.places.now c.loop-k.k c.args.last c.args.extent c.loop-k-test.false c.loop-k.invariant
