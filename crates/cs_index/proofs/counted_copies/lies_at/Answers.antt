use Rattle.std.proofs.Common.{get_or, ◌∙◌, ap, sym, Option}
use Rattle.cs_frame.specs.declared.locators.Locator.{Locator}
use Rattle.cs_frame.specs.Formats.{place_of}
use Rattle.law_machine.specs.Apart.{is_place}
use Rattle.law_machine.specs.Element.{Locator as Place}
use Rattle.cs_index.proofs.Living.{nth_map}
use Rattle.cs_index.proofs.Settled.{nth_beyond, one_place}
use Rattle.cs_index.proofs.counted_copies.lies_at.Goals as goal

-- a place that stands for none
abbrev nowhere : Locator
nowhere = record { extent = 0; page = 0; generation = 0; mark = 0 }

pub returns-then-locators-chunk : goal.returns-then-locators-chunk
returns-then-locators-chunk c = sym (nth_beyond c.args.locators.now c.args.chunk (place_of c.args.place) c.if-locators-chunk.true)

pub returns : goal.returns
returns c =
    c.eq.ensures ∙ one_place (get_or c.args.locators.now c.args.chunk nowhere) c.args.place ∙ sym (ap (λ (o : Option Place). is_place o (place_of c.args.place)) (nth_map place_of c.args.locators.now c.args.chunk nowhere c.if-locators-chunk.false))
