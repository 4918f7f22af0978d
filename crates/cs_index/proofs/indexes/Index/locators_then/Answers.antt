use Rattle.std.proofs.Common.{◌≡◌, ◌∙◌, ap, arith, map, sym, List, Option}
use Rattle.std.proofs.lemmas.List.{length-map}
use Rattle.cs_frame.specs.Formats.{place_of}
use Rattle.law_machine.specs.Apart.{is_place}
use Rattle.law_machine.specs.Element.{Locator as Place}
use Rattle.law_machine.specs.Index.{live, live_at}
use Rattle.law_machine.specs.Lists.{nth, replaced}
use Rattle.cs_index.specs.State.{id_number, index_of}
use Rattle.cs_index.proofs.Settled.{lies_inside}
use Rattle.cs_index.proofs.indexes.Index.locators_then.Goals as goal
use Rattle.cs_index.proofs.indexes.Index.locators_then.Goals.{After-lies_at}

live_is : (c : After-lies_at) → live_at (index_of c.args.self.now) (id_number c.args.copy.id) ≡ map place_of c.in-Some.locators.now
live_is c = ap live (sym c.in-Some.ensures.last)

lies_is : (c : After-lies_at) → is_place (nth (live_at (index_of c.args.self.now) (id_number c.args.copy.id)) c.args.copy.chunk) (place_of c.args.copy.from) ≡ c.lies_at.result
lies_is c = ap (λ (ls : List Place). is_place (nth ls c.args.copy.chunk) (place_of c.args.copy.from)) (live_is c) ∙ sym c.lies_at.ensures

pub returns-in_default : goal.returns-in_default
returns-in_default c = ap (λ (o : Option (List Place)). is_place (nth (live o) c.args.copy.chunk) (place_of c.args.copy.from)) (sym c.in_default.ensures.last)

pub returns-then-not-lies_at : goal.returns-then-not-lies_at
returns-then-not-lies_at c = lies_is (goal.at.returns-then-not-lies_at c).After-lies_at ∙ c.if-not-lies_at.true

pub with_copy-requires : goal.with_copy-requires
with_copy-requires c =
    omega (arith, lies_inside (map place_of c.in-Some.locators.now) c.args.copy.chunk (place_of c.args.copy.from) (sym c.lies_at.ensures ∙ c.if-not-lies_at.false), length-map c.in-Some.locators.now place_of)

pub returns : goal.returns
returns c =
    let at = (goal.at.returns c).After-lies_at in (
      lies_is at ∙ c.if-not-lies_at.false,
      c.in_ok-new.ensures.places ∙ ap (λ (ls : List Place). replaced ls c.args.copy.chunk (place_of c.args.copy.to)) (sym (live_is at)),
      omega (arith, c.in_ok-new.ensures.size, c.in-Some.ensures.short),
    )
