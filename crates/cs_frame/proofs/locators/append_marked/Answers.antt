use Rattle.std.proofs.Common.{List, ℕ, sym, ◌++◌, ◌∙◌, append_assoc}
use Rattle.cs_frame.proofs.LocatorLaws.{spelled_more}
use Rattle.cs_frame.proofs.Pieces.{all_more}
use Rattle.cs_frame.specs.Locators.{FitsLocator}
use Rattle.std.proofs.Common.{true, length, take, ap, arith, length-append}
use Rattle.std.proofs.lemmas.List.{length-take-le}
use Rattle.cs_frame.specs.Locators.{spelled_locators}
use Rattle.cs_frame.specs.Buffers.{text_of}
use Rattle.cs_frame.proofs.LocatorLaws.{length-spelled_locators}
use Rattle.cs_frame.proofs.locators.append_marked.Goals as goal

pub append-requires : goal.append-requires
append-requires c =
    let before = take c.loop-locator.locator-index c.args.locators.now in
    omega (arith, ap length c.loop-locator.invariant.0, length-append (text_of c.args.page.now) (spelled_locators true before), length-spelled_locators true before, length-take-le c.loop-locator.locator-index c.args.locators.now)

pub loop-locator-preserved : goal.loop-locator-preserved
loop-locator-preserved c = (
  c.append.ensures
      ∙ ap (λ (xs : List ℕ). xs ++ c.marked_bytes.result) c.loop-locator.invariant.0
      ∙ append_assoc (text_of c.args.page.now) (spelled_locators true (take c.loop-locator.locator-index c.args.locators.now)) c.marked_bytes.result
      ∙ ap (λ (xs : List ℕ). text_of c.args.page.now ++ (spelled_locators true (take c.loop-locator.locator-index c.args.locators.now) ++ xs)) c.marked_bytes.ensures.bytes
      ∙ ap (λ (xs : List ℕ). text_of c.args.page.now ++ xs) (sym (spelled_more true c.args.locators.now c.loop-locator.locator-index _ c.loop-locator-test.true)),
  all_more (FitsLocator true) c.args.locators.now c.loop-locator.locator-index _ c.loop-locator-test.true c.loop-locator.invariant.1 c.marked_bytes.ensures.fits,
)
