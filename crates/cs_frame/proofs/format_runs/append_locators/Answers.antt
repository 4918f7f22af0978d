use Rattle.std.proofs.Common.{ap, List, ℕ, true, sym, ◌++◌, ◌∙◌, append_assoc, take}
use Rattle.cs_frame.specs.Locators.{FitsLocator, spelled_locators}
use Rattle.cs_frame.proofs.LocatorLaws.{spelled_more}
use Rattle.cs_frame.proofs.Pieces.{all_more}
use Rattle.cs_frame.proofs.format_runs.append_locators.Goals as goal

pub loop-locator-preserved : goal.loop-locator-preserved
loop-locator-preserved c = (
  c.in_ok-extend_from_slice.ensures.items
      ∙ ap (λ (xs : List ℕ). xs ++ c.marked_bytes.result) c.loop-locator.invariant.0
      ∙ append_assoc c.args.payload.now.items (spelled_locators true (take c.loop-locator.locator-index c.args.locators.now)) c.marked_bytes.result
      ∙ ap (λ (xs : List ℕ). c.args.payload.now.items ++ (spelled_locators true (take c.loop-locator.locator-index c.args.locators.now) ++ xs)) c.marked_bytes.ensures.bytes
      ∙ ap (λ (xs : List ℕ). c.args.payload.now.items ++ xs) (sym (spelled_more true c.args.locators.now c.loop-locator.locator-index _ c.loop-locator-test.true)),
  all_more (FitsLocator true) c.args.locators.now c.loop-locator.locator-index _ c.loop-locator-test.true c.loop-locator.invariant.1 c.marked_bytes.ensures.fits,
)
