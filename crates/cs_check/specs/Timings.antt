-- A view and rounds, with the first round that satisfies each waiting element.
use Rattle.cs_deps.specs.View.{pending_of}
use Rattle.cs_check.specs.declared.timings.Timing.{Timing}
use Rattle.cs_check.specs.Listing.{IsListing}
use Rattle.cs_check.specs.Progress.{AreFirsts, elements_of}

-- The view lists its elements as a document would, and for each of them the number is that of the rounds that don't satisfy it.
pub record IsTimed (t : Timing) : Type 0 where
  pub listing : IsListing (pending_of t.view.now)
  pub firsts : AreFirsts (pending_of t.view.now) (elements_of t.rounds.now) t.firsts.now
