-- How many page writes are kept.
use Rattle.std.proofs.Common.{ℕ}
use Rattle.cs_deps.specs.State.{AreCounted, State as GraphState}

-- for how many more there is room doesn't matter
pub counted_room : (g : GraphState) (room n : ℕ) → AreCounted g n → AreCounted (record g { room = room }) n
counted_room g room n c = record {
  plains = c.plains;
  plains_once = c.plains_once;
  plains_are = c.plains_are;
  pairs = c.pairs;
  pairs_once = c.pairs_once;
  pairs_are = c.pairs_are;
  count = c.count;
}
