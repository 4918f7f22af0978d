-- The search for the best of all numbers of pages.
use Rattle.std.proofs.Common.{ℕ, ◌<◌, ◌≤◌, None, Some}
use Rattle.std.specs.Prelude.{Option}
use Rattle.cs_options.specs.SureRooms.{sure_room}
use Rattle.cs_options.specs.Wishes.{OfAllThatSuit}

-- Of those that suit with fewer pages than these, the one that is found is sure to hold the most. If none is found,
-- none suits
abbrev pub BestBelow : {A : Type 0} (size shard_size shards : ℕ) (room : A → ℕ) (pages : ℕ) → Option A → Type 0
BestBelow size shard_size shards room n None = OfAllThatSuit size shard_size shards (λ extents pages. n ≤ pages)
BestBelow size shard_size shards room n (Some best) =
    OfAllThatSuit size shard_size shards (λ extents pages. pages < n → sure_room shard_size extents pages ≤ room best)
