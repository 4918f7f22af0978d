use Rattle.std.proofs.Common.{ℕ, ◌<◌, ◌≤◌}
use Rattle.std.specs.Prelude.{IfSome}
use Rattle.cs_options.specs.Wishes.{IsEnough, OfAllThatSuit}
use Rattle.cs_options.proofs.geometry_options.least_size.Given as goal

abbrev pub invariant-loop-pages : goal.invariant-loop-pages
invariant-loop-pages l = record {
  enough : IfSome l.least (IsEnough l.wish.shard_size l.wish.shards);
  least : (size : ℕ) → IfSome l.least (λ least. size < least) → OfAllThatSuit size l.wish.shard_size l.wish.shards (λ extents pages. l.pages ≤ pages);
}
