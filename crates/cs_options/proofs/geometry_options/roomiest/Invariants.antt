use Rattle.std.proofs.Common.{◌≡◌, ◌≤◌, IfSome}
use Rattle.cs_frame.specs.Geometries.{file_format}
use Rattle.cs_options.specs.SureRooms.{sure_room}
use Rattle.cs_options.specs.Wishes.{Suits}
use Rattle.cs_options.proofs.SearchSteps.{BestBelow}
use Rattle.cs_options.proofs.geometry_options.roomiest.Given as goal

abbrev pub invariant-loop-pages : goal.invariant-loop-pages
invariant-loop-pages l = record {
  format : IfSome l.best (λ geometry. geometry.format ≡ file_format l.store.0 geometry.extents geometry.pages geometry.sections);
  suits : IfSome l.best (λ geometry. Suits l.wish.size l.wish.shard_size l.wish.shards geometry.format geometry.extents geometry.pages geometry.sections);
  small : IfSome l.best (λ geometry. geometry.pages ≤ l.most);
  best : BestBelow l.wish.size l.wish.shard_size l.wish.shards (λ geometry. sure_room l.wish.shard_size geometry.extents geometry.pages) l.pages l.best;
}
