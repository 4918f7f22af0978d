use Rattle.std.proofs.Common.{◌≡◌, map}
use Rattle.std.specs.List.{range_with_len}
use Rattle.cs_mount.specs.StorePairs.{store_pair}
use Rattle.cs_mount.proofs.store_pairs.pairs_of_store.Given as goal

abbrev pub invariant-loop-k : goal.invariant-loop-k
invariant-loop-k l = l.pairs.items ≡ map (store_pair l.geometry) (range_with_len 0 l.k)
