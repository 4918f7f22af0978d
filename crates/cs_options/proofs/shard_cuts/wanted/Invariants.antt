use Rattle.std.proofs.Common.{◌≡◌, ◌-◌, ◌≤◌}
use Rattle.law_machine.specs.Pieces.{is_small, least_passing, wanted}
use Rattle.cs_options.specs.SureRooms.{new_format}
use Rattle.cs_options.proofs.shard_cuts.wanted.Given as goal

abbrev pub invariant-loop-count : goal.invariant-loop-count
invariant-loop-count l = record {
  all : l.count ≤ 8;
  found : wanted new_format l.pages l.bytes ≡ least_passing (is_small new_format l.pages l.bytes) l.count (8 - l.count);
}
