use Rattle.std.proofs.Common.{◌≡◌, ◌+◌, ◌<◌, ℕ, length, map, take}
use Rattle.std.specs.Prelude.{slice_index}
use Rattle.cs_frame.specs.Formats.{place_of}
use Rattle.law_machine.specs.Tally.{places_on}
use Rattle.cs_index.proofs.counts.add_places.Given as goal

abbrev pub invariant-loop-k : goal.invariant-loop-k
invariant-loop-k l = record {
  size : length l.on ≡ length l.fn.on;
  each : (e : ℕ) → e < length l.fn.on → slice_index l.on e ≡ slice_index l.fn.on e + places_on e (map place_of (take l.k l.places));
}
