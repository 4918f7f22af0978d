use Rattle.std.proofs.Common.{false, ◌≡◌, ◌≤◌, length, map, take}
use Rattle.cs_frame.specs.Locators.{locator_in}
use Rattle.cs_frame.proofs.locators.places_from.Given as goal

abbrev pub invariant-loop-bytes : goal.invariant-loop-bytes
invariant-loop-bytes l = record {
  items : l.places.items ≡ map (locator_in false) (take l.bytes-index l.spelled);
  count : length l.places.items ≡ l.bytes-index;
  room : length l.spelled ≤ l.places.capacity;
}
