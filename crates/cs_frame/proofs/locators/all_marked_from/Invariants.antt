use Rattle.std.proofs.Common.{true, ◌≡◌, length, map, take, vec_capacity, vec_len}
use Rattle.cs_frame.specs.Locators.{locator_in}
use Rattle.cs_frame.proofs.locators.all_marked_from.Given as goal

abbrev pub invariant-loop-bytes : goal.invariant-loop-bytes
invariant-loop-bytes l = record {
  items : l.locators.items ≡ map (locator_in true) (take l.bytes-index l.spelled);
  count : vec_len l.locators ≡ l.bytes-index;
  room : vec_capacity l.locators ≡ length l.spelled;
}
