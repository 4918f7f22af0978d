use Rattle.std.specs.Prelude.{◌≡◌, ◌≤◌}
use Rattle.std.specs.VecDeque.{deque_len, deque_capacity}
use Rattle.cs_deps.specs.Trimmed.{IsTrimmedList}
use Rattle.cs_deps.proofs.cleaning.trim_list.Given as goal

abbrev pub invariant-loop : goal.invariant-loop
invariant-loop l = record {
  list : IsTrimmedList l.base l.fn.list.items l.list.items;
  room : deque_len l.list ≤ deque_len l.fn.list;
  capacity : deque_capacity l.list ≡ deque_capacity l.fn.list;
}
