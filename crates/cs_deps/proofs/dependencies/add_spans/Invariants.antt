use Rattle.std.proofs.Common.{ℕ, ◌+◌, ◌≤◌, ◌⊎◌, length, take}
use Rattle.std.specs.Prelude.{◌↔◌}
use Rattle.cs_deps.specs.Named.{NamesPlain, IsInSpans}
use Rattle.cs_deps.proofs.dependencies.add_spans.Given as goal

abbrev pub invariant-loop-span : goal.invariant-loop-span
invariant-loop-span l = record {
  names : (n : ℕ) → NamesPlain l.through l.spans.items n ↔ (NamesPlain l.through l.fn.spans.items n ⊎ IsInSpans (take l.span-index l.more) n);
  count : length l.spans.items ≤ length l.fn.spans.items + l.span-index;
  capacity : l.fn.spans.capacity ≤ l.spans.capacity;
}
