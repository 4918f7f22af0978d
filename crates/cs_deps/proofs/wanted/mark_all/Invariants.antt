use Rattle.std.proofs.Common.{◌≡◌, length}
use Rattle.cs_deps.proofs.Marking.{AreMarkedSo}
use Rattle.cs_deps.proofs.wanted.mark_all.Given as goal

abbrev pub invariant-loop-span : goal.invariant-loop-span
invariant-loop-span l = record {
  count : length l.marks.items ≡ length l.fn.marks.items;
  marks : AreMarkedSo l.start l.fn.marks.items l.spans l.span-index l.marks.items;
}
