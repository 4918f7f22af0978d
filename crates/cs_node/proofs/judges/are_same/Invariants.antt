use Rattle.std.proofs.Common.{◌≡◌, ℕ, ◌<◌}
use Rattle.std.specs.Prelude.{slice_index_or}
use Rattle.cs_deps.specs.declared.elements.Element.{Element}
use Rattle.cs_node.proofs.judges.are_same.Given as goal

-- the elements so far are the same
abbrev pub invariant-loop-i : goal.invariant-loop-i
invariant-loop-i l = (k : ℕ) (d : Element) → k < l.i → slice_index_or l.a k d ≡ slice_index_or l.b k d
