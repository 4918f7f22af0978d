use Rattle.std.proofs.Common.{◌≡◌, ◌++◌, length, take}
use Rattle.std.specs.List.{flat_map}
use Rattle.cs_resp.specs.Spelling.{spelled_count}
use Rattle.cs_resp.specs.Replies.{spelled_element}
use Rattle.cs_resp.proofs.spelling.spell_elements.Given as goal

abbrev pub invariant-loop-element : goal.invariant-loop-element
invariant-loop-element l = l.out.items ≡ l.fn.out.items ++ (spelled_count 42 (length l.elements) ++ flat_map spelled_element (take l.element-index l.elements))
