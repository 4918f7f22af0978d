use Rattle.std.proofs.Common.{◌≡◌, ◌++◌, length, take}
use Rattle.std.specs.List.{flat_map}
use Rattle.cs_resp.specs.Spelling.{spelled_count}
use Rattle.cs_resp.specs.Replies.{spelled_item}
use Rattle.cs_resp.proofs.spelling.spell_items.Given as goal

abbrev pub invariant-loop-item : goal.invariant-loop-item
invariant-loop-item l = l.out.items ≡ l.fn.out.items ++ (spelled_count 42 (length l.items) ++ flat_map spelled_item (take l.item-index l.items))
