use Rattle.std.proofs.Common.{◌≡◌, ◌++◌, length, take}
use Rattle.std.specs.List.{flat_map}
use Rattle.cs_resp.specs.Spelling.{spelled_bulk, spelled_count, texts}
use Rattle.cs_resp.proofs.spelling.spell_request.Given as goal

abbrev pub invariant-loop-argument : goal.invariant-loop-argument
invariant-loop-argument l = l.out.items ≡ l.fn.out.items ++ (spelled_count 42 (length l.request) ++ flat_map spelled_bulk (texts (take l.argument-index l.request)))
