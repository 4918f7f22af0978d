use Rattle.std.proofs.Common.{◌≡◌, ◌++◌, ◌∷◌, map, take}
use Rattle.cs_resp.specs.Replies.{blank}
use Rattle.cs_resp.proofs.spelling.spell_line.Given as goal

abbrev pub invariant-loop-byte : goal.invariant-loop-byte
invariant-loop-byte l = l.out.items ≡ l.fn.out.items ++ (l.sign ∷ map blank (take l.byte-index l.text))
