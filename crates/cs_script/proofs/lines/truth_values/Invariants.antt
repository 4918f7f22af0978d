use Rattle.std.proofs.Common.{◌≡◌, map, take}
use Rattle.cs_script.specs.Lines.{is_one}
use Rattle.cs_script.proofs.lines.truth_values.Given as goal

abbrev pub invariant-loop-byte : goal.invariant-loop-byte
invariant-loop-byte l = l.mask.items ≡ map is_one (take l.byte-index l.word)
