use Rattle.std.proofs.Common.{take}
use Rattle.cs_index.specs.Copies.{IsSettled, newest_copies}
use Rattle.cs_index.proofs.indexes.Index.settle.Given as goal

abbrev pub invariant-loop-k : goal.invariant-loop-k
invariant-loop-k l = IsSettled l.fn.self (newest_copies (take l.k l.copies)) l.self
