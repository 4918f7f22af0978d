use Rattle.std.proofs.Common.{◌≡◌, length}
use Rattle.cs_resp.specs.Reading.{digits_at}
use Rattle.cs_resp.proofs.numbers.more_digits.Given as goal

-- what is left to read gives what all gives
abbrev pub invariant-loop-rest : goal.invariant-loop-rest
invariant-loop-rest l = digits_at l.most l.fault l.number l.rest ≡ digits_at l.most l.fault l.first l.bytes

abbrev pub decreases-loop-rest : goal.decreases-loop-rest
decreases-loop-rest l = length l.rest
