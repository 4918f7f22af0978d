use Rattle.std.proofs.Common.{arith}
use Rattle.cs_resp.proofs.Progressed.{goes_on, fault_stays}
use Rattle.cs_resp.proofs.laws.more_bytes_change_no_answer.Goals as goal

pub returns-clause-whole : goal.returns-clause-whole
returns-clause-whole c limits bytes tail rest request small is = goes_on limits (omega (arith, small.0)) (omega (arith, small.1)) bytes tail request rest is

pub returns-clause-wrong : goal.returns-clause-wrong
returns-clause-wrong c limits bytes tail fault small is = fault_stays limits (omega (arith, small.0)) (omega (arith, small.1)) bytes tail fault is
