use Rattle.std.proofs.Common.{arith}
use Rattle.cs_resp.proofs.Progressed.{one_request}
use Rattle.cs_resp.proofs.laws.no_request_begins_another.Goals as goal

pub returns : goal.returns
returns c limits a b x y small first second is = one_request limits (omega (arith, small.0)) (omega (arith, small.1)) a b x y first second is
