use Rattle.std.proofs.Common.{arith}
use Rattle.cs_resp.specs.Reading.{Tells, request_at}
use Rattle.cs_resp.proofs.Progressed.{if_ok_map, is_spelled, is_whole, more_exactly, wrong_exactly}
use Rattle.cs_resp.proofs.requests.parse_request.Goals as goal

pub returns-clause-whole : goal.returns-clause-whole
returns-clause-whole c = if_ok_map c.read_request.result (Tells c.args.bytes.now (request_at c.args.limits c.args.bytes.now)) _ (is_spelled c.args.limits (omega arith) (omega arith) c.args.bytes.now) c.read_request.ensures

pub returns-clause-again : goal.returns-clause-again
returns-clause-again c = if_ok_map c.read_request.result (Tells c.args.bytes.now (request_at c.args.limits c.args.bytes.now)) _ (is_whole c.args.limits (omega arith) (omega arith) c.args.bytes.now) c.read_request.ensures

pub returns-clause-more : goal.returns-clause-more
returns-clause-more c = if_ok_map c.read_request.result (Tells c.args.bytes.now (request_at c.args.limits c.args.bytes.now)) _ (more_exactly c.args.limits (omega arith) (omega arith) c.args.bytes.now) c.read_request.ensures

pub returns-clause-wrong : goal.returns-clause-wrong
returns-clause-wrong c = if_ok_map c.read_request.result (Tells c.args.bytes.now (request_at c.args.limits c.args.bytes.now)) _ (wrong_exactly c.args.limits (omega arith) (omega arith) c.args.bytes.now) c.read_request.ensures
