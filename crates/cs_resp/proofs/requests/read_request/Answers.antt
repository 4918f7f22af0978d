use Rattle.std.proofs.Common.{arith}
use Rattle.cs_resp.specs.Spelling.{texts}
use Rattle.cs_resp.proofs.Progressed.{behind}
use Rattle.cs_resp.proofs.requests.read_request.Goals as goal

pub overflow_sub-result : goal.overflow_sub-result
overflow_sub-result c = (behind c.args.limits (omega arith) (omega arith) c.args.bytes.now (texts c.in-Ok.request.items) c.in-Ok.rest.now c.in-Ok.ensures).1

pub returns-in-Ok : goal.returns-in-Ok
returns-in-Ok c =
    let read = behind c.args.limits (omega arith) (omega arith) c.args.bytes.now (texts c.in-Ok.request.items) c.in-Ok.rest.now c.in-Ok.ensures in
    (read.0, read.2)
