use Rattle.std.proofs.Common.{◌≡◌, ◌-◌, ◌++◌, ◌∷◌, [], length, arith}
use Rattle.std.proofs.lemmas.Grind.{common_steps}
use Rattle.std.proofs.lemmas.Result.{err_from_is_err_and}
use Rattle.std.proofs.lemmas.List.{map_push}
use Rattle.cs_resp.specs.Spelling.{texts}
use Rattle.cs_resp.specs.Reading.{arguments_at}
use Rattle.cs_resp.proofs.ArgumentSteps.{goes_on, stops, is_done}
use Rattle.cs_resp.proofs.requests.arguments.Goals as goal

pub returns-in_err-word : goal.returns-in_err-word
returns-in_err-word c =
    let p = err_from_is_err_and c.from_residual.result c.from_residual.ensures.1 in
    rw (p.1, p.2) (stops c.args.limits c.in_err-word.field-0.0 (texts c.loop.request.items) c.args.count c.loop.counter c.loop.room c.loop.rest.now (arguments_at c.args.limits c.args.count c.args.limits.bytes c.args.bytes.now) c.loop-test.true c.in_err-word.ensures c.loop.invariant)

pub loop-preserved : goal.loop-preserved
loop-preserved c =
    let word = c.in_ok-word.word in
    let e : texts c.push.new.self.items ≡ texts c.loop.request.items ++ word.items ∷ [] = rw c.in_ok-push.ensures.items (map_push _ c.loop.request.items word) in
    let room : c.saturating_sub-room.result ≡ c.loop.room - length word.items = grind (arith, common_steps, c.len.ensures, c.saturating_sub-room.ensures) in
    rw (e, room) (goes_on c.args.limits (texts c.loop.request.items) c.args.count c.loop.counter c.loop.room c.loop.rest.now word.items c.in_ok-word.after.now (arguments_at c.args.limits c.args.count c.args.limits.bytes c.args.bytes.now) c.loop-test.true c.in_ok-word.ensures c.loop.invariant)

pub returns : goal.returns
returns c = is_done c.args.limits (texts c.loop.request.items) c.args.count c.loop.counter c.loop.room c.loop.rest.now (arguments_at c.args.limits c.args.count c.args.limits.bytes c.args.bytes.now) c.loop-test.false c.loop.invariant
