use Rattle.std.proofs.Common.{◌≡◌, ◌-◌}
use Rattle.cs_resp.specs.Spelling.{texts}
use Rattle.cs_resp.specs.Reading.{arguments_at}
use Rattle.cs_resp.proofs.ArgumentSteps.{with_front}
use Rattle.cs_resp.proofs.requests.arguments.Given as goal

abbrev pub invariant-loop : goal.invariant-loop
invariant-loop l = with_front (texts l.request.items) (arguments_at l.limits (l.count - l.counter) l.room l.rest) ≡ arguments_at l.limits l.count l.limits.bytes l.bytes
