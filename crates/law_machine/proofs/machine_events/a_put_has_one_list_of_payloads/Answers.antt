use Rattle.law_machine.proofs.machine_events.a_put_has_one_list_of_payloads.Goals as goal
use Rattle.std.proofs.Common.{ap, length, ◌∙◌}
use Rattle.law_machine.proofs.Chunks.{chunked_one}
use Rattle.law_machine.proofs.Payloads.{payloads_bytes, payloads_heads, payloads_length, payloads_long, payloads_one, payloads_there}

pub returns : goal.returns
returns c = record {
  there = λ S F id command bytes shape. payloads_there S F id command bytes (shape.some_piece (length bytes));
  one = λ S F id command bytes payloads others a b. payloads_one S F id command bytes payloads others a b;
  length = λ S F id command bytes payloads pieces a chunked.
      payloads_length S F id command bytes payloads a ∙ ap length (chunked_one (S.piece_bytes (length bytes)) bytes a.0 pieces a.1 chunked);
  bytes = λ S F id command bytes payloads format a. payloads_bytes S F format id command bytes payloads a;
  long = λ S F id command bytes payloads format a. payloads_long S F format id command bytes payloads a;
  heads = λ S F id command bytes payloads k payload a there. payloads_heads S F id command bytes payloads k payload a there;
}
