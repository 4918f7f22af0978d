use Rattle.std.proofs.Common.{ℕ, List, subst}
use Rattle.std.specs.Prelude.{OnOk}
use Rattle.std.specs.Io.KnownBytes.{Appends}
use Rattle.cs_advice.proofs.Payloads.{some_payload}
use Rattle.cs_advice.proofs.outputs.print_payload.Goals as goal

pub returns : goal.returns
returns g c =
    let contents = g.W.Write.contents in
    subst (λ (l : List ℕ). OnOk c.print_bytes.result (Appends (contents c.args.writer.now) (contents c.print_bytes.new.writer) l)) (some_payload c.args.bytes.now c.if-is_empty.ensures) c.print_bytes.ensures
