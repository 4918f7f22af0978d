use Rattle.std.specs.Prelude.{◌++◌, codes}
use Rattle.std.proofs.lemmas.Result.{on_ok_weaker}
use Rattle.cs_advice.specs.Members.{number_text}
use Rattle.cs_advice.proofs.Appended.{appends_then}
use Rattle.cs_advice.proofs.tellings.print_longer.Goals as goal

pub returns : goal.returns
returns g c =
    let contents = g.W.Write.contents in
    let start = contents c.args.writer.now in
    let mid = contents c.print_number-2.new.writer in
    let one = number_text (codes ". Copy it, `truncate -s ") c.args.bytes in
    let other = number_text (codes " COPY`, and try again with the copy. If that doesn't open either, `export --salvage` of the copy reads the shards whose frames are there. A device that has grown is opened by `--device-pages ") c.args.wanted in
    on_ok_weaker c.write.result
    (λ ended. appends_then start mid (contents c.write.new.self) (one ++ other) (codes "`. In format 2 there is neither.")
    (appends_then start (contents c.print_number.new.writer) mid one other c.in_ok-print_number.ensures c.in_ok-print_number-2.ensures) ended)
    c.write.ensures.bytes
