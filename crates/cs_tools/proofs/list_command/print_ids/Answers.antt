use Rattle.std.proofs.Common.{ℕ, List, ap, subst, take_all}
use Rattle.std.specs.Prelude.{flat_map}
use Rattle.std.specs.Io.KnownBytes.{Appends}
use Rattle.cs_advice.specs.Outputs.{id_line}
use Rattle.cs_advice.proofs.Appended.{appends_kept, one_more, whatever}
use Rattle.cs_tools.proofs.list_command.print_ids.Goals as goal

pub loop-id-preserved : goal.loop-id-preserved
loop-id-preserved g c =
    let contents = g.W.Write.contents in
    one_more (id_line c.args.style) c.args.ids.now c.loop-id.id-index _ (contents c.args.writer.now) (contents c.loop-id.writer) (contents c.print_line.new.writer)
    c.loop-id-test.true c.loop-id.invariant c.in_ok-print_line.ensures

pub returns : goal.returns
returns g c =
    let contents = g.W.Write.contents in
    let start = contents c.args.writer.now in
    let lines = flat_map (id_line c.args.style) c.args.ids.now in
    whatever c.flush.result (appends_kept start (contents c.loop-id.writer) (contents c.flush.new.self) lines
    (subst (λ (xs : List ℕ). Appends start (contents c.loop-id.writer) xs) (ap (flat_map (id_line c.args.style)) (take_all c.loop-id.id-index c.args.ids.now c.loop-id-test.false)) c.loop-id.invariant)
    c.flush.ensures.bytes)
