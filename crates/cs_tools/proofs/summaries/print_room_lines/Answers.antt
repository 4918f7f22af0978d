use Rattle.std.proofs.Common.{◌∙◌, ◌++◌, ℕ, ap}
use Rattle.std.proofs.lemmas.Result.{on_ok_weaker}
use Rattle.cs_tools.specs.Summaries.{cost_at, cost_line, index_line, live_line, more_text, share_of}
use Rattle.cs_advice.proofs.Appended.{appends_same}
use Rattle.cs_tools.proofs.Rows.{four_then}
use Rattle.cs_tools.proofs.summaries.print_room_lines.Goals as goal

pub returns : goal.returns
returns g c =
    let contents = g.W.Write.contents in
    let room = c.args.room in
    let start = contents c.args.writer.now in
    let last = contents c.print_cost.new.writer in
    let share = c.share_of-share.result in
    let text = λ (n cost : ℕ). live_line room.all n ++ more_text room ++ index_line room.identifiers ++ cost_line cost in
    on_ok_weaker c.print_cost.result
    (λ ended. appends_same start last (text share c.cost_at.result) (text (share_of room) (cost_at (share_of room)))
    (ap (λ (n : ℕ). text share n) c.cost_at.ensures ∙ ap (λ (n : ℕ). text n (cost_at n)) c.share_of-share.ensures)
    (four_then start (contents c.print_live.new.writer) (contents c.print_more.new.writer) (contents c.print_index.new.writer) last
    (live_line room.all share) (more_text room) (index_line room.identifiers) (cost_line c.cost_at.result)
    c.in_ok-print_live.ensures c.in_ok-print_more.ensures c.in_ok-print_index.ensures ended))
    c.print_cost.ensures
