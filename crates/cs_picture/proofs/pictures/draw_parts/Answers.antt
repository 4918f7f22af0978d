use Rattle.std.proofs.Common.{ℕ, List, ◌++◌}
use Rattle.std.specs.Prelude.{flat_map}
use Rattle.std.proofs.lemmas.Result.{on_ok_weaker}
use Rattle.cs_check.specs.Documents.{elements_in}
use Rattle.cs_picture.specs.Picture.{bold_line, dashed_line, element_line, first_lines, last_line, link_lines, named_in, need_lines, rounds_lines, target_line}
use Rattle.cs_picture.proofs.Steps.{members_of}
use Rattle.cs_picture.proofs.Appended.{appends_then}
use Rattle.cs_picture.proofs.pictures.draw_parts.Goals as goal

pub returns : goal.returns
returns g c =
    let contents = g.W.Write.contents in
    let letters = c.args.letters.now in
    let waiting = c.args.waiting.now in
    let plan = c.args.plan.now in
    let start = contents c.args.writer.now in
    let p1 = first_lines in
    let p2 = rounds_lines letters 1 (members_of plan.rounds.items) in
    let p4 = flat_map (element_line letters) (elements_in waiting) in
    let p5 = flat_map (need_lines letters waiting) waiting in
    let p6 = flat_map (target_line letters) (named_in waiting c.args.target.now) in
    let p7 = flat_map (bold_line letters) plan.chain.items in
    let p8 = link_lines letters plan.chain.items in
    let h2 = appends_then start (contents c.draw_first.new.writer) (contents c.draw_rounds.new.writer) p1 p2 c.in_ok-draw_first.ensures (rw c.deref.ensures.value at c.in_ok-draw_rounds.ensures) in
    let h3 = appends_then start (contents c.draw_rounds.new.writer) (contents c.draw_dashed.new.writer) (p1 ++ p2) dashed_line h2 c.in_ok-draw_dashed.ensures in
    let h4 = appends_then start (contents c.draw_dashed.new.writer) (contents c.draw_elements.new.writer) (p1 ++ p2 ++ dashed_line) p4 h3 c.in_ok-draw_elements.ensures in
    let h5 = appends_then start (contents c.draw_elements.new.writer) (contents c.draw_all_needs.new.writer) (p1 ++ p2 ++ dashed_line ++ p4) p5 h4 c.in_ok-draw_all_needs.ensures in
    let h6 = appends_then start (contents c.draw_all_needs.new.writer) (contents c.draw_targets.new.writer) (p1 ++ p2 ++ dashed_line ++ p4 ++ p5) p6 h5 c.in_ok-draw_targets.ensures in
    let h7 = appends_then start (contents c.draw_targets.new.writer) (contents c.draw_chain.new.writer) (p1 ++ p2 ++ dashed_line ++ p4 ++ p5 ++ p6) p7 h6 (rw c.deref-2.ensures.value at c.in_ok-draw_chain.ensures) in
    let h8 = appends_then start (contents c.draw_chain.new.writer) (contents c.draw_links.new.writer) (p1 ++ p2 ++ dashed_line ++ p4 ++ p5 ++ p6 ++ p7) p8 h7 (rw c.deref-3.ensures.value at c.in_ok-draw_links.ensures) in
    on_ok_weaker c.draw_last.result (appends_then start (contents c.draw_links.new.writer) (contents c.draw_last.new.writer) (p1 ++ p2 ++ dashed_line ++ p4 ++ p5 ++ p6 ++ p7 ++ p8) last_line h8) c.draw_last.ensures
