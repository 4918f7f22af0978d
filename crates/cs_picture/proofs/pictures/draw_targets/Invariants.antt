use Rattle.std.specs.Prelude.{take, [], ◌++◌, cond, flat_map, decimal, codes, ◌∷◌}
use Rattle.std.specs.Io.KnownBytes.{Appends}
use Rattle.cs_check.specs.Documents.{elements_in}
use Rattle.cs_picture.specs.Picture.{arrow_line, bold_line, element_line, is_named, line_of, link_lines, member_line, need_lines, quote, rounds_lines, target_line}
use Rattle.cs_picture.proofs.Steps.{members_of}
use Rattle.cs_picture.proofs.pictures.draw_targets.Given as goal

abbrev pub invariant-loop-entry : goal.invariant-loop-entry
invariant-loop-entry g l = Appends (g.W.Write.contents l.initial.writer) (g.W.Write.contents l.writer) (flat_map (λ w. cond (is_named l.target w.0) (target_line l.letters w.0) []) (take l.entry-index l.waiting))
