use Rattle.std.proofs.Common.{take_all, subst}
use Rattle.std.specs.Io.KnownBytes.{Appends}
use Rattle.cs_picture.specs.Picture.{rounds_lines}
use Rattle.cs_picture.proofs.Steps.{members_of, one_round_more}
use Rattle.cs_picture.proofs.pictures.draw_rounds.Goals as goal

pub loop-i-preserved : goal.loop-i-preserved
loop-i-preserved g c =
    one_round_more c.args.letters.now c.args.rounds.now c.loop-i.i c.index-rounds-i.result c.deref.result.now (g.W.Write.contents c.args.writer.now) (g.W.Write.contents c.loop-i.writer) (g.W.Write.contents c.draw_round.new.writer)
    c.loop-i-test.true c.index-rounds-i.is c.deref.ensures.value c.loop-i.invariant c.in_ok-draw_round.ensures
