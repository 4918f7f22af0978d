use Rattle.std.proofs.Common.{ℕ, List, ap, subst, take_all}
use Rattle.std.specs.Prelude.{flat_map}
use Rattle.std.specs.Io.KnownBytes.{Appends}
use Rattle.cs_tools.specs.Scrubs.{damage_line}
use Rattle.cs_advice.proofs.Appended.{one_more}
use Rattle.cs_tools.proofs.scrub_command.print_damages.Goals as goal

pub loop-damage-preserved : goal.loop-damage-preserved
loop-damage-preserved g c =
    let contents = g.W.Write.contents in
    one_more (damage_line c.args.style) c.args.damages.now c.loop-damage.damage-index _ (contents c.args.writer.now) (contents c.loop-damage.writer) (contents c.print_damage.new.writer)
    c.loop-damage-test.true c.loop-damage.invariant c.in_ok-print_damage.ensures

pub returns : goal.returns
returns g c =
    let contents = g.W.Write.contents in
    subst (λ (xs : List ℕ). Appends (contents c.args.writer.now) (contents c.loop-damage.writer) xs) (ap (flat_map (damage_line c.args.style)) (take_all c.loop-damage.damage-index c.args.damages.now c.loop-damage-test.false)) c.loop-damage.invariant
