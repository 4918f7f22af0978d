use Rattle.cs_twin.proofs.Becoming.{sectors_more}
use Rattle.std.proofs.Common.{rules}
use Rattle.cs_twin.proofs.tears.lay_sectors.Goals as goal

pub loop-number-preserved : goal.loop-number-preserved
loop-number-preserved c =
    sectors_more c.args.sectors.now c.args.bytes.now c.args.page.now c.loop-number.page c.lay_sector.new.page c.loop-number.number _ (search rules) c.loop-number.invariant c.lay_sector.ensures
