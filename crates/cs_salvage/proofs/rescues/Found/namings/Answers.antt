use Rattle.std.proofs.Common.{List, subst, sym, take, ◌+◌}
use Rattle.std.specs.List.{AllZip}
use Rattle.cs_salvage.specs.Namings.{IsNaming}
use Rattle.cs_salvage.specs.declared.namings.Naming.{Naming}
use Rattle.cs_salvage.proofs.Zips.{zip_more}
use Rattle.cs_salvage.proofs.rescues.Found.namings.Goals as goal

pub loop-k-preserved : goal.loop-k-preserved
loop-k-preserved c = record {
  named = subst (λ (ns : List Naming). AllZip (IsNaming c.args.self.now) (take (c.loop-k.k + 1) c.args.shards.now) ns) (sym c.in_ok-push.ensures.items)
      (zip_more (IsNaming c.args.self.now) c.args.shards.now c.loop-k.namings.items c.loop-k.k c.index-shards-k.result c.naming-naming.result c.loop-k-test.true c.index-shards-k.is c.loop-k.invariant.named c.naming-naming.ensures);
}
