use Rattle.std.proofs.Common.{◌∙◌, arith}
use Rattle.cs_deps.proofs.cleaning.fold_all.Goals as goal

pub loop-family-preserved : goal.loop-family-preserved
loop-family-preserved c =
    let e = c.fold_family.ensures in
    let i = c.loop-family.invariant in
    record {
      waiting = e.waiting ∙ i.waiting;
      current = λ latest was. e.current latest (i.current latest was);
      live = λ m floors was. e.live m floors (i.live m floors was);
      count = omega (arith, e.count, i.count);
      capacity = e.capacity ∙ i.capacity;
    }
