use Rattle.std.proofs.Common.{◌∙◌, refl, sym}
use Rattle.cs_core.proofs.Leaving.{only_left_now}
use Rattle.cs_core.proofs.Settling.{settled_too}
use Rattle.cs_core.proofs.cores.Core.checkpoint.Goals as goal

pub returns-then-not-is_settled-clause-err : goal.returns-then-not-is_settled-clause-err
returns-then-not-is_settled-clause-err g c = rw (← c.self.view_is) ((sym c.is_halted.ensures ∙ c.if-is_halted.false, λ is. c.if-not-is_settled.ensures (settled_too c.self.inside.store is)), refl)

pub returns-then-not-is_settled-clause-always : goal.returns-then-not-is_settled-clause-always
returns-then-not-is_settled-clause-always g c = rw (← c.self.view_is) (λ runs is few. absurd (c.if-not-is_settled.ensures (settled_too c.self.inside.store is)))

pub returns-then-is_halted-clause-crash : goal.returns-then-is_halted-clause-crash
returns-then-is_halted-clause-crash g c = rw (← c.self.view_is) (λ honest.
    only_left_now g.D.PageDisk c.self.invariant.core c.extent_count.ensures.whole honest (g.met.D.PageDisk.sized c.self.inside.disk honest) (λ image since. g.met.D.PageDisk.only_now c.self.inside.disk image honest since))

pub returns-then-not-is_settled-clause-crash : goal.returns-then-not-is_settled-clause-crash
returns-then-not-is_settled-clause-crash g c = rw (← c.self.view_is) (λ honest.
    only_left_now g.D.PageDisk c.self.invariant.core c.extent_count.ensures.whole honest (g.met.D.PageDisk.sized c.self.inside.disk honest) (λ image since. g.met.D.PageDisk.only_now c.self.inside.disk image honest since))

pub returns-then-total-gt-LAST_NUMBER-clause-crash : goal.returns-then-total-gt-LAST_NUMBER-clause-crash
returns-then-total-gt-LAST_NUMBER-clause-crash g c = rw (← c.self.view_is) (λ honest.
    only_left_now g.D.PageDisk c.self.invariant.core c.extent_count.ensures.whole honest (g.met.D.PageDisk.sized c.self.inside.disk honest) (λ image since. g.met.D.PageDisk.only_now c.self.inside.disk image honest since))

pub returns-clause-crash : goal.returns-clause-crash
returns-clause-crash g c = rw (← c.self.view_is) (λ honest.
    only_left_now g.D.PageDisk c.self.invariant.core c.extent_count.ensures.whole honest (g.met.D.PageDisk.sized c.self.inside.disk honest) (λ image since. g.met.D.PageDisk.only_now c.self.inside.disk image honest since))
