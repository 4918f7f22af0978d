use Rattle.std.proofs.Common.{◌⊎◌, inl, inr, refl, subst}
use Rattle.std.proofs.lemmas.Result.{IfErr-weaker}
use Rattle.cs_chunk.specs.Cuts.{IsOversized}
use Rattle.cs_extent.specs.State.{State as Extents, shape}
use Rattle.cs_tools.specs.Aims.{IsPutAnd}
use Rattle.cs_tools.specs.Reclaims.{StopsFull, StopsLater, StopsReclaim}
use Rattle.cs_tools.proofs.Aiming.{never_too_large, told_false, told_true}
use Rattle.cs_tools.proofs.Emptying.{refused_so}
use Rattle.cs_tools.proofs.Tidying.{tidies_none}
use Rattle.cs_tools.proofs.reclaim_command.reclaim_for.Goals as goal
use Rattle.cs_tools.proofs.reclaim_command.reclaim_for.Goals.{Else-is_too_large, Then-is_too_large}
use Rattle.cs_tools.proofs.reclaim_command.reclaim_for.Given.{Over}

-- ---- the put is too large

over : (g : Over) (c : Then-is_too_large g) → IsPutAnd c.args.aim (IsOversized (shape c.args.core.now.store.extents))
over g c =
    let x = c.extents.result.now in
    let put = λ (y : Extents). IsPutAnd c.args.aim (IsOversized (shape y)) in
    subst put c.extents.ensures (told_true (put x) (¬ put x) c.is_too_large.result c.is_too_large.ensures c.if-is_too_large.true)

pub returns-then-is_too_large-clause-stopped : goal.returns-then-is_too_large-clause-stopped
returns-then-is_too_large-clause-stopped g c apart = inl (refl, over g (goal.at.returns-then-is_too_large-clause-stopped g c).Then-is_too_large, refl, refl)

pub returns-then-is_too_large-clause-refusals : goal.returns-then-is_too_large-clause-refusals
returns-then-is_too_large-clause-refusals g c = inr refl

pub returns-then-is_too_large-clause-too_large : goal.returns-then-is_too_large-clause-too_large
returns-then-is_too_large-clause-too_large g c = (λ is. over g (goal.at.returns-then-is_too_large-clause-too_large g c).Then-is_too_large, λ large. refl)

pub returns-then-is_too_large-clause-untouched : goal.returns-then-is_too_large-clause-untouched
returns-then-is_too_large-clause-untouched g c is = (refl, refl)

pub returns-then-is_too_large-clause-tidies : goal.returns-then-is_too_large-clause-tidies
returns-then-is_too_large-clause-tidies g c = tidies_none g.D.PageDisk c.args.core.now

-- ---- it isn't

under : (g : Over) (c : Else-is_too_large g) → ¬ IsPutAnd c.args.aim (IsOversized (shape c.args.core.now.store.extents))
under g c =
    let x = c.extents.result.now in
    let put = λ (y : Extents). IsPutAnd c.args.aim (IsOversized (shape y)) in
    subst (λ (y : Extents). ¬ put y) c.extents.ensures (told_false (put x) (¬ put x) c.is_too_large.result c.is_too_large.ensures c.if-is_too_large.false)

pub reclaim_and_print-requires : goal.reclaim_and_print-requires
reclaim_and_print-requires g c = under g (goal.at.reclaim_and_print-requires g c).Else-is_too_large

pub returns-clause-stopped : goal.returns-clause-stopped
returns-clause-stopped g c apart =
    let contents = g.W.Write.contents in
    let old = c.args.core.now in
    let new = c.reclaim_and_print.new.core in
    let start = contents c.args.writer.now in
    let end = contents c.reclaim_and_print.new.writer in
    let later = StopsLater g.D.PageDisk c.args.aim c.args.style old new start end in
    let full = StopsFull g.D.PageDisk c.args.aim c.args.style old new start end in
    let stops = StopsReclaim g.D.PageDisk c.args.aim c.args.style old new start end in
    IfErr-weaker c.reclaim_and_print.result _ _ (λ stop it. refused_so (λ r. later r ⊎ full r) stops (λ r so. inr so) stop it) (c.reclaim_and_print.ensures.stopped apart)

pub returns-clause-refusals : goal.returns-clause-refusals
returns-clause-refusals g c = IfErr-weaker c.reclaim_and_print.result _ _ (λ stop may. inl may) c.reclaim_and_print.ensures.refusals

pub returns-clause-too_large : goal.returns-clause-too_large
returns-clause-too_large g c = (
  λ is. absurd (never_too_large c.reclaim_and_print.result c.reclaim_and_print.ensures.refusals is),
  λ large. absurd (under g (goal.at.returns-clause-too_large g c).Else-is_too_large large),
)

pub returns-clause-untouched : goal.returns-clause-untouched
returns-clause-untouched g c is = absurd (never_too_large c.reclaim_and_print.result c.reclaim_and_print.ensures.refusals is)
