use Rattle.cs_store.proofs.Running.{ran_leaves}
use Rattle.cs_refusal.specs.declared.refusals.Refusal.TheVariants.{TooLarge}
use Rattle.cs_tools.proofs.Aiming.{refused_as}
use Rattle.cs_tools.proofs.Emptying.{damaged_v2, done_v2, ended_damaged, ended_readable, ended_so, ended_well, was_refused}
use Rattle.cs_tools.proofs.reclaim_command.reclaim.Goals as goal

pub returns-clause-refusals : goal.returns-clause-refusals
returns-clause-refusals g c r is = refused_as c.reclaim_for-ended.result r (c.outcome_of.ensures.refused r is) c.reclaim_for-ended.ensures.refusals

pub returns-clause-too_large : goal.returns-clause-too_large
returns-clause-too_large g c = (
  λ is. c.reclaim_for-ended.ensures.too_large.0 (c.outcome_of.ensures.refused TooLarge is),
  λ large. c.outcome_of.ensures.told TooLarge (c.reclaim_for-ended.ensures.too_large.1 large),
)

pub returns-clause-untouched : goal.returns-clause-untouched
returns-clause-untouched g c is = c.reclaim_for-ended.ensures.untouched (c.outcome_of.ensures.refused TooLarge is)

pub returns-clause-room : goal.returns-clause-room
returns-clause-room g c ends = ended_well c.outcome_of.result c.reclaim_for-ended.result c.outcome_of.ensures.done c.outcome_of.ensures.damaged _ c.reclaim_for-ended.ensures.room ends

pub returns-clause-crash : goal.returns-clause-crash
returns-clause-crash g c honest =
    let first = c.args.core.now in
    let s = c.progress.ensures.legal honest in
    ran_leaves g.D.PageDisk first c.reclaim_for-ended.new.core s.0 honest s.1 (c.progress.ensures.left honest) (λ image since. g.met.D.PageDisk.only_now first.disk image honest since) c.reclaim_for-ended.ensures.tidies.ran

pub returns-clause-kept : goal.returns-clause-kept
returns-clause-kept g c honest ends = ended_well c.outcome_of.result c.reclaim_for-ended.result c.outcome_of.ensures.done c.outcome_of.ensures.damaged _ (c.reclaim_for-ended.ensures.kept honest) ends

pub returns-clause-chosen : goal.returns-clause-chosen
returns-clause-chosen g c apart ends =
    let contents = g.W.Write.contents in
    let ended = c.reclaim_for-ended in
    ended_so c.outcome_of.result ended.result c.outcome_of.ensures.done c.outcome_of.ensures.damaged g.D.PageDisk c.args.aim c.args.style c.args.core.now ended.new.core (contents c.args.writer.now) (contents ended.new.writer)
    (ended.ensures.left apart) (ended.ensures.chosen apart) ends

pub returns-clause-stopped : goal.returns-clause-stopped
returns-clause-stopped g c apart r is = was_refused _ c.reclaim_for-ended.result r (c.outcome_of.ensures.refused r is) (c.reclaim_for-ended.ensures.stopped apart)

pub returns-clause-readable_v2 : goal.returns-clause-readable_v2
returns-clause-readable_v2 g c together done =
    done_v2 c.outcome_of.result c.reclaim_for-ended.result c.outcome_of.ensures.done c.outcome_of.ensures.damaged g.D.PageDisk c.args.core.now (c.reclaim_for-ended.ensures.counted together) done

pub returns-clause-unreadable_v2 : goal.returns-clause-unreadable_v2
returns-clause-unreadable_v2 g c together damaged =
    damaged_v2 c.outcome_of.result c.reclaim_for-ended.result c.outcome_of.ensures.done c.outcome_of.ensures.damaged g.D.PageDisk c.args.core.now (c.reclaim_for-ended.ensures.counted together) damaged

pub returns-clause-readable : goal.returns-clause-readable
returns-clause-readable g c apart done =
    let contents = g.W.Write.contents in
    let ended = c.reclaim_for-ended in
    ended_readable c.outcome_of.result ended.result c.outcome_of.ensures.done c.outcome_of.ensures.damaged g.D.PageDisk c.args.aim c.args.style c.args.core.now ended.new.core (contents c.args.writer.now) (contents ended.new.writer)
    (ended.ensures.left apart) (ended.ensures.chosen apart) done

pub returns-clause-unreadable : goal.returns-clause-unreadable
returns-clause-unreadable g c apart damaged =
    let contents = g.W.Write.contents in
    let ended = c.reclaim_for-ended in
    ended_damaged c.outcome_of.result ended.result c.outcome_of.ensures.done c.outcome_of.ensures.damaged g.D.PageDisk c.args.aim c.args.style c.args.core.now ended.new.core (contents c.args.writer.now) (contents ended.new.writer)
    (ended.ensures.left apart) (ended.ensures.chosen apart) damaged
