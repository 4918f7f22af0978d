use Rattle.std.proofs.Common.{◌∙◌, ap, inl, inr, refl, subst, sym}
use Rattle.cs_core.specs.Views.{View}
use Rattle.cs_disk.specs.Disk.{Leaves}
use Rattle.cs_refusal.specs.declared.refusals.Refusal.{Refusal}
use Rattle.cs_writeback.proofs.Runs.{ran_none}
use Rattle.cs_store.specs.Errors.{put_refusal}
use Rattle.cs_store.specs.Reserves.{RefusesPut}
use Rattle.cs_store.proofs.Reserving.{halted_put, puts_so}
use Rattle.cs_store.proofs.Running.{Left, ran_leaves, ran_rises}
use Rattle.cs_store.proofs.stores.Store.put_within.Goals as goal

pub returns-then-is_halted-clause-refused : goal.returns-then-is_halted-clause-refused
returns-then-is_halted-clause-refused g c = rw (← c.self.view_is) (halted_put g.D.PageDisk c.args.id c.args.bytes.now c.self.inside.core (sym c.is_halted.ensures ∙ c.if-is_halted.true))

pub returns-then-is_halted-clause-crash : goal.returns-then-is_halted-clause-crash
returns-then-is_halted-clause-crash g c = rw (← c.self.view_is) (λ honest.
    let s = c.progress.ensures.legal honest in
    ran_leaves g.D.PageDisk c.self.inside.core c.self.inside.core s.0 honest s.1 (c.progress.ensures.left honest) (λ image since. g.met.D.PageDisk.only_now c.self.inside.core.disk image honest since) (ran_none g.D.PageDisk c.self.inside.core))

pub returns-then-is_halted-clause-left : goal.returns-then-is_halted-clause-left
returns-then-is_halted-clause-left g c =
    subst (λ (v : View g.row.D.Denot). g.D.PageDisk.honest v.disk → Leaves (g.D.PageDisk.state v.disk) (Left v v)) c.self.view_is c.progress.ensures.left

pub returns-in-Ok-clause-done : goal.returns-in-Ok-clause-done
returns-in-Ok-clause-done g c = rw (← c.self.view_is) (puts_so g.D.PageDisk c.args.reserve c.self.inside.core c.args.id c.args.bytes.now c.in-Ok.number c.put_by-put.new.core c.in-Ok.ensures.within)

pub returns-in-Ok-clause-within : goal.returns-in-Ok-clause-within
returns-in-Ok-clause-within g c = rw (← c.self.view_is) c.in-Ok.ensures.within

pub returns-in-Ok-clause-number : goal.returns-in-Ok-clause-number
returns-in-Ok-clause-number g c = rw (← c.self.view_is) c.in-Ok.ensures.number

pub returns-in-Ok-clause-rises : goal.returns-in-Ok-clause-rises
returns-in-Ok-clause-rises g c = rw (← c.self.view_is) (ran_rises g.D.PageDisk c.self.inside.core c.put_by-put.new.core c.put_by-put.ensures.ran)

pub returns-in-Ok-clause-crash : goal.returns-in-Ok-clause-crash
returns-in-Ok-clause-crash g c = rw (← c.self.view_is) (λ honest.
    let s = c.progress.ensures.legal honest in
    ran_leaves g.D.PageDisk c.self.inside.core c.put_by-put.new.core s.0 honest s.1 (c.progress.ensures.left honest) (λ image since. g.met.D.PageDisk.only_now c.self.inside.core.disk image honest since) c.put_by-put.ensures.ran)

pub returns-in-Err-clause-refused : goal.returns-in-Err-clause-refused
returns-in-Err-clause-refused g c = rw (← c.self.view_is)
    (subst (λ (r : Refusal). RefusesPut g.D.PageDisk c.self.inside.core c.args.id c.args.bytes.now r c.put_by-put.new.core) (sym c.of.ensures) c.in-Err.ensures.refused)

pub returns-in-Err-clause-reserved : goal.returns-in-Err-clause-reserved
returns-in-Err-clause-reserved g c = rw (← c.self.view_is) (λ is. (c.in-Err.ensures.reserved (sym c.of.ensures ∙ ap put_refusal is)).0)

pub returns-in-Err-clause-kept : goal.returns-in-Err-clause-kept
returns-in-Err-clause-kept g c = rw (← c.self.view_is) (λ is. (c.in-Err.ensures.reserved (sym c.of.ensures ∙ ap put_refusal is)).1)

pub returns-in-Err-clause-full : goal.returns-in-Err-clause-full
returns-in-Err-clause-full g c = rw (← c.self.view_is) (λ honest full. c.in-Err.ensures.full honest (sym c.of.ensures ∙ ap put_refusal full))

pub returns-in-Err-clause-rises : goal.returns-in-Err-clause-rises
returns-in-Err-clause-rises g c = rw (← c.self.view_is) (ran_rises g.D.PageDisk c.self.inside.core c.put_by-put.new.core c.put_by-put.ensures.ran)

pub returns-in-Err-clause-crash : goal.returns-in-Err-clause-crash
returns-in-Err-clause-crash g c = rw (← c.self.view_is) (λ honest.
    let s = c.progress.ensures.legal honest in
    ran_leaves g.D.PageDisk c.self.inside.core c.put_by-put.new.core s.0 honest s.1 (c.progress.ensures.left honest) (λ image since. g.met.D.PageDisk.only_now c.self.inside.core.disk image honest since) c.put_by-put.ensures.ran)
