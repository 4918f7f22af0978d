use Rattle.std.proofs.Common.{◌≡◌, ◌∙◌, Option, ap, inl, inr, refl, subst}
use Rattle.cs_core.specs.Views.{View}
use Rattle.cs_core.specs.declared.events.Event.{Event}
use Rattle.cs_disk.specs.declared.disk.PageDisk.{Ghosts as PageDisk}
use Rattle.cs_extent.specs.State.{State as Extents, shape}
use Rattle.cs_node.specs.Sweeps.{Finds, Reclaiming, after_event}
use Rattle.cs_node.proofs.Sweeping.{refused_so}
use Rattle.cs_node.proofs.locked.Engine.sweep.Goals as goal

-- what was found, where it is known
found_as : {D : Type 0} (disks : PageDisk D) (old new : View D) (was is : Reclaiming) (found known : Option Event) → found ≡ known
    → Finds disks old was found new is → Finds disks old was known new is
found_as disks old new was is found known same finds = subst (λ (o : Option Event). Finds disks old was o new is) same finds

pub returns-in_default : goal.returns-in_default
returns-in_default g c = record { turn = inr (refl, c.in_default.ensures.memory.0, c.in_default.ensures.memory.1) }

pub returns-in_default-found : goal.returns-in_default-found
returns-in_default-found g c =
    let found = found_as g.D.PageDisk c.args.self.now.core c.next_event.new.self.core c.args.reclaimer.now c.next_event.new.reclaimer _ _ c.in_default-found.is c.in-Ok.ensures.found in
    record { turn = inl (refl, found) }

pub returns-in-Ok-work : goal.returns-in-Ok-work
returns-in-Ok-work g c =
    let found = found_as g.D.PageDisk c.args.self.now.core c.next_event.new.self.core c.args.reclaimer.now c.next_event.new.reclaimer _ _ c.in-Some.is c.in-Ok.ensures.found in
    record {
      turn = inr (
        c.next_event.new.self.core,
        c.in-Some.event,
        c.in-Ok-work.reply,
        c.step_of.ensures,
        found.0,
        c.in-Ok-work.ensures.step,
        c.in-Ok-work.ensures.done,
        c.go_on.ensures ∙ ap (λ (w : Reclaiming). after_event w c.in-Some.event c.in-Ok-work.reply) found.1,
      );
    }

pub returns : goal.returns
returns g c =
    let found = found_as g.D.PageDisk c.args.self.now.core c.next_event.new.self.core c.args.reclaimer.now c.next_event.new.reclaimer _ _ c.in-Some.is c.in-Ok.ensures.found in
    let apart = c.is_apart-apart.ensures ∙ ap (λ (x : Extents). (shape x).apart) c.extents.ensures
    ∙ ap (λ (v : View g.row.D.Denot). (shape v.store.extents).apart) c.core.ensures.core in
    record {
      turn = inl (
        c.next_event.new.self.core,
        c.in-Some.event,
        found.0,
        c.in-Err.ensures.refused,
        refused_so c.is_apart-apart.result _ c.args.reclaimer.now c.next_event.new.reclaimer _ c.in-Some.event c.in-Err.refusal c.go_on_refused.ensures apart found.1,
      );
    }
