use Rattle.std.proofs.Common.{◌≡◌, ◌∙◌, List, ap, length, sym}
use Rattle.std.proofs.lemmas.List.{length-map}
use Rattle.cs_node.specs.declared.jobs.Slot.{Slot}
use Rattle.cs_node.specs.declared.jobs.Slot.TheVariants.{Job}
use Rattle.cs_node.proofs.Given.{all_done, gave_all, gives_all, written}
use Rattle.cs_node.proofs.jobs.all.Goals as goal

pub given-requires-clause-gave : goal.given-requires-clause-gave
given-requires-clause-gave g c =
    let jobs : List g.row.J.Denot = c.args.jobs.items in
    let old : List (Slot g.row.J.Denot g.row.J-Out.Denot) = c.waiting-slots.result.items in
    let new : List (Slot g.row.J.Denot g.row.J-Out.Denot) = c.do_each.new.slots in
    let same : length new ≡ length old = c.do_each.auto.slots ∙ ap length c.deref_mut.ensures.value in
    let long : length old ≡ length jobs = ap length c.waiting-slots.ensures ∙ length-map {B = Slot g.row.J.Denot g.row.J-Out.Denot} jobs Job in
    let done = all_done g.J.Job.gives jobs c.deref_mut.result.now new (c.deref_mut.ensures.value ∙ c.waiting-slots.ensures) c.do_each.ensures in
    rw (written old new c.waiting-slots.result.len c.waiting-slots.result.ok.0 same) (gave_all g.J.Job.gives jobs new (same ∙ long) done)

pub returns-clause-gives : goal.returns-clause-gives
returns-clause-gives g c =
    let jobs : List g.row.J.Denot = c.args.jobs.items in
    let old : List (Slot g.row.J.Denot g.row.J-Out.Denot) = c.waiting-slots.result.items in
    let new : List (Slot g.row.J.Denot g.row.J-Out.Denot) = c.do_each.new.slots in
    let same : length new ≡ length old = c.do_each.auto.slots ∙ ap length c.deref_mut.ensures.value in
    let long : length old ≡ length jobs = ap length c.waiting-slots.ensures ∙ length-map {B = Slot g.row.J.Denot g.row.J-Out.Denot} jobs Job in
    let done = all_done g.J.Job.gives jobs c.deref_mut.result.now new (c.deref_mut.ensures.value ∙ c.waiting-slots.ensures) c.do_each.ensures in
    gives_all g.J.Job.gives jobs new c.given.result.items (same ∙ long) done (sym (written old new c.waiting-slots.result.len c.waiting-slots.result.ok.0 same) ∙ c.given.ensures)
