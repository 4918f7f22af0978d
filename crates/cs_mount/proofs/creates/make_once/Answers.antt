use Rattle.std.proofs.Common.{Some, ap, subst, sym, ◌∙◌}
use Rattle.cs_core.specs.Started.{IsNewOn}
use Rattle.cs_disk.specs.Disk.{Rises, State, seen}
use Rattle.cs_mount.specs.declared.store_pairs.StoreRules.{StoreRules}
use Rattle.cs_twin.specs.Paired.{state_shown}
use Rattle.cs_mount.specs.StorePairs.{store_pairs, store_version}
use Rattle.cs_mount.proofs.Mounting.{shown_behind}
use Rattle.cs_mount.proofs.Making.{caused_below, takes_behind, takes_root, takes_section}
use Rattle.cs_mount.proofs.creates.make_once.Goals as goal

pub returns-in-Ok-format-clause-written : goal.returns-in-Ok-format-clause-written
returns-in-Ok-format-clause-written g c = λ h.
    let D = g.D.PageDisk in
    let d = c.args.geometry in
    let paired = c.in-Ok.paired in
    let rules : StoreRules = record { alloc = c.options.inside.alloc; geometry = Some d } in
    subst (λ (s : State). IsNewOn d.format d.extents d.pages d.sections s (state_shown c.in-Ok-format.core.disk))
    (shown_behind (λ (r : StoreRules). store_version r.geometry) paired.rules rules (D.state paired.disk) (D.state c.args.disk) paired.pairs.items (store_pairs d) c.in-Ok.ensures.rules (c.in-Ok.ensures.pairs ∙ c.requires.pairs) (c.in-Ok.ensures.state h))
    (c.in-Ok-format.ensures.written (c.in-Ok.ensures.honest.0 h))

pub returns-in-Ok-format-clause-start : goal.returns-in-Ok-format-clause-start
returns-in-Ok-format-clause-start g c = λ h. c.in-Ok-format.ensures.start (c.in-Ok.ensures.honest.0 h)

pub returns-in-Err-format-clause-cause : goal.returns-in-Err-format-clause-cause
returns-in-Err-format-clause-cause g c = λ h is.
    let D = g.D.PageDisk in
    let d = c.args.geometry in
    let image = seen (D.state c.args.disk) in
    let paired = c.in-Ok.paired in
    let refused = c.in-Err-format.paired in
    let its = ap (λ (r : StoreRules). r.geometry) c.in-Ok.ensures.rules in
    let are = c.in-Ok.ensures.pairs ∙ c.requires.pairs in
    let same = ap seen (c.in-Ok.ensures.state h) in
    let unrefused = c.in-Err-format.ensures.taken (c.in-Ok.ensures.honest.0 h) c.in-Ok.ensures.sound (record {
      of_section = λ j bytes from few spelled. takes_behind d paired.rules.geometry paired.pairs.items image (seen (D.state paired.disk)) _ bytes its are same (takes_section d c.requires.geometry image c.requires.single j bytes _ few spelled);
      of_root = λ bytes spelled. takes_behind d paired.rules.geometry paired.pairs.items image (seen (D.state paired.disk)) 1 bytes its are same (takes_root d c.requires.geometry image c.requires.single bytes);
    }) in
    subst (λ below. Rises (D.failure_count c.args.disk) (D.failure_count below)) (sym c.into_disk.ensures)
    (caused_below (D.failure_count c.args.disk) (D.failure_count paired.disk) (D.failure_count refused.disk) paired.notes.refused refused.notes.refused c.in-Ok.ensures.failures c.in-Ok.ensures.refusals unrefused (c.in-Err-format.ensures.cause is))
