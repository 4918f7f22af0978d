use Rattle.std.proofs.Common.{subst}
use Rattle.cs_disk.specs.Disk.{seen}
use Rattle.cs_salvage.specs.Parts.{IsPart}
use Rattle.cs_salvage.specs.declared.parts.Part.{Part}
use Rattle.cs_salvage.proofs.Meaning.{meant_by}
use Rattle.cs_salvage.proofs.Sames.{parts_differ, parts_same, same_part}
use Rattle.cs_salvage.proofs.parts.payload_of.Goals as goal

pub returns-then-eq-clause-payload : goal.returns-then-eq-clause-payload
returns-then-eq-clause-payload g c = λ h.
    let it = rw c.in-Ok-Some.field-0-is at (c.in-Ok-Some.ensures.part h) in
    subst (λ (p : Part). IsPart c.args.sought.now (seen (g.D.PageDisk.state c.args.disk.now)) p c.in-Ok-Some.found.payload.items) (parts_same c.in-Ok-Some.found.part c.args.part c.if-eq.ensures) it

pub returns-else-eq-clause-payload : goal.returns-else-eq-clause-payload
returns-else-eq-clause-payload g c = λ h payload is.
    let it = rw c.in-Ok-Some.field-0-is at (c.in-Ok-Some.ensures.part h) in
    let place = rw c.in-Ok-Some.field-0-is at c.in-Ok-Some.ensures.place in
    parts_differ c.in-Ok-Some.found.part c.args.part c.if-eq.ensures
    (same_part c.args.sought.now (seen (g.D.PageDisk.state c.args.disk.now)) c.part_at.ensures.known c.in-Ok-Some.found.part c.args.part place.0 place.1 c.in-Ok-Some.found.payload.items payload it is)

pub returns-then-eq-clause-meant : goal.returns-then-eq-clause-meant
returns-then-eq-clause-meant g c =
    let it = rw c.in-Ok-Some.field-0-is at c.in-Ok-Some.ensures.spelled in
    meant_by c.in-Ok-Some.found.part c.args.part c.in-Ok-Some.found.payload.items (parts_same c.in-Ok-Some.found.part c.args.part c.if-eq.ensures) it
