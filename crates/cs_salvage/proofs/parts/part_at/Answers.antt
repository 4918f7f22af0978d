use Rattle.std.proofs.Common.{◌≡◌}
use Rattle.cs_disk.specs.Disk.{seen}
use Rattle.cs_salvage.specs.declared.parts.FoundPart.{FoundPart}
use Rattle.cs_salvage.specs.Frames.{IsSpelled}
use Rattle.cs_salvage.proofs.Searching.{kept, none_at, sought_at, taken_all}
use Rattle.cs_salvage.proofs.parts.part_at.Goals as goal

pub if_sought-requires : goal.if_sought-requires
if_sought-requires g c = rw c.in-Ok-Some.field-0-is at c.in-Ok-Some.ensures.heads

pub returns-in-Ok-Some-clause-part : goal.returns-in-Ok-Some-clause-part
returns-in-Ok-Some-clause-part g c = λ h.
    let it = rw c.in-Ok-Some.field-0-is at (c.in-Ok-Some.ensures.part h) in
    let place = rw c.in-Ok-Some.field-0-is at c.in-Ok-Some.ensures.place in
    sought_at c.args.sought.now (seen (g.D.PageDisk.state c.args.disk.now)) c.args.extent c.args.page c.any_part_at.ensures.known c.in-Ok-Some.found it place c.if_sought.result c.if_sought.ensures

pub returns-in-Ok-None-clause-part : goal.returns-in-Ok-None-clause-part
returns-in-Ok-None-clause-part g c = λ h.
    none_at c.args.sought.now (seen (g.D.PageDisk.state c.args.disk.now)) c.args.extent c.args.page (rw c.in-Ok-None.field-0-is at (c.in-Ok-None.ensures.part h))

pub returns-in-Ok-Some-clause-spelled : goal.returns-in-Ok-Some-clause-spelled
returns-in-Ok-Some-clause-spelled g c =
    kept c.args.sought.now c.in-Ok-Some.found (λ (it : FoundPart). IsSpelled it.part it.payload.items) (rw c.in-Ok-Some.field-0-is at c.in-Ok-Some.ensures.spelled) c.if_sought.result c.if_sought.ensures

pub returns-in-Ok-Some-clause-taken : goal.returns-in-Ok-Some-clause-taken
returns-in-Ok-Some-clause-taken g c = taken_all c.args.sought.now c.in-Ok-Some.found c.if_sought.result c.if_sought.ensures

pub returns-in-Ok-Some-clause-place : goal.returns-in-Ok-Some-clause-place
returns-in-Ok-Some-clause-place g c =
    kept c.args.sought.now c.in-Ok-Some.found (λ (it : FoundPart). (it.part.extent ≡ c.args.extent) × (it.part.page ≡ c.args.page)) (rw c.in-Ok-Some.field-0-is at c.in-Ok-Some.ensures.place) c.if_sought.result c.if_sought.ensures
