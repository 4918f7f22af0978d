use Rattle.std.proofs.Common.{◌∙◌, ℕ, List, inr, refl, subst}
use Rattle.cs_disk.specs.Disk.{page, seen}
use Rattle.cs_frame.specs.FormatRuns.{SpellsRun}
use Rattle.cs_frame.specs.Frames.{payload_in}
use Rattle.cs_frame.specs.Runs.{entries_of as spelled_entries}
use Rattle.law_machine.specs.Format.{Format}
use Rattle.cs_salvage.specs.Runs.{HasNoRun}
use Rattle.cs_salvage.proofs.Noise.{header_marked, meant_in_front, none_in_front}
use Rattle.cs_salvage.proofs.rescued_runs.read_before_noise.Goals as goal

pub returns-in-Some-clause-read : goal.returns-in-Some-clause-read
returns-in-Some-clause-read g c = λ h.
    let image = seen (g.D.PageDisk.state c.args.disk.now) in
    let front = rw c.in-Ok-Some.field-0-is at (c.in-Ok-Some.ensures.pages h) in
    let run = rw c.in-Some.is at c.in_ok-run.ensures.run in
    let format = c.format.ensures.format ∙ c.geometry.ensures.format in
    let spelled = subst (λ (ps : List (List ℕ)). SpellsRun (payload_in ps) c.args.extents.now.format (spelled_entries c.in-Some.run'.entries.items)) c.deref.ensures.value
    (subst (λ (f : Format). SpellsRun (payload_in c.deref.result.now) f (spelled_entries c.in-Some.run'.entries.items)) format run.1) in
    meant_in_front c.args.extents.now (page image) c.args.place c.in-Ok-Some.pages.items front.front c.requires.located
    (header_marked c.args.extents.now.format c.args.place.mark _ c.in-Ok-Some.pages.items front) (spelled_entries c.in-Some.run'.entries.items) spelled

pub returns-clause-why : goal.returns-clause-why
returns-clause-why g c = λ h.
    let image = seen (g.D.PageDisk.state c.args.disk.now) in
    let front = rw c.in-Ok-Some.field-0-is at (c.in-Ok-Some.ensures.pages h) in
    let run = rw c.in-None.is at c.in_ok-run.ensures.run in
    let format = c.format.ensures.format ∙ c.geometry.ensures.format in
    let none = subst (λ (ps : List (List ℕ)). HasNoRun c.args.extents.now.format ps) c.deref.ensures.value (subst (λ (f : Format). HasNoRun f c.deref.result.now) format run) in
    inr (refl, none_in_front c.args.extents.now (page image) c.args.place c.in-Ok-Some.pages.items front.front none)
