use Rattle.std.proofs.Common.{◌≡◌, ◌⊎◌, IfErr, IfOk, inl, inr, refl, subst}
use Rattle.cs_chunk.specs.Reads.{IsNoAnswer}
use Rattle.cs_disk.proofs.OnlyRead.{reads_on}
use Rattle.cs_disk.specs.Disk.{State, page, seen}
use Rattle.cs_frame.specs.Runs.{entries_of as spelled_entries}
use Rattle.cs_reader.specs.Openings.{IsWhyNotRead}
use Rattle.cs_refusal.specs.declared.refusals.Refusal.{Refusal}
use Rattle.cs_refusal.specs.declared.refusals.Refusal.TheVariants.{BadPadding}
use Rattle.cs_salvage.specs.Runs.{HasMeantRun, NoneBeforeNoise}
use Rattle.cs_salvage.proofs.Noise.{none_again, none_otherwise, read_again}
use Rattle.cs_salvage.proofs.rescued_runs.read_located.Goals as goal

pub returns-then-not-is_located-clause-why : goal.returns-then-not-is_located-clause-why
returns-then-not-is_located-clause-why g c = λ h. inr ((λ entries noise. c.if-not-is_located.ensures noise.run.located), inl (c.if-not-is_located.ensures, refl))

pub returns-then-not-is_padding-clause-why : goal.returns-then-not-is_padding-clause-why
returns-then-not-is_padding-clause-why g c = λ h.
    none_otherwise c.args.extents.now c.extent_count.ensures.whole (page (seen (g.D.PageDisk.state c.args.disk.now))) c.args.place c.if-not-is_located.ensures c.in-Err.refusal c.if-not-is_padding.ensures (c.in-Err.ensures.why h)

pub returns-clause-read : goal.returns-clause-read
returns-clause-read g c = λ h.
    let same = c.read_run.ensures.disk.same h in
    let why = subst (λ (r : Refusal). IsNoAnswer r ⊎ IsWhyNotRead c.args.extents.now (page (seen (g.D.PageDisk.state c.args.disk.now))) c.args.place r) c.if-not-is_padding.ensures (c.in-Err.ensures.why h) in
    let read = subst (λ (s : State). IfOk c.read_before_noise.result (λ run. HasMeantRun c.args.extents.now (page (seen s)) c.args.place (spelled_entries run.entries.items))) same (c.read_before_noise.ensures.read (c.read_run.ensures.disk.honesty.0 h)) in
    read_again c.args.extents.now c.extent_count.ensures.whole (page (seen (g.D.PageDisk.state c.args.disk.now))) c.args.place c.if-not-is_located.ensures why c.read_before_noise.result read c.read_before_noise.ensures.place

pub returns-clause-why : goal.returns-clause-why
returns-clause-why g c = λ h.
    let same = c.read_run.ensures.disk.same h in
    let why = subst (λ (r : Refusal). IsNoAnswer r ⊎ IsWhyNotRead c.args.extents.now (page (seen (g.D.PageDisk.state c.args.disk.now))) c.args.place r) c.if-not-is_padding.ensures (c.in-Err.ensures.why h) in
    let none = subst (λ (s : State). IfErr c.read_before_noise.result (λ r. IsNoAnswer r ⊎ ((r ≡ BadPadding) × NoneBeforeNoise c.args.extents.now (page (seen s)) c.args.place))) same (c.read_before_noise.ensures.why (c.read_run.ensures.disk.honesty.0 h)) in
    none_again c.args.extents.now c.extent_count.ensures.whole (page (seen (g.D.PageDisk.state c.args.disk.now))) c.args.place c.if-not-is_located.ensures why c.read_before_noise.result none

pub returns-clause-disk : goal.returns-clause-disk
returns-clause-disk g c = reads_on g.D.PageDisk c.args.disk.now c.read_run.new.disk c.read_before_noise.new.disk c.read_run.ensures.disk c.read_before_noise.ensures.disk
