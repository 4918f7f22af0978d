use Rattle.std.proofs.Common.{ap, inr, subst, sym, ⊎_elim, ◌∙◌, ◌<◌, Err}
use Rattle.std.specs.List.{AllByRecursion}
use Rattle.cs_disk.specs.Disk.{page, seen}
use Rattle.cs_frame.specs.Runs.{IsRun}
use Rattle.cs_index.specs.State.{index_of, newest_first}
use Rattle.law_machine.specs.Format.{Format}
use Rattle.law_machine.specs.Geometry.{weigh_in}
use Rattle.law_machine.specs.Index.{entries_of, named_weight}
use Rattle.cs_mount.proofs.MadeListed.{adds_named}
use Rattle.cs_mount.proofs.MadeWhy.{not_heavy}
use Rattle.cs_mount.proofs.lost_sections.read_named.Goals as goal

pub returns-in_ok-add_live-in-Ok-load-clause-named : goal.returns-in_ok-add_live-in-Ok-load-clause-named
returns-in_ok-add_live-in-Ok-load-clause-named g c = λ h.
    let listed = c.in-Ok.ensures.listed ∙ c.deref.ensures.value in
    record {
      runs = c.in-Ok.runs.items;
      listed = listed;
      read = c.in-Ok.ensures.read h;
      are_named = adds_named c.in-Ok.runs.items c.args.places.items _ _ (ap index_of c.in-Ok-load.ensures.loaded) listed c.in_ok-add_live-in-Ok-load.ensures;
    }

pub load-requires-clause-runs : goal.load-requires-clause-runs
load-requires-clause-runs g c = subst (λ (f : Format). AllByRecursion (λ run. IsRun f (record { entries = run.entries })) c.in-Ok.runs.items) (sym c.format.ensures.format) c.in-Ok.ensures.runs

pub returns-in-Err-clause-why : goal.returns-in-Err-clause-why
returns-in-Err-clause-why g c = λ h view n m found frames listed. c.in-Err.ensures.why h view n m found frames (listed ∙ sym c.deref.ensures.value)

pub returns-in-Err-load-clause-why : goal.returns-in-Err-load-clause-why
returns-in-Err-load-clause-why g c = λ h view n m found frames listed.
    ⊎_elim (λ store. absurd (not_heavy c.args.geometry c.extents.ensures.geometry view (page (seen (g.D.PageDisk.state c.args.disk.now))) n m found frames c.in-Ok.runs.items (listed ∙ sym (c.in-Ok.ensures.listed ∙ c.deref.ensures.value)) (c.in-Ok.ensures.read h) c.most_weight.result c.most_weight.ensures
    (subst (λ (f : Format). c.most_weight.result < named_weight (weigh_in f) (entries_of (newest_first c.in-Ok.runs.items))) c.format.ensures.format (c.load.ensures.full.0 (c.in-Err-load.is ∙ ap Err store)))))
    (λ memory. inr memory) c.in-Err-load.ensures.refusals
