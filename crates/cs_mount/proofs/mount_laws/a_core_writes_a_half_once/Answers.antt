use Rattle.std.proofs.Common.{List, ap, subst, sym, ◌∙◌}
use Rattle.cs_twin.specs.declared.pairs.Pair.{Pair}
use Rattle.cs_twin.specs.Fences.{AreWhole, AreWrittenOnce}
use Rattle.cs_twin.specs.Pairs.{shown_state}
use Rattle.cs_mount.specs.StorePairs.{store_version}
use Rattle.cs_mount.specs.Torn.{dimensions_of}
use Rattle.cs_mount.proofs.Once.{core_once, core_whole}
use Rattle.cs_mount.proofs.mount_laws.a_core_writes_a_half_once.Goals as goal

pub returns-clause-once : goal.returns-clause-once
returns-clause-once g c = λ honest twins its.
    let v = c.args.core.now in
    let V = store_version v.disk.rules.geometry in
    let s = g.D.PageDisk.state v.disk.disk in
    let is = c.progress.ensures.core.legal honest in
    let issued = sym (ap (λ (l : List Pair). (shown_state V l s).volatile) its) ∙ is.1.disk.volatile in
    subst (λ (l : List Pair). AreWrittenOnce l s) (sym its) (core_once (dimensions_of v.store.extents) c.progress.ensures.whole.geometry twins is.0 is.1.store.sound V s issued)

pub returns-clause-whole : goal.returns-clause-whole
returns-clause-whole g c = λ honest twins its.
    let v = c.args.core.now in
    let V = store_version v.disk.rules.geometry in
    let s = g.D.PageDisk.state v.disk.disk in
    let is = c.progress.ensures.core.legal honest in
    let issued = sym (ap (λ (l : List Pair). (shown_state V l s).volatile) its) ∙ is.1.disk.volatile in
    subst (λ (l : List Pair). AreWhole V l s) (sym its) (core_whole (dimensions_of v.store.extents) c.progress.ensures.whole.geometry twins is.0 is.1.store.sound V s issued)
