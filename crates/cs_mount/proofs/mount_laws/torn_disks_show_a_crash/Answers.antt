use Rattle.std.proofs.Common.{◌∙◌, List, subst}
use Rattle.cs_twin.specs.declared.pairs.Pair.{Pair}
use Rattle.cs_twin.specs.Fences.{AreOverKnown, AreWrittenOnce}
use Rattle.cs_twin.specs.Pairs.{AreNoOlder}
use Rattle.cs_twin.proofs.Mixing.{tear_spoils}
use Rattle.cs_mount.specs.StorePairs.{store_pairs}
use Rattle.cs_mount.proofs.Torn.{known_of}
use Rattle.cs_mount.proofs.Unpaired.{torn_pairs_show}
use Rattle.cs_mount.proofs.mount_laws.torn_disks_show_a_crash.Goals as goal

pub returns : goal.returns
returns g c = λ p d image geometry twins pairs pages h sound once tear.
    let V = g.R.PageRules.version p.rules in
    let s = g.D.PageDisk.state p.disk in
    let right = p.right h in
    torn_pairs_show d geometry twins V p.pairs.items s image pairs (g.met.D.PageDisk.sized p.disk h ∙ pages) right.newer
    (tear_spoils V (store_pairs d) s image (subst (λ (l : List Pair). AreNoOlder V l s) pairs right.newer) (subst (λ (l : List Pair). AreOverKnown V l s) pairs (known_of V p.pairs.items s right.guarded (right.whole sound)))
    (subst (λ (l : List Pair). AreWrittenOnce l s) pairs once) tear)
