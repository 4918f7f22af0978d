-- A store at rest.
use Rattle.std.proofs.Common.{◌≡◌, ◌∙◌, []}
use Rattle.cs_extent.specs.State.{shape}
use Rattle.cs_frame.specs.Formats.{formats_of}
use Rattle.law_machine.proofs.Waiting.{all_done}
use Rattle.law_machine.specs.State.{State}
use Rattle.law_refinement.proofs.Indexes.{none_too}
use Rattle.law_refinement.proofs.RoundsOut.{nothing}
use Rattle.cs_core.specs.States.{IsStateOf}
use Rattle.cs_core.specs.Stored.{Stored}

pub at_rest : (v : Stored) (s : State) → IsStateOf v s → v.graph.staging.pending.waiting ≡ [] → v.index.table ≡ [] → v.frontier ≡ v.accepted
at_rest v s is waits table =
    all_done (shape v.extents) (formats_of (shape v.extents)) s v.frontier is.sound
    ((nothing (shape v.extents) (formats_of (shape v.extents)) v.graph s is.sound is.parts.world.staging.pending).0 waits)
    (none_too v.index.table s.table is.parts.index.lookups table) is.frontier ∙ is.accepted
