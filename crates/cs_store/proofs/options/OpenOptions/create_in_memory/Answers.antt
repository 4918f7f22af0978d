use Rattle.std.proofs.Common.{None, [], ap, replicate, subst}
use Rattle.cs_core.specs.Started.{IsNewOn}
use Rattle.cs_frame.specs.Geometries.{Dimensions}
use Rattle.cs_mount.specs.StorePairs.{pages_of}
use Rattle.cs_twin.specs.Paired.{state_shown}
use Rattle.cs_store.specs.Opening.{Opening}
use Rattle.cs_store.proofs.Maps.{made_map}
use Rattle.cs_store.proofs.options.OpenOptions.create_in_memory.Goals as goal

pub returns-in-Ok-clause-map : goal.returns-in-Ok-clause-map
returns-in-Ok-clause-map c =
    let e = c.in-Ok.ensures in
    made_map c.in-Ok.core (λ id. None) e.found e.new.0 e.start

pub returns-in-Ok-clause-written : goal.returns-in-Ok-clause-written
returns-in-Ok-clause-written c =
    subst (λ (d : Dimensions). IsNewOn d.format d.extents d.pages d.sections (record { durable = replicate (pages_of d) (replicate 4096 0); volatile = [] }) (state_shown c.in-Ok.core.disk))
    (ap (λ (o : Opening). o.geometry) c.self.view_is) c.in-Ok.ensures.written
