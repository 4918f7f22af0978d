use Rattle.cs_disk.specs.Disk.{seen}
use Rattle.cs_frame.specs.Geometries.{section_size}
use Rattle.law_machine.specs.Geometry.{shape_of}
use Rattle.cs_mount.specs.Showing.{shown_on}
use Rattle.cs_store.proofs.Maps.{opened_map}
use Rattle.cs_store.proofs.options.OpenOptions.open.Goals as goal

pub returns-in-Ok-clause-recovers : goal.returns-in-Ok-clause-recovers
returns-in-Ok-clause-recovers g c = λ honest one format extents pages sections geometry size n m recovers.
    let D = g.D.PageDisk in
    let e = c.in-Ok.ensures in
    let read = e.recovers honest one format extents pages sections geometry size n m recovers in (
      read.0,
      read.1,
      read.2,
      opened_map c.in-Ok.core (shape_of extents pages sections (section_size extents sections) format) (shown_on (D.page_count c.args.disk) (seen (D.state c.args.disk))) n m read.0 (e.image honest).0 read.1 e.new.0 recovers,
    )
