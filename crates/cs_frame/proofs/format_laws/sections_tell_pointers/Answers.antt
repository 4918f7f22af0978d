use Rattle.std.proofs.Common.{arith}
use Rattle.law_machine.specs.Geometry.{shape_of}
use Rattle.cs_frame.specs.Geometries.{section_size}
use Rattle.cs_frame.proofs.GeometryLaws.{bounds}
use Rattle.cs_frame.proofs.TellingLaws.{tells}
use Rattle.cs_frame.proofs.format_laws.sections_tell_pointers.Goals as goal

pub returns : goal.returns
returns c = λ extents pages sections format geometry f k j v w r s p g q h fits also same e lt at.
    tells (shape_of extents pages sections (section_size extents sections) format) geometry.fits_format (omega (arith, (bounds format extents pages sections geometry).most_pages))
    (omega arith) j p g q h fits also f k v w r s same e lt at
