use Rattle.cs_frame.proofs.GeometryLaws.{geometry_apart, lengths_sum, model_geometry, section_holds, section_inside}
use Rattle.cs_frame.proofs.format_laws.sections_have_all_extents.Goals as goal

pub returns-clause-holds : goal.returns-clause-holds
returns-clause-holds c = λ format extents pages sections e j g lt. section_holds format extents pages sections g e j lt

pub returns-clause-inside : goal.returns-clause-inside
returns-clause-inside c = λ format extents pages sections e g lt. section_inside format extents pages sections g e lt

pub returns-clause-lengths : goal.returns-clause-lengths
returns-clause-lengths c = lengths_sum

pub returns-clause-model : goal.returns-clause-model
returns-clause-model c = model_geometry

pub returns-clause-apart : goal.returns-clause-apart
returns-clause-apart c = geometry_apart
