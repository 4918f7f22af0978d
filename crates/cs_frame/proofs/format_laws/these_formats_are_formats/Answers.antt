use Rattle.cs_frame.proofs.FormatLaws.{is_format}
use Rattle.cs_frame.proofs.NamedRuns.{id_in_16, id_of_16}
use Rattle.cs_frame.proofs.format_laws.these_formats_are_formats.Goals as goal

pub returns-clause-formats : goal.returns-clause-formats
returns-clause-formats c = is_format

pub returns-clause-identifier : goal.returns-clause-identifier
returns-clause-identifier c = id_in_16

pub returns-clause-identifier_number : goal.returns-clause-identifier_number
returns-clause-identifier_number c = id_of_16
