use Rattle.cs_salvage.proofs.Pages.{found_there, lies_there}
use Rattle.cs_salvage.proofs.salvage_laws.what_is_found_lies_there.Goals as goal

pub returns-clause-there : goal.returns-clause-there
returns-clause-there c = lies_there

pub returns-clause-found : goal.returns-clause-found
returns-clause-found c = found_there
