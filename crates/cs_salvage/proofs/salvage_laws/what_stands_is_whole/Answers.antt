use Rattle.cs_salvage.proofs.Wholes.{is_whole}
use Rattle.cs_salvage.proofs.salvage_laws.what_stands_is_whole.Goals as goal

pub returns : goal.returns
returns c = λ sought image parts put bytes payloads heads fits id small short are frames only all. is_whole sought image put bytes payloads are small fits heads id short frames only parts all
