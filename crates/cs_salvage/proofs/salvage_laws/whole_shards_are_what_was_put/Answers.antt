use Rattle.cs_salvage.proofs.Putting.{is_put}
use Rattle.cs_salvage.proofs.salvage_laws.whole_shards_are_what_was_put.Goals as goal

pub returns : goal.returns
returns c = λ sought image parts pieces put bytes payloads read known are only all zip. is_put sought image put bytes payloads are known only parts pieces read all zip
