use Rattle.cs_mount.proofs.MadeLaw.{made_gives}
use Rattle.cs_mount.proofs.made_laws.made_sections_give_the_map.Goals as goal

pub returns : goal.returns
returns c = λ d image writes g twins long whole before done view n m found others. made_gives d g twins image long before whole writes done view n m found others
