use Rattle.cs_mount.proofs.section_laws.sections_may_change.Goals as goal
use Rattle.cs_mount.proofs.Resectioning.{damage_kept, resectioned}

pub returns-clause-same : goal.returns-clause-same
returns-clause-same c = λ S F img other n m found p g hidden agree sections living damage. resectioned S F img other n m found p g hidden agree sections living damage

pub returns-clause-damage : goal.returns-clause-damage
returns-clause-damage c = λ S F img n m found p g same. damage_kept S F img found.runs found.pointers found.generations p g same
