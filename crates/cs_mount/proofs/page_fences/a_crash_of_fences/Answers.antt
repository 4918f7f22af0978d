use Rattle.cs_mount.proofs.Fenced.{crash_fenced}
use Rattle.cs_mount.proofs.page_fences.a_crash_of_fences.Goals as goal

pub returns : goal.returns
returns c = crash_fenced
