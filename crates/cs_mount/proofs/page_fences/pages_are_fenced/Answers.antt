use Rattle.cs_mount.proofs.Fenced.{fenced_page}
use Rattle.cs_mount.proofs.page_fences.pages_are_fenced.Goals as goal

pub returns : goal.returns
returns c = fenced_page
