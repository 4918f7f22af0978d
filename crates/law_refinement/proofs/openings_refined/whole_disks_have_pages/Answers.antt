use Rattle.law_refinement.proofs.openings_refined.whole_disks_have_pages.Goals as goal
use Rattle.law_refinement.proofs.Started.{left_pages, seen_pages}

pub returns : goal.returns
returns c = record {
  seen = λ disk count whole enough. seen_pages disk count whole enough;
  left = λ disk image count whole may enough. left_pages disk image count whole may enough;
}
