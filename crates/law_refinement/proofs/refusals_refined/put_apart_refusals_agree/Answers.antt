use Rattle.std.proofs.Common.{true}
use Rattle.law_refinement.proofs.refusals_refined.put_apart_refusals_agree.Goals as goal
use Rattle.law_refinement.proofs.RefusedPuts.{put_full_by, put_worn_by}

pub returns : goal.returns
returns c = record {
  full = λ x g i s id bytes on whole are. put_full_by x g i s whole are true on id bytes;
  worn = λ x g i s id bytes on whole are sound bounded. put_worn_by x g i s whole are true on sound bounded id bytes;
}
