use Rattle.law_refinement.proofs.moves_refined.staging_refines_staging.Goals as goal
use Rattle.law_refinement.proofs.Stagings.{one_section_needs, page_staged, version_staged, root_staged}

pub returns : goal.returns
returns c = record {
  page = λ S F s g p b d sound is needs. page_staged S s.world g sound.safe.staged (λ v has. (sound.safe.superblocks_below v has).1) sound.safe.pages_below is p b d needs;
  superblock = λ S F s g u d next sound is version els same needs. version_staged S s.world g sound.safe.staged (λ v has. (sound.safe.superblocks_below v has).1) sound.safe.pages_below is u d next version els same needs;
  root = λ S F s g r d next sound is version els same needs. root_staged S s.world g sound.safe.staged (λ v has. (sound.safe.superblocks_below v has).1) sound.safe.pages_below is r d next version els same needs;
  exact = λ S P staged element d z one are. one_section_needs S P staged element d z one are;
}
