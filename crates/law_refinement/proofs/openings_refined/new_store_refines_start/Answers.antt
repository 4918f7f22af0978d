use Rattle.law_refinement.proofs.openings_refined.new_store_refines_start.Goals as goal
use Rattle.law_refinement.proofs.StartedNew.{new_started, written_started}

pub returns : goal.returns
returns c = record {
  written = λ old writes format extents pages sections limit geometry enough superblocks root. written_started old writes format extents pages sections limit geometry enough superblocks root;
  image = λ image format extents pages sections limit geometry superblocks root. new_started image format extents pages sections limit geometry superblocks root;
}
