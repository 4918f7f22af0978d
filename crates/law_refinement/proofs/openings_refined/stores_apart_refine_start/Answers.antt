use Rattle.law_refinement.proofs.openings_refined.stores_apart_refine_start.Goals as goal
use Rattle.law_refinement.proofs.StartedApart.{read_started, started}

pub returns : goal.returns
returns c = record {
  found = λ x y image versions root format limit n runs m found on whole as_found freed.
      started x y image versions root format limit n runs m found on whole as_found freed.same_shape freed.freed;
  read = λ image read limit runs noted y are is not on whole noted_so freed. let r = read_started image read.format read.versions read.records
      read.pages read.written read.root read.commands limit runs are is noted y not on whole noted_so freed.same_shape freed.freed in
      (r.0, (r.1, (r.2, r.3)));
}
