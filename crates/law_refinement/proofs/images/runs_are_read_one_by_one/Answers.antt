use Rattle.law_refinement.proofs.images.runs_are_read_one_by_one.Goals as goal
use Rattle.cs_reader.proofs.Runs.{are_runs, places_keep}
use Rattle.cs_reader.proofs.OneByOne.{all_read, next_read, none_read, place_inside}

pub returns : goal.returns
returns c = record {
  none = λ x view places. none_read x view places;
  next = λ x view places runs run read at is. next_read x view places runs run read at is;
  all = λ x view places runs read same. all_read x view places runs read same;
  loads = λ x view runs read. are_runs x view runs read;
  places = λ page format version commands ls is. places_keep page format version commands ls is;
  inside = λ x place whole is. place_inside x place whole is;
}
