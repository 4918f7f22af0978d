use Rattle.cs_reclaim.proofs.Marking.{elsewhere_apart, marked_apart, rest_apart, taken_apart}
use Rattle.cs_reclaim.proofs.SweptStays.{freed_stays, stage_stays}
use Rattle.cs_reclaim.proofs.sweep_laws.a_swept_extent_stays_apart.Goals as goal

pub returns : goal.returns
returns c = record { elsewhere = elsewhere_apart; append = taken_apart; mark = marked_apart; rest = rest_apart; freed = freed_stays; stage = stage_stays }
