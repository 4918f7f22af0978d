use Rattle.std.proofs.Common.{◌≡◌, true, false, arith}
use Rattle.std.specs.Prelude.{slice_index_or}
use Rattle.cs_deps.proofs.Marking.{places_marked}
use Rattle.cs_deps.proofs.wanted.mark_places.Goals as goal

pub returns-clause-marks : goal.returns-clause-marks
returns-clause-marks c i lt = places_marked (slice_index_or c.args.marks.now.items i false ≡ true) (slice_index_or c.loop-place.marks.items i false ≡ true) c.args.from c.args.end c.loop-place.place i (λ low high. omega arith) (λ below. omega (arith, lt)) (c.loop-place.invariant.marks i lt)
