use Rattle.std.proofs.Common.{arith}
use Rattle.std.proofs.lemmas.Option.{slice_get_within}
use Rattle.cs_deps.proofs.records.place_of.Goals as goal

pub returns : goal.returns
returns c = λ w. c.loop-k.invariant w.0 w.1 (omega (arith, slice_get_within c.args.entries.now w.0 (c.args.element, w.1) w.2)) w.2
