use Rattle.std.proofs.Common.{subst, sym}
use Rattle.cs_doctor.proofs.Stepping.{AreCareful, careful}
use Rattle.cs_doctor.proofs.diagnosis_steps.steps_of.Goals as goal

pub returns-clause-erases : goal.returns-clause-erases
returns-clause-erases c = λ some. subst AreCareful (sym c.in_ok-steps.ensures) (careful c.args.found.now some)
