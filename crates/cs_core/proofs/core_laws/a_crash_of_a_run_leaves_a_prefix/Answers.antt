use Rattle.cs_core.proofs.Composing.{calls_leave}
use Rattle.cs_core.proofs.core_laws.a_crash_of_a_run_leaves_a_prefix.Goals as goal

pub returns : goal.returns
returns g c = λ old new between core honest calls. let s = core.legal honest in
    calls_leave g.D.PageDisk between old new s.0 honest calls s.1
