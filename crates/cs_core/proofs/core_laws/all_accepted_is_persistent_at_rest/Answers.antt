use Rattle.cs_core.proofs.Resting.{at_rest}
use Rattle.cs_core.proofs.core_laws.all_accepted_is_persistent_at_rest.Goals as goal

pub returns : goal.returns
returns g c = λ v core honest waits table. let s = core.legal honest in at_rest v.store s.0 s.1.store waits table
