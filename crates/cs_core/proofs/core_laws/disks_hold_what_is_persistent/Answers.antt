use Rattle.cs_core.proofs.core_laws.disks_hold_what_is_persistent.Goals as goal

pub returns : goal.returns
returns g c = λ v core honest. let s = core.legal honest in (s.0, s.1.store, s.1.reached, s.1.disk)
