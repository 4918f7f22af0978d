use Rattle.cs_core.proofs.TornCrashes.{torn_now, torn_within}
use Rattle.cs_core.proofs.core_laws.what_a_torn_crash_leaves_is_recovered.Goals as goal

pub returns-clause-now : goal.returns-clause-now
returns-clause-now g c = λ v left image core geometry honest may torn.
    torn_now g.D.PageDisk v core geometry honest (g.met.D.PageDisk.sized v.disk honest) left image may torn

pub returns-clause-within : goal.returns-clause-within
returns-clause-within g c = λ v w event reply disk left image core geometry honest applied after holds may torn.
    torn_within g.D.PageDisk v w event reply disk core geometry honest (g.met.D.PageDisk.sized v.disk honest) applied after holds left image may torn
