use Rattle.std.proofs.Common.{refl}
use Rattle.law_machine.proofs.recovery.recovery_looks_at_the_pages_of_the_store.Goals as goal
use Rattle.law_machine.proofs.LocalRecovery.{lies_below, recovers_alike, recovers_alike_but}

pub returns : goal.returns
returns c = record {
  alike = λ S F count a b n m lies agree r. recovers_alike S F count a b lies agree n m r;
  alike_but = λ S F opening count a b n m lies agree r. recovers_alike_but S F count a b lies agree opening opening n m (λ p g fits l pass. refl) (λ p g e i k fz. fz) (λ p g l. refl) r;
  geometries = λ E P N Q f g. lies_below E P N Q f g;
}
