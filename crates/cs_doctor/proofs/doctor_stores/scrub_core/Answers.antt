use Rattle.std.proofs.Common.{ℕ, ap}
use Rattle.cs_doctor.specs.declared.diagnoses.Opening.TheVariants as opening
use Rattle.cs_doctor.proofs.doctor_stores.scrub_core.Goals as goal

pub returns-clause-found : goal.returns-clause-found
returns-clause-found g c = λ h. (c.in_ok-scrubbed.scrubbed, ap (λ (n : ℕ × ℕ). opening.Opened n.1 c.in_ok-scrubbed.scrubbed) c.opened-shards.ensures.found, λ view are. c.in_ok-scrubbed.ensures.named h view are)

pub returns-clause-shards : goal.returns-clause-shards
returns-clause-shards g c = (c.in_ok-scrubbed.scrubbed, ap (λ (n : ℕ × ℕ). opening.Opened n.1 c.in_ok-scrubbed.scrubbed) c.opened-shards.ensures.found)
