use Rattle.law_machine.proofs.recovery.frames_tell_their_payload.Goals as goal
use Rattle.law_machine.proofs.Unique.{one_payload_of}

pub returns : goal.returns
returns c = λ S F img e i kind a b f fits_a fits_b sa sb. one_payload_of S F f img e i kind a b fits_a fits_b sa sb
