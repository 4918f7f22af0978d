use Rattle.law_machine.proofs.allocation.a_frame_is_appended_or_the_extents_are_full.Goals as goal
use Rattle.std.proofs.Common.{inl, inr, ⊎_elim, length}
use Rattle.law_machine.proofs.Places.{placed_or_full}
use Rattle.law_machine.proofs.Needs.{append_there}

pub returns : goal.returns
returns c = λ S w purpose bs. ⊎_elim
    (λ at. inl (append_there S w purpose bs at.0 at.1)) (λ full. inr full)
    (placed_or_full S w.extents purpose (length bs))
