use Rattle.law_machine.proofs.allocation.appends_by_either_rule.Goals as goal
use Rattle.std.proofs.Common.{inl, inr, ⊎_elim, length}
use Rattle.law_machine.proofs.Needs.{append_there_by, append_one, appended_by_extents, fits_exactly}
use Rattle.law_machine.proofs.Places.{goes_inside, goes_one, goes_or_full}

pub returns : goal.returns
returns c = record {
  one_extent = goes_one;
  one_way = append_one;
  or_full = λ S apart w purpose bs. ⊎_elim
      (λ at. inl (append_there_by S apart w purpose bs at.0 at.1)) (λ full. inr full)
      (goes_or_full S apart w.extents purpose (length bs));
  inside = goes_inside;
  extents = λ S apart purpose w e need bs shape. appended_by_extents S shape apart purpose w e need bs;
  fit = λ S apart w purpose frames shape. fits_exactly S shape apart w purpose frames;
}
