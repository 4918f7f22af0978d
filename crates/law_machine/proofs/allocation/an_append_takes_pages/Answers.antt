use Rattle.law_machine.proofs.allocation.an_append_takes_pages.Goals as goal
use Rattle.law_machine.proofs.Needs.{appended_extents, appended_numbers}

pub returns : goal.returns
returns c = record {
  extents = λ S w e need bs shape exists fits. appended_extents S shape w e need bs exists fits;
  numbers = λ S w e need bs shape. appended_numbers S shape w e need bs;
}
