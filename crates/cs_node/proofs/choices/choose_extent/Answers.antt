use Rattle.cs_inspect.specs.Choices.{chosen_extent}
use Rattle.cs_node.proofs.StoreChoices.{extent_none, extent_some}
use Rattle.cs_node.proofs.choices.choose_extent.Goals as goal

pub returns-in-Some-clause-chosen : goal.returns-in-Some-clause-chosen
returns-in-Some-clause-chosen g c = record {
  choice = chosen_extent c.in_ok-found.found;
  extent = extent_some c.in_ok-found.found c.in-Some.choice c.in-Some.is;
  chooses = c.in_ok-found.ensures.chosen;
}

pub returns-in-None-clause-chosen : goal.returns-in-None-clause-chosen
returns-in-None-clause-chosen g c = record {
  choice = chosen_extent c.in_ok-found.found;
  extent = extent_none c.in_ok-found.found c.in-None.is;
  chooses = c.in_ok-found.ensures.chosen;
}
