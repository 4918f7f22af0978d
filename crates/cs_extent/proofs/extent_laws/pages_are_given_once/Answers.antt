use Rattle.cs_extent.proofs.Given.{all_later, given_once}
use Rattle.cs_extent.proofs.extent_laws.pages_are_given_once.Goals as goal

pub returns-clause-once : goal.returns-clause-once
returns-clause-once c = given_once

pub returns-clause-behind : goal.returns-clause-behind
returns-clause-behind c = λ S x y changes given i page leads at. all_later S x y changes given leads i page at
