use Rattle.std.proofs.Common.{subst}
use Rattle.cs_salvage.specs.Parts.{EndsWith}
use Rattle.cs_salvage.proofs.Meaning.{one_or_two}
use Rattle.cs_salvage.proofs.Searching.{of_any}
use Rattle.cs_salvage.proofs.salvage_laws.what_a_part_means_is_one.Goals as goal

pub returns-clause-one : goal.returns-clause-one
returns-clause-one c = one_or_two

pub returns-clause-found : goal.returns-clause-found
returns-clause-found c = λ sought image part payload is. (is.digest, is.head)

pub returns-clause-own : goal.returns-clause-own
returns-clause-own c = λ g image part payload is. subst (λ (front : _). EndsWith part.head front payload) is.store is.head

pub returns-clause-any : goal.returns-clause-any
returns-clause-any c = of_any
