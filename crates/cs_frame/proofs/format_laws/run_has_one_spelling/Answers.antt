use Rattle.cs_frame.proofs.FormatRunLaws.{fault-spelled, one_run, one_store, spells_some}
use Rattle.cs_frame.proofs.format_laws.run_has_one_spelling.Goals as goal

pub returns-clause-exact : goal.returns-clause-exact
returns-clause-exact c = λ format payload fits are. ((λ h. spells_some format payload are h), (λ s. fault-spelled format payload s.0 fits s.1))

pub returns-clause-one_run : goal.returns-clause-one_run
returns-clause-one_run c = λ format payload entries es a b. one_run format payload entries es a b

pub returns-clause-one_store : goal.returns-clause-one_store
returns-clause-one_store c = one_store
