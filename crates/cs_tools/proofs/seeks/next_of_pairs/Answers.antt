use Rattle.std.proofs.Common.{ℕ, Option, inl, subst}
use Rattle.std.specs.Prelude.{IfSome}
use Rattle.cs_inspect.specs.declared.choices.Choice.{Choice}
use Rattle.cs_inspect.specs.Choices.{chosen_extent}
use Rattle.cs_inspect.specs.Past.{ChoosesPairPast, IsNoneOf}
use Rattle.cs_tools.specs.Headers.{IsLeft}
use Rattle.cs_tools.proofs.Aiming.{same_left}
use Rattle.cs_tools.proofs.Readable.{left}
use Rattle.cs_tools.proofs.seeks.next_of_pairs.Goals as goal

pub returns-in-Some-clause-chosen : goal.returns-in-Some-clause-chosen
returns-in-Some-clause-chosen g c = (
  subst (λ (o : Option Choice). ChoosesPairPast g.D.PageDisk c.args.passed.now c.args.core.now c.look_over.new.core (chosen_extent o)) c.in-Some.is c.in_ok-survey.ensures.chosen,
  subst (λ (o : Option Choice). IfSome o (λ choice. IsNoneOf c.args.passed.now choice.extent)) c.in-Some.is c.in_ok-survey.ensures.fresh,
)

pub returns-in-None-clause-chosen : goal.returns-in-None-clause-chosen
returns-in-None-clause-chosen g c = inl (
  c.look_over.new.core,
  c.look_over.ensures.reads,
  subst (λ (o : Option Choice). ChoosesPairPast g.D.PageDisk c.args.passed.now c.args.core.now c.look_over.new.core (chosen_extent o)) c.in-None.is c.in_ok-survey.ensures.chosen,
)

pub returns-in-None-clause-left : goal.returns-in-None-clause-left
returns-in-None-clause-left g c unreadable is =
    let disks = g.D.PageDisk in
    let old = c.args.core.now in
    let new = c.look_over.new.core in
    subst (λ (n : ℕ). IsLeft disks n new) (same_left c.in_ok-survey.survey.unreadable unreadable is) (left disks c.in_ok-survey.survey.unreadable old new c.look_over.ensures.reads c.in_ok-survey.ensures.unreadable)
