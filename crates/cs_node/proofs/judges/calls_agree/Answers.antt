use Rattle.cs_node.proofs.Sums.{calls_from, wants_of}
use Rattle.cs_node.proofs.judges.calls_agree.Goals as goal

pub returns-then-stand_in : goal.returns-then-stand_in
returns-then-stand_in g c = λ history within is.
    let kept = c.args.kept.now in
    let marks = c.args.marks.now in
    let ps = c.args.purses.now in (
      (λ t. calls_from c.args.base history kept marks ps within is c.requires.marked (λ k d lt. c.as_wanted.ensures.0 t k d lt) ((c.stand_in.ensures history within is).0 c.if-stand_in.true)),
      (λ h. c.as_wanted.ensures.1 (λ k d lt. wants_of c.args.base history kept marks ps within is c.requires.marked h k d lt)),
    )
