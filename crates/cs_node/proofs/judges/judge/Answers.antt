use Rattle.std.proofs.Common.{◌≡◌, ◌∙◌, eq-eqb}
use Rattle.std.specs.Prelude.{◌↔◌, IsTrue}
use borrow.Author.Tests.{eqb-true}
use Rattle.cs_node.specs.Accounts.{AreCalls}
use Rattle.cs_node.proofs.Sums.{accounted, lacks, passes}
use Rattle.cs_node.proofs.judges.judge.Goals as goal

pub returns-then-all_four : goal.returns-then-all_four
returns-then-all_four g c =
    let core = c.args.core.now in
    let ps = c.args.purses.now in
    let base : c.base-2.result ≡ core.base = c.base-2.ensures.base in
    let called : IsTrue c.calls_agree-called.result ↔ AreCalls c.base-2.result core.history ps = c.calls_agree-called.ensures core.history (rw base c.history-2.ensures.replaced) (rw base c.history-2.ensures.kept) in
    let t = c.all_four.ensures.0 c.if-all_four.true in
    accounted core c.args.given c.progress-accepted.result.0 c.progress-accepted.result.1 c.base-2.result c.in_ok-all_numbers.field-0.items c.args.handed.now ps c.progress-accepted.ensures.accepted c.progress-accepted.ensures.frontier base c.in_ok-all_numbers.ensures
    (eqb-true _ _ t.0)
    (called.0 t.1)
    (c.account-numbers.ensures.whole.0 t.2)
    (c.are_acks_within-within.ensures.0 t.3)

pub returns : goal.returns
returns g c =
    let core = c.args.core.now in
    let ps = c.args.purses.now in
    let base : c.base-2.result ≡ core.base = c.base-2.ensures.base in
    let called : IsTrue c.calls_agree-called.result ↔ AreCalls c.base-2.result core.history ps = c.calls_agree-called.ensures core.history (rw base c.history-2.ensures.replaced) (rw base c.history-2.ensures.kept) in (
      c.account-numbers.ensures.missing ∙ lacks core c.args.given c.progress-accepted.result.0 c.progress-accepted.result.1 c.base-2.result c.in_ok-all_numbers.field-0.items c.args.handed.now ps c.progress-accepted.ensures.accepted c.progress-accepted.ensures.frontier base c.in_ok-all_numbers.ensures,
      (λ a.
          let t = passes core c.args.given c.progress-accepted.result.0 c.progress-accepted.result.1 c.base-2.result c.in_ok-all_numbers.field-0.items c.args.handed.now ps c.progress-accepted.ensures.accepted c.progress-accepted.ensures.frontier base c.in_ok-all_numbers.ensures a in
          let yes : IsTrue c.all_four.result = c.all_four.ensures.1 (eq-eqb _ _ t.0, called.1 t.1, c.account-numbers.ensures.whole.1 t.2, c.are_acks_within-within.ensures.1 t.3) in
          let no = c.if-all_four.false in
          cc),
    )
