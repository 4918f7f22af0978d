use Rattle.std.proofs.Common.{rules}
use Rattle.serde_json.specs.View.{view}
use Rattle.cs_check.specs.Faults.{Blames}
use Rattle.cs_check.specs.Documents.{IsDocument}
use Rattle.cs_check.specs.Progress.{elements_of}
use Rattle.cs_check.proofs.ValueSteps.{blame_for}
use Rattle.cs_check.proofs.Said.{said_by_parts, document_of}
use Rattle.cs_check.proofs.readings.document.Goals as goal

pub returns-in_err-well_formed-clause-err : goal.returns-in_err-well_formed-clause-err
returns-in_err-well_formed-clause-err c =
    let d = view c.args.value.now in
    let said = said_by_parts d c.in_ok-letters.letters.items c.in_ok-persistent.persistent.items c.in_ok-waiting.waiting.items c.in_ok-target.target (elements_of c.in_ok-rounds.rounds.items) c.in_ok-chain.chain.items c.in_ok-letters.ensures.ok
    (rw (c.deref.ensures.value) at c.in_ok-persistent.ensures.ok) (rw (c.deref-2.ensures.value) at c.in_ok-waiting.ensures.ok) (rw (c.deref-3.ensures.value, c.deref-4.ensures.value) at c.in_ok-target.ensures.ok)
    (rw (c.deref-5.ensures.value) at c.in_ok-rounds.ensures.ok) (rw (c.deref-6.ensures.value) at c.in_ok-chain.ensures.ok) in
    let blame : Blames c.in_err-well_formed.field-0.0 (IsDocument d) = blame_for c.in_err-well_formed.field-0.0 _ _ said (rw (c.deref-7.ensures.value, c.deref-8.ensures.value) at c.in_err-well_formed.ensures.err) in
    search rules

pub returns-clause-ok : goal.returns-clause-ok
returns-clause-ok c =
    let well = rw (c.deref-7.ensures.value, c.deref-8.ensures.value) at c.in_ok-well_formed.ensures.ok in
    document_of (view c.args.value.now) c.in_ok-letters.letters.items c.in_ok-persistent.persistent.items c.in_ok-waiting.waiting.items c.in_ok-target.target (elements_of c.in_ok-rounds.rounds.items) c.in_ok-chain.chain.items (c.is_format.ensures.0 c.if-not-is_format.false) c.in_ok-letters.ensures.ok
    (rw (c.deref.ensures.value) at c.in_ok-persistent.ensures.ok) (rw (c.deref-2.ensures.value) at c.in_ok-waiting.ensures.ok) (rw (c.deref-3.ensures.value, c.deref-4.ensures.value) at c.in_ok-target.ensures.ok)
    (rw (c.deref-5.ensures.value) at c.in_ok-rounds.ensures.ok) (rw (c.deref-6.ensures.value) at c.in_ok-chain.ensures.ok) well.0
