use Rattle.cs_deps.specs.View.{pending_of}
use Rattle.cs_check.proofs.Documented.{written_document}
use Rattle.cs_check.proofs.documents.to_document.Goals as goal

pub returns-clause-text : goal.returns-clause-text
returns-clause-text c = rw (← c.deref.ensures.value) (rw (← c.deref-2.ensures.value) c.written.ensures.text)

pub returns-clause-bad : goal.returns-clause-bad
returns-clause-bad c = rw (← c.deref.ensures.value) (rw (← c.deref-2.ensures.value) c.written.ensures.bad)

pub returns-clause-ok : goal.returns-clause-ok
returns-clause-ok c = rw (← c.deref.ensures.value) (rw (← c.deref-2.ensures.value) c.written.ensures.ok)

pub returns-clause-document : goal.returns-clause-document
returns-clause-document c =
    written_document c.written.result c.args.letters.now (pending_of c.args.view.now) c.args.target.now _ _ c.written.ensures.ok c.written.ensures.text
