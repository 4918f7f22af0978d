use Rattle.std.proofs.Common.{◌≡◌, ℕ, List, Some, refl, subst, sym}
use Rattle.std.specs.Prelude.{Err, Ok}
use Rattle.cs_core.specs.Lookups.{AreMeantBytes, IsReading}
use Rattle.cs_index.specs.State.{id_number}
use Rattle.law_machine.specs.Element.{Bytes}
use Rattle.cs_tools.proofs.Getting.{absent_none, absent_some, absent_unread, got_out, meant_out, no_refusal, told_fault}
use Rattle.cs_tools.proofs.get_command.get.Goals as goal

pub returns-in-Ok-Some-clause-answer : goal.returns-in-Ok-Some-clause-answer
returns-in-Ok-Some-clause-answer g c m has honest =
    let contents = g.W.Write.contents in
    let content = m (id_number c.args.id) in
    let found = subst (λ f. IsReading content (Ok f)) c.in-Ok-Some.field-0-is (c.in-Ok-Some.ensures.answer m has honest) in
    got_out content c.deref.result.now (contents c.args.writer.now) (contents c.write_out.new.writer) c.write_out.result (subst (λ bytes. content ≡ Some (Bytes bytes)) (sym c.deref.ensures.value) found) c.write_out.ensures

pub returns-in-Ok-None-clause-answer : goal.returns-in-Ok-None-clause-answer
returns-in-Ok-None-clause-answer g c m has honest =
    let content = m (id_number c.args.id) in
    (subst (λ f. IsReading content (Ok f)) c.in-Ok-None.field-0-is (c.in-Ok-None.ensures.answer m has honest), refl)

pub returns-in-Err-clause-answer : goal.returns-in-Err-clause-answer
returns-in-Err-clause-answer g c m has honest =
    (subst (λ r. IsReading (m (id_number c.args.id)) (Err r)) (sym c.refusal.ensures) (c.in-Err.ensures.answer m has honest), refl)

pub returns-in-Ok-Some-clause-meant : goal.returns-in-Ok-Some-clause-meant
returns-in-Ok-Some-clause-meant g c =
    let contents = g.W.Write.contents in
    let v = c.args.store.now.store in
    let id = id_number c.args.id in
    let meant = rw c.in-Ok-Some.field-0-is at c.in-Ok-Some.ensures.meant in
    meant_out v id c.deref.result.now (contents c.args.writer.now) (contents c.write_out.new.writer) c.write_out.result (subst (λ (bytes : List ℕ). AreMeantBytes v id bytes) (sym c.deref.ensures.value) meant) c.write_out.ensures

pub returns-in-Ok-Some-clause-absent : goal.returns-in-Ok-Some-clause-absent
returns-in-Ok-Some-clause-absent g c =
    absent_some c.get.result c.in-Ok-Some.field-0 c.in-Ok-Some.bytes c.write_out.result _ c.in-Ok-Some.is c.in-Ok-Some.field-0-is c.write_out.ensures c.get.ensures.absent

pub returns-in-Ok-None-clause-absent : goal.returns-in-Ok-None-clause-absent
returns-in-Ok-None-clause-absent g c = absent_none c.get.result c.in-Ok-None.field-0 _ c.in-Ok-None.is c.in-Ok-None.field-0-is c.get.ensures.absent

pub returns-in-Err-clause-absent : goal.returns-in-Err-clause-absent
returns-in-Err-clause-absent g c = absent_unread c.get.result c.in-Err.error c.refusal.result _ c.in-Err.is c.get.ensures.absent

pub returns-in-Ok-Some-clause-cause : goal.returns-in-Ok-Some-clause-cause
returns-in-Ok-Some-clause-cause g c = no_refusal c.write_out.result _ _ c.write_out.ensures

pub returns-in-Err-clause-cause : goal.returns-in-Err-clause-cause
returns-in-Err-clause-cause g c = told_fault c.in-Err.error c.refusal.result _ c.refusal.ensures c.in-Err.ensures.cause
