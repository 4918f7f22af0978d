use Rattle.std.proofs.Common.{◌≡◌, List, length, map, refl, rules}
use Rattle.std.proofs.lemmas.Option.{slice_get_read}
use Rattle.serde_json.specs.Data.{Data, array}
use Rattle.serde_json.specs.View.{view, items_of}
use Rattle.cs_deps.specs.declared.elements.Element.{Element}
use Rattle.cs_deps.specs.Named.{Named}
use Rattle.cs_check.specs.Faults.{Blames}
use Rattle.cs_check.specs.Documents.{AreEntries, IsEntry, elements_in}
use Rattle.cs_check.proofs.ValueSteps.{blame_for}
use Rattle.cs_check.proofs.Entries.{entries_next, entries_all, other_entry}
use Rattle.cs_check.proofs.readings.entries.Goals as goal

pub loop-i-preserved : goal.loop-i-preserved
loop-i-preserved c =
    let values = c.in_ok-values.values.now in
    let at = slice_get_read values (length values) c.loop-i.i c.index-values-i.result refl c.loop-i-test.true c.index-values-i.is in
    entries_next c.args.letters.now values c.loop-i.i c.index-values-i.result c.loop-i.waiting.items c.push.new.self.items c.in_ok-entry.entry at c.loop-i.invariant (rw (c.deref.ensures.value) at c.in_ok-entry.ensures.ok) c.in_ok-push.ensures.items

pub returns-in_err-entry-clause-err : goal.returns-in_err-entry-clause-err
returns-in_err-entry-clause-err c =
    let values = c.in_ok-values.values.now in
    let at = slice_get_read values (length values) c.loop-i.i c.index-values-i.result refl c.loop-i-test.true c.index-values-i.is in
    let said : Blames c.in_err-entry.field-0.0 ((x : Element) × (n : Named) × IsEntry c.args.letters.now (elements_in c.loop-i.waiting.items) (view c.index-values-i.result) x n) = rw (c.deref.ensures.value) at c.in_err-entry.ensures.err in
    let blame : Blames c.in_err-entry.field-0.0 ((entries : List Data) × (waiting : List (Element × Named)) × (view c.args.value.now ≡ array (items_of entries)) × AreEntries c.args.letters.now entries waiting) =
    blame_for c.in_err-entry.field-0.0 _ _ (other_entry c.args.letters.now c.requires values c.loop-i.i c.index-values-i.result c.loop-i.waiting.items (view c.args.value.now) c.in_ok-values.ensures.ok at c.loop-i.invariant) said in
    search rules

pub returns-clause-ok : goal.returns-clause-ok
returns-clause-ok c = (map view c.in_ok-values.values.now, c.in_ok-values.ensures.ok, entries_all c.args.letters.now c.in_ok-values.values.now c.loop-i.i c.loop-i.waiting.items c.loop-i-test.false c.loop-i.invariant)
