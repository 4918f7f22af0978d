use Rattle.std.proofs.Common.{◌≡◌, List, length, refl, inr, rules}
use Rattle.std.specs.Prelude.{All}
use Rattle.std.proofs.lemmas.Option.{slice_get_read}
use Rattle.serde_json.specs.Data.{string}
use Rattle.serde_json.specs.View.{view}
use Rattle.cs_deps.specs.declared.elements.Element.{Element}
use Rattle.cs_check.specs.Faults.{Blames}
use Rattle.cs_check.specs.Documents.{names_data}
use Rattle.cs_check.specs.Names.{IsName, name_of}
use Rattle.cs_check.proofs.ValueSteps.{read_next, converted_all, no_item}
use Rattle.cs_check.proofs.values.elements.Goals as goal

pub loop-i-preserved : goal.loop-i-preserved
loop-i-preserved c =
    let values = c.in_ok-values.values.now in
    let at = slice_get_read values (length values) c.loop-i.i c.index-values-i.result refl c.loop-i-test.true c.index-values-i.is in
    let next = read_next (λ x. string (name_of c.args.letters.now x)) (IsName c.args.letters.now) values c.loop-i.i c.index-values-i.result c.loop-i.elements.items c.push.new.self.items c.in_ok-element.element at c.in_ok-element.ensures.ok.0 c.in_ok-element.ensures.ok.1 c.in_ok-push.ensures.items c.loop-i.invariant.named c.loop-i.invariant.values in
    record { named = next.0; values = next.1 }

pub returns-in_err-element-clause-err : goal.returns-in_err-element-clause-err
returns-in_err-element-clause-err c =
    let values = c.in_ok-values.values.now in
    let at = slice_get_read values (length values) c.loop-i.i c.index-values-i.result refl c.loop-i-test.true c.index-values-i.is in
    let blame : Blames c.in_err-element.field-0.0 ((xs : List Element) × All (IsName c.args.letters.now) xs × (view c.args.value.now ≡ names_data c.args.letters.now xs)) =
    inr (c.in_err-element.ensures.err.0, λ p. no_item (λ x. string (name_of c.args.letters.now x)) (IsName c.args.letters.now) values c.loop-i.i c.index-values-i.result (view c.args.value.now) c.in_ok-values.ensures.ok at c.in_err-element.ensures.err.1 p.0 p.1 p.2) in
    search rules

pub returns-clause-ok : goal.returns-clause-ok
returns-clause-ok c = (c.loop-i.invariant.named, converted_all (λ x. string (name_of c.args.letters.now x)) c.in_ok-values.values.now c.loop-i.i c.loop-i.elements.items (view c.args.value.now) c.in_ok-values.ensures.ok c.loop-i-test.false c.loop-i.invariant.values)
