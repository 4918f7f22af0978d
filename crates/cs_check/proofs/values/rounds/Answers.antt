use Rattle.std.proofs.Common.{◌≡◌, ◌∙◌, ap, List, length, refl, rules}
use Rattle.std.specs.Prelude.{All}
use Rattle.std.proofs.lemmas.Option.{slice_get_read}
use Rattle.serde_json.specs.View.{view}
use Rattle.cs_deps.specs.declared.elements.Element.{Element}
use Rattle.cs_check.specs.Faults.{Blames}
use Rattle.cs_check.specs.Names.{IsName}
use Rattle.cs_check.specs.Documents.{names_data, rounds_data}
use Rattle.cs_check.specs.Progress.{elements_of}
use Rattle.cs_check.proofs.ValueSteps.{read_next, converted_all, item_at, blame_for, elements_push}
use Rattle.cs_check.proofs.values.rounds.Goals as goal

pub loop-i-preserved : goal.loop-i-preserved
loop-i-preserved c =
    let values = c.in_ok-values.values.now in
    let at = slice_get_read values (length values) c.loop-i.i c.index-values-i.result refl c.loop-i-test.true c.index-values-i.is in
    let next = read_next (names_data c.args.letters.now) (λ (xs : List Element). All (IsName c.args.letters.now) xs) values c.loop-i.i c.index-values-i.result (elements_of c.loop-i.rounds.items) (elements_of c.push.new.self.items) c.in_ok-round.round.items at c.in_ok-round.ensures.ok.0 c.in_ok-round.ensures.ok.1
    (ap elements_of c.in_ok-push.ensures.items ∙ elements_push c.loop-i.rounds.items c.in_ok-round.round) c.loop-i.invariant.each c.loop-i.invariant.values in
    record { each = next.0; values = next.1 }

pub returns-in_err-round-clause-err : goal.returns-in_err-round-clause-err
returns-in_err-round-clause-err c =
    let values = c.in_ok-values.values.now in
    let at = slice_get_read values (length values) c.loop-i.i c.index-values-i.result refl c.loop-i-test.true c.index-values-i.is in
    let blame : Blames c.in_err-round.field-0.0 ((rounds : List (List Element)) × All (All (IsName c.args.letters.now)) rounds × (view c.args.value.now ≡ rounds_data c.args.letters.now rounds)) =
    blame_for c.in_err-round.field-0.0 _ _ (λ p. item_at (names_data c.args.letters.now) (λ (xs : List Element). All (IsName c.args.letters.now) xs) values c.loop-i.i c.index-values-i.result (view c.args.value.now) c.in_ok-values.ensures.ok at p.0 p.1 p.2) c.in_err-round.ensures.err in
    search rules

pub returns-clause-ok : goal.returns-clause-ok
returns-clause-ok c = (c.loop-i.invariant.each, converted_all (names_data c.args.letters.now) c.in_ok-values.values.now c.loop-i.i (elements_of c.loop-i.rounds.items) (view c.args.value.now) c.in_ok-values.ensures.ok c.loop-i-test.false c.loop-i.invariant.values)
