use Rattle.std.proofs.Common.{◌∙◌, ap, sym, subst, List, length, arith, refl}
use Rattle.std.specs.Prelude.{All}
use Rattle.std.proofs.lemmas.List.{length-map}
use Rattle.std.proofs.lemmas.Option.{slice_get_read}
use Rattle.serde_json.specs.View.{view}
use Rattle.cs_deps.specs.declared.elements.Element.{Element}
use Rattle.cs_check.specs.Documents.{names_data}
use Rattle.cs_check.specs.Progress.{elements_of}
use Rattle.cs_check.specs.Written.{HasLetter}
use Rattle.cs_check.proofs.Places.{elements_at, at_from}
use Rattle.cs_check.proofs.Writing.{written_next, written_all}
use Rattle.cs_check.proofs.writings.rounds_value.Goals as goal

pub elements_value-requires-clause-letter : goal.elements_value-requires-clause-letter
elements_value-requires-clause-letter c =
    let at = elements_at c.args.rounds.now c.loop-i.i c.index-rounds-i.result (slice_get_read c.args.rounds.now (length c.args.rounds.now) c.loop-i.i c.index-rounds-i.result refl c.loop-i-test.true c.index-rounds-i.is) in
    subst (λ (xs : List Element). All (HasLetter c.args.letters.now) xs) (sym c.deref.ensures.value) (at_from (λ (xs : List Element). All (HasLetter c.args.letters.now) xs) (elements_of c.args.rounds.now) c.loop-i.i c.index-rounds-i.result.items c.requires.letter at)

pub loop-i-preserved : goal.loop-i-preserved
loop-i-preserved c =
    let at = elements_at c.args.rounds.now c.loop-i.i c.index-rounds-i.result (slice_get_read c.args.rounds.now (length c.args.rounds.now) c.loop-i.i c.index-rounds-i.result refl c.loop-i-test.true c.index-rounds-i.is) in
    written_next (names_data c.args.letters.now) (elements_of c.args.rounds.now) c.loop-i.i c.index-rounds-i.result.items c.loop-i.values.items c.push.new.self.items c.in_ok-round.round at (c.in_ok-round.ensures ∙ ap (names_data c.args.letters.now) c.deref.ensures.value) c.in_ok-push.ensures.items c.loop-i.invariant

pub returns : goal.returns
returns c = written_all (names_data c.args.letters.now) (elements_of c.args.rounds.now) c.loop-i.i c.loop-i.values.items (view c.from.result) c.from.ensures (omega (arith, length-map c.args.rounds.now (λ round. round.items))) c.loop-i.invariant
