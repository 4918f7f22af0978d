use Rattle.std.proofs.Common.{◌≡◌, ℕ, ◌<◌, ◌^◌, List, length, refl, inr, rules}
use Rattle.std.specs.Prelude.{All}
use Rattle.std.proofs.lemmas.Option.{slice_get_read}
use Rattle.serde_json.specs.Data.{number, unsigned}
use Rattle.serde_json.specs.View.{view}
use Rattle.cs_check.specs.Faults.{Blames}
use Rattle.cs_check.specs.Documents.{numbers_data}
use Rattle.cs_check.proofs.ValueSteps.{read_next, converted_all, no_item}
use Rattle.cs_check.proofs.values.versions.Goals as goal

pub loop-i-preserved : goal.loop-i-preserved
loop-i-preserved c =
    let values = c.in_ok-values.values.now in
    let at = slice_get_read values (length values) c.loop-i.i c.index-values-i.result refl c.loop-i-test.true c.index-values-i.is in
    let next = read_next (λ (v : ℕ). number (unsigned v)) (λ (v : ℕ). v < 2 ^ 63) values c.loop-i.i c.index-values-i.result c.loop-i.versions.items c.push.new.self.items c.in_ok-version.version at c.in_ok-version.ensures.ok.0 c.in_ok-version.ensures.ok.1 c.in_ok-push.ensures.items c.loop-i.invariant.each c.loop-i.invariant.values in
    record { each = next.0; values = next.1 }

pub returns-in_err-version-clause-err : goal.returns-in_err-version-clause-err
returns-in_err-version-clause-err c =
    let values = c.in_ok-values.values.now in
    let at = slice_get_read values (length values) c.loop-i.i c.index-values-i.result refl c.loop-i-test.true c.index-values-i.is in
    let blame : Blames c.in_err-version.field-0.0 ((vs : List ℕ) × All (λ v. v < 2 ^ 63) vs × (view c.args.value.now ≡ numbers_data vs)) =
    inr (c.in_err-version.ensures.err.0, λ p. no_item (λ (v : ℕ). number (unsigned v)) (λ (v : ℕ). v < 2 ^ 63) values c.loop-i.i c.index-values-i.result (view c.args.value.now) c.in_ok-values.ensures.ok at c.in_err-version.ensures.err.1 p.0 p.1 p.2) in
    search rules

pub returns-clause-ok : goal.returns-clause-ok
returns-clause-ok c = (c.loop-i.invariant.each, converted_all (λ (v : ℕ). number (unsigned v)) c.in_ok-values.values.now c.loop-i.i c.loop-i.versions.items (view c.args.value.now) c.in_ok-values.ensures.ok c.loop-i-test.false c.loop-i.invariant.values)
