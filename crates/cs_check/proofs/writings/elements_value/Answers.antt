use Rattle.std.proofs.Common.{◌∙◌, ap}
use Rattle.std.proofs.lemmas.Option.{slice_get-get_or}
use Rattle.serde_json.specs.Data.{string}
use Rattle.cs_deps.specs.declared.elements.Element.TheVariants.{Plain}
use Rattle.cs_check.specs.Names.{name_of}
use Rattle.cs_check.proofs.Writing.{written_next}
use Rattle.cs_check.proofs.writings.elements_value.Goals as goal

pub loop-i-preserved : goal.loop-i-preserved
loop-i-preserved c = written_next (λ x. string (name_of c.args.letters.now x)) c.args.elements.now c.loop-i.i _ c.loop-i.values.items c.push.new.self.items c.from.result (slice_get-get_or c.args.elements.now c.loop-i.i (Plain 0) c.loop-i-test.true) (c.from.ensures ∙ ap string c.in_ok-name.ensures) c.in_ok-push.ensures.items c.loop-i.invariant
