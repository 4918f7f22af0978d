use Rattle.std.proofs.Common.{◌≡◌, ◌∙◌, ℕ, List, ap, subst}
use Rattle.std.specs.Prelude.{Option, option_and_then, option_map}
use Rattle.uuid.specs.Text.{parsed}
use Rattle.cs_frame.specs.declared.identifiers.ShardId.{ShardId}
use Rattle.cs_options.proofs.IdSteps.{id_read}
use Rattle.cs_options.proofs.options.id_of.Goals as goal

pub returns-in-Some : goal.returns-in-Some
returns-in-Some c =
    subst (λ (given : Option (List ℕ)). option_map (λ (id : ShardId). id.0) c.ok.result ≡ option_and_then parsed given) c.in-Some.ensures
    (ap (option_map (λ (id : ShardId). id.0)) c.ok.ensures.value ∙ id_read c.in-Some.text.now c.parse.result c.parse.ensures.ok c.parse.ensures.bytes)
