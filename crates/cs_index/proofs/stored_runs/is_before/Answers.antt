use Rattle.std.proofs.Common.{◌∙◌, ap, ap₂, List, ℕ}
use Rattle.cs_frame.specs.Runs.{is_before}
use Rattle.std.specs.Ordering.{is_lt}
use Rattle.std.specs.declared.cmp.Ordering.{Ordering}
use Rattle.cs_index.proofs.Numbers.{before_is, id_is}
use Rattle.cs_index.proofs.stored_runs.is_before.Goals as goal

pub returns : goal.returns
returns c =
    c.is_lt.ensures ∙ ap (λ (o : Ordering). is_lt o) c.cmp.ensures
    ∙ ap₂ (λ (xs ys : List ℕ). is_before xs ys) c.bytes.ensures.value c.bytes-2.ensures.value
    ∙ before_is c.args.a c.args.b (id_is c.args.a c.bytes.result c.bytes.ensures.value c.bytes.ensures.size c.bytes.ensures.bytes)
    (id_is c.args.b c.bytes-2.result c.bytes-2.ensures.value c.bytes-2.ensures.size c.bytes-2.ensures.bytes)
