use Rattle.std.proofs.Common.{◌∙◌, ap₂, List, ℕ}
use Rattle.std.specs.Prelude.{bytes_eq}
use Rattle.cs_index.proofs.Numbers.{id_is, same_is}
use Rattle.cs_index.proofs.stored_runs.is_same.Goals as goal

pub returns : goal.returns
returns c =
    c.eq.ensures ∙ ap₂ (λ (xs ys : List ℕ). bytes_eq xs ys) c.bytes.ensures.value c.bytes-2.ensures.value
    ∙ same_is c.args.a c.args.b (id_is c.args.a c.bytes.result c.bytes.ensures.value c.bytes.ensures.size c.bytes.ensures.bytes)
    (id_is c.args.b c.bytes-2.result c.bytes-2.ensures.value c.bytes-2.ensures.size c.bytes-2.ensures.bytes)
