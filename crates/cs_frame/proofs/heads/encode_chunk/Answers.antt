use Rattle.std.proofs.Common.{◌≡◌, ◌++◌, IfOk, List, ap, subst, sym, ◌∙◌, ℕ}
use Rattle.law_machine.specs.Format.{Format, Four}
use Rattle.cs_frame.specs.declared.formats.FormatNumber.{FormatNumber}
use Rattle.cs_frame.specs.FormatNumbers.{number_in}
use Rattle.cs_frame.specs.Frames.{spelled_frame}
use Rattle.cs_frame.specs.Heads.{chunk_in, spelled_head}
use Rattle.cs_frame.specs.Identifiers.{id_number}
use Rattle.cs_frame.proofs.heads.encode_chunk.Goals as goal

pub returns-in-Four-clause-spelled : goal.returns-in-Four-clause-spelled
returns-in-Four-clause-spelled c =
    let head = c.args.head in
    let view = c.in-Four.ensures.view in
    let pages = c.encode_parts-in-Four.result in
    subst (λ (f : Format). IfOk pages (λ found. found.items ≡ spelled_frame (number_in f) 0 (chunk_in f (id_number head.id) head.number head.count head.command c.args.piece.now))) view
    (subst (λ (front : List ℕ). IfOk pages (λ found. found.items ≡ spelled_frame (number_in (Four c.in-Four.store.0 0)) 0
    (c.args.piece.now ++ spelled_head (id_number head.id) head.number head.count head.command front))) c.front.ensures.value
    (subst (λ (n : FormatNumber). IfOk pages (λ found. found.items ≡ spelled_frame n 0
    (c.args.piece.now ++ spelled_head (id_number head.id) head.number head.count head.command c.front.result))) (c.number-number.ensures.number ∙ ap number_in (sym view))
    (subst (λ (bytes : List ℕ). IfOk pages (λ found. found.items ≡ spelled_frame c.number-number.result 0 (c.args.piece.now ++ bytes))) c.encode_head-bytes.ensures
    c.encode_parts-in-Four.ensures.spelled)))
