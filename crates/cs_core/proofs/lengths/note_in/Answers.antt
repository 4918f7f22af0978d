use Rattle.std.proofs.Common.{◌≡◌, ◌∙◌, arith}
use Rattle.std.proofs.lemmas.Result.{on_ok_weaker}
use Rattle.cs_frame.specs.declared.locators.Locator.{Locator as Place}
use Rattle.cs_core.specs.Lengths.{noted_at, noted_by, noted_in}
use Rattle.cs_core.proofs.NotedLengths.{noted_row, noted_same}
use Rattle.cs_core.proofs.lengths.note_in.Goals as goal

pub returns-clause-ok : goal.returns-clause-ok
returns-clause-ok c = on_ok_weaker c.note.result
    (λ (noted : (l : Place) → noted_in c.note.new.self l ≡ noted_by (noted_in c.index_mut-row.result.now) c.args.place c.args.count l). λ l.
    noted_row c.grow.new.rows.items c.from-extent.result c.index_mut-row.result.now c.note.new.self c.args.place c.args.count (omega (arith, c.in_ok-grow.ensures.enough)) c.from-extent.ensures c.index_mut-row.ensures.value noted l
    ∙ noted_same (noted_at c.args.rows.now.items) (noted_at c.grow.new.rows.items) c.args.place c.args.count l (c.grow.ensures.same l))
    c.note.ensures.ok
