use Rattle.std.proofs.Common.{◌≡◌, ◌≢◌, ◌∙◌, ℕ, false, List, [], ap, length, map, refl, sym, true≢false}
use Rattle.std.proofs.lemmas.List.{length-map}
use Rattle.cs_index.specs.State.{id_number, index_of}
use Rattle.law_machine.proofs.Weights.{ones_weigh}
use Rattle.law_machine.specs.Format.{Format, Four, Two}
use Rattle.law_machine.specs.Geometry.{marks_in, weigh_in}
use Rattle.law_machine.specs.Index.{live_at}
use Rattle.cs_inspect.specs.Chunks.{Chunk, chunk_of}
use Rattle.cs_inspect.proofs.Counted.{all_one}
use Rattle.cs_inspect.proofs.Inside.{live_chunks_one}
use Rattle.cs_inspect.proofs.figures.entry_figures.Goals as goal

-- in a format without marks each entry weighs one
each_one : (format : Format) → marks_in format ≡ false → (n : ℕ) → weigh_in format n ≡ 1
each_one Two plain n = refl
each_one (Four store device) plain n = absurd (true≢false plain)

pub returns-clause-ones : goal.returns-clause-ones
returns-clause-ones c = λ plain. c.weight.ensures.weight
    ∙ ones_weigh (weigh_in c.args.index.now.format) (each_one c.args.index.now.format plain) (index_of c.args.index.now)
    ∙ sym c.named_count.ensures.count

pub returns-clause-shards : goal.returns-clause-shards
returns-clause-shards c = λ ids are.
    c.len-shards.ensures ∙ c.in_ok-ids.field-0.ok.0 ∙ sym (length-map c.in_ok-ids.field-0.items id_number)
    ∙ ap (λ (ns : List ℕ). length ns) (all_one (λ id. live_at (index_of c.args.index.now) id ≢ []) (map id_number c.in_ok-ids.field-0.items) ids c.in_ok-ids.ensures are)

pub returns-clause-chunks : goal.returns-clause-chunks
returns-clause-chunks c = λ chunks are.
    c.len-chunks.ensures ∙ c.in_ok-live_chunks.field-0.ok.0 ∙ sym (length-map c.in_ok-live_chunks.field-0.items chunk_of)
    ∙ ap (λ (cs : List Chunk). length cs) (live_chunks_one (index_of c.args.index.now) (map chunk_of c.in_ok-live_chunks.field-0.items) chunks c.in_ok-live_chunks.ensures are)
