use Rattle.std.proofs.Common.{◌≡◌, ◌∙◌, List, ℕ, ap, arith, length, subst}
use Rattle.cs_chunk.proofs.Chunkings.{length-spelled}
use Rattle.cs_extent.specs.Appended.{IsAppended}
use Rattle.cs_extent.specs.Places.{GoesIn}
use Rattle.cs_extent.specs.Worn.{IsFrameWorn}
use Rattle.cs_frame.proofs.GeometryLaws.{bounds}
use Rattle.cs_frame.specs.declared.formats.FormatNumber.{FormatNumber}
use Rattle.cs_frame.specs.FormatNumbers.{number_in}
use Rattle.cs_frame.specs.Frames.{spelled_frame}
use Rattle.cs_index.specs.Staged.{IsExact}
use Rattle.law_machine.specs.Extents.{ForMove}
use Rattle.cs_reclaim.specs.Moves.{Nowhere, chunk_frame}
use Rattle.cs_reclaim.proofs.Moving.{append_why_of, small_payload}
use Rattle.cs_reclaim.proofs.moves.append_chunk.Goals as goal
use Rattle.cs_reclaim.proofs.moves.append_chunk.Goals.{After-append}

pub encode_frame-requires : goal.encode_frame-requires
encode_frame-requires c = small_payload (number_in c.args.extents.now.format) 0 c.args.extents.now.pages c.args.payload.now (bounds _ _ _ _ c.geometry.ensures.whole.geometry).most_pages (omega (arith, c.requires.size))

-- the frame is that of the payload
frame_is : (c : After-append) → c.deref.result.now ≡ chunk_frame c.args.extents.now c.args.payload.now
frame_is c =
    c.deref.ensures.value ∙ c.in-Ok.ensures.spelled
    ∙ ap (λ (n : FormatNumber). spelled_frame n 0 c.args.payload.now) (c.number-number.ensures.number ∙ ap number_in (c.format.ensures.format ∙ c.geometry.ensures.format))

pub append-requires-clause-pages : goal.append-requires-clause-pages
append-requires-clause-pages c =
    let size : length c.deref.result.now ≡ length (chunk_frame c.args.extents.now c.args.payload.now) =
    ap (λ (f : List (List ℕ)). length f) (c.deref.ensures.value ∙ c.in-Ok.ensures.spelled
    ∙ ap (λ (n : FormatNumber). spelled_frame n 0 c.args.payload.now) (c.number-number.ensures.number ∙ ap number_in (c.format.ensures.format ∙ c.geometry.ensures.format))) in
    let fits = c.requires.size in
    (omega (arith, size, length-spelled (number_in c.args.extents.now.format) 0 c.args.payload.now), omega (arith, size, fits))

why : (c : After-append) → IsExact c.append.result (Nowhere c.args.extents.now (length (chunk_frame c.args.extents.now c.args.payload.now))) (IsFrameWorn c.args.extents.now ForMove c.args.graph.now.staging (length (chunk_frame c.args.extents.now c.args.payload.now)))
why c = subst (λ (f : List (List ℕ)). IsExact c.append.result (Nowhere c.args.extents.now (length f)) (IsFrameWorn c.args.extents.now ForMove c.args.graph.now.staging (length f))) (frame_is c)
    (append_why_of (GoesIn c.args.extents.now ForMove (length c.deref.result.now)) (IsFrameWorn c.args.extents.now ForMove c.args.graph.now.staging (length c.deref.result.now)) (λ worn. (worn.0, worn.1)) c.append.result (λ r. r.0.extent)
    (λ r. IsAppended c.args.extents.now c.args.graph.now ForMove c.deref.result.now r.0 c.append.new.self c.append.new.graph) (λ r a. a.placed) c.append.ensures.full c.append.ensures.worn c.append.ensures.refusals c.append.ensures.appended)

pub returns-in-Ok-append-clause-appended : goal.returns-in-Ok-append-clause-appended
returns-in-Ok-append-clause-appended c =
    subst (λ (f : List (List ℕ)). IsAppended c.args.extents.now c.args.graph.now ForMove f c.in-Ok-append.place c.append.new.self c.append.new.graph) (frame_is (goal.at.returns-in-Ok-append-clause-appended c).After-append) c.in-Ok-append.ensures.appended

pub returns-in-Ok-append-clause-why : goal.returns-in-Ok-append-clause-why
returns-in-Ok-append-clause-why c =
    subst (λ r. IsExact r (Nowhere c.args.extents.now (length (chunk_frame c.args.extents.now c.args.payload.now))) (IsFrameWorn c.args.extents.now ForMove c.args.graph.now.staging (length (chunk_frame c.args.extents.now c.args.payload.now)))) c.in-Ok-append.is (why (goal.at.returns-in-Ok-append-clause-why c).After-append)

pub returns-clause-why : goal.returns-clause-why
returns-clause-why c =
    subst (λ r. IsExact r (Nowhere c.args.extents.now (length (chunk_frame c.args.extents.now c.args.payload.now))) (IsFrameWorn c.args.extents.now ForMove c.args.graph.now.staging (length (chunk_frame c.args.extents.now c.args.payload.now)))) c.in-Err-append.is (why (goal.at.returns-clause-why c).After-append)
