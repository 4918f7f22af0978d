use Rattle.std.proofs.Common.{◌∙◌, ◌≤◌, inl, inr, ⊎_elim, List, ℕ, arith, length, subst, sym}
use Rattle.cs_chunk.specs.Chunks.{IsMeant}
use Rattle.cs_chunk.specs.Reads.{IsNoAnswer, IsOfFault, fault_in}
use Rattle.cs_extent.specs.State.{shape}
use Rattle.cs_frame.specs.declared.frames.FrameKind.TheVariants.{Chunk}
use Rattle.law_machine.specs.Formats.{ChunkFrame}
use Rattle.cs_reclaim.specs.Moves.{AnswersPlace, chunk_frame}
use Rattle.cs_reclaim.proofs.Moving.{exact_answers, exact_cause, exact_place, exact_refusals, full_move, if_ok, not_full, not_worn, same_mark_there, worn_move}
use Rattle.cs_reclaim.proofs.moves.append_again.Given.{Over}
use Rattle.cs_reclaim.proofs.moves.append_again.Goals as goal
use Rattle.cs_reclaim.proofs.moves.append_again.Goals.{After-append_chunk, After-payload}

pub returns-in-Err-clause-damaged : goal.returns-in-Err-clause-damaged
returns-in-Err-clause-damaged g c = λ h view are. ⊎_elim
    (λ (n : IsNoAnswer c.in-Err.refusal). inl n)
    (λ (f : IsOfFault (fault_in c.args.extents.now view Chunk c.args.from) c.in-Err.refusal). inr (inl f))
    (c.in-Err.ensures.fault h view are)

pub returns-in-Err-clause-why : goal.returns-in-Err-clause-why
returns-in-Err-clause-why g c = λ h view payload are there. inl (c.in-Err.ensures.read h view payload are there)

pub returns-in-Err-clause-full : goal.returns-in-Err-clause-full
returns-in-Err-clause-full g c = λ is. absurd (not_full c.in-Err.refusal c.in-Err.ensures.refusals is)

pub returns-in-Err-clause-worn : goal.returns-in-Err-clause-worn
returns-in-Err-clause-worn g c = λ is. absurd (not_worn c.in-Err.refusal c.in-Err.ensures.refusals is)

-- the payload is that of the frame
fits : (g : Over) (c : After-payload g) → length (chunk_frame c.args.extents.now c.payload.result.now) ≤ (shape c.args.extents.now).pages
fits g c = subst (λ (xs : List ℕ). length (chunk_frame c.args.extents.now xs) ≤ (shape c.args.extents.now).pages) (sym c.payload.ensures.value) (omega (arith, c.in-Ok.ensures.size))

pub append_chunk-requires-clause-size : goal.append_chunk-requires-clause-size
append_chunk-requires-clause-size g c = fits g (goal.at.append_chunk-requires-clause-size g c).After-payload

pub returns-in-Ok-clause-appended : goal.returns-in-Ok-clause-appended
returns-in-Ok-clause-appended g c =
    if_ok c.append_chunk.result _ _
    (λ to appended. (
      c.payload.result.now,
      appended,
      same_mark_there c.args.extents.now c.append_chunk.new.extents c.args.graph.now c.append_chunk.new.graph c.payload.result.now c.args.from to (subst (λ (xs : List ℕ). IsMeant (shape c.args.extents.now) ChunkFrame c.args.from xs) (sym c.payload.ensures.value) c.in-Ok.ensures.meant) appended,
      (λ h view are. rw c.payload.ensures.value (c.in-Ok.ensures.payload h view are)),
    ))
    c.append_chunk.ensures.appended

pub returns-in-Ok-clause-full : goal.returns-in-Ok-clause-full
returns-in-Ok-clause-full g c =
    full_move c.args.extents.now c.args.graph.now.staging c.payload.result.now c.append_chunk.result (fits g (goal.at.returns-in-Ok-clause-full g c).After-payload) c.append_chunk.ensures.why

pub returns-in-Ok-clause-worn : goal.returns-in-Ok-clause-worn
returns-in-Ok-clause-worn g c =
    worn_move c.args.extents.now c.args.graph.now.staging c.payload.result.now c.append_chunk.result (fits g (goal.at.returns-in-Ok-clause-worn g c).After-payload) c.append_chunk.ensures.why

pub returns-in-Ok-clause-why : goal.returns-in-Ok-clause-why
returns-in-Ok-clause-why g c = λ h view payload are there.
    subst (λ (xs : List ℕ). AnswersPlace c.args.extents.now c.args.graph.now.staging xs c.append_chunk.result) (c.payload.ensures.value ∙ c.in-Ok.ensures.read h view payload are there)
    (exact_place c.args.extents.now c.args.graph.now.staging c.payload.result.now c.append_chunk.result c.append_chunk.ensures.why)

pub returns-in-Ok-clause-damaged : goal.returns-in-Ok-clause-damaged
returns-in-Ok-clause-damaged g c = λ h view are.
    exact_answers _ _ c.append_chunk.result (fault_in c.args.extents.now view Chunk c.args.from) (c.in-Ok.ensures.fault h view are) c.append_chunk.ensures.why

pub returns-in-Ok-clause-refusals : goal.returns-in-Ok-clause-refusals
returns-in-Ok-clause-refusals g c = exact_refusals _ _ c.append_chunk.result c.append_chunk.ensures.why

pub returns-in-Ok-clause-cause : goal.returns-in-Ok-clause-cause
returns-in-Ok-clause-cause g c = exact_cause _ _ _ _ c.frame_at.result c.append_chunk.result c.frame_at.ensures.cause c.append_chunk.ensures.why
