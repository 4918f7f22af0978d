use Rattle.std.proofs.Common.{◌≡◌, ◌<◌, ◌∙◌, ◌⊎◌, ◌++◌, ◌∷◌, [], ℕ, Bool, List, None, ap, inl, inr, refl, subst, sym, true}
use Rattle.std.specs.List.{AllByRecursion}
use Rattle.cs_chunk.specs.Chunks.{IsFrameIn}
use Rattle.cs_chunk.specs.Newest.{AreNewest}
use Rattle.cs_chunk.specs.Reads.{IsNoAnswer, IsOfFault, fault_in}
use Rattle.cs_refusal.specs.declared.refusals.Refusal.TheVariants.{Full, WornOut}
use Rattle.cs_disk.specs.Disk.{seen}
use Rattle.cs_extent.specs.Appended.{IsAppendedBy}
use Rattle.cs_frame.specs.declared.frames.FrameKind.TheVariants.{Chunk}
use Rattle.cs_frame.specs.declared.locators.Locator.{Locator}
use Rattle.cs_frame.specs.Formats.{as_locator, place_of}
use Rattle.cs_index.proofs.Living.{nth_in}
use Rattle.cs_index.proofs.Sorted.{all_append}
use Rattle.cs_index.specs.Copies.{copy_of, newest_copies}
use Rattle.cs_index.specs.declared.counted_copies.ChunkCopy.{ChunkCopy}
use Rattle.cs_index.specs.State.{id_number, index_of}
use Rattle.law_machine.specs.Apart.{AllCopied, FirstUncopied}
use Rattle.law_machine.specs.Element.{Copy, Locator as Place}
use Rattle.law_machine.specs.Extents.{ForMove}
use Rattle.law_machine.specs.Formats.{ChunkFrame}
use Rattle.law_machine.specs.Index.{live_at}
use Rattle.cs_reclaim.specs.Moves.{chunk_frame}
use Rattle.cs_reclaim.proofs.Copying.{found_left, left_there, none_left, one_left, order_after, up_to_after}
use Rattle.cs_reclaim.proofs.Made.{copy_made, number_small}
use Rattle.cs_reclaim.proofs.Moving.{done_cause, not_none, same_answer}
use Rattle.cs_reclaim.proofs.Noted.{noted_more}
use Rattle.cs_reclaim.proofs.SweptStays.{append_stays_apart}
use Rattle.cs_reclaim.proofs.sweeps.Sweeps.copy_one.Given.{Over}
use Rattle.cs_reclaim.proofs.sweeps.Sweeps.copy_one.Goals as goal
use Rattle.cs_reclaim.proofs.sweeps.Sweeps.copy_one.Goals.{After-push_reserved, In_default, In-Ok-append_again, In-Some}

-- ---- where all is copied

nothing : (g : Over) (c : In_default g) → AllCopied (index_of c.args.index.now) c.args.self.now c.args.extent
nothing g c = none_left (index_of c.args.index.now) c.args.self.now c.args.extent c.requires.order c.requires.up_to _ c.last.ensures c.in_default.ensures

pub returns-in_default-clause-none : goal.returns-in_default-clause-none
returns-in_default-clause-none g c = ((λ is. nothing g (goal.at.returns-in_default-clause-none g c).In_default), (λ none. refl))

pub returns-in_default-clause-damaged : goal.returns-in_default-clause-damaged
returns-in_default-clause-damaged g c = λ h view are id chunk from first.
    absurd (left_there (index_of c.args.index.now) c.args.self.now c.args.extent id chunk from first (nothing g (goal.at.returns-in_default-clause-damaged g c).In_default))

pub returns-in_default-clause-why : goal.returns-in_default-clause-why
returns-in_default-clause-why g c = λ h view are id chunk from payload first there.
    absurd (left_there (index_of c.args.index.now) c.args.self.now c.args.extent id chunk from first (nothing g (goal.at.returns-in_default-clause-why g c).In_default))

-- ---- where something is left

pub append_again-requires-clause-extent : goal.append_again-requires-clause-extent
append_again-requires-clause-extent g c =
    (c.requires.there (id_number c.in-Some.live.id) (place_of c.in-Some.live.place) (nth_in (live_at (index_of c.args.index.now) (id_number c.in-Some.live.id)) c.in-Some.live.chunk (place_of c.in-Some.live.place) c.in-Some.ensures.there)).0

pub append_again-requires-clause-page : goal.append_again-requires-clause-page
append_again-requires-clause-page g c =
    (c.requires.there (id_number c.in-Some.live.id) (place_of c.in-Some.live.place) (nth_in (live_at (index_of c.args.index.now) (id_number c.in-Some.live.id)) c.in-Some.live.chunk (place_of c.in-Some.live.place) c.in-Some.ensures.there)).1

found : (g : Over) (c : In-Some g) → FirstUncopied (index_of c.args.index.now) c.args.self.now c.args.extent (id_number c.in-Some.live.id) c.in-Some.live.chunk (place_of c.in-Some.live.place)
found g c = found_left (index_of c.args.index.now) c.args.self.now c.args.extent c.requires.order c.requires.up_to _ c.last.ensures _ _ _ c.in-Some.ensures

some_left : (g : Over) (c : In-Some g) → AllCopied (index_of c.args.index.now) c.args.self.now c.args.extent → ⊥
some_left g c all = left_there (index_of c.args.index.now) c.args.self.now c.args.extent (id_number c.in-Some.live.id) c.in-Some.live.chunk (place_of c.in-Some.live.place) (found g c) all

-- the copy is noted
noted : (g : Over) (c : After-push_reserved g) → newest_copies c.push_reserved.new.self.items ≡ record { id = id_number c.in-Some.live.id; chunk = c.in-Some.live.chunk; from = place_of c.in-Some.live.place; to = place_of c.in-Ok-append_again.to } ∷ c.args.self.now
noted g c =
    let new : ChunkCopy = record { id = c.in-Some.live.id; chunk = c.in-Some.live.chunk; from = c.in-Some.live.place; to = c.in-Ok-append_again.to } in
    ap newest_copies (c.push_reserved.ensures.items ∙ ap (λ (cs : List ChunkCopy). cs ++ new ∷ []) c.reserve.ensures.items)
    ∙ noted_more c.self.inside.copies.items new ∙ ap (λ (cs : List Copy). copy_of new ∷ cs) c.self.view_is

pub invariant_of-self-in-Ok-append_again : goal.invariant_of-self-in-Ok-append_again
invariant_of-self-in-Ok-append_again g c =
    let new : ChunkCopy = record { id = c.in-Some.live.id; chunk = c.in-Some.live.chunk; from = c.in-Some.live.place; to = c.in-Ok-append_again.to } in
    let small = number_small c.args.index.now (id_number c.in-Some.live.id) c.in-Some.live.chunk (place_of c.in-Some.live.place) c.run_count.ensures.whole c.in-Some.ensures.there in
    subst (λ (cs : List ChunkCopy). AllByRecursion (λ x. x.chunk < 8) cs) (sym (c.push_reserved.ensures.items ∙ ap (λ (cs : List ChunkCopy). cs ++ new ∷ []) c.reserve.ensures.items))
    (all_append (λ (x : ChunkCopy). x.chunk < 8) c.self.inside.copies.items (new ∷ []) c.self.invariant (small, tt))

appended : (g : Over) (c : In-Ok-append_again g) → IsAppendedBy true c.args.extents.now c.args.graph.now ForMove (chunk_frame c.args.extents.now c.in-Ok-append_again.ensures.appended.0) c.in-Ok-append_again.to c.append_again.new.extents c.append_again.new.graph
appended g c =
    let a = c.in-Ok-append_again.ensures.appended in
    subst (λ (b : Bool). IsAppendedBy b c.args.extents.now c.args.graph.now ForMove (chunk_frame c.args.extents.now a.0) c.in-Ok-append_again.to c.append_again.new.extents c.append_again.new.graph) c.requires.apart a.1

pub returns-in-Ok-append_again-clause-none : goal.returns-in-Ok-append_again-clause-none
returns-in-Ok-append_again-clause-none g c = (
  (λ is. absurd (not_none (c.in-Some.live.id, c.in-Some.live.chunk) is)),
  (λ none. absurd (some_left g (goal.at.returns-in-Ok-append_again-clause-none g c).In-Some none)),
)

pub returns-in-Ok-append_again-clause-copied : goal.returns-in-Ok-append_again-clause-copied
returns-in-Ok-append_again-clause-copied g c = λ id chunk is.
    let at = goal.at.returns-in-Ok-append_again-clause-copied g c in
    let a = c.in-Ok-append_again.ensures.appended in
    copy_made c.args.index.now c.args.extents.now c.append_again.new.extents c.args.graph.now c.append_again.new.graph c.args.self.now (newest_copies c.push_reserved.new.self.items) c.args.extent c.in-Some.live
    (λ (from : Locator) (payload : List ℕ). g.D.PageDisk.honest c.args.disk.now → (view : ℕ → List ℕ) → AreNewest c.args.graph.now (seen (g.D.PageDisk.state c.args.disk.now)) view → IsFrameIn c.args.extents.now view ChunkFrame from payload)
    (found g at.In-Some) (a.0, c.in-Ok-append_again.to, appended g at.In-Ok-append_again, noted g at.After-push_reserved, a.2, a.3) id chunk (same_answer (c.in-Some.live.id, c.in-Some.live.chunk) (id, chunk) is)

pub returns-in-Ok-append_again-clause-damaged : goal.returns-in-Ok-append_again-clause-damaged
returns-in-Ok-append_again-clause-damaged g c = λ h view are id chunk from first.
    subst (λ (p : Place). fault_in c.args.extents.now view Chunk (as_locator p) ≡ None)
    (one_left (index_of c.args.index.now) c.args.self.now c.args.extent (id_number c.in-Some.live.id) c.in-Some.live.chunk (place_of c.in-Some.live.place)
    (found g (goal.at.returns-in-Ok-append_again-clause-damaged g c).In-Some) id chunk from first) (c.in-Ok-append_again.ensures.damaged h view are)

pub returns-in-Ok-append_again-clause-why : goal.returns-in-Ok-append_again-clause-why
returns-in-Ok-append_again-clause-why g c = λ h view are id chunk from payload first there.
    c.in-Ok-append_again.ensures.why h view payload are (subst (λ (p : Place). IsFrameIn c.args.extents.now view ChunkFrame (as_locator p) payload)
    (sym (one_left (index_of c.args.index.now) c.args.self.now c.args.extent (id_number c.in-Some.live.id) c.in-Some.live.chunk (place_of c.in-Some.live.place)
    (found g (goal.at.returns-in-Ok-append_again-clause-why g c).In-Some) id chunk from first)) there)

pub returns-in-Ok-append_again-clause-still : goal.returns-in-Ok-append_again-clause-still
returns-in-Ok-append_again-clause-still g c =
    append_stays_apart c.args.extents.now c.append_again.new.extents c.args.graph.now c.append_again.new.graph ForMove (chunk_frame c.args.extents.now c.in-Ok-append_again.ensures.appended.0) c.in-Ok-append_again.to c.args.extent
    (appended g (goal.at.returns-in-Ok-append_again-clause-still g c).In-Ok-append_again) c.requires.swept

pub returns-in-Ok-append_again-clause-order : goal.returns-in-Ok-append_again-clause-order
returns-in-Ok-append_again-clause-order g c =
    order_after (index_of c.args.index.now) c.args.self.now c.args.extent c.requires.order c.requires.up_to _ c.last.ensures _ _ _ (place_of c.in-Ok-append_again.to) (newest_copies c.push_reserved.new.self.items) c.in-Some.ensures
    (noted g (goal.at.returns-in-Ok-append_again-clause-order g c).After-push_reserved)

pub returns-in-Ok-append_again-clause-up_to : goal.returns-in-Ok-append_again-clause-up_to
returns-in-Ok-append_again-clause-up_to g c =
    up_to_after (index_of c.args.index.now) c.args.self.now c.args.extent c.requires.order c.requires.up_to _ c.last.ensures _ _ _ (place_of c.in-Ok-append_again.to) (newest_copies c.push_reserved.new.self.items) c.in-Some.ensures
    (noted g (goal.at.returns-in-Ok-append_again-clause-up_to g c).After-push_reserved)

pub returns-in-Ok-append_again-clause-cause : goal.returns-in-Ok-append_again-clause-cause
returns-in-Ok-append_again-clause-cause g c = done_cause _ _ c.append_again.result _ c.append_again.ensures.cause

-- ---- where memory is refused

pub returns-in-Err-clause-none : goal.returns-in-Err-clause-none
returns-in-Err-clause-none g c = ((λ is. absurd (cc is)), (λ none. absurd (some_left g (goal.at.returns-in-Err-clause-none g c).In-Some none)))

-- ---- where it is refused

pub returns-in-Err-append_again-clause-none : goal.returns-in-Err-append_again-clause-none
returns-in-Err-append_again-clause-none g c = (
  (λ is. absurd (cc is)),
  (λ none. absurd (some_left g (goal.at.returns-in-Err-append_again-clause-none g c).In-Some none)),
)

pub returns-in-Err-append_again-clause-damaged : goal.returns-in-Err-append_again-clause-damaged
returns-in-Err-append_again-clause-damaged g c = λ h view are id chunk from first.
    subst (λ (p : Place). IsNoAnswer c.in-Err-append_again.refusal ⊎ IsOfFault (fault_in c.args.extents.now view Chunk (as_locator p)) c.in-Err-append_again.refusal
    ⊎ ((fault_in c.args.extents.now view Chunk (as_locator p) ≡ None) × ((c.in-Err-append_again.refusal ≡ Full) ⊎ (c.in-Err-append_again.refusal ≡ WornOut))))
    (one_left (index_of c.args.index.now) c.args.self.now c.args.extent (id_number c.in-Some.live.id) c.in-Some.live.chunk (place_of c.in-Some.live.place)
    (found g (goal.at.returns-in-Err-append_again-clause-damaged g c).In-Some) id chunk from first) (c.in-Err-append_again.ensures.damaged h view are)

pub returns-in-Err-append_again-clause-why : goal.returns-in-Err-append_again-clause-why
returns-in-Err-append_again-clause-why g c = λ h view are id chunk from payload first there.
    c.in-Err-append_again.ensures.why h view payload are (subst (λ (p : Place). IsFrameIn c.args.extents.now view ChunkFrame (as_locator p) payload)
    (sym (one_left (index_of c.args.index.now) c.args.self.now c.args.extent (id_number c.in-Some.live.id) c.in-Some.live.chunk (place_of c.in-Some.live.place)
    (found g (goal.at.returns-in-Err-append_again-clause-why g c).In-Some) id chunk from first)) there)

pub returns-in-Err-clause-damaged : goal.returns-in-Err-clause-damaged
returns-in-Err-clause-damaged g c = λ h view are id chunk from first. inl (inr refl)

pub returns-in-Err-clause-why : goal.returns-in-Err-clause-why
returns-in-Err-clause-why g c = λ h view are id chunk from payload first there. inl (inr refl)
