use Rattle.std.proofs.Common.{◌≡◌, ◌∙◌, ◌⊎◌, ◌∷◌, [], ℕ, Bool, List, None, ap, arith, false, length, length-set, map, refl, subst, sym}
use Rattle.std.proofs.lemmas.List.{length-map}
use Rattle.cs_chunk.specs.Chunks.{IsFrameIn}
use Rattle.cs_chunk.specs.Newest.{AreNewest}
use Rattle.cs_chunk.specs.Reads.{IsNoAnswer, IsOfFault, fault_in}
use Rattle.cs_refusal.specs.declared.refusals.Refusal.TheVariants.{Full, WornOut}
use Rattle.cs_disk.specs.Disk.{seen}
use Rattle.cs_extent.specs.Appended.{IsAppendedBy}
use Rattle.cs_frame.specs.declared.frames.FrameKind.TheVariants.{Chunk}
use Rattle.cs_frame.specs.declared.locators.Locator.{Locator}
use Rattle.cs_frame.specs.Formats.{as_locator, place_of}
use Rattle.cs_frame.specs.Locators.{KeepFormat}
use Rattle.cs_index.proofs.Living.{nth_in, nth_inside}
use Rattle.cs_index.proofs.Marks.{placed_keeps}
use Rattle.cs_index.specs.State.{State, id_number, index_of}
use Rattle.law_machine.specs.Format.{Format}
use Rattle.law_machine.specs.Element.{Locator as Place}
use Rattle.law_machine.specs.Extents.{ForMove}
use Rattle.law_machine.specs.Formats.{ChunkFrame}
use Rattle.law_machine.specs.Index.{FirstLive, NothingLive, live_at}
use Rattle.law_machine.specs.Lists.{replaced}
use Rattle.cs_reclaim.specs.Moves.{chunk_frame}
use Rattle.cs_reclaim.proofs.Living.{live_there, one_place, replaced_keeps, replaced_map, set_from}
use Rattle.cs_reclaim.proofs.Moving.{done_cause, first_here, move_made, not_none, same_answer}
use Rattle.cs_reclaim.proofs.Sweeping.{append_swept}
use Rattle.cs_reclaim.proofs.sweeps_v2.Sweep.move_one.Given.{Over}
use Rattle.cs_reclaim.proofs.sweeps_v2.Sweep.move_one.Goals as goal
use Rattle.cs_reclaim.proofs.sweeps_v2.Sweep.move_one.Goals.{In_default, In-Ok-append_again, In-Some}

-- ---- where nothing is live

nothing : (g : Over) (c : In_default g) → NothingLive (index_of c.args.index.now) c.args.self.now
nothing g c = subst (λ (e : ℕ). NothingLive (index_of c.args.index.now) e) c.self.view_is c.in_default.ensures.found

pub returns-in_default-clause-none : goal.returns-in_default-clause-none
returns-in_default-clause-none g c = ((λ is. nothing g (goal.at.returns-in_default-clause-none g c).In_default), (λ none. refl))

pub returns-in_default-clause-damaged : goal.returns-in_default-clause-damaged
returns-in_default-clause-damaged g c = λ h view are id chunk from first.
    absurd (live_there (index_of c.args.index.now) c.args.self.now id chunk from first (nothing g (goal.at.returns-in_default-clause-damaged g c).In_default))

pub returns-in_default-clause-why : goal.returns-in_default-clause-why
returns-in_default-clause-why g c = λ h view are id chunk from payload first there.
    absurd (live_there (index_of c.args.index.now) c.args.self.now id chunk from first (nothing g (goal.at.returns-in_default-clause-why g c).In_default))

-- ---- where something is

found : (g : Over) (c : In-Some g) → FirstLive (index_of c.args.index.now) c.args.self.now (id_number c.in-Some.live.id) c.in-Some.live.chunk (place_of c.in-Some.live.place)
found g c = first_here (index_of c.args.index.now) c.self.inside.extent c.args.self.now c.in-Some.live c.self.view_is c.in-Some.ensures.found

some_live : (g : Over) (c : In-Some g) → NothingLive (index_of c.args.index.now) c.args.self.now → ⊥
some_live g c none = live_there (index_of c.args.index.now) c.args.self.now (id_number c.in-Some.live.id) c.in-Some.live.chunk (place_of c.in-Some.live.place) (found g c) none

pub append_again-requires-clause-extent : goal.append_again-requires-clause-extent
append_again-requires-clause-extent g c =
    (c.requires.there (id_number c.in-Some.live.id) (place_of c.in-Some.live.place) (nth_in (live_at (index_of c.args.index.now) (id_number c.in-Some.live.id)) c.in-Some.live.chunk (place_of c.in-Some.live.place) c.in-Some.ensures.found.there)).0

pub append_again-requires-clause-page : goal.append_again-requires-clause-page
append_again-requires-clause-page g c =
    (c.requires.there (id_number c.in-Some.live.id) (place_of c.in-Some.live.place) (nth_in (live_at (index_of c.args.index.now) (id_number c.in-Some.live.id)) c.in-Some.live.chunk (place_of c.in-Some.live.place) c.in-Some.ensures.found.there)).1

-- the places of the shard, before the chunk has its new one
before : (g : Over) (c : In-Ok-append_again g) → map place_of c.in-Ok.places.items ≡ live_at (index_of c.args.index.now) (id_number c.in-Some.live.id)
before g c = c.in-Ok.ensures.places ∙ ap (λ (s : State). live_at (index_of s) (id_number c.in-Some.live.id)) c.first_live.ensures.same

pub set-requires : goal.set-requires
set-requires g c =
    omega (
      arith,
      nth_inside (live_at (index_of c.args.index.now) (id_number c.in-Some.live.id)) c.in-Some.live.chunk (place_of c.in-Some.live.place) c.in-Some.ensures.found.there,
      ap (λ (ls : List Place). length ls) (before g (goal.at.set-requires g c).In-Ok-append_again),
      length-map c.in-Ok.places.items place_of,
    )

pub point_at-requires-clause-marks : goal.point_at-requires-clause-marks
point_at-requires-clause-marks g c =
    let to = c.in-Ok-append_again.to in
    let format = c.args.index.now.format in
    let here = subst (λ (f : Format). KeepFormat f (c.in-Ok-append_again.to ∷ [])) (sym c.requires.format)
    (placed_keeps c.args.extents.now (chunk_frame c.args.extents.now c.in-Ok-append_again.ensures.appended.0) c.in-Ok-append_again.to c.in-Ok-append_again.ensures.appended.1.place) in
    let old = subst (λ (s : State). KeepFormat s.format c.in-Ok.places.items) c.first_live.ensures.same c.in-Ok.ensures.marks in
    subst (λ (f : Format). KeepFormat f c.set.new.self.items) (sym (ap (λ (s : State). s.format) c.places_with_room.ensures.rest ∙ ap (λ (s : State). s.format) c.first_live.ensures.same))
    (subst (λ (ls : List Locator). KeepFormat c.args.index.now.format ls) (sym c.set.ensures) (replaced_keeps format c.in-Ok.places.items c.in-Some.live.chunk to old here))

pub point_at-requires-clause-as_many : goal.point_at-requires-clause-as_many
point_at-requires-clause-as_many g c =
    let id = id_number c.in-Some.live.id in
    ap (λ (s : State). length (live_at (index_of s) (id_number c.in-Some.live.id))) (c.places_with_room.ensures.rest)
    ∙ ap (λ (ls : List Place). length ls) (sym c.in-Ok.ensures.places) ∙ length-map c.in-Ok.places.items place_of
    ∙ sym (ap (λ (ls : List Locator). length ls) c.set.ensures ∙ length-set c.in-Ok.places.items c.in-Some.live.chunk c.in-Ok-append_again.to)

pub returns-in-Ok-append_again-clause-none : goal.returns-in-Ok-append_again-clause-none
returns-in-Ok-append_again-clause-none g c = (
  (λ is. absurd (not_none (c.in-Some.live.id, c.in-Some.live.chunk) is)),
  (λ none. absurd (some_live g (goal.at.returns-in-Ok-append_again-clause-none g c).In-Some none)),
)

-- what was appended, by the rule of format 2
appended : (g : Over) (c : In-Ok-append_again g) → IsAppendedBy false c.args.extents.now c.args.graph.now ForMove (chunk_frame c.args.extents.now c.in-Ok-append_again.ensures.appended.0) c.in-Ok-append_again.to c.append_again.new.extents c.append_again.new.graph
appended g c =
    let a = c.in-Ok-append_again.ensures.appended in
    subst (λ (b : Bool). IsAppendedBy b c.args.extents.now c.args.graph.now ForMove (chunk_frame c.args.extents.now a.0) c.in-Ok-append_again.to c.append_again.new.extents c.append_again.new.graph) c.requires.together a.1

pub returns-in-Ok-append_again-clause-moved : goal.returns-in-Ok-append_again-clause-moved
returns-in-Ok-append_again-clause-moved g c = λ id chunk is.
    let at = (goal.at.returns-in-Ok-append_again-clause-moved g c).In-Ok-append_again in
    let live = c.in-Some.live in
    let to = c.in-Ok-append_again.to in
    let a = c.in-Ok-append_again.ensures.appended in
    move_made c.args.index.now c.point_at.new.index c.args.extents.now c.append_again.new.extents c.args.graph.now c.append_again.new.graph c.args.self.now c.in-Some.live
    (λ (from : Locator) (payload : List ℕ). g.D.PageDisk.honest c.args.disk.now → (view : ℕ → List ℕ) → AreNewest c.args.graph.now (seen (g.D.PageDisk.state c.args.disk.now)) view → IsFrameIn c.args.extents.now view ChunkFrame from payload)
    (found g (goal.at.returns-in-Ok-append_again-clause-moved g c).In-Some) (
      a.0,
      to,
      appended g at,
      set_from c.args.index.now c.places_with_room.new.index c.point_at.new.index (id_number live.id) (map place_of c.set.new.self.items) (replaced (live_at (index_of c.args.index.now) (id_number live.id)) live.chunk (place_of to))
          (rw (c.first_live.ensures.same) at c.places_with_room.ensures.rest)
          (ap (map place_of) c.set.ensures ∙ replaced_map c.in-Ok.places.items live.chunk to ∙ ap (λ (ls : List Place). replaced ls live.chunk (place_of to)) (before g at))
          c.point_at.ensures,
      a.2,
      a.3,
    )
    id chunk (same_answer (c.in-Some.live.id, c.in-Some.live.chunk) (id, chunk) is)

pub returns-in-Ok-append_again-clause-damaged : goal.returns-in-Ok-append_again-clause-damaged
returns-in-Ok-append_again-clause-damaged g c = λ h view are id chunk from first.
    subst (λ (p : Place). fault_in c.args.extents.now view Chunk (as_locator p) ≡ None)
    (one_place (index_of c.args.index.now) c.args.self.now (id_number c.in-Some.live.id) c.in-Some.live.chunk (place_of c.in-Some.live.place) (found g (goal.at.returns-in-Ok-append_again-clause-damaged g c).In-Some) id chunk from first) (c.in-Ok-append_again.ensures.damaged h view are)

pub returns-in-Ok-append_again-clause-why : goal.returns-in-Ok-append_again-clause-why
returns-in-Ok-append_again-clause-why g c = λ h view are id chunk from payload first there.
    c.in-Ok-append_again.ensures.why h view payload are (subst (λ (p : Place). IsFrameIn c.args.extents.now view ChunkFrame (as_locator p) payload)
    (sym (one_place (index_of c.args.index.now) c.args.self.now (id_number c.in-Some.live.id) c.in-Some.live.chunk (place_of c.in-Some.live.place) (found g (goal.at.returns-in-Ok-append_again-clause-why g c).In-Some) id chunk from first)) there)

pub returns-in-Ok-append_again-clause-still : goal.returns-in-Ok-append_again-clause-still
returns-in-Ok-append_again-clause-still g c =
    let a = c.in-Ok-append_again.ensures.appended in
    append_swept c.args.extents.now c.append_again.new.extents c.args.graph.now c.append_again.new.graph ForMove (chunk_frame c.args.extents.now a.0) c.in-Ok-append_again.to c.args.self.now (appended g (goal.at.returns-in-Ok-append_again-clause-still g c).In-Ok-append_again) c.requires.swept

pub returns-in-Ok-append_again-clause-cause : goal.returns-in-Ok-append_again-clause-cause
returns-in-Ok-append_again-clause-cause g c = done_cause _ _ c.append_again.result _ c.append_again.ensures.cause

-- ---- where it is refused

pub returns-in-Err-clause-none : goal.returns-in-Err-clause-none
returns-in-Err-clause-none g c = ((λ is. absurd (cc is)), (λ none. absurd (some_live g (goal.at.returns-in-Err-clause-none g c).In-Some none)))

pub returns-in-Err-clause-damaged : goal.returns-in-Err-clause-damaged
returns-in-Err-clause-damaged g c = λ h view are id chunk from first.
    subst (λ (p : Place). IsNoAnswer c.in-Err.refusal ⊎ IsOfFault (fault_in c.args.extents.now view Chunk (as_locator p)) c.in-Err.refusal
    ⊎ ((fault_in c.args.extents.now view Chunk (as_locator p) ≡ None) × ((c.in-Err.refusal ≡ Full) ⊎ (c.in-Err.refusal ≡ WornOut))))
    (one_place (index_of c.args.index.now) c.args.self.now (id_number c.in-Some.live.id) c.in-Some.live.chunk (place_of c.in-Some.live.place) (found g (goal.at.returns-in-Err-clause-damaged g c).In-Some) id chunk from first) (c.in-Err.ensures.damaged h view are)

pub returns-in-Err-clause-why : goal.returns-in-Err-clause-why
returns-in-Err-clause-why g c = λ h view are id chunk from payload first there.
    c.in-Err.ensures.why h view payload are (subst (λ (p : Place). IsFrameIn c.args.extents.now view ChunkFrame (as_locator p) payload)
    (sym (one_place (index_of c.args.index.now) c.args.self.now (id_number c.in-Some.live.id) c.in-Some.live.chunk (place_of c.in-Some.live.place) (found g (goal.at.returns-in-Err-clause-why g c).In-Some) id chunk from first)) there)

pub returns-in_default-places_with_room-clause-none : goal.returns-in_default-places_with_room-clause-none
returns-in_default-places_with_room-clause-none g c = ((λ is. absurd (cc is)), (λ none. absurd (some_live g (goal.at.returns-in_default-places_with_room-clause-none g c).In-Some none)))
