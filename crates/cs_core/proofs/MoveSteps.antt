-- A move of a chunk is a step of the machine.
use Rattle.std.proofs.Common.{◌≡◌, ◌⊎◌, inl, inr, ⊎_elim, ℕ, ◌≤◌, true, false, List, ◌∷◌, Some, None, Ok, Err, length, refl, sym, ap, ◌∙◌, subst}
use Rattle.std.specs.Prelude.{◌↔◌, IfErr, OnErr, Option, Result}
use Rattle.cs_chunk.specs.Chunks.{IsFrameIn}
use Rattle.cs_chunk.specs.Newest.{AreNewest}
use Rattle.cs_chunk.specs.Reads.{IsNoAnswer, IsOfFault, IsReadRefusal, fault_in}
use Rattle.cs_frame.specs.Refusals.{refusal_for as code_of}
use Rattle.cs_refusal.specs.declared.refusals.Refusal.{Refusal as Code}
use Rattle.cs_refusal.specs.declared.refusals.Refusal.TheVariants as code
use Rattle.cs_deps.specs.State.{IsWhole as IsWholeGraph, State as GraphState}
use Rattle.cs_disk.specs.Disk.{State as DiskState, seen}
use Rattle.cs_extent.specs.State.{IsWhole, State as ExtentsState, extents_of, shape}
use Rattle.cs_extent.specs.Worn.{IsFrameWornBy}
use Rattle.cs_frame.specs.declared.faults.FormatFault.{FormatFault}
use Rattle.cs_frame.specs.declared.faults.FormatFault.TheVariants as fault
use Rattle.cs_frame.specs.declared.frames.FrameKind.TheVariants.{Chunk}
use Rattle.cs_frame.specs.Formats.{as_locator, formats_of}
use Rattle.cs_index.specs.Staged.{IsWhy}
use Rattle.cs_index.specs.State.{State as IndexState, id_number, index_of}
use Rattle.law_machine.proofs.Limits.{not_past}
use Rattle.law_machine.proofs.Outcomes.{first_one, live_found, not_nothing}
use Rattle.law_machine.specs.Element.{Locator as Place}
use Rattle.law_machine.specs.Events.{Does, ReadsNow}
use Rattle.law_machine.specs.Extents.{ForMove, NoPlace}
use Rattle.law_machine.specs.Formats.{ChunkFrame}
use Rattle.law_machine.specs.Grounds.{DamagedFirst, NoRoomToMove, PastLimit, Refuses, WouldPass}
use Rattle.law_machine.specs.Index.{FirstLive, NothingLive, live_at}
use Rattle.law_machine.specs.Lists.{replaced, ◌∈◌}
use Rattle.law_machine.specs.Refusal.{DeviceFault, Full, NotSweepable, Refusal as Ground, WornOut}
use Rattle.law_machine.specs.State.{MoveOne, Moved, NoneLive, Refused, Reply, State, index_now}
use Rattle.law_machine.specs.Step.{Step}
use Rattle.law_refinement.proofs.Calls.{move}
use Rattle.law_refinement.proofs.DoesBefore.{moved as did_move, none_moved, none_so}
use Rattle.law_refinement.proofs.Indexes.{first_live, looked_up, nothing_live}
use Rattle.law_refinement.proofs.RefusedMoves.{move_full, move_worn}
use Rattle.law_refinement.proofs.FoundShards.{live_damaged, live_payload, live_whole}
use Rattle.law_refinement.proofs.Shapes.{store_format, store_shape}
use Rattle.law_refinement.specs.Devices.{IsDiskOf, pages_now}
use Rattle.law_refinement.specs.Parts.{ArePartsOf}
use Rattle.cs_index.proofs.Living.{nth_in}
use Rattle.law_refinement.specs.cs_reclaim.Moves.{AnswersMove, AnswersPlaceBy, IsMoved, chunk_frame}
use Rattle.cs_frame.specs.declared.identifiers.ShardId.{ShardId}
use Rattle.cs_core.specs.Reads.{DeclinesOn, MoveAnswers, StepsOn}
use Rattle.cs_core.specs.States.{IsStateOf}
use Rattle.cs_core.specs.Stored.{Stored, but_for_room}
use Rattle.cs_core.proofs.Damage.{IsDamage, read_refusal}
use Rattle.cs_core.proofs.FramesRead.{found_as_much, frame_read}
use Rattle.cs_core.proofs.Gets.{newest_there}
use Rattle.cs_core.proofs.Going.{Beside, beside_is, frontier_same, goes_on, going, roomed, roots_same, same_state}
use Rattle.cs_core.proofs.MoveGrounds.{damaged_before, full_before, none_before, reads_before, worn_before}
use Rattle.cs_core.proofs.RootsStay.{SameRoots, append_stays}
use Rattle.cs_core.proofs.SweepSteps.{is_marked, move_unmarked}
use Rattle.cs_reader.specs.ImageReads.{page_total}

-- an extent that isn't being swept
pub move_unswept : (v : Stored) (whole : IsWhole v.extents) (runs : v.halted ≡ false) (disk : DiskState) (e : ℕ) → (extents_of v.extents).swept e ≡ false → MoveAnswers v disk e (Err code.NotSweepable) v
unfolding MoveAnswers
move_unswept v whole runs disk e not = inr (NotSweepable, refl, λ s is on. (s, move_unmarked v whole runs e not s is, is))

-- neither 30 nor 35 is a fault's
pub not_place : (r : Code) (f : FormatFault) → (r ≡ code.Full) ⊎ (r ≡ code.WornOut) → r ≡ code_of f → ⊥
not_place r f (inl full) is = none f (sym full ∙ is)
  where
    none : (f : FormatFault) → code.Full ≡ code_of f → ⊥
    none fault.BadMagic e = cc e
    none f e = cc e
not_place r f (inr worn) is = none f (sym worn ∙ is)
  where
    none : (f : FormatFault) → code.WornOut ≡ code_of f → ⊥
    none fault.BadMagic e = cc e
    none f e = cc e

pub not_answer : (r : Code) → (r ≡ code.Full) ⊎ (r ≡ code.WornOut) → IsNoAnswer r → ⊥
not_answer r (inl full) (inl device) = let e : code.Full ≡ code.DeviceFault = sym full ∙ device in cc e
not_answer r (inl full) (inr memory) = let e : code.Full ≡ code.OutOfMemory = sym full ∙ memory in cc e
not_answer r (inr worn) (inl device) = let e : code.WornOut ≡ code.DeviceFault = sym worn ∙ device in cc e
not_answer r (inr worn) (inr memory) = let e : code.WornOut ≡ code.OutOfMemory = sym worn ∙ memory in cc e

module _ (v : Stored) (whole : IsWhole v.extents) (graph : IsWholeGraph v.graph) (runs : v.halted ≡ false) (disk : DiskState) (size : page_total (shape v.extents) ≤ length disk.durable)
    (e : ℕ) (yes : (extents_of v.extents).swept e ≡ true) (together : (shape v.extents).apart ≡ false) where
  module _ (s : State) (is : IsStateOf v s) where
    runs_on : s.halted ≡ true → ⊥
    runs_on = going s.halted (is.halted ∙ runs)

    marked_there : s.world.extents.swept e ≡ true
    marked_there = is_marked v whole runs e yes s is

    marked_not : s.world.extents.swept e ≡ false → ⊥
    marked_not not = going (s.world.extents.swept e) not marked_there

    here : (id k : ℕ) (l : Place) → FirstLive (index_now s) e id k l → FirstLive (index_of v.index) e id k l
    here = first_live (index_now s) (index_of v.index) (λ d. sym (looked_up v.index s.table s.runs is.parts.index d)) e

    there : (id k : ℕ) (l : Place) → FirstLive (index_of v.index) e id k l → FirstLive (index_now s) e id k l
    there = first_live (index_of v.index) (index_now s) (looked_up v.index s.table s.runs is.parts.index) e

    none_there : NothingLive (index_of v.index) e → NothingLive (index_now s) e
    none_there = nothing_live (index_of v.index) (index_now s) (looked_up v.index s.table s.runs is.parts.index) e

    none_here : NothingLive (index_now s) e → NothingLive (index_of v.index) e
    none_here = nothing_live (index_now s) (index_of v.index) (λ d. sym (looked_up v.index s.table s.runs is.parts.index d)) e

    -- what moves nothing takes no number past its greatest
    module _ (nothing : NothingLive (index_now s) e) where
      no_first : (id k : ℕ) (l : Place) → FirstLive (index_now s) e id k l → ⊥
      no_first id k l first = not_nothing (shape v.extents) (formats_of (shape v.extents)) (store_shape v.extents whole) (store_format v.extents whole) s e id k l first nothing

      would : (reply : Reply) (t : State) → Does (shape v.extents) (formats_of (shape v.extents)) s (MoveOne e) reply t → PastLimit (shape v.extents) (formats_of (shape v.extents)) t → ⊥
      would NoneLive t d over = not_past (shape v.extents) (formats_of (shape v.extents)) s is.sound is.bounded
          (subst (λ (u : State). PastLimit (shape v.extents) (formats_of (shape v.extents)) u) (none_moved (shape v.extents) (formats_of (shape v.extents)) together s t e d).2 over)
      would (Moved id k) t d over = let did = did_move (shape v.extents) (formats_of (shape v.extents)) together s t e id k d in no_first id k did.0 did.5
      would reply t d over = d

      none_refuses : (f : Ground) → Refuses (shape v.extents) (formats_of (shape v.extents)) s (MoveOne e) f → ⊥
      none_refuses = none_before (shape v.extents) (formats_of (shape v.extents)) s e runs_on marked_not together (λ f d. no_first d.0 d.1 d.2 d.3) (λ full. full.0 nothing) (λ w. would w.0 w.1 w.2 w.3)

    -- the first live chunk on the extent
    module _ (id k : ℕ) (l : Place) (first : FirstLive (index_now s) e id k l) (whole_chunk : s.opening.damage l ≡ None) where
      undamaged : (f : Ground) → DamagedFirst (shape v.extents) (formats_of (shape v.extents)) s e f → ⊥
      undamaged f (d, j, m, other, damage) =
          let one = first_one (shape v.extents) (formats_of (shape v.extents)) (store_shape v.extents whole) (store_format v.extents whole) s e d id j k m l other first in
          let clash : Some f ≡ None = sym damage ∙ ap s.opening.damage one.2 ∙ whole_chunk in cc clash

  -- ---- nothing lives there

  pub move_none : (w : Stored) → w ≡ v → NothingLive (index_of v.index) e → MoveAnswers v disk e (Ok None) w
  unfolding MoveAnswers
  move_none w same none s is on =
      let nothing = none_there s is none in
      (s, (none_refuses s is nothing, none_so (shape v.extents) (formats_of (shape v.extents)) together s s e (marked_there s is, nothing, refl)), subst (λ (u : Stored). IsStateOf u s) (sym same) is)

  -- ---- a chunk is moved

  module _ (id k : ℕ) (payload : List ℕ) (y : ExtentsState) (h : GraphState) (j : IndexState) (moved : IsMoved v.index v.extents v.graph e id k payload j y h) (same : shape y ≡ shape v.extents)
      (frame : (view : ℕ → List ℕ) → AreNewest v.graph (seen disk) view → IsFrameIn v.extents view ChunkFrame (as_locator moved.from) payload)
      (sane : (view : ℕ → List ℕ) → AreNewest v.graph (seen disk) view → (d n : ℕ) (from : Place) → FirstLive (index_of v.index) e d n from → fault_in v.extents view Chunk (as_locator from) ≡ None)
      (why : (view : ℕ → List ℕ) → AreNewest v.graph (seen disk) view → (d n : ℕ) (from : Place) (bytes : List ℕ) → FirstLive (index_of v.index) e d n from → IsFrameIn v.extents view ChunkFrame (as_locator from) bytes
      → (NoPlace (shape v.extents) (extents_of v.extents) ForMove (length (chunk_frame v.extents bytes)) → ⊥) × (IsFrameWornBy false v.extents ForMove v.graph.staging (length (chunk_frame v.extents bytes)) → ⊥)) where
    module _ (s : State) (is : IsStateOf v s) (on : IsDiskOf (shape v.extents) (formats_of (shape v.extents)) s disk) where
      view : ℕ → List ℕ
      view = pages_now (shape v.extents) s (seen disk)

      newest : AreNewest v.graph (seen disk) (pages_now (shape v.extents) s (seen disk))
      newest = newest_there v whole graph disk size s is on

      has : moved.from ∈ live_at (index_of v.index) id
      has = nth_in (live_at (index_of v.index) id) k moved.from moved.first.there

      whole_chunk : s.opening.damage moved.from ≡ None
      whole_chunk = live_whole v.extents s (seen disk) whole is.sound (found_as_much v.extents s is.parts.world.extents) v.index is.parts.index id moved.from has (sane (pages_now (shape v.extents) s (seen disk)) newest id k moved.from moved.first)

      reads_it : ReadsNow (shape v.extents) (formats_of (shape v.extents)) s moved.from ChunkFrame payload
      reads_it = live_payload v.extents s (seen disk) whole is.sound (found_as_much v.extents s is.parts.world.extents) v.index is.parts.index id moved.from payload has (frame (pages_now (shape v.extents) s (seen disk)) newest)

      reasons : (NoPlace (shape v.extents) (extents_of v.extents) ForMove (length (chunk_frame v.extents payload)) → ⊥) × (IsFrameWornBy false v.extents ForMove v.graph.staging (length (chunk_frame v.extents payload)) → ⊥)
      reasons = why (pages_now (shape v.extents) s (seen disk)) newest id k moved.from payload moved.first (frame (pages_now (shape v.extents) s (seen disk)) newest)

      refuses : (f : Ground) → Refuses (shape v.extents) (formats_of (shape v.extents)) s (MoveOne e) f → ⊥
      refuses = none_before (shape v.extents) (formats_of (shape v.extents)) s e (runs_on s is) (marked_not s is) together (undamaged s is id k moved.from (there s is id k moved.from moved.first) whole_chunk)
          (λ full. reasons.0 ((move_full v.extents v.graph v.index s whole is.parts e id k moved.from payload moved.first reads_it).0 full.1))
          (λ w. reasons.1 ((move_worn v.extents v.graph v.index s whole is.parts e id k moved.from payload moved.first reads_it is.sound is.bounded together (marked_there s is) whole_chunk reasons.0).0 w))

      at : (t : State) → Does (shape v.extents) (formats_of (shape v.extents)) s (MoveOne e) (Moved id k) t → ArePartsOf y h j t
          → (z : State) × Step (shape v.extents) (formats_of (shape v.extents)) s (MoveOne e) (Moved id k) z × IsStateOf (record v { extents = y; graph = h; index = j }) z
      at t does parts =
          let did = did_move (shape v.extents) (formats_of (shape v.extents)) together s t e id k does in
          let u : State = record s { world = did.8.0; table = record { id = id; locators = replaced (live_at (index_now s) id) k did.1 } ∷ s.table } in
          let tis : t ≡ u = did.9 ∙ ap (λ (m : State). record m { table = record { id = id; locators = replaced (live_at (index_now s) id) k did.1 } ∷ m.table }) did.8.2 in
          let step : Step (shape v.extents) (formats_of (shape v.extents)) s (MoveOne e) (Moved id k) t = (refuses, does) in
          let beside : Beside s t = beside_is s t u tis (record { round_out = refl; left = refl; issued = refl; halted = refl; count = refl }) in
          let roots : SameRoots s.world t.world = subst (λ (z : State). SameRoots s.world z.world) (sym tis)
          (append_stays (shape v.extents) s.world did.8.0 ForMove ((formats_of (shape v.extents)).frame ChunkFrame did.2) did.1 did.8.1) in (
            t,
            step,
            goes_on v (record v { extents = y; graph = h; index = j }) s t (MoveOne e) (Moved id k) whole is step same parts (ap (λ (z : State). z.copies) tis ∙ is.copies) beside refl refl refl refl (ap (λ (z : State). length z.commands) tis ∙ is.accepted)
                (frontier_same (shape v.extents) (formats_of (shape v.extents)) s t v.frontier is.frontier roots beside.count)
                (roots_same v.roots s t is.roots roots beside.count),
          )

      steps : (z : State) × Step (shape v.extents) (formats_of (shape v.extents)) s (MoveOne e) (Moved id k) z × IsStateOf (record v { extents = y; graph = h; index = j }) z
      steps = let done = move v.extents v.graph v.index s whole is.parts y h j e id k payload together (marked_there s is) moved whole_chunk reads_it in at done.0 done.1 done.2

    pub move_steps : StepsOn v disk (MoveOne e) (Moved id k) (record v { extents = y; graph = h; index = j })
    move_steps s is on = steps s is on

  -- ---- it is refused

  module _ (w : Stored) (same : but_for_room w ≡ but_for_room v) (r : Code) (some : NothingLive (index_of v.index) e → ⊥)
      (met : (view : ℕ → List ℕ) → AreNewest v.graph (seen disk) view → (d n : ℕ) (from : Place) → FirstLive (index_of v.index) e d n from
      → IsNoAnswer r ⊎ IsOfFault (fault_in v.extents view Chunk (as_locator from)) r ⊎ ((fault_in v.extents view Chunk (as_locator from) ≡ None) × ((r ≡ code.Full) ⊎ (r ≡ code.WornOut))))
      (why : (view : ℕ → List ℕ) → AreNewest v.graph (seen disk) view → (d n : ℕ) (from : Place) (bytes : List ℕ) → FirstLive (index_of v.index) e d n from → IsFrameIn v.extents view ChunkFrame (as_locator from) bytes
      → IsNoAnswer r ⊎ IsWhy r (NoPlace (shape v.extents) (extents_of v.extents) ForMove (length (chunk_frame v.extents bytes))) (IsFrameWornBy false v.extents ForMove v.graph.staging (length (chunk_frame v.extents bytes)))) where
    module _ (s : State) (is : IsStateOf v s) (on : IsDiskOf (shape v.extents) (formats_of (shape v.extents)) s disk) where
      newest_r : AreNewest v.graph (seen disk) (pages_now (shape v.extents) s (seen disk))
      newest_r = newest_there v whole graph disk size s is on

      first : (id : ℕ) × (k : ℕ) × (l : Place) × FirstLive (index_now s) e id k l
      first = ⊎_elim (λ (f : (id : ℕ) × (k : ℕ) × (l : Place) × FirstLive (index_now s) e id k l). f)
          (λ (none : NothingLive (index_now s) e). absurd (some (none_here s is none)))
          (live_found (shape v.extents) (formats_of (shape v.extents)) (store_shape v.extents whole) (store_format v.extents whole) s e)

      found : FirstLive (index_of v.index) e first.0 first.1 first.2
      found = here s is first.0 first.1 first.2 first.3

      lives : first.2 ∈ live_at (index_of v.index) first.0
      lives = nth_in (live_at (index_of v.index) first.0) first.1 first.2 found.there

      met_here : IsNoAnswer r ⊎ IsOfFault (fault_in v.extents (pages_now (shape v.extents) s (seen disk)) Chunk (as_locator first.2)) r
          ⊎ ((fault_in v.extents (pages_now (shape v.extents) s (seen disk)) Chunk (as_locator first.2) ≡ None) × ((r ≡ code.Full) ⊎ (r ≡ code.WornOut)))
      met_here = met (pages_now (shape v.extents) s (seen disk)) newest_r first.0 first.1 first.2 found

      -- the frame is damaged
      damage_there : (d : IsDamage r) → s.opening.damage first.2 ≡ Some d.ground
      damage_there d = go met_here
        where
          go : IsNoAnswer r ⊎ IsOfFault (fault_in v.extents (pages_now (shape v.extents) s (seen disk)) Chunk (as_locator first.2)) r
              ⊎ ((fault_in v.extents (pages_now (shape v.extents) s (seen disk)) Chunk (as_locator first.2) ≡ None) × ((r ≡ code.Full) ⊎ (r ≡ code.WornOut)))
              → s.opening.damage first.2 ≡ Some d.ground
          go (inl none) = absurd (d.answered none)
          go (inr (inl (f, fault, number))) = live_damaged v.extents s (seen disk) whole is.sound (found_as_much v.extents s is.parts.world.extents) v.index is.parts.index first.0 first.2 f lives fault
              ∙ ap (λ (g : Ground). Some g) (d.of_fault f number)
          go (inr (inr (none, place))) = absurd (d.placed place)

      damage_step : (d : IsDamage r) → Step (shape v.extents) (formats_of (shape v.extents)) s (MoveOne e) (Refused d.ground) s
      damage_step d = (inl (damaged_before (shape v.extents) (formats_of (shape v.extents)) s e (runs_on s is) (marked_not s is) together d.ground (first.0, first.1, first.2, first.3, damage_there d)), refl)

      device_step : Step (shape v.extents) (formats_of (shape v.extents)) s (MoveOne e) (Refused DeviceFault) s
      device_step = (inr (reads_before (shape v.extents) (formats_of (shape v.extents)) s e (runs_on s is) (marked_not s is) together (is.halted ∙ runs) (marked_there s is) (λ none. some (none_here s is none)), refl), refl)

      -- no place, or no number
      module _ (place : (r ≡ code.Full) ⊎ (r ≡ code.WornOut)) where
        no_fault : fault_in v.extents (pages_now (shape v.extents) s (seen disk)) Chunk (as_locator first.2) ≡ None
        no_fault = go met_here
          where
            go : IsNoAnswer r ⊎ IsOfFault (fault_in v.extents (pages_now (shape v.extents) s (seen disk)) Chunk (as_locator first.2)) r
                ⊎ ((fault_in v.extents (pages_now (shape v.extents) s (seen disk)) Chunk (as_locator first.2) ≡ None) × ((r ≡ code.Full) ⊎ (r ≡ code.WornOut)))
                → fault_in v.extents (pages_now (shape v.extents) s (seen disk)) Chunk (as_locator first.2) ≡ None
            go (inl none) = absurd (not_answer r place none)
            go (inr (inl (f, fault, number))) = absurd (not_place r f place number)
            go (inr (inr (none, same_place))) = none

        chunk_whole : s.opening.damage first.2 ≡ None
        chunk_whole = live_whole v.extents s (seen disk) whole is.sound (found_as_much v.extents s is.parts.world.extents) v.index is.parts.index first.0 first.2 lives no_fault

        payload_there : (payload : List ℕ) × ReadsNow (shape v.extents) (formats_of (shape v.extents)) s first.2 ChunkFrame payload
        payload_there = ⊎_elim
            (λ (damage : (f : Ground) × (s.opening.damage first.2 ≡ Some f)). absurd (let clash : Some damage.0 ≡ None = sym damage.1 ∙ chunk_whole in cc clash))
            (λ (chunk : (payload : List ℕ) × ReadsNow (shape v.extents) (formats_of (shape v.extents)) s first.2 ChunkFrame payload). chunk)
            (is.sound.gives.holds first.0 first.2 (nth_in (live_at (index_now s) first.0) first.1 first.2 first.3.there))

        reason : IsWhy r (NoPlace (shape v.extents) (extents_of v.extents) ForMove (length (chunk_frame v.extents payload_there.0))) (IsFrameWornBy false v.extents ForMove v.graph.staging (length (chunk_frame v.extents payload_there.0)))
        reason = ⊎_elim
            (λ (none : IsNoAnswer r). absurd (not_answer r place none))
            (λ (is_why : IsWhy r (NoPlace (shape v.extents) (extents_of v.extents) ForMove (length (chunk_frame v.extents payload_there.0))) (IsFrameWornBy false v.extents ForMove v.graph.staging (length (chunk_frame v.extents payload_there.0)))). is_why)
            (why (pages_now (shape v.extents) s (seen disk)) newest_r first.0 first.1 first.2 payload_there.0 found (frame_read v.extents s is.parts.world.extents (seen disk) whole is.sound first.2 payload_there.0 payload_there.1))

        full_there : NoRoomToMove (shape v.extents) (formats_of (shape v.extents)) s e ↔ NoPlace (shape v.extents) (extents_of v.extents) ForMove (length (chunk_frame v.extents payload_there.0))
        full_there = move_full v.extents v.graph v.index s whole is.parts e first.0 first.1 first.2 payload_there.0 found payload_there.1

        full_step : r ≡ code.Full → Step (shape v.extents) (formats_of (shape v.extents)) s (MoveOne e) (Refused Full) s
        full_step full =
            let none : NoPlace (shape v.extents) (extents_of v.extents) ForMove (length (chunk_frame v.extents payload_there.0))
            = subst (λ (q : Code). IsWhy q (NoPlace (shape v.extents) (extents_of v.extents) ForMove (length (chunk_frame v.extents payload_there.0))) (IsFrameWornBy false v.extents ForMove v.graph.staging (length (chunk_frame v.extents payload_there.0)))) full reason in (
              inl (full_before (shape v.extents) (formats_of (shape v.extents)) s e (runs_on s is) (marked_not s is) together (undamaged s is first.0 first.1 first.2 first.3 chunk_whole)
                  (λ nothing. some (none_here s is nothing)) (full_there.1 none)),
              refl,
            )

        worn_step : r ≡ code.WornOut → Step (shape v.extents) (formats_of (shape v.extents)) s (MoveOne e) (Refused WornOut) s
        worn_step worn =
            let both : (NoPlace (shape v.extents) (extents_of v.extents) ForMove (length (chunk_frame v.extents payload_there.0)) → ⊥) × IsFrameWornBy false v.extents ForMove v.graph.staging (length (chunk_frame v.extents payload_there.0))
            = subst (λ (q : Code). IsWhy q (NoPlace (shape v.extents) (extents_of v.extents) ForMove (length (chunk_frame v.extents payload_there.0))) (IsFrameWornBy false v.extents ForMove v.graph.staging (length (chunk_frame v.extents payload_there.0)))) worn reason in
            let would_pass : WouldPass (shape v.extents) (formats_of (shape v.extents)) s (MoveOne e)
            = (move_worn v.extents v.graph v.index s whole is.parts e first.0 first.1 first.2 payload_there.0 found payload_there.1 is.sound is.bounded together (marked_there s is) chunk_whole both.0).1 both.1 in (
              inl (worn_before (shape v.extents) (formats_of (shape v.extents)) s e (runs_on s is) (marked_not s is) together (undamaged s is first.0 first.1 first.2 first.3 chunk_whole)
                  (λ full. both.0 (full_there.0 full.1)) would_pass),
              refl,
            )

    declines : (r ≡ code.OutOfMemory) ⊎ (r ≡ code.DeviceFault) ⊎ IsDamage r → DeclinesOn v disk (MoveOne e) r w
    declines (inl memory) = inl memory
    declines (inr (inl device)) = inr (DeviceFault, device, λ s is on. (s, device_step s is on, same_state v w s is same))
    declines (inr (inr d)) = inr (d.ground, d.number, λ s is on. (s, damage_step s is on d, same_state v w s is same))

    refused : IsReadRefusal r ⊎ (r ≡ code.Full) ⊎ (r ≡ code.WornOut) → DeclinesOn v disk (MoveOne e) r w
    refused (inl is_read) = declines (read_refusal r is_read)
    refused (inr (inl full)) = inr (Full, full, λ s is on. (s, full_step s is on (inl full) full, same_state v w s is same))
    refused (inr (inr worn)) = inr (WornOut, worn, λ s is on. (s, worn_step s is on (inr worn) worn, same_state v w s is same))

    pub move_refused_answers : IsReadRefusal r ⊎ (r ≡ code.Full) ⊎ (r ≡ code.WornOut) → MoveAnswers v disk e (Err r) w
    unfolding MoveAnswers
    move_refused_answers are = refused are

  -- ---- whatever it answers

  pub move_answers : (result : Result (Option (ShardId × ℕ)) Code) (y : ExtentsState) (h : GraphState) (j : IndexState)
      → (result ≡ Ok None) ↔ NothingLive (index_of v.index) e
      → (result ≡ Ok None → (j ≡ v.index) × (y ≡ v.extents) × (h ≡ v.graph))
      → ((id : ShardId) (k : ℕ) → result ≡ Ok (Some (id, k)) → (payload : List ℕ) × (moved : IsMoved v.index v.extents v.graph e (id_number id) k payload j y h)
      × ((view : ℕ → List ℕ) → AreNewest v.graph (seen disk) view → IsFrameIn v.extents view ChunkFrame (as_locator moved.from) payload))
      → ((view : ℕ → List ℕ) → AreNewest v.graph (seen disk) view → (d n : ℕ) (from : Place) → FirstLive (index_of v.index) e d n from
      → AnswersMove (fault_in v.extents view Chunk (as_locator from)) result)
      → ((view : ℕ → List ℕ) → AreNewest v.graph (seen disk) view → (d n : ℕ) (from : Place) (payload : List ℕ) → FirstLive (index_of v.index) e d n from
      → IsFrameIn v.extents view ChunkFrame (as_locator from) payload → AnswersPlaceBy false v.extents v.graph.staging payload result)
      → IfErr result (λ r. IsReadRefusal r ⊎ (r ≡ code.Full) ⊎ (r ≡ code.WornOut))
      → OnErr result (j ≡ record v.index { room = j.room }) → OnErr result (y ≡ v.extents) → OnErr result (h ≡ record v.graph { room = h.room }) → shape y ≡ shape v.extents
      → MoveAnswers v disk e result (record v { extents = y; graph = h; index = j })
  unfolding MoveAnswers
  move_answers (Ok None) y h j none unchanged moved damaged why refusals refused unwritten unstaged same =
      let u = unchanged refl in
      move_none (record v { extents = y; graph = h; index = j })
      (ap (λ (k : IndexState). record v { extents = y; graph = h; index = k }) u.0 ∙ ap (λ (k : ExtentsState). record v { extents = k; graph = h }) u.1 ∙ ap (λ (k : GraphState). record v { graph = k }) u.2)
      (none.0 refl)
  move_answers (Ok (Some (id, k))) y h j none unchanged moved damaged why refusals refused unwritten unstaged same =
      let m = moved id k refl in
      move_steps (id_number id) k m.0 y h j m.1 same m.2 damaged why
  move_answers (Err r) y h j none unchanged moved damaged why refusals refused unwritten unstaged same =
      move_refused_answers (record v { extents = y; graph = h; index = j }) (roomed v y h j unwritten unstaged refused) r
      (λ nothing. let clash : Err r ≡ Ok None = none.1 nothing in cc clash) damaged why refusals
