-- A copy of a chunk where chunks and runs lie apart is a step of the machine.
use Rattle.std.proofs.Common.{◌≡◌, ◌⊎◌, inl, inr, ⊎_elim, ℕ, ◌≤◌, true, false, List, ◌∷◌, Some, None, Ok, Err, length, refl, sym, ap, ◌∙◌, subst}
use Rattle.std.specs.Prelude.{◌↔◌, IfErr, OnErr, Option, Result}
use Rattle.cs_chunk.specs.Chunks.{IsFrameIn}
use Rattle.cs_chunk.specs.Newest.{AreNewest}
use Rattle.cs_chunk.specs.Reads.{IsNoAnswer, IsOfFault, IsReadRefusal, fault_in}
use Rattle.cs_refusal.specs.declared.refusals.Refusal.{Refusal as Code}
use Rattle.cs_refusal.specs.declared.refusals.Refusal.TheVariants as code
use Rattle.cs_deps.specs.State.{IsWhole as IsWholeGraph, State as GraphState}
use Rattle.cs_disk.specs.Disk.{State as DiskState, seen}
use Rattle.cs_extent.specs.State.{IsWhole, State as ExtentsState, extents_of, shape}
use Rattle.cs_extent.specs.Worn.{IsFrameWornBy}
use Rattle.cs_frame.specs.declared.frames.FrameKind.TheVariants.{Chunk}
use Rattle.cs_frame.specs.declared.identifiers.ShardId.{ShardId}
use Rattle.cs_frame.specs.Formats.{as_locator, formats_of}
use Rattle.cs_index.proofs.Living.{nth_in}
use Rattle.cs_index.specs.Staged.{IsWhy}
use Rattle.cs_index.specs.State.{id_number, index_of}
use Rattle.law_machine.proofs.AnsweredSweeps.{some_left}
use Rattle.law_machine.proofs.ApartAnswered.{left_found}
use Rattle.law_machine.proofs.Limits.{not_past}
use Rattle.law_machine.specs.Apart.{AllCopied, DamagedLeft, FirstLeft, FirstUncopied, NoRoomToCopy, NothingLeft}
use Rattle.law_machine.specs.Device.{Shape}
use Rattle.law_machine.specs.Element.{Copy, Locator as Place}
use Rattle.law_machine.specs.Events.{Does, ReadsNow}
use Rattle.law_machine.specs.Extents.{ForMove}
use Rattle.law_machine.specs.Formats.{ChunkFrame, Formats}
use Rattle.law_machine.specs.Grounds.{PastLimit, Refuses, WouldPass}
use Rattle.law_machine.specs.Index.{live_at}
use Rattle.law_machine.specs.Lists.{◌∈◌}
use Rattle.law_machine.specs.Refusal.{DeviceFault, Full, Refusal as Ground, WornOut}
use Rattle.law_machine.specs.State.{MoveOne, Moved, NoneLive, Refused, Reply, State, index_now}
use Rattle.law_machine.specs.Step.{Step}
use Rattle.law_refinement.specs.cs_reclaim.Copied.{IsCopyMade}
use Rattle.law_refinement.specs.cs_reclaim.Moves.{AnswersMove, AnswersPlaceBy, NowhereBy, chunk_frame}
use Rattle.law_refinement.proofs.CallsApart.{none_left}
use Rattle.law_refinement.proofs.CopiesMade.{copy}
use Rattle.law_refinement.proofs.DoesApart.{moved as did_copy, none_moved}
use Rattle.law_refinement.proofs.RefusedSweeps.{copy_damaged, copy_full, copy_worn, first_left, nothing_left}
use Rattle.law_refinement.proofs.FoundShards.{live_damaged, live_payload, live_whole}
use Rattle.law_refinement.proofs.Shapes.{store_format, store_shape}
use Rattle.law_refinement.specs.Copying.{AreAllPartsOf}
use Rattle.law_refinement.specs.Devices.{IsDiskOf, pages_now}
use Rattle.cs_core.specs.Reads.{DeclinesOn, MoveAnswers, StepsOn}
use Rattle.cs_core.specs.States.{IsStateOf}
use Rattle.cs_core.specs.Stored.{Stored, but_for_room}
use Rattle.cs_core.proofs.Damage.{IsDamage, read_refusal}
use Rattle.cs_core.proofs.FramesRead.{found_as_much, frame_read}
use Rattle.cs_core.proofs.Gets.{newest_there}
use Rattle.cs_core.proofs.Going.{Beside, beside_is, frontier_same, goes_on, going, roots_same, same_state}
use Rattle.cs_core.proofs.MoveGrounds.{damaged_apart, full_apart, none_apart, reads_apart, worn_apart}
use Rattle.cs_core.proofs.MoveSteps.{not_answer, not_place}
use Rattle.cs_core.proofs.RootsStay.{SameRoots, append_stays_by}
use Rattle.cs_core.proofs.SweepSteps.{all_parts, is_marked}
use Rattle.cs_reader.specs.ImageReads.{page_total}

-- a store that differs in room alone
roomed_copies : (v : Stored) (y : ExtentsState) (h : GraphState) (after : List Copy) → y ≡ v.extents → h ≡ record v.graph { room = h.room } → after ≡ v.copies
    → but_for_room (record v { extents = y; graph = h; copies = after }) ≡ but_for_room v
roomed_copies v y h after extents graph copies =
    ap (λ (k : ExtentsState). but_for_room (record v { extents = k; graph = h; copies = after })) extents
    ∙ ap (λ (cs : List Copy). but_for_room (record v { graph = h; copies = cs })) copies
    ∙ ap (λ (k : GraphState). but_for_room (record v { graph = k })) graph

module _ (v : Stored) (whole : IsWhole v.extents) (graph : IsWholeGraph v.graph) (runs : v.halted ≡ false) (disk : DiskState) (size : page_total (shape v.extents) ≤ length disk.durable)
    (e : ℕ) (yes : (extents_of v.extents).swept e ≡ true) (apart : (shape v.extents).apart ≡ true) where
  abbrev S : Shape
  S = shape v.extents

  abbrev F : Formats
  F = formats_of (shape v.extents)

  module _ (s : State) (is : IsStateOf v s) where
    runs_on : s.halted ≡ true → ⊥
    runs_on = going s.halted (is.halted ∙ runs)

    marked_there : s.world.extents.swept e ≡ true
    marked_there = is_marked v whole runs e yes s is

    marked_not : s.world.extents.swept e ≡ false → ⊥
    marked_not not = going (s.world.extents.swept e) not marked_there

    left_there : (id k : ℕ) (l : Place) → FirstUncopied (index_of v.index) v.copies e id k l → FirstLeft s e id k l
    left_there id k l first = (first_left v.extents v.graph v.index v.copies s (all_parts v s is) e id k l).1 first

    none_there : AllCopied (index_of v.index) v.copies e → NothingLeft s e
    none_there all = (nothing_left v.extents v.graph v.index v.copies s (all_parts v s is) e).1 all

    none_here : NothingLeft s e → AllCopied (index_of v.index) v.copies e
    none_here none = (nothing_left v.extents v.graph v.index v.copies s (all_parts v s is) e).0 none

    -- what copies nothing takes no number past its greatest
    module _ (nothing : NothingLeft s e) where
      no_first : (id k : ℕ) (l : Place) → FirstLeft s e id k l → ⊥
      no_first id k l first = some_left S F (store_shape v.extents whole) (store_format v.extents whole) s e id k l first nothing

      would : (reply : Reply) (t : State) → Does S F s (MoveOne e) reply t → PastLimit S F t → ⊥
      would NoneLive t d over = not_past S F s is.sound is.bounded (subst (λ (u : State). PastLimit S F u) (none_moved S F apart s t e d).2 over)
      would (Moved id k) t d over = let did = did_copy S F apart s t e id k d in no_first id k did.0 did.5
      would reply t d over = d

      none_refuses : (f : Ground) → Refuses S F s (MoveOne e) f → ⊥
      none_refuses = none_apart S F s e runs_on marked_not apart (λ f d. no_first d.0 d.1 d.2 d.3) (λ full. full.0 nothing) (λ w. would w.0 w.1 w.2 w.3)

    -- the first chunk that is left
    module _ (id k : ℕ) (l : Place) (first : FirstUncopied (index_of v.index) v.copies e id k l) (whole_chunk : s.opening.damage l ≡ None) where
      undamaged : (f : Ground) → DamagedLeft S F s e f → ⊥
      undamaged f d = let clash : Some f ≡ None = sym ((copy_damaged v.extents v.graph v.index v.copies s (all_parts v s is) whole e id k l first f).0 d) ∙ whole_chunk in cc clash

  -- ---- nothing is left there

  pub copy_none : (w : Stored) → w ≡ v → AllCopied (index_of v.index) v.copies e → MoveAnswers v disk e (Ok None) w
  unfolding MoveAnswers
  copy_none w same all s is on = (
    s,
    (none_refuses s is (none_there s is all), none_left v.extents v.graph v.index v.copies s apart (all_parts v s is) e yes all),
    subst (λ (u : Stored). IsStateOf u s) (sym same) is,
  )

  -- ---- a chunk is copied

  module _ (id k : ℕ) (payload : List ℕ) (y : ExtentsState) (h : GraphState) (after : List Copy) (made : IsCopyMade v.index v.extents v.graph v.copies e id k payload after y h) (same : shape y ≡ shape v.extents)
      (frame : (view : ℕ → List ℕ) → AreNewest v.graph (seen disk) view → IsFrameIn v.extents view ChunkFrame (as_locator made.from) payload)
      (sane : (view : ℕ → List ℕ) → AreNewest v.graph (seen disk) view → (d n : ℕ) (from : Place) → FirstUncopied (index_of v.index) v.copies e d n from → fault_in v.extents view Chunk (as_locator from) ≡ None)
      (why : (view : ℕ → List ℕ) → AreNewest v.graph (seen disk) view → (d n : ℕ) (from : Place) (bytes : List ℕ) → FirstUncopied (index_of v.index) v.copies e d n from → IsFrameIn v.extents view ChunkFrame (as_locator from) bytes
      → (NowhereBy true v.extents (length (chunk_frame v.extents bytes)) → ⊥) × (IsFrameWornBy true v.extents ForMove v.graph.staging (length (chunk_frame v.extents bytes)) → ⊥)) where
    module _ (s : State) (is : IsStateOf v s) (on : IsDiskOf (shape v.extents) (formats_of (shape v.extents)) s disk) where
      newest : AreNewest v.graph (seen disk) (pages_now (shape v.extents) s (seen disk))
      newest = newest_there v whole graph disk size s is on

      has : made.from ∈ live_at (index_of v.index) id
      has = nth_in (live_at (index_of v.index) id) k made.from made.first.there

      whole_chunk : s.opening.damage made.from ≡ None
      whole_chunk = live_whole v.extents s (seen disk) whole is.sound (found_as_much v.extents s is.parts.world.extents) v.index is.parts.index id made.from has (sane (pages_now (shape v.extents) s (seen disk)) newest id k made.from made.first)

      reads_it : ReadsNow (shape v.extents) (formats_of (shape v.extents)) s made.from ChunkFrame payload
      reads_it = live_payload v.extents s (seen disk) whole is.sound (found_as_much v.extents s is.parts.world.extents) v.index is.parts.index id made.from payload has (frame (pages_now (shape v.extents) s (seen disk)) newest)

      reasons : (NowhereBy true v.extents (length (chunk_frame v.extents payload)) → ⊥) × (IsFrameWornBy true v.extents ForMove v.graph.staging (length (chunk_frame v.extents payload)) → ⊥)
      reasons = why (pages_now (shape v.extents) s (seen disk)) newest id k made.from payload made.first (frame (pages_now (shape v.extents) s (seen disk)) newest)

      refuses : (f : Ground) → Refuses (shape v.extents) (formats_of (shape v.extents)) s (MoveOne e) f → ⊥
      refuses = none_apart S F s e (runs_on s is) (marked_not s is) apart (undamaged s is id k made.from made.first whole_chunk)
          (λ full. reasons.0 ((copy_full v.extents v.graph v.index v.copies s (all_parts v s is) whole e id k made.from made.first payload reads_it).0 full.1))
          (λ w. reasons.1 ((copy_worn v.extents v.graph v.index v.copies s (all_parts v s is) whole e id k made.from made.first payload reads_it apart is.sound is.bounded
          (marked_there s is) whole_chunk reasons.0).0 w))

      at : (t : State) → Does (shape v.extents) (formats_of (shape v.extents)) s (MoveOne e) (Moved id k) t → AreAllPartsOf y h v.index after t
          → (z : State) × Step (shape v.extents) (formats_of (shape v.extents)) s (MoveOne e) (Moved id k) z × IsStateOf (record v { extents = y; graph = h; copies = after }) z
      at t does parts =
          let did = did_copy S F apart s t e id k does in
          let u : State = record s { world = did.8.0; copies = record { id = id; chunk = k; from = did.0; to = did.1 } ∷ s.copies } in
          let tis : t ≡ u = did.9 ∙ ap (λ (m : State). record m { copies = record { id = id; chunk = k; from = did.0; to = did.1 } ∷ m.copies }) did.8.2 in
          let step : Step (shape v.extents) (formats_of (shape v.extents)) s (MoveOne e) (Moved id k) t = (refuses, does) in
          let beside : Beside s t = beside_is s t u tis (record { round_out = refl; left = refl; issued = refl; halted = refl; count = refl }) in
          let roots : SameRoots s.world t.world = subst (λ (z : State). SameRoots s.world z.world) (sym tis)
          (append_stays_by true (shape v.extents) s.world did.8.0 ForMove ((formats_of (shape v.extents)).frame ChunkFrame did.2) did.1 did.8.1) in (
            t,
            step,
            goes_on v (record v { extents = y; graph = h; copies = after }) s t (MoveOne e) (Moved id k) whole is step same parts.parts parts.same_copies beside refl refl refl refl
                (ap (λ (z : State). length z.commands) tis ∙ is.accepted)
                (frontier_same (shape v.extents) (formats_of (shape v.extents)) s t v.frontier is.frontier roots beside.count)
                (roots_same v.roots s t is.roots roots beside.count),
          )

      steps : (z : State) × Step (shape v.extents) (formats_of (shape v.extents)) s (MoveOne e) (Moved id k) z × IsStateOf (record v { extents = y; graph = h; copies = after }) z
      steps = let done = copy v.extents v.graph v.index v.copies s apart (all_parts v s is) y h e id k payload after whole yes made whole_chunk reads_it in at done.0 done.1 done.2

    pub copy_steps : StepsOn v disk (MoveOne e) (Moved id k) (record v { extents = y; graph = h; copies = after })
    copy_steps s is on = steps s is on

  -- ---- it is refused

  module _ (w : Stored) (same : but_for_room w ≡ but_for_room v) (r : Code) (some : AllCopied (index_of v.index) v.copies e → ⊥)
      (met : (view : ℕ → List ℕ) → AreNewest v.graph (seen disk) view → (d n : ℕ) (from : Place) → FirstUncopied (index_of v.index) v.copies e d n from
      → IsNoAnswer r ⊎ IsOfFault (fault_in v.extents view Chunk (as_locator from)) r ⊎ ((fault_in v.extents view Chunk (as_locator from) ≡ None) × ((r ≡ code.Full) ⊎ (r ≡ code.WornOut))))
      (why : (view : ℕ → List ℕ) → AreNewest v.graph (seen disk) view → (d n : ℕ) (from : Place) (bytes : List ℕ) → FirstUncopied (index_of v.index) v.copies e d n from → IsFrameIn v.extents view ChunkFrame (as_locator from) bytes
      → IsNoAnswer r ⊎ IsWhy r (NowhereBy true v.extents (length (chunk_frame v.extents bytes))) (IsFrameWornBy true v.extents ForMove v.graph.staging (length (chunk_frame v.extents bytes)))) where
    module _ (s : State) (is : IsStateOf v s) (on : IsDiskOf (shape v.extents) (formats_of (shape v.extents)) s disk) where
      newest_r : AreNewest v.graph (seen disk) (pages_now (shape v.extents) s (seen disk))
      newest_r = newest_there v whole graph disk size s is on

      first : (id : ℕ) × (k : ℕ) × (l : Place) × FirstLeft s e id k l
      first = ⊎_elim (λ (f : (id : ℕ) × (k : ℕ) × (l : Place) × FirstLeft s e id k l). f)
          (λ (none : NothingLeft s e). absurd (some (none_here s is none)))
          (left_found (shape v.extents) (formats_of (shape v.extents)) (store_shape v.extents whole) (store_format v.extents whole) s e)

      found : FirstUncopied (index_of v.index) v.copies e first.0 first.1 first.2
      found = (first_left v.extents v.graph v.index v.copies s (all_parts v s is) e first.0 first.1 first.2).0 first.3

      lives : first.2 ∈ live_at (index_of v.index) first.0
      lives = nth_in (live_at (index_of v.index) first.0) first.1 first.2 found.there

      met_here : IsNoAnswer r ⊎ IsOfFault (fault_in v.extents (pages_now (shape v.extents) s (seen disk)) Chunk (as_locator first.2)) r
          ⊎ ((fault_in v.extents (pages_now (shape v.extents) s (seen disk)) Chunk (as_locator first.2) ≡ None) × ((r ≡ code.Full) ⊎ (r ≡ code.WornOut)))
      met_here = met (pages_now (shape v.extents) s (seen disk)) newest_r first.0 first.1 first.2 found

      -- the frame is damaged
      damage_there : (d : IsDamage r) → s.opening.damage first.2 ≡ Some d.ground
      damage_there d = go met_here
        where
          go : IsNoAnswer r ⊎ IsOfFault (fault_in v.extents (pages_now (shape v.extents) s (seen disk)) Chunk (as_locator first.2)) r
              ⊎ ((fault_in v.extents (pages_now (shape v.extents) s (seen disk)) Chunk (as_locator first.2) ≡ None) × ((r ≡ code.Full) ⊎ (r ≡ code.WornOut)))
              → s.opening.damage first.2 ≡ Some d.ground
          go (inl none) = absurd (d.answered none)
          go (inr (inl (f, fault, number))) = live_damaged v.extents s (seen disk) whole is.sound (found_as_much v.extents s is.parts.world.extents) v.index is.parts.index first.0 first.2 f lives fault
              ∙ ap (λ (g : Ground). Some g) (d.of_fault f number)
          go (inr (inr (none, place))) = absurd (d.placed place)

      damage_step : (d : IsDamage r) → Step (shape v.extents) (formats_of (shape v.extents)) s (MoveOne e) (Refused d.ground) s
      damage_step d = (inl (damaged_apart S F s e (runs_on s is) (marked_not s is) apart d.ground (first.0, first.1, first.2, first.3, damage_there d)), refl)

      device_step : Step (shape v.extents) (formats_of (shape v.extents)) s (MoveOne e) (Refused DeviceFault) s
      device_step = (inr (reads_apart S F s e (runs_on s is) (marked_not s is) apart (is.halted ∙ runs) (marked_there s is) (λ none. some (none_here s is none)), refl), refl)

      -- no place, or no number
      module _ (place : (r ≡ code.Full) ⊎ (r ≡ code.WornOut)) where
        no_fault : fault_in v.extents (pages_now (shape v.extents) s (seen disk)) Chunk (as_locator first.2) ≡ None
        no_fault = go met_here
          where
            go : IsNoAnswer r ⊎ IsOfFault (fault_in v.extents (pages_now (shape v.extents) s (seen disk)) Chunk (as_locator first.2)) r
                ⊎ ((fault_in v.extents (pages_now (shape v.extents) s (seen disk)) Chunk (as_locator first.2) ≡ None) × ((r ≡ code.Full) ⊎ (r ≡ code.WornOut)))
                → fault_in v.extents (pages_now (shape v.extents) s (seen disk)) Chunk (as_locator first.2) ≡ None
            go (inl none) = absurd (not_answer r place none)
            go (inr (inl (f, fault, number))) = absurd (not_place r f place number)
            go (inr (inr (none, same_place))) = none

        chunk_whole : s.opening.damage first.2 ≡ None
        chunk_whole = live_whole v.extents s (seen disk) whole is.sound (found_as_much v.extents s is.parts.world.extents) v.index is.parts.index first.0 first.2 lives no_fault

        payload_there : (payload : List ℕ) × ReadsNow (shape v.extents) (formats_of (shape v.extents)) s first.2 ChunkFrame payload
        payload_there = ⊎_elim
            (λ (damage : (f : Ground) × (s.opening.damage first.2 ≡ Some f)). absurd (let clash : Some damage.0 ≡ None = sym damage.1 ∙ chunk_whole in cc clash))
            (λ (chunk : (payload : List ℕ) × ReadsNow (shape v.extents) (formats_of (shape v.extents)) s first.2 ChunkFrame payload). chunk)
            (is.sound.gives.holds first.0 first.2 (nth_in (live_at (index_now s) first.0) first.1 first.2 first.3.there))

        abbrev Nowhere : Type 0
        Nowhere = NowhereBy true v.extents (length (chunk_frame v.extents payload_there.0))

        abbrev Worn : Type 0
        Worn = IsFrameWornBy true v.extents ForMove v.graph.staging (length (chunk_frame v.extents payload_there.0))

        reason : IsWhy r Nowhere Worn
        reason = ⊎_elim
            (λ (none : IsNoAnswer r). absurd (not_answer r place none))
            (λ (is_why : IsWhy r Nowhere Worn). is_why)
            (why (pages_now (shape v.extents) s (seen disk)) newest_r first.0 first.1 first.2 payload_there.0 found (frame_read v.extents s is.parts.world.extents (seen disk) whole is.sound first.2 payload_there.0 payload_there.1))

        full_there : NoRoomToCopy S F s e ↔ Nowhere
        full_there = copy_full v.extents v.graph v.index v.copies s (all_parts v s is) whole e first.0 first.1 first.2 found payload_there.0 payload_there.1

        full_step : r ≡ code.Full → Step (shape v.extents) (formats_of (shape v.extents)) s (MoveOne e) (Refused Full) s
        full_step full =
            let none : Nowhere = subst (λ (q : Code). IsWhy q Nowhere Worn) full reason in (
              inl (full_apart S F s e (runs_on s is) (marked_not s is) apart (undamaged s is first.0 first.1 first.2 found chunk_whole) (λ nothing. some (none_here s is nothing)) (full_there.1 none)),
              refl,
            )

        worn_step : r ≡ code.WornOut → Step (shape v.extents) (formats_of (shape v.extents)) s (MoveOne e) (Refused WornOut) s
        worn_step worn =
            let both : (Nowhere → ⊥) × Worn = subst (λ (q : Code). IsWhy q Nowhere Worn) worn reason in
            let would_pass : WouldPass S F s (MoveOne e)
            = (copy_worn v.extents v.graph v.index v.copies s (all_parts v s is) whole e first.0 first.1 first.2 found payload_there.0 payload_there.1 apart is.sound is.bounded
            (marked_there s is) chunk_whole both.0).1 both.1 in (
              inl (worn_apart S F s e (runs_on s is) (marked_not s is) apart (undamaged s is first.0 first.1 first.2 found chunk_whole) (λ full. both.0 (full_there.0 full.1)) would_pass),
              refl,
            )

    declines : (r ≡ code.OutOfMemory) ⊎ (r ≡ code.DeviceFault) ⊎ IsDamage r → DeclinesOn v disk (MoveOne e) r w
    declines (inl memory) = inl memory
    declines (inr (inl device)) = inr (DeviceFault, device, λ s is on. (s, device_step s is on, same_state v w s is same))
    declines (inr (inr d)) = inr (d.ground, d.number, λ s is on. (s, damage_step s is on d, same_state v w s is same))

    refused : IsReadRefusal r ⊎ (r ≡ code.Full) ⊎ (r ≡ code.WornOut) → DeclinesOn v disk (MoveOne e) r w
    refused (inl is_read) = declines (read_refusal r is_read)
    refused (inr (inl full)) = inr (Full, full, λ s is on. (s, full_step s is on (inl full) full, same_state v w s is same))
    refused (inr (inr worn)) = inr (WornOut, worn, λ s is on. (s, worn_step s is on (inr worn) worn, same_state v w s is same))

    pub copy_refused_answers : IsReadRefusal r ⊎ (r ≡ code.Full) ⊎ (r ≡ code.WornOut) → MoveAnswers v disk e (Err r) w
    unfolding MoveAnswers
    copy_refused_answers are = refused are

  -- ---- whatever it answers

  pub copy_answers : (result : Result (Option (ShardId × ℕ)) Code) (y : ExtentsState) (h : GraphState) (after : List Copy)
      → (result ≡ Ok None) ↔ AllCopied (index_of v.index) v.copies e
      → (result ≡ Ok None → (after ≡ v.copies) × (y ≡ v.extents) × (h ≡ v.graph))
      → ((id : ShardId) (k : ℕ) → result ≡ Ok (Some (id, k)) → (payload : List ℕ) × (made : IsCopyMade v.index v.extents v.graph v.copies e (id_number id) k payload after y h)
      × ((view : ℕ → List ℕ) → AreNewest v.graph (seen disk) view → IsFrameIn v.extents view ChunkFrame (as_locator made.from) payload))
      → ((view : ℕ → List ℕ) → AreNewest v.graph (seen disk) view → (d n : ℕ) (from : Place) → FirstUncopied (index_of v.index) v.copies e d n from
      → AnswersMove (fault_in v.extents view Chunk (as_locator from)) result)
      → ((view : ℕ → List ℕ) → AreNewest v.graph (seen disk) view → (d n : ℕ) (from : Place) (payload : List ℕ) → FirstUncopied (index_of v.index) v.copies e d n from
      → IsFrameIn v.extents view ChunkFrame (as_locator from) payload → AnswersPlaceBy true v.extents v.graph.staging payload result)
      → IfErr result (λ r. IsReadRefusal r ⊎ (r ≡ code.Full) ⊎ (r ≡ code.WornOut))
      → OnErr result (after ≡ v.copies) → OnErr result (y ≡ v.extents) → OnErr result (h ≡ record v.graph { room = h.room }) → shape y ≡ shape v.extents
      → MoveAnswers v disk e result (record v { extents = y; graph = h; copies = after })
  unfolding MoveAnswers
  copy_answers (Ok None) y h after none unchanged copied damaged why refusals refused unwritten unstaged same =
      let u = unchanged refl in
      copy_none (record v { extents = y; graph = h; copies = after })
      (ap (λ (cs : List Copy). record v { extents = y; graph = h; copies = cs }) u.0 ∙ ap (λ (k : ExtentsState). record v { extents = k; graph = h }) u.1 ∙ ap (λ (k : GraphState). record v { graph = k }) u.2)
      (none.0 refl)
  copy_answers (Ok (Some (id, k))) y h after none unchanged copied damaged why refusals refused unwritten unstaged same =
      let c = copied id k refl in
      copy_steps (id_number id) k c.0 y h after c.1 same c.2 damaged why
  copy_answers (Err r) y h after none unchanged copied damaged why refusals refused unwritten unstaged same =
      copy_refused_answers (record v { extents = y; graph = h; copies = after }) (roomed_copies v y h after unwritten unstaged refused) r
      (λ nothing. let clash : Err r ≡ Ok None = none.1 nothing in cc clash) damaged why refusals
