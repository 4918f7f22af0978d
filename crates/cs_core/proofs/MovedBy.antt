-- A chunk is moved off an extent, by the rule of the format.
use Rattle.std.proofs.Common.{◌≡◌, ◌⊎◌, ℕ, ◌≤◌, Bool, true, false, List, Option, Some, None, Result, Ok, Err, length, refl, sym, ap, subst}
use Rattle.std.specs.Prelude.{◌↔◌, IfErr, OnErr, OnOk}
use Rattle.cs_chunk.specs.Chunks.{IsFrameIn}
use Rattle.cs_chunk.specs.Newest.{AreNewest}
use Rattle.cs_chunk.specs.Reads.{IsReadRefusal, fault_in}
use Rattle.cs_refusal.specs.declared.refusals.Refusal.{Refusal as Code}
use Rattle.cs_refusal.specs.declared.refusals.Refusal.TheVariants as code
use Rattle.cs_deps.specs.State.{IsWhole as IsWholeGraph, State as GraphState}
use Rattle.cs_disk.specs.Disk.{State as DiskState, seen}
use Rattle.cs_extent.specs.Appended.{IsReady}
use Rattle.cs_extent.specs.State.{IsWhole, State as ExtentsState, extents_of, shape}
use Rattle.cs_frame.specs.declared.frames.FrameKind.TheVariants.{Chunk}
use Rattle.cs_frame.specs.declared.identifiers.ShardId.{ShardId}
use Rattle.cs_frame.specs.Formats.{as_locator}
use Rattle.cs_index.specs.State.{State as IndexState, id_number, index_of}
use Rattle.law_machine.specs.Element.{Copy, Locator as Place}
use Rattle.law_machine.specs.Formats.{ChunkFrame}
use Rattle.law_machine.specs.Index.{live_at}
use Rattle.law_refinement.specs.cs_reclaim.ByRule.{IsMovedBy, IsNextBy, NothingToMoveBy, StaysBy}
use Rattle.law_refinement.specs.cs_reclaim.Copied.{AllUpTo, AreInOrder, IsCopyMade}
use Rattle.law_refinement.specs.cs_reclaim.Moves.{AnswersMove, AnswersPlaceBy, IsMoved}
use Rattle.cs_core.specs.Puts.{MeansTheSame}
use Rattle.cs_core.specs.Reads.{MoveAnswers}
use Rattle.cs_core.specs.Stored.{IsKept, StagesBehind, Stored}
use Rattle.cs_core.proofs.Going.{same_index}
use Rattle.cs_core.proofs.KeptCopies.{copy_behind, copy_round, kept_copied}
use Rattle.cs_core.proofs.KeptMoves.{kept_moved, move_behind, move_round}
use Rattle.cs_core.proofs.MovesApart.{copy_answers}
use Rattle.cs_core.proofs.MoveSteps.{move_answers}
use Rattle.cs_core.proofs.PutsMeant.{live_means}
use Rattle.cs_core.proofs.Saying.{move_means}
use Rattle.cs_reader.specs.ImageReads.{page_total}

-- ---- what a move is said to have done

-- nothing changed where nothing was left
abbrev pub ChangesNothing : IndexState → ExtentsState → GraphState → List Copy → IndexState → ExtentsState → GraphState → List Copy → Result (Option (ShardId × ℕ)) Code → Type 0
ChangesNothing i x g copies j y h after result = result ≡ Ok None → (after ≡ copies) × (j ≡ i) × (y ≡ x) × (h ≡ g)

-- else the next chunk was moved
abbrev pub MovesNext : (b : Bool) → IndexState → ExtentsState → GraphState → List Copy → ℕ → IndexState → ExtentsState → GraphState → List Copy → Result (Option (ShardId × ℕ)) Code → Type 0
MovesNext b i x g copies e j y h after result = (id : ShardId) (k : ℕ) → result ≡ Ok (Some (id, k))
    → (payload : List ℕ) × (from : Place) × IsMovedBy b i x g copies e (id_number id) k from payload j y h after

-- the copies are the same where chunks and runs may lie on one extent
copies_stay : (i : IndexState) (x : ExtentsState) (g : GraphState) (copies : List Copy) (e : ℕ) (j : IndexState) (y : ExtentsState) (h : GraphState) (after : List Copy) (result : Result (Option (ShardId × ℕ)) Code)
    → ChangesNothing i x g copies j y h after result → MovesNext false i x g copies e j y h after result → OnErr result (after ≡ copies) → after ≡ copies
copies_stay i x g copies e j y h after (Ok None) unchanged moved kept = (unchanged refl).0
copies_stay i x g copies e j y h after (Ok (Some (id, k))) unchanged moved kept = (moved id k refl).2.2
copies_stay i x g copies e j y h after (Err r) unchanged moved kept = kept

-- the index is the same where they lie apart
index_stays : (i : IndexState) (x : ExtentsState) (g : GraphState) (copies : List Copy) (e : ℕ) (j : IndexState) (y : ExtentsState) (h : GraphState) (after : List Copy) (result : Result (Option (ShardId × ℕ)) Code)
    → ChangesNothing i x g copies j y h after result → MovesNext true i x g copies e j y h after result → OnErr result (StaysBy true i j) → j ≡ i
index_stays i x g copies e j y h after (Ok None) unchanged moved refused = (unchanged refl).1
index_stays i x g copies e j y h after (Ok (Some (id, k))) unchanged moved refused = (moved id k refl).2.2
index_stays i x g copies e j y h after (Err r) unchanged moved refused = refused

module _ (i : IndexState) (x : ExtentsState) (g : GraphState) (copies : List Copy) (e : ℕ) (j : IndexState) (y : ExtentsState) (h : GraphState) (after : List Copy) (result : Result (Option (ShardId × ℕ)) Code)
    (unchanged : ChangesNothing i x g copies j y h after result) where
  -- the same, by each rule's own words
  nothing_before : result ≡ Ok None → (j ≡ i) × (y ≡ x) × (h ≡ g)
  nothing_before is = let u = unchanged is in (u.1, u.2, u.3)

  nothing_apart : result ≡ Ok None → (after ≡ copies) × (y ≡ x) × (h ≡ g)
  nothing_apart is = let u = unchanged is in (u.0, u.2, u.3)

  moved_before : MovesNext false i x g copies e j y h after result → (id : ShardId) (k : ℕ) → result ≡ Ok (Some (id, k)) → (payload : List ℕ) × IsMoved i x g e (id_number id) k payload j y h
  moved_before moved id k is = let m = moved id k is in (m.0, m.2.0)

  copied_apart : MovesNext true i x g copies e j y h after result → (id : ShardId) (k : ℕ) → result ≡ Ok (Some (id, k)) → (payload : List ℕ) × IsCopyMade i x g copies e (id_number id) k payload after y h
  copied_apart moved id k is = let m = moved id k is in (m.0, m.2.0)

  -- the round that is out stays
  pub move_round_by : (b : Bool) → MovesNext b i x g copies e j y h after result → OnErr result (h ≡ record g { room = h.room }) → h.round ≡ g.round
  move_round_by false moved unstaged = move_round i x g e j y h result nothing_before (moved_before moved) unstaged
  move_round_by true moved unstaged = copy_round i x g copies e after y h result nothing_apart (copied_apart moved) unstaged

  -- what a move stages
  pub move_behind_by : (b : Bool) → MovesNext b i x g copies e j y h after result → OnOk result (StagesBehind g.staging.pending h.staging.pending)
  move_behind_by false moved = move_behind i x g e j y h result nothing_before (moved_before moved)
  move_behind_by true moved = copy_behind i x g copies e after y h result nothing_apart (copied_apart moved)

  -- it leaves what places mean
  pub move_means_by : (b : Bool) → MovesNext b i x g copies e j y h after result → OnErr result (StaysBy b i j) → OnOk result (MeansTheSame i j)
  move_means_by false moved refused = move_means i x g e j y h result nothing_before (moved_before moved)
  move_means_by true moved refused = always result (live_means i j (λ id. ap (λ (k : IndexState). live_at (index_of k) id) (index_stays i x g copies e j y h after result unchanged moved refused)))
    where
      always : {P : Type 0} (r : Result (Option (ShardId × ℕ)) Code) → P → OnOk r P
      always (Ok m) p = p
      always (Err r) p = tt

-- an index that stays differs in room alone, by either rule
pub stays_roomed : (b : Bool) (i j : IndexState) → StaysBy b i j → j ≡ record i { room = j.room }
stays_roomed false i j stays = stays
stays_roomed true i j stays = same_index i j stays

-- ---- what is kept

module _ (v : Stored) (kept : IsKept v) (e : ℕ) (marks : (extents_of v.extents).swept e ≡ true) (y : ExtentsState) (h : GraphState) (j : IndexState) (after : List Copy)
    (ready : IsReady y h.staging) (same : shape y ≡ shape v.extents)
    (format : j.format ≡ v.index.format) (limit : j.limit ≡ v.index.limit) where
  pub kept_moved_by : (b : Bool) → (shape v.extents).apart ≡ b → (b ≡ true → AreInOrder after) → (b ≡ true → AllUpTo (index_of j) after e) → (result : Result (Option (ShardId × ℕ)) Code)
      → ChangesNothing v.index v.extents v.graph v.copies j y h after result → MovesNext b v.index v.extents v.graph v.copies e j y h after result
      → OnErr result (StaysBy b v.index j) → OnErr result (after ≡ v.copies) → OnErr result (y ≡ v.extents) → OnErr result (h ≡ record v.graph { room = h.room })
      → IsKept (record v { extents = y; graph = h; index = j; copies = after })
  kept_moved_by false rule order up_to result unchanged moved refused stay unwritten unstaged =
      subst (λ (cs : List Copy). IsKept (record v { extents = y; graph = h; index = j; copies = cs })) (sym (copies_stay v.index v.extents v.graph v.copies e j y h after result unchanged moved stay))
      (kept_moved v kept rule e y h j ready same format limit result
      (nothing_before v.index v.extents v.graph v.copies e j y h after result unchanged) (moved_before v.index v.extents v.graph v.copies e j y h after result unchanged moved) refused unwritten unstaged)
  kept_moved_by true rule order up_to result unchanged moved refused stay unwritten unstaged =
      let index = index_stays v.index v.extents v.graph v.copies e j y h after result unchanged moved refused in
      subst (λ (k : IndexState). IsKept (record v { extents = y; graph = h; index = k; copies = after })) (sym index)
      (kept_copied v kept rule e marks y h after ready same (order refl) (subst (λ (k : IndexState). AllUpTo (index_of k) after e) index (up_to refl)) result
      (nothing_apart v.index v.extents v.graph v.copies e j y h after result unchanged) (copied_apart v.index v.extents v.graph v.copies e j y h after result unchanged moved) stay unwritten unstaged)

-- ---- what is answered

module _ (v : Stored) (whole : IsWhole v.extents) (graph : IsWholeGraph v.graph) (runs : v.halted ≡ false) (disk : DiskState) (size : page_total (shape v.extents) ≤ length disk.durable)
    (e : ℕ) (marks : (extents_of v.extents).swept e ≡ true) (result : Result (Option (ShardId × ℕ)) Code) (y : ExtentsState) (h : GraphState) (j : IndexState) (after : List Copy) where
  -- the frame that was read of the chunk that was moved
  abbrev ReadsIt : (b : Bool) → Type 0
  ReadsIt b = (id : ShardId) (k : ℕ) → result ≡ Ok (Some (id, k)) → (payload : List ℕ) × (from : Place) × IsMovedBy b v.index v.extents v.graph v.copies e (id_number id) k from payload j y h after
      × ((view : ℕ → List ℕ) → AreNewest v.graph (seen disk) view → IsFrameIn v.extents view ChunkFrame (as_locator from) payload)

  moves_next : (b : Bool) → ReadsIt b → MovesNext b v.index v.extents v.graph v.copies e j y h after result
  moves_next b reads id k is = let m = reads id k is in (m.0, m.1, m.2)

  pub move_answers_by : (b : Bool) → (shape v.extents).apart ≡ b → (result ≡ Ok None) ↔ NothingToMoveBy b (index_of v.index) v.copies e
      → ChangesNothing v.index v.extents v.graph v.copies j y h after result → ReadsIt b
      → ((view : ℕ → List ℕ) → AreNewest v.graph (seen disk) view → (d n : ℕ) (from : Place) → IsNextBy b (index_of v.index) v.copies e d n from → AnswersMove (fault_in v.extents view Chunk (as_locator from)) result)
      → ((view : ℕ → List ℕ) → AreNewest v.graph (seen disk) view → (d n : ℕ) (from : Place) (payload : List ℕ) → IsNextBy b (index_of v.index) v.copies e d n from
      → IsFrameIn v.extents view ChunkFrame (as_locator from) payload → AnswersPlaceBy b v.extents v.graph.staging payload result)
      → IfErr result (λ r. IsReadRefusal r ⊎ (r ≡ code.Full) ⊎ (r ≡ code.WornOut))
      → OnErr result (StaysBy b v.index j) → OnErr result (after ≡ v.copies) → OnErr result (y ≡ v.extents) → OnErr result (h ≡ record v.graph { room = h.room }) → shape y ≡ shape v.extents
      → MoveAnswers v disk e result (record v { extents = y; graph = h; index = j; copies = after })
  move_answers_by false rule none unchanged reads damaged why refusals refused stay unwritten unstaged same =
      subst (λ (cs : List Copy). MoveAnswers v disk e result (record v { extents = y; graph = h; index = j; copies = cs }))
      (sym (copies_stay v.index v.extents v.graph v.copies e j y h after result unchanged (moves_next false reads) stay))
      (move_answers v whole graph runs disk size e marks rule result y h j none (nothing_before v.index v.extents v.graph v.copies e j y h after result unchanged)
      (λ id k is. let m = reads id k is in (m.0, m.2.0, λ view newest. subst (λ (p : Place). IsFrameIn v.extents view ChunkFrame (as_locator p) m.0) (sym m.2.1) (m.3 view newest)))
      damaged why refusals refused unwritten unstaged same)
  move_answers_by true rule none unchanged reads damaged why refusals refused stay unwritten unstaged same =
      subst (λ (k : IndexState). MoveAnswers v disk e result (record v { extents = y; graph = h; index = k; copies = after }))
      (sym (index_stays v.index v.extents v.graph v.copies e j y h after result unchanged (moves_next true reads) refused))
      (copy_answers v whole graph runs disk size e marks rule result y h after none (nothing_apart v.index v.extents v.graph v.copies e j y h after result unchanged)
      (λ id k is. let m = reads id k is in (m.0, m.2.0, λ view newest. subst (λ (p : Place). IsFrameIn v.extents view ChunkFrame (as_locator p) m.0) (sym m.2.1) (m.3 view newest)))
      damaged why refusals stay unwritten unstaged same)
