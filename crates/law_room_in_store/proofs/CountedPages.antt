-- What the headers of a store count of its chunks is what room has of them.
use Rattle.std.proofs.Common.{◌≡◌, ◌≢◌, inl, inr, ℕ, suc, ◌+◌, ◌-◌, ◌<◌, ◌≤◌, List, [], ◌∷◌, Option, Some, None, length, map, le_of_eq, le_trans, refl, sym, ap, ◌∙◌, subst, arith}
use Rattle.cs_chunk.proofs.Chunkings.{length-spelled}
use Rattle.cs_chunk.proofs.Framed.{no_fault_there}
use Rattle.cs_chunk.proofs.Lengths.{header_there, length_there}
use Rattle.cs_chunk.proofs.Newest.{one_view}
use Rattle.cs_chunk.specs.Chunks.{IsFrameIn, end_in}
use Rattle.cs_chunk.specs.Lengths.{length_at}
use Rattle.cs_chunk.specs.Newest.{AreNewest}
use Rattle.cs_deps.specs.State.{IsWhole as IsWholeGraph}
use Rattle.cs_disk.specs.Disk.{State as DiskState, page, seen}
use Rattle.cs_extent.specs.State.{IsWhole, State as ExtentsState, shape}
use Rattle.cs_frame.specs.declared.faults.FormatFault.{FormatFault}
use Rattle.cs_frame.specs.declared.frames.FrameKind.TheVariants.{Chunk as ChunkKind}
use Rattle.cs_frame.specs.Formats.{as_locator, formats_of, kind_number}
use Rattle.cs_frame.specs.FormatNumbers.{number_in}
use Rattle.cs_frame.specs.Frames.{page_count}
use Rattle.cs_core.specs.cs_reader.ImageReads.{page_total}
use Rattle.cs_index.specs.State.{index_of}
use Rattle.law_machine.proofs.Frozen.{reach_now, within_now}
use Rattle.law_machine.specs.Device.{Page, PageKind, Shape}
use Rattle.law_machine.specs.Element.{Content, Copy, Damaged, Entry, Locator as Place}
use Rattle.law_machine.specs.Events.{newest_page}
use Rattle.law_machine.specs.Extents.{Extents, reach}
use Rattle.law_machine.specs.Formats.{ChunkFrame, Formats, Stand}
use Rattle.law_machine.specs.Index.{NoneDamaged, Reads, ReadsAs, Value, after, if_live, live, live_at, lookup}
use Rattle.law_machine.specs.Lists.{◌∈◌}
use Rattle.law_machine.specs.Refusal.{Refusal}
use Rattle.law_machine.specs.State.{State, index_now, map_now}
use Rattle.law_refinement.proofs.FoundShards.{live_whole}
use Rattle.law_refinement.proofs.Indexes.{looked_up}
use Rattle.law_refinement.proofs.Shapes.{store_shape}
use Rattle.law_refinement.specs.Devices.{IsDiskOf, pages_now, read_by}
use Rattle.cs_core.proofs.Gets.{newest_there}
use Rattle.cs_core.specs.States.{IsStateOf}
use Rattle.cs_core.specs.Stored.{Stored}
use Rattle.law_room.specs.OfMachine.{AreChunksOf, HasPages, IsRoomOf, copies_now, of_id}
use Rattle.law_room.specs.Brim.{greatest_chunk}
use Rattle.law_room.specs.Rooms.{Chunk, Room, live_pages}
use Rattle.law_room_in_store.proofs.HeadSums.{AllMatched, AtLeast, Exactly, Matched, all_exact, all_least, greatest_exact}
use Rattle.cs_inspect.specs.Chunks.{AreLiveChunks, Chunk as Listed, chunks_from}
use Rattle.cs_inspect.specs.Brim.{greatest_in}
use Rattle.cs_inspect.specs.Uses.{head_of, heads_of, live_on, pages_counted, pages_in, unless_fault, unreadable_on}

live_of_merged : (o : Option (List Place)) → live (if_live o) ≡ live o
live_of_merged None = refl
live_of_merged (Some []) = refl
live_of_merged (Some (l ∷ ls)) = refl

module _ (v : Stored) (whole : IsWhole v.extents) (graph : IsWholeGraph v.graph) (disk : DiskState)
    (size : page_total (shape v.extents) ≤ length disk.durable) (s : State) (is : IsStateOf v s)
    (on : IsDiskOf (shape v.extents) (formats_of (shape v.extents)) s disk) where
  abbrev x : ExtentsState
  x = v.extents

  abbrev S : Shape
  S = shape v.extents

  abbrev F : Formats
  F = formats_of (shape v.extents)

  -- what each page reads as
  abbrev now : ℕ → List ℕ
  now = pages_now (shape v.extents) s (seen disk)

  -- what the machine reads at a place
  abbrev ReadsHere : Place → List Page → Type 0
  ReadsHere = Reads S F s.opening (newest_page s) s.world.extents.pointer s.world.extents.generation

  same_end : (l : Place) → end_in x (as_locator l) ≡ reach_now S F s is.sound l
  same_end l = ap (λ (y : Extents). reach S (y.found l.extent) l.page) (sym is.parts.world.extents)

  stand_here : (e i : ℕ) (bs : List Page) → e < S.extents → i + length bs ≤ S.pages → Stand S F (newest_page s) e i bs → Stand S F now e i bs
  stand_here e i [] there fits stand = tt
  stand_here e i (b ∷ bs) there fits stand = (
    ap (λ (k : PageKind). read_by k (newest_page s (S.address e i)) (page (seen disk) (S.address e i)))
        ((store_shape x whole).frame_kind e i (there, omega arith)) ∙ stand.0,
    stand_here e (suc i) bs there (omega arith) stand.1,
  )

  frame_here : (l : Place) (payload : List ℕ) → ReadsHere l (F.frame ChunkFrame payload) → IsFrameIn x now ChunkFrame (as_locator l) payload
  frame_here l payload reads = (
    le_trans (within_now S F s is.sound l (F.frame ChunkFrame payload) reads) (le_of_eq (sym (same_end l))),
    stand_here l.extent l.page (F.frame ChunkFrame payload) reads.passes.inside.0 reads.inside reads.stand,
    reads.marked,
    reads.long,
  )

  -- ---- no chunk is damaged

  reads_all : (ls : List Place) (content : Content)
      → ReadsAs S F s.opening (newest_page s) s.world.extents.pointer s.world.extents.generation ls content
      → ((f : Refusal) → content ≢ Damaged f) → (l : Place) → l ∈ ls → (payload : List ℕ) × ReadsHere l (F.frame ChunkFrame payload)
  reads_all [] content reads sane l none = absurd none
  reads_all (k ∷ ls) content (inl (chunk, rest, here, more, was)) sane l (inl same) =
      (chunk, subst (λ (m : Place). ReadsHere m (F.frame ChunkFrame chunk)) (sym same) here)
  reads_all (k ∷ ls) content (inl (chunk, rest, here, more, was)) sane l (inr there) =
      reads_all ls rest more (λ f bad. sane f (was ∙ ap (after (F.body chunk)) bad)) l there
  reads_all (k ∷ ls) content (inr (f, damage, was)) sane l there = absurd (sane f was)

  undamaged : NoneDamaged (map_now s) → (id : ℕ) (l : Place) → l ∈ live_at (index_of v.index) id → s.opening.damage l ≡ None
  undamaged sane id l has =
      let same : live_at (index_of v.index) id ≡ live_at (index_now s) id =
      ap live (looked_up v.index s.table s.runs is.parts.index id) in
      let read = go (lookup id (index_now s)) (is.sound.gives.values id) (subst (λ (ls : List Place). l ∈ ls) same has) in
      let frame = frame_here l read.0 read.1 in
      live_whole x s (seen disk) whole is.sound (λ fills e. sym (ap (λ (y : Extents). y.found e) is.parts.world.extents)) v.index
      is.parts.index id l has
      (no_fault_there x whole now ChunkKind (as_locator l) read.1.passes.inside.1 read.0 frame)
    where
      go : (o : Option (List Place))
          → Value S F s.opening (newest_page s) s.world.extents.pointer s.world.extents.generation o (map_now s id) → l ∈ live o
          → (payload : List ℕ) × ReadsHere l (F.frame ChunkFrame payload)
      go None value none = absurd none
      go (Some []) value none = absurd none
      go (Some (k ∷ ls)) value there = reads_all (k ∷ ls) value.0 value.1
          (λ f bad. sane id f (value.2 ∙ ap (λ (c : Content). Some c) bad)) l there

  -- ---- what headers say

  module _ (view : ℕ → List ℕ) (are : AreNewest v.graph (seen disk) view) where
    same_view : (p : ℕ) → view p ≡ now p
    same_view p = one_view v.graph (seen disk) view now are (newest_there v whole graph disk size s is on) p

    -- of a chunk that is read its header counts the pages
    head_reads : (l : Place) (payload : List ℕ) → ReadsHere l (F.frame ChunkFrame payload)
        → pages_counted S.format l.mark (view (S.address l.extent l.page)) (end_in x (as_locator l) - l.page) ≡ Some (length (F.frame ChunkFrame payload))
    head_reads l payload reads =
        let frame = frame_here l payload reads in
        ap (λ (first : List ℕ). pages_counted S.format l.mark first (end_in x (as_locator l) - l.page)) (same_view (S.address l.extent l.page))
        ∙ ap (λ (fault : Option FormatFault). unless_fault fault (page_count (length_at S now (as_locator l))))
        (header_there x whole now ChunkKind (as_locator l) payload frame)
        ∙ ap (λ (n : ℕ). Some (page_count n)) (length_there x whole now ChunkKind (as_locator l) payload frame)
        ∙ ap (λ (n : ℕ). Some n) (sym (length-spelled (number_in S.format) (kind_number ChunkFrame) payload))

    abbrev said : Place → Option ℕ
    said l = pages_counted S.format l.mark (view (S.address l.extent l.page)) (end_in x (as_locator l) - l.page)

    counted_least : (l : Place) (n : ℕ)
        → HasPages S F s.opening (newest_page s) s.world.extents.pointer s.world.extents.generation l n → n ≤ pages_in (said l)
    counted_least l n (inl (payload, reads, count)) =
        le_of_eq (count ∙ ap pages_in (sym (head_reads l payload reads)))
    counted_least l n (inr (f, damage, lasts, none)) = omega (arith, none)

    counted_exactly : (l : Place) (n : ℕ) → s.opening.damage l ≡ None
        → HasPages S F s.opening (newest_page s) s.world.extents.pointer s.world.extents.generation l n → said l ≡ Some n
    counted_exactly l n sane (inl (payload, reads, count)) = head_reads l payload reads ∙ ap (λ (k : ℕ). Some k) (sym count)
    counted_exactly l n sane (inr (f, damage, lasts, none)) = absurd (let wrong : Some f ≡ None = sym damage ∙ sane in cc)

    matched_least : (copies : List Copy) (id k : ℕ) (ls : List Place) (cs : List Chunk)
        → AreChunksOf S F s.opening (newest_page s) s.world.extents.pointer s.world.extents.generation copies id k ls cs
        → Matched AtLeast cs (map (head_of x view) (chunks_from id k ls))
    matched_least copies id k [] cs none = none
    matched_least copies id k (l ∷ ls) cs (c, rest, same, chunk, more) = (
      c,
      rest,
      same,
      record { place = sym chunk.extent; pages = counted_least l c.pages chunk.pages },
      matched_least copies id (suc k) ls rest more,
    )

    matched_exactly : (copies : List Copy) (id k : ℕ) (ls : List Place) (cs : List Chunk)
        → ((l : Place) → l ∈ ls → s.opening.damage l ≡ None)
        → AreChunksOf S F s.opening (newest_page s) s.world.extents.pointer s.world.extents.generation copies id k ls cs
        → Matched Exactly cs (map (head_of x view) (chunks_from id k ls))
    matched_exactly copies id k [] cs sane none = none
    matched_exactly copies id k (l ∷ ls) cs sane (c, rest, same, chunk, more) = (
      c,
      rest,
      same,
      record { place = sym chunk.extent; pages = counted_exactly l c.pages (sane l (inl refl)) chunk.pages },
      matched_exactly copies id (suc k) ls rest (λ m there. sane m (inr there)) more,
    )

    module _ (r : Room) (room : IsRoomOf S F s r) (chunks : List Listed) (are_live : AreLiveChunks (index_of v.index) chunks) where
      abbrev entries : List Entry
      entries = are_live.0

      -- what lives of an identifier
      lives : (id : ℕ) → live_at (index_now s) id ≡ live (lookup id entries)
      lives id = sym (ap live (looked_up v.index s.table s.runs is.parts.index id))
          ∙ sym (live_of_merged (lookup id (index_of v.index))) ∙ ap live (sym (are_live.1.1 id))

      all_at_least : AllMatched (head_of x view) AtLeast entries r.chunks
      all_at_least id = subst (λ (ls : List Place). Matched AtLeast (of_id id r.chunks) (map (head_of x view) (chunks_from id 0 ls)))
          (lives id) (matched_least (copies_now S s) id 0 (live_at (index_now s) id) (of_id id r.chunks) (room.chunks id))

      -- no more lives on an extent than headers count
      pub live_least : (e : ℕ) → live_pages r.chunks e ≤ live_on e (heads_of x view chunks)
      live_least e = subst (λ (cs : List Listed). live_pages r.chunks e ≤ live_on e (heads_of x view cs)) (sym are_live.2)
          (all_least (head_of x view) e entries r.chunks are_live.1.0 all_at_least)

      all_as_said : NoneDamaged (map_now s) → AllMatched (head_of x view) Exactly entries r.chunks
      all_as_said sane id = subst (λ (ls : List Place). Matched Exactly (of_id id r.chunks) (map (head_of x view) (chunks_from id 0 ls)))
          (lives id) (matched_exactly (copies_now S s) id 0 (live_at (index_now s) id) (of_id id r.chunks)
          (λ l there. undamaged sane id l (subst (λ (ls : List Place). l ∈ ls)
          (sym (ap live (looked_up v.index s.table s.runs is.parts.index id))) there))
          (room.chunks id))

      -- just as much, and each can be read, where no shard is damaged
      pub live_exactly : NoneDamaged (map_now s) → (e : ℕ) → (live_pages r.chunks e ≡ live_on e (heads_of x view chunks))
          × (unreadable_on e (heads_of x view chunks) ≡ 0)
      live_exactly sane e = subst (λ (cs : List Listed). (live_pages r.chunks e ≡ live_on e (heads_of x view cs))
          × (unreadable_on e (heads_of x view cs) ≡ 0)) (sym are_live.2)
          (all_exact (head_of x view) e entries r.chunks are_live.1.0 (all_as_said sane))

      -- the greatest of them is the greatest that headers count
      pub greatest_exactly : NoneDamaged (map_now s) → greatest_chunk r.chunks ≡ greatest_in (heads_of x view chunks)
      greatest_exactly sane = subst (λ (cs : List Listed). greatest_chunk r.chunks ≡ greatest_in (heads_of x view cs)) (sym are_live.2)
          (greatest_exact (head_of x view) entries r.chunks are_live.1.0 (all_as_said sane))
