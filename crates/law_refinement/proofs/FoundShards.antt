-- What reading shards gives, by extents in which as much was found as in the machine's.
use Rattle.std.proofs.Common.{◌≡◌, ◌≢◌, inl, inr, ⊎_elim, ℕ, zero, suc, ◌+◌, ◌-◌, ◌<◌, ◌≤◌, Bool, true, false, le_of_eq, le_trans, List, [], ◌∷◌, Option, Some, None, length, map, refl, sym, ap, ap₂, ◌∙◌, subst, arith}
use Rattle.std.specs.Prelude.{option_map, slice_get, take}
use Rattle.cs_reclaim.specs.cs_chunk.Chunks.{AreChunksIn, IsFrameIn, end_in}
use Rattle.cs_reclaim.specs.cs_chunk.Reads.{fault_in}
use Rattle.cs_disk.specs.Disk.{Image, page}
use Rattle.cs_extent.specs.State.{IsWhole, State as ExtentsState, extents_of, shape}
use Rattle.cs_frame.specs.declared.faults.FormatFault.{FormatFault}
use Rattle.cs_frame.specs.declared.frames.FrameKind.TheVariants.{Chunk}
use Rattle.cs_frame.specs.declared.locators.Locator.{Locator}
use Rattle.cs_frame.specs.Formats.{as_locator, formats_of, refusal_of}
use Rattle.cs_frame.proofs.MarkLaws.{fault_of_meant}
use Rattle.cs_frame.specs.MeantFrames.{meant_fault}
use Rattle.cs_index.specs.State.{State as IndexState, index_of}
use Rattle.law_machine.proofs.Filled.{reach_above, reach_low, reach_off}
use Rattle.law_machine.proofs.Frozen.{damage_stays, reach_now, within_now}
use Rattle.law_machine.proofs.Meant.{none_for}
use Rattle.law_machine.specs.Device.{Inside, Page, PageKind}
use Rattle.law_machine.specs.Element.{Bytes, Content, Damaged, Locator as Place}
use Rattle.law_machine.specs.Events.{ReadsNow, newest_page}
use Rattle.law_machine.specs.Extents.{reach}
use Rattle.law_machine.specs.Formats.{ChunkFrame, Stand, fault_for, pages_from}
use Rattle.law_machine.specs.Index.{AllPass, Holds, Passes, ReadsAs, Value, after, joined_bodies, live, live_at, lookup}
use Rattle.law_machine.specs.Lists.{◌∈◌}
use Rattle.law_machine.specs.Refusal.{Refusal}
use Rattle.law_machine.specs.Sound.{Sound}
use Rattle.law_machine.specs.State.{State, index_now, map_now}
use Rattle.law_refinement.specs.Devices.{pages_now, read_by}
use Rattle.law_refinement.specs.Parts.{IsIndexOf}
use Rattle.law_refinement.proofs.Indexes.{live_same, looked_up}
use Rattle.law_refinement.proofs.Shapes.{store_format, store_shape}

module _ (x : ExtentsState) (s : State) (held : Image) (whole : IsWhole x) (sound : Sound (shape x) (formats_of (shape x)) s)
    (agree : (shape x).fills ≡ true → (e : ℕ) → (extents_of x).found e ≡ s.world.extents.found e) where
  abbrev view : ℕ → Page
  view = pages_now (shape x) s held

  -- ---- pages of frames

  at_frame : (e i : ℕ) → Inside (shape x) e i → view ((shape x).address e i) ≡ newest_page s ((shape x).address e i)
  at_frame e i inside = ap (λ (k : PageKind). read_by k (newest_page s ((shape x).address e i)) (page held ((shape x).address e i))) ((store_shape x whole).frame_kind e i inside)

  stand_now : (e i : ℕ) (bs : List Page) → e < (shape x).extents → i + length bs ≤ (shape x).pages
      → Stand (shape x) (formats_of (shape x)) view e i bs → Stand (shape x) (formats_of (shape x)) (newest_page s) e i bs
  stand_now e i [] there fits stand = tt
  stand_now e i (b ∷ bs) there fits stand = (
    sym (at_frame e i (there, omega arith)) ∙ stand.0,
    stand_now e (suc i) bs there (omega arith) stand.1,
  )

  pages_same : (e i count : ℕ) → e < (shape x).extents → i + count ≤ (shape x).pages
      → pages_from (shape x) (formats_of (shape x)) view e i count ≡ pages_from (shape x) (formats_of (shape x)) (newest_page s) e i count
  pages_same e i zero there fits = refl
  pages_same e i (suc count) there fits =
      ap₂ (λ (b : Page) (bs : List Page). b ∷ bs) (at_frame e i (there, omega arith)) (pages_same e (suc i) count there (omega arith))

  -- ---- one chunk

  abbrev IsLocated : Place → Type 0
  IsLocated l = Passes (shape x) (formats_of (shape x)) (newest_page s) s.world.extents.pointer s.world.extents.generation l

  -- its frame may reach as far
  same_end : (l : Place) → end_in x (as_locator l) ≡ reach_now (shape x) (formats_of (shape x)) s sound l
  same_end l = go (shape x).fills refl
    where
      go : (b : Bool) → (shape x).fills ≡ b → end_in x (as_locator l) ≡ reach_now (shape x) (formats_of (shape x)) s sound l
      go true on = ap (λ (n : ℕ). reach (shape x) n l.page) (agree on l.extent)
      go false off = reach_off (shape x) ((extents_of x).found l.extent) l.page off
          ∙ sym (reach_off (shape x) (s.world.extents.found l.extent) l.page off)

  low : (l : Place) → end_in x (as_locator l) ≤ (shape x).pages
  low l = reach_low (shape x) ((extents_of x).found l.extent) l.page (whole.found_pages l.extent)

  above : (l : Place) → IsLocated l → l.page < end_in x (as_locator l)
  above l passes = reach_above (shape x) ((extents_of x).found l.extent) l.page passes.inside.1

  -- the machine's refusal of what lies at a place
  abbrev refused : Place → Option Refusal
  refused l = fault_for (shape x) (formats_of (shape x)) ChunkFrame l.mark (pages_from (shape x) (formats_of (shape x)) (newest_page s) l.extent l.page (end_in x (as_locator l) - l.page))

  fault_same : (l : Place) → IsLocated l → option_map refusal_of (fault_in x view Chunk (as_locator l)) ≡ refused l
  fault_same l passes = ap (λ (bs : List Page). option_map refusal_of (meant_fault (shape x).format 0 l.mark bs))
      (pages_same l.extent l.page (end_in x (as_locator l) - l.page) passes.inside.0 (omega (arith, above l passes, low l)))
      ∙ fault_of_meant (shape x) refl ChunkFrame l.mark (pages_from (shape x) (formats_of (shape x)) (newest_page s) l.extent l.page (end_in x (as_locator l) - l.page))

  chunk_whole : (l : Place) (payload : List ℕ) → ReadsNow (shape x) (formats_of (shape x)) s l ChunkFrame payload → refused l ≡ None
  chunk_whole l payload reads =
      let reaches : l.page + length ((formats_of (shape x)).frame ChunkFrame payload) ≤ end_in x (as_locator l) =
      le_trans (within_now (shape x) (formats_of (shape x)) s sound l ((formats_of (shape x)).frame ChunkFrame payload) reads) (le_of_eq (sym (same_end l))) in
      none_for (shape x) (formats_of (shape x)) (store_format x whole) (newest_page s) l.extent l.page (end_in x (as_locator l) - l.page) ChunkFrame payload l.mark
      (omega (arith, reaches)) (omega (arith, reaches, low l)) reads.stand reads.marked reads.long

  damage_refused : (l : Place) (f : Refusal) → IsLocated l → s.opening.damage l ≡ Some f → refused l ≡ Some f
  damage_refused l f passes is =
      ap (λ (n : ℕ). fault_for (shape x) (formats_of (shape x)) ChunkFrame l.mark (pages_from (shape x) (formats_of (shape x)) (newest_page s) l.extent l.page (n - l.page))) (same_end l)
      ∙ damage_stays (shape x) (formats_of (shape x)) (store_shape x whole) s sound l f is passes

  -- a frame that is read is the one that the machine has there
  same_chunk : (l : Place) (a b : List ℕ) → IsLocated l → ReadsNow (shape x) (formats_of (shape x)) s l ChunkFrame a → IsFrameIn x view ChunkFrame (as_locator l) b → a ≡ b
  same_chunk l a b passes reads frame = (store_format x whole).one_payload (newest_page s) l.extent l.page ChunkFrame a b
      (let inside = reads.inside in omega arith) (omega (arith, frame.0, low l)) reads.stand
      (stand_now l.extent l.page ((formats_of (shape x)).frame ChunkFrame b) passes.inside.0 (omega (arith, frame.0, low l)) frame.1)

  -- nor is it damaged, or another one
  frame_whole : (l : Place) (payload : List ℕ) → IsLocated l → IsFrameIn x view ChunkFrame (as_locator l) payload → refused l ≡ None
  frame_whole l payload passes frame = none_for (shape x) (formats_of (shape x)) (store_format x whole) (newest_page s) l.extent l.page (end_in x (as_locator l) - l.page) ChunkFrame payload l.mark
      (omega (arith, frame.0)) (omega (arith, above l passes, low l))
      (stand_now l.extent l.page ((formats_of (shape x)).frame ChunkFrame payload) passes.inside.0 (omega (arith, frame.0, low l)) frame.1) frame.2 frame.3

  not_damaged : (l : Place) (f : Refusal) → IsLocated l → refused l ≡ None → s.opening.damage l ≡ Some f → ⊥
  not_damaged l f passes none is = let e : Some f ≡ None = sym (damage_refused l f passes is) ∙ none in cc

  undamaged : (l : Place) → IsLocated l → refused l ≡ None → s.opening.damage l ≡ None
  undamaged l passes none = go (s.opening.damage l) refl
    where
      go : (o : Option Refusal) → s.opening.damage l ≡ o → s.opening.damage l ≡ None
      go None is = is
      go (Some f) is = absurd (not_damaged l f passes none is)

  -- ---- chunks

  shard_found : (ls : List Place) (cs : List (List ℕ)) (content : Content) → ((l : Place) → l ∈ ls → IsLocated l)
      → ReadsAs (shape x) (formats_of (shape x)) s.opening (newest_page s) s.world.extents.pointer s.world.extents.generation ls content
      → AreChunksIn x view (map as_locator ls) cs → content ≡ Bytes (joined_bodies (formats_of (shape x)) cs)
  shard_found [] [] content pass reads are = reads
  shard_found [] (c ∷ cs) content pass reads are = absurd are
  shard_found (l ∷ ls) [] content pass reads are = absurd are
  shard_found (l ∷ ls) (c ∷ cs) content pass (inl (chunk, rest, here, more, is)) are =
      is ∙ ap₂ (λ (a : List ℕ) (b : Content). after ((formats_of (shape x)).body a) b) (same_chunk l chunk c (pass l (inl refl)) here are.0) (shard_found ls cs rest (λ k has. pass k (inr has)) more are.1)
  shard_found (l ∷ ls) (c ∷ cs) content pass (inr (f, damage, is)) are =
      absurd (not_damaged l f (pass l (inl refl)) (frame_whole l c (pass l (inl refl)) are.0) damage)

  shard_damaged : (ls : List Place) (k : ℕ) (l : Locator) (cs : List (List ℕ)) (content : Content) (f : FormatFault) → ((m : Place) → m ∈ ls → IsLocated m)
      → ReadsAs (shape x) (formats_of (shape x)) s.opening (newest_page s) s.world.extents.pointer s.world.extents.generation ls content
      → slice_get (map as_locator ls) k ≡ Some l → AreChunksIn x view (take k (map as_locator ls)) cs → fault_in x view Chunk l ≡ Some f
      → content ≡ Damaged (refusal_of f)
  shard_damaged [] k l cs content f pass reads at are fault = absurd (let e : None ≡ Some l = at in cc)
  shard_damaged (m ∷ ls) zero l cs content f pass reads at are fault =
      let here : as_locator m ≡ l = (let e : Some (as_locator m) ≡ Some l = at in cc) in
      let refuses : refused m ≡ Some (refusal_of f) = sym (fault_same m (pass m (inl refl)))
      ∙ ap (option_map refusal_of) (ap (fault_in x view Chunk) here ∙ fault) in
      ⊎_elim
      (λ (chunk : (c : List ℕ) × (rest : Content) × ReadsNow (shape x) (formats_of (shape x)) s m ChunkFrame c
      × ReadsAs (shape x) (formats_of (shape x)) s.opening (newest_page s) s.world.extents.pointer s.world.extents.generation ls rest × (content ≡ after ((formats_of (shape x)).body c) rest)).
      absurd (let e : None ≡ Some (refusal_of f) = sym (chunk_whole m chunk.0 chunk.2) ∙ refuses in cc))
      (λ (damage : (r : Refusal) × (s.opening.damage m ≡ Some r) × (content ≡ Damaged r)).
      damage.2 ∙ ap Damaged (let e : Some damage.0 ≡ Some (refusal_of f) = sym (damage_refused m damage.0 (pass m (inl refl)) damage.1) ∙ refuses in cc))
      reads
  shard_damaged (m ∷ ls) (suc k) l [] content f pass reads at are fault = absurd are
  shard_damaged (m ∷ ls) (suc k) l (c ∷ cs) content f pass (inl (chunk, rest, here, more, is)) at are fault =
      is ∙ ap (after ((formats_of (shape x)).body chunk)) (shard_damaged ls k l cs rest f (λ n has. pass n (inr has)) more at are.1 fault)
  shard_damaged (m ∷ ls) (suc k) l (c ∷ cs) content f pass (inr (r, damage, is)) at are fault =
      absurd (not_damaged m r (pass m (inl refl)) (frame_whole m c (pass m (inl refl)) are.0) damage)

  -- ---- an index's

  module _ (i : IndexState) (is : IsIndexOf i s.table s.runs) (id : ℕ) where
    same_live : live_at (index_of i) id ≡ live_at (index_now s) id
    same_live = live_same (index_of i) (index_now s) (looked_up i s.table s.runs is) id

    located : (l : Place) → l ∈ live_at (index_of i) id → IsLocated l
    located l has = go (lookup id (index_now s)) (sound.gives.visible_pass id) (subst (λ (ls : List Place). l ∈ ls) same_live has)
      where
        go : (o : Option (List Place)) → AllPass (shape x) (formats_of (shape x)) (newest_page s) s.world.extents.pointer s.world.extents.generation o → l ∈ live o → IsLocated l
        go None all none = absurd none
        go (Some ls) all has = all l has

    holds : (l : Place) → l ∈ live_at (index_of i) id
        → Holds (shape x) (formats_of (shape x)) s.opening (newest_page s) s.world.extents.pointer s.world.extents.generation l
    holds l has = sound.gives.holds id l (subst (λ (ls : List Place). l ∈ ls) same_live has)

    pub live_damaged : (l : Place) (f : FormatFault) → l ∈ live_at (index_of i) id → fault_in x view Chunk (as_locator l) ≡ Some f → s.opening.damage l ≡ Some (refusal_of f)
    live_damaged l f has fault =
        let refuses : refused l ≡ Some (refusal_of f) = sym (fault_same l (located l has)) ∙ ap (option_map refusal_of) fault in
        ⊎_elim
        (λ (damage : (r : Refusal) × (s.opening.damage l ≡ Some r)). damage.1 ∙ sym (damage_refused l damage.0 (located l has) damage.1) ∙ refuses)
        (λ (chunk : (c : List ℕ) × ReadsNow (shape x) (formats_of (shape x)) s l ChunkFrame c). absurd (let e : None ≡ Some (refusal_of f) = sym (chunk_whole l chunk.0 chunk.1) ∙ refuses in cc))
        (holds l has)

    pub live_whole : (l : Place) → l ∈ live_at (index_of i) id → fault_in x view Chunk (as_locator l) ≡ None → s.opening.damage l ≡ None
    live_whole l has fault = undamaged l (located l has) (sym (fault_same l (located l has)) ∙ ap (option_map refusal_of) fault)

    pub live_payload : (l : Place) (payload : List ℕ) → l ∈ live_at (index_of i) id → IsFrameIn x view ChunkFrame (as_locator l) payload
        → ReadsNow (shape x) (formats_of (shape x)) s l ChunkFrame payload
    live_payload l payload has frame = ⊎_elim
        (λ (damage : (r : Refusal) × (s.opening.damage l ≡ Some r)). absurd (not_damaged l damage.0 (located l has) (frame_whole l payload (located l has) frame) damage.1))
        (λ (chunk : (c : List ℕ) × ReadsNow (shape x) (formats_of (shape x)) s l ChunkFrame c).
        subst (λ (c : List ℕ). ReadsNow (shape x) (formats_of (shape x)) s l ChunkFrame c) (same_chunk l chunk.0 payload (located l has) chunk.1 frame) chunk.1)
        (holds l has)

    -- what the map has of an identifier that has locators
    content_there : live_at (index_of i) id ≢ [] → (content : Content) × (map_now s id ≡ Some content)
        × ReadsAs (shape x) (formats_of (shape x)) s.opening (newest_page s) s.world.extents.pointer s.world.extents.generation (live_at (index_of i) id) content
    content_there some = subst
        (λ (ls : List Place). (content : Content) × (map_now s id ≡ Some content)
        × ReadsAs (shape x) (formats_of (shape x)) s.opening (newest_page s) s.world.extents.pointer s.world.extents.generation ls content)
        (sym same_live)
        (go (lookup id (index_now s)) (sound.gives.values id) (λ none. some (same_live ∙ none)))
      where
        go : (o : Option (List Place)) → Value (shape x) (formats_of (shape x)) s.opening (newest_page s) s.world.extents.pointer s.world.extents.generation o (map_now s id) → live o ≢ []
            → (content : Content) × (map_now s id ≡ Some content)
            × ReadsAs (shape x) (formats_of (shape x)) s.opening (newest_page s) s.world.extents.pointer s.world.extents.generation (live o) content
        go None value there = absurd (there refl)
        go (Some []) value there = absurd (there refl)
        go (Some (l ∷ ls)) value there = (value.0, value.2, value.1)

    pub get_found : (cs : List (List ℕ)) → live_at (index_of i) id ≢ [] → AreChunksIn x view (map as_locator (live_at (index_of i) id)) cs
        → map_now s id ≡ Some (Bytes (joined_bodies (formats_of (shape x)) cs))
    get_found cs some are =
        let there = content_there some in
        there.1 ∙ ap (λ (c : Content). Some c) (shard_found (live_at (index_of i) id) cs there.0 located there.2 are)

    pub get_damaged : (k : ℕ) (l : Locator) (cs : List (List ℕ)) (f : FormatFault) → slice_get (map as_locator (live_at (index_of i) id)) k ≡ Some l
        → AreChunksIn x view (take k (map as_locator (live_at (index_of i) id))) cs → fault_in x view Chunk l ≡ Some f
        → map_now s id ≡ Some (Damaged (refusal_of f))
    get_damaged k l cs f at are fault =
        let there = content_there (λ none. let e : None ≡ Some l = ap (λ (ls : List Place). slice_get (map as_locator ls) k) (sym none) ∙ at in cc) in
        there.1 ∙ ap (λ (c : Content). Some c) (shard_damaged (live_at (index_of i) id) k l cs there.0 f located there.2 at are fault)
