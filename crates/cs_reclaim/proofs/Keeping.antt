-- A move keeps the chunks of every shard.
use Rattle.std.proofs.Common.{◌≡◌, ◌∙◌, ◌==◌, inl, inr, ℕ, zero, suc, ◌+◌, ◌≤◌, Bool, List, [], ◌∷◌, Some, false, true, if◌then◌else◌, get_or, length, map, refl, sym, ap, subst, arith, eq-eqb, ne_eqb}
use Rattle.std.proofs.lemmas.Bool.{cases_eq}
use Rattle.std.proofs.lemmas.Option.{same_Some}
use Rattle.cs_chunk.proofs.Appends.{frame_begins, has_writes, newest_begins}
use Rattle.cs_chunk.proofs.Newest.{reads_newest, stand_of}
use Rattle.cs_chunk.proofs.Putting.{end_behind}
use Rattle.cs_chunk.proofs.Staying.{stays_appended}
use Rattle.cs_chunk.specs.Chunks.{AreChunksIn, IsFrameIn, IsLong, IsMeant, end_in}
use Rattle.cs_chunk.specs.Newest.{AreNewest}
use Rattle.cs_chunk.specs.Stays.{IsBelow}
use Rattle.cs_deps.specs.State.{IsWhole, State as Graph}
use Rattle.cs_disk.specs.Disk.{Image}
use Rattle.cs_extent.specs.Appended.{IsAppendedBy}
use Rattle.cs_extent.specs.State.{IsWhole as IsWholeExtents, State as ExtentsState, extents_of, shape}
use Rattle.cs_frame.proofs.FormatLaws.{is_format}
use Rattle.cs_frame.specs.declared.locators.Locator.{Locator}
use Rattle.cs_frame.specs.Formats.{as_locator, formats_of, place_of}
use Rattle.cs_index.specs.State.{State, index_of}
use Rattle.law_machine.proofs.Filled.{reach_low}
use Rattle.law_machine.proofs.Places.{goes_inside}
use Rattle.law_machine.specs.Device.{Shape, is_meant, mark_of}
use Rattle.law_machine.specs.Element.{Locator as Place}
use Rattle.law_machine.specs.Extents.{Extents, ForMove, reach}
use Rattle.law_machine.specs.Formats.{ChunkFrame, Stand}
use Rattle.law_machine.specs.Index.{live, live_at}
use Rattle.law_machine.specs.Lists.{nth, replaced}
use Rattle.cs_reclaim.specs.Keeps.{AreBelow, IsChunkThere, places_at}
use Rattle.cs_reclaim.specs.Moves.{IsMoved, chunk_frame}

-- what lies at a place is the frame of one chunk
pub one_chunk : (x : ExtentsState) → IsWholeExtents x → (view : ℕ → List ℕ) (l : Locator) (a b : List ℕ)
    → IsFrameIn x view ChunkFrame l a → IsFrameIn x view ChunkFrame l b → a ≡ b
one_chunk x whole view l a b at bt =
    let low : end_in x l ≤ x.pages = reach_low (shape x) ((extents_of x).found l.extent) l.page (whole.found_pages l.extent) in
    (is_format x.format (length x.written) x.pages x.sections whole.geometry).one_payload view l.extent l.page ChunkFrame a b
    (omega (arith, at.0, low)) (omega (arith, bt.0, low)) at.1 bt.1

-- extents of one shape, of which this one counts as many pages as found in y as in x
module _ (x y : ExtentsState) (l : Locator) (c : List ℕ) (same : shape y ≡ shape x) (found : (extents_of y).found l.extent ≡ (extents_of x).found l.extent) where
  one_end : end_in y l ≡ end_in x l
  one_end = ap (λ (S : Shape). reach S ((extents_of y).found l.extent) l.page) same ∙ ap (λ (n : ℕ). reach (shape x) n l.page) found

  -- a frame is read there where its pages are what they were
  pub in_still : (view now : ℕ → List ℕ) → IsFrameIn x view ChunkFrame l c → Stand (shape x) (formats_of (shape x)) now l.extent l.page (chunk_frame x c) → IsFrameIn y now ChunkFrame l c
  in_still view now was stand = (
    omega (arith, was.0, one_end, ap (λ (S : Shape). length ((formats_of S).frame ChunkFrame c)) same),
    subst (λ (S : Shape). Stand S (formats_of S) now l.extent l.page ((formats_of S).frame ChunkFrame c)) (sym same) stand,
    subst (λ (S : Shape). IsMeant S ChunkFrame l c) (sym same) was.2,
    subst (λ (S : Shape). IsLong S ChunkFrame c) (sym same) was.3,
  )

  -- and it is below the pointer where it was
  pub there_still : (view now : ℕ → List ℕ) → IsFrameIn x view ChunkFrame l c → Stand (shape x) (formats_of (shape x)) now l.extent l.page (chunk_frame x c)
      → IsBelow (extents_of y) l (chunk_frame x c) → IsChunkThere y now l c
  there_still view now was stand below =
      (in_still view now was stand, subst (λ (S : Shape). IsBelow (extents_of y) l ((formats_of S).frame ChunkFrame c)) (sym same) below)

module _ {apart_by : Bool} (x y : ExtentsState) (g h : Graph) (frame : List (List ℕ)) (to : Locator) (image : Image) (view now : ℕ → List ℕ) (whole : IsWholeExtents x) (a : IsAppendedBy apart_by x g ForMove frame to y h)
    (kept : IsWhole h) (before : AreNewest g image view) (after : AreNewest h image now) where
  -- as many pages of each extent count as found as did
  found_same : (e : ℕ) → (extents_of y).found e ≡ (extents_of x).found e
  found_same e = ap (λ (z : Extents). z.found e) a.extents

  pub stays : (l : Locator) (c : List ℕ) → IsChunkThere x view l c → IsChunkThere y now l c
  stays l c was =
      let s = stays_appended x y g h ForMove frame (chunk_frame x c) to l image view now whole a kept before after was.1 was.0.1 in
      there_still x y l c a.same_shape (found_same l.extent) view now was.0 s.0 s.1

  -- pages that stand where the frame was appended
  abbrev Stands : List (List ℕ) → Type 0
  Stands f = Stand (shape x) (formats_of (shape x)) now to.extent to.page f

  -- what was appended is there, if it is long enough for a chunk
  pub begins : (c : List ℕ) → IsLong (shape x) ChunkFrame c → frame ≡ chunk_frame x c → IsChunkThere y now to c
  begins c long is =
      let at = subst (λ (f : List (List ℕ)). ((to.page + length f ≤ end_in x to) × Stands f × (is_meant (shape x) to.mark f ≡ true)) × IsBelow (extents_of y) to f) is (
        (omega (arith, (goes_inside (shape x) apart_by (extents_of x) ForMove (length frame) to.extent a.placed).1, page, end), stand, eq-eqb (mark_of (shape x) frame) to.mark (sym (ap (λ (l : Locator). l.mark) a.place))),
        (ap (λ (l : Locator). l.generation) a.place ∙ sym (ap (λ (z : Extents). z.generation to.extent) a.extents), (frame_begins x g ForMove frame to y h a (has_writes h kept) whole.found_given).given),
      ) in
      there_still x y to c a.same_shape (found_same to.extent) now now (at.0.0, at.0.1, at.0.2, long) at.0.1 at.1
    where
      page : to.page ≡ (extents_of x).pointer to.extent
      page = ap (λ (l : Locator). l.page) a.place

      end : end_in x to ≡ x.pages
      end = end_behind (shape x) ((extents_of x).found to.extent) to.page (λ on. omega (arith, whole.found_given on to.extent, page))

      stand : Stands frame
      stand = stand_of (shape x) (formats_of (shape x)) now to.extent to.page frame (λ i lt. reads_newest h image now ((shape x).address to.extent (to.page + i)) (get_or frame i []) after (newest_begins x g ForMove frame to y h a (has_writes h kept) i lt))

  pub all_stay : (ls : List Place) (cs : List (List ℕ)) → AreChunksIn x view (map as_locator ls) cs → AreBelow (shape x) (extents_of x) (map as_locator ls) cs
      → AreChunksIn y now (map as_locator ls) cs × AreBelow (shape y) (extents_of y) (map as_locator ls) cs
  all_stay [] [] at below = (tt, tt)
  all_stay [] (c ∷ cs) at below = absurd at
  all_stay (l ∷ ls) [] at below = absurd at
  all_stay (l ∷ ls) (c ∷ cs) at below =
      let here = stays (as_locator l) c (at.0, below.0) in
      let rest = all_stay ls cs at.1 below.1 in
      ((here.0, rest.0), (here.1, rest.1))

  one_moved : (ls : List Place) (cs : List (List ℕ)) (k : ℕ) (from : Place) (payload : List ℕ) → nth ls k ≡ Some from → frame ≡ chunk_frame x payload → IsFrameIn x view ChunkFrame (as_locator from) payload
      → AreChunksIn x view (map as_locator ls) cs → AreBelow (shape x) (extents_of x) (map as_locator ls) cs
      → AreChunksIn y now (map as_locator (replaced ls k (place_of to))) cs × AreBelow (shape y) (extents_of y) (map as_locator (replaced ls k (place_of to))) cs
  one_moved [] cs k from payload there is read at below = absurd (cc there)
  one_moved (l ∷ ls) [] k from payload there is read at below = absurd at
  one_moved (l ∷ ls) (c ∷ cs) zero from payload there is read at below =
      let same : l ≡ from = same_Some l from there in
      let here : IsFrameIn x view ChunkFrame (as_locator from) c = subst (λ (p : Place). IsFrameIn x view ChunkFrame (as_locator p) c) same at.0 in
      let one : c ≡ payload = one_chunk x whole view (as_locator from) c payload here read in
      let new = begins c at.0.3 (is ∙ ap (chunk_frame x) (sym one)) in
      let rest = all_stay ls cs at.1 below.1 in
      ((new.0, rest.0), (new.1, rest.1))
  one_moved (l ∷ ls) (c ∷ cs) (suc k) from payload there is read at below =
      let here = stays (as_locator l) c (at.0, below.0) in
      let rest = one_moved ls cs k from payload there is read at.1 below.1 in
      ((here.0, rest.0), (here.1, rest.1))

pick : {T : Type 0} (b : Bool) (v w : T) → b ≡ true → (if b then v else w) ≡ v
pick true v w is = refl
pick false v w is = absurd (cc is)

pass : {T : Type 0} (b : Bool) (v w : T) → b ≡ false → (if b then v else w) ≡ w
pass true v w is = absurd (cc is)
pass false v w is = refl

abbrev Kept : ExtentsState → (now : ℕ → List ℕ) → (cs : List (List ℕ)) → List Place → Type 0
Kept y now cs ls = AreChunksIn y now (map as_locator ls) cs × AreBelow (shape y) (extents_of y) (map as_locator ls) cs

pub keeps_every_shard : (s t : State) (x y : ExtentsState) (g h : Graph) (e id chunk : ℕ) (payload : List ℕ) (image : Image) (view now : ℕ → List ℕ)
    → IsWholeExtents x → (move : IsMoved s x g e id chunk payload t y h) → IsWhole h → AreNewest g image view → AreNewest h image now
    → IsFrameIn x view ChunkFrame (as_locator move.from) payload
    → (d : ℕ) (cs : List (List ℕ)) → AreChunksIn x view (places_at s d) cs → AreBelow (shape x) (extents_of x) (places_at s d) cs
    → AreChunksIn y now (places_at t d) cs × AreBelow (shape y) (extents_of y) (places_at t d) cs
keeps_every_shard s t x y g h e id chunk payload image view now whole move kept before after read d cs at below = elim (cases_eq id d) [
  | inl same ↦ (let is : live_at (index_of t) d ≡ replaced (live_at (index_of s) d) chunk (place_of move.to) =
      ap live (move.entry.index d ∙ pick (id == d) _ _ (eq-eqb id d same)) ∙ ap (λ n. replaced (live_at (index_of s) n) chunk (place_of move.to)) same in
      subst (Kept y now cs) (sym is) (one_moved x y g h (chunk_frame x payload) move.to image view now whole move.appended kept before after (live_at (index_of s) d) cs chunk move.from payload
      (ap (λ n. nth (live_at (index_of s) n) chunk) (sym same) ∙ move.first.there) refl read at below))
  | inr other ↦ (let is : live_at (index_of t) d ≡ live_at (index_of s) d = ap live (move.entry.index d ∙ pass (id == d) _ _ (ne_eqb id d other)) in
      subst (Kept y now cs) (sym is) (all_stay x y g h (chunk_frame x payload) move.to image view now whole move.appended kept before after (live_at (index_of s) d) cs at below))
]
