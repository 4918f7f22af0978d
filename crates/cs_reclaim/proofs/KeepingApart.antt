-- Where chunks and runs lie apart copies, Stages and Retires keep the chunks of every shard.
use Rattle.std.proofs.Common.{◌≡◌, ◌≢◌, ◌∙◌, ◌==◌, inl, inr, ⊎_elim, ℕ, zero, suc, ◌+◌, Bool, List, [], ◌∷◌, ◌++◌, Some, true, false, if◌then◌else◌, length, map, refl, sym, ap, subst, arith}
use Rattle.std.specs.Prelude.{drop, reverse}
use Rattle.std.proofs.lemmas.Bool.Decides.{nat_tests}
use Rattle.std.proofs.lemmas.Option.{same_Some}
use Rattle.cs_chunk.proofs.Appends.{HasWrites, has_writes}
use Rattle.cs_chunk.proofs.Newest.{of_stand, one_view, stand_of}
use Rattle.cs_chunk.proofs.Staying.{stays_behind}
use Rattle.cs_chunk.specs.Chunks.{AreChunksIn, IsFrameIn}
use Rattle.cs_chunk.specs.Newest.{AreNewest}
use Rattle.cs_chunk.specs.Stays.{IsBelow}
use Rattle.cs_deps.specs.State.{IsWhole, State as Graph}
use Rattle.cs_disk.specs.Disk.{Image}
use Rattle.cs_extent.specs.State.{IsWhole as IsWholeExtents, State as ExtentsState, extents_of, shape}
use Rattle.cs_frame.specs.declared.locators.Locator.{Locator}
use Rattle.cs_frame.specs.Formats.{as_locator, formats_of, place_of}
use Rattle.cs_index.specs.Apart.{IsFullApart, IsNewestStagedApart, WritesNewest, takes_apart}
use Rattle.cs_index.specs.Copies.{settle_in, settle_table}
use Rattle.cs_index.specs.Merges.{deletions_go, part}
use Rattle.cs_index.specs.Staged.{IsPartStagedBy, IsRunAppendedBy, run_frame}
use Rattle.cs_index.specs.State.{State as IndexState, index_of}
use Rattle.law_machine.proofs.ApartMoving.{place_is}
use Rattle.law_machine.proofs.ApartResets.{each_extent}
use Rattle.law_machine.proofs.Tallies.{lives_none}
use Rattle.law_machine.specs.Apart.{is_blank_by, is_place, reset_all}
use Rattle.law_machine.specs.Device.{Shape}
use Rattle.law_machine.specs.Element.{Copy, Entry, Locator as Place}
use Rattle.law_machine.specs.Extents.{Extents, ForMerge, ForRun, Purpose as Reason}
use Rattle.law_machine.specs.Formats.{ChunkFrame, places}
use Rattle.law_machine.specs.Geometry.{pages_first_in}
use Rattle.law_machine.specs.Index.{entries_of, live, live_at, lookup}
use Rattle.law_machine.specs.Lists.{nth, replaced, ◌∈◌}
use Rattle.law_machine.specs.Merges.{IsRunOf}
use Rattle.cs_reclaim.specs.Copied.{IsCopyMade}
use Rattle.cs_reclaim.specs.Keeps.{AreBelow, AreCopiesRead, IsChunkThere, IsCopyRead, places_at}
use Rattle.cs_reclaim.specs.Moves.{chunk_frame}
use Rattle.cs_reclaim.specs.Rooted.{IsRetiredApart, IsRootedApart, IsSweepStaged, extents_at_rest, lying_apart}
use Rattle.cs_reclaim.proofs.Freeing.{blank_dead}
use Rattle.cs_reclaim.proofs.Keeping.{all_stay, begins, one_chunk, stays, there_still}
use Rattle.cs_reclaim.proofs.RetireKeeps.{has_before, mark_keeps, mark_reads, under_root}

-- chunks at their places, below the pointers
abbrev AreThere : ExtentsState → (view : ℕ → List ℕ) → List Place → List (List ℕ) → Type 0
AreThere x view ls cs = AreChunksIn x view (map as_locator ls) cs × AreBelow (shape x) (extents_of x) (map as_locator ls) cs

-- ---- a copy

module _ (s : IndexState) (x y : ExtentsState) (g h : Graph) (copies after : List Copy) (e id chunk : ℕ) (payload : List ℕ) (image : Image) (view now : ℕ → List ℕ)
    (whole : IsWholeExtents x) (copy : IsCopyMade s x g copies e id chunk payload after y h) (kept : IsWhole h) (before : AreNewest g image view) (behind : AreNewest h image now) where
  pub copy_keeps : (d : ℕ) (cs : List (List ℕ)) → AreChunksIn x view (places_at s d) cs → AreBelow (shape x) (extents_of x) (places_at s d) cs
      → AreChunksIn y now (places_at s d) cs × AreBelow (shape y) (extents_of y) (places_at s d) cs
  copy_keeps d cs at below = all_stay x y g h (chunk_frame x payload) copy.to image view now whole copy.appended kept before behind (live_at (index_of s) d) cs at below

  abbrev new : Copy
  new = record { id = id; chunk = chunk; from = copy.from; to = place_of copy.to }

  pub copies_keep : IsFrameIn x view ChunkFrame (as_locator copy.from) payload → IsBelow (extents_of x) (as_locator copy.from) (chunk_frame x payload)
      → AreCopiesRead x view copies → AreCopiesRead y now after
  copies_keep read below all = subst (λ (cs : List Copy). AreCopiesRead y now cs) (sym copy.noted) each
    where
      still : (l : Locator) (c : List ℕ) → IsChunkThere x view l c → IsChunkThere y now l c
      still l c was = stays x y g h (chunk_frame x payload) copy.to image view now whole copy.appended kept before behind l c was

      one : IsCopyRead y now new
      one = (payload, still (as_locator copy.from) payload (read, below), begins x y g h (chunk_frame x payload) copy.to image view now whole copy.appended kept before behind payload read.3 refl)

      each : (c : Copy) → c ∈ (new ∷ copies) → IsCopyRead y now c
      each c there = ⊎_elim
          (λ (is : c ≡ new). subst (λ (d : Copy). IsCopyRead y now d) (sym is) one)
          (λ (old : c ∈ copies). (let was = all c old in (was.0, still (as_locator c.from) was.0 was.1, still (as_locator c.to) was.0 was.2)))
          there

-- ---- blank extents are emptied

-- where something lives an extent isn't blank
living_stays : (S : Shape) (x : Extents) (t : IndexState) (copies : List Copy) (root id : ℕ) (l : Place) → l ∈ live_at (index_of t) id
    → ((reset_all (lying_apart S) x root (is_blank_by S x (index_of t) t.runs copies) S.extents).pointer l.extent ≡ x.pointer l.extent)
    × ((reset_all (lying_apart S) x root (is_blank_by S x (index_of t) t.runs copies) S.extents).generation l.extent ≡ x.generation l.extent)
    × ((reset_all (lying_apart S) x root (is_blank_by S x (index_of t) t.runs copies) S.extents).found l.extent ≡ x.found l.extent)
living_stays S x t copies root id l lives = ⊎_elim
    (λ reset. absurd ((lives_none (index_of t) l.extent).0 (blank_dead S (index_of t) t.runs copies x l.extent reset.1) id l lives refl))
    (λ kept. (kept.1, kept.2, kept.3))
    (each_extent (lying_apart S) x root (is_blank_by S x (index_of t) t.runs copies) S.extents l.extent)

module _ (t : IndexState) (x y : ExtentsState) (copies after : List Copy) (v : ℕ) (rooted : IsRootedApart t x copies v y after) where
  there_freed : (view : ℕ → List ℕ) (id : ℕ) (l : Place) (c : List ℕ) → l ∈ live_at (index_of t) id → IsChunkThere x view (as_locator l) c → IsChunkThere y view (as_locator l) c
  there_freed view id l c lives was =
      let same = living_stays (shape x) (extents_at_rest (shape x) (extents_of x)) t after v id l lives in
      there_still x y (as_locator l) c rooted.same_shape (ap (λ (z : Extents). z.found l.extent) rooted.freed ∙ same.2) view view was.0 was.0.1
      (subst (λ (z : Extents). IsBelow z (as_locator l) (chunk_frame x c)) (sym rooted.freed)
      (was.1.0 ∙ sym same.1, omega (arith, was.1.1, same.0)))

-- ---- a Stage

module _ (go : Bool) (k : ℕ) (s t : IndexState) (x y : ExtentsState) (g h : Graph) (reason : Reason) (v commands : ℕ) (image : Image) (view now : ℕ → List ℕ) (whole : IsWholeExtents x)
    (staged : IsPartStagedBy true go k s x g reason v commands t y h) (kept : IsWhole h) (before : AreNewest g image view) (behind : AreNewest h image now) where
  abbrev over : List Locator
  over = map as_locator (reverse (places t.runs))

  has : HasWrites staged.between
  has = has_before x.format (pages_first_in x.format) staged.between h v commands over staged.root (has_writes h kept)

  are : AreNewest staged.between image now
  are = under_root x.format (pages_first_in x.format) staged.between h v commands over staged.root (has_writes h kept) image now behind

  abbrev SomeRun : Type 0
  SomeRun = (entries : List Entry) × (place : Place) × (entries ≢ []) × IsRunOf go (part s k) entries × IsRunAppendedBy true x g reason entries place y staged.between
      × (t.runs ≡ record { place = place; entries = entries } ∷ drop k s.runs)

  abbrev NoRun : Type 0
  NoRun = IsRunOf go (part s k) [] × (y ≡ x) × (staged.between ≡ g) × (t.runs ≡ drop k s.runs)

  part_keeps : (l : Locator) (c : List ℕ) → IsChunkThere x view l c → IsChunkThere y now l c
  part_keeps l c was = ⊎_elim
      (λ (m : SomeRun).
      let is = stays_behind x y g staged.between reason (run_frame x m.0) (chunk_frame x c) (as_locator m.1) l image view now whole m.4 has before are was.1 was.0.1 in
      there_still x y l c m.4.same_shape (ap (λ (z : Extents). z.found l.extent) m.4.extents) view now was.0 is.0 is.1)
      (λ (n : NoRun).
      let same : (p : ℕ) → now p ≡ view p = one_view g image now view (subst (λ (b : Graph). AreNewest b image now) n.2 are) before in
      subst (λ (z : ExtentsState). IsChunkThere z now l c) (sym n.1) (
        (
          was.0.0,
          stand_of (shape x) (formats_of (shape x)) now l.extent l.page (chunk_frame x c)
              (λ i lt. same ((shape x).address l.extent (l.page + i)) ∙ of_stand (shape x) (formats_of (shape x)) view l.extent l.page (chunk_frame x c) was.0.1 i lt),
          was.0.2,
          was.0.3,
        ),
        was.1,
      ))
      staged.appended

module _ (s t : IndexState) (x y : ExtentsState) (g h : Graph) (copies after : List Copy) (v commands : ℕ) (image : Image) (view now : ℕ → List ℕ) (whole : IsWholeExtents x)
    (staged : IsSweepStaged s x g copies v commands t y h after) (kept : IsWhole h) (before : AreNewest g image view) (behind : AreNewest h image now) where
  run_keeps : (l : Locator) (c : List ℕ) → IsChunkThere x view l c → IsChunkThere staged.mid now l c
  run_keeps l c was = ⊎_elim
      (λ (one : IsNewestStagedApart (takes_apart (shape x) s) s x g ForRun v commands t staged.mid h).
      part_keeps (deletions_go (shape x) s (takes_apart (shape x) s)) (takes_apart (shape x) s) s t x staged.mid g h ForRun v commands image view now whole one kept before behind l c was)
      (λ (all : IsFullApart (WritesNewest (shape x) s (takes_apart (shape x) s)) x ForRun × IsNewestStagedApart (length s.runs) s x g ForMerge v commands t staged.mid h).
      part_keeps (deletions_go (shape x) s (length s.runs)) (length s.runs) s t x staged.mid g h ForMerge v commands image view now whole all.1 kept before behind l c was)
      staged.staged

  all_there : (id : ℕ) (ls : List Place) (cs : List (List ℕ)) → ((l : Place) → l ∈ ls → l ∈ live_at (index_of t) id) → AreThere x view ls cs → AreThere y now ls cs
  all_there id [] [] lives was = (tt, tt)
  all_there id [] (c ∷ cs) lives was = absurd was.0
  all_there id (l ∷ ls) [] lives was = absurd was.0
  all_there id (l ∷ ls) (c ∷ cs) lives was =
      let here = there_freed t staged.mid y copies after v staged.rooted now id l c (lives l (inl refl)) (run_keeps (as_locator l) c (was.0.0, was.1.0)) in
      let rest = all_there id ls cs (λ k there. lives k (inr there)) (was.0.1, was.1.1) in
      ((here.0, rest.0), (here.1, rest.1))

  pub stage_keeps : ((id : ℕ) → live_at (index_of t) id ≡ live_at (index_of s) id)
      → (d : ℕ) (cs : List (List ℕ)) → AreChunksIn x view (places_at s d) cs → AreBelow (shape x) (extents_of x) (places_at s d) cs
      → AreChunksIn y now (places_at t d) cs × AreBelow (shape y) (extents_of y) (places_at t d) cs
  stage_keeps same d cs at below =
      all_there d (live_at (index_of t) d) cs (λ l there. there)
      (subst (λ (ls : List Place). AreThere x view ls cs) (sym (same d)) (at, below))

-- ---- what was copied counts

module _ (x : ExtentsState) (whole : IsWholeExtents x) (view : ℕ → List ℕ) where
  abbrev There : Locator → List ℕ → Type 0
  There l c = IsChunkThere x view l c

  one_replaced : (ls : List Place) (cs : List (List ℕ)) (k : ℕ) (from to : Place) (payload : List ℕ) → nth ls k ≡ Some from → There (as_locator from) payload → There (as_locator to) payload
      → AreThere x view ls cs → AreThere x view (replaced ls k to) cs
  one_replaced [] cs k from to payload at read copy was = was
  one_replaced (l ∷ ls) [] k from to payload at read copy was = absurd was.0
  one_replaced (l ∷ ls) (c ∷ cs) zero from to payload at read copy was =
      let same : l ≡ from = same_Some l from at in
      let here : IsFrameIn x view ChunkFrame (as_locator from) c = subst (λ (p : Place). IsFrameIn x view ChunkFrame (as_locator p) c) same was.0.0 in
      let one : payload ≡ c = one_chunk x whole view (as_locator from) payload c read.0 here in
      let new : There (as_locator to) c = subst (λ (b : List ℕ). There (as_locator to) b) one copy in
      ((new.0, was.0.1), (new.1, was.1.1))
  one_replaced (l ∷ ls) (c ∷ cs) (suc k) from to payload at read copy was =
      let rest = one_replaced ls cs k from to payload at read copy (was.0.1, was.1.1) in
      ((was.0.0, rest.0), (was.1.0, rest.1))

  abbrev AreAt : List Entry → (d : ℕ) → List (List ℕ) → Type 0
  AreAt index d cs = AreThere x view (live_at index d) cs

  abbrev entry : (index : List Entry) → Copy → Entry
  entry index c = record { id = c.id; locators = replaced (live_at index c.id) c.chunk c.to }

  -- the chunks of every shard are there once one copy counts, and once these do
  settle_one : (older table : List Entry) (c : Copy) → IsCopyRead x view c → (d : ℕ) (cs : List (List ℕ)) → AreAt (table ++ older) d cs → AreAt (settle_in older table c ++ older) d cs
  settle_one older table c read d cs was = split (is_place (nth (live_at (table ++ older) c.id) c.chunk) c.from) refl
    where
      named : (b : Bool) → (c.id == d) ≡ b → nth (live_at (table ++ older) c.id) c.chunk ≡ Some c.from
          → AreThere x view (live (if b then Some (replaced (live_at (table ++ older) c.id) c.chunk c.to) else lookup d (table ++ older))) cs
      named true is at =
          let same : d ≡ c.id = grind (arith, nat_tests) in
          one_replaced (live_at (table ++ older) c.id) cs c.chunk c.from c.to read.0 at read.1 read.2 (subst (λ (n : ℕ). AreAt (table ++ older) n cs) same was)
      named false is at = was

      split : (b : Bool) → is_place (nth (live_at (table ++ older) c.id) c.chunk) c.from ≡ b → AreAt ((if b then entry (table ++ older) c ∷ table else table) ++ older) d cs
      split true is = named (c.id == d) refl (place_is (nth (live_at (table ++ older) c.id) c.chunk) c.from is)
      split false is = was

  settle_keeps : (older table : List Entry) (copies : List Copy) → AreCopiesRead x view copies
      → (d : ℕ) (cs : List (List ℕ)) → AreAt (table ++ older) d cs → AreAt (settle_table older table copies ++ older) d cs
  settle_keeps older table [] read d cs was = was
  settle_keeps older table (c ∷ copies) read d cs was =
      settle_one older (settle_table older table copies) c (read c (inl refl)) d cs (settle_keeps older table copies (λ b there. read b (inr there)) d cs was)

-- ---- a Retire

pub retire_apart_keeps : (s t : IndexState) (x y : ExtentsState) (g h : Graph) (copies after : List Copy) (e v commands : ℕ) (image : Image) (view now : ℕ → List ℕ)
    → IsWholeExtents x → (retired : IsRetiredApart s x g copies e v commands t y h after) → IsWhole h → AreNewest g image view → AreNewest h image now
    → AreCopiesRead x view copies → ((id : ℕ) → live_at (index_of t) id ≡ live_at (index_of retired.counted) id)
    → (d : ℕ) (cs : List (List ℕ)) → AreChunksIn x view (places_at s d) cs → AreBelow (shape x) (extents_of x) (places_at s d) cs
    → AreChunksIn y now (places_at t d) cs × AreBelow (shape y) (extents_of y) (places_at t d) cs
retire_apart_keeps s t x y g h copies after e v commands image view now whole retired kept before behind read same d cs at below =
    let settled : AreThere x view (live_at (settle_table (entries_of s.runs) s.table copies ++ entries_of s.runs) d) cs =
    settle_keeps x whole view (entries_of s.runs) s.table copies read d cs (at, below) in
    let counted : AreThere x view (live_at (index_of retired.counted) d) cs =
    subst (λ (ls : List Place). AreThere x view ls cs) (sym (ap live (retired.settled.index d))) settled in
    stage_keeps retired.counted t retired.unmarked y g h [] after v commands image view now retired.ended.whole retired.staged kept before behind same d cs
    (mark_reads x retired.unmarked e false view retired.ended.mark retired.ended.same_shape (map as_locator (live_at (index_of retired.counted) d)) cs counted.0)
    (subst (λ (S : Shape). AreBelow S (extents_of retired.unmarked) (map as_locator (live_at (index_of retired.counted) d)) cs) (sym retired.ended.same_shape)
    (mark_keeps (shape x) (extents_of x) (extents_of retired.unmarked) e false retired.ended.mark (map as_locator (live_at (index_of retired.counted) d)) cs counted.1))
