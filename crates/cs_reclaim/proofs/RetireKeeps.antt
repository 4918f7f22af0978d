-- A retired extent keeps the chunks of every shard.
use Rattle.std.proofs.Common.{◌≡◌, ◌≢◌, ◌∙◌, inl, inr, ⊎_elim, ℕ, zero, suc, ◌+◌, ◌<◌, Bool, false, List, [], ◌∷◌, ◌++◌, Some, length, map, slice_get, refl, sym, ap, subst}
use Rattle.std.specs.Prelude.{reverse}
use Rattle.std.proofs.lemmas.Option.{same_Some, some_pair_parts}
use Rattle.cs_chunk.proofs.Appends.{HasWrites, has_writes}
use Rattle.cs_chunk.proofs.Newest.{of_stand, one_view, stand_of}
use Rattle.cs_chunk.proofs.Staying.{below_reset, stays_behind}
use Rattle.cs_chunk.specs.Chunks.{AreChunksIn}
use Rattle.cs_chunk.specs.Newest.{AreNewest}
use Rattle.cs_chunk.specs.Stays.{IsBelow}
use Rattle.cs_deps.specs.declared.elements.Element.{Element}
use Rattle.cs_deps.specs.declared.elements.Element.TheVariants.{Plain, Version}
use Rattle.cs_deps.specs.Named.{Named}
use Rattle.cs_deps.specs.Pending.{Waits}
use Rattle.cs_deps.specs.Staging.{Staging}
use Rattle.cs_deps.specs.State.{IsNewestOn, IsWhole, NoneOn, State as Graph, Write, write_of}
use Rattle.cs_disk.specs.Disk.{Image, page}
use Rattle.cs_extent.proofs.Given.{in_either}
use Rattle.cs_extent.proofs.Staged.{get_front}
use Rattle.cs_extent.specs.Frames.{root_family}
use Rattle.cs_extent.specs.State.{IsWhole as IsWholeExtents, State as ExtentsState, extents_of, shape}
use Rattle.cs_frame.specs.declared.locators.Locator.{Locator}
use Rattle.cs_frame.specs.Formats.{as_locator, formats_of}
use Rattle.cs_index.specs.Staged.{IsRootOver, IsRunAppendedBy, run_frame}
use Rattle.cs_index.specs.State.{State as IndexState, index_of}
use Rattle.law_machine.specs.Format.{Format}
use Rattle.law_machine.specs.Device.{Shape}
use Rattle.law_machine.specs.Element.{Entry, Locator as Place}
use Rattle.law_machine.specs.Extents.{Extents, ForMove, marked}
use Rattle.law_machine.specs.Formats.{Stand, places}
use Rattle.law_machine.specs.Geometry.{pages_first_in}
use Rattle.law_machine.specs.Index.{IsMergedRun, NothingLive, live_at}
use Rattle.law_machine.specs.Lists.{◌∈◌}
use Rattle.cs_reclaim.specs.Keeps.{AreBelow, IsChunkThere, places_at}
use Rattle.cs_reclaim.specs.Moves.{chunk_frame}
use Rattle.cs_reclaim.specs.Retired.{IsRetired}
use Rattle.cs_reclaim.proofs.Keeping.{in_still, there_still}

-- ---- a root that is staged changes no page of an extent

module _ (format : Format) (first : Bool) (b h : Graph) (v commands : ℕ) (runs : List Locator) (over : IsRootOver format first b h v commands runs) (has : HasWrites h) where
  abbrev waited : List (Element × Named)
  waited = b.staging.pending.waiting

  abbrev last : Element × Named
  last = (Version root_family v, over.version.1)

  behind : h.staging.pending.waiting ≡ waited ++ last ∷ []
  behind = ap (λ (s : Staging). s.pending.waiting) over.version.5

  at_front : (k : ℕ) (w : Element × Named) → slice_get waited k ≡ Some w → slice_get h.staging.pending.waiting k ≡ Some w
  at_front k w at = subst (λ ws. slice_get ws k ≡ Some w) (sym behind) (get_front waited (last ∷ []) k w at)

  waits_then : (n : ℕ) → Waits b.staging.pending (Plain n) → Waits h.staging.pending (Plain n)
  waits_then n w = (w.0, w.1, at_front w.0 (Plain n, w.1) w.2)

  not_last : (n j : ℕ) (d : Named) → slice_get (last ∷ []) j ≡ Some (Plain n, d) → ⊥
  not_last n zero d at = let same : last.0 ≡ Plain n = (some_pair_parts last.0 (Plain n) last.1 d at).0 in absurd (cc same)
  not_last n (suc j) d at = absurd (cc at)

  waits_before : (n : ℕ) → Waits h.staging.pending (Plain n) → Waits b.staging.pending (Plain n)
  waits_before n w = ⊎_elim
      (λ (p : (w.0 < length waited) × (slice_get waited w.0 ≡ Some (Plain n, w.1))). (w.0, w.1, p.1))
      (λ (q : (j : ℕ) × (w.0 ≡ length waited + j) × (slice_get (last ∷ []) j ≡ Some (Plain n, w.1))). absurd (not_last n q.0 w.1 q.2))
      (in_either waited (last ∷ []) w.0 (Plain n, w.1) (subst (λ ws. slice_get ws w.0 ≡ Some (Plain n, w.1)) behind w.2))

  kept_write : (n : ℕ) (w : Write) → write_of h (Plain n) ≡ Some w → write_of b (Plain n) ≡ Some w
  kept_write n w is = ⊎_elim
      (λ (old : write_of b (Plain n) ≡ Some w). old)
      (λ (new : Plain n ≡ Version root_family v). absurd (cc new))
      (over.others (Plain n) w is)

  write_then : (n : ℕ) (w : Write) → Waits b.staging.pending (Plain n) → write_of b (Plain n) ≡ Some w → write_of h (Plain n) ≡ Some w
  write_then n w waits is =
      let u = has.writes n (waits_then n waits) in
      let same : u.0 ≡ w = same_Some u.0 w (sym (kept_write n u.0 u.1) ∙ is) in
      u.1 ∙ ap (λ z. Some z) same

  pub has_before : HasWrites b
  has_before = record {
    in_order = λ j k m n d e first second lt. has.in_order j k m n d e (at_front j (Plain m, d) first) (at_front k (Plain n, e) second) lt;
    writes = λ n waits. let w = has.writes n (waits_then n waits) in (w.0, kept_write n w.0 w.1);
  }

  pub under_root : (image : Image) (view : ℕ → List ℕ) → AreNewest h image view → AreNewest b image view
  under_root image view are p = ⊎_elim
      (λ (n : IsNewestOn h p (view p)). inl (record {
        number = n.number;
        waits = waits_before n.number n.waits;
        write = kept_write n.number (p, view p) n.write;
        last = λ m w more waits is. n.last m w more (waits_then m waits) (write_then m w waits is);
      }))
      (λ (n : NoneOn h p × (view p ≡ page image p)). inr ((λ m w waits is. n.0 m w (waits_then m waits) (write_then m w waits is)), n.1))
      (are p)

-- ---- a retire

module _ (s t : IndexState) (x y : ExtentsState) (g h : Graph) (e v commands : ℕ) (image : Image) (view now : ℕ → List ℕ) (whole : IsWholeExtents x)
    (retired : IsRetired s x g e v commands t y h) (kept : IsWhole h) (before : AreNewest g image view) (after : AreNewest h image now) where
  abbrev mid : ExtentsState
  mid = retired.0

  abbrev between : Graph
  between = retired.1.between

  abbrev over : List Locator
  over = map as_locator (reverse (places t.runs))

  has : HasWrites between
  has = has_before x.format (pages_first_in x.format) between h v commands over retired.1.root (has_writes h kept)

  are : AreNewest between image now
  are = under_root x.format (pages_first_in x.format) between h v commands over retired.1.root (has_writes h kept) image now after

  abbrev SomeRun : Type 0
  SomeRun = (entries : List Entry) × (place : Place) × (entries ≢ []) × IsMergedRun (index_of s) entries × IsRunAppendedBy false x g ForMove entries place mid between
      × (t.runs ≡ record { place = place; entries = entries } ∷ [])

  abbrev NoRun : Type 0
  NoRun = ((id : ℕ) → live_at (index_of s) id ≡ []) × (mid ≡ x) × (between ≡ g) × (t.runs ≡ [])

  -- the run that was appended leaves the shape, and what counts as found
  mid_shape : shape mid ≡ shape x
  mid_shape = ⊎_elim (λ (m : SomeRun). m.4.same_shape) (λ (n : NoRun). ap shape n.1) retired.1.appended

  mid_found : (d : ℕ) → (extents_of mid).found d ≡ (extents_of x).found d
  mid_found d = ⊎_elim
      (λ (m : SomeRun). ap (λ (z : Extents). z.found d) m.4.extents)
      (λ (n : NoRun). ap (λ (z : ExtentsState). (extents_of z).found d) n.1)
      retired.1.appended

  abbrev Still : Locator → List ℕ → Type 0
  Still l c = Stand (shape x) (formats_of (shape x)) now l.extent l.page (chunk_frame x c) × IsBelow (extents_of mid) l (chunk_frame x c)

  -- whatever was appended
  still : (l : Locator) (c : List ℕ) → IsChunkThere x view l c → Still l c
  still l c was = ⊎_elim
      (λ (m : SomeRun). stays_behind x mid g between ForMove (run_frame x m.0) (chunk_frame x c) (as_locator m.1) l image view now whole m.4 has before are was.1 was.0.1)
      (λ (n : NoRun).
      let same : (p : ℕ) → now p ≡ view p = one_view g image now view (subst (λ (b : Graph). AreNewest b image now) n.2 are) before in (
        stand_of (shape x) (formats_of (shape x)) now l.extent l.page (chunk_frame x c)
            (λ i lt. same ((shape x).address l.extent (l.page + i)) ∙ of_stand (shape x) (formats_of (shape x)) view l.extent l.page (chunk_frame x c) was.0.1 i lt),
        subst (λ (z : ExtentsState). IsBelow (extents_of z) l (chunk_frame x c)) (sym n.1) was.1,
      ))
      retired.1.appended

  -- what counts as found does, as the extent is emptied, and a frame elsewhere stays below its pointer
  found_then : (d : ℕ) → (extents_of y).found d ≡ (extents_of x).found d
  found_then d = ap (λ (z : Extents). z.found d) retired.2 ∙ mid_found d

  below : (l : Locator) (f : List (List ℕ)) → l.extent ≢ e → IsBelow (extents_of mid) l f → IsBelow (extents_of y) l f
  below l f other under = subst (λ (z : Extents). IsBelow z l f) (sym retired.2) (below_reset (extents_of mid) e v l f other under)

  there_then : (l : Locator) (c : List ℕ) → l.extent ≢ e → IsChunkThere x view l c → IsChunkThere y now l c
  there_then l c other was =
      let here = still l c was in
      there_still x y l c retired.3 (found_then l.extent) view now was.0 here.0 (below l (chunk_frame x c) other here.1)

  all_stay : (ls : List Place) (cs : List (List ℕ)) → ((l : Place) → l ∈ ls → l.extent ≢ e)
      → AreChunksIn x view (map as_locator ls) cs → AreBelow (shape x) (extents_of x) (map as_locator ls) cs
      → AreChunksIn y now (map as_locator ls) cs × AreBelow (shape y) (extents_of y) (map as_locator ls) cs
  all_stay [] [] off at under = (tt, tt)
  all_stay [] (c ∷ cs) off at under = absurd at
  all_stay (l ∷ ls) [] off at under = absurd at
  all_stay (l ∷ ls) (c ∷ cs) off at under =
      let here = there_then (as_locator l) c (off l (inl refl)) (at.0, under.0) in
      let rest = all_stay ls cs (λ k there. off k (inr there)) at.1 under.1 in
      ((here.0, rest.0), (here.1, rest.1))

  pub retire_keeps : NothingLive (index_of s) e → ((id : ℕ) → live_at (index_of t) id ≡ live_at (index_of s) id)
      → (d : ℕ) (cs : List (List ℕ)) → AreChunksIn x view (places_at s d) cs → AreBelow (shape x) (extents_of x) (places_at s d) cs
      → AreChunksIn y now (places_at t d) cs × AreBelow (shape y) (extents_of y) (places_at t d) cs
  retire_keeps nothing same d cs at under =
      subst (λ (ls : List Place). AreChunksIn y now (map as_locator ls) cs × AreBelow (shape y) (extents_of y) (map as_locator ls) cs) (sym (same d))
      (all_stay (live_at (index_of s) d) cs (λ l there. nothing d l there) at under)

-- ---- an abandoned sweep

below_marked : (S : Shape) (x : Extents) (e : ℕ) (b : Bool) (ls : List Locator) (cs : List (List ℕ)) → AreBelow S x ls cs → AreBelow S (marked x e b) ls cs
below_marked S x e b [] [] under = tt
below_marked S x e b [] (c ∷ cs) under = absurd under
below_marked S x e b (l ∷ ls) [] under = absurd under
below_marked S x e b (l ∷ ls) (c ∷ cs) under = (under.0, below_marked S x e b ls cs under.1)

pub mark_keeps : (S : Shape) (x y : Extents) (e : ℕ) (b : Bool) → y ≡ marked x e b → (ls : List Locator) (cs : List (List ℕ)) → AreBelow S x ls cs → AreBelow S y ls cs
mark_keeps S x y e b is ls cs under = subst (λ (z : Extents). AreBelow S z ls cs) (sym is) (below_marked S x e b ls cs under)

pub mark_reads : (x y : ExtentsState) (e : ℕ) (b : Bool) (view : ℕ → List ℕ) → extents_of y ≡ marked (extents_of x) e b → shape y ≡ shape x
    → (ls : List Locator) (cs : List (List ℕ)) → AreChunksIn x view ls cs → AreChunksIn y view ls cs
mark_reads x y e b view is same [] [] at = tt
mark_reads x y e b view is same [] (c ∷ cs) at = absurd at
mark_reads x y e b view is same (l ∷ ls) [] at = absurd at
mark_reads x y e b view is same (l ∷ ls) (c ∷ cs) at =
    (in_still x y l c same (ap (λ (z : Extents). z.found l.extent) is) view view at.0 at.0.1, mark_reads x y e b view is same ls cs at.1)
