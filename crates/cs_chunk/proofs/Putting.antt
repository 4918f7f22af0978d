-- The frames of a put, appended one after another.
use Rattle.std.proofs.Common.{◌≡◌, ◌∙◌, ℕ, suc, ◌+◌, ◌^◌, ◌<◌, ◌≤◌, Bool, true, false, List, [], ◌∷◌, ◌++◌, length, take, drop, get_or, refl, sym, ap, subst, inl, inr, ⊎_elim, arith}
use Rattle.std.specs.Prelude.{map, sum}
use Rattle.std.specs.List.{AllByRecursion}
use Rattle.std.proofs.lemmas.List.{get_or-map, drop_more, take_more, length-map}
use Rattle.cs_chunk.specs.Chunks.{AreChunksIn}
use Rattle.cs_chunk.specs.Newest.{AreNewest}
use Rattle.cs_chunk.specs.Puts.{AreNewestFrames, IsNewestFrame, IsPutSoFar, MayPut}
use Rattle.cs_chunk.proofs.Appends.{found_more, frame_begins, frames_stay, has_writes, staged_more, within_more}
use Rattle.cs_chunk.proofs.Newest.{reads_newest, stand_of}
use Rattle.cs_deps.specs.State.{IsWhole, State as Graph}
use Rattle.cs_disk.specs.Disk.{Image}
use Rattle.cs_extent.specs.Appended.{AreAppendedBy, IsAppended, IsAppendedBy, IsReady}
use Rattle.cs_extent.specs.Frames.{IsWorn, family_of}
use Rattle.cs_extent.specs.State.{State, extents_of, shape}
use Rattle.cs_extent.specs.Worn.{ArePlacedBy, AreWornBy, in_section}
use Rattle.cs_extent.proofs.Appending.{whatever_room}
use Rattle.cs_extent.proofs.Staged.{frame_latest}
use Rattle.cs_extent.proofs.Worn.{frame_counts, in_section_here, places_there, sum_of}
use Rattle.cs_frame.specs.declared.locators.Locator.{Locator}
use Rattle.cs_frame.specs.Formats.{formats_of}
use Rattle.law_machine.specs.Append.{chunk_frames, page_counts}
use Rattle.law_machine.specs.Device.{Shape}
use Rattle.law_machine.specs.Extents.{Extents, FitsBy, ForPut, Goes, Purpose as Reason, reach, taken_by}
use Rattle.law_machine.specs.Formats.{ChunkFrame}
use Rattle.law_machine.specs.Frames.{AreLong}
use Rattle.law_machine.proofs.Filled.{reach_end, reach_off}
use Rattle.law_machine.proofs.Places.{goes_inside, goes_one}

-- the graph's room doesn't matter
pub appended_whatever : (apart : Bool) (x : State) (g k : Graph) (r : Reason) (fs : List (List (List ℕ))) (ls : List Locator) (y : State) (h : Graph) → k ≡ record g { room = k.room } → AreAppendedBy apart x k r fs ls y h → AreAppendedBy apart x g r fs ls y h
appended_whatever apart x g k r [] [] y h same a = (a.0, a.1 ∙ ap (λ (s : Graph). record s { room = h.room }) same)
appended_whatever apart x g k r (f ∷ fs) (l ∷ ls) y h same a = (a.0, a.1, whatever_room x g k r f l a.0 a.1 same a.2, a.3)
appended_whatever apart x g k r [] (l ∷ ls) y h same a = a
appended_whatever apart x g k r (f ∷ fs) [] y h same a = a

-- one frame more
appended_more : (apart : Bool) (x : State) (g : Graph) (r : Reason) (fs : List (List (List ℕ))) (ls : List Locator) (y : State) (h : Graph) (f : List (List ℕ)) (l : Locator) (z : State) (i : Graph)
    → AreAppendedBy apart x g r fs ls y h → IsAppendedBy apart y h r f l z i → AreAppendedBy apart x g r (fs ++ f ∷ []) (ls ++ l ∷ []) z i
appended_more apart x g r [] [] y h f l z i a more = (z, i, whatever_room x g h r f l z i a.1 (subst (λ s. IsAppendedBy apart s h r f l z i) a.0 more), (refl, refl))
appended_more apart x g r (e ∷ fs) (k ∷ ls) y h f l z i a more = (a.0, a.1, a.2, appended_more apart a.0 a.1 r fs ls y h f l z i a.3 more)
appended_more apart x g r [] (k ∷ ls) y h f l z i a more = absurd a
appended_more apart x g r (e ∷ fs) [] y h f l z i a more = absurd a

frames_more : (S : Shape) (x : Extents) (g : Graph) (ls : List Locator) (fs : List (List (List ℕ))) (l : Locator) (f : List (List ℕ)) → AreNewestFrames S x g ls fs → IsNewestFrame S x g l f → AreNewestFrames S x g (ls ++ l ∷ []) (fs ++ f ∷ [])
frames_more S x g [] [] l f are is = (is, tt)
frames_more S x g (k ∷ ls) (e ∷ fs) l f are is = (are.0, frames_more S x g ls fs l f are.1 is)
frames_more S x g [] (e ∷ fs) l f are is = absurd are
frames_more S x g (k ∷ ls) [] l f are is = absurd are

counts_more : (fs : List (List (List ℕ))) (f : List (List ℕ)) → length (fs ++ f ∷ []) + sum (page_counts (fs ++ f ∷ [])) ≡ length fs + sum (page_counts fs) + (length f + 1)
counts_more [] f = omega (arith, sum_of (length f) [])
counts_more (e ∷ fs) f = omega (arith, counts_more fs f, sum_of (length e) (page_counts (fs ++ f ∷ [])), sum_of (length e) (page_counts fs))

-- one frame is appended
module _ (x : State) (g : Graph) (f : List (List ℕ)) (left : List (List (List ℕ))) (may : MayPut x g (f ∷ left)) where
  abbrev rule : Bool
  rule = (shape x).apart

  -- those that are left fit, wherever it goes
  fits_behind : (e : ℕ) → Goes (shape x) rule (extents_of x) ForPut (length f) e → FitsBy (shape x) rule (taken_by (shape x) rule ForPut (extents_of x) e (length f)) ForPut (page_counts left)
  fits_behind e placed =
      subst (λ (d : ℕ). FitsBy (shape x) rule (taken_by (shape x) rule ForPut (extents_of x) d (length f)) ForPut (page_counts left))
      (goes_one (shape x) rule (extents_of x) ForPut (length f) may.fits.0 e may.fits.1 placed) may.fits.2

  section_inside : (e : ℕ) → Goes (shape x) rule (extents_of x) ForPut (length f) e → (shape x).section e < (shape x).sections
  section_inside e placed = may.sections e (goes_inside (shape x) rule (extents_of x) ForPut (length f) e placed).0

  pub not_worn : (e : ℕ) → Goes (shape x) rule (extents_of x) ForPut (length f) e → IsWorn g.staging ((shape x).section e) (length f) → ⊥
  not_worn e placed worn =
      let rest = places_there (shape x) rule (taken_by (shape x) rule ForPut (extents_of x) e (length f)) ForPut (page_counts left) (fits_behind e placed) in
      let count : in_section (shape x) ((shape x).section e) (e ∷ rest.0) ≡ suc (in_section (shape x) ((shape x).section e) rest.0) = in_section_here (shape x) ((shape x).section e) e rest.0 refl in
      ⊎_elim
      (λ (n : 2 ^ 63 ≤ g.staging.staged + length f). may.numbers (inl (omega (arith, n, sum_of (length f) (page_counts left)))))
      (λ (n : 2 ^ 63 ≤ get_or g.staging.latest (family_of ((shape x).section e)) 0 + 1).
      may.numbers (inr (e ∷ rest.0, (placed, rest.1), (shape x).section e, section_inside e placed, omega (arith, n, count))))
      worn

  pub next_room : length f + 1 ≤ g.room
  next_room = omega (arith, may.room, sum_of (length f) (page_counts left))

  module _ (l : Locator) (y : State) (h : Graph) (a : IsAppended x g ForPut f l y h) (whole : IsWhole h) (ready : IsReady y h.staging) (room : g.room ≤ h.room + (length f + 1)) where
    same_pages : y.pages ≡ x.pages
    same_pages = ap (λ (S : Shape). S.pages) a.same_shape

    -- the last versions with those of the frames that are left
    versions_more : (es : List ℕ) (j : ℕ) → get_or h.staging.latest (family_of j) 0 + in_section (shape x) j es ≡ get_or g.staging.latest (family_of j) 0 + in_section (shape x) j (l.extent ∷ es)
    versions_more es j =
        frame_counts (shape x) g.staging.latest h.staging.latest l.extent es (section_inside l.extent a.placed) may.ready.families
        (frame_latest g.staging h.staging _ _ _ _ _ _ a.staged) j

    -- what is placed then is placed behind the frame
    placed_behind : (es : List ℕ) → ArePlacedBy (shape y) rule (extents_of y) ForPut (page_counts left) es → ArePlacedBy (shape x) rule (extents_of x) ForPut (length f ∷ page_counts left) (l.extent ∷ es)
    placed_behind es placed = (
      a.placed,
      subst (λ (z : Extents). ArePlacedBy (shape x) rule z ForPut (page_counts left) es) a.extents
          (subst (λ (S : Shape). ArePlacedBy S rule (extents_of y) ForPut (page_counts left) es) a.same_shape placed),
    )

    worn_before : AreWornBy rule y h.staging ForPut (page_counts left) → AreWornBy rule x g.staging ForPut (page_counts (f ∷ left))
    worn_before worn = ⊎_elim
        (λ (n : 2 ^ 63 ≤ h.staging.staged + sum (page_counts left)). inl (omega (arith, n, staged_more x g ForPut f l y h a (has_writes h whole), sum_of (length f) (page_counts left))))
        (λ (w : (places : List ℕ) × ArePlacedBy (shape y) rule (extents_of y) ForPut (page_counts left) places × (j : ℕ) × (j < y.sections) × (2 ^ 63 ≤ get_or h.staging.latest (family_of j) 0 + in_section (shape y) j places)).
        let few : w.2 < x.sections = omega (arith, w.3, ap (λ (S : Shape). S.sections) a.same_shape) in
        let here : 2 ^ 63 ≤ get_or h.staging.latest (family_of w.2) 0 + in_section (shape x) w.2 w.0 =
        subst (λ (S : Shape). 2 ^ 63 ≤ get_or h.staging.latest (family_of w.2) 0 + in_section S w.2 w.0) a.same_shape w.4 in
        inr (l.extent ∷ w.0, placed_behind w.0 w.1, w.2, few, omega (arith, here, versions_more w.0 w.2)))
        worn

    pub may_more : MayPut y h left
    may_more = record {
      ready = ready;
      sections = subst (λ (S : Shape). (e : ℕ) → e < S.extents → S.section e < S.sections) (sym a.same_shape) may.sections;
      pointers = λ e. omega (arith, within_more x g ForPut f l y h a (has_writes h whole) may.pointers e, same_pages);
      found = λ on. found_more x g ForPut f l y h a (has_writes h whole) may.found (sym (ap (λ (S : Shape). S.fills) a.same_shape) ∙ on);
      pages = subst (λ n. AllByRecursion (λ k. (1 ≤ k) × (k ≤ n)) (page_counts left)) (sym same_pages) may.pages.1;
      fits = subst (λ (S : Shape). FitsBy S S.apart (extents_of y) ForPut (page_counts left)) (sym a.same_shape) (subst (λ (z : Extents). FitsBy (shape x) rule z ForPut (page_counts left)) (sym a.extents) (fits_behind l.extent a.placed));
      numbers = λ worn. may.numbers (worn_before (subst (λ (b : Bool). AreWornBy b y h.staging ForPut (page_counts left)) (ap (λ (S : Shape). S.apart) a.same_shape) worn));
      room = omega (arith, may.room, room, sum_of (length f) (page_counts left));
    }

pub so_far_more : (x : State) (g : Graph) (done : List (List (List ℕ))) (f : List (List ℕ)) (left : List (List (List ℕ))) (ls : List Locator) (y : State) (h : Graph) (l : Locator) (z : State) (i : Graph)
    → IsPutSoFar x g done (f ∷ left) ls y h → IsAppended y h ForPut f l z i → IsWhole i → IsReady z i.staging → h.room ≤ i.room + (length f + 1)
    → IsPutSoFar x g (done ++ f ∷ []) left (ls ++ l ∷ []) z i
so_far_more x g done f left ls y h l z i was a whole ready room = record {
  appended = appended_more (shape x).apart x g ForPut done ls y h f l z i was.appended (subst (λ (b : Bool). IsAppendedBy b y h ForPut f l z i) (ap (λ (S : Shape). S.apart) was.same_shape) a);
  newest = subst (λ S. AreNewestFrames S (extents_of z) i (ls ++ l ∷ []) (done ++ f ∷ [])) was.same_shape
      (frames_more (shape y) (extents_of z) i ls done l f
      (frames_stay y h ForPut f l z i a (has_writes i whole) was.may.pointers ls done (subst (λ S. AreNewestFrames S (extents_of y) h ls done) (sym was.same_shape) was.newest))
      (frame_begins y h ForPut f l z i a (has_writes i whole) was.may.found));
  may = may_more y h f left was.may l z i a whole ready room;
  same_shape = a.same_shape ∙ was.same_shape;
  room = omega (arith, was.room, room, counts_more done f);
}

pub so_far_none : (x : State) (g : Graph) (frames : List (List (List ℕ))) (ls : List Locator) → ls ≡ [] → MayPut x g frames → IsPutSoFar x g [] frames ls x g
so_far_none x g frames ls none may = rw none (record { appended = (refl, refl); newest = tt; may = may; same_shape = refl; room = omega arith })

-- frame k of a list of vectors
module _ {V X : Type 0} (items : V → X) (vs : List V) (k : ℕ) (v : V) (f : X) (lt : k < length vs) (read : v ≡ get_or vs k v) (is : f ≡ items v) where
  at_k : get_or (map items vs) k f ≡ f
  at_k = get_or-map items vs k v f lt ∙ ap items (sym read) ∙ sym is

  inside_k : k < length (map items vs)
  inside_k = omega (arith, length-map vs items)

  pub left_at : drop k (map items vs) ≡ f ∷ drop (k + 1) (map items vs)
  left_at = drop_more (map items vs) k f inside_k ∙ ap (λ u. u ∷ drop (k + 1) (map items vs)) at_k

  pub done_at : take (k + 1) (map items vs) ≡ take k (map items vs) ++ f ∷ []
  done_at = take_more (map items vs) k f inside_k ∙ ap (λ u. take k (map items vs) ++ u ∷ []) at_k

-- a frame behind what counts as found may reach to the end of its extent
pub end_behind : (S : Shape) (found page : ℕ) → (S.fills ≡ true → found ≤ page) → reach S found page ≡ S.pages
end_behind S found page behind = go S.fills refl
  where
    go : (b : Bool) → S.fills ≡ b → reach S found page ≡ S.pages
    go true on = reach_end S found page (behind on)
    go false off = reach_off S found page off

-- what was put reads back
pub put_reads : (x : State) (g : Graph) (image : Image) (view : ℕ → List ℕ) (ls : List Locator) (cs : List (List ℕ)) → ((e : ℕ) → (extents_of x).pointer e ≤ x.pages) → AreNewest g image view
    → AreLong (shape x) (formats_of (shape x)) cs → AreNewestFrames (shape x) (extents_of x) g ls (chunk_frames (shape x) (formats_of (shape x)) cs) → AreChunksIn x view ls cs
put_reads x g image view [] [] within are long newest = tt
put_reads x g image view (l ∷ ls) (c ∷ cs) within are long newest =
    let S : Shape = shape x in
    let frame : List (List ℕ) = (formats_of (shape x)).frame ChunkFrame c in (
      (
        omega (arith, newest.0.given, within l.extent, end_behind (shape x) ((extents_of x).found l.extent) l.page newest.0.behind),
        stand_of S (formats_of S) view l.extent l.page frame (λ i lt. reads_newest g image view (S.address l.extent (l.page + i)) (get_or frame i []) are (newest.0.newest i lt)),
        newest.0.meant,
        long c (inl refl) (omega (arith, newest.0.given, within l.extent)),
      ),
      put_reads x g image view ls cs within are (λ d there. long d (inr there)) newest.1,
    )
put_reads x g image view [] (c ∷ cs) within are long newest = newest
put_reads x g image view (l ∷ ls) [] within are long newest = newest

pub so_far_at : (x : State) (g : Graph) (done fs : List (List (List ℕ))) (f : List (List ℕ)) (left : List (List (List ℕ))) (ls : List Locator) (y : State) (h : Graph) → fs ≡ f ∷ left → IsPutSoFar x g done fs ls y h → IsPutSoFar x g done (f ∷ left) ls y h
so_far_at x g done fs f left ls y h is was = subst (λ us. IsPutSoFar x g done us ls y h) is was

pub so_far_done : (x : State) (g : Graph) (done fs new : List (List (List ℕ))) (f : List (List ℕ)) (left : List (List (List ℕ))) (ls : List Locator) (y : State) (h : Graph) (l : Locator) (z : State) (i : Graph)
    → fs ≡ f ∷ left → new ≡ done ++ f ∷ [] → IsPutSoFar x g done fs ls y h → IsAppended y h ForPut f l z i → IsWhole i → IsReady z i.staging → h.room ≤ i.room + (length f + 1)
    → IsPutSoFar x g new left (ls ++ l ∷ []) z i
so_far_done x g done fs new f left ls y h l z i is more was a whole ready room =
    subst (λ us. IsPutSoFar x g us left (ls ++ l ∷ []) z i) (sym more) (so_far_more x g done f left ls y h l z i (so_far_at x g done fs f left ls y h is was) a whole ready room)
