-- What an append leaves of the waiting writes, and what it adds.
use Rattle.std.proofs.Common.{◌≡◌, ◌≢◌, ◌∙◌, ℕ, zero, suc, ◌+◌, ◌-◌, ◌<◌, ◌≤◌, ◌⊎◌, Bool, true, false, List, [], ◌∷◌, ◌++◌, length, Some, slice_get, get_or, eq-eqb, refl, sym, ap, subst, inl, inr, ⊎_elim, arith}
use Rattle.std.specs.Prelude.{◌==◌, if◌then◌else◌, slice_index_or}
use Rattle.std.proofs.lemmas.Option.{some_pair_parts, slice_get_within}
use Rattle.cs_chunk.specs.Puts.{AreNewestFrames, IsNewestFrame}
use Rattle.cs_chunk.proofs.Newest.{one_place}
use Rattle.cs_deps.specs.declared.elements.Element.{Element}
use Rattle.cs_deps.specs.declared.elements.Element.TheVariants.{Plain, Version}
use Rattle.cs_deps.specs.Named.{Named}
use Rattle.cs_deps.specs.Pending.{Waits, WaitsAt}
use Rattle.cs_deps.specs.Staging.{Staging}
use Rattle.cs_deps.specs.State.{IsNewestOn, IsWhole, NoneOn, State as Graph, Write, write_of}
use Rattle.cs_extent.specs.Appended.{IsAppendedBy}
use Rattle.cs_extent.specs.Frames.{IsNextPlain, family_of}
use Rattle.cs_extent.specs.State.{State, extents_of, shape}
use Rattle.cs_extent.proofs.Fitting.{pointer_grows, with_same}
use Rattle.cs_extent.proofs.Given.{in_either}
use Rattle.cs_extent.proofs.Staged.{get_front}
use Rattle.cs_frame.specs.declared.locators.Locator.{Locator}
use Rattle.law_machine.specs.Device.{mark_of}
use Rattle.law_machine.specs.Extents.{Extents, Purpose as Reason}
use Rattle.law_machine.specs.Lists.{with}
use Rattle.law_machine.proofs.Places.{goes_inside}

get_back : {X : Type 0} (xs ys : List X) (i : ℕ) (x : X) → slice_get ys i ≡ Some x → slice_get (xs ++ ys) (length xs + i) ≡ Some x
get_back [] ys i x h = let same : i ≡ 0 + i = omega arith in subst (λ k. slice_get ys k ≡ Some x) same h
get_back (y ∷ xs) ys i x h = let same : suc (length xs + i) ≡ suc (length xs) + i = omega arith in subst (λ k. slice_get (y ∷ (xs ++ ys)) k ≡ Some x) same (get_back xs ys i x h)

pub pointer_within : (f : ℕ → ℕ) (e k most : ℕ) → f e + k ≤ most → ((d : ℕ) → f d ≤ most) → (d : ℕ) → with f e (f e + k) d ≤ most
pointer_within f e k most le all d = split (d == e) refl
  where
    split : (b : Bool) → (d == e) ≡ b → (if b then f e + k else f d) ≤ most
    split true is = le
    split false is = all d

-- The waiting plain writes have their writes, and wait in the order of their numbers.
pub record HasWrites (h : Graph) : Type 0 where
  pub in_order : (j k m n : ℕ) (d e : Named) → WaitsAt h.staging.pending j (Plain m) d → WaitsAt h.staging.pending k (Plain n) e → j < k → m < n
  pub writes : (n : ℕ) → Waits h.staging.pending (Plain n) → (w : Write) × (write_of h (Plain n) ≡ Some w)

pub has_writes : (h : Graph) → IsWhole h → HasWrites h
has_writes h whole = record {
  in_order = whole.kept.staged.plains_in_order;
  writes = λ n waits. whole.writes (Plain n) waits;
}

module _ {apart_by : Bool} (x : State) (g : Graph) (r : Reason) (frame : List (List ℕ)) (l : Locator) (y : State) (h : Graph) (a : IsAppendedBy apart_by x g r frame l y h) (has : HasWrites h) where
  abbrev waited : List (Element × Named)
  waited = g.staging.pending.waiting

  abbrev added : List (Element × Named)
  added = a.staged.pages.entries

  abbrev last : Element × Named
  last = (Version (family_of ((shape x).section l.extent)) (get_or a.staged.between.latest (family_of ((shape x).section l.extent)) 0 + 1), a.staged.section.version.1)

  abbrev at_page : ℕ → ℕ
  at_page i = (shape x).address l.extent (l.page + i)

  behind : h.staging.pending.waiting ≡ (waited ++ added) ++ last ∷ []
  behind = ap (λ (s : Staging). s.pending.waiting) a.staged.section.version.5 ∙ ap (λ (ws : List (Element × Named)). ws ++ last ∷ []) a.staged.pages.behind

  -- where an element that waited waits now
  kept_at : (k : ℕ) (e : Element × Named) → slice_get waited k ≡ Some e → slice_get h.staging.pending.waiting k ≡ Some e
  kept_at k e at = subst (λ ws. slice_get ws k ≡ Some e) (sym behind) (get_front (waited ++ added) (last ∷ []) k e (get_front waited added k e at))

  pub kept_waits : (n : ℕ) → Waits g.staging.pending (Plain n) → Waits h.staging.pending (Plain n)
  kept_waits n w = (w.0, w.1, kept_at w.0 (Plain n, w.1) w.2)

  new_at : (i : ℕ) → i < length frame → (d : Named) × (slice_get h.staging.pending.waiting (length waited + i) ≡ Some (Plain (g.staging.staged + 1 + i), d))
  new_at i lt =
      let e = a.staged.pages.each i lt in (
        e.0,
        subst (λ ws. slice_get ws (length waited + i) ≡ Some (Plain (g.staging.staged + 1 + i), e.0)) (sym behind)
            (get_front (waited ++ added) (last ∷ []) (length waited + i) (Plain (g.staging.staged + 1 + i), e.0) (get_back waited added i (Plain (g.staging.staged + 1 + i), e.0) e.1)),
      )

  pub new_waits : (i : ℕ) → i < length frame → Waits h.staging.pending (Plain (g.staging.staged + 1 + i))
  new_waits i lt = let e = new_at i lt in (length waited + i, e.0, e.1)

  -- what waited before was staged before
  pub older : (n i : ℕ) → Waits g.staging.pending (Plain n) → i < length frame → n < g.staging.staged + 1 + i
  older n i w lt =
      let e = new_at i lt in
      has.in_order w.0 (length waited + i) n (g.staging.staged + 1 + i) w.1 e.0 (kept_at w.0 (Plain n, w.1) w.2) e.1 (omega (arith, slice_get_within waited w.0 (Plain n, w.1) w.2))

  -- what waits waited before, or is a page of the frame
  pub came_waits : (m : ℕ) → Waits h.staging.pending (Plain m) → Waits g.staging.pending (Plain m) ⊎ ((i : ℕ) × (i < length frame) × (m ≡ g.staging.staged + 1 + i))
  came_waits m w = ⊎_elim
      (λ (p : (w.0 < length (waited ++ added)) × (slice_get (waited ++ added) w.0 ≡ Some (Plain m, w.1))). ⊎_elim
      (λ (q : (w.0 < length waited) × (slice_get waited w.0 ≡ Some (Plain m, w.1))). inl (w.0, w.1, q.1))
      (λ (q : (j : ℕ) × (w.0 ≡ length waited + j) × (slice_get added j ≡ Some (Plain m, w.1))).
      let lt : q.0 < length frame = omega (arith, slice_get_within added q.0 (Plain m, w.1) q.2, a.staged.pages.size) in
      let e = a.staged.pages.each q.0 lt in
      let both : Some (Plain m, w.1) ≡ Some (Plain (g.staging.staged + 1 + q.0), e.0) = sym q.2 ∙ e.1 in
      let same : Plain m ≡ Plain (g.staging.staged + 1 + q.0) = (some_pair_parts (Plain m) (Plain (g.staging.staged + 1 + q.0)) w.1 e.0 both).0 in
      inr (q.0, lt, cc same))
      (in_either waited added w.0 (Plain m, w.1) p.1))
      (λ (p : (j : ℕ) × (w.0 ≡ length (waited ++ added) + j) × (slice_get (last ∷ []) j ≡ Some (Plain m, w.1))). absurd (not_last p.0 p.2))
      (in_either (waited ++ added) (last ∷ []) w.0 (Plain m, w.1) (subst (λ ws. slice_get ws w.0 ≡ Some (Plain m, w.1)) behind w.2))
    where
      not_last : (j : ℕ) → slice_get (last ∷ []) j ≡ Some (Plain m, w.1) → ⊥
      not_last zero at = let same : last.0 ≡ Plain m = (some_pair_parts last.0 (Plain m) last.1 w.1 at).0 in absurd (cc same)
      not_last (suc j) at = absurd (cc at)

  -- the writes of what waited are the same
  pub kept_write : (n : ℕ) (w : Write) → Waits g.staging.pending (Plain n) → write_of h (Plain n) ≡ Some w → write_of g (Plain n) ≡ Some w
  kept_write n w waits is = ⊎_elim
      (λ (o : write_of g (Plain n) ≡ Some w). o)
      (λ (o : IsNextPlain g.staging (length frame) (Plain n)). absurd (omega (arith, o.0, o.1, older n (n - g.staging.staged - 1) waits (omega (arith, o.0, o.1)))))
      (a.others (Plain n) w is)

  -- what was newest is, but on the frame's own pages
  pub newest_stays : (p : ℕ) (b : List ℕ) → ((j : ℕ) → j < length frame → at_page j ≢ p) → IsNewestOn g p b → IsNewestOn h p b
  newest_stays p b apart n =
      let waits = kept_waits n.number n.waits in
      let w = has.writes n.number waits in
      record {
        number = n.number;
        waits = waits;
        write = w.1 ∙ sym (kept_write n.number w.0 n.waits w.1) ∙ n.write;
        last = λ m u more after kept same. ⊎_elim
            (λ (before : Waits g.staging.pending (Plain m)). n.last m u more before (kept_write m u before kept) same)
            (λ (new : (i : ℕ) × (i < length frame) × (m ≡ g.staging.staged + 1 + i)). apart new.0 new.1 (sym (page_of m u new kept) ∙ same))
            (came_waits m after);
      }
    where
      page_of : (m : ℕ) (u : Write) → (new : (i : ℕ) × (i < length frame) × (m ≡ g.staging.staged + 1 + i)) → write_of h (Plain m) ≡ Some u → u.0 ≡ at_page new.0
      page_of m u new kept = ap (λ (v : Write). v.0) (a.writes new.0 u new.1 (ap (λ k. write_of h (Plain k)) (sym new.2) ∙ kept))

  pub none_stays : (p : ℕ) → ((j : ℕ) → j < length frame → at_page j ≢ p) → NoneOn g p → NoneOn h p
  none_stays p apart none m u after kept same = ⊎_elim
      (λ (before : Waits g.staging.pending (Plain m)). none m u before (kept_write m u before kept) same)
      (λ (new : (i : ℕ) × (i < length frame) × (m ≡ g.staging.staged + 1 + i)). apart new.0 new.1 (sym (ap (λ (v : Write). v.0) (a.writes new.0 u new.1 (ap (λ k. write_of h (Plain k)) (sym new.2) ∙ kept))) ∙ same))
      (came_waits m after)

  -- a page of the frame is the newest
  pub newest_begins : (i : ℕ) → i < length frame → IsNewestOn h (at_page i) (slice_index_or frame i [])
  newest_begins i lt =
      let w = has.writes (g.staging.staged + 1 + i) (new_waits i lt) in
      record {
        number = g.staging.staged + 1 + i;
        waits = new_waits i lt;
        write = w.1 ∙ ap (λ (v : Write). Some v) (a.writes i w.0 lt w.1);
        last = λ m u more after kept same. ⊎_elim
            (λ (before : Waits g.staging.pending (Plain m)). absurd (omega (arith, older m i before lt, more)))
            (λ (new : (j : ℕ) × (j < length frame) × (m ≡ g.staging.staged + 1 + j)).
            let page : u.0 ≡ at_page new.0 = ap (λ (v : Write). v.0) (a.writes new.0 u new.1 (ap (λ k. write_of h (Plain k)) (sym new.2) ∙ kept)) in
            let one : at_page new.0 ≡ at_page i = sym page ∙ same in
            absurd (omega (arith, one, more, new.2)))
            (came_waits m after);
      }

  inside : (l.extent < (shape x).extents) × ((extents_of x).pointer l.extent + length frame ≤ (shape x).pages)
  inside = goes_inside (shape x) apart_by (extents_of x) r (length frame) l.extent a.placed

  begins_at : l.page ≡ (extents_of x).pointer l.extent
  begins_at = ap (λ (k : Locator). k.page) a.place

  -- a page below the pointer of its extent is none of the frame's
  pub apart_below : ((e : ℕ) → (extents_of x).pointer e ≤ x.pages) → (e i : ℕ) → i < (extents_of x).pointer e → (j : ℕ) → j < length frame → at_page j ≢ (shape x).address e i
  apart_below within e i below j lt same =
      let one = one_place (length x.written) x.pages l.extent (l.page + j) e i (omega (arith, inside.1, begins_at, lt)) (omega (arith, below, within e)) same in
      let there : (extents_of x).pointer l.extent ≡ (extents_of x).pointer e = ap (extents_of x).pointer one.0 in
      absurd (omega (arith, one.1, there, begins_at, below))

  pub pointer_of : (e : ℕ) → (extents_of y).pointer e ≡ with (extents_of x).pointer l.extent ((extents_of x).pointer l.extent + length frame) e
  pointer_of e = ap (λ (z : Extents). z.pointer e) a.extents

  pub found_of : (e : ℕ) → (extents_of y).found e ≡ (extents_of x).found e
  found_of e = ap (λ (z : Extents). z.found e) a.extents

  pub frame_stays : ((e : ℕ) → (extents_of x).pointer e ≤ x.pages) → (k : Locator) (f : List (List ℕ)) → IsNewestFrame (shape x) (extents_of x) g k f → IsNewestFrame (shape x) (extents_of y) h k f
  frame_stays within k f was = record {
    extent = was.extent;
    given = omega (arith, was.given, pointer_of k.extent, pointer_grows (extents_of x).pointer l.extent (length frame) k.extent);
    behind = λ on. omega (arith, was.behind on, found_of k.extent);
    meant = was.meant;
    newest = λ i lt. newest_stays ((shape x).address k.extent (k.page + i)) (slice_index_or f i []) (apart_below within k.extent (k.page + i) (omega (arith, was.given, lt))) (was.newest i lt);
  }

  pub frame_begins : ((shape x).fills ≡ true → (e : ℕ) → (extents_of x).found e ≤ (extents_of x).pointer e) → IsNewestFrame (shape x) (extents_of y) h l frame
  frame_begins found = record {
    extent = inside.0;
    given = omega (arith, begins_at, pointer_of l.extent, with_same (extents_of x).pointer l.extent ((extents_of x).pointer l.extent + length frame));
    behind = λ on. omega (arith, found on l.extent, begins_at, found_of l.extent);
    meant = eq-eqb (mark_of (shape x) frame) l.mark (sym (ap (λ (k : Locator). k.mark) a.place));
    newest = newest_begins;
  }

  pub frames_stay : ((e : ℕ) → (extents_of x).pointer e ≤ x.pages) → (ls : List Locator) (fs : List (List (List ℕ))) → AreNewestFrames (shape x) (extents_of x) g ls fs → AreNewestFrames (shape x) (extents_of y) h ls fs
  frames_stay within [] [] was = tt
  frames_stay within (k ∷ ks) (f ∷ fs) was = (frame_stays within k f was.0, frames_stay within ks fs was.1)
  frames_stay within [] (f ∷ fs) was = was
  frames_stay within (k ∷ ks) [] was = was

  -- the numbers that the next frame finds
  pub staged_more : h.staging.staged ≡ g.staging.staged + length frame
  staged_more = ap (λ (s : Staging). s.staged) a.staged.section.version.5 ∙ a.staged.pages.staged

  pub within_more : ((e : ℕ) → (extents_of x).pointer e ≤ x.pages) → (e : ℕ) → (extents_of y).pointer e ≤ x.pages
  within_more within e = omega (arith, pointer_of e, pointer_within (extents_of x).pointer l.extent (length frame) x.pages inside.1 within e)

  pub found_more : ((shape x).fills ≡ true → (e : ℕ) → (extents_of x).found e ≤ (extents_of x).pointer e) → (shape x).fills ≡ true → (e : ℕ) → (extents_of y).found e ≤ (extents_of y).pointer e
  found_more found on e = omega (arith, found on e, found_of e, pointer_of e, pointer_grows (extents_of x).pointer l.extent (length frame) e)
