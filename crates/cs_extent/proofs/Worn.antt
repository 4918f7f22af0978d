-- Where frames go that are to be appended, and how many versions of each section they take.
use Rattle.std.proofs.Common.{◌≡◌, ◌≢◌, ◌∙◌, ◌↔◌, ℕ, zero, suc, ◌+◌, ◌-◌, ◌^◌, ◌<◌, ◌≤◌, ◌==◌, min, Bool, true, false, cond, List, [], ◌∷◌, length, drop, get_or, set, replicate, sum, Option, Some, None, refl, sym, ap, subst, inl, inr, ⊎_elim, arith, length-set, true≢false}
use Rattle.std.specs.Option.{is_some}
use Rattle.std.specs.Prelude.{◌⊎◌, MatchOption}
use Rattle.std.proofs.lemmas.Bool.{cases_eq, cases_lt}
use Rattle.std.proofs.lemmas.Bool.Decides.{nat_tests}
use Rattle.std.proofs.lemmas.List.{drop_all, get_or-set_other, get_or-set_same}
use Rattle.std.proofs.lemmas.List.Sums.{sum_by-cons}
use Rattle.std.proofs.lemmas.Option.{same_Some}
use Rattle.std.proofs.Math.Seq.{drop-cons}
use Rattle.cs_deps.specs.Staging.{Staging}
use Rattle.law_machine.specs.Device.{Shape}
use Rattle.law_machine.specs.Extents.{Extents, Fits, FitsBy, HasRoom, IsFirstEmpty, Placed, Purpose as Reason, empties, open_after, spare, taken, taken_by}
use Rattle.law_machine.specs.Lists.{with}
use Rattle.law_machine.proofs.Places.{goes_one}
use Rattle.cs_frame.proofs.GeometryLaws.{bounds}
use Rattle.cs_extent.specs.declared.places_v2.Way.{Way}
use Rattle.cs_extent.specs.Frames.{family_of}
use Rattle.cs_extent.specs.Places.{room_at}
use Rattle.cs_extent.specs.State.{IsWhole, State, extents_of, shape}
use Rattle.cs_extent.specs.Worn.{AreCountedBy, ArePlacedBy, AreWornBy, IsEmptyFrom, in_section}
use Rattle.cs_extent.proofs.Changes.{zeros_at}
use Rattle.cs_extent.proofs.Staged.{family_inside}
use Rattle.cs_extent.proofs.Fitting.{IsBegun, begun_of, placed_inside, pointer_grows, room_behind, room_is, taken_begun, with_other, with_same}

-- ---- lists of places

pub sum_of : (k : ℕ) (ks : List ℕ) → sum (k ∷ ks) ≡ k + sum ks
sum_of k ks = sum_by-cons (λ x. x) k ks

count_cons : (S : Shape) (j e : ℕ) (es : List ℕ) → in_section S j (e ∷ es) ≡ cond (S.section e == j) 1 0 + in_section S j es
count_cons S j e es = sum_by-cons (λ d. cond (S.section d == j) 1 0) e es

-- one place more in a section
pub in_section_here : (S : Shape) (j e : ℕ) (es : List ℕ) → S.section e ≡ j → in_section S j (e ∷ es) ≡ suc (in_section S j es)
in_section_here S j e es is =
    let yes : (S.section e == j) ≡ true = grind (arith, nat_tests) in
    count_cons S j e es ∙ ap (λ b. cond b 1 0 + in_section S j es) yes ∙ omega arith

pub in_section_other : (S : Shape) (j e : ℕ) (es : List ℕ) → S.section e ≢ j → in_section S j (e ∷ es) ≡ in_section S j es
in_section_other S j e es other =
    let no : (S.section e == j) ≡ false = grind (arith, nat_tests) in
    count_cons S j e es ∙ ap (λ b. cond b 1 0 + in_section S j es) no ∙ omega arith

-- frames go to one list of extents, if to any
pub places_once_by : (S : Shape) (apart : Bool) (x : Extents) (r : Reason) (ks ds es : List ℕ) → ArePlacedBy S apart x r ks ds → ArePlacedBy S apart x r ks es → ds ≡ es
places_once_by S apart x r [] [] [] a b = refl
places_once_by S apart x r (k ∷ ks) (d ∷ ds) (e ∷ es) a b =
    let same : d ≡ e = goes_one S apart x r k d e a.0 b.0 in
    let rest : ds ≡ es = places_once_by S apart (taken_by S apart r x d k) r ks ds es a.1 (subst (λ (n : ℕ). ArePlacedBy S apart (taken_by S apart r x n k) r ks es) (sym same) b.1) in
    ap (λ (n : ℕ). n ∷ ds) same ∙ ap (λ (ns : List ℕ). e ∷ ns) rest
places_once_by S apart x r [] (d ∷ ds) es a b = absurd a
places_once_by S apart x r [] [] (e ∷ es) a b = absurd b
places_once_by S apart x r (k ∷ ks) [] es a b = absurd a
places_once_by S apart x r (k ∷ ks) (d ∷ ds) [] a b = absurd b

pub places_once : (S : Shape) (x : Extents) (r : Reason) (ks ds es : List ℕ) → ArePlacedBy S false x r ks ds → ArePlacedBy S false x r ks es → ds ≡ es
places_once S x r ks ds es a b = places_once_by S false x r ks ds es a b

-- frames that fit have places
pub places_there : (S : Shape) (apart : Bool) (x : Extents) (r : Reason) (ks : List ℕ) → FitsBy S apart x r ks → (places : List ℕ) × ArePlacedBy S apart x r ks places
places_there S apart x r [] fits = ([], tt)
places_there S apart x r (k ∷ ks) fits =
    let rest = places_there S apart (taken_by S apart r x fits.0 k) r ks fits.2 in
    (fits.0 ∷ rest.0, (fits.1, rest.1))

-- frames that have places fit
pub placed_fit : (S : Shape) (apart : Bool) (x : Extents) (r : Reason) (ks es : List ℕ) → ArePlacedBy S apart x r ks es → FitsBy S apart x r ks
placed_fit S apart x r [] es placed = tt
placed_fit S apart x r (k ∷ ks) (e ∷ es) placed = (e, placed.0, placed_fit S apart (taken_by S apart r x e k) r ks es placed.1)
placed_fit S apart x r (k ∷ ks) [] placed = absurd placed

-- each section has a family of its own
pub family_one : (i j : ℕ) → family_of i ≡ family_of j → i ≡ j
family_one zero zero is = refl
family_one zero (suc j) is = absurd (omega (arith, is))
family_one (suc i) zero is = absurd (omega (arith, is))
family_one (suc i) (suc j) is = omega (arith, is)

-- Once a frame went to e, the last version of each section, and those that further frames take, together are what they
-- were with the frame still to come.
pub frame_counts : (S : Shape) (old new : List ℕ) (e : ℕ) (es : List ℕ) → S.section e < S.sections → length old ≡ 1 + S.sections
    → new ≡ set old (family_of (S.section e)) (get_or old (family_of (S.section e)) 0 + 1)
    → (j : ℕ) → get_or new (family_of j) 0 + in_section S j es ≡ get_or old (family_of j) 0 + in_section S j (e ∷ es)
frame_counts S old new e es there families is j = ⊎_elim
    (λ (here : j ≡ S.section e).
    let inside : family_of (S.section e) < length old = omega (arith, families, family_inside S.sections (S.section e) there) in
    let read : get_or new (family_of j) 0 ≡ get_or old (family_of j) 0 + 1 =
    ap (λ (ns : List ℕ). get_or ns (family_of j) 0) is
    ∙ ap (λ (i : ℕ). get_or (set old (family_of (S.section e)) (get_or old (family_of (S.section e)) 0 + 1)) (family_of i) 0) here
    ∙ get_or-set_same old (family_of (S.section e)) (get_or old (family_of (S.section e)) 0 + 1) 0 inside
    ∙ ap (λ (i : ℕ). get_or old (family_of i) 0 + 1) (sym here) in
    omega (arith, read, in_section_here S j e es (sym here)))
    (λ (other : j ≢ S.section e).
    let read : get_or new (family_of j) 0 ≡ get_or old (family_of j) 0 =
    ap (λ (ns : List ℕ). get_or ns (family_of j) 0) is
    ∙ get_or-set_other old (family_of (S.section e)) (family_of j) (get_or old (family_of (S.section e)) 0 + 1) 0 (λ same. other (family_one j (S.section e) same)) in
    omega (arith, read, in_section_other S j e es (λ at. other (sym at))))
    (cases_eq j (S.section e))

-- ---- where the next frame goes

still_open : (S : Shape) (e p : ℕ) → p < S.pages → open_after S e p ≡ Some e
still_open S e p lt = let apart : (p == S.pages) ≡ false = grind (arith, nat_tests) in rw apart refl

pub opened_at : (pages : ℕ) (pointer : ℕ → ℕ) (o : Option ℕ) (e room : ℕ) → ((d : ℕ) → o ≡ Some d → e ≡ d) → room ≡ room_at pages pointer o → 0 < room → o ≡ Some e
opened_at pages pointer None e room is r some = absurd (omega (arith, r, some))
opened_at pages pointer (Some d) e room is r some = let same : e ≡ d = is d refl in ap (λ (n : ℕ). Some n) (sym same)

empty_once : (n : ℕ) (f : ℕ → ℕ) (start d e : ℕ) → IsEmptyFrom n f start d → IsEmptyFrom n f start e → d ≡ e
empty_once n f start d e p q = ⊎_elim
    (λ (l : d < e). let some : 0 < f d = q.first d p.behind l in absurd (omega (arith, p.empty, some)))
    (λ (l : e ≤ d). ⊎_elim
    (λ (m : e < d). let some : 0 < f e = p.first e q.behind m in absurd (omega (arith, q.empty, some)))
    (λ (m : d ≤ e). omega (arith, l, m))
    (cases_lt e d))
    (cases_lt d e)

-- From the extents x on, frames have led to the extents y, and this is where the next goes.
pub record IsOnWay (S : Shape) (x y : Extents) (w : Way) : Type 0 where
  pub left : w.room ≡ room_at S.pages y.pointer y.open_extent
  pub opened : 0 < w.room → y.open_extent ≡ Some w.extent
  pub full_below : (d : ℕ) → d < w.next → 0 < y.pointer d
  pub still : (d : ℕ) → w.next ≤ d → x.pointer d ≡ 0 → y.pointer d ≡ 0
  pub was : (d : ℕ) → y.pointer d ≡ 0 → x.pointer d ≡ 0

-- nothing was appended yet
pub on_way : (S : Shape) (x : Extents) (w : Way) → w.room ≡ room_at S.pages x.pointer x.open_extent → ((d : ℕ) → x.open_extent ≡ Some d → w.extent ≡ d) → w.next ≡ 0 → IsOnWay S x x w
on_way S x w room last first = record {
  left = room;
  opened = λ some. opened_at S.pages x.pointer x.open_extent w.extent w.room last room some;
  full_below = λ d lt. absurd (omega (arith, lt, first));
  still = λ d le empty. empty;
  was = λ d empty. empty;
}

module _ (S : Shape) (x y : Extents) (w : Way) (begun : IsBegun S y) (on : IsOnWay S x y w) (r : Reason) (k e : ℕ) (some : 1 ≤ k) (placed : Placed S y r k e) where
  abbrev IsOpened : Type 0
  IsOpened = ((o : ℕ) → HasRoom S y k o → ⊥) × IsFirstEmpty S y e × (k ≤ S.pages) × (spare r < empties y.pointer S.extents)

  -- it goes to the open extent, where that has room
  has_room : k ≤ w.room → HasRoom S y k e
  has_room le =
      let there = (room_is S y begun k some y.open_extent refl).0 (omega (arith, le, on.left)) in
      ⊎_elim (λ (p : HasRoom S y k e). p) (λ (p : IsOpened). absurd (p.0 there.0 there.1)) placed

  same_extent : k ≤ w.room → w.extent ≡ e
  same_extent le = let h = has_room le in same_Some w.extent e (sym (on.opened (omega (arith, le, some))) ∙ h.0)

  -- else to the first empty one
  first_empty : w.room < k → IsFirstEmpty S y e
  first_empty lt = ⊎_elim
      (λ (p : HasRoom S y k e). let le : k ≤ room_at S.pages y.pointer y.open_extent = (room_is S y begun k some y.open_extent refl).1 (e, p) in absurd (omega (arith, le, on.left, lt)))
      (λ (p : IsOpened). p.1)
      placed

  pub empty_there : w.room < k → IsEmptyFrom S.extents x.pointer w.next e
  empty_there lt =
      let f = first_empty lt in record {
        behind = ⊎_elim (λ (l : e < w.next). let full : 0 < y.pointer e = on.full_below e l in absurd (omega (arith, full, f.1))) (λ (l : w.next ≤ e). l) (cases_lt e w.next);
        inside = f.0;
        empty = on.was e f.1;
        first = λ d le below. ⊎_elim
            (λ (l : 0 < x.pointer d). l)
            (λ (l : x.pointer d ≤ 0). let none : y.pointer d ≡ 0 = on.still d le (omega (arith, l)) in let full : 0 < y.pointer d = f.2 d below in absurd (omega (arith, none, full)))
            (cases_lt 0 (x.pointer d));
      }

  grows : (d : ℕ) → y.pointer d ≤ with y.pointer e (y.pointer e + k) d
  grows d = pointer_grows y.pointer e k d

  other_extent : (d : ℕ) → d ≢ e → with y.pointer e (y.pointer e + k) d ≡ y.pointer d
  other_extent d other = with_other y.pointer e (y.pointer e + k) d other

  module _ (v : Way) (stays : k ≤ w.room → v ≡ record { extent = w.extent; room = w.room - k; next = w.next })
      (opens : w.room < k → IsEmptyFrom S.extents x.pointer w.next v.extent × (v.room ≡ S.pages - k) × (v.next ≡ v.extent + 1)) where
    stayed : k ≤ w.room → (v.extent ≡ e) × IsOnWay S x (taken S y e k) v
    stayed le =
        let h = has_room le in
        let same : w.extent ≡ e = same_extent le in
        let pages : w.room ≡ S.pages - y.pointer e = on.left ∙ ap (room_at S.pages y.pointer) h.0 in
        let begins : 0 < y.pointer e = begun.begun e h.0 in
        let behind : w.room - k ≡ S.pages - (y.pointer e + k) = omega (arith, pages) in
        let here : IsOnWay S x (taken S y e k) (record { extent = w.extent; room = w.room - k; next = w.next }) = record {
          left = behind ∙ sym (room_behind S y.pointer e (y.pointer e + k));
          opened = λ more. still_open S e (y.pointer e + k) (omega (arith, more, pages)) ∙ ap (λ (n : ℕ). Some n) (sym same);
          full_below = λ d lt. let full : 0 < y.pointer d = on.full_below d lt in omega (arith, full, grows d);
          still = λ d le2 empty.
              let none : y.pointer d ≡ 0 = on.still d le2 empty in
              other_extent d (λ (is : d ≡ e). let at : y.pointer d ≡ y.pointer e = ap y.pointer is in absurd (omega (arith, at, none, begins))) ∙ none;
          was = λ d none. on.was d (omega (arith, none, grows d));
        } in
        let is = stays le in (
          ap (λ (u : Way). u.extent) is ∙ same,
          subst (λ (u : Way). IsOnWay S x (taken S y e k) u) (sym is) here,
        )

    went_on : w.room < k → (v.extent ≡ e) × IsOnWay S x (taken S y e k) v
    went_on lt =
        let o = opens lt in
        let f = first_empty lt in
        let same : v.extent ≡ e = empty_once S.extents x.pointer w.next v.extent e o.0 (empty_there lt) in
        let pointer : y.pointer e + k ≡ k = omega (arith, f.1) in
        let next : v.next ≡ e + 1 = omega (arith, o.2, same) in
        let low : w.next ≤ e = (empty_there lt).behind in (
          same,
          record {
            left = o.1 ∙ ap (λ q. S.pages - q) (sym pointer) ∙ sym (room_behind S y.pointer e (y.pointer e + k));
            opened = λ more. still_open S e (y.pointer e + k) (omega (arith, more, o.1, pointer)) ∙ ap (λ (n : ℕ). Some n) (sym same);
            full_below = λ d below. ⊎_elim
                (λ (l : d < e). let full : 0 < y.pointer d = f.2 d l in omega (arith, full, grows d))
                (λ (l : e ≤ d).
                let is : d ≡ e = omega (arith, l, below, next) in
                let full : 0 < with y.pointer e (y.pointer e + k) e = rw (with_same y.pointer e (y.pointer e + k)) (omega (arith, some)) in
                subst (λ (i : ℕ). 0 < with y.pointer e (y.pointer e + k) i) (sym is) full)
                (cases_lt d e);
            still = λ d le empty.
                other_extent d (λ (is : d ≡ e). absurd (omega (arith, is, le, next)))
                ∙ on.still d (omega (arith, le, next, low)) empty;
            was = λ d none. on.was d (omega (arith, none, grows d));
          },
        )

    pub way_on : (v.extent ≡ e) × IsOnWay S x (taken S y e k) v
    way_on = ⊎_elim (λ (l : w.room < k). went_on l) (λ (l : k ≤ w.room). stayed l) (cases_lt w.room k)

-- ---- counts

-- a number that is raised, unless it is great already
raised : (c n m : ℕ) → m ≡ min (c + 1) (2 ^ 64 - 1) → (a : ℕ) → (2 ^ 63 ≤ a + (c + suc n)) ↔ (2 ^ 63 ≤ a + (m + n))
raised c n m is a = ((λ h. omega (arith, h, is)), (λ h. omega (arith, h, is)))

-- one version more of a section is counted, which the frame's extent is of
pub count_more : (S : Shape) (counts more : List ℕ) (section e : ℕ) → section ≡ S.section e → section < length counts
    → more ≡ set counts section (min (get_or counts section 0 + 1) (2 ^ 64 - 1)) → (later : List ℕ) (j a : ℕ)
    → (2 ^ 63 ≤ a + (get_or counts j 0 + in_section S j (e ∷ later))) ↔ (2 ^ 63 ≤ a + (get_or more j 0 + in_section S j later))
count_more S counts more section e is lt same later j a = ⊎_elim
    (λ (here : j ≡ section).
    let count : in_section S j (e ∷ later) ≡ suc (in_section S j later) = in_section_here S j e later (sym is ∙ sym here) in
    let read : get_or more j 0 ≡ min (get_or counts j 0 + 1) (2 ^ 64 - 1) =
    ap (λ (ns : List ℕ). get_or ns j 0) same
    ∙ ap (λ (i : ℕ). get_or (set counts section (min (get_or counts section 0 + 1) (2 ^ 64 - 1))) i 0) here
    ∙ get_or-set_same counts section (min (get_or counts section 0 + 1) (2 ^ 64 - 1)) 0 lt
    ∙ ap (λ (i : ℕ). min (get_or counts i 0 + 1) (2 ^ 64 - 1)) (sym here) in
    let law = raised (get_or counts j 0) (in_section S j later) (get_or more j 0) read a in
    ((λ h. law.0 (omega (arith, h, count))), (λ h. let up = law.1 h in omega (arith, up, count))))
    (λ (other : j ≢ section).
    let count : in_section S j (e ∷ later) ≡ in_section S j later = in_section_other S j e later (λ at. other (sym at ∙ sym is)) in
    let read : get_or more j 0 ≡ get_or counts j 0 = ap (λ (ns : List ℕ). get_or ns j 0) same ∙ get_or-set_other counts section j (min (get_or counts section 0 + 1) (2 ^ 64 - 1)) 0 other in
    ((λ h. omega (arith, h, count, read)), (λ h. omega (arith, h, count, read))))
    (cases_eq j section)

-- So many of the frames have been counted; this is where the next goes, and wherever those that are left go, the counts
-- with theirs are those of all.
pub record IsCounted (S : Shape) (x : Extents) (r : Reason) (frames : List ℕ) (n : ℕ) (w : Way) (counts : List ℕ) : Type 0 where
  pub extents : Extents
  pub begun : IsBegun S extents
  pub way : IsOnWay S x extents w
  pub left : Fits S extents r (drop n frames)
  pub size : length counts ≡ 15
  pub all : (later : List ℕ) → ArePlacedBy S false extents r (drop n frames) later
      → (places : List ℕ) × ArePlacedBy S false x r frames places
      × ((j a : ℕ) → j < 15 → (2 ^ 63 ≤ a + in_section S j places) ↔ (2 ^ 63 ≤ a + (get_or counts j 0 + in_section S j later)))

pub counted_none : (s : State) → IsWhole s → (r : Reason) (frames : List ℕ) → Fits (shape s) (extents_of s) r frames → (w : Way)
    → w.room ≡ room_at s.pages (extents_of s).pointer s.open_extent → ((d : ℕ) → s.open_extent ≡ Some d → w.extent ≡ d) → w.next ≡ 0
    → IsCounted (shape s) (extents_of s) r frames 0 w (replicate 15 0)
counted_none s whole r frames fits w room last first = record {
  extents = extents_of s;
  begun = begun_of s whole;
  way = on_way (shape s) (extents_of s) w room last first;
  left = fits;
  size = refl;
  all = λ later placed. (later, placed, (λ j a lt. let none : get_or {A = ℕ} (replicate 15 0) j 0 ≡ 0 = zeros_at 15 j in ((λ h. omega (arith, h, none)), (λ h. omega (arith, h, none)))));
}

module _ (S : Shape) (x : Extents) (r : Reason) (frames : List ℕ) (n : ℕ) (w : Way) (counts : List ℕ) (was : IsCounted S x r frames n w counts) (lt : n < length frames) (some : 1 ≤ get_or frames n 0) where
  next_frame : drop n frames ≡ get_or frames n 0 ∷ drop (suc n) frames
  next_frame = drop-cons frames n 0 lt

  next_fits : Fits S was.extents r (get_or frames n 0 ∷ drop (suc n) frames)
  next_fits = subst (λ (ks : List ℕ). Fits S was.extents r ks) next_frame was.left

  pub place_is : w.room < get_or frames n 0 → (e : ℕ) × IsEmptyFrom S.extents x.pointer w.next e
  place_is more = (next_fits.0, empty_there S x was.extents w was.begun was.way r (get_or frames n 0) next_fits.0 some next_fits.1 more)

  module _ (v : Way) (stays : get_or frames n 0 ≤ w.room → v ≡ record { extent = w.extent; room = w.room - get_or frames n 0; next = w.next })
      (opens : w.room < get_or frames n 0 → IsEmptyFrom S.extents x.pointer w.next v.extent × (v.room ≡ S.pages - get_or frames n 0) × (v.next ≡ v.extent + 1)) where
    on_now : (v.extent ≡ next_fits.0) × IsOnWay S x (taken S was.extents next_fits.0 (get_or frames n 0)) v
    on_now = way_on S x was.extents w was.begun was.way r (get_or frames n 0) next_fits.0 some next_fits.1 v stays opens

    inside_now : next_fits.0 < S.extents
    inside_now = (placed_inside S was.extents r (get_or frames n 0) next_fits.0 next_fits.1).0

    pub way_inside : v.extent < S.extents
    way_inside = omega (arith, on_now.0, inside_now)

    -- one version more of the section that the frame's extent is of
    module _ (section : ℕ) (is : section ≡ S.section v.extent) (small : section < 15) (more : List ℕ) (same : more ≡ set counts section (min (get_or counts section 0 + 1) (2 ^ 64 - 1))) where
      of_place : S.section next_fits.0 ≡ section
      of_place = ap S.section (sym on_now.0) ∙ sym is

      each_more : (later : List ℕ) (j a : ℕ) → (2 ^ 63 ≤ a + (get_or counts j 0 + in_section S j (next_fits.0 ∷ later))) ↔ (2 ^ 63 ≤ a + (get_or more j 0 + in_section S j later))
      each_more later j a = count_more S counts more section next_fits.0 (sym of_place) (omega (arith, small, was.size)) same later j a

      pub counted_more : IsCounted S x r frames (suc n) v more
      counted_more = record {
        extents = taken S was.extents next_fits.0 (get_or frames n 0);
        begun = taken_begun S was.extents next_fits.0 (get_or frames n 0) inside_now some;
        way = on_now.1;
        left = next_fits.2;
        size = ap length same ∙ length-set counts section (min (get_or counts section 0 + 1) (2 ^ 64 - 1)) ∙ was.size;
        all = λ later placed.
            let rest = was.all (next_fits.0 ∷ later) (subst (λ (ks : List ℕ). ArePlacedBy S false was.extents r ks (next_fits.0 ∷ later)) (sym next_frame) (next_fits.1, placed)) in
            (rest.0, rest.1, (λ j a lt8. let before = rest.2 j a lt8 in let law = each_more later j a in ((λ h. law.0 (before.0 h)), (λ h. before.1 (law.1 h)))));
      }

pub counted_all : (S : Shape) (x : Extents) (r : Reason) (frames : List ℕ) (n : ℕ) (w : Way) (counts : List ℕ) → IsCounted S x r frames n w counts → length frames ≤ n → AreCountedBy S false x r frames counts
counted_all S x r frames n w counts was le =
    let none : drop n frames ≡ [] = drop_all n frames le in
    let rest = was.all [] (subst (λ (ks : List ℕ). ArePlacedBy S false was.extents r ks []) (sym none) tt) in (
      rest.0,
      rest.1,
      (λ j a lt.
          let law = rest.2 j a lt in
          let nothing : in_section S j [] ≡ 0 = refl in
          ((λ h. let up = law.0 h in omega (arith, up, nothing)), (λ h. law.1 (omega (arith, h, nothing))))),
    )

-- frames whose versions are counted fit
pub counted_fit : (S : Shape) (apart : Bool) (x : Extents) (r : Reason) (pages counts : List ℕ) → AreCountedBy S apart x r pages counts → FitsBy S apart x r pages
counted_fit S apart x r pages counts counted = placed_fit S apart x r pages counted.0 counted.1

pub fits_where : (S : Shape) (apart : Bool) (x : Extents) (r : Reason) (pages : List ℕ) (o : Option (List ℕ)) (b : Bool) → b ≡ is_some o
    → MatchOption o (FitsBy S apart x r pages → ⊥) (AreCountedBy S apart x r pages) → (b ≡ true) ↔ FitsBy S apart x r pages
fits_where S apart x r pages None b is none = ((λ t. absurd (true≢false (sym t ∙ is))), (λ fits. absurd (none fits)))
fits_where S apart x r pages (Some counts) b is counted = ((λ t. counted_fit S apart x r pages counts counted), (λ fits. is))

module _ (apart : Bool) (x : State) (s : Staging) (r : Reason) (pages counts : List ℕ) (sections : ℕ) (whole : IsWhole x)
    (counted : AreCountedBy (shape x) apart (extents_of x) r pages counts) (all : sections ≡ x.sections) where
  -- the number of a plain write is past the greatest, or with the counts that of a section's version
  abbrev ArePast : Type 0
  ArePast = (2 ^ 63 ≤ s.staged + sum pages) ⊎ ((j : ℕ) × (j < sections) × (2 ^ 63 ≤ get_or s.latest (family_of j) 0 + get_or counts j 0))

  few : (j : ℕ) → j < x.sections → j < 15
  few j lt = omega (arith, lt, (bounds _ _ _ _ whole.geometry).most_sections)

  worn_then : ArePast → AreWornBy apart x s r pages
  worn_then (inl writes) = inl writes
  worn_then (inr w) =
      let inside : w.0 < x.sections = omega (arith, w.1, all) in
      inr (counted.0, counted.1, w.0, inside, (counted.2 w.0 (get_or s.latest (family_of w.0) 0) (few w.0 inside)).1 w.2)

  past_then : AreWornBy apart x s r pages → ArePast
  past_then (inl writes) = inl writes
  past_then (inr w) =
      let same : w.0 ≡ counted.0 = places_once_by (shape x) apart (extents_of x) r pages w.0 counted.0 w.1 counted.1 in
      inr (
        w.2,
        omega (arith, w.3, all),
        (counted.2 w.2 (get_or s.latest (family_of w.2) 0) (few w.2 w.3)).0
            (subst (λ (ps : List ℕ). 2 ^ 63 ≤ get_or s.latest (family_of w.2) 0 + in_section (shape x) w.2 ps) same w.4),
      )

  -- with the counts it is found out
  pub worn_by : (b : Bool) → (b ≡ true) ↔ ArePast → (b ≡ true) ↔ AreWornBy apart x s r pages
  worn_by b is = ((λ t. worn_then (is.0 t)), (λ w. is.1 (past_then w)))
