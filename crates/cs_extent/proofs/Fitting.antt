-- Whether frames find a place depends on two numbers alone.
use Rattle.std.proofs.Common.{◌≡◌, ◌≢◌, ◌∙◌, ℕ, suc, ◌+◌, ◌-◌, ◌<◌, ◌≤◌, Bool, true, false, List, [], ◌∷◌, length, drop, get_or, Option, Some, None, refl, sym, ap, subst, inl, inr, ⊎_elim, arith}
use Rattle.std.specs.Prelude.{◌==◌, ◌↔◌, if◌then◌else◌, nat_le, nat_lt, All, MatchOption}
use Rattle.std.specs.List.{AllByRecursion}
use Rattle.std.proofs.lemmas.Bool.{cases_lt}
use Rattle.std.proofs.lemmas.Bool.Decides.{nat_tests}
use Rattle.std.proofs.lemmas.Option.{same_Some}
use Rattle.std.proofs.Math.Seq.{drop-cons}
use Rattle.std.proofs.lemmas.List.{drop_all}
use Rattle.law_machine.specs.Device.{Shape}
use Rattle.law_machine.specs.Extents.{Extents, Purpose as Reason, HasRoom, IsFirstEmpty, Placed, Fits, empties, open_after, spare, taken}
use Rattle.law_machine.specs.Lists.{with}
use Rattle.cs_extent.specs.declared.places_v2.Supply.{Supply}
use Rattle.cs_extent.specs.Places.{room_at, left_after}
use Rattle.cs_extent.specs.State.{State, IsWhole, extents_of, shape}
use Rattle.cs_extent.proofs.Empties.{empties_kept, empties_less, first_of, none_empty}

pub with_same : (f : ℕ → ℕ) (e v : ℕ) → with f e v e ≡ v
with_same f e v = let same : (e == e) ≡ true = grind (arith, nat_tests) in rw same refl

pub with_other : (f : ℕ → ℕ) (e v d : ℕ) → d ≢ e → with f e v d ≡ f d
with_other f e v d other = let apart : (d == e) ≡ false = grind (arith, nat_tests) in rw apart refl

-- pages are only added
pub pointer_grows : (f : ℕ → ℕ) (e k d : ℕ) → f d ≤ with f e (f e + k) d
pointer_grows f e k d = split (d == e) refl
  where
    split : (b : Bool) → (d == e) ≡ b → f d ≤ (if b then f e + k else f d)
    split true is = let same : d ≡ e = grind (arith, nat_tests) in let here : f d ≡ f e = ap f same in omega (arith, here)
    split false is = omega arith

-- a frame lies inside the extent that it goes to
pub placed_inside : (S : Shape) (x : Extents) (r : Reason) (k e : ℕ) → Placed S x r k e → (e < S.extents) × (x.pointer e + k ≤ S.pages)
placed_inside S x r k e placed = ⊎_elim
    (λ (h : HasRoom S x k e). (h.1, h.2))
    (λ (h : ((o : ℕ) → HasRoom S x k o → ⊥) × IsFirstEmpty S x e × (k ≤ S.pages) × (spare r < empties x.pointer S.extents)). (h.1.0, omega (arith, h.1.1, h.2)))
    placed

-- what is open is there and not empty
pub record IsBegun (S : Shape) (x : Extents) : Type 0 where
  pub inside : (e : ℕ) → x.open_extent ≡ Some e → e < S.extents
  pub begun : (e : ℕ) → x.open_extent ≡ Some e → 0 < x.pointer e

module _ (S : Shape) where
  -- there is room for a frame exactly where the number says so
  pub room_is : (x : Extents) → IsBegun S x → (k : ℕ) → 1 ≤ k → (o : Option ℕ) → x.open_extent ≡ o → (k ≤ room_at S.pages x.pointer o) ↔ ((e : ℕ) × HasRoom S x k e)
  room_is x ok k some None is = ((λ le. absurd (omega (arith, le, some))), (λ h. absurd (cc (h.1.0, is))))
  room_is x ok k some (Some o) is = (
    (λ le. (o, (is, ok.inside o is, omega (arith, le, some)))),
    (λ h.
        let same : h.0 ≡ o = same_Some h.0 o (sym h.1.0 ∙ is) in
        let fits : x.pointer o + k ≤ S.pages = subst (λ e. x.pointer e + k ≤ S.pages) same h.1.2 in
        omega (arith, fits)),
  )

  -- how much room is left behind a frame
  pub room_behind : (f : ℕ → ℕ) (e p : ℕ) → room_at S.pages (with f e p) (open_after S e p) ≡ S.pages - p
  room_behind f e p = split (p == S.pages) refl
    where
      split : (b : Bool) → (p == S.pages) ≡ b → room_at S.pages (with f e p) (if b then None else Some e) ≡ S.pages - p
      split true is = let full : p ≡ S.pages = grind (arith, nat_tests) in omega (arith, full)
      split false is = ap (λ q. S.pages - q) (with_same f e p)

  pub taken_begun : (x : Extents) (e k : ℕ) → e < S.extents → 1 ≤ k → IsBegun S (taken S x e k)
  taken_begun x e k lt some = record {
    inside = λ d is. subst (λ o. o < S.extents) (is_e d is) lt;
    begun = λ d is. subst (λ o. 0 < with x.pointer e (x.pointer e + k) o) (is_e d is) (rw (with_same x.pointer e (x.pointer e + k)) (omega (arith, some)));
  }
    where
      is_e : (d : ℕ) → open_after S e (x.pointer e + k) ≡ Some d → e ≡ d
      is_e d is = split ((x.pointer e + k) == S.pages) is
        where
          split : (b : Bool) → (if b then None else Some e) ≡ Some d → e ≡ d
          split true h = absurd (cc h)
          split false h = same_Some e d h

  -- the two numbers of these extents
  pub record Supplies (x : Extents) (s : Supply) : Type 0 where
    pub room : s.room ≡ room_at S.pages x.pointer x.open_extent
    pub empty : s.empty ≡ empties x.pointer S.extents

  -- a frame goes to the open extent
  pub supplies_room : (x : Extents) → IsBegun S x → (s : Supply) → Supplies x s → (k e : ℕ) → 1 ≤ k → HasRoom S x k e → Supplies (taken S x e k) (record { room = s.room - k; empty = s.empty })
  supplies_room x ok s has k e some h =
      let room : room_at S.pages x.pointer x.open_extent ≡ S.pages - x.pointer e = ap (room_at S.pages x.pointer) h.0 in
      let before : 0 < x.pointer e = ok.begun e h.0 in
      record {
        room = let r : s.room ≡ S.pages - x.pointer e = has.room ∙ room in let goal : s.room - k ≡ S.pages - (x.pointer e + k) = omega (arith, r) in goal ∙ sym (room_behind x.pointer e (x.pointer e + k));
        empty = has.empty ∙ empties_kept x.pointer e (x.pointer e + k) S.extents before (omega (arith, some));
      }

  -- a frame goes to an empty extent
  pub supplies_empty : (x : Extents) (s : Supply) → Supplies x s → (k e : ℕ) → 1 ≤ k → IsFirstEmpty S x e → Supplies (taken S x e k) (record { room = S.pages - k; empty = s.empty - 1 })
  supplies_empty x s has k e some h =
      let p : x.pointer e + k ≡ k = omega (arith, h.1) in
      let less : empties x.pointer S.extents ≡ suc (empties (with x.pointer e (x.pointer e + k)) S.extents) = empties_less x.pointer (with x.pointer e (x.pointer e + k)) S.extents e h.0 h.1 (rw (with_same x.pointer e (x.pointer e + k)) (omega (arith, some))) (λ d ne. sym (with_other x.pointer e (x.pointer e + k) d ne)) in
      record {
        room = ap (λ q. S.pages - q) (sym p) ∙ sym (room_behind x.pointer e (x.pointer e + k));
        empty = omega (arith, has.empty, less);
      }

  -- all frames fit, by these numbers
  abbrev pub all_fit : ℕ → Option Supply → List ℕ → Bool
  all_fit least None ks = false
  all_fit least (Some s) [] = true
  all_fit least (Some s) (k ∷ ks) = all_fit least (left_after S.pages least s k) ks

  -- frames of one page at least, and of no more than an extent has
  abbrev pub AreFrames : List ℕ → Type 0
  AreFrames ks = AllByRecursion (λ k. (1 ≤ k) × (k ≤ S.pages)) ks

  fits_step : (purpose : Reason) (k : ℕ) (ks : List ℕ) → 1 ≤ k → k ≤ S.pages → (x : Extents) → IsBegun S x → (s : Supply) → Supplies x s
      → ((y : Extents) → IsBegun S y → (t : Supply) → Supplies y t → (all_fit (spare purpose) (Some t) ks ≡ true) ↔ Fits S y purpose ks)
      → (b c : Bool) → nat_le k s.room ≡ b → nat_lt (spare purpose) s.empty ≡ c
      → (all_fit (spare purpose) (if b then Some (record { room = s.room - k; empty = s.empty }) else if c then Some (record { room = S.pages - k; empty = s.empty - 1 }) else None) ks ≡ true) ↔ Fits S x purpose (k ∷ ks)
  fits_step purpose k ks some within x ok s has rest true c is is2 =
      let le : k ≤ s.room = grind (arith, nat_tests) in
      let e = (room_is x ok k some x.open_extent refl).0 (omega (arith, le, has.room)) in (
        (λ h. (e.0, inl e.1, (rest (taken S x e.0 k) (taken_begun x e.0 k e.1.1 some) (record { room = s.room - k; empty = s.empty }) (supplies_room x ok s has k e.0 some e.1)).0 h)),
        (λ h. ⊎_elim
            (λ (p : HasRoom S x k h.0). (rest (taken S x h.0 k) (taken_begun x h.0 k p.1 some) (record { room = s.room - k; empty = s.empty }) (supplies_room x ok s has k h.0 some p)).1 h.2)
            (λ (p : ((o : ℕ) → HasRoom S x k o → ⊥) × IsFirstEmpty S x h.0 × (k ≤ S.pages) × (spare purpose < empties x.pointer S.extents)). absurd (p.0 e.0 e.1))
            h.1),
      )
  fits_step purpose k ks some within x ok s has rest false true is is2 =
      let gt : s.room < k = grind (arith, nat_tests) in
      let enough : spare purpose < s.empty = grind (arith, nat_tests) in
      let none : (o : ℕ) → HasRoom S x k o → ⊥ = λ o h. let le : k ≤ room_at S.pages x.pointer x.open_extent = (room_is x ok k some x.open_extent refl).1 (o, h) in omega (arith, le, gt, has.room) in
      let e = first_of x.pointer S.extents (omega (arith, enough, has.empty)) in
      let first : IsFirstEmpty S x e.0 = (e.1, e.2, e.3) in (
        (λ h. (e.0, inr (none, first, within, omega (arith, enough, has.empty)), (rest (taken S x e.0 k) (taken_begun x e.0 k e.1 some) (record { room = S.pages - k; empty = s.empty - 1 }) (supplies_empty x s has k e.0 some first)).0 h)),
        (λ h. ⊎_elim
            (λ (p : HasRoom S x k h.0). absurd (none h.0 p))
            (λ (p : ((o : ℕ) → HasRoom S x k o → ⊥) × IsFirstEmpty S x h.0 × (k ≤ S.pages) × (spare purpose < empties x.pointer S.extents)). (rest (taken S x h.0 k) (taken_begun x h.0 k p.1.0 some) (record { room = S.pages - k; empty = s.empty - 1 }) (supplies_empty x s has k h.0 some p.1)).1 h.2)
            h.1),
      )
  fits_step purpose k ks some within x ok s has rest false false is is2 =
      let gt : s.room < k = grind (arith, nat_tests) in
      let few : s.empty ≤ spare purpose = grind (arith, nat_tests) in (
        (λ h. absurd (cc h)),
        (λ h. ⊎_elim
            (λ (p : HasRoom S x k h.0). let le : k ≤ room_at S.pages x.pointer x.open_extent = (room_is x ok k some x.open_extent refl).1 (h.0, p) in absurd (omega (arith, le, gt, has.room)))
            (λ (p : ((o : ℕ) → HasRoom S x k o → ⊥) × IsFirstEmpty S x h.0 × (k ≤ S.pages) × (spare purpose < empties x.pointer S.extents)). absurd (omega (arith, p.3, few, has.empty)))
            h.1),
      )

  pub fits_is : (purpose : Reason) (ks : List ℕ) → AreFrames ks → (x : Extents) → IsBegun S x → (s : Supply) → Supplies x s → (all_fit (spare purpose) (Some s) ks ≡ true) ↔ Fits S x purpose ks
  fits_is purpose [] all x ok s has = ((λ h. tt), (λ h. refl))
  fits_is purpose (k ∷ ks) all x ok s has = fits_step purpose k ks all.0.0 all.0.1 x ok s has (fits_is purpose ks all.1) (nat_le k s.room) (nat_lt (spare purpose) s.empty) refl refl

  -- where one frame goes
  no_room : (x : Extents) → IsBegun S x → (k : ℕ) → 1 ≤ k → room_at S.pages x.pointer x.open_extent < k → (o : ℕ) → HasRoom S x k o → ⊥
  no_room x ok k some gt o h = let le : k ≤ room_at S.pages x.pointer x.open_extent = (room_is x ok k some x.open_extent refl).1 (o, h) in omega (arith, le, gt)

  pub place_none : (x : Extents) → IsBegun S x → (purpose : Reason) (k : ℕ) → 1 ≤ k → room_at S.pages x.pointer x.open_extent < k → empties x.pointer S.extents ≤ spare purpose → (e : ℕ) → Placed S x purpose k e → ⊥
  place_none x ok purpose k some gt few e placed = ⊎_elim
      (λ (p : HasRoom S x k e). no_room x ok k some gt e p)
      (λ (p : ((o : ℕ) → HasRoom S x k o → ⊥) × IsFirstEmpty S x e × (k ≤ S.pages) × (spare purpose < empties x.pointer S.extents)). omega (arith, p.3, few))
      placed

pub place_empty : (S : Shape) (x : Extents) → IsBegun S x → (purpose : Reason) (k : ℕ) → 1 ≤ k → k ≤ S.pages → room_at S.pages x.pointer x.open_extent < k → spare purpose < empties x.pointer S.extents
    → (o : Option ℕ) → MatchOption o ((d : ℕ) → d < S.extents → 0 < x.pointer d) (IsFirstEmpty S x) → MatchOption o ((e : ℕ) → Placed S x purpose k e → ⊥) (Placed S x purpose k)
place_empty S x ok purpose k some fits gt enough None full = let none : empties x.pointer S.extents ≡ 0 = none_empty x.pointer S.extents full in absurd (omega (arith, none, enough))
place_empty S x ok purpose k some fits gt enough (Some e) first = inr (no_room S x ok k some gt, first, fits, enough)

pub begun_of : (s : State) → IsWhole s → IsBegun (shape s) (extents_of s)
begun_of s whole = record { inside = whole.open_inside; begun = whole.open_begun }

each : {X : Type 0} (P : X → Type 0) (xs : List X) → All P xs → AllByRecursion P xs
each P [] all = tt
each P (x ∷ xs) all = (all 0 x (omega arith), each P xs (λ k d lt. all (suc k) d (omega (arith, lt))))

pub fits_at : (s : State) → IsWhole s → (purpose : Reason) (frames : List ℕ) → All (λ k. (1 ≤ k) × (k ≤ s.pages)) frames → (room empty : ℕ)
    → room ≡ room_at s.pages (extents_of s).pointer s.open_extent → empty ≡ empties (extents_of s).pointer (length s.written)
    → (b : Bool) → all_fit (shape s) (spare purpose) (Some (record { room = room; empty = empty })) frames ≡ b → (b ≡ true) ↔ Fits (shape s) (extents_of s) purpose frames
fits_at s whole purpose frames all room empty r e b is =
    subst (λ v. (v ≡ true) ↔ Fits (shape s) (extents_of s) purpose frames) is
    (fits_is (shape s) purpose frames (each (λ k. (1 ≤ k) × (k ≤ s.pages)) frames all) (extents_of s) (begun_of s whole) (record { room = room; empty = empty }) (record { room = r; empty = e }))

-- one frame is tried
pub fit_step : (S : Shape) (least : ℕ) (s : Supply) (frames : List ℕ) (i pages spared : ℕ) (r : Option Supply) → i < length frames → pages ≡ S.pages → spared ≡ least → r ≡ left_after pages spared s (get_or frames i 0)
    → all_fit S least (Some s) (drop i frames) ≡ all_fit S least r (drop (suc i) frames)
fit_step S least s frames i pages spared r lt p q is =
    let e : r ≡ left_after S.pages least s (get_or frames i 0) = is ∙ ap (λ m. left_after m spared s (get_or frames i 0)) p ∙ ap (λ m. left_after S.pages m s (get_or frames i 0)) q in
    ap (all_fit S least (Some s)) (drop-cons frames i 0 lt) ∙ ap (λ o. all_fit S least o (drop (suc i) frames)) (sym e)

pub fit_end : (S : Shape) (least : ℕ) (s : Supply) (frames : List ℕ) (i : ℕ) → length frames ≤ i → all_fit S least (Some s) (drop i frames) ≡ true
fit_end S least s frames i le = ap (all_fit S least (Some s)) (drop_all i frames le)

-- a frame goes to one extent, if to any
pub placed_once : (S : Shape) (x : Extents) (purpose : Reason) (k d e : ℕ) → Placed S x purpose k d → Placed S x purpose k e → d ≡ e
placed_once S x purpose k d e a b = ⊎_elim
    (λ (p : HasRoom S x k d). ⊎_elim
    (λ (q : HasRoom S x k e). same_Some d e (sym p.0 ∙ q.0))
    (λ (q : ((o : ℕ) → HasRoom S x k o → ⊥) × IsFirstEmpty S x e × (k ≤ S.pages) × (spare purpose < empties x.pointer S.extents)). absurd (q.0 d p))
    b)
    (λ (p : ((o : ℕ) → HasRoom S x k o → ⊥) × IsFirstEmpty S x d × (k ≤ S.pages) × (spare purpose < empties x.pointer S.extents)). ⊎_elim
    (λ (q : HasRoom S x k e). absurd (p.0 e q))
    (λ (q : ((o : ℕ) → HasRoom S x k o → ⊥) × IsFirstEmpty S x e × (k ≤ S.pages) × (spare purpose < empties x.pointer S.extents)). first_once p.1 q.1)
    b)
    a
  where
    first_once : IsFirstEmpty S x d → IsFirstEmpty S x e → d ≡ e
    first_once p q = ⊎_elim
        (λ (l : d < e). absurd (omega (arith, p.1, q.2 d l)))
        (λ (l : e ≤ d). ⊎_elim (λ (m : e < d). absurd (omega (arith, q.1, p.2 e m))) (λ (m : d ≤ e). omega (arith, l, m)) (cases_lt e d))
        (cases_lt d e)
