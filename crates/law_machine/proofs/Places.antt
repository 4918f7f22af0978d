-- Where a frame goes: one place or none.
use Rattle.std.proofs.Common.{◌≡◌, ◌≢◌, ◌⊎◌, inl, inr, ⊎_elim, ℕ, zero, suc, ◌+◌, ◌<◌, ◌≤◌, Bool, true, false, if◌then◌else◌, ◌==◌, List, [], ◌∷◌, Option, Some, None, true≢false, refl, sym, ap, ◌∙◌, subst, arith}
use Rattle.std.proofs.lemmas.Bool.{cases_Bool, cases_eq, cases_lt}
use Rattle.std.proofs.lemmas.Bool.{false_from_ne_true}
use Rattle.law_machine.proofs.Filled.{not_filled}
use Rattle.law_machine.specs.Device.{Shape}
use Rattle.law_machine.specs.Extents.{Behind, Extents, FitsBy, ForMerge, ForMove, ForPut, ForRun, Goes, GoesApart, HasRoom, IsFirst, IsFirstEmpty, MayFill, MayOpen, Placed, Purpose, Takes, chunk_extents, empties, noted, one_if, open_by, run_extents, spare, taken_by}
use Rattle.law_machine.specs.Formats.{Formats}
use Rattle.law_machine.specs.Sound.{Sound}
use Rattle.law_machine.specs.State.{State}

module _ (S : Shape) where
  room_in : (x : Extents) (k : ℕ) (o : Option ℕ) → x.open_extent ≡ o → ((e : ℕ) × HasRoom S x k e)
      ⊎ ((e : ℕ) → HasRoom S x k e → ⊥)
  room_in x k None is = inr (λ e h. let wrong : None ≡ Some e = sym is ∙ h.0 in cc)
  room_in x k (Some e) is = elim (cases_lt e S.extents) [
    | inl lt ↦ elim (cases_lt S.pages (x.pointer e + k)) [
      | inl over ↦ inr (λ d h. let same : e ≡ d = (let at : Some e ≡ Some d = sym is ∙ h.0 in cc) in
          let fits : x.pointer e + k ≤ S.pages = subst (λ (n : ℕ). x.pointer n + k ≤ S.pages) (sym same) h.2 in
          omega arith)
      | inr fits ↦ inl (e, (is, lt, fits))
    ]
    | inr out ↦ inr (λ d h. let same : e ≡ d = (let at : Some e ≡ Some d = sym is ∙ h.0 in cc) in
        let lt : e < S.extents = subst (λ (n : ℕ). n < S.extents) (sym same) h.1 in omega arith)
  ]

  empty_in : (x : Extents) (n : ℕ) → ((e : ℕ) × (e < n) × (x.pointer e ≡ 0) × ((d : ℕ) → d < e → 0 < x.pointer d))
      ⊎ ((d : ℕ) → d < n → 0 < x.pointer d)
  empty_in x zero = inr (λ d lt. absurd (omega arith))
  empty_in x (suc n) = ⊎_elim
      (λ found. inl (found.0, (let lt : found.0 < n = found.1 in omega arith), found.2, found.3))
      (λ (none : (d : ℕ) → d < n → 0 < x.pointer d). elim (cases_eq (x.pointer n) 0) [
        | inl is ↦ inl (n, omega arith, is, none)
        | inr not ↦ inr (λ d lt. elim (cases_eq d n) [
          | inl same ↦ subst (λ (m : ℕ). 0 < x.pointer m) (sym same) (omega arith)
          | inr other ↦ none d (omega arith)
        ])
      ])
      (empty_in x n)

  pub placed_or_full : (x : Extents) (purpose : Purpose) (k : ℕ) → ((e : ℕ) × Placed S x purpose k e)
      ⊎ ((e : ℕ) → Placed S x purpose k e → ⊥)
  placed_or_full x purpose k = ⊎_elim
      (λ room. inl (room.0, inl room.1))
      (λ (none : (o : ℕ) → HasRoom S x k o → ⊥). ⊎_elim
      (λ found. elim (cases_lt S.pages k) [
        | inl large ↦ inr (λ e p. ⊎_elim (λ h. none e h)
            (λ empty. let small : k ≤ S.pages = empty.2 in omega arith) p)
        | inr small ↦ elim (cases_lt (spare purpose) (empties x.pointer S.extents)) [
          | inl enough ↦ inl (found.0, inr (none, (found.1, found.2, found.3), small, enough))
          | inr few ↦ inr (λ e p. ⊎_elim (λ h. none e h)
              (λ empty. let enough : spare purpose < empties x.pointer S.extents = empty.3 in omega arith) p)
        ]
      ])
      (λ (taken_all : (d : ℕ) → d < S.extents → 0 < x.pointer d). inr (λ e p. ⊎_elim (λ h. none e h)
      (λ empty. let is : x.pointer e ≡ 0 = empty.1.1 in let some : 0 < x.pointer e = taken_all e empty.1.0 in
      omega arith) p))
      (empty_in x S.extents))
      (room_in x k x.open_extent refl)

  pub placed_one : (x : Extents) (purpose : Purpose) (k d e : ℕ) → Placed S x purpose k d → Placed S x purpose k e
      → d ≡ e
  placed_one x purpose k d e (inl a) (inl b) = (let at : Some d ≡ Some e = sym a.0 ∙ b.0 in cc)
  placed_one x purpose k d e (inl a) (inr b) = absurd (b.0 d a)
  placed_one x purpose k d e (inr a) (inl b) = absurd (a.0 e b)
  placed_one x purpose k d e (inr a) (inr b) =
      let no_d : x.pointer d ≡ 0 = a.1.1 in
      let no_e : x.pointer e ≡ 0 = b.1.1 in
      elim (cases_lt d e) [
        | inl lt ↦ absurd (let some : 0 < x.pointer d = b.1.2 d lt in omega arith)
        | inr le ↦ elim (cases_lt e d) [
          | inl lt ↦ absurd (let some : 0 < x.pointer e = a.1.2 e lt in omega arith)
          | inr ge ↦ omega arith
        ]
      ]

  pub placed_inside : (x : Extents) (purpose : Purpose) (k e : ℕ) → Placed S x purpose k e → (e < S.extents)
      × (x.pointer e + k ≤ S.pages)
  placed_inside x purpose k e (inl h) = (h.1, h.2)
  placed_inside x purpose k e (inr empty) =
      (empty.1.0, (let none : x.pointer e ≡ 0 = empty.1.1 in let small : k ≤ S.pages = empty.2 in omega arith))

  -- where chunks and runs lie apart
  behind_decided : (x : Extents) (runs : Bool) (k e : ℕ) → Behind S x runs k e ⊎ (Behind S x runs k e → ⊥)
  behind_decided x runs k e = elim (cases_lt e S.extents) [
    | inr out ↦ inr (λ b. let lt : e < S.extents = b.0 in omega arith)
    | inl there ↦ elim (cases_lt 0 (x.pointer e)) [
      | inr none ↦ inr (λ b. let lt : 0 < x.pointer e = b.1 in omega arith)
      | inl some ↦ elim (cases_Bool_eq (x.of_runs e) runs) [
        | inr other ↦ inr (λ b. other b.2)
        | inl kind ↦ elim (cases_lt S.pages (x.pointer e + k)) [
          | inl over ↦ inr (λ b. let le : x.pointer e + k ≤ S.pages = b.3 in omega arith)
          | inr fits ↦ ⊎_elim (λ (may : MayFill S.fills (x.found e)). inl (there, some, kind, fits, may))
              (λ (not : MayFill S.fills (x.found e) → ⊥). inr (λ b. not b.4)) (fill_decided S.fills)
        ]
      ]
    ]
  ]
    where
      fill_decided : (b : Bool) → MayFill b (x.found e) ⊎ (MayFill b (x.found e) → ⊥)
      fill_decided true = inl tt
      fill_decided false = cases_eq (x.found e) 0

      cases_Bool_eq : (a b : Bool) → (a ≡ b) ⊎ (a ≢ b)
      cases_Bool_eq true true = inl refl
      cases_Bool_eq false false = inl refl
      cases_Bool_eq true false = inr true≢false
      cases_Bool_eq false true = inr (λ is. true≢false (sym is))

  swept_decided : (x : Extents) (e : ℕ) → (x.swept e ≡ false) ⊎ (x.swept e ≢ false)
  swept_decided x e = elim (cases_Bool (x.swept e)) [
    | inl is ↦ inr (λ not. true≢false (sym is ∙ not))
    | inr not ↦ inl not
  ]

  pub is_at : (o : Option ℕ) (e : ℕ) → (o ≡ Some e) ⊎ (o ≢ Some e)
  is_at None e = inr (λ is. let wrong : None ≡ Some e = is in cc)
  is_at (Some d) e = elim (cases_eq d e) [
    | inl same ↦ inl (ap (λ (n : ℕ). Some n) same)
    | inr not ↦ inr (λ is. not (let at : Some d ≡ Some e = is in cc))
  ]

  takes_decided : (x : Extents) (purpose : Purpose) (k e : ℕ) → Takes S x purpose k e ⊎ (Takes S x purpose k e → ⊥)
  takes_decided x ForPut k e = ⊎_elim
      (λ (b : Behind S x false k e). ⊎_elim
      (λ (still : x.swept e ≡ false). ⊎_elim (λ (is : x.fresh ≡ Some e). inr (λ t. t.2 is))
      (λ (not : x.fresh ≢ Some e). inl (b, still, not)) (is_at x.fresh e))
      (λ (swept : x.swept e ≢ false). inr (λ t. swept t.1)) (swept_decided x e))
      (λ (no_room : Behind S x false k e → ⊥). inr (λ t. no_room t.0))
      (behind_decided x false k e)
  takes_decided x ForRun k e = behind_decided x true k e
  takes_decided x ForMove k e = ⊎_elim
      (λ (b : Behind S x false k e). ⊎_elim
      (λ (still : x.swept e ≡ false). inl (b, still))
      (λ (swept : x.swept e ≢ false). inr (λ t. swept t.1)) (swept_decided x e))
      (λ (no_room : Behind S x false k e → ⊥). inr (λ t. no_room t.0))
      (behind_decided x false k e)
  takes_decided x ForMerge k e = inr (λ t. t)

  may_open : (x : Extents) (purpose : Purpose) → MayOpen S x purpose ⊎ (MayOpen S x purpose → ⊥)
  may_open x ForPut = elim (cases_lt (S.extents + one_if x.fresh) (suc (chunk_extents x S.extents) + S.run_extents + 2)) [
    | inl over ↦ inr (λ le. omega arith)
    | inr fits ↦ inl fits
  ]
  may_open x ForRun = elim (cases_lt (run_extents x S.extents) S.run_extents) [
    | inl few ↦ inl few
    | inr many ↦ inr (λ lt. omega arith)
  ]
  may_open x ForMove = none x.fresh
    where
      none : (o : Option ℕ) → (o ≡ None) ⊎ (o ≢ None)
      none None = inl refl
      none (Some e) = inr (λ is. let wrong : Some e ≡ None = is in cc)
  may_open x ForMerge = inl tt

  -- what takes a frame is there
  pub takes_behind : (x : Extents) (purpose : Purpose) (k e : ℕ) → Takes S x purpose k e
      → (e < S.extents) × (0 < x.pointer e) × (x.pointer e + k ≤ S.pages) × MayFill S.fills (x.found e)
  takes_behind x ForPut k e t = (t.0.0, t.0.1, t.0.3, t.0.4)
  takes_behind x ForRun k e t = (t.0, t.1, t.3, t.4)
  takes_behind x ForMove k e t = (t.0.0, t.0.1, t.0.3, t.0.4)
  takes_behind x ForMerge k e t = absurd t

  first_in : (P : ℕ → Type 0) → ((e : ℕ) → P e ⊎ (P e → ⊥)) → (n : ℕ) → ((e : ℕ) × (e < n) × IsFirst P e)
      ⊎ ((e : ℕ) → e < n → P e → ⊥)
  first_in P decided zero = inr (λ e lt. absurd (omega arith))
  first_in P decided (suc n) = ⊎_elim
      (λ found. inl (found.0, (let lt : found.0 < n = found.1 in omega arith), found.2))
      (λ (none : (e : ℕ) → e < n → P e → ⊥). ⊎_elim
      (λ (is : P n). inl (n, omega arith, (is, none)))
      (λ (not : P n → ⊥). inr (λ e lt. elim (cases_eq e n) [
        | inl same ↦ (λ p. not (subst P same p))
        | inr other ↦ none e (omega arith)
      ]))
      (decided n))
      (first_in P decided n)

  noted_takes : (x : Extents) (purpose : Purpose) (k : ℕ) (o : Option ℕ) → noted S x purpose ≡ o
      → ((e : ℕ) × (noted S x purpose ≡ Some e) × Takes S x purpose k e)
      ⊎ ((d : ℕ) → noted S x purpose ≡ Some d → Takes S x purpose k d → ⊥)
  noted_takes x purpose k None is = inr (λ d at. let wrong : None ≡ Some d = sym is ∙ at in cc)
  noted_takes x purpose k (Some e) is = ⊎_elim (λ t. inl (e, is, t))
      (λ (not : Takes S x purpose k e → ⊥). inr (λ d at t. not
      (subst (λ (n : ℕ). Takes S x purpose k n) (let same : Some d ≡ Some e = sym at ∙ is in cc) t)))
      (takes_decided x purpose k e)

  -- where nothing takes the frame it goes on the first empty extent alone
  on_empty : (x : Extents) (purpose : Purpose) (k e : ℕ) → ((d : ℕ) → Takes S x purpose k d → ⊥)
      → GoesApart S x purpose k e → IsFirstEmpty S x e × (k ≤ S.pages) × MayOpen S x purpose
  on_empty x purpose k e nowhere (inl a) = absurd (nowhere e a.1)
  on_empty x purpose k e nowhere (inr (inl b)) = absurd (nowhere e b.1.0)
  on_empty x purpose k e nowhere (inr (inr c)) = (c.1, c.2, c.3)

  empty_or_full : (x : Extents) (purpose : Purpose) (k : ℕ) → ((d : ℕ) → Takes S x purpose k d → ⊥)
      → ((e : ℕ) × GoesApart S x purpose k e) ⊎ ((e : ℕ) → GoesApart S x purpose k e → ⊥)
  empty_or_full x purpose k nowhere = ⊎_elim
      (λ found. elim (cases_lt S.pages k) [
        | inl large ↦ inr (λ e g. let small : k ≤ S.pages = (on_empty x purpose k e nowhere g).1 in omega arith)
        | inr small ↦ ⊎_elim
            (λ (may : MayOpen S x purpose). inl (found.0, inr (inr (nowhere, (found.1, found.2, found.3), small, may))))
            (λ (not : MayOpen S x purpose → ⊥). inr (λ e g. not (on_empty x purpose k e nowhere g).2))
            (may_open x purpose)
      ])
      (λ (full : (d : ℕ) → d < S.extents → 0 < x.pointer d). inr (λ e g.
      let there = (on_empty x purpose k e nowhere g).0 in
      let none_there : x.pointer e ≡ 0 = there.1 in let some : 0 < x.pointer e = full e there.0 in omega arith))
      (empty_in x S.extents)

  apart_or_full : (x : Extents) (purpose : Purpose) (k : ℕ) → ((e : ℕ) × GoesApart S x purpose k e)
      ⊎ ((e : ℕ) → GoesApart S x purpose k e → ⊥)
  apart_or_full x purpose k = ⊎_elim
      (λ there. inl (there.0, inl (there.1, there.2)))
      (λ (none : (d : ℕ) → noted S x purpose ≡ Some d → Takes S x purpose k d → ⊥). ⊎_elim
      (λ first. inl (first.0, inr (inl (none, first.2))))
      (λ (no_other : (e : ℕ) → e < S.extents → Takes S x purpose k e → ⊥).
      empty_or_full x purpose k (λ e t. no_other e (takes_behind x purpose k e t).0 t))
      (first_in (Takes S x purpose k) (takes_decided x purpose k) S.extents))
      (noted_takes x purpose k (noted S x purpose) refl)

  first_one : (P : ℕ → Type 0) (d e : ℕ) → IsFirst P d → IsFirst P e → d ≡ e
  first_one P d e a b = elim (cases_lt d e) [
    | inl lt ↦ absurd (b.1 d lt a.0)
    | inr le ↦ elim (cases_lt e d) [
      | inl gt ↦ absurd (a.1 e gt b.0)
      | inr ge ↦ omega arith
    ]
  ]

  empty_one : (x : Extents) (d e : ℕ) → IsFirstEmpty S x d → IsFirstEmpty S x e → d ≡ e
  empty_one x d e a b =
      let no_d : x.pointer d ≡ 0 = a.1 in
      let no_e : x.pointer e ≡ 0 = b.1 in
      elim (cases_lt d e) [
        | inl lt ↦ absurd (let some : 0 < x.pointer d = b.2 d lt in omega arith)
        | inr le ↦ elim (cases_lt e d) [
          | inl lt ↦ absurd (let some : 0 < x.pointer e = a.2 e lt in omega arith)
          | inr ge ↦ omega arith
        ]
      ]

  apart_one : (x : Extents) (purpose : Purpose) (k d e : ℕ) → GoesApart S x purpose k d → GoesApart S x purpose k e → d ≡ e
  apart_one x purpose k d e (inl a) (inl b) = let at : Some d ≡ Some e = sym a.0 ∙ b.0 in cc
  apart_one x purpose k d e (inl a) (inr (inl b)) = absurd (b.0 d a.0 a.1)
  apart_one x purpose k d e (inl a) (inr (inr b)) = absurd (b.0 d a.1)
  apart_one x purpose k d e (inr (inl a)) (inl b) = absurd (a.0 e b.0 b.1)
  apart_one x purpose k d e (inr (inr a)) (inl b) = absurd (a.0 e b.1)
  apart_one x purpose k d e (inr (inl a)) (inr (inl b)) = first_one (Takes S x purpose k) d e a.1 b.1
  apart_one x purpose k d e (inr (inl a)) (inr (inr b)) = absurd (b.0 d a.1.0)
  apart_one x purpose k d e (inr (inr a)) (inr (inl b)) = absurd (a.0 e b.1.0)
  apart_one x purpose k d e (inr (inr a)) (inr (inr b)) = empty_one x d e a.1 b.1

  -- by either rule
  pub goes_or_full : (apart : Bool) (x : Extents) (purpose : Purpose) (k : ℕ) → ((e : ℕ) × Goes S apart x purpose k e)
      ⊎ ((e : ℕ) → Goes S apart x purpose k e → ⊥)
  goes_or_full false x purpose k = placed_or_full x purpose k
  goes_or_full true x purpose k = apart_or_full x purpose k

  pub goes_one : (apart : Bool) (x : Extents) (purpose : Purpose) (k d e : ℕ) → Goes S apart x purpose k d
      → Goes S apart x purpose k e → d ≡ e
  goes_one false x purpose k d e a b = placed_one x purpose k d e a b
  goes_one true x purpose k d e a b = apart_one x purpose k d e a b

  pub goes_inside : (apart : Bool) (x : Extents) (purpose : Purpose) (k e : ℕ) → Goes S apart x purpose k e
      → (e < S.extents) × (x.pointer e + k ≤ S.pages)
  goes_inside false x purpose k e placed = placed_inside x purpose k e placed
  goes_inside true x purpose k e (inl a) = let b = takes_behind x purpose k e a.1 in (b.0, b.2)
  goes_inside true x purpose k e (inr (inl a)) = let b = takes_behind x purpose k e a.1.0 in (b.0, b.2)
  goes_inside true x purpose k e (inr (inr empty)) =
      (empty.1.0, (let none : x.pointer e ≡ 0 = empty.1.1 in let small : k ≤ S.pages = empty.2 in omega arith))

  pub fits_or_full : (apart : Bool) (x : Extents) (purpose : Purpose) (ks : List ℕ) → FitsBy S apart x purpose ks
      ⊎ (FitsBy S apart x purpose ks → ⊥)
  fits_or_full apart x purpose [] = inl tt
  fits_or_full apart x purpose (k ∷ ks) = ⊎_elim
      (λ at. ⊎_elim (λ rest. inl (at.0, at.1, rest))
      (λ (full : FitsBy S apart (taken_by S apart purpose x at.0 k) purpose ks → ⊥). inr
      (λ f. full (subst (λ (e : ℕ). FitsBy S apart (taken_by S apart purpose x e k) purpose ks)
      (goes_one apart x purpose k f.0 at.0 f.1 at.1) f.2)))
      (fits_or_full apart (taken_by S apart purpose x at.0 k) purpose ks))
      (λ (full : (e : ℕ) → Goes S apart x purpose k e → ⊥). inr (λ f. full f.0 f.1))
      (goes_or_full apart x purpose k)

  -- the extent that is open after a frame was so before, or it is the one that was given, which isn't swept or was empty
  pub opens : (apart : Bool) (x : Extents) (purpose : Purpose) (k e d : ℕ) → Goes S apart x purpose k e
      → open_by S apart purpose x e k ≡ Some d
      → (x.open_extent ≡ Some d) ⊎ ((d ≡ e) × ((x.swept d ≡ false) ⊎ (x.pointer d ≡ 0)))
  opens false x purpose k e d goes is = ⊎_elim
      (λ room. inl (room.0 ∙ ap (λ (n : ℕ). Some n) (sym (given (x.pointer e + k == S.pages) is))))
      (λ empty. let same : d ≡ e = given (x.pointer e + k == S.pages) is in
      inr (same, inr (ap x.pointer same ∙ empty.1.1))) goes
    where
      given : (b : Bool) → (if b then None else Some e) ≡ Some d → d ≡ e
      given true at = absurd (let wrong : None ≡ Some d = at in cc)
      given false at = let same : Some e ≡ Some d = at in cc
  opens true x ForPut k e d (inl a) is = let same : e ≡ d = (let at : Some e ≡ Some d = is in cc) in
      inr (sym same, inl (ap x.swept (sym same) ∙ a.1.1))
  opens true x ForPut k e d (inr (inl a)) is = let same : e ≡ d = (let at : Some e ≡ Some d = is in cc) in
      inr (sym same, inl (ap x.swept (sym same) ∙ a.1.0.1))
  opens true x ForPut k e d (inr (inr a)) is = let same : e ≡ d = (let at : Some e ≡ Some d = is in cc) in
      inr (sym same, inr (ap x.pointer (sym same) ∙ a.1.1))
  opens true x ForRun k e d goes is = inl is
  opens true x ForMove k e d goes is = inl is
  opens true x ForMerge k e d goes is = inl is

-- where extents are filled up a frame goes behind the pages that are frozen, else to no extent with one
pub unfrozen : (S : Shape) (F : Formats) (apart : Bool) → (apart ≡ true → S.apart ≡ true) → (s : State)
    (purpose : Purpose) (k e : ℕ) → Sound S F s → Goes S apart s.world.extents purpose k e
    → (i : ℕ) → (S.fills ≡ true → s.world.extents.pointer e ≤ i)
    → s.opening.frozen e i (s.world.extents.generation e) ≡ false
unfrozen S F apart by s purpose k e sound placed i behind = false_from_ne_true
    (s.opening.frozen e i (s.world.extents.generation e)) (either S.fills refl)
  where
    thaws : S.fills ≡ false → (rule : Bool) → (rule ≡ true → S.apart ≡ true) → Goes S rule s.world.extents purpose k e
        → s.opening.frozen e i (s.world.extents.generation e) ≡ true → ⊥
    thaws off false on (inl open_one) fz = (sound.frozen off e i fz).0 open_one.0
    thaws off false on (inr empty) fz = let none : s.world.extents.pointer e ≡ 0 = empty.1.1 in
        let some : 0 < s.world.extents.pointer e = (sound.frozen off e i fz).1 in omega arith
    thaws off true on (inl a) fz = let new : s.world.extents.found e ≡ 0 = not_filled S.fills (s.world.extents.found e) off
        (takes_behind S s.world.extents purpose k e a.1).3 in
        let old : 0 < s.world.extents.found e = (sound.apart (on refl)).found e i fz in omega arith
    thaws off true on (inr (inl a)) fz =
        let new : s.world.extents.found e ≡ 0 = not_filled S.fills (s.world.extents.found e) off
        (takes_behind S s.world.extents purpose k e a.1.0).3 in
        let old : 0 < s.world.extents.found e = (sound.apart (on refl)).found e i fz in omega arith
    thaws off true on (inr (inr empty)) fz = let none : s.world.extents.pointer e ≡ 0 = empty.1.1 in
        let some : 0 < s.world.extents.pointer e = (sound.frozen off e i fz).1 in omega arith

    either : (b : Bool) → S.fills ≡ b → s.opening.frozen e i (s.world.extents.generation e) ≡ true → ⊥
    either true full fz =
        let above : s.world.extents.pointer e ≤ i = behind full in
        let given : s.world.extents.found e ≤ s.world.extents.pointer e = (sound.filled full).given e in
        let found : i < s.world.extents.found e = (sound.filled full).frozen e i fz in omega arith
    either false off fz = thaws off apart by placed fz
