-- What a superblock version needs of the root, and that an append has one outcome.
use Rattle.std.proofs.Common.{◌≡◌, ◌↔◌, inl, inr, ⊎_elim, ℕ, zero, suc, ◌+◌, ◌<◌, ◌≤◌, Bool, false, List, [], ◌∷◌, length, refl, sym, ap, ap₂, ◌∙◌, subst, le_refl, le_trans, arith}
use Rattle.std.proofs.lemmas.Bool.{cases_eq, cases_lt}
use Rattle.law_machine.proofs.Parts.{with_same, with_other}
use Rattle.law_machine.proofs.Appends.{appended_superblocks}
use Rattle.law_machine.proofs.Places.{goes_one, goes_inside}
use Rattle.law_machine.specs.Append.{Append, AppendAll, AppendAllBy, AppendBy, IsNeed, appended, appended_by, next_locator, page_counts, stage_pages}
use Rattle.law_machine.specs.Device.{IsShape, Page, Shape}
use Rattle.law_machine.specs.Element.{Locator, Superblock, superblocks_of}
use Rattle.law_machine.specs.Extents.{Extents, Fits, FitsBy, Goes, Placed, Purpose, noted_by, open_after, taken, taken_by}
use Rattle.law_machine.specs.Lists.{with, ◌∈◌}
use Rattle.law_machine.specs.Machine.{StagePage, World, happens}

-- the greater of two numbers
greater : (a b : ℕ) → (r : ℕ) × (a ≤ r) × (b ≤ r) × ((q : ℕ) → a ≤ q → b ≤ q → r ≤ q)
greater a b = elim (cases_lt a b) [
  | inl lt ↦ (b, omega arith, le_refl _, λ q x y. y)
  | inr le ↦ (a, le_refl _, le, λ q x y. x)
]

module _ (S : Shape) where
  greatest_reset : (w : World) (j n : ℕ) → (r : ℕ) × ((e : ℕ) → e < n → S.section e ≡ j → w.extents.reset e ≤ r)
      × ((q : ℕ) → ((e : ℕ) → e < n → S.section e ≡ j → w.extents.reset e ≤ q) → r ≤ q)
  greatest_reset w j zero = (0, (λ e lt. absurd (omega arith)), (λ q all. omega arith))
  greatest_reset w j (suc n) =
      let old = greatest_reset w j n in
      elim (cases_eq (S.section n) j) [
        | inl here ↦
            let both = greater old.0 (w.extents.reset n) in (
              both.0,
              (λ e lt sec. elim (cases_eq e n) [
                | inl is ↦ subst (λ (m : ℕ). w.extents.reset m ≤ both.0) (sym is) both.2
                | inr not ↦ le_trans (old.1 e (omega arith) sec) both.1
              ]),
              (λ q all. both.3 q (old.2 q (λ e lt. all e (omega arith))) (all n (omega arith) here)),
            )
        | inr other ↦ (
          old.0,
          (λ e lt sec. elim (cases_eq e n) [
            | inl is ↦ absurd (other (ap S.section (sym is) ∙ sec))
            | inr not ↦ old.1 e (omega arith) sec
          ]),
          (λ q all. old.2 q (λ e lt. all e (omega arith))),
        )
      ]

  greatest_root : (us : List Superblock) (j : ℕ) → (r : ℕ) × ((u : Superblock) → u ∈ us → u.section ≡ j → u.root ≤ r)
      × ((q : ℕ) → ((u : Superblock) → u ∈ us → u.section ≡ j → u.root ≤ q) → r ≤ q)
  greatest_root [] j = (0, (λ u none. absurd none), (λ q all. omega arith))
  greatest_root (v ∷ us) j =
      let old = greatest_root us j in
      elim (cases_eq v.section j) [
        | inl here ↦
            let both = greater old.0 v.root in (
              both.0,
              (λ u has sec. ⊎_elim
                  (λ (is : u ≡ v). subst (λ (x : Superblock). x.root ≤ both.0) (sym is) both.2)
                  (λ (more : u ∈ us). le_trans (old.1 u more sec) both.1) has),
              (λ q all. both.3 q (old.2 q (λ u has. all u (inr has))) (all v (inl refl) here)),
            )
        | inr other ↦ (
          old.0,
          (λ u has sec. ⊎_elim
              (λ (is : u ≡ v). absurd (other (ap (λ (x : Superblock). x.section) (sym is) ∙ sec)))
              (λ (more : u ∈ us). old.1 u more sec) has),
          (λ q all. old.2 q (λ u has. all u (inr has))),
        )
      ]

  pub need_there : (w : World) (j : ℕ) → (r : ℕ) × IsNeed S w j r
  need_there w j =
      let resets = greatest_reset w j S.extents in
      let roots = greatest_root (superblocks_of w.elements) j in
      let both = greater resets.0 roots.0 in (
        both.0,
        record {
          resets = λ e lt sec. le_trans (resets.1 e lt sec) both.1;
          last = λ u has sec. le_trans (roots.1 u has sec) both.2;
          least = λ q a b. both.3 q (resets.2 q a) (roots.2 q b);
        },
      )

  pub need_one : (w : World) (j r q : ℕ) → IsNeed S w j r → IsNeed S w j q → r ≡ q
  need_one w j r q a b = (let x : r ≤ q = a.least q b.resets b.last in let y : q ≤ r = b.least r a.resets a.last in
      omega arith)

  pub append_there_by : (apart : Bool) (w : World) (purpose : Purpose) (bs : List Page) (e : ℕ)
      → Goes S apart w.extents purpose (length bs) e → (l : Locator) × (v : World) × AppendBy S apart w purpose bs l v
  append_there_by apart w purpose bs e placed = let need = need_there w (S.section e) in
      (_, _, record { extent = e; need = need.0; placed = placed; needs = need.1; at = refl; after = refl })

  pub append_there : (w : World) (purpose : Purpose) (bs : List Page) (e : ℕ)
      → Placed S w.extents purpose (length bs) e → (l : Locator) × (v : World) × Append S w purpose bs l v
  append_there w purpose bs e placed = append_there_by false w purpose bs e placed

  pub append_one : (apart : Bool) (w v u : World) (purpose : Purpose) (bs : List Page) (l k : Locator)
      → AppendBy S apart w purpose bs l v → AppendBy S apart w purpose bs k u → (l ≡ k) × (v ≡ u)
  append_one apart w v u purpose bs l k a b =
      let same : a.extent ≡ b.extent = goes_one S apart w.extents purpose (length bs) a.extent b.extent a.placed b.placed in
      let need : a.need ≡ b.need = need_one w (S.section b.extent) a.need b.need
      (subst (λ (e : ℕ). IsNeed S w (S.section e) a.need) same a.needs) b.needs in (
        a.at ∙ ap (λ (e : ℕ). at_pointer e) same ∙ sym b.at,
        a.after
            ∙ ap₂ (λ (e n : ℕ). appended_by S apart purpose w e n bs) same need ∙ sym b.after,
      )
    where
      at_pointer : ℕ → Locator
      at_pointer e = next_locator S w e bs

  pub all_one : (apart : Bool) (w v u : World) (purpose : Purpose) (frames : List (List Page)) (ls ks : List Locator)
      → AppendAllBy S apart w purpose frames ls v → AppendAllBy S apart w purpose frames ks u → (ls ≡ ks) × (v ≡ u)
  all_one apart w v u purpose [] [] [] a b = (refl, a ∙ sym b)
  all_one apart w v u purpose [] [] (k ∷ ks) a b = absurd b
  all_one apart w v u purpose [] (l ∷ ls) ks a b = absurd a
  all_one apart w v u purpose (bs ∷ frames) [] ks a b = absurd a
  all_one apart w v u purpose (bs ∷ frames) (l ∷ ls) [] a b = absurd b
  all_one apart w v u purpose (bs ∷ frames) (l ∷ ls) (k ∷ ks) a b =
      let here = append_one apart w a.0 b.0 purpose bs l k a.1 b.1 in
      let rest = all_one apart b.0 v u purpose frames ls ks
      (subst (λ (x : World). AppendAllBy S apart x purpose frames ls v) here.1 a.2) b.2 in
      (ap₂ (λ (x : Locator) (xs : List Locator). x ∷ xs) here.0 rest.0, rest.1)

  -- what an append does to the extents
  module _ (shape : IsShape S) where
    pages_extents : (w : World) (e i : ℕ) (bs : List Page) → e < S.extents → w.extents.pointer e ≡ i
        → i + length bs ≤ S.pages
        → (stage_pages S w e i bs).extents ≡ record w.extents { pointer = with w.extents.pointer e (i + length bs) }
    pages_extents w e i [] exists at fits = λ j. record w.extents { pointer = λ x. same x j }
      where
        same : (x : ℕ) → w.extents.pointer x ≡ with w.extents.pointer e (i + 0) x
        same x = elim (cases_eq x e) [
          | inl is ↦ ap w.extents.pointer is ∙ at ∙ (let n : i ≡ i + 0 = omega arith in n)
              ∙ sym (with_same w.extents.pointer e (i + 0) x is)
          | inr not ↦ sym (with_other w.extents.pointer e (i + 0) x not)
        ]
    pages_extents w e i (b ∷ bs) exists at fits =
        pages_extents (happens S w (StagePage (S.address e i) b)) e (suc i) bs exists
        (with_same w.extents.pointer (S.extent (S.address e i)) (suc (S.index (S.address e i))) e (sym ext)
        ∙ ap suc idx) (omega arith)
        ∙ (λ j. record w.extents { pointer = λ x. same x j })
      where
        ext : S.extent (S.address e i) ≡ e
        ext = shape.extent e i (exists, omega arith)

        idx : S.index (S.address e i) ≡ i
        idx = shape.index e i (exists, omega arith)

        same : (x : ℕ) → with (with w.extents.pointer (S.extent (S.address e i)) (suc (S.index (S.address e i)))) e
            (suc i + length bs) x ≡ with w.extents.pointer e (i + suc (length bs)) x
        same x = elim (cases_eq x e) [
          | inl is ↦ with_same (with w.extents.pointer (S.extent (S.address e i)) (suc (S.index (S.address e i)))) e
              (suc i + length bs) x is ∙ (let n : suc i + length bs ≡ i + suc (length bs) = omega arith in n)
              ∙ sym (with_same w.extents.pointer e (i + suc (length bs)) x is)
          | inr not ↦ with_other
              (with w.extents.pointer (S.extent (S.address e i)) (suc (S.index (S.address e i)))) e
              (suc i + length bs) x not
              ∙ with_other w.extents.pointer (S.extent (S.address e i)) (suc (S.index (S.address e i))) x
              (λ is. not (is ∙ ext)) ∙ sym (with_other w.extents.pointer e (i + suc (length bs)) x not)
        ]

    pub appended_extents : (w : World) (e need : ℕ) (bs : List Page) → e < S.extents
        → w.extents.pointer e + length bs ≤ S.pages
        → (appended S w e need bs).extents ≡ taken S w.extents e (length bs)
    appended_extents w e need bs exists fits =
        ap (λ (x : Extents). record x { open_extent = open_after S e (w.extents.pointer e + length bs) })
        (pages_extents w e (w.extents.pointer e) bs exists refl fits)

    pub appended_by_extents : (apart : Bool) (purpose : Purpose) (w : World) (e need : ℕ) (bs : List Page) → e < S.extents
        → w.extents.pointer e + length bs ≤ S.pages
        → (appended_by S apart purpose w e need bs).extents ≡ taken_by S apart purpose w.extents e (length bs)
    appended_by_extents apart purpose w e need bs exists fits =
        ap (λ (x : Extents). noted_by S apart purpose w.extents e (length bs) x)
        (pages_extents w e (w.extents.pointer e) bs exists refl fits)

    pub after_extents_by : (apart : Bool) (w v : World) (purpose : Purpose) (bs : List Page) (l : Locator)
        (a : AppendBy S apart w purpose bs l v) → v.extents ≡ taken_by S apart purpose w.extents a.extent (length bs)
    after_extents_by apart w v purpose bs l a =
        let inside = goes_inside S apart w.extents purpose (length bs) a.extent a.placed in
        ap (λ (x : World). x.extents) a.after ∙ appended_by_extents apart purpose w a.extent a.need bs inside.0 inside.1

    pub fits_appends_by : (apart : Bool) (w : World) (purpose : Purpose) (frames : List (List Page))
        → FitsBy S apart w.extents purpose (page_counts frames) → (ls : List Locator) × (v : World)
        × AppendAllBy S apart w purpose frames ls v
    fits_appends_by apart w purpose [] fits = ([], w, refl)
    fits_appends_by apart w purpose (bs ∷ frames) fits =
        let one = append_there_by apart w purpose bs fits.0 fits.1 in
        let rest = fits_appends_by apart one.1 purpose frames
        (subst (λ (x : Extents). FitsBy S apart x purpose (page_counts frames))
        (sym (after_extents_by apart w one.1 purpose bs one.0 one.2))
        (subst (λ (e : ℕ). FitsBy S apart (taken_by S apart purpose w.extents e (length bs)) purpose (page_counts frames))
        (goes_one S apart w.extents purpose (length bs) fits.0 one.2.extent fits.1 one.2.placed) fits.2)) in
        (one.0 ∷ rest.0, rest.1, (one.1, one.2, rest.2))

    pub appends_fit_by : (apart : Bool) (w v : World) (purpose : Purpose) (frames : List (List Page)) (ls : List Locator)
        → AppendAllBy S apart w purpose frames ls v → FitsBy S apart w.extents purpose (page_counts frames)
    appends_fit_by apart w v purpose [] ls all = tt
    appends_fit_by apart w v purpose (bs ∷ frames) [] all = absurd all
    appends_fit_by apart w v purpose (bs ∷ frames) (l ∷ ls) all = (
      all.1.extent,
      all.1.placed,
      subst (λ (x : Extents). FitsBy S apart x purpose (page_counts frames))
          (after_extents_by apart w all.0 purpose bs l all.1) (appends_fit_by apart all.0 v purpose frames ls all.2),
    )

    -- the same without the rule that keeps chunks and runs apart
    pub after_extents : (w v : World) (purpose : Purpose) (bs : List Page) (l : Locator)
        (a : Append S w purpose bs l v) → v.extents ≡ taken S w.extents a.extent (length bs)
    after_extents w v purpose bs l a = after_extents_by false w v purpose bs l a

    pub fits_appends : (w : World) (purpose : Purpose) (frames : List (List Page))
        → Fits S w.extents purpose (page_counts frames) → (ls : List Locator) × (v : World)
        × AppendAll S w purpose frames ls v
    fits_appends w purpose frames fits = fits_appends_by false w purpose frames fits

    pub appends_fit : (w v : World) (purpose : Purpose) (frames : List (List Page)) (ls : List Locator)
        → AppendAll S w purpose frames ls v → Fits S w.extents purpose (page_counts frames)
    appends_fit w v purpose frames ls all = appends_fit_by false w v purpose frames ls all

    pub fits_exactly : (apart : Bool) (w : World) (purpose : Purpose) (frames : List (List Page))
        → FitsBy S apart w.extents purpose (page_counts frames)
        ↔ ((ls : List Locator) × (v : World) × AppendAllBy S apart w purpose frames ls v)
    fits_exactly apart w purpose frames =
        (fits_appends_by apart w purpose frames, λ all. appends_fit_by apart w all.1 purpose frames all.0 all.2)

    -- what an append does to the numbers, and to what is persistent
    pages_written : (w : World) (e i : ℕ) (bs : List Page) → (stage_pages S w e i bs).written ≡ w.written + length bs
    pages_written w e i [] = (let n : w.written ≡ w.written + 0 = omega arith in n)
    pages_written w e i (b ∷ bs) = pages_written (happens S w (StagePage (S.address e i) b)) e (suc i) bs
        ∙ (let n : suc w.written + length bs ≡ w.written + suc (length bs) = omega arith in n)

    pages_root : (w : World) (e i : ℕ) (bs : List Page) → (stage_pages S w e i bs).root ≡ w.root
    pages_root w e i [] = refl
    pages_root w e i (b ∷ bs) = pages_root (happens S w (StagePage (S.address e i) b)) e (suc i) bs

    pages_persistent : (w : World) (e i : ℕ) (bs : List Page) → (stage_pages S w e i bs).persistent ≡ w.persistent
    pages_persistent w e i [] = refl
    pages_persistent w e i (b ∷ bs) = pages_persistent (happens S w (StagePage (S.address e i) b)) e (suc i) bs

    pages_round : (w : World) (e i : ℕ) (bs : List Page) → (stage_pages S w e i bs).round ≡ w.round
    pages_round w e i [] = refl
    pages_round w e i (b ∷ bs) = pages_round (happens S w (StagePage (S.address e i) b)) e (suc i) bs

    pub appended_numbers : (w : World) (e need : ℕ) (bs : List Page)
        → ((appended S w e need bs).written ≡ w.written + length bs)
        × ((appended S w e need bs).superblocks ≡ with w.superblocks (S.section e) (suc (w.superblocks (S.section e))))
        × ((appended S w e need bs).root ≡ w.root)
        × ((appended S w e need bs).persistent ≡ w.persistent) × ((appended S w e need bs).round ≡ w.round)
    appended_numbers w e need bs = (
      pages_written w e (w.extents.pointer e) bs,
      appended_superblocks S w e need bs,
      pages_root w e (w.extents.pointer e) bs,
      pages_persistent w e (w.extents.pointer e) bs,
      pages_round w e (w.extents.pointer e) bs,
    )
