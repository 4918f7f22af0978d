-- What is ready can be told from what is not, and the greatest ready version is found.
use Rattle.std.proofs.Common.{◌≡◌, ◌⊎◌, ◌↔◌, inl, inr, ⊎_elim, ℕ, zero, suc, ◌<◌, ◌≤◌, true, List, [], ◌∷◌, refl, sym, ap, ◌∙◌, subst, le_of_eq, le_trans, le_refl, true≢false, arith}
use Rattle.std.proofs.lemmas.Bool.{cases_eq, cases_lt, cases_Bool}
use Rattle.law_machine.specs.Cut.{section_of}
use Rattle.law_machine.specs.Device.{Page, Shape}
use Rattle.law_machine.specs.Element.{Opening, Root, Superblock, Write, roots_of, writes_of}
use Rattle.law_machine.specs.Formats.{Formats}
use Rattle.law_machine.specs.Distinct.{AreDistinct}
use Rattle.law_machine.specs.Lists.{◌∈◌}
use Rattle.law_machine.specs.Machine.{World}
use Rattle.law_machine.specs.Recovery.{RootGives}
use Rattle.law_machine.specs.Round.{RootReady, SuperblockReady, WriteReady}
use Rattle.law_machine.specs.Safe.{Safe}

-- a test of a member decides for a whole list
pub all_or_some : {A : Type 0} (P : A → Type 0) → ((x : A) → P x ⊎ (P x → ⊥)) → (xs : List A)
    → ((x : A) → x ∈ xs → P x) ⊎ ((x : A) × (x ∈ xs) × (P x → ⊥))
all_or_some P test [] = inl (λ x none. absurd none)
all_or_some P test (y ∷ ys) = ⊎_elim
    (λ holds. ⊎_elim
    (λ all. inl (λ x has. ⊎_elim (λ is. subst P (sym is) holds) (λ more. all x more) has))
    (λ some. inr (some.0, inr some.1, some.2))
    (all_or_some P test ys))
    (λ fails. inr (y, inl refl, fails))
    (test y)

-- those of a list that pass
pub passing : {A : Type 0} (P : A → Type 0) → ((x : A) → P x ⊎ (P x → ⊥)) → (xs : List A) → (ys : List A)
    × ((x : A) → (x ∈ ys) ↔ ((x ∈ xs) × P x)) × (AreDistinct xs → AreDistinct ys)
passing P test [] = ([], (λ x. ((λ none. absurd none), (λ both. both.0))), (λ once. once))
passing P test (y ∷ ys) =
    let rest = passing P test ys in
    ⊎_elim
    (λ holds. (
      y ∷ rest.0,
      (λ x. (
        (λ has. ⊎_elim (λ is. (inl is, subst P (sym is) holds))
            (λ more. (inr ((rest.1 x).0 more).0, ((rest.1 x).0 more).1)) has),
        (λ both. ⊎_elim (λ is. inl is) (λ more. inr ((rest.1 x).1 (more, both.1))) both.0),
      )),
      (λ once. ((λ again. once.0 ((rest.1 y).0 again).0), rest.2 once.1)),
    ))
    (λ fails. (
      rest.0,
      (λ x. (
        (λ has. (inr ((rest.1 x).0 has).0, ((rest.1 x).0 has).1)),
        (λ both. ⊎_elim (λ is. absurd (fails (subst P is both.1))) (λ more. (rest.1 x).1 (more, both.1)) both.0),
      )),
      (λ once. rest.2 once.1),
    ))
    (test y)

pub at_most : (a b : ℕ) → (a ≤ b) ⊎ (a ≤ b → ⊥)
at_most a b = elim (cases_lt b a) [ inl lt ↦ inr (λ le. omega arith) | inr le ↦ inl le ]

below : (f g : ℕ → ℕ) (n : ℕ) → ((j : ℕ) → j < n → f j ≤ g j) ⊎ ((j : ℕ) × (g j < f j))
below f g zero = inl (λ j lt. absurd (omega arith))
below f g (suc n) = ⊎_elim
    (λ (all : (j : ℕ) → j < n → f j ≤ g j). elim (cases_lt (g n) (f n)) [
      | inl over ↦ inr (n, over)
      | inr le ↦ inl (λ j lt.
          elim (cases_eq j n) [
            | inl is ↦ subst (λ (k : ℕ). f k ≤ g k) (sym is) le
            | inr not ↦ all j
                (omega arith)
          ])
    ])
    (λ found. inr found)
    (below f g n)

module _ (S : Shape) (F : Formats) {opening : Opening} (opened : ℕ → Page) (w : World)
    (safe : Safe S (RootGives S F opening) opening.frozen opened w) where
  superblock_ready : (u : Superblock) → SuperblockReady S w u ⊎ (SuperblockReady S w u → ⊥)
  superblock_ready u = ⊎_elim
      (λ (root : u.root ≤ w.persistent.root). ⊎_elim
      (λ all. inl (root, λ x has sec bound. all x has sec bound))
      (λ some. inr (λ ready. some.2 (λ sec bound. ready.1 some.0 some.1 sec bound)))
      (all_or_some (λ (x : Write). section_of S x.page ≡ u.section → x.number ≤ u.writes
      → w.persistent.writes x.number ≡ true) test (writes_of w.elements)))
      (λ (early : u.root ≤ w.persistent.root → ⊥). inr (λ ready. early ready.0))
      (at_most u.root w.persistent.root)
    where
      test : (x : Write) → (section_of S x.page ≡ u.section → x.number ≤ u.writes
          → w.persistent.writes x.number ≡ true)
          ⊎ ((section_of S x.page ≡ u.section → x.number ≤ u.writes → w.persistent.writes x.number ≡ true) → ⊥)
      test x = elim (cases_Bool (w.persistent.writes x.number)) [
        | inl there ↦ inl (λ sec bound. there)
        | inr not ↦ elim (cases_eq (section_of S x.page) u.section) [
          | inl sec ↦ elim (cases_lt u.writes x.number) [
            | inl later ↦ inl (λ same bound. absurd (omega arith))
            | inr bound ↦ inr (λ all. true≢false (sym (all sec bound) ∙ not))
          ]
          | inr other ↦ inl (λ sec. absurd (other sec))
        ]
      ]

  sections_ready : (r : Root) → r ∈ roots_of w.elements
      → ((j : ℕ) → r.superblocks j ≤ w.persistent.superblocks j)
      ⊎ (((j : ℕ) → r.superblocks j ≤ w.persistent.superblocks j) → ⊥)
  sections_ready r has = ⊎_elim
      (λ (all : (j : ℕ) → j < S.sections → r.superblocks j ≤ w.persistent.superblocks j). inl
      (λ j. elim (cases_lt j S.sections) [
        | inl lt ↦ all j lt
        | inr out ↦ elim (cases_lt (w.persistent.superblocks j) (r.superblocks j)) [
          | inl waits ↦ absurd
              (let u = safe.superblocks_there j (r.superblocks j) waits ((safe.roots_below r has).1 j) in
              let lt : u.0.section < S.sections = safe.sections_there u.0 u.1 in let is : u.0.section ≡ j = u.2 in
              omega arith)
          | inr le ↦ le
        ]
      ]))
      (λ found. inr (λ ready. let le : r.superblocks found.0 ≤ w.persistent.superblocks found.0 = ready found.0 in
      let lt : w.persistent.superblocks found.0 < r.superblocks found.0 = found.1 in omega arith))
      (below r.superblocks w.persistent.superblocks S.sections)

  pages_ready : (r : Root)
      → ((x : Write) → x ∈ writes_of w.elements → x.number ≤ r.pages → w.persistent.writes x.number ≡ true)
      ⊎ (((x : Write) → x ∈ writes_of w.elements → x.number ≤ r.pages → w.persistent.writes x.number ≡ true) → ⊥)
  pages_ready r = ⊎_elim (λ all. inl all) (λ some. inr (λ ready. some.2 (λ bound. ready some.0 some.1 bound)))
      (all_or_some (λ (x : Write). x.number ≤ r.pages → w.persistent.writes x.number ≡ true) test
      (writes_of w.elements))
    where
      test : (x : Write) → (x.number ≤ r.pages → w.persistent.writes x.number ≡ true)
          ⊎ ((x.number ≤ r.pages → w.persistent.writes x.number ≡ true) → ⊥)
      test x = elim (cases_Bool (w.persistent.writes x.number)) [
        | inl there ↦ inl (λ bound. there)
        | inr not ↦ elim (cases_lt r.pages x.number) [
          | inl later ↦ inl (λ bound. absurd (omega arith))
          | inr bound ↦ inr (λ all. true≢false (sym (all bound) ∙ not))
        ]
      ]

  root_ready : (r : Root) → r ∈ roots_of w.elements → RootReady S w r ⊎ (RootReady S w r → ⊥)
  root_ready r has = ⊎_elim
      (λ sections. ⊎_elim (λ pages. inl (sections, pages)) (λ not. inr (λ ready. not ready.1)) (pages_ready r))
      (λ not. inr (λ ready. not ready.0))
      (sections_ready r has)

  -- the greatest ready version of a section
  pub record HighestSuperblock (us : List Superblock) (j n : ℕ) : Type 0 where
    pub above : w.persistent.superblocks j ≤ n
    pub all : (u : Superblock) → u ∈ us → SuperblockReady S w u → u.section ≡ j → u.version ≤ n
    pub only : (n ≡ w.persistent.superblocks j)
        ⊎ ((u : Superblock) × (u ∈ us) × (u.section ≡ j) × (u.version ≡ n) × SuperblockReady S w u)

  skip_superblock : (v : Superblock) (us : List Superblock) (j n : ℕ) → HighestSuperblock us j n
      → (SuperblockReady S w v → v.section ≡ j → v.version ≤ n) → HighestSuperblock (v ∷ us) j n
  skip_superblock v us j n h here = record {
    above = h.above;
    all = λ u has. ⊎_elim
        (λ (is : u ≡ v). subst (λ (x : Superblock). SuperblockReady S w x → x.section ≡ j → x.version ≤ n)
        (sym is) here) (λ more. h.all u more) has;
    only = ⊎_elim (λ same. inl same) (λ new. inr (new.0, inr new.1, new.2, new.3, new.4)) h.only;
  }

  pub highest_superblock : (us : List Superblock) (j : ℕ) → (n : ℕ) × HighestSuperblock us j n
  highest_superblock [] j =
      (w.persistent.superblocks j, record { above = le_refl _; all = λ u none. absurd none; only = inl refl })
  highest_superblock (v ∷ us) j =
      let old = highest_superblock us j in
      elim (cases_eq v.section j) [
        | inr other ↦ (old.0, skip_superblock v us j old.0 old.1 (λ ready sec. absurd (other sec)))
        | inl sec ↦ ⊎_elim
            (λ ready. elim (cases_lt old.0 v.version) [
              | inl higher ↦ (
                v.version,
                record {
                  above = le_trans old.1.above (omega arith);
                  all = λ u has ready_u sec_u. ⊎_elim
                      (λ (is : u ≡ v). le_of_eq (ap (λ (x : Superblock). x.version) is))
                      (λ more. let le : u.version ≤ old.0 = old.1.all u more ready_u sec_u in omega arith) has;
                  only = inr (v, inl refl, sec, refl, ready);
                },
              )
              | inr le ↦ (old.0, skip_superblock v us j old.0 old.1 (λ r s. le))
            ])
            (λ not. (old.0, skip_superblock v us j old.0 old.1 (λ ready s. absurd (not ready))))
            (superblock_ready v)
      ]

  pub record HighestRoot (rs : List Root) (n : ℕ) : Type 0 where
    pub above : w.persistent.root ≤ n
    pub all : (r : Root) → r ∈ rs → RootReady S w r → r.version ≤ n
    pub only : (n ≡ w.persistent.root) ⊎ ((r : Root) × (r ∈ rs) × (r.version ≡ n) × RootReady S w r)

  skip_root : (q : Root) (rs : List Root) (n : ℕ) → HighestRoot rs n → (RootReady S w q → q.version ≤ n)
      → HighestRoot (q ∷ rs) n
  skip_root q rs n h here = record {
    above = h.above;
    all = λ r has. ⊎_elim (λ (is : r ≡ q). subst (λ (x : Root). RootReady S w x → x.version ≤ n) (sym is) here)
        (λ more. h.all r more) has;
    only = ⊎_elim (λ same. inl same) (λ new. inr (new.0, inr new.1, new.2, new.3)) h.only;
  }

  pub highest_root : (rs : List Root) → ((r : Root) → r ∈ rs → r ∈ roots_of w.elements) → (n : ℕ) × HighestRoot rs n
  highest_root [] sub = (w.persistent.root, record { above = le_refl _; all = λ r none. absurd none; only = inl refl })
  highest_root (q ∷ rs) sub =
      let old = highest_root rs (λ r has. sub r (inr has)) in
      ⊎_elim
      (λ ready. elim (cases_lt old.0 q.version) [
        | inl higher ↦ (
          q.version,
          record {
            above = le_trans old.1.above (omega arith);
            all = λ r has ready_r. ⊎_elim (λ (is : r ≡ q). le_of_eq (ap (λ (x : Root). x.version) is))
                (λ more. let le : r.version ≤ old.0 = old.1.all r more ready_r in omega arith) has;
            only = inr (q, inl refl, refl, ready);
          },
        )
        | inr le ↦ (old.0, skip_root q rs old.0 old.1 (λ r. le))
      ])
      (λ not. (old.0, skip_root q rs old.0 old.1 (λ ready. absurd (not ready))))
      (root_ready q (sub q (inl refl)))

  -- the writes that are ready, by number
  pub ready_write : (ws : List Write) (n : ℕ) → ((x : Write) × (x ∈ ws) × (x.number ≡ n) × WriteReady S w x)
      ⊎ ((x : Write) → x ∈ ws → x.number ≡ n → WriteReady S w x → ⊥)
  ready_write ws n = ⊎_elim
      (λ none. inr (λ x has is ready. none x has (is, ready)))
      (λ some. let t = taken_of some.0 some.2 in inl (some.0, some.1, t.0, t.1))
      (all_or_some (λ (x : Write). ((x.number ≡ n) × WriteReady S w x) → ⊥) test ws)
    where
      test : (x : Write) → (((x.number ≡ n) × WriteReady S w x) → ⊥) ⊎ ((((x.number ≡ n) × WriteReady S w x) → ⊥) → ⊥)
      test x = elim (cases_eq x.number n) [
        | inr other ↦ inl (λ both. other both.0)
        | inl is ↦ ⊎_elim (λ ready. inr (λ not. not (is, ready))) (λ early. inl (λ both. early both.1))
            (at_most x.root w.persistent.root)
      ]

      taken_of : (x : Write) → ((((x.number ≡ n) × WriteReady S w x) → ⊥) → ⊥) → (x.number ≡ n) × WriteReady S w x
      taken_of x not_not = elim (cases_eq x.number n) [
        | inr other ↦ absurd (not_not (λ both. other both.0))
        | inl is ↦ ⊎_elim (λ ready. (is, ready)) (λ early. absurd (not_not (λ both. early both.1)))
            (at_most x.root w.persistent.root)
      ]
