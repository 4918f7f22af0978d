-- A frame is appended.
use Rattle.std.proofs.Common.{◌≡◌, ◌≢◌, inl, inr, ⊎_elim, ℕ, suc, ◌+◌, ◌<◌, ◌≤◌, Bool, true, false, if◌then◌else◌, List, [], ◌∷◌, length, le_of_eq, le_trans, true≢false, refl, sym, ap, ◌∙◌, subst, arith}
use Rattle.std.proofs.lemmas.Bool.{cases_eq, cases_lt}
use Rattle.law_machine.specs.Append.{AppendAllBy, AppendBy, IsNeed, appended, appended_by, stage_pages}
use Rattle.law_machine.specs.Cut.{page_in}
use Rattle.law_machine.specs.Device.{Inside, IsShape, Page, Shape}
use Rattle.law_machine.specs.Element.{A_root, A_superblock, A_write, Element, Locator, Opening, Superblock, roots_of, superblocks_of, writes_of}
use Rattle.law_machine.specs.Extents.{Purpose}
use Rattle.law_machine.specs.Formats.{Formats, Stand}
use Rattle.law_machine.specs.Lists.{with, ◌∈◌}
use Rattle.law_machine.specs.Machine.{StagePage, StageSuperblock, World, everything, happens, superblock_now}
use Rattle.law_machine.specs.Recovery.{RootGives}
use Rattle.law_machine.specs.Round.{IsMember}
use Rattle.law_machine.specs.Safe.{Safe, Settled}
use Rattle.law_machine.proofs.Parts.{with_same, with_other, grows}
use Rattle.law_machine.proofs.SuperblockMoves.{keeps_superblock}
use Rattle.law_machine.proofs.RoundMoves.{keeps_marks}
use Rattle.law_machine.proofs.Carries.{root_local}
use Rattle.law_machine.proofs.Pages.{Paged, paged}

pages_found : (S : Shape) (w : World) (e i : ℕ) (bs : List Page)
    → (stage_pages S w e i bs).extents.found ≡ w.extents.found
pages_found S w e i [] = refl
pages_found S w e i (b ∷ bs) = pages_found S (happens S w (StagePage (S.address e i) b)) e (suc i) bs

module _ (S : Shape) (F : Formats) (opening : Opening) (shape : IsShape S) (opened : ℕ → Page) where
  -- what a read gives: the newest write to the page
  abbrev pub newest : World → ℕ → Page
  newest w = page_in (everything w) opened (writes_of w.elements)

  pub record Framed (w v : World) (e i : ℕ) (bs : List Page) : Type 0 where
    pub safe : Safe S (RootGives S F opening) opening.frozen opened v
    pub settled : (d : ℕ) → Settled S v d
    pub roots : (roots_of v.elements) ≡ roots_of w.elements
    pub generation : v.extents.generation ≡ w.extents.generation
    pub swept : v.extents.swept ≡ w.extents.swept
    pub found : v.extents.found ≡ w.extents.found
    pub root : v.root ≡ w.root
    pub pointer_there : v.extents.pointer e ≡ i + length bs
    pub grows : (d k : ℕ) → k < w.extents.pointer d → k < v.extents.pointer d
    pub carries : (d k : ℕ) → k < w.extents.pointer d → Inside S d k
        → (newest v (S.address d k) ≡ newest w (S.address d k)) × (v.extents.generation d ≡ w.extents.generation d)
        × (k < v.extents.pointer d)
    pub still : (d k : ℕ) → opening.frozen d k (w.extents.generation d) ≡ true → 0 < w.extents.pointer d
        → Inside S d k → newest v (S.address d k) ≡ newest w (S.address d k)
    pub stand : Stand S F (newest v) e i bs
    pub member : (m : Element) → IsMember S w m → IsMember S v m
    pub back : (m : Element) → IsMember S v m → IsMember S w m

  module _ (w : World) (e need : ℕ) (bs : List Page) (safe : Safe S (RootGives S F opening) opening.frozen opened w)
      (settled : (d : ℕ) → Settled S w d) (ex : e < S.extents)
      (fits : w.extents.pointer e + length bs ≤ S.pages) (needs : IsNeed S w (S.section e) need)
      (room : suc (w.superblocks (S.section e)) ≤ S.greatest_number)
      (thawed : (k : ℕ) → w.extents.pointer e ≤ k → opening.frozen e k (w.extents.generation e) ≡ false) (apart : Bool) (purpose : Purpose) where
    u : World
    u = stage_pages S w e (w.extents.pointer e) bs

    v : World
    v = happens S u (StageSuperblock (S.section e) need)

    abbrev end : World
    end = appended_by S apart purpose w e need bs

    g : Paged S F opening shape opened w u e (w.extents.pointer e) bs
    unfolding u
    g = paged S F opening shape opened w e (w.extents.pointer e) bs safe ex refl fits thawed

    reset_below : (d : ℕ) → S.section d ≡ S.section e → w.extents.reset d ≤ need
    reset_below d sec = ⊎_elim
        (λ (lt : d < S.extents). needs.resets d lt sec)
        (λ (out : S.extents ≤ d). let none : w.extents.reset d ≡ 0 = safe.resets_there d out in omega arith)
        (cases_lt d S.extents)

    safe_after : Safe S (RootGives S F opening) opening.frozen opened v
    unfolding v
    safe_after = keeps_superblock S (RootGives S F opening) opening.frozen opened (root_local S F shape) u
        (S.section e) need (
          (λ d sec. subst (λ (f : ℕ → ℕ). f d ≤ need) (sym g.reset) (reset_below d sec)),
          (λ x has sec. needs.last x (subst (λ (l : List Superblock). x ∈ l) g.superblocks has) sec),
          shape.section e,
          subst (λ (n : ℕ). need ≤ n) (sym g.root)
              (needs.least w.root (λ d lt sec. safe.reset_roots d) (λ x has sec. safe.superblock_roots x has)),
          subst (λ (f : ℕ → ℕ). suc (f (S.section e)) ≤ S.greatest_number) (sym g.latest_superblocks) room,
        ) g.safe

    settled_after : (d : ℕ) → Settled S v d
    unfolding v
    settled_after d = elim (cases_eq (S.section d) (S.section e)) [
      | inl same ↦ record {
        last = (
          new,
          inl refl,
          sym same,
          sym (with_same u.superblocks (S.section e) (suc (u.superblocks (S.section e))) (S.section e) refl),
          λ first. le_of_eq (with_same u.behind (S.section e) u.written (S.section e) refl
              ∙ ap (λ (b : Bool). if b then u.written else 0) (sym first)),
        );
        pages = λ x has at. subst (λ (n : ℕ). x.number ≤ n)
            (sym (with_same u.behind (S.section e) u.written (S.section d) same)) (g.safe.writes_below x has);
        current = λ y has. ⊎_elim
            (λ (is : y ≡ new). λ sec ver. inl
            (ap (λ (z : Superblock). z.pointers d) is, ap (λ (z : Superblock). z.generations d) is))
            (λ (old : y ∈ superblocks_of u.elements). λ sec ver. absurd (
            let above : suc (u.superblocks (S.section e)) ≤ y.version = subst (λ (n : ℕ). n ≤ y.version)
            (with_same u.superblocks (S.section e) (suc (u.superblocks (S.section e))) y.section (sec ∙ same))
            ver in
            let below : y.version ≤ u.superblocks (S.section e) = subst (λ (j : ℕ). y.version ≤ u.superblocks j)
            (sec ∙ same) (g.safe.superblocks_below y old).0 in omega arith)) has;
      }
      | inr not ↦
          let before = settled d in
          let last = before.last in
          let apart : last.0.section ≢ S.section e = λ is. not (sym last.2 ∙ is) in
          let pointer : u.extents.pointer d ≡ w.extents.pointer d = g.pointer_other d
          (λ is. not (ap S.section is)) in record {
            last = (
              last.0,
              inr (subst (λ (l : List Superblock). last.0 ∈ l) (sym g.superblocks) last.1),
              last.2,
              last.3 ∙ ap (λ (f : ℕ → ℕ). f last.0.section) (sym g.latest_superblocks)
                  ∙ sym (with_other u.superblocks (S.section e)
                  (suc (u.superblocks (S.section e))) last.0.section apart),
              λ first. subst (λ (n : ℕ). n ≤ last.0.writes) (ap (λ (f : ℕ → ℕ). f last.0.section) (sym g.behind)
                  ∙ sym (with_other u.behind (S.section e) u.written last.0.section apart)) (last.4 first),
            );
            pages = λ x has at. subst (λ (n : ℕ). x.number ≤ n) (ap (λ (f : ℕ → ℕ). f (S.section d)) (sym g.behind)
                ∙ sym (with_other u.behind (S.section e) u.written (S.section d) not))
                (⊎_elim (λ (old : x ∈ writes_of w.elements). before.pages x old at)
                (λ (there : S.extent x.page ≡ e). absurd (not (ap S.section (sym at ∙ there)))) (g.from x has));
            current = λ y has. ⊎_elim
                (λ (is : y ≡ new). λ sec ver. absurd (not (sym sec ∙ ap (λ (z : Superblock). z.section) is)))
                (λ (old : y ∈ superblocks_of u.elements). λ sec ver. ⊎_elim
                (λ same. inl (same.0 ∙ sym pointer, same.1 ∙ ap (λ (f : ℕ → ℕ). f d) (sym g.generation)))
                (λ (none : w.extents.pointer d ≡ 0). inr (pointer ∙ none))
                (before.current y (subst (λ (l : List Superblock). y ∈ l) g.superblocks old) sec
                (subst (λ (n : ℕ). n ≤ y.version)
                (with_other u.superblocks (S.section e) (suc (u.superblocks (S.section e))) y.section
                (λ is. not (sym sec ∙ is)) ∙ ap (λ (f : ℕ → ℕ). f y.section) g.latest_superblocks) ver))) has;
          }
    ]
      where
        new : Superblock
        new = superblock_now S u (S.section e) need

    pub framed : Framed w (appended_by S apart purpose w e need bs) e (w.extents.pointer e) bs
    unfolding u v
    framed = record {
      safe = keeps_marks S (RootGives S F opening) opening.frozen opened
          (root_local S F shape) v end.extents safe_after;
      settled = λ d. (let z = settled_after d in record { last = z.last; pages = z.pages; current = z.current });
      roots = g.roots;
      generation = g.generation;
      swept = g.swept;
      found = pages_found S w e (w.extents.pointer e) bs;
      root = g.root;
      pointer_there = g.pointer_there;
      grows = longer;
      carries = λ d k lt inside. (g.below d k lt inside, ap (λ (f : ℕ → ℕ). f d) g.generation, longer d k lt);
      still = λ d k fz some inside. elim (cases_lt k (w.extents.pointer d)) [
        | inl lt ↦ g.below d k lt inside
        | inr high ↦ g.still d k (λ is. true≢false (sym fz
            ∙ ap (λ (n : ℕ). opening.frozen n k (w.extents.generation n)) is
            ∙ thawed k (subst (λ (n : ℕ). w.extents.pointer n ≤ k) is high))) inside
      ];
      stand = g.stand;
      member = λ m is. superblock_member m (g.member m is);
      back = λ m is. g.back m (superblock_back m is);
    }
      where
        longer : (d k : ℕ) → k < w.extents.pointer d → k < u.extents.pointer d
        longer d k lt = elim (cases_eq d e) [
          | inl is ↦ subst (λ (x : ℕ). k < u.extents.pointer x) (sym is)
              (let there : u.extents.pointer e ≡ w.extents.pointer e + length bs = g.pointer_there in
              let lt_e : k < w.extents.pointer e = subst (λ (x : ℕ). k < w.extents.pointer x) is lt in omega arith)
          | inr not ↦ subst (λ (n : ℕ). k < n) (sym (g.pointer_other d not)) lt
        ]

        superblock_back : (m : Element) → IsMember S end m → IsMember S u m
        superblock_back (A_write x) is = is
        superblock_back (A_superblock y) is = (
          ⊎_elim (λ (is_new : y ≡ _). absurd (
              let above : suc (u.superblocks (S.section e)) ≡ u.round.superblocks (S.section e) = ap
              (λ (z : Superblock). z.version) (sym is_new) ∙ is.1
              ∙ ap (λ (z : Superblock). u.round.superblocks z.section) is_new in
              let below : u.round.superblocks (S.section e) ≤ u.superblocks
              (S.section e) = g.safe.round_staged.superblocks (S.section e) in omega arith))
              (λ (old : y ∈ superblocks_of u.elements). old) is.0,
          is.1,
          is.2,
        )
        superblock_back (A_root r) is = is

        superblock_member : (m : Element) → IsMember S u m → IsMember S end m
        superblock_member (A_write x) is = is
        superblock_member (A_superblock y) is = (inr is.0, is.1, is.2)
        superblock_member (A_root r) is = is

-- a frame stages one superblock version more, of its extent's section
pub pages_superblocks : (S : Shape) (w : World) (e i : ℕ) (bs : List Page)
    → (stage_pages S w e i bs).superblocks ≡ w.superblocks
pages_superblocks S w e i [] = refl
pages_superblocks S w e i (b ∷ bs) = pages_superblocks S (happens S w (StagePage (S.address e i) b)) e (suc i) bs

pub appended_superblocks : (S : Shape) (w : World) (e need : ℕ) (bs : List Page)
    → (appended S w e need bs).superblocks ≡ with w.superblocks (S.section e) (suc (w.superblocks (S.section e)))
appended_superblocks S w e need bs =
    ap (λ (f : ℕ → ℕ). with f (S.section e) (suc (f (S.section e)))) (pages_superblocks S w e (w.extents.pointer e) bs)

pub append_up : (S : Shape) (apart : Bool) (w v : World) (purpose : Purpose) (bs : List Page) (l : Locator)
    → AppendBy S apart w purpose bs l v → (j : ℕ) → w.superblocks j ≤ v.superblocks j
append_up S apart w v purpose bs l a j = subst (λ (f : ℕ → ℕ). w.superblocks j ≤ f j)
    (sym (ap (λ (x : World). x.superblocks) a.after ∙ appended_superblocks S w a.extent a.need bs))
    (grows w.superblocks (S.section a.extent) (suc (w.superblocks (S.section a.extent))) j (omega arith))

pub all_up : (S : Shape) (apart : Bool) (w v : World) (purpose : Purpose) (frames : List (List Page)) (ls : List Locator)
    → AppendAllBy S apart w purpose frames ls v → (j : ℕ) → w.superblocks j ≤ v.superblocks j
all_up S apart w v purpose [] [] is j = le_of_eq (ap (λ (x : World). x.superblocks j) (sym is))
all_up S apart w v purpose [] (l ∷ ls) is j = absurd is
all_up S apart w v purpose (bs ∷ frames) [] is j = absurd is
all_up S apart w v purpose (bs ∷ frames) (l ∷ ls) is j = le_trans (append_up S apart w is.0 purpose bs l is.1 j)
    (all_up S apart is.0 v purpose frames ls is.2 j)
