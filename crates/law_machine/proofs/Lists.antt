-- One list of elements, or one of each family: the same image. And what the frontier is.
use Rattle.std.proofs.Common.{length, ◌≡◌, ◌⊎◌, ◌↔◌, inl, inr, ⊎_elim, ℕ, ◌+◌, ◌<◌, ◌≤◌, Bool, true, false, ◌&&◌, nat_le, List, [], ◌∷◌, if◌then◌else◌, ◌==◌, le_of_eq, le_trans, le_refl, eq-eqb, ne_eqb, refl, sym, ap, ◌∙◌, subst, arith}
use Rattle.std.proofs.lemmas.Bool.{cases_eq, cases_lt}
use Rattle.law_machine.specs.Cut.{Cut}
use Rattle.law_machine.specs.Device.{FramePage, IsShape, Page, PageKind, RootPage, SectionPage, Shape}
use Rattle.law_machine.specs.Disk.{InPlace, image_of}
use Rattle.law_machine.specs.Element.{A_root, A_superblock, A_write, Element, Root, log_of, roots_of}
use Rattle.law_machine.specs.Events.{IsFrontier}
use Rattle.law_machine.specs.Formats.{Formats, image, image_at}
use Rattle.law_machine.specs.Lists.{◌∈◌}
use Rattle.law_machine.specs.Sound.{Sound}
use Rattle.law_machine.specs.State.{State}
use Rattle.law_machine.specs.Step.{DependsOn}
use Rattle.law_machine.proofs.Parts.{each}

passes_over : (t : Bool) (b z : Page) (c : Bool) → t ≡ false → (if t && c then b else z) ≡ z
passes_over t b z c not = rw not

if_same : (b c : Bool) (x y z v : Page) → b ≡ c → x ≡ y → z ≡ v → (if b then x else z) ≡ (if c then y else v)
if_same b c x y z v e f g = rw (e, f, g)

if_at : (t : Bool) (c : Bool) (x z v : Page) → t ≡ true → z ≡ v → (if t && c then x else z) ≡ (if c then x else v)
if_at t c x z v e g = rw (e, g)

module _ (S : Shape) (F : Formats) (shape : IsShape S) (X : Cut) (opened : ℕ → Page) (p : ℕ) where
  one_list_at : (f : PageKind) → S.kind p ≡ f → (els : List Element) → ((m : Element) → m ∈ els → InPlace S m)
      → image_of S F X opened els p ≡ image_at S F f X opened (log_of els) p
  one_list_at RootPage fam [] right = refl
  one_list_at (SectionPage j) fam [] right = refl
  one_list_at FramePage fam [] right = refl
  one_list_at RootPage fam (A_write x ∷ els) right =
      passes_over _ _ _ _
      (ne_eqb _ _ (λ at. let e : FramePage ≡ RootPage = sym (right (A_write x) (inl refl)) ∙ ap S.kind at
      ∙ fam in cc)) ∙ one_list_at RootPage fam els (λ m has. right m (inr has))
  one_list_at RootPage fam (A_superblock u ∷ els) right =
      passes_over _ _ _ _
      (ne_eqb _ _ (λ at. let e : SectionPage u.section ≡ RootPage = sym
      (shape.section_kind u.section (right (A_superblock u) (inl refl))) ∙ ap S.kind at ∙ fam in cc))
      ∙ one_list_at RootPage fam els (λ m has. right m (inr has))
  one_list_at RootPage fam (A_root r ∷ els) right = if_at _ _ _ _ _ (eq-eqb _ _ (sym (shape.root_only p fam)))
      (one_list_at RootPage fam els (λ m has. right m (inr has)))
  one_list_at (SectionPage j) fam (A_write x ∷ els) right =
      passes_over _ _ _ _
      (ne_eqb _ _ (λ at. let e : FramePage ≡ SectionPage j = sym (right (A_write x) (inl refl)) ∙ ap S.kind at
      ∙ fam in cc)) ∙ one_list_at (SectionPage j) fam els (λ m has. right m (inr has))
  one_list_at (SectionPage j) fam (A_root r ∷ els) right =
      passes_over _ _ _ _
      (ne_eqb _ _ (λ at. let e : RootPage ≡ SectionPage j = sym shape.root_kind ∙ ap S.kind at ∙ fam in cc))
      ∙ one_list_at (SectionPage j) fam els (λ m has. right m (inr has))
  one_list_at (SectionPage j) fam (A_superblock u ∷ els) right = elim (cases_eq u.section j) [
    | inl same ↦ (let here : (u.section == j) ≡ true = eq-eqb _ _ same in
        let page : (S.section_page u.section == p) ≡ true = eq-eqb _ _
        (ap S.section_page same ∙ sym (shape.section_only p j fam)) in
        if_same _ _ _ _ _ _ (rw (here, page) (ap (λ (i : ℕ). nat_le u.version (X.superblocks i)) same))
        (ap (λ (i : ℕ). F.superblock u.format i u.version u.recorded u.pointers u.generations) same)
        (one_list_at (SectionPage j) fam els (λ m has. right m (inr has))))
    | inr not ↦ (let there : (u.section == j) ≡ false = ne_eqb _ _ not in
        passes_over _ _ _ _
        (ne_eqb _ _ (λ at. let e : SectionPage u.section ≡ SectionPage j = sym
        (shape.section_kind u.section (right (A_superblock u) (inl refl))) ∙ ap S.kind at ∙ fam in not cc))
        ∙ one_list_at (SectionPage j) fam els (λ m has. right m (inr has))
        ∙ sym (passes_over (u.section == j) _ _ (nat_le u.version (X.superblocks j)) there))
  ]
  one_list_at FramePage fam (A_write x ∷ els) right = ap
      (λ (z : Page). if (x.page == p) && X.writes x.number then x.bytes else z)
      (one_list_at FramePage fam els (λ m has. right m (inr has)))
  one_list_at FramePage fam (A_superblock u ∷ els) right =
      passes_over _ _ _ _
      (ne_eqb _ _ (λ at. let e : SectionPage u.section ≡ FramePage = sym
      (shape.section_kind u.section (right (A_superblock u) (inl refl))) ∙ ap S.kind at ∙ fam in cc))
      ∙ one_list_at FramePage fam els (λ m has. right m (inr has))
  one_list_at FramePage fam (A_root r ∷ els) right =
      passes_over _ _ _ _
      (ne_eqb _ _ (λ at. let e : RootPage ≡ FramePage = sym shape.root_kind ∙ ap S.kind at ∙ fam in cc))
      ∙ one_list_at FramePage fam els (λ m has. right m (inr has))

  pub one_list : (els : List Element) → ((m : Element) → m ∈ els → InPlace S m)
      → image_of S F X opened els p ≡ image S F X opened (log_of els) p
  one_list els right = one_list_at (S.kind p) refl els right

-- of a root and a list, the first with so many commands
pub record Least (roots : List Root) (n : ℕ) (r : Root) : Type 0 where
  pub root : Root
  pub among : (root ≡ r) ⊎ (root ∈ roots)
  pub enough : n ≤ root.commands
  pub first : (x : Root) → x ∈ roots → n ≤ x.commands → root.version ≤ x.version
  pub no_later : root.version ≤ r.version

least : (roots : List Root) (n : ℕ) (r : Root) → n ≤ r.commands → Least roots n r
least [] n r le = record {
  root = r;
  among = inl refl;
  enough = le;
  first = λ x none. absurd none;
  no_later = le_refl _;
}
least (y ∷ ys) n r le =
    let b : Least ys n r = least ys n r le in
    ⊎_elim
    (λ (small : y.commands < n).
    record {
      root = b.root;
      among = ⊎_elim (λ is. inl is) (λ has. inr (inr has)) b.among;
      enough = b.enough;
      no_later = b.no_later;
      first = each (λ (x : Root). n ≤ x.commands → b.root.version ≤ x.version) y ys
          (λ big. absurd (omega arith)) b.first;
    })
    (λ (big : n ≤ y.commands). ⊎_elim
    (λ (sooner : y.version < b.root.version). record {
      root = y;
      among = inr (inl refl);
      enough = big;
      no_later = (let old : b.root.version ≤ r.version = b.no_later in omega arith);
      first = each (λ (x : Root). n ≤ x.commands → y.version ≤ x.version) y ys (λ yes_big. le_refl _)
          (λ x has enough. let old : b.root.version ≤ x.version = b.first x has enough in omega arith);
    })
    (λ (later : b.root.version ≤ y.version).
    record {
      root = b.root;
      among = ⊎_elim (λ is. inl is) (λ has. inr (inr has)) b.among;
      enough = b.enough;
      no_later = b.no_later;
      first = each (λ (x : Root). n ≤ x.commands → b.root.version ≤ x.version) y ys (λ yes_big. later) b.first;
    })
    (cases_lt y.version b.root.version))
    (cases_lt y.commands n)

pub frontier_is : (S : Shape) (F : Formats) (s : State) (f n : ℕ) → Sound S F s → IsFrontier S F s f
    → ((r : Root) × DependsOn S F s n r × (r.version ≤ s.world.persistent.root)) ↔ (n ≤ f)
frontier_is S F s f n sound front = (
  (λ d. let last : d.0.commands ≤ front.0.commands = sound.safe.counts d.0 front.0 d.1.0 front.1
      (le_trans d.2 (le_of_eq (sym front.2))) in
      let has : s.count + n ≤ d.0.commands = d.1.1 in let fc : front.0.commands ≡ s.count + f = front.3 in omega arith),
  (λ le. let b : Least (roots_of s.world.elements) (s.count + n) front.0 = least (roots_of s.world.elements)
      (s.count + n) front.0 (let fc : front.0.commands ≡ s.count + f = front.3 in omega arith) in (
        b.root,
        (
          ⊎_elim (λ (is : b.root ≡ front.0). subst (λ (x : Root). x ∈ roots_of s.world.elements)
              (sym is) front.1) (λ has. has) b.among,
          b.enough,
          b.first,
        ),
        le_trans b.no_later (le_of_eq front.2),
      )),
)

pub some_frontier : (S : Shape) (F : Formats) (s : State) → Sound S F s → (f : ℕ) × (f ≤ length s.commands)
    × IsFrontier S F s f
some_frontier S F s sound = let r = sound.safe.exact.root in let m = sound.maps r.0 r.1 in
    (m.0, m.1, (r.0, r.1, r.2, m.2))
