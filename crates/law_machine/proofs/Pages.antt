-- The pages of a frame are staged one after another.
use Rattle.std.proofs.Common.{◌≡◌, ◌≢◌, ◌⊎◌, inl, inr, ⊎_elim, ℕ, suc, ◌+◌, ◌<◌, ◌≤◌, true, false, ◌&&◌, List, [], ◌∷◌, length, if◌then◌else◌, ◌==◌, le_of_eq, le_refl, le_trans, eq-eqb, ne_eqb, refl, sym, ap, ◌∙◌, subst, subst₂, arith}
use Rattle.law_machine.specs.Append.{stage_pages}
use Rattle.law_machine.specs.Cut.{page_in}
use Rattle.law_machine.specs.Device.{Inside, IsShape, Page, Shape}
use Rattle.law_machine.specs.Element.{A_root, A_superblock, A_write, Element, Opening, Write, roots_of, superblocks_of, writes_of}
use Rattle.law_machine.specs.Formats.{Formats, Stand}
use Rattle.law_machine.specs.Lists.{◌∈◌}
use Rattle.law_machine.specs.Machine.{StagePage, World, everything, happens}
use Rattle.law_machine.specs.Recovery.{RootGives}
use Rattle.law_machine.specs.Round.{IsMember}
use Rattle.law_machine.specs.Safe.{Safe}
use Rattle.law_machine.proofs.Parts.{with_same, with_other, grows}
use Rattle.law_machine.proofs.Moves.{keeps_page}
use Rattle.law_machine.proofs.Carries.{root_local}

hit : (q p : ℕ) (b z : Page) → q ≡ p → (if (q == p) && true then b else z) ≡ b
hit q p b z is = let test : (q == p) ≡ true = eq-eqb q p is in rw test

miss : (q p : ℕ) (b z : Page) → q ≢ p → (if (q == p) && true then b else z) ≡ z
miss q p b z not = let test : (q == p) ≡ false = ne_eqb q p not in rw test

module _ (S : Shape) (F : Formats) (opening : Opening) (shape : IsShape S) (opened : ℕ → Page) where
  -- what a read gives: the newest write to the page
  abbrev pub newest : World → ℕ → Page
  newest w = page_in (everything w) opened (writes_of w.elements)

  pub record Paged (w v : World) (e i : ℕ) (bs : List Page) : Type 0 where
    pub safe : Safe S (RootGives S F opening) opening.frozen opened v
    pub superblocks : (superblocks_of v.elements) ≡ superblocks_of w.elements
    pub roots : (roots_of v.elements) ≡ roots_of w.elements
    pub generation : v.extents.generation ≡ w.extents.generation
    pub reset : v.extents.reset ≡ w.extents.reset
    pub swept : v.extents.swept ≡ w.extents.swept
    pub latest_superblocks : v.superblocks ≡ w.superblocks
    pub behind : v.behind ≡ w.behind
    pub root : v.root ≡ w.root
    pub pointer_there : v.extents.pointer e ≡ i + length bs
    pub pointer_other : (x : ℕ) → x ≢ e → v.extents.pointer x ≡ w.extents.pointer x
    pub from : (x : Write) → x ∈ writes_of v.elements → (x ∈ writes_of w.elements) ⊎ (S.extent x.page ≡ e)
    pub below : (d k : ℕ) → k < w.extents.pointer d → Inside S d k → newest v (S.address d k) ≡ newest w (S.address d k)
    pub still : (d k : ℕ) → d ≢ e → Inside S d k → newest v (S.address d k) ≡ newest w (S.address d k)
    pub stand : Stand S F (newest v) e i bs
    pub member : (m : Element) → IsMember S w m → IsMember S v m
    pub back : (m : Element) → IsMember S v m → IsMember S w m

  paged_step : (w : World) (e i : ℕ) (b : Page) (bs : List Page)
      → Safe S (RootGives S F opening) opening.frozen opened w → e < S.extents → w.extents.pointer e ≡ i
      → i + suc (length bs) ≤ S.pages → ((k : ℕ) → i ≤ k → opening.frozen e k (w.extents.generation e) ≡ false)
      → (let one : World = happens S w (StagePage (S.address e i) b) in
      Safe S (RootGives S F opening) opening.frozen opened one → one.extents.pointer e ≡ suc i
      → suc i + length bs ≤ S.pages → Paged one (stage_pages S one e (suc i) bs) e (suc i) bs)
      → Paged w (stage_pages S w e i (b ∷ bs)) e i (b ∷ bs)
  paged_step w e i b bs safe ex at fits thawed on = record {
    safe = rest.safe;
    superblocks = rest.superblocks;
    roots = rest.roots;
    generation = rest.generation;
    reset = rest.reset;
    swept = rest.swept;
    latest_superblocks = rest.latest_superblocks;
    behind = rest.behind;
    root = rest.root;
    pointer_there = let there : (stage_pages S one e (suc i) bs).extents.pointer e
        ≡ suc i + length bs = rest.pointer_there in omega arith;
    pointer_other = λ x not. rest.pointer_other x not
        ∙ with_other w.extents.pointer (S.extent p) (suc (S.index p)) x (λ is. not (is ∙ ext));
    from = λ x has. ⊎_elim
        (λ (old : x ∈ writes_of one.elements). ⊎_elim
        (λ (is : x ≡ new). inr (ap (λ (y : Write). S.extent y.page) is ∙ ext)) (λ was. inl was) old)
        (λ there. inr there) (rest.from x has);
    below = λ d k lt inside. rest.below d k
        (le_trans lt (grows w.extents.pointer (S.extent p) (suc (S.index p)) d (up d))) inside
        ∙ miss p (S.address d k) b (newest w (S.address d k)) (apart d k lt inside);
    still = λ d k not inside. rest.still d k not inside
        ∙ miss p (S.address d k) b (newest w (S.address d k))
        (λ is. not (sym (shape.extent d k inside) ∙ sym (ap S.extent is) ∙ ext));
    stand = (
      rest.below e i (le_of_eq (sym next)) here ∙ hit p (S.address e i) b (newest w (S.address e i)) refl,
      rest.stand,
    );
    member = λ m is. rest.member m (grown m is);
    back = λ m is. shrunk m (rest.back m is);
  }
    where
      p : ℕ
      p = S.address e i

      here : Inside S e i
      here = (ex, omega arith)

      ext : S.extent p ≡ e
      ext = shape.extent e i here

      idx : S.index p ≡ i
      idx = shape.index e i here

      new : Write
      new = record { number = suc w.written; page = p; bytes = b; root = w.extents.reset (S.extent p) }

      one : World
      one = happens S w (StagePage p b)

      next : one.extents.pointer e ≡ suc i
      next = with_same w.extents.pointer (S.extent p) (suc (S.index p)) e (sym ext) ∙ ap suc idx

      up : (d : ℕ) → w.extents.pointer (S.extent p) ≤ suc (S.index p)
      up d = subst₂ (λ (x n : ℕ). w.extents.pointer x ≤ suc n) (sym ext) (sym idx) (omega arith)

      apart : (d k : ℕ) → k < w.extents.pointer d → Inside S d k → p ≢ S.address d k
      apart d k lt inside is =
          let same_e : e ≡ d = sym ext ∙ ap S.extent is ∙ shape.extent d k inside in
          let same_i : i ≡ k = sym idx ∙ ap S.index is ∙ shape.index d k inside in
          let lt_e : k < w.extents.pointer e = subst (λ (x : ℕ). k < w.extents.pointer x) (sym same_e) lt in
          omega arith

      shrunk : (m : Element) → IsMember S one m → IsMember S w m
      shrunk (A_write x) is = (
        ⊎_elim (λ (is_new : x ≡ new). absurd
            (let le : suc w.written ≤ w.written = safe.round_staged.writes (suc w.written)
            (ap (λ (y : Write). w.round.writes y.number) (sym is_new) ∙ is.1) in omega arith))
            (λ (old : x ∈ writes_of w.elements). old) is.0,
        is.1,
        is.2,
      )
      shrunk (A_superblock u) is = is
      shrunk (A_root r) is = is

      grown : (m : Element) → IsMember S w m → IsMember S one m
      grown (A_write x) is = (inr is.0, is.1, is.2)
      grown (A_superblock u) is = is
      grown (A_root r) is = is

      rest : Paged one (stage_pages S one e (suc i) bs) e (suc i) bs
      rest = on (keeps_page S (RootGives S F opening) opening.frozen opened (root_local S F shape) w p b (
        idx ∙ sym at ∙ ap w.extents.pointer (sym ext),
        shape.frame_kind e i here,
        le_trans (le_of_eq (ap suc idx)) (omega arith),
        subst₂ (λ (n k : ℕ). opening.frozen n k (w.extents.generation n) ≡ false) (sym ext) (sym idx) (thawed i (le_refl _)),
      ) safe) next
          (omega arith)

  pub paged : (w : World) (e i : ℕ) (bs : List Page) → Safe S (RootGives S F opening) opening.frozen opened w
      → e < S.extents → w.extents.pointer e ≡ i → i + length bs ≤ S.pages
      → ((k : ℕ) → i ≤ k → opening.frozen e k (w.extents.generation e) ≡ false)
      → Paged w (stage_pages S w e i bs) e i bs
  paged w e i [] safe ex at fits thawed = record {
    safe = safe;
    superblocks = refl;
    roots = refl;
    generation = refl;
    reset = refl;
    swept = refl;
    latest_superblocks = refl;
    behind = refl;
    root = refl;
    pointer_there = omega arith;
    pointer_other = λ x not. refl;
    from = λ x has. inl has;
    below = λ d k lt inside. refl;
    still = λ d k not inside. refl;
    stand = tt;
    member = λ m is. is;
    back = λ m is. is;
  }
  paged w e i (b ∷ bs) safe ex at fits thawed = paged_step w e i b bs safe ex at fits thawed
      (λ s n f. paged (happens S w (StagePage (S.address e i) b)) e (suc i) bs s ex n f
      (λ k after. thawed k (let le : suc i ≤ k = after in omega arith)))
