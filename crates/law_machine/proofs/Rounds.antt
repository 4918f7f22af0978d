-- What is kept of the writes of a round makes the image of a set between what is persistent and the round.
use Rattle.std.proofs.Common.{◌≡◌, ◌≢◌, inl, inr, ⊎_elim, ℕ, ◌<◌, ◌≤◌, Bool, true, false, ◌&&◌, ◌||◌, nat_le, List, [], ◌∷◌, if◌then◌else◌, ◌==◌, le_of_eq, le_trans, le_refl, le-leb, leb-true, eqb-true, eq-eqb, ne_eqb, true≢false, refl, sym, ap, ◌∙◌, subst, arith}
use Rattle.std.proofs.lemmas.Bool.{cases_eq}
use Rattle.law_machine.specs.Cut.{Cut, Exact, Within, join}
use Rattle.law_machine.specs.Device.{FramePage, IsShape, Page, PageKind, RootPage, SectionPage, Shape}
use Rattle.law_machine.specs.Disk.{applied, kept_of, page_write, page_writes, written}
use Rattle.law_machine.specs.Element.{A_root, A_superblock, A_write, Element, Opening, Root, RootBefore, Superblock, SuperblockBefore, Write, WriteBefore, log_of, roots_of, superblocks_of, writes_of}
use Rattle.law_machine.specs.Formats.{Formats, image, image_at, places}
use Rattle.law_machine.specs.Index.{after}
use Rattle.law_machine.specs.Lists.{Descends, latest, with, ◌∈◌}
use Rattle.law_machine.specs.Machine.{World}
use Rattle.law_machine.specs.Recovery.{RootGives}
use Rattle.law_machine.specs.Round.{IsMember}
use Rattle.law_machine.specs.Safe.{Safe}
use Rattle.law_machine.proofs.ClosedSets.{page_same}
use Rattle.law_machine.proofs.Parts.{with_case, with_same, with_other}
use Rattle.law_machine.proofs.Carries.{found, no_later, and_true, and_left, and_right}

pub one_of_a_number : (ws : List Write) (x y : Write) → Descends WriteBefore ws → x ∈ ws → y ∈ ws
    → x.number ≡ y.number → x ≡ y
one_of_a_number [] x y order none is_y same = absurd none
one_of_a_number (w ∷ ws) x y order (inl a) (inl b) same = a ∙ sym b
one_of_a_number (w ∷ ws) x y order (inl a) (inr b) same = absurd (let before : y.number < w.number = order.0 y b in
    let e : x.number ≡ w.number = ap (λ (v : Write). v.number) a in omega arith)
one_of_a_number (w ∷ ws) x y order (inr a) (inl b) same = absurd (let before : x.number < w.number = order.0 x a in
    let e : y.number ≡ w.number = ap (λ (v : Write). v.number) b in omega arith)
one_of_a_number (w ∷ ws) x y order (inr a) (inr b) same = one_of_a_number ws x y order.1 a b same

or_other : (a b : Bool) → (a || b) ≡ true → a ≡ false → b ≡ true
or_other true b p q = absurd (true≢false q)
or_other false b p q = p

module _ (S : Shape) (F : Formats) {opening : Opening} (shape : IsShape S) (opened : ℕ → Page) (w : World)
    (safe : Safe S (RootGives S F opening) opening.frozen opened w) where
  -- a page that is written again: what was there before is persistent
  pub before_it : (X : Cut) → Within X w.round → (x y : Write) → x ∈ writes_of w.elements → y ∈ writes_of w.elements
      → x.page ≡ y.page → x.number < y.number → X.writes y.number ≡ true → w.persistent.writes x.number ≡ true
  before_it X high x y is_x is_y at after has =
      let again = safe.rewritten x y is_x is_y at after in
      let r = again.0 in
      let root : y.root ≤ w.persistent.root = ⊎_elim (λ old. safe.closed.write_root y is_y old)
      (λ (met : y.root ≤ w.persistent.root). met) (safe.ready.writes y is_y (high.writes y.number has)) in
      let need = safe.needed r again.1 (S.extent x.page) in
      let u = need.0 in
      let ver : u.version ≡ r.superblocks u.section = need.3 in
      let done : r.version ≤ w.persistent.root = le_trans (le_of_eq again.2) root in
      let below : r.superblocks u.section ≤ w.persistent.superblocks u.section = safe.closed.root_superblocks r
      again.1 done u.section in
      let counted : x.number ≤ r.writes u.section = subst (λ (j : ℕ). x.number ≤ r.writes j) (sym need.2) again.3 in
      ⊎_elim
      (λ (by_u : r.writes u.section ≤ u.writes). safe.closed.superblock_writes u x need.1 is_x
      (le_trans (le_of_eq ver) below) (sym need.2) (le_trans counted by_u))
      (λ (by_r : r.writes u.section ≤ r.pages). safe.closed.root_writes r x again.1 is_x done
      (le_trans counted by_r)) need.4

  module _ (X : Cut) (high : Within X w.round) where
    img : ℕ → Page
    img = image S F X opened (log_of w.elements)

    other : (p q : ℕ) (b : Page) → p ≢ q
        → written (image S F X opened (log_of w.elements)) q b p ≡ image S F X opened (log_of w.elements) p
    other p q b not = let test : (p == q) ≡ false = ne_eqb p q not in rw test

    here : (p q : ℕ) (b : Page) → p ≡ q → written (image S F X opened (log_of w.elements)) q b p ≡ b
    here p q b is = let test : (p == q) ≡ true = eq-eqb p q is in rw test

    as_was : (p : ℕ) (f : PageKind) → S.kind p ≡ f
        → image_at S F f X opened (log_of w.elements) p ≡ image S F X opened (log_of w.elements) p
    as_was p f fam = ap (λ (g : PageKind). image_at S F g X opened (log_of w.elements) p) (sym fam)

    one_write : (x : Write) → IsMember S w (A_write x) → (p : ℕ) (f : PageKind) → S.kind p ≡ f
        → image_at S F f (join X (A_write x)) opened (log_of w.elements) p ≡ written
        (image S F X opened (log_of w.elements)) x.page x.bytes p
    one_write x is p RootPage fam = as_was p RootPage fam
        ∙ sym (other p x.page x.bytes (λ at. let e : RootPage ≡ FramePage = sym fam ∙ ap S.kind at
        ∙ safe.frames x is.0 in cc))
    one_write x is p (SectionPage j) fam = as_was p (SectionPage j) fam
        ∙ sym (other p x.page x.bytes (λ at. let e : SectionPage j ≡ FramePage = sym fam ∙ ap S.kind at
        ∙ safe.frames x is.0 in cc))
    one_write x is p FramePage fam = elim (cases_eq p x.page) [
      | inl at ↦ found WriteBefore (λ y. (y.page == p) && ((y.number == x.number) || X.writes y.number))
          (λ y. y.bytes) (opened p) (writes_of w.elements) x safe.writes_order is.0
          (and_true _ _ (eq-eqb _ _ (sym at)) (let same : (x.number == x.number) ≡ true = eq-eqb _ _ refl in rw same))
          (λ y has passes before. true≢false
          (sym (before_it X high x y is.0 has
          (sym at ∙ sym (eqb-true y.page p (and_left (y.page == p) _ passes))) before
          (or_other (y.number == x.number) (X.writes y.number) (and_right (y.page == p) _ passes)
          (ne_eqb _ _ (λ e. let lt : x.number < y.number = before in omega arith)))) ∙ is.2))
          ∙ sym (here p x.page x.bytes at)
      | inr not ↦ page_same (join X (A_write x)) X opened (writes_of w.elements) p (λ y has at_p.
          let differs : (y.number == x.number) ≡ false = ne_eqb _ _
          (λ e. not (sym at_p
          ∙ ap (λ (v : Write). v.page)
          (one_of_a_number (writes_of w.elements) y x safe.writes_order has is.0 e))) in rw differs)
          ∙ as_was p FramePage fam ∙ sym (other p x.page x.bytes not)
    ]

    one_superblock : (u : Superblock) → IsMember S w (A_superblock u) → (p : ℕ) (f : PageKind) → S.kind p ≡ f
        → image_at S F f (join X (A_superblock u)) opened (log_of w.elements) p ≡ written
        (image S F X opened (log_of w.elements)) (S.section_page u.section)
        (F.superblock u.format u.section u.version u.recorded u.pointers u.generations) p
    one_superblock u is p RootPage fam = as_was p RootPage fam
        ∙ sym (other p _ _ (λ at. let e : RootPage ≡ SectionPage u.section = sym fam ∙ ap S.kind at
        ∙ shape.section_kind u.section (safe.sections_there u is.0) in cc))
    one_superblock u is p FramePage fam = as_was p FramePage fam
        ∙ sym (other p _ _ (λ at. let e : FramePage ≡ SectionPage u.section = sym fam ∙ ap S.kind at
        ∙ shape.section_kind u.section (safe.sections_there u is.0) in cc))
    one_superblock u is p (SectionPage j) fam = elim (cases_eq j u.section) [
      | inl same ↦
          let up : with X.superblocks u.section u.version j
          ≡ u.version = with_same X.superblocks u.section u.version j same in
          found SuperblockBefore
          (λ v. (v.section == j) && nat_le v.version (with X.superblocks u.section u.version j))
          (λ v. F.superblock v.format j v.version v.recorded v.pointers v.generations) (opened p)
          (superblocks_of w.elements) u safe.superblocks_order is.0
          (and_true _ _ (eq-eqb _ _ (sym same)) (le-leb _ _ (le_of_eq (sym up))))
          (λ y has passes before. no_later u y j _ (sym same) (sym up) passes before)
          ∙ ap (λ (i : ℕ). F.superblock u.format i u.version u.recorded u.pointers u.generations) same
          ∙ sym (here p _ _ (shape.section_only p j fam ∙ ap S.section_page same))
      | inr not ↦
          ap (λ (n : ℕ). latest (λ v. (v.section == j) && nat_le v.version n)
          (λ v. F.superblock v.format j v.version v.recorded v.pointers v.generations) (opened p)
          (superblocks_of w.elements)) (with_other X.superblocks u.section u.version j not)
          ∙ as_was p (SectionPage j) fam
          ∙ sym (other p _ _ (λ at. let e : SectionPage j ≡ SectionPage u.section = sym fam ∙ ap S.kind at
          ∙ shape.section_kind u.section (safe.sections_there u is.0) in not cc))
    ]

    one_root : (r : Root) → IsMember S w (A_root r) → (p : ℕ) (f : PageKind) → S.kind p ≡ f
        → image_at S F f (join X (A_root r)) opened (log_of w.elements) p ≡ written
        (image S F X opened (log_of w.elements)) S.root_page (F.root r.version r.commands (places r.runs)) p
    one_root r is p FramePage fam = as_was p FramePage fam
        ∙ sym (other p _ _ (λ at. let e : FramePage ≡ RootPage = sym fam ∙ ap S.kind at ∙ shape.root_kind in cc))
    one_root r is p (SectionPage j) fam = as_was p (SectionPage j) fam
        ∙ sym (other p _ _ (λ at. let e : SectionPage j ≡ RootPage = sym fam ∙ ap S.kind at ∙ shape.root_kind in cc))
    one_root r is p RootPage fam =
        found RootBefore (λ q. nat_le q.version r.version) (λ q. F.root q.version q.commands (places q.runs))
        (opened p) (roots_of w.elements) r safe.roots_order is.0 (le-leb _ _ (le_refl _))
        (λ y has passes before. let below : y.version ≤ r.version = leb-true _ _ passes in
        let after : r.version < y.version = before in omega arith)
        ∙ sym (here p _ _ (shape.root_only p fam))

    pub one_more : (m : Element) → IsMember S w m → (p : ℕ)
        → image S F (join X m) opened (log_of w.elements) p ≡ written (image S F X opened (log_of w.elements))
        (page_write S F m).0 (page_write S F m).1 p
    one_more (A_write x) is p = one_write x is p (S.kind p) refl
    one_more (A_superblock u) is p = one_superblock u is p (S.kind p) refl
    one_more (A_root r) is p = one_root r is p (S.kind p) refl

  -- between P and the round
  pub record Between (X : Cut) : Type 0 where
    pub low : Within w.persistent X
    pub high : Within X w.round
    pub exact : Exact S.sections (log_of w.elements) X

  pub join_between : (X : Cut) (m : Element) → IsMember S w m → Between X → Between (join X m)
  join_between X (A_write x) is b = record {
    low = record {
      writes = λ n has. (let old : X.writes n ≡ true = b.low.writes n has in
          or_true (n == x.number) (X.writes n) old);
      superblocks = b.low.superblocks;
      root = b.low.root;
    };
    high = record {
      writes = λ n has. elim (cases_eq n x.number) [
        | inl same ↦ ap w.round.writes same ∙ is.1
        | inr not ↦ b.high.writes n (or_other (n == x.number) (X.writes n) has (ne_eqb _ _ not))
      ];
      superblocks = b.high.superblocks;
      root = b.high.root;
    };
    exact = record { superblock = b.exact.superblock; superblocks = b.exact.superblocks; root = b.exact.root };
  }
    where
      or_true : (a c : Bool) → c ≡ true → (a || c) ≡ true
      or_true true c e = refl
      or_true false c e = e
  join_between X (A_superblock u) is b = record {
    low = record {
      writes = b.low.writes;
      superblocks = λ j. with_case (λ n. w.persistent.superblocks j ≤ n) X.superblocks u.section u.version j
          (λ same. let lt : w.persistent.superblocks j < u.version = subst
          (λ (i : ℕ). w.persistent.superblocks i < u.version) (sym same) is.2 in omega arith)
          (λ not. b.low.superblocks j);
      root = b.low.root;
    };
    high = record {
      writes = b.high.writes;
      superblocks = λ j. with_case (λ n. n ≤ w.round.superblocks j) X.superblocks u.section u.version j
          (λ same. le_of_eq (is.1 ∙ ap w.round.superblocks (sym same))) (λ not. b.high.superblocks j);
      root = b.high.root;
    };
    exact = record {
      superblock = λ j. if j == u.section then u else b.exact.superblock j;
      superblocks = λ j lt. elim (cases_eq j u.section) [
        | inl same ↦ let test : (j == u.section) ≡ true = eq-eqb _ _ same in rw test (is.0, sym same, refl)
        | inr not ↦ let test : (j == u.section) ≡ false = ne_eqb _ _ not in rw test (b.exact.superblocks j lt)
      ];
      root = b.exact.root;
    };
  }
  join_between X (A_root r) is b = record {
    low = record {
      writes = b.low.writes;
      superblocks = b.low.superblocks;
      root = (let lt : w.persistent.root < r.version = is.2 in omega arith);
    };
    high = record { writes = b.high.writes; superblocks = b.high.superblocks; root = le_of_eq is.1 };
    exact = record { superblock = b.exact.superblock; superblocks = b.exact.superblocks; root = (r, is.0, refl) };
  }

  pub applied_same : (a b : ℕ → Page) (vs : List (ℕ × Page)) → ((p : ℕ) → a p ≡ b p) → (p : ℕ)
      → applied a vs p ≡ applied b vs p
  applied_same a b [] same p = same p
  applied_same a b (v ∷ vs) same p = applied_same (written a v.0 v.1) (written b v.0 v.1) vs
      (λ q. ap (λ (c : Page). if q == v.0 then v.1 else c) (same q)) p

  -- what is kept makes the image of a set between
  pub kept_image : (ms : List Element) (X : Cut) → ((m : Element) → m ∈ ms → IsMember S w m) → Between X
      → (mask : List Bool)
      → (Y : Cut) × Between Y
      × ((p : ℕ) → applied (image S F X opened (log_of w.elements)) (kept_of mask (page_writes S F ms)) p
      ≡ image S F Y opened (log_of w.elements) p)
  kept_image [] X are b [] = (X, b, λ p. refl)
  kept_image [] X are b (k ∷ mask) = (X, b, λ p. refl)
  kept_image (m ∷ ms) X are b [] = (X, b, λ p. refl)
  kept_image (m ∷ ms) X are b (false ∷ mask) = kept_image ms X (λ n has. are n (inr has)) b mask
  kept_image (m ∷ ms) X are b (true ∷ mask) =
      let is : IsMember S w m = are m (inl refl) in
      let rest = kept_image ms (join X m) (λ n has. are n (inr has)) (join_between X m is b) mask in (
        rest.0,
        rest.1,
        λ p. applied_same _ _ (kept_of mask (page_writes S F ms))
            (λ q. sym (one_more X b.high m is q)) p ∙ rest.2 p,
      )
