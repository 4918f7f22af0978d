-- All writes of a round make the image of what is persistent then.
use Rattle.std.proofs.Common.{◌≡◌, inl, inr, ⊎_elim, ℕ, ◌<◌, ◌≤◌, Bool, true, false, ◌&&◌, ◌||◌, nat_le, List, [], ◌∷◌, ◌==◌, le_of_eq, le_trans, le_refl, eq-eqb, ne_eqb, true≢false, refl, sym, ap, ◌∙◌, subst, arith, subst₂}
use Rattle.std.proofs.lemmas.Bool.{cases_Bool, cases_lt, false_from_ne_true}
use Rattle.law_machine.specs.Cut.{Cut, Within, join, join_all}
use Rattle.law_machine.specs.Device.{FramePage, IsShape, Page, PageKind, RootPage, SectionPage, Shape}
use Rattle.law_machine.specs.Disk.{applied, page_writes}
use Rattle.law_machine.specs.Element.{A_root, A_superblock, A_write, Element, Opening, Superblock, Write, log_of, roots_of, superblocks_of, writes_of}
use Rattle.law_machine.specs.Formats.{Formats, image, image_at, places}
use Rattle.law_machine.specs.Lists.{latest, ◌∈◌}
use Rattle.law_machine.specs.Machine.{World}
use Rattle.law_machine.specs.Recovery.{RootGives}
use Rattle.law_machine.specs.Round.{IsMember}
use Rattle.law_machine.specs.Safe.{Safe}
use Rattle.law_machine.proofs.ClosedSets.{page_same}
use Rattle.law_machine.proofs.Parts.{with_same, grows}
use Rattle.law_machine.proofs.Rounds.{Between, join_between, applied_same, one_more}

module _ (S : Shape) (F : Formats) {opening : Opening} (shape : IsShape S) (opened : ℕ → Page) (w : World)
    (safe : Safe S (RootGives S F opening) opening.frozen opened w) where
  -- the round's writes all applied make the image of P with the round
  applied_all : (ms : List Element) (X : Cut) → ((m : Element) → m ∈ ms → IsMember S w m)
      → Between S F shape opened w safe X → (p : ℕ)
      → applied (image S F X opened (log_of w.elements)) (page_writes S F ms) p ≡ image S F (join_all X ms) opened
      (log_of w.elements) p
  applied_all [] X are b p = refl
  applied_all (m ∷ ms) X are b p =
      let is : IsMember S w m = are m (inl refl) in
      applied_same S F shape opened w safe _ _ (page_writes S F ms)
      (λ q. sym (one_more S F shape opened w safe X b.high m is q)) p
      ∙ applied_all ms (join X m) (λ n has. are n (inr has)) (join_between S F shape opened w safe X m is b) p

  joined_between : (ms : List Element) (X : Cut) → ((m : Element) → m ∈ ms → IsMember S w m)
      → Between S F shape opened w safe X
      → Between S F shape opened w safe (join_all X ms)
  joined_between [] X are b = b
  joined_between (m ∷ ms) X are b = joined_between ms (join X m) (λ n has. are n (inr has))
      (join_between S F shape opened w safe X m (are m (inl refl)) b)

  grows_by : (X : Cut) (m : Element) → IsMember S w m → Between S F shape opened w safe X → Within X (join X m)
  grows_by X (A_write x) is b = record {
    writes = λ n has. or_true (n == x.number) (X.writes n) has;
    superblocks = λ j. le_refl _;
    root = le_refl _;
  }
    where
      or_true : (a c : Bool) → c ≡ true → (a || c) ≡ true
      or_true true c e = refl
      or_true false c e = e
  grows_by X (A_superblock u) is b = record {
    writes = λ n has. has;
    root = le_refl _;
    superblocks = λ j. grows X.superblocks u.section u.version j
        (le_trans (b.high.superblocks u.section) (le_of_eq (sym is.1)));
  }
  grows_by X (A_root r) is b = record {
    writes = λ n has. has;
    superblocks = λ j. le_refl _;
    root = le_trans b.high.root (le_of_eq (sym is.1));
  }

  grows_all : (ms : List Element) (X : Cut) → ((m : Element) → m ∈ ms → IsMember S w m)
      → Between S F shape opened w safe X
      → Within X (join_all X ms)
  grows_all [] X are b = record { writes = λ n has. has; superblocks = λ j. le_refl _; root = le_refl _ }
  grows_all (m ∷ ms) X are b =
      let is : IsMember S w m = are m (inl refl) in
      let one = grows_by X m is b in
      let rest = grows_all ms (join X m) (λ n has. are n (inr has)) (join_between S F shape opened w safe X m is b) in
      record {
        writes = λ n has. rest.writes n (one.writes n has);
        superblocks = λ j. le_trans (one.superblocks j) (rest.superblocks j);
        root = le_trans one.root rest.root;
      }

  Has : Cut → Element → Type 0
  Has X (A_write x) = X.writes x.number ≡ true
  Has X (A_superblock u) = u.version ≤ X.superblocks u.section
  Has X (A_root r) = r.version ≤ X.root

  has_it : (X : Cut) (m : Element) → Has (join X m) m
  unfolding Has
  has_it X (A_write x) = let same : (x.number == x.number) ≡ true = eq-eqb _ _ refl in rw same
  has_it X (A_superblock u) = le_of_eq (sym (with_same X.superblocks u.section u.version u.section refl))
  has_it X (A_root r) = le_refl _

  has_more : (X Y : Cut) (m : Element) → Within X Y → Has X m → Has Y m
  unfolding Has
  has_more X Y (A_write x) more has = more.writes _ has
  has_more X Y (A_superblock u) more has = le_trans has (more.superblocks u.section)
  has_more X Y (A_root r) more has = le_trans has more.root

  has_all : (ms : List Element) (X : Cut) → ((m : Element) → m ∈ ms → IsMember S w m)
      → Between S F shape opened w safe X → (m : Element)
      → m ∈ ms → Has (join_all X ms) m
  has_all [] X are b m none = absurd none
  has_all (n ∷ ms) X are b m (inl is) = subst (λ (x : Element). Has (join_all (join X n) ms) x) (sym is)
      (has_more (join X n) (join_all (join X n) ms) n
      (grows_all ms (join X n) (λ k has. are k (inr has))
      (join_between S F shape opened w safe X n (are n (inl refl)) b)) (has_it X n))
  has_all (n ∷ ms) X are b m (inr has) = has_all ms (join X n) (λ k h. are k (inr h))
      (join_between S F shape opened w safe X n (are n (inl refl)) b) m has

  module _ (ms : List Element) (are : (m : Element) → m ∈ ms → IsMember S w m)
      (complete : (m : Element) → IsMember S w m → m ∈ ms) where
    P : Cut
    P = w.persistent

    R : Cut
    R = w.round

    Y : Cut
    Y = join_all P ms

    start : Between S F shape opened w safe w.persistent
    start = record {
      low = record { writes = λ n has. has; superblocks = λ j. le_refl _; root = le_refl _ };
      high = safe.within;
      exact = safe.exact;
    }

    end : Between S F shape opened w safe Y
    unfolding Y P
    end = joined_between ms w.persistent are start

    has_member : (m : Element) → IsMember S w m → Has Y m
    unfolding Y P
    has_member m is = has_all ms w.persistent are start m (complete m is)

    writes_all : (x : Write) → x ∈ writes_of w.elements → Y.writes x.number ≡ R.writes x.number
    unfolding R Has
    writes_all x has = elim (cases_Bool (w.round.writes x.number)) [
      | inl in_R ↦ (elim (cases_Bool (w.persistent.writes x.number)) [
        | inl in_P ↦ end.low.writes x.number in_P
        | inr not ↦ has_member (A_write x) (has, in_R, not)
      ]) ∙ sym in_R
      | inr not ↦ false_from_ne_true (Y.writes x.number)
          (λ in_Y. true≢false (sym (end.high.writes x.number in_Y) ∙ not)) ∙ sym not
    ]

    superblocks_all : (j : ℕ) → j < S.sections → Y.superblocks j ≡ R.superblocks j
    unfolding R Has
    superblocks_all j lt =
        let u = safe.round_exact.superblock j in
        let is = safe.round_exact.superblocks j lt in
        let high : Y.superblocks j ≤ w.round.superblocks j = end.high.superblocks j in
        let low : w.persistent.superblocks j ≤ Y.superblocks j = end.low.superblocks j in
        ⊎_elim
        (λ (new : w.persistent.superblocks j < w.round.superblocks j).
        let member : u.version ≤ Y.superblocks u.section = has_member (A_superblock u) (
          is.0,
          is.2 ∙ ap w.round.superblocks (sym is.1),
          subst₂ (λ (i v : ℕ). w.persistent.superblocks i < v) (sym is.1) (sym is.2) new,
        ) in
        let there : w.round.superblocks j ≤ Y.superblocks j = subst₂
        (λ (i v : ℕ). v ≤ Y.superblocks i) is.1 is.2 member in omega arith)
        (λ (old : w.round.superblocks j ≤ w.persistent.superblocks j). omega arith)
        (cases_lt (w.persistent.superblocks j) (w.round.superblocks j))

    root_all : Y.root ≡ R.root
    unfolding R Has
    root_all =
        let r = safe.round_exact.root in
        let high : Y.root ≤ w.round.root = end.high.root in
        let low : w.persistent.root ≤ Y.root = end.low.root in
        ⊎_elim
        (λ (new : w.persistent.root < w.round.root).
        let member : r.0.version ≤ Y.root = has_member (A_root r.0)
        (r.1, r.2, subst (λ (v : ℕ). w.persistent.root < v) (sym r.2) new) in
        let e : r.0.version ≡ w.round.root = r.2 in omega arith)
        (λ (old : w.round.root ≤ w.persistent.root). omega arith)
        (cases_lt w.persistent.root w.round.root)

    beyond : (j n m : ℕ) (base : Page) → S.sections ≤ j → (us : List Superblock)
        → ((u : Superblock) → u ∈ us → u.section < S.sections)
        → latest (λ v. (v.section == j) && nat_le v.version n)
        (λ v. F.superblock v.format j v.version v.recorded v.pointers v.generations) base us
        ≡ latest (λ v. (v.section == j) && nat_le v.version m)
        (λ v. F.superblock v.format j v.version v.recorded v.pointers v.generations) base us
    beyond j n m base out [] there = refl
    beyond j n m base out (u ∷ us) there = let test : (u.section == j) ≡ false = ne_eqb _ _
        (λ is. let lt : u.section < S.sections = there u (inl refl) in omega arith) in
        rw test (beyond j n m base out us (λ v has. there v (inr has)))

    same_image : (p : ℕ) (f : PageKind)
        → image_at S F f Y opened (log_of w.elements) p ≡ image_at S F f R opened (log_of w.elements) p
    same_image p FramePage = page_same Y R opened (writes_of w.elements) p (λ x has at. writes_all x has)
    same_image p (SectionPage j) = ⊎_elim
        (λ (lt : j < S.sections). ap
        (λ (n : ℕ). latest (λ v. (v.section == j) && nat_le v.version n)
        (λ v. F.superblock v.format j v.version v.recorded v.pointers v.generations) (opened p)
        (superblocks_of w.elements)) (superblocks_all j lt))
        (λ (out : S.sections ≤ j). beyond j (Y.superblocks j) (R.superblocks j) (opened p) out
        (superblocks_of w.elements) safe.sections_there)
        (cases_lt j S.sections)
    same_image p RootPage = ap
        (λ (n : ℕ). latest (λ q. nat_le q.version n) (λ q. F.root q.version q.commands (places q.runs)) (opened p)
        (roots_of w.elements)) root_all

    pub whole_round : (p : ℕ)
        → applied (image S F w.persistent opened (log_of w.elements)) (page_writes S F ms) p
        ≡ image S F w.round opened (log_of w.elements) p
    unfolding Y P R
    whole_round p = applied_all ms w.persistent are start p ∙ same_image p (S.kind p)
