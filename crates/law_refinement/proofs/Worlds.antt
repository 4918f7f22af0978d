-- What was staged in the world was staged in the graph, move by move.
use Rattle.std.proofs.Common.{◌≡◌, ◌⊎◌, ◌↔◌, inl, inr, ⊎_elim, ℕ, suc, ◌+◌, ◌<◌, ◌≤◌, Bool, true, false, if◌then◌else◌, List, [], ◌∷◌, ◌++◌, length, set, Some, get_or, slice_get, append_assoc}
use Rattle.std.proofs.Common.{append-nil, length-set, get_or-set_same, get_or-set_other, le_of_eq, leb-true}
use Rattle.std.proofs.Common.{le_trans, le_refl, refl, sym, ap, ◌∙◌, subst, arith}
use Rattle.std.proofs.lemmas.Bool.{cases_Bool, cases_eq, cases_lt}
use Rattle.std.proofs.lemmas.Option.{same_Some}
use Rattle.cs_deps.specs.declared.elements.Element.{Element as Name}
use Rattle.cs_deps.specs.declared.elements.Element.TheVariants.{Plain, Version}
use Rattle.cs_deps.specs.Named.{Named, Names}
use Rattle.cs_deps.specs.Staging.{Staging, staged_after}
use Rattle.law_machine.specs.Append.{stage_pages}
use Rattle.law_machine.specs.Cut.{Closed, Cut, satisfied, section_of}
use Rattle.law_machine.specs.Device.{IsShape, Page, Shape}
use Rattle.law_machine.specs.Element.{A_root, A_superblock, A_write, Element, Superblock, Write, log_of, superblocks_of, writes_of}
use Rattle.law_machine.specs.Extents.{Extents}
use Rattle.law_machine.specs.Lists.{◌∈◌, with}
use Rattle.law_machine.specs.Machine.{StagePage, StageSuperblock, World, happens, superblock_now, write_now}
use Rattle.law_machine.proofs.Parts.{grows, with_other, with_same}
use Rattle.law_machine.proofs.Waiting.{listed, superblock_in}
use Rattle.cs_extent.specs.Frames.{IsSectionNeed, IsSectionStaged, IsVersionUpTo, family_of, root_family}
use Rattle.law_refinement.specs.Bridge.{IsPendingOf, MayLeaveOut, NeedsName, waiting_in}
use Rattle.law_refinement.specs.Stores.{IsRecorded, IsStagingOf}
use Rattle.law_refinement.proofs.Places.{At, family_below, from_waiting, match_at, match_in, not_one, one_family, to_waiting}
use Rattle.law_refinement.proofs.Stagings.{page_staged, version_staged}

-- stagings with the same fields
pub same_staging : (s : Staging) (ps : List ℕ) (ws : List (Name × Named)) (n : ℕ) (ls : List ℕ) → s.pending.persistent ≡ ps → s.pending.waiting ≡ ws → s.staged ≡ n → s.latest ≡ ls
    → s ≡ record { pending = record { persistent = ps; waiting = ws }; staged = n; latest = ls }
same_staging s ps ws n ls a b c d = λ j. record { pending = record { persistent = a j; waiting = b j }; staged = c j; latest = d j }

-- the fields of what only other moves change
pub moved : (S : Shape) (need : ℕ → ℕ) (w : World) (s : Staging) (x : Extents) (R : Cut) → IsStagingOf S need w s → IsStagingOf S need (record w { extents = x; round = R }) s
moved S need w s x R is = record {
  pending = record { families = is.pending.families; root = is.pending.root; sections = is.pending.sections; waiting = is.pending.waiting };
  written = is.written;
  families = is.families;
  sections = is.sections;
  root = is.root;
  closed = is.closed;
  persistent = record { writes = is.persistent.writes; superblocks = is.persistent.superblocks; root = is.persistent.root };
  numbers = is.numbers;
  superblocks = is.superblocks;
  roots = is.roots;
}

-- versions of sections that may need more of the root
pub more_needed : (S : Shape) (need more : ℕ → ℕ) (w : World) (s : Staging) → ((j : ℕ) → need j ≤ more j) → IsStagingOf S need w s → IsStagingOf S more w s
more_needed S need more w s le is = record {
  pending = is.pending;
  written = is.written;
  families = is.families;
  sections = is.sections;
  root = is.root;
  persistent = is.persistent;
  closed = is.closed;
  numbers = is.numbers;
  superblocks = λ u has. (let old = is.superblocks u has in (old.0, old.1, old.2, le_trans old.3 (le u.section), old.4));
  roots = is.roots;
}

module _ (S : Shape) (need : ℕ → ℕ) where
  -- one page
  module _ (w : World) (s : Staging) (is : IsStagingOf S need w s) where
    page_needs : (x : Write) (root : ℕ) → x.root ≡ root → (d : Named) → ((z : Name) → Names d z ↔ IsVersionUpTo root_family root z) → (z : Name) → Names d z ↔ NeedsName S (A_write x ∷ w.elements) (A_write x) z
    page_needs x root same d names (Plain n) = names (Plain n)
    page_needs x root same d names (Version f v) = subst (λ (r : ℕ). Names d (Version f v) ↔ IsVersionUpTo root_family r (Version f v)) (sym same) (names (Version f v))

    more_numbers : (x : Write) → x.number ≡ suc w.written → (n : ℕ) → ((1 ≤ n) × (n ≤ suc w.written)) ↔ ((a : Write) × (a ∈ (x ∷ writes_of w.elements)) × (a.number ≡ n))
    more_numbers x new n = (
      (λ low. elim (cases_eq n (suc w.written)) [
        | inl here ↦ (x, inl refl, new ∙ sym here)
        | inr other ↦ (let old = (is.numbers n).0 (low.0, (let le : n ≤ suc w.written = low.1 in omega arith)) in (old.0, inr old.1, old.2))
      ]),
      (λ from. ⊎_elim
          (λ (here : from.0 ≡ x). (let e : from.0.number ≡ suc w.written = ap (λ (a : Write). a.number) here ∙ new in let f : from.0.number ≡ n = from.2 in (omega arith, omega arith)))
          (λ (old : from.0 ∈ writes_of w.elements). (let low = (is.numbers n).1 (from.0, old, from.2) in (low.0, (let le : n ≤ w.written = low.1 in omega arith))))
          from.1),
    )

    -- nothing that is persistent needs it, and it isn't persistent
    closed_still : (x : Write) → x.number ≡ suc w.written → Closed S (log_of (A_write x ∷ w.elements)) w.persistent
    closed_still x new = record {
      write_root = λ y has met. ⊎_elim
          (λ (here : y ≡ x). absurd (
          let low : y.number ≤ w.written = is.persistent.writes y.number met in
          let number : y.number ≡ suc w.written = ap (λ (a : Write). a.number) here ∙ new in omega arith))
          (λ (old : y ∈ writes_of w.elements). is.closed.write_root y old met)
          has;
      superblock_root = λ u has met. is.closed.superblock_root u has met;
      superblock_writes = λ u y has has_y met sec bound. ⊎_elim
          (λ (here : y ≡ x). absurd (
          let low : y.number ≤ u.writes = bound in
          let staged : u.writes ≤ w.written = (is.superblocks u has).2 in
          let number : y.number ≡ suc w.written = ap (λ (a : Write). a.number) here ∙ new in omega arith))
          (λ (old : y ∈ writes_of w.elements). is.closed.superblock_writes u y has old met sec bound)
          has_y;
      root_superblocks = λ r has met. is.closed.root_superblocks r has met;
      root_writes = λ r y has has_y met bound. ⊎_elim
          (λ (here : y ≡ x). absurd (
          let low : y.number ≤ r.pages = bound in
          let staged : r.pages ≤ w.written = (is.roots r has).2 in
          let number : y.number ≡ suc w.written = ap (λ (a : Write). a.number) here ∙ new in omega arith))
          (λ (old : y ∈ writes_of w.elements). is.closed.root_writes r y has old met bound)
          has_y;
    }

    pub page_step : (p root : ℕ) (b : Page) (d : Named) → w.extents.reset (S.extent p) ≡ root → ((z : Name) → Names d z ↔ IsVersionUpTo root_family root z)
        → IsStagingOf S need (happens S w (StagePage p b)) (record { pending = staged_after s.pending (Plain (suc s.staged)) d; staged = suc s.staged; latest = s.latest })
    page_step p root b d same names = record {
      pending = subst (λ (n : ℕ). IsPendingOf S (happens S w (StagePage p b)) (staged_after s.pending (Plain (suc n)) d)) is.written
          (page_staged S w s.pending is.persistent (λ u has. (is.superblocks u has).2) (λ r has. (is.roots r has).2) is.pending p b d (page_needs (write_now S w p b) root same d names));
      written = ap suc is.written;
      families = is.families;
      sections = is.sections;
      root = is.root;
      persistent = record { writes = λ n has. (let le : n ≤ w.written = is.persistent.writes n has in omega arith); superblocks = is.persistent.superblocks; root = is.persistent.root };
      closed = closed_still (write_now S w p b) refl;
      numbers = more_numbers (write_now S w p b) refl;
      superblocks = λ u has. (let old = is.superblocks u has in (old.0, old.1, (let le : u.writes ≤ w.written = old.2 in omega arith), old.3, old.4));
      roots = λ r has. (let old = is.roots r has in (old.0, old.1, (let le : r.pages ≤ w.written = old.2 in omega arith), old.3));
    }

  -- the pages of a frame
  module _ (shape : IsShape S) where
    pub pages_step : (root e : ℕ) (bs : List Page) (rows : List (Name × Named)) (i : ℕ) (w : World) (s : Staging) → e < S.extents → i + length bs ≤ S.pages → w.extents.reset e ≡ root → length rows ≡ length bs
        → ((k : ℕ) → k < length bs → (d : Named) × (slice_get rows k ≡ Some (Plain (s.staged + 1 + k), d)) × ((x : Name) → Names d x ↔ IsVersionUpTo root_family root x))
        → IsStagingOf S need w s
        → IsStagingOf S need (stage_pages S w e i bs) (record { pending = record { persistent = s.pending.persistent; waiting = s.pending.waiting ++ rows }; staged = s.staged + length bs; latest = s.latest })
    pages_step root e [] [] i w s exists fits reset size each is =
        subst (λ (t : Staging). IsStagingOf S need w t)
        (same_staging s s.pending.persistent (s.pending.waiting ++ []) (s.staged + 0) s.latest refl (sym (append-nil s.pending.waiting)) (let n : s.staged ≡ s.staged + 0 = omega arith in n) refl) is
    pages_step root e [] (y ∷ rows) i w s exists fits reset size each is = absurd (let n : suc (length rows) ≡ 0 = size in omega arith)
    pages_step root e (b ∷ bs) [] i w s exists fits reset size each is = absurd (let n : 0 ≡ suc (length bs) = size in omega arith)
    pages_step root e (b ∷ bs) (y ∷ rows) i w s exists fits reset size each is =
        subst (λ (t : Staging). IsStagingOf S need (stage_pages S (happens S w (StagePage (S.address e i) b)) e (suc i) bs) t)
        (λ j. record { pending = record { persistent = s.pending.persistent; waiting = rows_are j }; staged = count j; latest = s.latest })
        (pages_step root e bs rows (suc i) (happens S w (StagePage (S.address e i) b)) next exists (omega arith) reset (let n : suc (length rows) ≡ suc (length bs) = size in omega arith) later
        (page_step w s is (S.address e i) root b (each 0 (omega arith)).0 (ap w.extents.reset (shape.extent e i (exists, omega arith)) ∙ reset) (each 0 (omega arith)).2))
      where
        first : (d : Named) × (Some y ≡ Some (Plain (s.staged + 1 + 0), d)) × ((x : Name) → Names d x ↔ IsVersionUpTo root_family root x)
        first = each 0 (omega arith)

        next : Staging
        next = record { pending = staged_after s.pending (Plain (suc s.staged)) (each 0 (omega arith)).0; staged = suc s.staged; latest = s.latest }

        is_first : (Plain (suc s.staged), first.0) ≡ y
        is_first = ap (λ (n : ℕ). (Plain n, first.0)) (let n : suc s.staged ≡ s.staged + 1 + 0 = omega arith in n) ∙ sym (same_Some y (Plain (s.staged + 1 + 0), first.0) first.1)

        rows_are : (s.pending.waiting ++ (Plain (suc s.staged), first.0) ∷ []) ++ rows ≡ s.pending.waiting ++ y ∷ rows
        rows_are = append_assoc s.pending.waiting ((Plain (suc s.staged), first.0) ∷ []) rows ∙ ap (λ (r : Name × Named). s.pending.waiting ++ r ∷ rows) is_first

        count : suc s.staged + length bs ≡ s.staged + suc (length bs)
        count = omega arith

        later : (k : ℕ) → k < length bs → (d : Named) × (slice_get rows k ≡ Some (Plain (suc s.staged + 1 + k), d)) × ((x : Name) → Names d x ↔ IsVersionUpTo root_family root x)
        later k lt = let row = each (suc k) (omega arith) in
            (row.0, subst (λ (n : ℕ). slice_get rows k ≡ Some (Plain n, row.0)) (let n : s.staged + 1 + suc k ≡ suc s.staged + 1 + k = omega arith in n) row.1, row.2)

  -- what a waiting version of a section needs
  module _ (w : World) (s : Staging) (is : IsStagingOf S need w s) where
    of_section : (j v : ℕ) (d : Named) (m : Element) → m ∈ w.elements → At S w.persistent w.elements m (Version (family_of j) v) d
        → (u : Superblock) × (u ∈ superblocks_of w.elements) × (u.section ≡ j) × ((z : Name) → Names d z → NeedsName S w.elements (A_superblock u) z)
    of_section j v d (A_write x) has at = absurd (let e : Version (family_of j) v ≡ Plain x.number = at.0 in cc)
    of_section j v d (A_root r) has at = absurd (not_one j (let e : Version (family_of j) v ≡ Version 1 r.version = at.0 in cc))
    of_section j v d (A_superblock u) has at =
        let f : family_of u.section ≡ family_of j = (let e : Version (family_of j) v ≡ Version (family_of u.section) u.version = at.0 in cc) in
        (u, listed w.elements (A_superblock u) has, one_family u.section j f, (λ z names. at.1.only z names))

    -- it is a version of the world, and needs no more than that
    pub waiting_version : (j k v : ℕ) (d : Named) → slice_get s.pending.waiting k ≡ Some (Version (family_of j) v, d)
        → (u : Superblock) × (u ∈ superblocks_of w.elements) × (u.section ≡ j) × ((z : Name) → Names d z → NeedsName S w.elements (A_superblock u) z)
    waiting_version j k v d at =
        let from = match_at S w.persistent w.elements (waiting_in w.persistent w.elements) s.pending.waiting k (Version (family_of j) v) d is.pending.waiting at in
        of_section j v d from.0 (from_waiting w.persistent w.elements from.0 from.1).0 from.2

    within : (j : ℕ) (u : Superblock) → u ∈ superblocks_of w.elements → u.section ≡ j → (z : Name) → NeedsName S w.elements (A_superblock u) z → IsSectionNeed 1 s.staged (need j) z
    within j u has same (Plain n) needs = let low = (is.numbers n).1 (needs.0, needs.1, needs.4) in (low.0, le_trans low.1 (le_of_eq is.written))
    within j u has same (Version f v) needs = (needs.0, needs.1, le_trans needs.2 (subst (λ (i : ℕ). u.root ≤ need i) same (is.superblocks u has).3))

    pub needs_within : (j k v : ℕ) (d : Named) (z : Name) → slice_get s.pending.waiting k ≡ Some (Version (family_of j) v, d) → Names d z → IsSectionNeed 1 s.staged (need j) z
    needs_within j k v d z at names = let u = waiting_version j k v d at in within j u.0 u.1 u.2 z (u.3 z names)

  -- A version of section j. Where page writes come first, it needs of its own the plain writes from `first` on, all on extents of its
  -- section, and an older one of them is needed by the version before. Where not, there are none from `first` on.
  module _ (w : World) (s : Staging) (is : IsStagingOf S need w s) (j : ℕ) (there : j < S.sections) (first : ℕ) (some : 1 ≤ first)
      (own : S.pages_first ≡ true → (x : Write) → x ∈ writes_of w.elements → first ≤ x.number → section_of S x.page ≡ j)
      (older : S.pages_first ≡ true → (x : Write) → x ∈ writes_of w.elements → x.number < first → section_of S x.page ≡ j → (1 < S.sections) × IsRecorded S w x)
      (past : S.pages_first ≡ false → s.staged < first)
      (new : Staging) (staged : IsSectionStaged s new j first (need j)) where
    abbrev it : Superblock
    it = superblock_now S w j (need j)

    abbrev more : List Element
    more = A_superblock it ∷ w.elements

    abbrev latest : ℕ
    latest = get_or s.latest (family_of j) 0

    all_needed : S.pages_first ≡ true → it.writes ≡ w.written
    all_needed rule = ap (λ (b : Bool). if b then w.written else 0) rule

    none_needed : S.pages_first ≡ false → it.writes ≡ 0
    none_needed rule = ap (λ (b : Bool). if b then w.written else 0) rule

    staged_needed : it.writes ≤ w.written
    staged_needed = elim (cases_Bool S.pages_first) [
      | inl rule ↦ le_of_eq (all_needed rule)
      | inr rule ↦ le_trans (le_of_eq (none_needed rule)) (omega arith)
    ]

    -- plain writes are numbered from 1 on
    not_below : (x : Write) (n : ℕ) → x ∈ writes_of w.elements → x.number ≤ n → n ≡ 0 → ⊥
    not_below x n has bound none = let low : 1 ≤ x.number = ((is.numbers x.number).1 (x, has, refl)).0 in omega arith

    of_own : (z : Name) → IsSectionNeed first s.staged (need j) z → NeedsName S more (A_superblock it) z
    of_own (Version f v) h = (h.0, h.1, h.2)
    of_own (Plain n) h = elim (cases_Bool S.pages_first) [
      | inl rule ↦
          (let from = (is.numbers n).0 (le_trans some h.0, le_trans h.1 (le_of_eq (sym is.written))) in
          (from.0, from.1, own rule from.0 from.1 (le_trans h.0 (le_of_eq (sym from.2))), le_trans (le_of_eq from.2) (le_trans h.1 (le_of_eq (sym is.written ∙ sym (all_needed rule)))), from.2))
      | inr rule ↦ absurd (let low : first ≤ n = h.0 in let high : n ≤ s.staged = h.1 in let none : s.staged < first = past rule in omega arith)
    ]

    of_before : (u : Superblock) → u ∈ superblocks_of w.elements → u.section ≡ j → (z : Name) → NeedsName S w.elements (A_superblock u) z → NeedsName S more (A_superblock it) z
    of_before u has same (Plain n) needs = elim (cases_Bool S.pages_first) [
      | inl rule ↦ (needs.0, needs.1, needs.2 ∙ same, le_trans needs.3 (le_trans (is.superblocks u has).2 (le_of_eq (sym (all_needed rule)))), needs.4)
      | inr rule ↦ absurd (not_below needs.0 u.writes needs.1 needs.3 ((is.superblocks u has).4 rule))
    ]
    of_before u has same (Version f v) needs = (needs.0, needs.1, le_trans needs.2 (subst (λ (i : ℕ). u.root ≤ need i) same (is.superblocks u has).3))

    needs_only : (z : Name) → Names staged.version.1 z → NeedsName S more (A_superblock it) z
    needs_only z h = ⊎_elim
        (λ (given : Names staged.needs z). of_own z ((staged.names z).0 given))
        (λ (before : (k : ℕ) × (d : Named) × (slice_get s.pending.waiting k ≡ Some (Version (family_of j) staged.version.0, d)) × Names d z).
        let u = waiting_version w s is j before.0 staged.version.0 before.1 before.2 in
        of_before u.0 u.1 u.2 z (u.3 z before.3))
        ((staged.version.4 z).0 h)

    -- what it names itself
    own_named : (z : Name) → IsSectionNeed first s.staged (need j) z → Names staged.version.1 z
    own_named z h = (staged.version.4 z).1 (inl ((staged.names z).1 h))

    last_is : (q : Superblock) → q.section ≡ j → q.version ≡ w.superblocks q.section → Version (family_of q.section) q.version ≡ Version (family_of j) staged.version.0
    last_is q same last = ap (λ (i : ℕ). Version (family_of i) q.version) same
        ∙ ap (Version (family_of j)) (last ∙ ap w.superblocks same ∙ is.sections j there ∙ sym staged.version.2)

    -- what the version before needs is named by it where it waits, or is persistent
    by_last : (x : Write) (q : Superblock) → x ∈ writes_of w.elements → q ∈ superblocks_of w.elements → section_of S x.page ≡ q.section → q.section ≡ j
        → q.version ≡ w.superblocks q.section → x.number ≤ q.writes → 1 < S.sections → (b : Bool) → satisfied w.persistent (A_superblock q) ≡ b
        → Names staged.version.1 (Plain x.number) ⊎ MayLeaveOut S w.persistent (A_superblock it) (Plain x.number)
    by_last x q has has_q sec same last bound several true met = inr (several, is.closed.superblock_writes q x has_q has (leb-true _ _ met) sec bound)
    by_last x q has has_q sec same last bound several false waits =
        let at = match_in S w.persistent w.elements (waiting_in w.persistent w.elements) s.pending.waiting (A_superblock q) is.pending.waiting
        (to_waiting w.persistent w.elements (A_superblock q) (superblock_in w.elements q has_q) waits) in
        ⊎_elim
        (λ (names : Names at.1 (Plain x.number)). inl ((staged.version.4 (Plain x.number)).1 (inr (at.0, at.1, at.2 ∙ ap (λ (y : Name). Some (y, at.1)) (last_is q same last), names))))
        (λ (out : MayLeaveOut S w.persistent (A_superblock q) (Plain x.number)). inr (out.0, out.1))
        (at.3.1.all (Plain x.number) (x, has, sec, bound, refl))

    older_one : S.pages_first ≡ true → (x : Write) → x ∈ writes_of w.elements → section_of S x.page ≡ j → (1 < S.sections) × IsRecorded S w x
        → Names staged.version.1 (Plain x.number) ⊎ MayLeaveOut S w.persistent (A_superblock it) (Plain x.number)
    older_one rule x has sec (several, (q, has_q, same, last, bound)) =
        by_last x q has has_q (sym same) (same ∙ sec) last (bound rule) several (satisfied w.persistent (A_superblock q)) refl

    needs_all : (z : Name) → NeedsName S more (A_superblock it) z → Names staged.version.1 z ⊎ MayLeaveOut S w.persistent (A_superblock it) z
    needs_all (Version f v) needs = inl (own_named (Version f v) (needs.0, needs.1, needs.2))
    needs_all (Plain n) needs = subst (λ (i : ℕ). Names staged.version.1 (Plain i) ⊎ MayLeaveOut S w.persistent (A_superblock it) (Plain i)) needs.4
        (elim (cases_Bool S.pages_first) [
          | inl rule ↦ ⊎_elim
              (λ (old : needs.0.number < first). older_one rule needs.0 needs.1 needs.2 (older rule needs.0 needs.1 old needs.2))
              (λ (late : first ≤ needs.0.number). inl (own_named (Plain needs.0.number) (late, le_trans needs.3 (le_of_eq (all_needed rule ∙ is.written)))))
              (cases_lt needs.0.number first)
          | inr rule ↦ absurd (not_below needs.0 it.writes needs.1 needs.3 (none_needed rule))
        ])

    next_is : suc (w.superblocks j) ≡ latest + 1
    next_is = let e : w.superblocks j ≡ get_or s.latest (family_of j) 0 = is.sections j there in omega arith

    inside : family_of j < length s.latest
    inside = le_trans (family_below j S.sections there) (le_of_eq (sym is.families))

    sections_after : (i : ℕ) → i < S.sections → with w.superblocks j (suc (w.superblocks j)) i ≡ get_or (set s.latest (family_of j) (latest + 1)) (family_of i) 0
    sections_after i lt = elim (cases_eq i j) [
      | inl here ↦ with_same w.superblocks j (suc (w.superblocks j)) i here ∙ next_is ∙ sym (get_or-set_same s.latest (family_of j) (latest + 1) 0 inside)
          ∙ ap (λ (k : ℕ). get_or (set s.latest (family_of j) (latest + 1)) (family_of k) 0) (sym here)
      | inr other ↦ with_other w.superblocks j (suc (w.superblocks j)) i other ∙ is.sections i lt
          ∙ sym (get_or-set_other s.latest (family_of j) (family_of i) (latest + 1) 0 (λ same. other (one_family i j same)))
    ]

    -- it isn't persistent
    not_yet : (u : Superblock) → u ≡ it → u.version ≤ w.persistent.superblocks u.section → ⊥
    not_yet u here met =
        let low : suc (w.superblocks j) ≤ w.persistent.superblocks j = subst (λ (v : Superblock). v.version ≤ w.persistent.superblocks v.section) here met in
        let high : w.persistent.superblocks j ≤ w.superblocks j = is.persistent.superblocks j in omega arith

    closed_on : Closed S (log_of more) w.persistent
    closed_on = record {
      write_root = λ x has met. is.closed.write_root x has met;
      superblock_root = λ u has met. ⊎_elim
          (λ (here : u ≡ it). absurd (not_yet u here met))
          (λ (old : u ∈ superblocks_of w.elements). is.closed.superblock_root u old met)
          has;
      superblock_writes = λ u x has has_x met sec bound. ⊎_elim
          (λ (here : u ≡ it). absurd (not_yet u here met))
          (λ (old : u ∈ superblocks_of w.elements). is.closed.superblock_writes u x old has_x met sec bound)
          has;
      root_superblocks = λ r has met. is.closed.root_superblocks r has met;
      root_writes = λ r x has has_x met bound. is.closed.root_writes r x has has_x met bound;
    }

    rises : (i : ℕ) → w.superblocks i ≤ with w.superblocks j (suc (w.superblocks j)) i
    rises i = grows w.superblocks j (suc (w.superblocks j)) i (omega arith)

    pub section_step : IsStagingOf S need (happens S w (StageSuperblock j (need j))) new
    section_step = subst (λ (t : Staging). IsStagingOf S need (happens S w (StageSuperblock j (need j))) t) (sym staged.version.5) (record {
      pending = subst (λ (v : ℕ). IsPendingOf S (happens S w (StageSuperblock j (need j))) (staged_after s.pending (Version (family_of j) v) staged.version.1)) next_is
          (version_staged S w s.pending is.persistent (λ u has. (is.superblocks u has).2) (λ r has. (is.roots r has).2) is.pending it staged.version.1 (happens S w (StageSuperblock j (need j))) refl refl refl
          (record { only = needs_only; all = needs_all }));
      written = is.written;
      families = length-set s.latest (family_of j) (latest + 1) ∙ is.families;
      sections = sections_after;
      root = is.root ∙ sym (get_or-set_other s.latest (family_of j) root_family (latest + 1) 0 (λ same. not_one j (sym same)));
      persistent = record { writes = is.persistent.writes; superblocks = λ i. le_trans (is.persistent.superblocks i) (rises i); root = is.persistent.root };
      closed = closed_on;
      numbers = is.numbers;
      superblocks = λ u has. ⊎_elim
          (λ (here : u ≡ it). subst
          (λ (v : Superblock). (v.section < S.sections) × (v.version ≤ with w.superblocks j (suc (w.superblocks j)) v.section) × (v.writes ≤ w.written) × (v.root ≤ need v.section)
          × (S.pages_first ≡ false → v.writes ≡ 0))
          (sym here) (there, le_of_eq (sym (with_same w.superblocks j (suc (w.superblocks j)) j refl)), staged_needed, le_refl _, none_needed))
          (λ (old : u ∈ superblocks_of w.elements). (let from = is.superblocks u old in (from.0, le_trans from.1 (rises u.section), from.2, from.3, from.4)))
          has;
      roots = λ r has. (let old = is.roots r has in (old.0, (λ i. le_trans (old.1 i) (rises i)), old.2, old.3));
    })
