-- A root that is staged in the graph is the machine's root.
use Rattle.std.proofs.Common.{◌≡◌, ◌↔◌, inl, inr, ⊎_elim, ℕ, suc, ◌+◌, ◌<◌, ◌≤◌, Bool, true, List, ◌∷◌, Some, get_or, length, length-set, get_or-set_same, get_or-set_other}
use Rattle.std.proofs.Common.{le_of_eq, le_trans, le_refl, refl, sym, ap, ◌∙◌, subst, arith}
use Rattle.std.specs.Prelude.{slice_get}
use Rattle.std.proofs.lemmas.Bool.{cases_Bool}
use Rattle.std.proofs.lemmas.Option.{same_Some}
use Rattle.cs_deps.specs.declared.elements.Element.{Element as Name}
use Rattle.cs_deps.specs.declared.elements.Element.TheVariants.{Plain, Version}
use Rattle.cs_deps.specs.Named.{Named, Names}
use Rattle.cs_deps.specs.Staging.{IsVersionStaged, Staging, staged_after}
use Rattle.cs_deps.specs.State.{AddsOnly, State as GraphState, write_of}
use Rattle.law_machine.specs.Cut.{Closed}
use Rattle.law_machine.specs.Device.{Shape}
use Rattle.law_machine.specs.Disk.{page_write}
use Rattle.law_machine.specs.Element.{A_root, A_superblock, A_write, Element, Map, Root, Run, log_of, roots_of}
use Rattle.law_machine.specs.Lists.{◌∈◌}
use Rattle.law_machine.specs.Machine.{StageRoot, World, happens, root_now}
use Rattle.law_machine.proofs.Waiting.{listed}
use Rattle.cs_frame.specs.Formats.{formats_of}
use Rattle.cs_extent.specs.Frames.{IsRootNeed, family_of, root_family, root_pages}
use Rattle.cs_extent.specs.State.{State, need_of, shape}
use Rattle.law_refinement.specs.Bridge.{IsPendingOf, NeedsName, name, waiting_in}
use Rattle.law_refinement.specs.Stores.{AreWritesOf, IsStagingOf, IsWorldOf}
use Rattle.law_refinement.proofs.Places.{At, from_waiting, match_at, not_one, section_of_family, some_at}
use Rattle.law_refinement.proofs.Stagings.{root_staged}

module _ (S : Shape) (some : 0 < S.sections) (need : ℕ → ℕ) (w : World) (s : Staging) (is : IsStagingOf S need w s) where
  -- the last plain write that the next root needs
  abbrev needed : ℕ
  needed = root_pages S.pages_first s.staged

  needed_written : needed ≤ w.written
  needed_written = elim (cases_Bool S.pages_first) [
    | inl rule ↦ le_trans (le_of_eq (ap (λ (b : Bool). root_pages b s.staged) rule)) (omega arith)
    | inr rule ↦ le_of_eq (ap (λ (b : Bool). root_pages b s.staged) rule ∙ sym is.written)
  ]

  -- no root before it needs a later one
  needed_rise : (r : Root) → r ∈ roots_of w.elements → r.pages ≤ needed
  needed_rise r has = elim (cases_Bool S.pages_first) [
    | inl rule ↦ le_trans (le_of_eq ((is.roots r has).3 rule)) (omega arith)
    | inr rule ↦ le_trans (is.roots r has).2 (le_of_eq (is.written ∙ sym (ap (λ (b : Bool). root_pages b s.staged) rule)))
  ]

  -- a root that needs the last version of each section, and these plain writes
  module _ (q : Root) (same : q.superblocks ≡ w.superblocks) (through : q.pages ≡ needed) where
    as_latest : (j : ℕ) → j < S.sections → q.superblocks j ≡ get_or s.latest (family_of j) 0
    as_latest j lt = ap (λ (g : ℕ → ℕ). g j) same ∙ is.sections j lt

    of_own : (z : Name) → IsRootNeed needed s.latest z → NeedsName S (A_root q ∷ w.elements) (A_root q) z
    of_own (Plain n) h =
        let from = (is.numbers n).0 (h.0, le_trans h.1 needed_written) in
        (from.0, from.1, le_trans (le_of_eq from.2) (le_trans h.1 (le_of_eq (sym through))), from.2)
    of_own (Version f v) h =
        let inside : f < length s.latest = some_at s.latest f v h.1 h.2 in
        let at = section_of_family f S.sections some (le_trans inside (le_of_eq is.families)) h.0 in
        (at.0, at.1, at.2, h.1, le_trans h.2 (le_of_eq (ap (λ (k : ℕ). get_or s.latest k 0) at.2 ∙ sym (as_latest at.0 at.1))))

    to_own : (z : Name) → NeedsName S (A_root q ∷ w.elements) (A_root q) z → IsRootNeed needed s.latest z
    to_own (Plain n) needs =
        (((is.numbers n).1 (needs.0, needs.1, needs.3)).0, le_trans (le_of_eq (sym needs.3)) (le_trans needs.2 (le_of_eq through)))
    to_own (Version f v) needs = (
      (λ root. not_one needs.0 (sym needs.2 ∙ root)),
      needs.3,
      le_trans needs.4 (le_of_eq (as_latest needs.0 needs.1 ∙ ap (λ (k : ℕ). get_or s.latest k 0) (sym needs.2))),
    )

    -- it needs what a root that was staged before needs
    of_root : (r : Root) → r ∈ roots_of w.elements → (z : Name) → NeedsName S w.elements (A_root r) z → NeedsName S (A_root q ∷ w.elements) (A_root q) z
    of_root r has (Plain n) needs = (needs.0, needs.1, le_trans needs.2 (le_trans (needed_rise r has) (le_of_eq (sym through))), needs.3)
    of_root r has (Version f v) needs =
        (needs.0, needs.1, needs.2, needs.3, le_trans needs.4 (le_trans ((is.roots r has).1 needs.0) (le_of_eq (ap (λ (g : ℕ → ℕ). g needs.0) (sym same)))))

    of_before : (z : Name) (m : Element) → m ∈ w.elements → (v : ℕ) (d : Named) → At S w.persistent w.elements m (Version root_family v) d → Names d z → NeedsName S (A_root q ∷ w.elements) (A_root q) z
    of_before z (A_write x) has v d at names = absurd (let e : Version root_family v ≡ Plain x.number = at.0 in cc)
    of_before z (A_superblock u) has v d at names = absurd (not_one u.section (sym (let e : Version root_family v ≡ Version (family_of u.section) u.version = at.0 in cc)))
    of_before z (A_root r) has v d at names = of_root r (listed w.elements (A_root r) has) z (at.1.only z names)

  -- what is persistent doesn't need it, and it isn't persistent
  closed_on : (q : Root) → q.version ≡ suc w.root → Closed S (log_of (A_root q ∷ w.elements)) w.persistent
  closed_on q version = record {
    write_root = λ x has met. is.closed.write_root x has met;
    superblock_root = λ u has met. is.closed.superblock_root u has met;
    superblock_writes = λ u x has has_x met sec bound. is.closed.superblock_writes u x has has_x met sec bound;
    root_superblocks = λ r has met. ⊎_elim
        (λ (here : r ≡ q). absurd (
        let low : r.version ≤ w.persistent.root = met in
        let high : w.persistent.root ≤ w.root = is.persistent.root in
        let number : r.version ≡ suc w.root = ap (λ (p : Root). p.version) here ∙ version in omega arith))
        (λ (old : r ∈ roots_of w.elements). is.closed.root_superblocks r old met)
        has;
    root_writes = λ r x has has_x met bound. ⊎_elim
        (λ (here : r ≡ q). absurd (
        let low : r.version ≤ w.persistent.root = met in
        let high : w.persistent.root ≤ w.root = is.persistent.root in
        let number : r.version ≡ suc w.root = ap (λ (p : Root). p.version) here ∙ version in omega arith))
        (λ (old : r ∈ roots_of w.elements). is.closed.root_writes r x old has_x met bound)
        has;
  }

  module _ (v : ℕ) (own : Named) (new : Staging) (staged : IsVersionStaged s root_family v own new) (names : (z : Name) → Names own z ↔ IsRootNeed needed s.latest z) where
    pub root_needs : (q : Root) → q.superblocks ≡ w.superblocks → q.pages ≡ needed → (z : Name) → Names (staged.1) z ↔ NeedsName S (A_root q ∷ w.elements) (A_root q) z
    root_needs q same through z = (
      (λ h. ⊎_elim
          (λ (given : Names own z). of_own q same through z ((names z).0 given))
          (λ (before : (k : ℕ) × (d : Named) × (slice_get s.pending.waiting k ≡ Some (Version root_family staged.0, d)) × Names d z).
          let from = match_at S w.persistent w.elements (waiting_in w.persistent w.elements) s.pending.waiting before.0 (Version root_family staged.0) before.1 is.pending.waiting before.2 in
          of_before q same through z from.0 (from_waiting w.persistent w.elements from.0 from.1).0 staged.0 before.1 from.2 before.3)
          ((staged.4 z).0 h)),
      (λ h. (staged.4 z).1 (inl ((names z).1 (to_own q same through z h)))),
    )

    pub next_version : v ≡ suc w.root
    next_version = let a : v ≡ staged.0 + 1 = staged.3 in let b : staged.0 ≡ get_or s.latest root_family 0 = staged.2 in let e : w.root ≡ get_or s.latest root_family 0 = is.root in omega arith

    -- the machine's root needs these plain writes
    needed_is : (n : ℕ) (runs : List Run) (m : Map) (pointers : ℕ → ℕ) → (root_now S w n runs m pointers).pages ≡ needed
    needed_is n runs m pointers = ap (root_pages S.pages_first) is.written

    pub root_step : (n : ℕ) (runs : List Run) (m : Map) (pointers : ℕ → ℕ) → IsStagingOf S need (happens S w (StageRoot n runs m pointers)) new
    root_step n runs m pointers = subst (λ (t : Staging). IsStagingOf S need (happens S w (StageRoot n runs m pointers)) t) (sym staged.5) (record {
      pending = subst (λ (k : ℕ). IsPendingOf S (happens S w (StageRoot n runs m pointers)) (staged_after s.pending (Version 1 k) staged.1)) (sym next_version)
          (root_staged S w s.pending is.persistent (λ u has. (is.superblocks u has).2) (λ r has. (is.roots r has).2) is.pending (root_now S w n runs m pointers) staged.1 (happens S w (StageRoot n runs m pointers)) refl refl refl
          (root_needs (root_now S w n runs m pointers) refl (needed_is n runs m pointers)));
      written = is.written;
      families = length-set s.latest root_family v ∙ is.families;
      sections = λ j lt. is.sections j lt ∙ sym (get_or-set_other s.latest root_family (family_of j) v 0 (not_one j));
      root = sym next_version ∙ sym (get_or-set_same s.latest root_family v 0 (let e : length s.latest ≡ suc S.sections = is.families in let lt : 0 < S.sections = some in omega arith));
      persistent = record { writes = is.persistent.writes; superblocks = is.persistent.superblocks; root = (let le : w.persistent.root ≤ w.root = is.persistent.root in omega arith) };
      closed = closed_on (root_now S w n runs m pointers) refl;
      numbers = is.numbers;
      superblocks = is.superblocks;
      roots = λ r has. ⊎_elim
          (λ (here : r ≡ root_now S w n runs m pointers).
          subst (λ (q : Root). (q.version ≤ suc w.root) × ((j : ℕ) → q.superblocks j ≤ w.superblocks j) × (q.pages ≤ w.written) × (S.pages_first ≡ true → q.pages ≡ 0)) (sym here)
          (le_refl _, (λ j. le_refl _), le_trans (le_of_eq (needed_is n runs m pointers)) needed_written, (λ rule. ap (λ (b : Bool). root_pages b w.written) rule)))
          (λ (old : r ∈ roots_of w.elements). (let from = is.roots r old in ((let le : r.version ≤ w.root = from.0 in omega arith), from.1, from.2, from.3)))
          has;
    })

    -- what was staged before is not the new root
    pub not_the_root : (m : Element) → m ∈ w.elements → name m ≡ Version root_family v → ⊥
    not_the_root (A_write x) has same = absurd (let e : Plain x.number ≡ Version root_family v = same in cc)
    not_the_root (A_superblock u) has same = not_one u.section (let e : Version (family_of u.section) u.version ≡ Version root_family v = same in cc)
    not_the_root (A_root r) has same =
        let k : r.version ≡ v = (let e : Version 1 r.version ≡ Version root_family v = same in cc) in
        let le : r.version ≤ w.root = (is.roots r (listed w.elements (A_root r) has)).0 in let e : v ≡ suc w.root = next_version in absurd (omega arith)

module _ (x : State) (g h : GraphState) (w : World) (some : 0 < (shape x).sections) (is : IsWorldOf x g w) (v : ℕ) (own : Named) (staged : IsVersionStaged g.staging root_family v own h.staging)
    (names : (z : Name) → Names own z ↔ IsRootNeed (root_pages (shape x).pages_first g.staging.staged) g.staging.latest z) (n : ℕ) (runs : List Run) (m : Map) (pointers : ℕ → ℕ) where
  abbrev root : Root
  root = root_now (shape x) w n runs m pointers

  abbrev next : World
  next = happens (shape x) w (StageRoot n runs m pointers)

  module _ (kept : write_of h (Version root_family v) ≡ Some (page_write (shape x) (formats_of (shape x)) (A_root root))) (others : AddsOnly g h (Version root_family v)) where
    root_writes : AreWritesOf (shape x) next h
    root_writes k p waits there = ⊎_elim
        (λ (here : k ≡ A_root root).
        same_Some p (page_write (shape x) (formats_of (shape x)) (A_root root))
        (sym there ∙ ap (λ (e : Element). write_of h (name e)) here
        ∙ ap (λ (i : ℕ). write_of h (Version root_family i)) (sym (next_version (shape x) some (need_of x) w g.staging is.staging v own h.staging staged names)) ∙ kept)
        ∙ ap (page_write (shape x) (formats_of (shape x))) (sym here))
        (λ (old : k ∈ w.elements). ⊎_elim
        (λ (before : write_of g (name k) ≡ Some p). is.writes k p (old, waits.1) before)
        (λ (new : name k ≡ Version root_family v). absurd (not_the_root (shape x) some (need_of x) w g.staging is.staging v own h.staging staged names k old new))
        (others (name k) p there))
        waits.0

    pub after_root : IsWorldOf x h next
    after_root = record {
      extents = is.extents;
      staging = root_step (shape x) some (need_of x) w g.staging is.staging v own h.staging staged names n runs m pointers;
      recorded = λ a has. is.recorded a has;
      resets = λ e. (let le : w.extents.reset e ≤ w.root = is.resets e in omega arith);
      writes = root_writes;
    }
