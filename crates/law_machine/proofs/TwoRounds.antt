-- Where page writes need not come first, two rounds make all persistent.
use Rattle.std.proofs.Common.{◌≡◌, ◌≢◌, inl, inr, ⊎_elim, ℕ, ◌<◌, ◌≤◌, true, false, le_of_eq, le_trans, le_refl, le-leb, leb-true, refl, sym, subst, arith}
use Rattle.std.proofs.lemmas.Bool.{cases_Bool, cases_lt}
use Rattle.law_machine.proofs.ClosedSets.{gt-leb}
use Rattle.law_machine.proofs.Waiting.{Listed, listed, superblock_in, write_in}
use Rattle.law_machine.specs.Cut.{Cut, Needs, satisfied}
use Rattle.law_machine.specs.Device.{Page, Shape}
use Rattle.law_machine.specs.Element.{A_root, A_superblock, A_write, Element, Opening, Root, Superblock, Write, roots_of, superblocks_of, writes_of}
use Rattle.law_machine.specs.Formats.{Formats}
use Rattle.law_machine.specs.Lists.{◌∈◌}
use Rattle.law_machine.specs.Machine.{World}
use Rattle.law_machine.specs.Recovery.{RootGives}
use Rattle.law_machine.specs.Round.{IsRound, NoRootIsAwaited, NothingWaits, RootReady, after_round}
use Rattle.law_machine.specs.Safe.{Safe}

module _ (S : Shape) (F : Formats) {opening : Opening} (opened : ℕ → Page) (w : World)
    (safe : Safe S (RootGives S F opening) opening.frozen opened w) (later : S.pages_first ≡ false)
    (none : NoRootIsAwaited S w) (R : Cut) (is : IsRound S w R) where
  -- a root that an element needs which waits is persistent
  root_met : (x : Element) (n : ℕ) → x ∈ w.elements → satisfied w.persistent x ≡ false → n ≤ w.root
      → ((r : Root) → r.version ≡ n → Needs S x (A_root r)) → n ≤ w.persistent.root
  root_met x n has waits staged needs = ⊎_elim
      (λ (early : w.persistent.root < n). (let at = safe.roots_there n early staged in
      le_trans (le_of_eq (sym at.2)) (leb-true _ _ (none x at.0 has at.1 waits (needs at.0 at.2)))))
      (λ (done : n ≤ w.persistent.root). done)
      (cases_lt w.persistent.root n)

  pub first_writes : (x : Write) → x ∈ writes_of w.elements → R.writes x.number ≡ true
  first_writes x has = elim (cases_Bool (w.persistent.writes x.number)) [
    | inl there ↦ is.persistent.writes x.number there
    | inr waits ↦ is.writes x has
        (root_met (A_write x) x.root (write_in w.elements x has) waits (safe.write_roots x has) (λ r ver. le_of_eq ver))
  ]

  pub first_superblocks : (u : Superblock) → u ∈ superblocks_of w.elements → u.version ≤ R.superblocks u.section
  first_superblocks u has = ⊎_elim
      (λ (waits : w.persistent.superblocks u.section < u.version). is.superblocks u has (
        root_met (A_superblock u) u.root (superblock_in w.elements u has) (gt-leb _ _ waits)
            (safe.superblock_roots u has) (λ r ver. le_of_eq ver),
        (λ x has_x sec bound. absurd (let some : 1 ≤ x.number = safe.writes_from_one x has_x in
            let free : u.writes ≡ 0 = safe.no_superblock_writes later u has in omega arith)),
      ))
      (λ (done : u.version ≤ w.persistent.superblocks u.section). le_trans done (is.persistent.superblocks u.section))
      (cases_lt (w.persistent.superblocks u.section) u.version)

  first_listed : (x : Element) → Listed w.elements x → ((r : Root) → x ≢ A_root r) → satisfied R x ≡ true
  first_listed (A_write x) has not = first_writes x has
  first_listed (A_superblock u) has not = le-leb _ _ (first_superblocks u has)
  first_listed (A_root r) has not = absurd (not r refl)

  pub first_takes : (x : Element) → x ∈ w.elements → ((r : Root) → x ≢ A_root r) → satisfied R x ≡ true
  first_takes x has = first_listed x (listed w.elements x has)

  module _ (Q : Cut) (next : IsRound S (after_round S w R) Q) where
    needed_there : (r : Root) → r ∈ roots_of w.elements → (j : ℕ) → r.superblocks j ≤ R.superblocks j
    needed_there r has j = ⊎_elim
        (λ (waits : R.superblocks j < r.superblocks j). absurd
        (let up : w.persistent.superblocks j ≤ R.superblocks j = is.persistent.superblocks j in
        let at = safe.superblocks_there j (r.superblocks j) (omega arith) ((safe.roots_below r has).1 j) in
        let there : at.0.version ≤ R.superblocks j = subst (λ (i : ℕ). at.0.version ≤ R.superblocks i) at.2
        (first_superblocks at.0 at.1) in
        let version : at.0.version ≡ r.superblocks j = at.3 in omega arith))
        (λ (done : r.superblocks j ≤ R.superblocks j). done)
        (cases_lt (R.superblocks j) (r.superblocks j))

    root_ready : (r : Root) → r ∈ roots_of w.elements → RootReady S (after_round S w R) r
    root_ready r has = (needed_there r has, λ x has_x bound. first_writes x has_x)

    newest_taken : w.root ≤ Q.root
    newest_taken = ⊎_elim
        (λ (waits : R.root < w.root).
        (let up : w.persistent.root ≤ R.root = is.persistent.root in
        let at = safe.roots_there w.root (omega arith) (le_refl _) in
        le_trans (le_of_eq (sym at.2)) (next.roots at.0 at.1 (root_ready at.0 at.1))))
        (λ (done : w.root ≤ R.root). le_trans done next.persistent.root)
        (cases_lt R.root w.root)

    first_staged : R.root ≤ w.root
    first_staged = ⊎_elim (λ old. le_trans (le_of_eq old) safe.staged.root)
        (λ new. le_trans (le_of_eq (sym new.2)) (safe.roots_below new.0 new.1).0) is.only_root

    second_staged : Q.root ≤ w.root
    second_staged = ⊎_elim (λ old. le_trans (le_of_eq old) first_staged)
        (λ new. le_trans (le_of_eq (sym new.2)) (safe.roots_below new.0 new.1).0) next.only_root

    pub second_takes : Q.root ≡ w.root
    second_takes = (let up : w.root ≤ Q.root = newest_taken in let down : Q.root ≤ w.root = second_staged in omega arith)

    all_there : (x : Element) → Listed w.elements x → satisfied Q x ≡ true
    all_there (A_write x) has = next.persistent.writes x.number (first_writes x has)
    all_there (A_superblock u) has = le-leb _ _
        (le_trans (first_superblocks u has) (next.persistent.superblocks u.section))
    all_there (A_root r) has = le-leb _ _ (le_trans (safe.roots_below r has).0 newest_taken)

    pub none_left : NothingWaits (after_round S (after_round S w R) Q)
    none_left x has = all_there x (listed w.elements x has)
