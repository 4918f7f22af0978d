-- The closed sets of a world are those of its graph.
use Rattle.std.proofs.Common.{◌≡◌, ◌↔◌, inl, inr, ⊎_elim, ℕ, ◌<◌, ◌≤◌, true, List, true≢false, le_of_eq, le_trans, le_refl, leb-true, refl, sym, ap, ◌∙◌, subst, arith}
use Rattle.std.proofs.lemmas.Bool.{cases_Bool, cases_eq, cases_lt}
use Rattle.cs_deps.specs.declared.elements.Element.{Element as Name}
use Rattle.cs_deps.specs.declared.elements.Element.TheVariants.{Plain, Version}
use Rattle.cs_deps.specs.Named.{StandsFor}
use Rattle.cs_deps.specs.Pending.{Pending, Needs, Satisfied, Closed as IsClosed}
use Rattle.law_machine.specs.Lists.{◌∈◌}
use Rattle.law_machine.specs.Device.{Shape, Page}
use Rattle.law_machine.specs.Element.{Opening, Element, A_write, A_superblock, A_root, Write, Root, writes_of, superblocks_of, roots_of, log_of}
use Rattle.law_machine.specs.Cut.{Cut, Closed}
use Rattle.law_machine.specs.Machine.{World}
use Rattle.law_machine.specs.Safe.{Safe}
use Rattle.law_machine.specs.Formats.{Formats}
use Rattle.law_machine.specs.Recovery.{RootGives}
use Rattle.law_machine.proofs.Waiting.{Listed, listed, write_in}
use Rattle.cs_extent.specs.Frames.{family_of}
use Rattle.law_refinement.specs.Bridge.{name, MayLeaveOut, NeedsName, IsPendingOf, IsWaiting, IsCutOf, AreNames}
use Rattle.law_refinement.proofs.Places.{not_one, one_family, one_write, waits_name, needs_name, name_needs}
use Rattle.law_refinement.proofs.Heights.{write_waits}

module _ (S : Shape) (F : Formats) {opening : Opening} (opened : ℕ → Page) (w : World) (g : Pending) (safe : Safe S (RootGives S F opening) opening.frozen opened w) (is : IsPendingOf S w g)
    (ms : List Element) (waits : (m : Element) → m ∈ ms → IsWaiting w m) (X : Cut) (cut : IsCutOf w.persistent ms X) (xs : List Name) (names : AreNames ms xs) where
  root_sat : (v : ℕ) → v ≤ X.root → Satisfied g xs (Version 1 v)
  root_sat v le = ⊎_elim
      (λ (same : X.root ≡ w.persistent.root). inl (le_trans le (le_of_eq (same ∙ sym is.root))))
      (λ new. inr (Version 1 new.0.version, (names (Version 1 new.0.version)).1 (A_root new.0, new.1, refl), (refl, le_trans le (le_of_eq (sym new.2)))))
      cut.root

  superblock_sat : (j v : ℕ) → j < S.sections → v ≤ X.superblocks j → Satisfied g xs (Version (family_of j) v)
  superblock_sat j v lt le = ⊎_elim
      (λ (same : X.superblocks j ≡ w.persistent.superblocks j). inl (le_trans le (le_of_eq (same ∙ sym (is.sections j lt)))))
      (λ new. inr (Version (family_of new.0.section) new.0.version, (names (Version (family_of new.0.section) new.0.version)).1 (A_superblock new.0, new.1, refl), (ap family_of new.2, le_trans le (le_of_eq (sym new.3)))))
      (cut.superblocks j)

  plain_sat : (n : ℕ) → X.writes n ≡ true → Satisfied g xs (Plain n)
  plain_sat n has = ⊎_elim
      (λ (old : w.persistent.writes n ≡ true). inl (λ wait. true≢false (sym old ∙ write_waits S F opened w g safe is n wait)))
      (λ new. inr (Plain new.0.number, (names (Plain new.0.number)).1 (A_write new.0, new.1, refl), new.2))
      (cut.writes n has)

  -- what is left out is persistent
  left_out : (m : Element) (y : Name) → MayLeaveOut S w.persistent m y → Satisfied g xs y
  left_out (A_write x) y out = absurd out
  left_out (A_superblock u) (Plain n) out = plain_sat n (cut.low.writes n out.1)
  left_out (A_superblock u) (Version f v) out = absurd out
  left_out (A_root r) y out = absurd out

  -- what the list holds is in X
  stands_root : (m : Element) → m ∈ ms → (n : ℕ) → StandsFor (name m) (Version 1 n) → n ≤ X.root
  stands_root (A_write x) has n stands = absurd stands
  stands_root (A_superblock u) has n stands = absurd (not_one u.section stands.0)
  stands_root (A_root r) has n stands = le_trans stands.1 (leb-true _ _ (cut.has (A_root r) has))

  stands_superblock : (m : Element) → m ∈ ms → (j n : ℕ) → StandsFor (name m) (Version (family_of j) n) → n ≤ X.superblocks j
  stands_superblock (A_write x) has j n stands = absurd stands
  stands_superblock (A_superblock u) has j n stands = subst (λ (i : ℕ). n ≤ X.superblocks i) (one_family u.section j stands.0) (le_trans stands.1 (leb-true _ _ (cut.has (A_superblock u) has)))
  stands_superblock (A_root r) has j n stands = absurd (not_one j (sym stands.0))

  stands_plain : (m : Element) → m ∈ ms → (n : ℕ) → StandsFor (name m) (Plain n) → X.writes n ≡ true
  stands_plain (A_write x) has n stands = ap X.writes (sym stands) ∙ cut.has (A_write x) has
  stands_plain (A_superblock u) has n stands = absurd stands
  stands_plain (A_root r) has n stands = absurd stands

  sat_root : (n : ℕ) → Satisfied g xs (Version 1 n) → n ≤ X.root
  sat_root n (inl old) = le_trans old (le_trans (le_of_eq is.root) cut.low.root)
  sat_root n (inr by) = let at = (names by.0).0 by.1 in stands_root at.0 at.1 n (subst (λ (z : Name). StandsFor z (Version 1 n)) (sym at.2) by.2)

  sat_superblock : (j n : ℕ) → j < S.sections → Satisfied g xs (Version (family_of j) n) → n ≤ X.superblocks j
  sat_superblock j n lt (inl old) = le_trans old (le_trans (le_of_eq (is.sections j lt)) (cut.low.superblocks j))
  sat_superblock j n lt (inr by) = let at = (names by.0).0 by.1 in stands_superblock at.0 at.1 j n (subst (λ (z : Name). StandsFor z (Version (family_of j) n)) (sym at.2) by.2)

  sat_plain : (x : Write) → x ∈ writes_of w.elements → Satisfied g xs (Plain x.number) → X.writes x.number ≡ true
  sat_plain x has (inl old) = elim (cases_Bool (w.persistent.writes x.number)) [
    | inl met ↦ cut.low.writes x.number met
    | inr not ↦ absurd (old (waits_name S F opened w g safe is (A_write x) (write_in w.elements x has, not)))
  ]
  sat_plain x has (inr by) = let at = (names by.0).0 by.1 in stands_plain at.0 at.1 x.number (subst (λ (z : Name). StandsFor z (Plain x.number)) (sym at.2) by.2)

  module _ (closed : Closed S (log_of w.elements) X) where
    need_met : (m : Element) → m ∈ ms → Listed w.elements m → (y : Name) → NeedsName S w.elements m y → Satisfied g xs y
    need_met (A_write x) has there (Plain n) needs = absurd needs
    need_met (A_write x) has there (Version f v) needs = subst (λ (i : ℕ). Satisfied g xs (Version i v)) (sym needs.0) (root_sat v (le_trans needs.2 (closed.write_root x there (cut.has (A_write x) has))))
    need_met (A_superblock u) has there (Plain n) needs = plain_sat n (ap X.writes (sym needs.4) ∙ closed.superblock_writes u needs.0 there needs.1 (leb-true _ _ (cut.has (A_superblock u) has)) needs.2 needs.3)
    need_met (A_superblock u) has there (Version f v) needs = subst (λ (i : ℕ). Satisfied g xs (Version i v)) (sym needs.0) (root_sat v (le_trans needs.2 (closed.superblock_root u there (leb-true _ _ (cut.has (A_superblock u) has)))))
    need_met (A_root r) has there (Plain n) needs = plain_sat n (ap X.writes (sym needs.3) ∙ closed.root_writes r needs.0 there needs.1 (leb-true _ _ (cut.has (A_root r) has)) needs.2)
    need_met (A_root r) has there (Version f v) needs = subst (λ (i : ℕ). Satisfied g xs (Version i v)) (sym needs.2)
        (superblock_sat needs.0 v needs.1 (le_trans needs.4 (closed.root_superblocks r there (leb-true _ _ (cut.has (A_root r) has)) needs.0)))

    pub to_graph : IsClosed g xs
    to_graph x y has needs =
        let at = (names x).0 has in
        let wait = waits at.0 at.1 in
        need_met at.0 at.1 (listed w.elements at.0 wait.0) y (needs_name S F opened w g safe is at.0 y wait (subst (λ (z : Name). Needs g z y) (sym at.2) needs))

  module _ (closed : IsClosed g xs) where
    need : (m : Element) → m ∈ ms → (y : Name) → NeedsName S w.elements m y → Satisfied g xs y
    need m has y needs = ⊎_elim
        (λ (named : Needs g (name m) y). closed (name m) y ((names (name m)).1 (m, has, refl)) named)
        (λ (out : MayLeaveOut S w.persistent m y). left_out m y out)
        (name_needs S F opened w g safe is m y (waits m has) needs)

    root_of : (m : Element) → m ∈ ms → (n : ℕ) → ((v : ℕ) → 1 ≤ v → v ≤ n → NeedsName S w.elements m (Version 1 v)) → n ≤ X.root
    root_of m has n needs = elim (cases_eq n 0) [
      | inl none ↦ subst (λ (k : ℕ). k ≤ X.root) (sym none) (omega arith)
      | inr some ↦ sat_root n (need m has (Version 1 n) (needs n (omega arith) (le_refl _)))
    ]

    pub to_machine : Closed S (log_of w.elements) X
    to_machine = record {
      write_root = λ x has in_X. ⊎_elim
          (λ (old : w.persistent.writes x.number ≡ true). le_trans (safe.closed.write_root x has old) cut.low.root)
          (λ new. (let there : new.0 ∈ writes_of w.elements = listed w.elements (A_write new.0) (waits (A_write new.0) new.1).0 in
          subst (λ (y : Write). y.root ≤ X.root) (one_write S F opened w g safe is new.0 x there has new.2) (root_of (A_write new.0) new.1 new.0.root (λ v one le. (refl, one, le)))))
          (cut.writes x.number in_X);
      superblock_root = λ u has ver. ⊎_elim
          (λ (same : X.superblocks u.section ≡ w.persistent.superblocks u.section). le_trans (safe.closed.superblock_root u has (le_trans ver (le_of_eq same))) cut.low.root)
          (λ new. (let there : new.0 ∈ superblocks_of w.elements = listed w.elements (A_superblock new.0) (waits (A_superblock new.0) new.1).0 in
          le_trans (safe.nested_superblocks u new.0 has there (sym new.2) (le_trans ver (le_of_eq (sym new.3)))).0 (root_of (A_superblock new.0) new.1 new.0.root (λ v one le. (refl, one, le)))))
          (cut.superblocks u.section);
      superblock_writes = λ u x has has_x ver sec bound. ⊎_elim
          (λ (same : X.superblocks u.section ≡ w.persistent.superblocks u.section). cut.low.writes x.number (safe.closed.superblock_writes u x has has_x (le_trans ver (le_of_eq same)) sec bound))
          (λ new. (let there : new.0 ∈ superblocks_of w.elements = listed w.elements (A_superblock new.0) (waits (A_superblock new.0) new.1).0 in
          sat_plain x has_x (need (A_superblock new.0) new.1 (Plain x.number) (x, has_x, sec ∙ sym new.2, le_trans bound (safe.nested_superblocks u new.0 has there (sym new.2) (le_trans ver (le_of_eq (sym new.3)))).1, refl))))
          (cut.superblocks u.section);
      root_superblocks = λ r has ver j. ⊎_elim
          (λ (same : X.root ≡ w.persistent.root). le_trans (safe.closed.root_superblocks r has (le_trans ver (le_of_eq same)) j) (cut.low.superblocks j))
          (λ new. (let there : new.0 ∈ roots_of w.elements = listed w.elements (A_root new.0) (waits (A_root new.0) new.1).0 in
          le_trans (safe.nested_roots r new.0 has there (le_trans ver (le_of_eq (sym new.2))) j) (of_section new.0 new.1 there j)))
          cut.root;
      root_writes = λ r x has has_x ver bound. ⊎_elim
          (λ (same : X.root ≡ w.persistent.root). cut.low.writes x.number (safe.closed.root_writes r x has has_x (le_trans ver (le_of_eq same)) bound))
          (λ new. (let there : new.0 ∈ roots_of w.elements = listed w.elements (A_root new.0) (waits (A_root new.0) new.1).0 in
          sat_plain x has_x (need (A_root new.0) new.1 (Plain x.number) (x, has_x, le_trans bound (safe.nested_pages r new.0 has there (le_trans ver (le_of_eq (sym new.2)))), refl))))
          cut.root;
    }
      where
        of_section : (r : Root) → A_root r ∈ ms → r ∈ roots_of w.elements → (j : ℕ) → r.superblocks j ≤ X.superblocks j
        of_section r has there j = ⊎_elim
            (λ (above : w.persistent.superblocks j < r.superblocks j).
            let at = safe.superblocks_there j (r.superblocks j) above ((safe.roots_below r there).1 j) in
            let lt : j < S.sections = subst (λ (i : ℕ). i < S.sections) at.2 (safe.sections_there at.0 at.1) in
            sat_superblock j (r.superblocks j) lt (need (A_root r) has (Version (family_of j) (r.superblocks j)) (j, lt, refl, omega arith, le_refl _)))
            (λ (met : r.superblocks j ≤ w.persistent.superblocks j). le_trans met (cut.low.superblocks j))
            (cases_lt (w.persistent.superblocks j) (r.superblocks j))

  pub both : Closed S (log_of w.elements) X ↔ IsClosed g xs
  both = ((λ c. to_graph c), (λ c. to_machine c))
