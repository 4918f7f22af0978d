-- Images of closed sets.
use Rattle.std.proofs.Common.{◌≡◌, inl, inr, ⊎_elim, ℕ, ◌<◌, ◌≤◌, true, false, nat_le, List, [], ◌∷◌, ◌==◌, le_of_eq, le_trans, le-leb, refl, sym, ap, ◌∙◌, subst, arith}
use Rattle.std.proofs.lemmas.Bool.{cases_eq, cases_lt, false_from_ne_true}
use Rattle.std.proofs.lemmas.Bool.Decides.{nat_tests}
use Rattle.law_machine.specs.Cut.{Closed, Cut, held_by, page_in, section_of}
use Rattle.law_machine.specs.Device.{Page, Place, Shape}
use Rattle.law_machine.specs.Element.{Log, Root, Write}
use Rattle.law_machine.specs.Guard.{Guarded, Intact, Needed, Records}
use Rattle.law_machine.specs.Index.{after}
use Rattle.law_machine.specs.Lists.{◌∈◌}

-- two sets that have the same writes to a page have the same page
pub page_same : (X Y : Cut) (opened : ℕ → Page) (ws : List Write) (p : ℕ)
    → ((w : Write) → w ∈ ws → w.page ≡ p → X.writes w.number ≡ Y.writes w.number)
    → page_in X opened ws p ≡ page_in Y opened ws p
page_same X Y opened [] p same = refl
page_same X Y opened (w ∷ ws) p same =
    let rest : page_in X opened ws p ≡ page_in Y opened ws p = page_same X Y opened ws p (λ v has. same v (inr has)) in
    elim (cases_eq w.page p) [
      | inl is ↦ let here : X.writes w.number ≡ Y.writes w.number = same w (inl refl) is in rw (here, rest)
      | inr not ↦ let test : (w.page == p) ≡ false = grind (arith, nat_tests) in rw (test, rest)
    ]

pub gt-leb : (a b : ℕ) → b < a → nat_le a b ≡ false
gt-leb a b h = grind (arith, nat_tests)

module _ (S : Shape) (log : Log) (opened : ℕ → Page) (X : Cut) (r : Root) (h : Place)
    (closed : Closed S log X) (is : r ∈ log.roots) (greatest : r.version ≡ X.root)
    (needed : Needed S log r (S.extent h.page)) (guard : Guarded S log r h) where
  needs_met : (j : ℕ) → r.superblocks j ≤ X.superblocks j
  needs_met = closed.root_superblocks r is (le_of_eq greatest)

  pub has_before : (w : Write) → w ∈ log.writes → w.page ≡ h.page → w.number ≤ r.writes (section_of S h.page)
      → X.writes w.number ≡ true
  has_before w has at before =
      let u = needed.0 in
      let u_section : u.section ≡ section_of S h.page = needed.2 in
      let u_version : u.version ≡ r.superblocks u.section = needed.3 in
      let within : r.superblocks u.section ≤ X.superblocks u.section = needs_met u.section in
      let counted : w.number ≤ r.writes u.section = subst (λ (j : ℕ). w.number ≤ r.writes j) (sym u_section) before in
      ⊎_elim
      (λ (by_u : r.writes u.section ≤ u.writes). closed.superblock_writes u w needed.1 has (omega arith)
      (ap (section_of S) at ∙ sym u_section) (le_trans counted by_u))
      (λ (by_r : r.writes u.section ≤ r.pages). closed.root_writes r w is has (le_of_eq greatest)
      (le_trans counted by_r)) needed.4

  has_not_after : (w : Write) → w ∈ log.writes → w.page ≡ h.page → r.writes (section_of S h.page) < w.number
      → X.writes w.number ≡ false
  has_not_after w has at after = false_from_ne_true (X.writes w.number) (λ in_X.
      let need : w.root ≤ X.root = closed.write_root w has in_X in
      ⊎_elim (λ (before : w.number ≤ r.writes (section_of S h.page)). omega arith)
      (λ (later : r.version < w.root). omega arith) (guard.kept w has at))

  same_write : (w : Write) → w ∈ log.writes → w.page ≡ h.page
      → X.writes w.number ≡ nat_le w.number (r.writes (section_of S h.page))
  same_write w has at = elim (cases_lt (r.writes (section_of S h.page)) w.number) [
    | inl after ↦ has_not_after w has at after ∙ sym (gt-leb w.number (r.writes (section_of S h.page)) after)
    | inr before ↦ has_before w has at before ∙ sym (le-leb w.number (r.writes (section_of S h.page)) before)
  ]

  pub intact : Intact S log opened X h r
  intact = record {
    same = page_same X (held_by r (section_of S h.page)) opened log.writes h.page same_write;
    found = λ u has in_section version. ⊎_elim (λ (x : Records S u.pointers u.generations h). x)
        (λ (later : r.version < u.root). absurd (
        let needs : u.root ≤ X.root = closed.superblock_root u has (le_of_eq version) in omega arith))
        (guard.recorded u has in_section
        (let within : r.superblocks u.section ≤ X.superblocks u.section = needs_met u.section in omega arith));
  }
