-- The laws of a format hold together.
use Rattle.std.proofs.Common.{◌≡◌, inl, inr, ℕ, zero, suc, ◌<◌, ◌==◌, true, false, true≢false, List, [], ◌∷◌, length, if◌then◌else◌, eq-eqb, refl, sym, ap, ap₂, ◌∙◌, subst, arith}
use Rattle.std.proofs.lemmas.Bool.{cases_eq, ne_eqb}
use Rattle.law_machine.specs.Device.{Shape}
use Rattle.law_machine.specs.Element.{Entry, Locator}
use Rattle.law_machine.specs.Example.{example_format, flat_entries, flat_locators, telling_format, told}
use Rattle.law_machine.specs.Frames.{IsFormat}

one_flat_locators : (ls ms : List Locator) (k j : List ℕ) → length ls ≡ length ms
    → flat_locators ls k ≡ flat_locators ms j → (ls ≡ ms) × (k ≡ j)
one_flat_locators [] [] k j same is = (refl, is)
one_flat_locators [] (m ∷ ms) k j same is = absurd (omega arith)
one_flat_locators (l ∷ ls) [] k j same is = absurd (omega arith)
one_flat_locators (l ∷ ls) (m ∷ ms) k j same is =
    let e : l.extent ∷ l.page ∷ l.generation ∷ l.mark ∷ flat_locators ls k
    ≡ m.extent ∷ m.page ∷ m.generation ∷ m.mark ∷ flat_locators ms j = is in
    let a : l.extent ≡ m.extent = cc in
    let b : l.page ≡ m.page = cc in
    let c : l.generation ≡ m.generation = cc in
    let d : l.mark ≡ m.mark = cc in
    let rest : flat_locators ls k ≡ flat_locators ms j = cc in
    let more = one_flat_locators ls ms k j (omega arith) rest in
    let here : l ≡ m = (λ i. record { extent = a i; page = b i; generation = c i; mark = d i }) in
    (ap₂ (λ (x : Locator) (xs : List Locator). x ∷ xs) here more.0, more.1)

one_flat_entries : (xs ys : List Entry) → flat_entries xs ≡ flat_entries ys → xs ≡ ys
one_flat_entries [] [] is = refl
one_flat_entries [] (y ∷ ys) is = absurd
    (let e : [] ≡ y.id ∷ length y.locators ∷ flat_locators y.locators (flat_entries ys) = is in cc)
one_flat_entries (x ∷ xs) [] is = absurd
    (let e : x.id ∷ length x.locators ∷ flat_locators x.locators (flat_entries xs) ≡ [] = is in cc)
one_flat_entries (x ∷ xs) (y ∷ ys) is =
    let e : x.id ∷ length x.locators ∷ flat_locators x.locators (flat_entries xs)
    ≡ y.id ∷ length y.locators ∷ flat_locators y.locators (flat_entries ys) = is in
    let a : x.id ≡ y.id = cc in
    let b : length x.locators ≡ length y.locators = cc in
    let rest : flat_locators x.locators (flat_entries xs) ≡ flat_locators y.locators (flat_entries ys) = cc in
    let more = one_flat_locators x.locators y.locators (flat_entries xs) (flat_entries ys) b rest in
    let here : x ≡ y = (λ i. record { id = a i; locators = more.0 i }) in
    ap₂ (λ (z : Entry) (zs : List Entry). z ∷ zs) here (one_flat_entries xs ys more.1)

one_example_root : (v w n k : ℕ) (xs ys : List Locator) → true ≡ true → true ≡ true
    → v ∷ n ∷ length xs ∷ flat_locators xs [] ≡ w ∷ k ∷ length ys ∷ flat_locators ys [] → (n ≡ k) × (xs ≡ ys)
one_example_root v w n k xs ys fx fy e =
    let a : n ≡ k = cc in
    let b : length xs ≡ length ys = cc in
    let c : flat_locators xs [] ≡ flat_locators ys [] = cc in (a, (one_flat_locators xs ys [] [] b c).0)

-- where extents aren't filled up
pub example_is_format : (S : Shape) → S.fills ≡ false → IsFormat S example_format
example_is_format S off = record {
  section = λ f j v r p g q h same. refl;
  some_page = λ kind payload. omega arith;
  one_root = one_example_root;
  one_run = λ xs ys fx fy is. one_flat_entries xs ys is;
  root_fits = λ v n ls some a b c d. refl;
  run_fits = λ entries is. refl;
  one_piece = λ id number count command piece. refl;
  long_chunk = λ id number count command piece fits. refl;
  long_run = λ entries fits. refl;
  no_fault = λ img e i count kind payload fits inside stand. refl;
  tells = λ on. absurd (true≢false (sym on ∙ off));
  one_payload = λ img e i kind a b fa fb sa sb. sym sa.0 ∙ sb.0;
}

module _ (S : Shape) where
  told_alike : (j : ℕ) (p q : ℕ → ℕ) → ((e : ℕ) → S.section e ≡ j → p e ≡ q e) → (n : ℕ) → told S j p n ≡ told S j q n
  told_alike j p q same zero = refl
  told_alike j p q same (suc n) = ap₂ (λ (x : ℕ) (xs : List ℕ). x ∷ xs) first (told_alike j p q same n)
    where
      first : (if S.section n == j then p n else 0) ≡ (if S.section n == j then q n else 0)
      first = elim (cases_eq (S.section n) j) [
        | inl is ↦ ap (λ (x : ℕ). if S.section n == j then x else 0) (same n is)
        | inr other ↦ let off : (S.section n == j) ≡ false = ne_eqb (S.section n) j other in rw off refl
      ]

  pub told_here : (j : ℕ) (p q : ℕ → ℕ) (n e : ℕ) → told S j p n ≡ told S j q n → e < n → S.section e ≡ j → p e ≡ q e
  told_here j p q zero e is lt at = absurd (omega arith)
  told_here j p q (suc n) e is lt at =
      let both : (if S.section n == j then p n else 0) ∷ told S j p n ≡ (if S.section n == j then q n else 0) ∷ told S j q n = is in
      let first : (if S.section n == j then p n else 0) ≡ (if S.section n == j then q n else 0) = cc in
      let rest : told S j p n ≡ told S j q n = cc in elim (cases_eq e n) [
        | inl same ↦ (let on : (S.section n == j) ≡ true = eq-eqb (S.section n) j (ap S.section (sym same) ∙ at) in
            subst (λ (x : ℕ). p x ≡ q x) (sym same) (sym (if_on on (p n)) ∙ first ∙ if_on on (q n)))
        | inr other ↦ told_here j p q n e rest (omega arith) at
      ]
    where
      if_on : (S.section n == j) ≡ true → (x : ℕ) → (if S.section n == j then x else 0) ≡ x
      if_on on x = rw on refl

  pub telling_is_format : IsFormat S (telling_format S)
  telling_is_format = record {
    section = λ f j v r p g q h same. told_alike j p q (λ e at. (same e at).0) S.extents;
    some_page = λ kind payload. omega arith;
    one_root = one_example_root;
    one_run = λ xs ys fx fy is. one_flat_entries xs ys is;
    root_fits = λ v n ls some a b c d. refl;
    run_fits = λ entries is. refl;
    one_piece = λ id number count command piece. refl;
    long_chunk = λ id number count command piece fits. refl;
    long_run = λ entries fits. refl;
    no_fault = λ img e i count kind payload fits inside stand. refl;
    one_payload = λ img e i kind a b fa fb sa sb. sym sa.0 ∙ sb.0;
    tells = λ on f k j v w a b p g q h fits also is e lt at. told_here j p q S.extents e is lt at;
  }
