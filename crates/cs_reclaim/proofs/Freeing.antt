-- Which extents are blank as they are emptied one after another, and what stays.
use Rattle.std.proofs.Common.{◌≡◌, ◌∙◌, ◌==◌, ◌&&◌, ◌||◌, inl, inr, ⊎_elim, ℕ, zero, suc, ◌<◌, ◌≤◌, Bool, List, false, true, not, nat_le, nat_lt, if◌then◌else◌, true≢false, refl, sym, ap, subst, arith}
use Rattle.std.proofs.lemmas.Bool.{cases_eq}
use Rattle.std.proofs.lemmas.Bool.Decides.{nat_tests}
use Rattle.law_machine.proofs.ApartResets.{each_extent, swept_below, swept_stay}
use Rattle.law_machine.proofs.Carries.{and_left, and_right}
use Rattle.law_machine.specs.Apart.{any_below, any_copy_on, any_run_on, is_any_swept, is_blank_by, is_held_by, reset_all}
use Rattle.law_machine.specs.Device.{Shape}
use Rattle.law_machine.specs.Element.{Copy, Entry, Run}
use Rattle.law_machine.specs.Extents.{Extents, emptied, forgotten}
use Rattle.law_machine.specs.Tally.{lives_on}
use Rattle.cs_reclaim.specs.Rooted.{lying_apart}

-- ---- whether an extent is being swept

-- none of those below n is, and n isn't
pub none_more : (test : ℕ → Bool) (n : ℕ) → any_below test n ≡ false → test n ≡ false → any_below test (suc n) ≡ false
none_more test n none here = rw here none

-- none of fewer is
pub none_fewer : (test : ℕ → Bool) (n e : ℕ) → n ≤ e → any_below test e ≡ false → any_below test n ≡ false
none_fewer test n zero le none = let is : 0 ≡ n = omega (arith, le) in subst (λ (m : ℕ). any_below test m ≡ false) is none
none_fewer test n (suc e) le none = elim (cases_eq n (suc e)) [
  | inl same ↦ subst (λ (m : ℕ). any_below test m ≡ false) (sym same) none
  | inr other ↦ none_fewer test n e (omega (arith, le, other)) (or_right (test e) (any_below test e) none)
]
  where
    or_right : (a b : Bool) → (a || b) ≡ false → b ≡ false
    or_right true b wrong = absurd (true≢false wrong)
    or_right false b is = is

-- ---- what is blank

module _ (S : Shape) (index : List Entry) (runs : List Run) (copies : List Copy) where
  abbrev pub blank : Extents → ℕ → Bool
  blank x e = is_blank_by S x index runs copies e

  -- only these three matter
  pub blank_alike : (x y : Extents) (e : ℕ) → y.pointer e ≡ x.pointer e → y.generation e ≡ x.generation e → y.swept ≡ x.swept → blank y e ≡ blank x e
  blank_alike x y e pointer generation swept =
      ap (λ (n : ℕ). (nat_lt 0 n && nat_le (lives_on e index) 0) && (not (any_run_on runs e || is_held_by S y copies e) && nat_lt (y.generation e) S.greatest_generation)) pointer
      ∙ ap (λ (n : ℕ). (nat_lt 0 (x.pointer e) && nat_le (lives_on e index) 0) && (not (any_run_on runs e || is_held_by S y copies e) && nat_lt n S.greatest_generation)) generation
      ∙ ap (λ (f : ℕ → Bool). (nat_lt 0 (x.pointer e) && nat_le (lives_on e index) 0) && (not (any_run_on runs e || (any_below f S.extents && (f e || any_copy_on copies e))) && nat_lt (x.generation e) S.greatest_generation)) swept

  -- the next extent is blank still as it was
  module _ (x : Extents) (root : ℕ) where
    abbrev after : ℕ → Extents
    after n = reset_all (lying_apart S) x root (blank x) n

    pub next_alike : (n : ℕ) → blank (after n) n ≡ blank x n
    next_alike n = ⊎_elim
        (λ reset. absurd (let lt : n < n = reset.0 in omega arith))
        (λ kept. blank_alike x (after n) n kept.1 kept.2 (swept_stay (lying_apart S) x root (blank x) n))
        (each_extent (lying_apart S) x root (blank x) n n)

    -- it is emptied, or left as it is
    pub next_emptied : (n : ℕ) (z y : Extents) → z ≡ after n → blank z n ≡ true → y ≡ forgotten true (emptied z n root) n → y ≡ after (suc n)
    next_emptied n z y was is now =
        let here : blank x n ≡ true = sym (next_alike n) ∙ ap (λ (w : Extents). blank w n) (sym was) ∙ is in
        now ∙ ap (λ (w : Extents). forgotten true (emptied w n root) n) was ∙ sym (chosen (blank x n) here)
      where
        chosen : (b : Bool) → b ≡ true → (if b then forgotten true (emptied (after n) n root) n else after n) ≡ forgotten true (emptied (after n) n root) n
        chosen true is = refl
        chosen false is = absurd (cc is)

    pub next_left : (n : ℕ) (z : Extents) → z ≡ after n → blank z n ≡ false → z ≡ after (suc n)
    next_left n z was is =
        let here : blank x n ≡ false = sym (next_alike n) ∙ ap (λ (w : Extents). blank w n) (sym was) ∙ is in
        was ∙ sym (chosen (blank x n) here)
      where
        chosen : (b : Bool) → b ≡ false → (if b then forgotten true (emptied (after n) n root) n else after n) ≡ after n
        chosen true is = absurd (cc is)
        chosen false is = refl

    pub next_by : (n : ℕ) (z y : Extents) → z ≡ after n → (blank z n ≡ true → y ≡ forgotten true (emptied z n root) n) → (blank z n ≡ false → y ≡ z) → y ≡ after (suc n)
    next_by n z y was emptied_then left_then = split (blank z n) refl
      where
        split : (b : Bool) → blank z n ≡ b → y ≡ after (suc n)
        split true is = next_emptied n z y was is (emptied_then is)
        split false is = left_then is ∙ next_left n z was is

    pub any_stays : (n : ℕ) (z : Extents) → z ≡ after n → is_any_swept S z ≡ is_any_swept S x
    any_stays n z was = ap (λ (w : Extents). is_any_swept S w) was ∙ ap (λ (f : ℕ → Bool). any_below f S.extents) (swept_stay (lying_apart S) x root (blank x) n)

  -- the generation of a blank extent may rise
  pub blank_young : (x : Extents) (e : ℕ) → blank x e ≡ true → x.generation e ≡ S.greatest_generation → ⊥
  blank_young x e is last =
      let second = and_right (nat_lt 0 (x.pointer e) && nat_le (lives_on e index) 0) _ is in
      let young : nat_lt (x.generation e) S.greatest_generation ≡ true = and_right (not (any_run_on runs e || is_held_by S x copies e)) _ second in
      let lt : x.generation e < S.greatest_generation = grind (arith, nat_tests) in
      omega (arith, lt, last)

  -- nothing lives on a blank extent
  pub blank_dead : (x : Extents) (e : ℕ) → blank x e ≡ true → lives_on e index ≡ 0
  blank_dead x e is =
      let first = and_left (nat_lt 0 (x.pointer e) && nat_le (lives_on e index) 0) _ is in
      let none : nat_le (lives_on e index) 0 ≡ true = and_right (nat_lt 0 (x.pointer e)) _ first in
      let le : lives_on e index ≤ 0 = grind (arith, nat_tests) in
      omega (arith, le)

  -- an extent that is being swept isn't blank
  pub swept_not_blank : (x : Extents) (e : ℕ) → e < S.extents → x.swept e ≡ true → blank x e ≡ true → ⊥
  swept_not_blank x e lt is_swept is =
      let second = and_right (nat_lt 0 (x.pointer e) && nat_le (lives_on e index) 0) _ is in
      let off = and_left (not (any_run_on runs e || is_held_by S x copies e)) _ second in
      true≢false (sym (held (any_run_on runs e) (any_below x.swept S.extents) (x.swept e) (any_copy_on copies e) (swept_below x.swept S.extents e lt is_swept) is_swept) ∙ negated _ off)
    where
      negated : (b : Bool) → not b ≡ true → b ≡ false
      negated true wrong = sym wrong
      negated false is = refl

      held : (r a s c : Bool) → a ≡ true → s ≡ true → (r || (a && (s || c))) ≡ true
      held true a s c all here = refl
      held false true true c all here = refl
      held false true false c all here = absurd (cc here)
      held false false s c all here = absurd (cc all)

-- ---- what is reset goes with a root that is staged

pub resets_within : (S : Shape) (x : Extents) (root : ℕ) (test : ℕ → Bool) (most : ℕ) → ((e : ℕ) → x.reset e ≤ most) → root ≤ most → (n e : ℕ) → (reset_all S x root test n).reset e ≤ most
resets_within S x root test most old new zero e = old e
resets_within S x root test most old new (suc n) e = either (test n) (reset_all S x root test n) (resets_within S x root test most old new n e)
  where
    with_le : (f : ℕ → ℕ) (b : Bool) → f e ≤ most → (if b then root else f e) ≤ most
    with_le f true le = new
    with_le f false le = le

    either : (b : Bool) (z : Extents) → z.reset e ≤ most → (if b then forgotten S.apart (emptied z n root) n else z).reset e ≤ most
    either true z le = with_le z.reset (e == n) le
    either false z le = le

-- an extent of chunks is one of chunks still
pub chunks_stay : (S : Shape) (x : Extents) (root : ℕ) (test : ℕ → Bool) (n e : ℕ) → x.of_runs e ≡ false → (reset_all S x root test n).of_runs e ≡ false
chunks_stay S x root test zero e is = is
chunks_stay S x root test (suc n) e is = either (test n) (reset_all S x root test n) (chunks_stay S x root test n e is)
  where
    off : (b : Bool) (f : Bool) → f ≡ false → (if b then false else f) ≡ false
    off true f is = refl
    off false f is = is

    by : (apart : Bool) (z : Extents) → z.of_runs e ≡ false → (forgotten apart (emptied z n root) n).of_runs e ≡ false
    by true z is = off (e == n) (z.of_runs e) is
    by false z is = is

    either : (b : Bool) (z : Extents) → z.of_runs e ≡ false → (if b then forgotten S.apart (emptied z n root) n else z).of_runs e ≡ false
    either true z is = by S.apart z is
    either false z is = is
