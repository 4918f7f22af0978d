-- Where extents are filled up: what is known of the image at open lasts while pages are given and extents are reset.
use Rattle.std.proofs.Common.{◌≡◌, ◌≢◌, ◌⊎◌, inl, inr, ⊎_elim, ℕ, zero, suc, ◌+◌, ◌<◌, ◌≤◌, ◌==◌, nat_lt, Bool, true, false, List, ◌∷◌, length, ◌&&◌, if◌then◌else◌, None, eq-eqb, ne_eqb, lt-ltb, le_of_eq, le_refl, le_trans, true≢false, refl, sym, ap, ◌∙◌, subst, arith}
use Rattle.std.proofs.lemmas.Bool.{cases_lt}
use Rattle.std.proofs.lemmas.Bool.Decides.{nat_tests}
use Rattle.law_machine.proofs.Carries.{and_true}
use Rattle.law_machine.specs.Device.{Page, Shape, is_meant}
use Rattle.law_machine.proofs.Parts.{each}
use Rattle.law_machine.specs.Element.{Locator, Opening, Root}
use Rattle.law_machine.specs.Extents.{MayFill, reach}
use Rattle.law_machine.specs.Formats.{ChunkFrame, Formats, Stand, damage_in, fault_for, limit_in, opening_in, is_long_frame}
use Rattle.law_machine.specs.Index.{Passes, Reads}
use Rattle.law_machine.specs.Meant.{Mark}
use Rattle.law_machine.specs.Sound.{IsFilledUp}

-- of an extent nothing is found any more and its generation rose, or both are as they were and no fewer pages are given
abbrev pub IsEmptied : (f g h k : ℕ → ℕ) → ℕ → Type 0
IsEmptied f g h k e = (h e ≡ 0) × (k e ≡ suc (g e))

abbrev pub IsLonger : (p f g q h k : ℕ → ℕ) → ℕ → Type 0
IsLonger p f g q h k e = (h e ≡ f e) × (k e ≡ g e) × (p e ≤ q e)

none_found : (b : Bool) (n m : ℕ) → b ≡ false → m ≡ 0 → (if b then n else 0) ≡ m
none_found true n m off none = absurd (true≢false off)
none_found false n m off none = sym none

either_none : (b : Bool) (n : ℕ) → n ≡ 0 → (if b then n else 0) ≡ 0
either_none true n none = none
either_none false n none = refl

module _ (S : Shape) (F : Formats) (opening : Opening) (p g f q k h : ℕ → ℕ) (roots : List Root)
    (filled : IsFilledUp S F opening p g f roots) (before : (e i n : ℕ) → opening.frozen e i n ≡ true → n ≤ g e) (each : (e : ℕ) → IsEmptied f g h k e ⊎ IsLonger p f g q h k e) where
  given : (e : ℕ) → h e ≤ q e
  given e = ⊎_elim (λ r. let none : h e ≡ 0 = r.0 in omega arith)
      (λ s. let same : h e ≡ f e = s.0 in let longer : p e ≤ q e = s.2 in let old : f e ≤ p e = filled.given e in omega arith)
      (each e)

  older : (l : Locator) → k l.extent ≤ l.generation → g l.extent ≤ l.generation
  older l young = ⊎_elim (λ r. let up : k l.extent ≡ suc (g l.extent) = r.1 in omega arith)
      (λ s. let same : k l.extent ≡ g l.extent = s.1 in omega arith) (each l.extent)

  past : (l : Locator) → k l.extent ≡ suc (g l.extent) → k l.extent ≤ l.generation → g l.extent ≢ l.generation
  past l up young is = omega arith

  same_found : (l : Locator) → k l.extent ≤ l.generation
      → (if g l.extent == l.generation then f l.extent else 0) ≡ (if k l.extent == l.generation then h l.extent else 0)
  same_found l young = ⊎_elim
      (λ r. none_found (g l.extent == l.generation) (f l.extent) (if k l.extent == l.generation then h l.extent else 0)
      (ne_eqb (g l.extent) l.generation (past l r.1 young)) (either_none (k l.extent == l.generation) (h l.extent) r.0))
      (λ s. ap (λ (n : ℕ). if n == l.generation then f l.extent else 0) (sym s.1)
      ∙ ap (λ (n : ℕ). if k l.extent == l.generation then n else 0) (sym s.0)) (each l.extent)

  pub filled_on : IsFilledUp S F opening q k h roots
  filled_on = record {
    thawed = filled.thawed;
    given = given;
    frozen = λ e i fz. ⊎_elim
        (λ r. absurd (let le : k e ≤ g e = before e i (k e) fz in let up : k e ≡ suc (g e) = r.1 in omega arith))
        (λ s. subst (λ (n : ℕ). i < n) (sym s.0) (filled.frozen e i (ap (opening.frozen e i) (sym s.1) ∙ fz))) (each e);
    counted = filled.counted;
    limits = λ l young. filled.limits l (older l young) ∙ ap (λ (n : ℕ). reach S n l.page) (same_found l young);
  }

-- a root that is staged now counts the pages that were found
pub filled_rooted : (S : Shape) (F : Formats) (opening : Opening) (p g f : ℕ → ℕ) (roots : List Root)
    → IsFilledUp S F opening p g f roots → (r : Root) → r.generations ≡ g
    → ((e : ℕ) → (r.pointers e ≡ p e) ⊎ (r.pointers e ≡ 0)) → IsFilledUp S F opening p g f (r ∷ roots)
filled_rooted S F opening p g f roots filled r same agree = record {
  thawed = filled.thawed;
  given = filled.given;
  frozen = filled.frozen;
  counted = each (λ (q : Root). (e i : ℕ) → opening.frozen e i (q.generations e) ≡ true → 0 < q.pointers e
      → i < q.pointers e) r roots (λ e i fz some.
      (let lt : i < f e = filled.frozen e i (ap (λ (k : ℕ → ℕ). opening.frozen e i (k e)) (sym same) ∙ fz) in
      let low : f e ≤ p e = filled.given e in ⊎_elim
      (λ (is : r.pointers e ≡ p e). subst (λ (n : ℕ). i < n) (sym is) (le_trans lt low))
      (λ (none : r.pointers e ≡ 0). absurd (omega arith)) (agree e))) filled.counted;
  limits = filled.limits;
}

-- a frame that begins behind what was found may reach to the end of its extent
pub reach_end : (S : Shape) (found page : ℕ) → found ≤ page → reach S found page ≡ S.pages
reach_end S found page le = go S.fills (nat_lt page found) (let test : nat_lt page found ≡ false = grind (arith, nat_tests) in test)
  where
    go : (a b : Bool) → b ≡ false → (if a then (if b then found else S.pages) else S.pages) ≡ S.pages
    go true b off = rw off refl
    go false b off = refl

-- and one among what was found to its end
pub reach_found : (S : Shape) (found page : ℕ) → S.fills ≡ true → page < found → reach S found page ≡ found
reach_found S found page on lt = go S.fills (nat_lt page found) on (let test : nat_lt page found ≡ true = grind (arith, nat_tests) in test)
  where
    go : (a b : Bool) → a ≡ true → b ≡ true → (if a then (if b then found else S.pages) else S.pages) ≡ found
    go a b is test = rw (is, test) refl

-- no frame reaches past its extent
pub reach_low : (S : Shape) (found page : ℕ) → found ≤ S.pages → reach S found page ≤ S.pages
reach_low S found page low = go S.fills (nat_lt page found)
  where
    go : (a b : Bool) → (if a then (if b then found else S.pages) else S.pages) ≤ S.pages
    go true true = low
    go true false = le_refl _
    go false b = le_refl _

-- a page that is there lies before the end of its frame's pages
pub reach_above : (S : Shape) (found page : ℕ) → page < S.pages → page < reach S found page
reach_above S found page inside = elim (cases_lt page found) [
  | inl among ↦ go S.fills (nat_lt page found) among
  | inr behind ↦ subst (λ (n : ℕ). page < n) (sym (reach_end S found page behind)) inside
]
  where
    go : (a b : Bool) → page < found → page < (if a then (if b then found else S.pages) else S.pages)
    go true true among = among
    go true false among = inside
    go false b among = inside

pub appended_reach : (S : Shape) (F : Formats) (opening : Opening) (p g f : ℕ → ℕ) (roots : List Root)
    → IsFilledUp S F opening p g f roots → (e n : ℕ) → p e + n ≤ S.pages
    → (m : Mark) → p e + n ≤ opening.limit (record { extent = e; page = p e; generation = g e; mark = m })
appended_reach S F opening p g f roots filled e n fits m =
    let l : Locator = record { extent = e; page = p e; generation = g e; mark = m } in
    le_trans fits (le_of_eq (sym (filled.limits l (le_refl _)
    ∙ reach_end S (if g e == g e then f e else 0) (p e) (le_trans (at_most (g e == g e) (f e)) (filled.given e)))))
  where
    at_most : (b : Bool) (n : ℕ) → (if b then n else 0) ≤ n
    at_most true n = le_refl _
    at_most false n = omega arith

-- where none is filled up each may
pub reach_off : (S : Shape) (found page : ℕ) → S.fills ≡ false → reach S found page ≡ S.pages
reach_off S found page off = go S.fills off
  where
    go : (a : Bool) → a ≡ false → (if a then (if nat_lt page found then found else S.pages) else S.pages) ≡ S.pages
    go a is = rw is refl

-- where extents aren't filled up frames are appended to those alone that nothing was found on
pub not_filled : (fills : Bool) (found : ℕ) → fills ≡ false → MayFill fills found → found ≡ 0
not_filled true found off may = absurd (true≢false off)
not_filled false found off may = may

pub may_fill : (fills : Bool) (found : ℕ) → found ≡ 0 → MayFill fills found
may_fill true found none = tt
may_fill false found none = none

-- what an image says of itself
module _ (S : Shape) (F : Formats) (img : ℕ → Page) (p g : ℕ → ℕ) where
  -- the frame at a locator that passes may reach to the pointer
  pub limit_here : (l : Locator) → Passes S F img p g l → S.fills ≡ true → limit_in S F p g l ≡ p l.extent
  limit_here l pass on = ap (λ (n : ℕ). reach S n l.page) (taken (g l.extent == l.generation)
      (eq-eqb (g l.extent) l.generation pass.generation)) ∙ reach_found S (p l.extent) l.page on pass.below
    where
      taken : (b : Bool) → b ≡ true → (if b then p l.extent else 0) ≡ p l.extent
      taken b is = rw is refl

  pub reads_own : (l : Locator) (bs : List Page) → Passes S F img p g l
      → (S.fills ≡ true → l.page + length bs ≤ p l.extent) → l.page + length bs ≤ S.pages
      → Stand S F img l.extent l.page bs → is_meant S l.mark bs ≡ true → is_long_frame F bs ≡ true
      → Reads S F (opening_in S F img p g) img p g l bs
  reads_own l bs pass end inside stand meant long = record {
    passes = pass;
    below = below_here S.fills refl;
    inside = inside;
    within = within_here S.fills refl;
    stand = stand;
    marked = meant;
    long = long;
  }
    where
      below_here : (b : Bool) → S.fills ≡ b → (l.page + length bs ≤ p l.extent)
          ⊎ ((i : ℕ) → ((g l.extent == l.generation) && nat_lt (if b then i else 0) (p l.extent)) ≡ true)
      below_here true on = inl (end on)
      below_here false off = inr (λ i. and_true (g l.extent == l.generation) (nat_lt 0 (p l.extent))
          (eq-eqb (g l.extent) l.generation pass.generation)
          (let below : l.page < p l.extent = pass.below in grind (arith, nat_tests)))

      within_here : (b : Bool) → S.fills ≡ b → l.page + length bs ≤ limit_in S F p g l
      within_here true on = le_trans (end on) (le_of_eq (sym (limit_here l pass on)))
      within_here false off = le_trans inside (le_of_eq (sym
          (reach_off S (if g l.extent == l.generation then p l.extent else 0) l.page off)))

  -- what is read there by what is known of another image is read by what this one says, where that freezes no whole extent
  pub own_reads : (opening : Opening) → (S.fills ≡ true → (e n : ℕ) → opening.frozen e S.pages n ≡ false) → (l : Locator)
      (bs : List Page) → Reads S F opening img p g l bs → Reads S F (opening_in S F img p g) img p g l bs
  own_reads opening thawed l bs r = reads_own l bs r.passes
      (λ on. ⊎_elim (λ (below : l.page + length bs ≤ p l.extent). below)
      (λ (fz : (i : ℕ) → opening.frozen l.extent i l.generation ≡ true). absurd
      (true≢false (sym (fz S.pages) ∙ thawed on l.extent l.generation))) r.below) r.inside r.stand r.marked r.long

-- by the pointers of a superblock too
pub limit_low : (S : Shape) (F : Formats) (p g : ℕ → ℕ) → ((e : ℕ) → p e ≤ S.pages) → (l : Locator)
    → limit_in S F p g l ≤ S.pages
limit_low S F p g low l = reach_low S (if g l.extent == l.generation then p l.extent else 0) l.page
    (either (g l.extent == l.generation))
  where
    either : (b : Bool) → (if b then p l.extent else 0) ≤ S.pages
    either true = low l.extent
    either false = omega arith

-- what is above all below a number is no less
pub no_less : (p q : ℕ → ℕ) → ((d k : ℕ) → k < p d → k < q d) → (d : ℕ) → p d ≤ q d
no_less p q grows d = go (p d) refl
  where
    go : (n : ℕ) → p d ≡ n → n ≤ q d
    go zero is = omega arith
    go (suc n) is = grows d n (omega arith)

-- two superblocks that agree on the pointer where a locator passes let its frame reach as far
pub limits_agree : (S : Shape) (F : Formats) (img : ℕ → Page) (p g q k : ℕ → ℕ) (l : Locator) → Passes S F img p g l
    → Passes S F img q k l → (S.fills ≡ true → p l.extent ≡ q l.extent) → limit_in S F p g l ≡ limit_in S F q k l
limits_agree S F img p g q k l here there agree = go S.fills refl
  where
    go : (c : Bool) → S.fills ≡ c → limit_in S F p g l ≡ limit_in S F q k l
    go true on = limit_here S F img p g l here on ∙ agree on ∙ sym (limit_here S F img q k l there on)
    go false off = reach_off S (if g l.extent == l.generation then p l.extent else 0) l.page off
        ∙ sym (reach_off S (if k l.extent == l.generation then q l.extent else 0) l.page off)

-- where a locator passes what is told of it is told by the pages to which its frame may reach
pub damage_here : (S : Shape) (F : Formats) (img : ℕ → Page) (p g : ℕ → ℕ) (l : Locator) → Passes S F img p g l
    → damage_in S F img p g l ≡ fault_for S F ChunkFrame l.mark ((opening_in S F img p g).pages l)
damage_here S F img p g l pass = taken ((g l.extent == l.generation) && nat_lt l.page (p l.extent))
    (and_true (g l.extent == l.generation) (nat_lt l.page (p l.extent))
    (eq-eqb (g l.extent) l.generation pass.generation) (lt-ltb l.page (p l.extent) pass.below))
  where
    taken : (b : Bool) → b ≡ true
        → (if b then fault_for S F ChunkFrame l.mark ((opening_in S F img p g).pages l) else None)
        ≡ fault_for S F ChunkFrame l.mark ((opening_in S F img p g).pages l)
    taken b is = rw is refl
