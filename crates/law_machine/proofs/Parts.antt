-- Members of a list, functions changed at one place, and sets of elements as more is staged.
use Rattle.std.proofs.Common.{◌≡◌, ◌≢◌, inl, inr, ℕ, ◌≤◌, Bool, true, false, ◌&&◌, if◌then◌else◌, List, ◌∷◌, ◌==◌, le_refl, le_trans, true≢false, refl, sym, subst, arith}
use Rattle.std.proofs.lemmas.Bool.{cases_eq}
use Rattle.std.proofs.lemmas.Bool.Decides.{nat_tests}
use Rattle.law_machine.specs.Cut.{Cut, Exact, page_in}
use Rattle.law_machine.specs.Device.{Page}
use Rattle.law_machine.specs.Element.{Log, Root, Superblock, Write}
use Rattle.law_machine.specs.Lists.{with, ◌∈◌}
use Rattle.law_machine.specs.Safe.{IsNoLater}

-- what holds of the new element and of the old ones holds of all
pub each : {A : Type 0} (P : A → Type 0) (y : A) (ys : List A) → P y → ((x : A) → x ∈ ys → P x) → (x : A)
    → x ∈ (y ∷ ys) → P x
each P y ys new old x (inl is) = subst P (sym is) new
each P y ys new old x (inr has) = old x has

-- the same of two, either of which may be the new one
pub each_two : {A : Type 0} (P : A → A → Type 0) (y : A) (ys : List A) → P y y → ((x : A) → x ∈ ys → P y x)
    → ((x : A) → x ∈ ys → P x y) → ((x z : A) → x ∈ ys → z ∈ ys → P x z) → (x z : A)
    → x ∈ (y ∷ ys) → z ∈ (y ∷ ys) → P x z
each_two P y ys both first second old x z is_x is_z = each (λ x. P x z) y ys
    (each (λ z. P y z) y ys both first z is_z)
    (λ x has. each (λ z. P x z) y ys (second x has) (λ z has_z. old x z has has_z) z is_z) x is_x

-- the false rule isn't the true one
pub not_apart : {A : Type 0} → false ≡ true → A
not_apart wrong = absurd (true≢false (sym wrong))

pub with_same : (f : ℕ → ℕ) (e v x : ℕ) → x ≡ e → with f e v x ≡ v
with_same f e v x is = let test : (x == e) ≡ true = grind (arith, nat_tests) in rw test

pub with_other : (f : ℕ → ℕ) (e v x : ℕ) → x ≢ e → with f e v x ≡ f x
with_other f e v x not = let test : (x == e) ≡ false = grind (arith, nat_tests) in rw test

-- what holds of the new value there, and of the old one elsewhere, holds at each place
pub with_case : (P : ℕ → Type 0) (f : ℕ → ℕ) (e v x : ℕ) → (x ≡ e → P v) → (x ≢ e → P (f x)) → P (with f e v x)
with_case P f e v x there elsewhere = elim (cases_eq x e) [
  | inl is ↦ subst P (sym (with_same f e v x is)) (there is)
  | inr not ↦ subst P (sym (with_other f e v x not)) (elsewhere not)
]

pub grows : (f : ℕ → ℕ) (e v x : ℕ) → f e ≤ v → f x ≤ with f e v x
grows f e v x up = with_case (λ n. f x ≤ n) f e v x (λ is. subst (λ (y : ℕ). f y ≤ v) (sym is) up) (λ not. le_refl _)

pub with_below : (f : ℕ → ℕ) (e v x n : ℕ) → v ≤ n → f x ≤ n → with f e v x ≤ n
with_below f e v x n new old = with_case (λ m. m ≤ n) f e v x (λ is. new) (λ not. old)

-- what either choice keeps to, the chosen one does
pub chosen_below : (b : Bool) (x y n : ℕ) → x ≤ n → y ≤ n → (if b then x else y) ≤ n
chosen_below true x y n first second = first
chosen_below false x y n first second = second

pub below_chosen : (b : Bool) (x y n : ℕ) → (b ≡ true → n ≤ x) → (b ≡ false → n ≤ y) → n ≤ (if b then x else y)
below_chosen true x y n first second = first refl
below_chosen false x y n first second = second refl

pub page_skips : (X : Cut) (opened : ℕ → Page) (w : Write) (ws : List Write) (p : ℕ) → X.writes w.number ≡ false
    → page_in X opened (w ∷ ws) p ≡ page_in X opened ws p
page_skips X opened w ws p not = rw (not, and_false (w.page == p))
  where
    and_false : (b : Bool) → (b && false) ≡ false
    and_false true = refl
    and_false false = refl

-- what is staged stays so
pub still_staged : {written more : ℕ} {versions later : ℕ → ℕ} {last root : ℕ} {X : Cut}
    → IsNoLater written versions last X → written ≤ more → ((j : ℕ) → versions j ≤ later j) → last ≤ root
    → IsNoLater more later root X
still_staged is a b c = record {
  writes = λ n has. le_trans (is.writes n has) a;
  superblocks = λ j. le_trans (is.superblocks j) (b j);
  root = le_trans is.root c;
}

pub still_exact : {sections : ℕ} {log more : Log} {X : Cut} → Exact sections log X
    → ((u : Superblock) → u ∈ log.superblocks → u ∈ more.superblocks)
    → ((r : Root) → r ∈ log.roots → r ∈ more.roots) → Exact sections more X
still_exact is superblocks roots = record {
  superblock = is.superblock;
  superblocks = λ j lt. (let old = is.superblocks j lt in (superblocks _ old.0, old.1, old.2));
  root = (is.root.0, roots _ is.root.1, is.root.2);
}
