-- Elements that follow one another.
use Rattle.std.proofs.Common.{◌≡◌, ◌∙◌, ℕ, ◌+◌, ◌<◌, ◌≤◌, ◌⊎◌, List, length, Some, slice_get, sym, ap, subst, inl, inr, ⊎_elim, arith, Result, IfOk, Ok, Err}
use Rattle.std.specs.Prelude.{◌↔◌}
use Rattle.std.proofs.lemmas.Bool.{cases_lt}
use Rattle.std.proofs.lemmas.Option.{slice_get_within, slice_get-get_or, get_or_from_slice_get, same_Some}
use Rattle.cs_deps.specs.declared.elements.Element.{Element}
use Rattle.cs_deps.specs.declared.elements.Element.TheVariants.{Plain, Version}
use Rattle.cs_deps.specs.Named.{Named, Names, IsPlain}
use Rattle.cs_deps.proofs.Within.{below_next}
use Rattle.cs_check.specs.Documents.{NamesToo}
use Rattle.cs_check.specs.Progress.{Follows, IsBetween, IsRun, IsRunTo, number_of}

abbrev pub Begins : ℕ → Element → Type 0
Begins first x = first ≤ number_of x ⊎ (IsPlain x → ⊥)

begins_next : (first : ℕ) (last x : Element) → Begins first last → Follows last x → Begins first x
begins_next first (Plain l) (Plain n) b f = ⊎_elim (λ (le : first ≤ l). inl (omega (arith, le, f.0))) (λ (no : Unit {0} → ⊥). absurd (no tt)) b
begins_next first (Version c v) (Version h w) b f = inr (λ p. p)
begins_next first (Plain l) (Version h w) b f = absurd f
begins_next first (Version c v) (Plain n) b f = absurd f

-- what the run names is named still, and so is what the next element names
wider : (first : ℕ) (last x y : Element) → Follows last x → IsBetween first last y → IsBetween first x y
wider first (Plain l) (Plain n) (Plain m) f b = (b.0, omega (arith, b.1, f.0))
wider first (Version c v) (Version h w) (Version k u) f b = (b.0 ∙ f.0, b.1, omega (arith, b.2, f.1))
wider first (Plain l) (Plain n) (Version k u) f b = absurd b
wider first (Version c v) (Version h w) (Plain m) f b = absurd b
wider first (Plain l) (Version h w) y f b = absurd f
wider first (Version c v) (Plain n) y f b = absurd f

itself : (first : ℕ) (x y : Element) → Begins first x → NamesToo x y → IsBetween first x y
itself first (Plain n) (Plain m) b s = ⊎_elim (λ (le : first ≤ n). (omega (arith, le, s), omega (arith, s))) (λ (no : Unit {0} → ⊥). absurd (no tt)) b
itself first (Version f v) (Version h w) b s = s
itself first (Plain n) (Version h w) b s = absurd s
itself first (Version f v) (Plain m) b s = absurd s

-- what is named now was named before, or is named by the next element
narrower : (first : ℕ) (last x y : Element) → Follows last x → IsBetween first x y → IsBetween first last y ⊎ NamesToo x y
narrower first (Plain l) (Plain n) (Plain m) f b = ⊎_elim (λ (le : m < l + 1). inl (b.0, omega (arith, le))) (λ (gt : l + 1 ≤ m). inr (omega (arith, gt, b.1, f.1))) (cases_lt m (l + 1))
narrower first (Version c v) (Version h w) (Version k u) f b = inr b
narrower first (Plain l) (Plain n) (Version k u) f b = absurd b
narrower first (Version c v) (Version h w) (Plain m) f b = absurd b
narrower first (Plain l) (Version h w) y f b = absurd f
narrower first (Version c v) (Plain n) y f b = absurd f

alone : (x y : Element) → IsBetween (number_of x) x y → NamesToo x y
alone (Plain n) (Plain m) b = omega (arith, b.0, b.1)
alone (Version f v) (Version h w) b = b
alone (Plain n) (Version h w) b = absurd b
alone (Version f v) (Plain m) b = absurd b

begins_alone : (x : Element) → Begins (number_of x) x
begins_alone x = inl (omega arith)

pub plain_run : (d : Named) (first l : ℕ) → ((n : ℕ) → Names d (Plain n) ↔ ((first ≤ n) × (n ≤ l))) → ((f v : ℕ) → Names d (Version f v) → ⊥) → (y : Element) → Names d y ↔ IsBetween first (Plain l) y
plain_run d first l plain version (Plain n) = plain n
plain_run d first l plain version (Version f v) = ((λ n. version f v n), (λ b. absurd b))

pub version_run : {E : Type 0} (first f v : ℕ) (r : Result Named E) → IfOk r (λ d. (n : ℕ) → Names d (Plain n) → ⊥) → IfOk r (λ d. (g w : ℕ) → Names d (Version g w) ↔ ((g ≡ f) × (1 ≤ w) × (w ≤ v))) → IfOk r (λ d. (y : Element) → Names d y ↔ IsBetween first (Version f v) y)
version_run first f v (Ok d) plain version = each
  where
    each : (y : Element) → Names d y ↔ IsBetween first (Version f v) y
    each (Plain n) = ((λ h. plain n h), (λ h. absurd h))
    each (Version g w) = version g w
version_run first f v (Err e) plain version = tt

pub run_one : (xs : List Element) (x : Element) → slice_get xs 0 ≡ Some x → IsRunTo xs 1 (number_of x) x
run_one xs x at = record {
  begins = begins_alone x;
  names = λ y. (
    (λ n.
        let place : n.1.0 ≡ 0 = omega (arith, n.1.1) in
        let same : n.0 ≡ x = same_Some n.0 x (sym n.1.2 ∙ ap (λ i. slice_get xs i) place ∙ at) in
        itself (number_of x) x y (begins_alone x) (subst (λ z. NamesToo z y) same n.2)),
    (λ b. (x, (0, omega arith, at), alone x y b)),
  );
}

pub run_next : (xs : List Element) (i first : ℕ) (last x : Element) → slice_get xs i ≡ Some x → Follows last x → IsRunTo xs i first last → IsRunTo xs (i + 1) first x
run_next xs i first last x at follows run = record {
  begins = begins_next first last x run.begins follows;
  names = λ y. (
    (λ n. ⊎_elim
        (λ (l : n.1.0 < i). wider first last x y follows ((run.names y).0 (n.0, (n.1.0, l, n.1.2), n.2)))
        (λ (s : n.1.0 ≡ i).
        let same : n.0 ≡ x = same_Some n.0 x (sym n.1.2 ∙ ap (λ k. slice_get xs k) s ∙ at) in
        itself first x y (begins_next first last x run.begins follows) (subst (λ z. NamesToo z y) same n.2))
        (below_next n.1.0 i n.1.1)),
    (λ b. ⊎_elim
        (λ (o : IsBetween first last y). let n = (run.names y).1 o in (n.0, (n.1.0, omega (arith, n.1.1), n.1.2), n.2))
        (λ (s : NamesToo x y). (x, (i, omega arith, at), s))
        (narrower first last x y follows b)),
  );
}

pub run_whole : (xs : List Element) (i first : ℕ) (last : Element) → length xs ≤ i → IsRunTo xs i first last → IsRun xs first last
run_whole xs i first last le run y = (
  (λ n. (run.names y).0 (n.0, (n.1.0, omega (arith, n.1.1, le), slice_get-get_or xs n.1.0 n.0 n.1.1 ∙ ap Some n.1.2), n.2)),
  (λ b.
      let n = (run.names y).1 b in
      (n.0, (n.1.0, slice_get_within xs n.1.0 n.0 n.1.2, get_or_from_slice_get xs n.1.0 n.0 n.0 n.1.2), n.2)),
)
