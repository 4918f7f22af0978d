-- The plain writes of a level are walked by their links, and the versions of a level added behind.
use Rattle.std.proofs.Common.{◌≡◌, ℕ, ◌+◌, ◌<◌, ◌≤◌, Bool, true, false, List, [], ◌∷◌, ◌++◌, get_or, Option, Some, refl, sym, ap, ◌∙◌, subst, inl, inr, ⊎_elim, arith}
use Rattle.std.specs.Prelude.{Contains, AllPairs, if◌then◌else◌, ◌==◌, ◌-◌}
use Rattle.std.proofs.lemmas.Bool.{cases_lt}
use Rattle.std.proofs.lemmas.Bool.Decides.{nat_tests}
use Rattle.std.proofs.lemmas.List.Elements.{Contains-push_cases, Contains-append_left, Contains-push, Contains-get_or}
use Rattle.std.proofs.lemmas.List.Quantifiers.{all_pairs_push}
use Rattle.cs_deps.specs.declared.elements.Element.{Element}
use Rattle.cs_deps.specs.declared.elements.Element.TheVariants.{Plain, Version}
use Rattle.cs_deps.specs.declared.levels.Kept.{Kept}
use Rattle.cs_deps.specs.Named.{IsPlain}
use Rattle.cs_deps.specs.Rounds.{IsListedBefore}
use Rattle.cs_deps.specs.Levels.{level_of, AreLinked, ArePlainsListed, ArePlainsBefore, AreVersionsListed}

push_pairs : (xs : List Element) (y : Element) → AllPairs IsListedBefore xs → ((x : Element) → Contains xs x → IsListedBefore x y) → AllPairs IsListedBefore (xs ++ y ∷ [])
push_pairs xs y pairs before = all_pairs_push IsListedBefore xs y pairs (λ k d lt. before (get_or xs k d) (Contains-get_or xs k d lt))

pub plains_more : (kept : Element → Option Kept) (ended level a : ℕ) (k : Kept) (xs : List Element) → AreLinked kept ended → ended < level → 0 < a → kept (Plain a) ≡ Some k → ArePlainsBefore kept level a xs → ArePlainsBefore kept level k.next (xs ++ Plain a ∷ [])
plains_more kept ended level a k xs links above some is before = record {
  plain = λ x c. ⊎_elim
      (λ (o : Contains xs x). let r = before.plain x o in (r.0, r.1, r.2, λ up. (let l = r.3 some in let t = (links.up a k is high up).0 in omega (arith, l, t))))
      (λ (e : Plain a ≡ x). (a, sym e, before.next some, λ up. (links.up a k is high up).0))
      (Contains-push_cases xs (Plain a) x c);
  all = λ m lv. ⊎_elim
      (λ (o : Contains xs (Plain m)). inl (Contains-append_left xs (Plain a ∷ []) (Plain m) o))
      (λ (o : (0 < a) × (a ≤ m)). ⊎_elim
      (λ (l : a < m). inr (links.passed a m k is high l (lv ∙ sym same)))
      (λ (l : m ≤ a). let e : a ≡ m = omega (arith, l, o.1) in inl (subst (λ u. Contains (xs ++ Plain a ∷ []) (Plain u)) e (Contains-push xs (Plain a))))
      (cases_lt a m))
      (before.all m lv);
  next = λ up. (links.up a k is high up).1 ∙ same;
  order = push_pairs xs (Plain a) before.order (λ x c. (let r = before.plain x c in subst (λ u. IsListedBefore u (Plain a)) (sym r.1) (r.3 some)));
}
  where
    same : k.level ≡ level
    same = sym (ap level_of is) ∙ before.next some

    high : ended < k.level
    high = omega (arith, same, above)

pub plains_done : (kept : Element → Option Kept) (level a : ℕ) (xs : List Element) → a ≡ 0 → ArePlainsBefore kept level a xs → ArePlainsListed kept level xs
plains_done kept level a xs z before = record {
  plain = λ x c. (let r = before.plain x c in (r.0, r.1, r.2));
  all = λ n lv. ⊎_elim (λ (o : Contains xs (Plain n)). o) (λ (o : (0 < a) × (a ≤ n)). absurd (omega (arith, o.0, z))) (before.all n lv);
  order = before.order;
}

-- the next one is nearer to the end
pub nearer : (a b last : ℕ) → 0 < a → a ≤ last → (0 < b → (a < b) × (b ≤ last)) → (if b == 0 then 0 else last - b + 1) < (if a == 0 then 0 else last - a + 1)
nearer a b last some top step = go (a == 0) refl (b == 0) refl
  where
    go : (p : Bool) → (a == 0) ≡ p → (q : Bool) → (b == 0) ≡ q → (if q then 0 else last - b + 1) < (if p then 0 else last - a + 1)
    go true e q f = absurd (let z : a ≡ 0 = grind (arith, nat_tests) in omega (arith, z, some))
    go false e true f = omega arith
    go false e false f = let up : 0 < b = grind (arith, nat_tests) in let r = step up in omega (arith, r.0, r.1, top)

pub versions_none : (old : List Element) (versions : List ℕ) → AreVersionsListed old versions 0 old
versions_none old versions = record {
  came = λ x c. inl c;
  old_there = λ x c. c;
  new_there = λ f lt. absurd (omega (arith, lt));
  order = λ plain ordered. ordered;
}

pub versions_skip : (old : List Element) (versions : List ℕ) (k : ℕ) (xs : List Element) → get_or versions k 0 ≡ 0 → AreVersionsListed old versions k xs → AreVersionsListed old versions (k + 1) xs
versions_skip old versions k xs z are = record {
  came = λ x c. ⊎_elim
      (λ (o : Contains old x). inl o)
      (λ (o : (f : ℕ) × (f < k) × (0 < get_or versions f 0) × (x ≡ Version f (get_or versions f 0))). inr (o.0, omega (arith, o.1), o.2, o.3))
      (are.came x c);
  old_there = are.old_there;
  new_there = λ f lt up. ⊎_elim
      (λ (l : f < k). are.new_there f l up)
      (λ (l : k ≤ f). let e : f ≡ k = omega (arith, l, lt) in absurd (omega (arith, ap (λ u. get_or versions u 0) e, z, up)))
      (cases_lt f k);
  order = are.order;
}

pub versions_more : (old : List Element) (versions : List ℕ) (k : ℕ) (xs : List Element) → 0 < get_or versions k 0 → AreVersionsListed old versions k xs → AreVersionsListed old versions (k + 1) (xs ++ Version k (get_or versions k 0) ∷ [])
versions_more old versions k xs some are = record {
  came = λ x c. ⊎_elim
      (λ (o : Contains xs x). ⊎_elim
      (λ (o : Contains old x). inl o)
      (λ (o : (f : ℕ) × (f < k) × (0 < get_or versions f 0) × (x ≡ Version f (get_or versions f 0))). inr (o.0, omega (arith, o.1), o.2, o.3))
      (are.came x o))
      (λ (e : Version k (get_or versions k 0) ≡ x). inr (k, omega arith, some, sym e))
      (Contains-push_cases xs (Version k (get_or versions k 0)) x c);
  old_there = λ x c. Contains-append_left xs (Version k (get_or versions k 0) ∷ []) x (are.old_there x c);
  new_there = λ f lt up. ⊎_elim
      (λ (l : f < k). Contains-append_left xs (Version k (get_or versions k 0) ∷ []) (Version f (get_or versions f 0)) (are.new_there f l up))
      (λ (l : k ≤ f). let e : k ≡ f = omega (arith, l, lt) in subst (λ u. Contains (xs ++ Version k (get_or versions k 0) ∷ []) (Version u (get_or versions u 0))) e (Contains-push xs (Version k (get_or versions k 0))))
      (cases_lt f k);
  order = λ plain ordered. push_pairs xs (Version k (get_or versions k 0)) (are.order plain ordered) (λ x c. ⊎_elim
      (λ (o : Contains old x). before_version x (plain x o))
      (λ (o : (f : ℕ) × (f < k) × (0 < get_or versions f 0) × (x ≡ Version f (get_or versions f 0))). subst (λ u. IsListedBefore u (Version k (get_or versions k 0))) (sym o.3) o.1)
      (are.came x c));
}
  where
    before_version : (x : Element) → IsPlain x → IsListedBefore x (Version k (get_or versions k 0))
    before_version (Plain n) p = p
    before_version (Version g w) p = absurd p
