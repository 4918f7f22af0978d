-- How many identifiers are named, and how many chunks a shard has.
use Rattle.std.proofs.Common.{◌≡◌, ◌≢◌, ◌⊎◌, inl, inr, ⊎_elim, ℕ, zero, suc, ◌+◌, ◌*◌, ◌<◌, ◌≤◌, true, false, List, [], ◌∷◌, length, length-append, Option, Some, None, if◌then◌else◌, ◌==◌, eq-eqb, ne_eqb, true≢false, le_trans, le_refl, le_of_eq, refl, sym, ap, ◌∙◌, subst, arith}
use Rattle.std.specs.Prelude.{is_some}
use Rattle.std.proofs.lemmas.Bool.{cases_eq, cases_lt, cases_Bool}
use Rattle.law_machine.specs.Element.{Entry, Locator}
use Rattle.law_machine.specs.Events.{AllFullButLast}
use Rattle.law_machine.specs.Index.{Ascending, joined, lookup, names}
use Rattle.law_machine.specs.Lists.{◌∈◌}

-- the entries but for those of an identifier
abbrev pub without : ℕ → List Entry → List Entry
without id [] = []
without id (x ∷ xs) = if x.id == id then without id xs else x ∷ without id xs

pub lookup_here : (x : Entry) (xs : List Entry) (id : ℕ) → x.id ≡ id → lookup id (x ∷ xs) ≡ Some x.locators
lookup_here x xs id is = let test : (x.id == id) ≡ true = eq-eqb x.id id is in rw test

pub lookup_there : (x : Entry) (xs : List Entry) (id : ℕ) → x.id ≢ id → lookup id (x ∷ xs) ≡ lookup id xs
lookup_there x xs id not = let test : (x.id == id) ≡ false = ne_eqb x.id id not in rw test

pub without_here : (x : Entry) (xs : List Entry) (id : ℕ) → x.id ≡ id → without id (x ∷ xs) ≡ without id xs
without_here x xs id is = let test : (x.id == id) ≡ true = eq-eqb x.id id is in rw test

pub without_there : (x : Entry) (xs : List Entry) (id : ℕ) → x.id ≢ id → without id (x ∷ xs) ≡ x ∷ without id xs
without_there x xs id not = let test : (x.id == id) ≡ false = ne_eqb x.id id not in rw test

pub without_other : (id k : ℕ) (xs : List Entry) → k ≢ id → lookup k (without id xs) ≡ lookup k xs
without_other id k [] not = refl
without_other id k (x ∷ xs) not = elim (cases_eq x.id id) [
  | inl is ↦ ap (lookup k) (without_here x xs id is) ∙ without_other id k xs not
      ∙ sym (lookup_there x xs k (λ same. not (sym same ∙ is)))
  | inr other ↦ ap (lookup k) (without_there x xs id other) ∙ elim (cases_eq x.id k) [
    | inl here ↦ lookup_here x (without id xs) k here ∙ sym (lookup_here x xs k here)
    | inr there ↦ lookup_there x (without id xs) k there ∙ without_other id k xs not ∙ sym (lookup_there x xs k there)
  ]
]

names_old : (x : Entry) (xs : List Entry) → is_some (lookup x.id xs) ≡ true → names (x ∷ xs) ≡ names xs
names_old x xs is = rw is

names_new : (x : Entry) (xs : List Entry) → is_some (lookup x.id xs) ≡ false → names (x ∷ xs) ≡ suc (names xs)
names_new x xs not = rw not

names_up : (x : Entry) (xs : List Entry) → names xs ≤ names (x ∷ xs)
names_up x xs = elim (cases_Bool (is_some (lookup x.id xs))) [
  | inl old ↦ le_of_eq (sym (names_old x xs old))
  | inr new ↦ (let e : names (x ∷ xs) ≡ suc (names xs) = names_new x xs new in omega arith)
]

fewer : (id : ℕ) (xs : List Entry) → names (without id xs) ≤ names xs
fewer id [] = omega arith
fewer id (x ∷ xs) = elim (cases_eq x.id id) [
  | inl is ↦ le_trans (le_of_eq (ap names (without_here x xs id is))) (le_trans (fewer id xs) (names_up x xs))
  | inr other ↦ (let rest : names (without id xs) ≤ names xs = fewer id xs in
      let same : lookup x.id (without id xs) ≡ lookup x.id xs = without_other id x.id xs other in
      le_trans (le_of_eq (ap names (without_there x xs id other))) (elim (cases_Bool (is_some (lookup x.id xs))) [
        | inl old ↦ le_trans
            (le_of_eq (names_old x (without id xs) (ap (λ (o : Option (List Locator)). is_some o) same ∙ old)))
            (le_trans rest (le_of_eq (sym (names_old x xs old))))
        | inr new ↦ (let a : names (x ∷ without id xs) ≡ suc (names (without id xs)) = names_new x (without id xs)
            (ap (λ (o : Option (List Locator)). is_some o) same ∙ new) in
            let b : names (x ∷ xs) ≡ suc (names xs) = names_new x xs new in omega arith)
      ]))
]

one_fewer : (id : ℕ) (xs : List Entry) → is_some (lookup id xs) ≡ true → names (without id xs) < names xs
one_fewer id [] is = absurd (true≢false (sym is))
one_fewer id (x ∷ xs) is = elim (cases_eq x.id id) [
  | inl here ↦ (let cut : names (without id (x ∷ xs)) ≡ names (without id xs) = ap names
      (without_here x xs id here) in elim (cases_Bool (is_some (lookup id xs))) [
        | inl more ↦ (let rest : names (without id xs) < names xs = one_fewer id xs more in
            let up : names xs ≤ names (x ∷ xs) = names_up x xs in omega arith)
        | inr last ↦ (let rest : names (without id xs) ≤ names xs = fewer id xs in
            let e : names (x ∷ xs) ≡ suc (names xs) = names_new x xs
            (subst (λ (i : ℕ). is_some (lookup i xs) ≡ false) (sym here) last) in omega arith)
      ])
  | inr other ↦ (let rest : names (without id xs) < names xs = one_fewer id xs
      (ap (λ (o : Option (List Locator)). is_some o) (sym (lookup_there x xs id other)) ∙ is) in
      let same : lookup x.id (without id xs) ≡ lookup x.id xs = without_other id x.id xs other in
      let cut : names (without id (x ∷ xs)) ≡ names (x ∷ without id xs) = ap names (without_there x xs id other) in
      elim (cases_Bool (is_some (lookup x.id xs))) [
        | inl old ↦ (let a : names (x ∷ without id xs) ≡ names (without id xs) = names_old x (without id xs)
            (ap (λ (o : Option (List Locator)). is_some o) same ∙ old) in
            let b : names (x ∷ xs) ≡ names xs = names_old x xs old in omega arith)
        | inr new ↦ (let a : names (x ∷ without id xs) ≡ suc (names (without id xs)) = names_new x (without id xs)
            (ap (λ (o : Option (List Locator)). is_some o) same ∙ new) in
            let b : names (x ∷ xs) ≡ suc (names xs) = names_new x xs new in omega arith)
      ])
]

-- a list that names no more names no more
pub names_le : (xs ys : List Entry) → ((id : ℕ) → is_some (lookup id xs) ≡ true → is_some (lookup id ys) ≡ true)
    → names xs ≤ names ys
names_le [] ys sub = omega arith
names_le (x ∷ xs) ys sub = elim (cases_Bool (is_some (lookup x.id xs))) [
  | inl old ↦ le_trans (le_of_eq (names_old x xs old)) (names_le xs ys (λ id is. sub id (more id is)))
  | inr new ↦ (
      let rest : names xs ≤ names (without x.id ys) = names_le xs (without x.id ys)
      (λ id is. ap (λ (o : Option (List Locator)). is_some o)
      (without_other x.id id ys
      (λ same. true≢false (sym is ∙ ap (λ (i : ℕ). is_some (lookup i xs)) same ∙ new))) ∙ sub id (more id is)) in
      let here : is_some (lookup x.id ys) ≡ true = sub x.id
      (ap (λ (o : Option (List Locator)). is_some o) (lookup_here x xs x.id refl)) in
      let less : names (without x.id ys) < names ys = one_fewer x.id ys here in
      let e : names (x ∷ xs) ≡ suc (names xs) = names_new x xs new in omega arith)
]
  where
    more : (id : ℕ) → is_some (lookup id xs) ≡ true → is_some (lookup id (x ∷ xs)) ≡ true
    more id is = elim (cases_eq x.id id) [
      | inl here ↦ ap (λ (o : Option (List Locator)). is_some o) (lookup_here x xs id here)
      | inr there ↦ ap (λ (o : Option (List Locator)). is_some o) (lookup_there x xs id there) ∙ is
    ]

-- ascending entries have an identifier each
pub none_below : (x : Entry) (xs : List Entry) (id : ℕ) → Ascending (x ∷ xs) → id ≤ x.id → lookup id xs ≡ None
none_below x [] id order le = refl
none_below x (y ∷ ys) id order le =
    (let lt : x.id < y.id = order.0 in lookup_there y ys id (λ same. absurd (omega arith))
    ∙ none_below y ys id order.1 (omega arith))

pub ascending_tail : (x : Entry) (xs : List Entry) → Ascending (x ∷ xs) → Ascending xs
ascending_tail x [] order = tt
ascending_tail x (y ∷ ys) order = order.1

pub ascending_names : (xs : List Entry) → Ascending xs → names xs ≡ length xs
ascending_names [] order = refl
ascending_names (x ∷ xs) order = names_new x xs
    (ap (λ (o : Option (List Locator)). is_some o) (none_below x xs x.id order (le_refl _)))
    ∙ ap suc (ascending_names xs (ascending_tail x xs order))

pub above_head : (x y : Entry) (xs : List Entry) → Ascending (x ∷ xs) → y ∈ xs → x.id < y.id
above_head x y [] order none = absurd none
above_head x y (z ∷ zs) order (inl is) = subst (λ (v : Entry). x.id < v.id) (sym is) order.0
above_head x y (z ∷ zs) order (inr has) =
    (let a : x.id < z.id = order.0 in let b : z.id < y.id = above_head z y zs order.1 has in omega arith)

pub ascending_lookup : (xs : List Entry) (y : Entry) → Ascending xs → y ∈ xs → lookup y.id xs ≡ Some y.locators
ascending_lookup [] y order none = absurd none
ascending_lookup (x ∷ xs) y order (inl is) = lookup_here x xs y.id (ap (λ (v : Entry). v.id) (sym is))
    ∙ ap (λ (v : Entry). Some v.locators) (sym is)
ascending_lookup (x ∷ xs) y order (inr has) = lookup_there x xs y.id
    (λ same. let lt : x.id < y.id = above_head x y xs order has in absurd (omega arith))
    ∙ ascending_lookup xs y (ascending_tail x xs order) has

-- chunks
mul_le : (a b m : ℕ) → a ≤ b → a * m ≤ b * m
mul_le zero b m le = omega arith
mul_le (suc a) zero m le = absurd (omega arith)
mul_le (suc a) (suc b) m le = (let rest : a * m ≤ b * m = mul_le a b m (omega arith) in omega arith)

some_bytes : (d : List ℕ) → d ≢ [] → 0 < length d
some_bytes [] not = absurd (not refl)
some_bytes (x ∷ d) not = omega arith

full : (most : ℕ) (c : List ℕ) (cs : List (List ℕ)) → AllFullButLast most (c ∷ cs) → (cs ≡ [])
    ⊎ (length cs * most < length (joined (c ∷ cs)))
full most c [] all = inl refl
full most c (d ∷ cs) all = inr (
    let whole : length (joined (c ∷ d ∷ cs)) ≡ length c + length (joined (d ∷ cs)) = length-append c
    (joined (d ∷ cs)) in
    let here : length c ≡ most = all.0 in
    let more : length (joined (d ∷ cs)) ≡ length d + length (joined cs) = length-append d (joined cs) in
    let some : 0 < length d = some_bytes d all.1 in
    ⊎_elim
    (λ (none : cs ≡ []). let l : length cs ≡ 0 = ap length none in
    let z : length cs * most ≡ 0 * most = ap (λ (n : ℕ). n * most) l in omega arith)
    (λ (rest : length cs * most < length (joined (d ∷ cs))). omega arith)
    (full most d cs all.2))

pub few_chunks : (most limit : ℕ) (bytes : List ℕ) (cs : List (List ℕ)) → 0 < limit → AllFullButLast most cs
    → joined cs ≡ bytes → length bytes ≤ limit * most → length cs ≤ limit
few_chunks most limit bytes [] some all is small = omega arith
few_chunks most limit bytes (c ∷ cs) some all is small = ⊎_elim
    (λ (none : cs ≡ []). let l : length cs ≡ 0 = ap length none in omega arith)
    (λ (more : length cs * most < length (joined (c ∷ cs))). ⊎_elim
    (λ (lt : length cs < limit). lt)
    (λ (ge : limit ≤ length cs). absurd
    (let up : limit * most ≤ length cs * most = mul_le limit (length cs) most ge in
    let e : length (joined (c ∷ cs)) ≡ length bytes = ap length is in omega arith))
    (cases_lt (length cs) limit))
    (full most c cs all)
