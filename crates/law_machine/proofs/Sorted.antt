-- The entries of a run: there is one list of them.
use Rattle.std.proofs.Common.{◌≡◌, ◌≢◌, inl, inr, ⊎_elim, ℕ, ◌<◌, List, [], ◌∷◌, Some, None, refl, sym, ap, ap₂, ◌∙◌, subst, arith}
use Rattle.std.proofs.lemmas.Bool.{cases_eq, cases_lt}
use Rattle.law_machine.proofs.Counting.{lookup_here, lookup_there, none_below, ascending_tail, above_head}
use Rattle.law_machine.specs.Element.{Entry, Locator}
use Rattle.law_machine.specs.Index.{Ascending, if_live, lookup}
use Rattle.law_machine.specs.Lists.{◌∈◌}

ascending_cons : (x : Entry) (ys : List Entry) → Ascending ys → ((y : Entry) → y ∈ ys → x.id < y.id)
    → Ascending (x ∷ ys)
ascending_cons x [] order above = tt
ascending_cons x (y ∷ ys) order above = (above y (inl refl), order)

-- x in place of the entry of its identifier, or between those around it
pub record Inserted (x : Entry) (ys zs : List Entry) : Type 0 where
  pub order : Ascending zs
  pub lookups : (id : ℕ) → lookup id zs ≡ lookup id (x ∷ ys)
  pub above : (n : ℕ) → n < x.id → ((y : Entry) → y ∈ ys → n < y.id) → (z : Entry) → z ∈ zs → n < z.id

inserted : (x : Entry) (ys : List Entry) → Ascending ys → (zs : List Entry) × Inserted x ys zs
inserted x [] order = (
  x ∷ [],
  record {
    order = tt;
    lookups = λ id. refl;
    above = λ n lt all z has. ⊎_elim (λ (is : z ≡ x). subst (λ (e : Entry). n < e.id) (sym is) lt)
        (λ none. absurd none) has;
  },
)
inserted x (y ∷ ys) order = elim (cases_lt x.id y.id) [
  | inl lt ↦ (
    x ∷ y ∷ ys,
    record {
      order = (lt, order);
      lookups = λ id. refl;
      above = λ n small all z has. ⊎_elim (λ (is : z ≡ x). subst (λ (e : Entry). n < e.id) (sym is) small)
          (λ more. all z more) has;
    },
  )
  | inr le ↦ elim (cases_eq x.id y.id) [
    | inl same ↦ (
      x ∷ ys,
      record {
        order = ascending_cons x ys (ascending_tail y ys order)
            (λ z has. subst (λ (n : ℕ). n < z.id) (sym same) (above_head y z ys order has));
        lookups = λ id. elim (cases_eq x.id id) [
          | inl here ↦ lookup_here x ys id here ∙ sym (lookup_here x (y ∷ ys) id here)
          | inr there ↦ lookup_there x ys id there
              ∙ sym (lookup_there x (y ∷ ys) id there ∙ lookup_there y ys id (λ is. there (same ∙ is)))
        ];
        above = λ n small all z has. ⊎_elim (λ (is : z ≡ x). subst (λ (e : Entry). n < e.id) (sym is) small)
            (λ more. all z (inr more)) has;
      },
    )
    | inr not ↦ (
        let lt : y.id < x.id = omega arith in
        let rest = inserted x ys (ascending_tail y ys order) in (
          y ∷ rest.0,
          record {
            order = ascending_cons y rest.0 rest.1.order (rest.1.above y.id lt (λ z has. above_head y z ys order has));
            lookups = λ id. elim (cases_eq y.id id) [
              | inl here ↦ lookup_here y rest.0 id here
                  ∙ sym (lookup_there x (y ∷ ys) id (λ is. not (is ∙ sym here)) ∙ lookup_here y ys id here)
              | inr there ↦ lookup_there y rest.0 id there ∙ rest.1.lookups id ∙ over id there
            ];
            above = λ n small all z has. ⊎_elim
                (λ (is : z ≡ y). subst (λ (e : Entry). n < e.id) (sym is) (all y (inl refl)))
                (λ more. rest.1.above n small (λ e in_ys. all e (inr in_ys)) z more) has;
          },
        ))
  ]
]
  where
    over : (id : ℕ) → y.id ≢ id → lookup id (x ∷ ys) ≡ lookup id (x ∷ y ∷ ys)
    over id there = elim (cases_eq x.id id) [
      | inl is ↦ lookup_here x ys id is ∙ sym (lookup_here x (y ∷ ys) id is)
      | inr not ↦ lookup_there x ys id not ∙ sym (lookup_there x (y ∷ ys) id not ∙ lookup_there y ys id there)
    ]

-- a list of entries in ascending order
pub sorted : (xs : List Entry) → (zs : List Entry) × Ascending zs × ((id : ℕ) → lookup id zs ≡ lookup id xs)
sorted [] = ([], tt, λ id. refl)
sorted (x ∷ xs) =
    let rest = sorted xs in
    let new = inserted x rest.0 rest.1 in (
      new.0,
      new.1.order,
      λ id. new.1.lookups id ∙ elim (cases_eq x.id id) [
        | inl here ↦ lookup_here x rest.0 id here ∙ sym (lookup_here x xs id here)
        | inr there ↦ lookup_there x rest.0 id there ∙ rest.2 id ∙ sym (lookup_there x xs id there)
      ],
    )

-- what is live of them
pub record Living (zs ws : List Entry) : Type 0 where
  pub order : Ascending ws
  pub lookups : (id : ℕ) → lookup id ws ≡ if_live (lookup id zs)
  pub among : (w : Entry) → w ∈ ws → w ∈ zs

living_step : (z : Entry) (zs : List Entry) (ls : List Locator) → z.locators ≡ ls → Ascending (z ∷ zs)
    → (ws : List Entry) → Living zs ws → (us : List Entry) × Living (z ∷ zs) us
living_step z zs [] is order ws rest = (
  ws,
  record {
    order = rest.order;
    among = λ w has. inr (rest.among w has);
    lookups = λ id. elim (cases_eq z.id id) [
      | inl here ↦ rest.lookups id ∙ ap if_live (none_below z zs id order (omega arith))
          ∙ ap (λ (k : List Locator). if_live (Some k)) (sym is) ∙ ap if_live (sym (lookup_here z zs id here))
      | inr there ↦ rest.lookups id ∙ ap if_live (sym (lookup_there z zs id there))
    ];
  },
)
living_step z zs (l ∷ ls) is order ws rest = (
  z ∷ ws,
  record {
    order = ascending_cons z ws rest.order (λ w has. above_head z w zs order (rest.among w has));
    among = λ w has. ⊎_elim (λ (same : w ≡ z). inl same) (λ more. inr (rest.among w more)) has;
    lookups = λ id. elim (cases_eq z.id id) [
      | inl here ↦ lookup_here z ws id here ∙ ap (λ (k : List Locator). Some k) is
          ∙ ap (λ (k : List Locator). if_live (Some k)) (sym is) ∙ ap if_live (sym (lookup_here z zs id here))
      | inr there ↦ lookup_there z ws id there ∙ rest.lookups id ∙ ap if_live (sym (lookup_there z zs id there))
    ];
  },
)

living : (zs : List Entry) → Ascending zs → (ws : List Entry) × Living zs ws
living [] order = ([], record { order = tt; lookups = λ id. refl; among = λ w none. none })
living (z ∷ zs) order = let rest = living zs (ascending_tail z zs order) in
    living_step z zs z.locators refl order rest.0 rest.1

pub sorted_live : (xs : List Entry) → (ws : List Entry) × Ascending ws
    × ((id : ℕ) → lookup id ws ≡ if_live (lookup id xs))
sorted_live xs = let all = sorted xs in let some = living all.0 all.1 in
    (some.0, some.1.order, λ id. some.1.lookups id ∙ ap if_live (all.2 id))

below_none : (x y : Entry) (ys : List Entry) → Ascending (y ∷ ys) → x.id < y.id → lookup x.id (y ∷ ys) ≡ None
below_none x y ys order lt = lookup_there y ys x.id (λ is. omega arith) ∙ none_below y ys x.id order (omega arith)

-- entries in ascending order are given by what is looked up in them
pub one_sorted : (xs ys : List Entry) → Ascending xs → Ascending ys → ((id : ℕ) → lookup id xs ≡ lookup id ys) → xs ≡ ys
one_sorted [] [] a b same = refl
one_sorted [] (y ∷ ys) a b same = absurd (let e : None ≡ Some y.locators = same y.id ∙ lookup_here y ys y.id refl in cc)
one_sorted (x ∷ xs) [] a b same = absurd (let e : Some x.locators ≡ None = sym (lookup_here x xs x.id refl)
    ∙ same x.id in cc)
one_sorted (x ∷ xs) (y ∷ ys) a b same =
    let ids : x.id ≡ y.id = elim (cases_lt x.id y.id) [
      | inl lt ↦ absurd (let e : Some x.locators ≡ None = sym (lookup_here x xs x.id refl) ∙ same x.id
          ∙ below_none x y ys b lt in cc)
      | inr ge ↦ elim (cases_lt y.id x.id) [
        | inl gt ↦ absurd (let e : Some y.locators ≡ None = sym (lookup_here y ys y.id refl) ∙ sym (same y.id)
            ∙ below_none y x xs a gt in cc)
        | inr le ↦ omega arith
      ]
    ] in
    let locators : x.locators ≡ y.locators =
    (let e : Some x.locators ≡ Some y.locators = sym (lookup_here x xs x.id refl) ∙ same x.id
    ∙ lookup_here y ys x.id (sym ids) in cc) in
    let rest : xs ≡ ys = one_sorted xs ys (ascending_tail x xs a) (ascending_tail y ys b)
    (λ id. elim (cases_eq x.id id) [
      | inl here ↦ none_below x xs id a (omega arith) ∙ sym (none_below y ys id b (omega arith))
      | inr there ↦ sym (lookup_there x xs id there) ∙ same id ∙ lookup_there y ys id (λ is. there (ids ∙ is))
    ]) in
    let here : x ≡ y = (λ i. record { id = ids i; locators = locators i }) in
    ap₂ (λ (z : Entry) (zs : List Entry). z ∷ zs) here rest
