-- Merging, identifier by identifier.
use Rattle.std.proofs.Common.{◌≡◌, ◌≢◌, inl, inr, ⊎_elim, ℕ, ◌+◌, ◌-◌, ◌^◌, ◌<◌, ◌≤◌, Bool, true, false, List, [], ◌∷◌, ◌++◌, length, Option, Some, None, if◌then◌else◌, refl, sym, ap, subst, ◌∙◌, arith, append-nil}
use Rattle.std.specs.Prelude.{is_some}
use Rattle.std.specs.List.{AllByRecursion}
use Rattle.std.proofs.lemmas.Bool.{cases_eq, cases_lt}
use Rattle.law_machine.proofs.Counting.{ascending_names, lookup_here, lookup_there, names_le}
use Rattle.law_machine.proofs.Sorted.{one_sorted}
use Rattle.law_machine.specs.Element.{Entry, Locator as Place}
use Rattle.law_machine.specs.Index.{Ascending, IsMergedRun, if_live, live, live_at, lookup, names}
use Rattle.law_machine.specs.Merges.{IsRunOf}
use Rattle.cs_index.specs.Sorted.{IsMergedTo, IsRunTo, kept_entry, live_entry}
use Rattle.cs_index.specs.State.{IsAfter, IsNext, IsShort}
use Rattle.cs_index.proofs.Merging.{after_or_not, before_next}
use Rattle.cs_index.proofs.Newest.{lookup_second}
use Rattle.cs_index.proofs.Sorted.{all_append, all_map}

-- a bound on the identifiers so far, and how many may still come
abbrev pub IsSmall : Option ℕ → Type 0
IsSmall None = Unit {0}
IsSmall (Some id) = id < 2 ^ 128

abbrev pub ids_left : Option ℕ → ℕ
ids_left None = 2 ^ 128 + 1
ids_left (Some id) = 2 ^ 128 - id

pub fewer_left : (after : Option ℕ) (id : ℕ) → IsAfter after id → id < 2 ^ 128 → ids_left (Some id) < ids_left after
fewer_left None id later small = omega arith
fewer_left (Some a) id later small = let lt : a < id = later in omega arith

-- what a merged run has of an identifier: no deletion where these go
abbrev pub left : (go : Bool) → Option (List Place) → Option (List Place)
left go o = if go then if_live o else o

left_none : (go : Bool) → left go None ≡ None
left_none true = refl
left_none false = refl

pub run_start : (go : Bool) (index : List Entry) → IsRunTo go index None []
run_start go index = record { ascending = tt; none_after = tt; lookups = λ d not. absurd (not tt) }

pub merged_start : (index : List Entry) → IsMergedTo index None []
merged_start index = run_start true index

lookup_absent : (d : ℕ) (xs : List Entry) → AllByRecursion (λ x. x.id ≢ d) xs → lookup d xs ≡ None
lookup_absent d [] all = refl
lookup_absent d (x ∷ xs) all = lookup_there x xs d all.0 ∙ lookup_absent d xs all.1

-- nothing that comes after is among them
none_there : (go : Bool) (index xs : List Entry) (after : Option ℕ) (d : ℕ) → IsRunTo go index after xs → IsAfter after d → lookup d xs ≡ None
none_there go index xs after d merged later =
    lookup_absent d xs (all_map (λ x. IsAfter after x.id → ⊥) (λ x. x.id ≢ d) xs (λ x not is. not (subst (IsAfter after) (sym is) later)) merged.none_after)

live_here : (id : ℕ) (ls : List Place) → lookup id (live_entry id ls) ≡ if_live (Some ls)
live_here id [] = refl
live_here id (l ∷ ls) = lookup_here (record { id = id; locators = l ∷ ls }) [] id refl

live_there : (id d : ℕ) (ls : List Place) → id ≢ d → lookup d (live_entry id ls) ≡ None
live_there id d [] not = refl
live_there id d (l ∷ ls) not = lookup_there (record { id = id; locators = l ∷ ls }) [] d not

kept_here : (go : Bool) (id : ℕ) (ls : List Place) → lookup id (kept_entry go id ls) ≡ left go (Some ls)
kept_here true id ls = live_here id ls
kept_here false id ls = lookup_here (record { id = id; locators = ls }) [] id refl

kept_there : (go : Bool) (id d : ℕ) (ls : List Place) → id ≢ d → lookup d (kept_entry go id ls) ≡ None
kept_there true id d ls not = live_there id d ls not
kept_there false id d ls not = lookup_there (record { id = id; locators = ls }) [] d not

append_none : (d : ℕ) (xs ys : List Entry) → lookup d ys ≡ None → lookup d (xs ++ ys) ≡ lookup d xs
append_none d [] ys not = not
append_none d (x ∷ xs) ys not = elim (cases_eq x.id d) [
  | inl here ↦ lookup_here x (xs ++ ys) d here ∙ sym (lookup_here x xs d here)
  | inr there ↦ lookup_there x (xs ++ ys) d there ∙ append_none d xs ys not ∙ sym (lookup_there x xs d there)
]

ascending_last : (xs : List Entry) (x : Entry) → Ascending xs → AllByRecursion (λ y. y.id < x.id) xs → Ascending (xs ++ x ∷ [])
ascending_last [] x order below = tt
ascending_last (y ∷ []) x order below = (below.0, tt)
ascending_last (y ∷ z ∷ xs) x order below = (order.0, ascending_last (z ∷ xs) x order.1 below.1)

ascending_live : (xs : List Entry) (id : ℕ) (ls : List Place) → Ascending xs → AllByRecursion (λ y. y.id < id) xs → Ascending (xs ++ live_entry id ls)
ascending_live xs id [] order below = subst Ascending (sym (append-nil xs)) order
ascending_live xs id (l ∷ ls) order below = ascending_last xs (record { id = id; locators = l ∷ ls }) order below

ascending_kept : (go : Bool) (xs : List Entry) (id : ℕ) (ls : List Place) → Ascending xs → AllByRecursion (λ y. y.id < id) xs → Ascending (xs ++ kept_entry go id ls)
ascending_kept true xs id ls order below = ascending_live xs id ls order below
ascending_kept false xs id ls order below = ascending_last xs (record { id = id; locators = ls }) order below

all_live : (P : Entry → Type 0) (xs : List Entry) (id : ℕ) (ls : List Place) → AllByRecursion P xs → P (record { id = id; locators = ls }) → AllByRecursion P (xs ++ live_entry id ls)
all_live P xs id [] all here = all_append P xs [] all tt
all_live P xs id (l ∷ ls) all here = all_append P xs (record { id = id; locators = l ∷ ls } ∷ []) all (here, tt)

all_kept : (go : Bool) (P : Entry → Type 0) (xs : List Entry) (id : ℕ) (ls : List Place) → AllByRecursion P xs → P (record { id = id; locators = ls }) → AllByRecursion P (xs ++ kept_entry go id ls)
all_kept true P xs id ls all here = all_live P xs id ls all here
all_kept false P xs id ls all here = all_append P xs (record { id = id; locators = ls } ∷ []) all (here, tt)

pub short_step : (go : Bool) (xs : List Entry) (id : ℕ) (ls : List Place) → AllByRecursion IsShort xs → length ls ≤ 8 → AllByRecursion IsShort (xs ++ kept_entry go id ls)
short_step go xs id ls all few = all_kept go IsShort xs id ls all few

-- one identifier more
pub run_step : (go : Bool) (index xs : List Entry) (after : Option ℕ) (id : ℕ) (ls : List Place) → IsRunTo go index after xs → IsNext index after (Some (record { id = id; locators = ls }))
    → IsRunTo go index (Some id) (xs ++ kept_entry go id ls)
run_step go index xs after id ls was next =
    let below : AllByRecursion (λ x. x.id < id) xs = all_map (λ x. IsAfter after x.id → ⊥) (λ x. x.id < id) xs (λ x not. before_next after id x.id next.0 not) was.none_after in
    record {
      ascending = ascending_kept go xs id ls was.ascending below;
      none_after = all_kept go (λ x. id < x.id → ⊥) xs id ls (all_map (λ x. x.id < id) (λ x. id < x.id → ⊥) xs (λ x lt gt. omega arith) below) (λ lt. omega arith);
      lookups = λ d not. elim (cases_eq id d) [
        | inl is ↦ subst (λ (n : ℕ). lookup n (xs ++ kept_entry go id ls) ≡ left go (lookup n index)) is
            (lookup_second id xs (kept_entry go id ls) (none_there go index xs after id was next.0) ∙ kept_here go id ls ∙ ap (λ (o : Option (List Place)). left go o) (sym next.1))
        | inr other ↦ append_none d xs (kept_entry go id ls) (kept_there go id d ls other) ∙ ⊎_elim
            (λ (later : IsAfter after d). none_there go index xs after d was later ∙ sym (ap (λ (o : Option (List Place)). left go o) (next.2 d later (less d other not)) ∙ left_none go))
            (λ (earlier : IsAfter after d → ⊥). was.lookups d earlier)
            (after_or_not after d)
      ];
    }
  where
    less : (d : ℕ) → id ≢ d → (id < d → ⊥) → d < id
    less d other not = elim (cases_lt d id) [ inl lt ↦ lt | inr ge ↦ absurd (elim (cases_lt id d) [ inl lt ↦ not lt | inr le ↦ other (omega arith) ]) ]

pub run_end : (go : Bool) (index xs : List Entry) (after : Option ℕ) → IsRunTo go index after xs → IsNext index after None → IsRunOf go index xs
run_end go index xs after was none = (
  was.ascending,
  λ d. ⊎_elim
      (λ (later : IsAfter after d). none_there go index xs after d was later ∙ sym (ap (λ (o : Option (List Place)). left go o) (none d later) ∙ left_none go))
      (λ (earlier : IsAfter after d → ⊥). was.lookups d earlier)
      (after_or_not after d),
)

-- of all that is live
pub merged_step : (index xs : List Entry) (after : Option ℕ) (id : ℕ) (ls : List Place) → IsMergedTo index after xs → IsNext index after (Some (record { id = id; locators = ls }))
    → IsMergedTo index (Some id) (xs ++ live_entry id ls)
merged_step index xs after id ls was next = run_step true index xs after id ls was next

pub merged_end : (index xs : List Entry) (after : Option ℕ) → IsMergedTo index after xs → IsNext index after None → IsMergedRun index xs
merged_end index xs after was none = run_end true index xs after was none

-- ---- what a merged run is

some_live : (o : Option (List Place)) → is_some (if_live o) ≡ true → is_some o ≡ true
some_live None is = is
some_live (Some ls) is = refl

pub some_left : (go : Bool) (o : Option (List Place)) → is_some (left go o) ≡ true → is_some o ≡ true
some_left true o is = some_live o is
some_left false o is = is

pub run_few : (go : Bool) (index xs : List Entry) → IsRunOf go index xs → length xs ≤ names index
run_few go index xs run =
    let le : names xs ≤ names index = names_le xs index (λ id is. some_left go (lookup id index) (ap (λ (o : Option (List Place)). is_some o) (sym (run.1 id)) ∙ is)) in
    omega (arith, ascending_names xs run.0)

pub run_one : (go : Bool) (index xs ys : List Entry) → IsRunOf go index xs → IsRunOf go index ys → xs ≡ ys
run_one go index xs ys a b = one_sorted xs ys a.0 b.0 (λ id. a.1 id ∙ sym (b.1 id))

pub merged_one : (index xs ys : List Entry) → IsMergedRun index xs → IsMergedRun index ys → xs ≡ ys
merged_one index xs ys a b = run_one true index xs ys a b

live_if : (o : Option (List Place)) → live (if_live o) ≡ live o
live_if None = refl
live_if (Some []) = refl
live_if (Some (l ∷ ls)) = refl

pub live_left : (go : Bool) (o : Option (List Place)) → live (left go o) ≡ live o
live_left true o = live_if o
live_left false o = refl

pub merged_live : (index xs : List Entry) → IsMergedRun index xs → (id : ℕ) → live_at xs id ≡ live_at index id
merged_live index xs run id = ap live (run.1 id) ∙ live_if (lookup id index)

-- so far no more than are named
pub run_few_so_far : (go : Bool) (index xs : List Entry) (after : Option ℕ) → IsRunTo go index after xs → length xs ≤ names index
run_few_so_far go index xs after run =
    let le : names xs ≤ names index = names_le xs index (λ id is. ⊎_elim
    (λ (later : IsAfter after id). absurd (let clash : false ≡ true = ap (λ (o : Option (List Place)). is_some o) (sym (none_there go index xs after id run later)) ∙ is in cc))
    (λ (not : IsAfter after id → ⊥). some_left go (lookup id index) (ap (λ (o : Option (List Place)). is_some o) (sym (run.lookups id not)) ∙ is))
    (after_or_not after id)) in
    omega (arith, ascending_names xs run.ascending)
