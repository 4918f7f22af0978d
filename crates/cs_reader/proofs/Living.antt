-- How many shards have locators, and whether these are located.
use Rattle.std.proofs.Common.{◌≡◌, ◌≢◌, ◌⊎◌, inl, inr, ⊎_elim, ◌∙◌, ℕ, zero, suc, ◌<◌, true, false, List, [], ◌∷◌, Some, None, length, map, refl, sym, ap, subst, arith}
use Rattle.std.specs.Prelude.{◌↔◌, Contains, Option, is_some, slice_index_or}
use Rattle.std.specs.List.{AllByRecursion}
use Rattle.std.proofs.lemmas.Bool.{cases_eq, cases_lt}
use Rattle.std.proofs.lemmas.List.{length-map}
use Rattle.cs_extent.specs.State.{State as ExtentsState}
use Rattle.cs_frame.specs.declared.locators.Locator.{Locator}
use Rattle.cs_frame.specs.Formats.{as_locator, place_of}
use Rattle.cs_reader.specs.Counts.{HasCount}
use Rattle.cs_reader.specs.ImageReads.{IsLocated}
use Rattle.cs_index.proofs.Shards.{shards_run}
use Rattle.cs_index.specs.State.{IsAfter, IsNext}
use Rattle.law_machine.proofs.Counting.{lookup_here, lookup_there}
use Rattle.law_machine.proofs.Sorted.{sorted_live}
use Rattle.law_machine.specs.Element.{Entry, Locator as Place}
use Rattle.law_machine.specs.Index.{Ascending, IsMergedRun, if_live, live, live_at, lookup}
use Rattle.law_machine.specs.Lists.{◌∈◌}
use Rattle.law_machine.specs.Tally.{shards}
use Rattle.cs_reader.specs.Openings.{AreLiveLocated}

-- ---- as many as are live

abbrev ids : List Entry → List ℕ
ids xs = map (λ (x : Entry). x.id) xs

head_below : (x : Entry) (xs : List Entry) (j d : ℕ) → Ascending (x ∷ xs) → j < length (ids xs) → x.id < slice_index_or (ids xs) j d
head_below x [] j d order lt = absurd (let l : j < 0 = lt in omega arith)
head_below x (y ∷ ys) zero d order lt = order.0
head_below x (y ∷ ys) (suc j) d order lt = let l : suc j < suc (length (ids ys)) = lt in let a : x.id < y.id = order.0 in let b : y.id < slice_index_or (ids ys) j d = head_below y ys j d order.1 (omega (arith, l)) in omega (arith, a, b)

tail_ascends : (x : Entry) (xs : List Entry) → Ascending (x ∷ xs) → Ascending xs
tail_ascends x [] order = tt
tail_ascends x (y ∷ ys) order = order.1

rise : (xs : List Entry) → Ascending xs → (i j d : ℕ) → i < j → j < length (ids xs) → slice_index_or (ids xs) i d < slice_index_or (ids xs) j d
rise [] order i j d lt inside = absurd (let l : j < 0 = inside in omega arith)
rise (x ∷ xs) order i zero d lt inside = absurd (omega (arith, lt))
rise (x ∷ xs) order zero (suc j) d lt inside = let l : suc j < suc (length (ids xs)) = inside in head_below x xs j d order (omega (arith, l))
rise (x ∷ xs) order (suc i) (suc j) d lt inside = let l : suc j < suc (length (ids xs)) = inside in rise xs (tail_ascends x xs order) i j d (omega (arith, lt)) (omega (arith, l))

has_entry : (xs : List Entry) (d : ℕ) → Contains (ids xs) d → is_some (lookup d xs) ≡ true
has_entry [] d (k, lt, at) = absurd (let l : k < 0 = lt in omega arith)
has_entry (x ∷ xs) d (zero, lt, at) = ap (λ (o : Option (List Place)). is_some o) (lookup_here x xs d at)
has_entry (x ∷ xs) d (suc k, lt, at) = let l : suc k < suc (length (ids xs)) = lt in elim (cases_eq x.id d) [
  | inl here ↦ ap (λ (o : Option (List Place)). is_some o) (lookup_here x xs d here)
  | inr there ↦ ap (λ (o : Option (List Place)). is_some o) (lookup_there x xs d there) ∙ has_entry xs d (k, omega (arith, l), at)
]

is_among : (xs : List Entry) (d : ℕ) → is_some (lookup d xs) ≡ true → Contains (ids xs) d
is_among [] d some = absurd (let clash : false ≡ true = some in cc clash)
is_among (x ∷ xs) d some = elim (cases_eq x.id d) [
  | inl here ↦ (0, (let l : 0 < suc (length (ids xs)) = omega arith in l), here)
  | inr there ↦ (let rest = is_among xs d (ap (λ (o : Option (List Place)). is_some o) (sym (lookup_there x xs d there)) ∙ some) in
      (suc rest.0, (let l : suc rest.0 < suc (length (ids xs)) = omega (arith, rest.1) in l), rest.2))
]

live_or_none : (o : Option (List Place)) → (is_some (if_live o) ≡ true) ↔ (live o ≢ [])
live_or_none None = ((λ e. let clash : false ≡ true = e in absurd (cc clash)), (λ some. absurd (some refl)))
live_or_none (Some []) = ((λ e. let clash : false ≡ true = e in absurd (cc clash)), (λ some. absurd (some refl)))
live_or_none (Some (l ∷ ls)) = ((λ e is. let clash : l ∷ ls ≡ [] = is in cc clash), (λ some. refl))

pub all_counted : (index xs : List Entry) → IsMergedRun index xs → HasCount (λ id. live_at index id ≢ []) (length xs)
all_counted index xs merged = (
  ids xs,
  record {
    rising = rise xs merged.0;
    exact = λ d. (
      (λ has. (live_or_none (lookup d index)).0 (ap (λ (o : Option (List Place)). is_some o) (sym (merged.1 d)) ∙ has_entry xs d has)),
      (λ some. is_among xs d (ap (λ (o : Option (List Place)). is_some o) (merged.1 d) ∙ (live_or_none (lookup d index)).1 some)),
    );
  },
  length-map xs (λ (x : Entry). x.id),
)

pub shards_counted : (index : List Entry) (count : ℕ) → count ≡ shards index → HasCount (λ id. live_at index id ≢ []) count
shards_counted index count is =
    let all = sorted_live index in
    let run : IsMergedRun index all.0 = (all.1, all.2) in
    subst (HasCount (λ id. live_at index id ≢ [])) (sym (is ∙ shards_run index all.0 run)) (all_counted index all.0 run)

-- ---- what is live is located

after_or_not : (after : Option ℕ) (d : ℕ) → (IsAfter after d) ⊎ (IsAfter after d → ⊥)
after_or_not None d = inl tt
after_or_not (Some a) d = elim (cases_lt a d) [ inl lt ↦ inl lt | inr ge ↦ inr (λ lt. omega arith) ]

-- what the identifiers up to one have is located
abbrev pub AreLocatedTo : ExtentsState → List Entry → Option ℕ → Type 0
AreLocatedTo x index after = (id : ℕ) → (IsAfter after id → ⊥) → (l : Place) → l ∈ live_at index id → IsLocated x (as_locator l)

-- the entry that is read next has located places, or one that isn't
module _ (x : ExtentsState) (index : List Entry) (after : Option ℕ) (id : ℕ) (ls : List Locator) (next : IsNext index after (Some (record { id = id; locators = map place_of ls }))) where
  pub located_more : AreLocatedTo x index after → AllByRecursion (IsLocated x) ls → AreLocatedTo x index (Some id)
  located_more was all d not l among = elim (cases_eq d id) [
    | inl here ↦ located_places x ls all l (subst (λ (ps : List Place). l ∈ ps) (ap (λ (n : ℕ). live_at index n) here ∙ ap live next.1) among)
    | inr other ↦ ⊎_elim
        (λ (later : IsAfter after d). absurd (subst (λ (ps : List Place). l ∈ ps) (ap live (next.2 d later (let le : ¬ (id < d) = not in omega (arith, le, other)))) among))
        (λ (earlier : IsAfter after d → ⊥). was d earlier l among)
        (after_or_not after d)
  ]
    where
      located_places : (x : ExtentsState) (ls : List Locator) → AllByRecursion (IsLocated x) ls → (l : Place) → l ∈ map place_of ls → IsLocated x (as_locator l)
      located_places x [] all l none = absurd none
      located_places x (k ∷ ls) all l (inl is) = subst (λ (p : Place). IsLocated x (as_locator p)) (sym is) all.0
      located_places x (k ∷ ls) all l (inr has) = located_places x ls all.1 l has

  pub located_less : ¬ AllByRecursion (IsLocated x) ls → AreLiveLocated x index → ⊥
  located_less not all = not (each ls (λ l has. all id l (subst (λ (ps : List Place). l ∈ ps) (sym (ap live next.1)) has)))
    where
      each : (ls : List Locator) → ((l : Place) → l ∈ map place_of ls → IsLocated x (as_locator l)) → AllByRecursion (IsLocated x) ls
      each [] all = tt
      each (l ∷ ls) all = (all (place_of l) (inl refl), each ls (λ k has. all k (inr has)))

-- nothing comes behind
pub located_all : (x : ExtentsState) (index : List Entry) (after : Option ℕ) → AreLocatedTo x index after → IsNext index after None → AreLiveLocated x index
located_all x index after was none id l among = ⊎_elim
    (λ (later : IsAfter after id). absurd (subst (λ (ps : List Place). l ∈ ps) (ap live (none id later)) among))
    (λ (earlier : IsAfter after id → ⊥). was id earlier l among)
    (after_or_not after id)
