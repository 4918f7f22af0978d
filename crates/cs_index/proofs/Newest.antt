-- Entries of runs, newest first.
use Rattle.std.proofs.Common.{◌≡◌, inl, inr, ℕ, zero, suc, ◌+◌, ◌-◌, add-one, ◌<◌, true, false, List, [], ◌∷◌, ◌++◌, length, take, map, Bool, Some, None, get_or, refl, sym, ap, subst, ◌∙◌, arith}
use Rattle.std.specs.Prelude.{is_some}
use Rattle.std.specs.List.{AllByRecursion}
use Rattle.std.proofs.lemmas.Bool.{cases_eq}
use Rattle.cs_frame.specs.declared.identifiers.ShardId.{ShardId}
use Rattle.cs_frame.specs.Places.{Listed}
use Rattle.cs_index.specs.declared.stored_runs.StoredRun.{StoredRun}
use Rattle.law_machine.proofs.Counting.{lookup_here, lookup_there}
use Rattle.law_machine.specs.Element.{Entry, Locator as Place, Run}
use Rattle.law_machine.specs.Index.{Ascending, entries_of, lookup, names}
use Rattle.cs_index.specs.State.{IsStored, named_entry, newest_first, run_of}
use Rattle.cs_index.proofs.Sorted.{all_append, all_back, all_front, all_take}

-- ---- lookups in joined lists

pub lookup_first : (id : ℕ) (xs ys : List Entry) (ls : List Place) → lookup id xs ≡ Some ls → lookup id (xs ++ ys) ≡ Some ls
lookup_first id [] ys ls is = absurd (let e : None ≡ Some ls = is in cc)
lookup_first id (x ∷ xs) ys ls is = elim (cases_eq x.id id) [
  | inl here ↦ lookup_here x (xs ++ ys) id here ∙ sym (lookup_here x xs id here) ∙ is
  | inr there ↦ lookup_there x (xs ++ ys) id there ∙ lookup_first id xs ys ls (sym (lookup_there x xs id there) ∙ is)
]

pub lookup_second : (id : ℕ) (xs ys : List Entry) → lookup id xs ≡ None → lookup id (xs ++ ys) ≡ lookup id ys
lookup_second id [] ys not = refl
lookup_second id (x ∷ xs) ys not = elim (cases_eq x.id id) [
  | inl here ↦ absurd (let e : None ≡ Some x.locators = sym not ∙ lookup_here x xs id here in cc)
  | inr there ↦ lookup_there x (xs ++ ys) id there ∙ lookup_second id xs ys (sym (lookup_there x xs id there) ∙ not)
]

pub lookup_above : (id : ℕ) (xs : List Entry) → AllByRecursion (λ x. id < x.id) xs → lookup id xs ≡ None
lookup_above id [] above = refl
lookup_above id (x ∷ xs) above = lookup_there x xs id (λ is. let lt : id < x.id = above.0 in absurd (omega arith)) ∙ lookup_above id xs above.1

-- ---- runs that are listed oldest first

pub newest_more : (xs : List StoredRun) (k : ℕ) (d : StoredRun) → k < length xs → newest_first (take (suc k) xs) ≡ run_of (get_or xs k d) ∷ newest_first (take k xs)
newest_more [] k d lt = absurd (omega arith)
newest_more (x ∷ xs) zero d lt = refl
newest_more (x ∷ xs) (suc k) d lt = ap (λ rs. rs ++ run_of x ∷ []) (newest_more xs k d (omega arith))

pub all_oldest : (P : Run → Type 0) (xs : List StoredRun) → AllByRecursion P (newest_first xs) → AllByRecursion (λ x. P (run_of x)) xs
all_oldest P [] all = tt
all_oldest P (x ∷ xs) all = ((all_back P (newest_first xs) (run_of x ∷ []) all).0, all_oldest P xs (all_front P (newest_first xs) (run_of x ∷ []) all))

pub all_newest : (P : Run → Type 0) (xs : List StoredRun) → AllByRecursion (λ x. P (run_of x)) xs → AllByRecursion P (newest_first xs)
all_newest P [] all = tt
all_newest P (x ∷ xs) all = all_append P (newest_first xs) (run_of x ∷ []) (all_newest P xs all.1) (all.0, tt)

pub all_get : {X : Type 0} (P : X → Type 0) (xs : List X) (k : ℕ) (d : X) → k < length xs → AllByRecursion P xs → P (get_or xs k d)
all_get P [] k d lt all = absurd (omega arith)
all_get P (x ∷ xs) zero d lt all = all.0
all_get P (x ∷ xs) (suc k) d lt all = all_get P xs k d (omega arith) all.1

pub stored_take : (xs : List StoredRun) (k : ℕ) → AllByRecursion IsStored (newest_first xs) → AllByRecursion IsStored (newest_first (take k xs))
stored_take xs k all = all_newest IsStored (take k xs) (all_take (λ x. IsStored (run_of x)) k xs (all_oldest IsStored xs all))

pub stored_at : (xs : List StoredRun) (k : ℕ) (d : StoredRun) → k < length xs → AllByRecursion IsStored (newest_first xs) → IsStored (run_of (get_or xs k d))
stored_at xs k d lt all = all_get (λ x. IsStored (run_of x)) xs k d lt (all_oldest IsStored xs all)

pub ascending_at : (xs : List StoredRun) (k : ℕ) (d : StoredRun) (entries : List (ShardId × Listed)) → k < length xs → entries ≡ (get_or xs k d).entries.items
    → AllByRecursion IsStored (newest_first xs) → Ascending (map named_entry entries)
ascending_at xs k d entries lt is all = subst (λ (es : List (ShardId × Listed)). Ascending (map named_entry es)) (sym is) (stored_at xs k d lt all).0

-- ---- a lookup goes from run to run

-- what the runs up to one have, the newest first
pub entries_up : (xs : List StoredRun) (k m : ℕ) (d : StoredRun) (entries : List (ShardId × Listed)) → k < length xs → m ≡ suc k → entries ≡ (get_or xs k d).entries.items
    → entries_of (newest_first (take m xs)) ≡ map named_entry entries ++ entries_of (newest_first (take k xs))
entries_up xs k m d entries lt at is =
    ap (λ (n : ℕ). entries_of (newest_first (take n xs))) at ∙ ap entries_of (newest_more xs k d lt)
    ∙ ap (λ (es : List (ShardId × Listed)). map named_entry es ++ entries_of (newest_first (take k xs))) (sym is)

pub find_some : (xs : List StoredRun) (k : ℕ) (d : StoredRun) (id : ℕ) (entries : List (ShardId × Listed)) (ls : List Place) → k < length xs
    → entries ≡ (get_or xs (length xs - 1 - k) d).entries.items
    → lookup id (entries_of (newest_first xs)) ≡ lookup id (entries_of (newest_first (take (length xs - k) xs)))
    → Some ls ≡ lookup id (map named_entry entries) → Some ls ≡ lookup id (entries_of (newest_first xs))
find_some xs k d id entries ls lt is was found =
    sym (was ∙ ap (lookup id) (entries_up xs (length xs - 1 - k) (length xs - k) d entries (omega (arith, lt)) (omega (arith, lt)) is)
    ∙ lookup_first id (map named_entry entries) (entries_of (newest_first (take (length xs - 1 - k) xs))) ls (sym found))

pub find_on : (xs : List StoredRun) (k : ℕ) (d : StoredRun) (id : ℕ) (entries : List (ShardId × Listed)) → k < length xs
    → entries ≡ (get_or xs (length xs - 1 - k) d).entries.items
    → lookup id (entries_of (newest_first xs)) ≡ lookup id (entries_of (newest_first (take (length xs - k) xs)))
    → lookup id (map named_entry entries) ≡ None
    → lookup id (entries_of (newest_first xs)) ≡ lookup id (entries_of (newest_first (take (length xs - (k + 1)) xs)))
find_on xs k d id entries lt is was not =
    let at : length xs - 1 - k ≡ length xs - (k + 1) = omega arith in
    was ∙ ap (lookup id) (entries_up xs (length xs - 1 - k) (length xs - k) d entries (omega (arith, lt)) (omega (arith, lt)) is)
    ∙ lookup_second id (map named_entry entries) (entries_of (newest_first (take (length xs - 1 - k) xs))) not
    ∙ ap (λ (n : ℕ). lookup id (entries_of (newest_first (take n xs)))) at

-- ---- counting

pub names_here : (x : Entry) (xs : List Entry) (b : Bool) → is_some (lookup x.id xs) ≡ b → (b ≡ true) → names (x ∷ xs) ≡ names xs
names_here x xs b is true_is = let test : is_some (lookup x.id xs) ≡ true = is ∙ true_is in rw test refl

pub names_more : (x : Entry) (xs : List Entry) → is_some (lookup x.id xs) ≡ false → names (x ∷ xs) ≡ names xs + 1
names_more x xs is = rw is (sym (add-one (names xs)))
