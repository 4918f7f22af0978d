-- Lists of which each member has something, and the places of runs.
use Rattle.std.proofs.Common.{◌≡◌, inl, inr, ℕ, zero, suc, Bool, true, false, List, [], ◌∷◌, ◌++◌, map, Option, Some, None, if◌then◌else◌, ◌==◌, refl, sym, ap, ◌∙◌, subst, arith}
use Rattle.std.specs.Prelude.{reverse, slice_index_or, replicate}
use Rattle.std.specs.List.{AllByRecursion, flat_map}
use Rattle.std.proofs.lemmas.List.{reverse-append}
use Rattle.cs_frame.specs.Bytes.{EachHas, IsBytes, IsPage}
use Rattle.cs_frame.specs.Formats.{as_locator, place_of}
use Rattle.cs_index.specs.declared.stored_runs.StoredRun.{StoredRun}
use Rattle.cs_index.specs.State.{newest_first, run_of}
use Rattle.cs_index.proofs.Sorted.{all_append}
use Rattle.law_machine.specs.Element.{Entry, Locator as Place, Run}
use Rattle.law_machine.specs.Formats.{places}
use Rattle.law_machine.specs.Index.{entries_of, lookup}
use Rattle.law_machine.specs.Lists.{◌∈◌}

-- what each has a member has
pub in_all : {X : Type 0} (P : X → Type 0) (xs : List X) → AllByRecursion P xs → (x : X) → x ∈ xs → P x
in_all P [] all x none = absurd none
in_all P (y ∷ ys) all x (inl is) = subst P (sym is) all.0
in_all P (y ∷ ys) all x (inr has) = in_all P ys all.1 x has

pub to_all : {X : Type 0} (P : X → Type 0) (xs : List X) → ((x : X) → x ∈ xs → P x) → AllByRecursion P xs
to_all P [] each = tt
to_all P (y ∷ ys) each = (each y (inl refl), to_all P ys (λ x has. each x (inr has)))

-- what all entries of all runs have
pub in_entries : (P : Entry → Type 0) (runs : List Run) → AllByRecursion (λ run. AllByRecursion P run.entries) runs
    → AllByRecursion P (entries_of runs)
in_entries P [] all = tt
in_entries P (run ∷ runs) all = all_append P run.entries (entries_of runs) all.0 (in_entries P runs all.1)

-- what is found in a list is nothing, or what an entry has
pub found_in : (Q : Entry → Type 0) (P : Option (List Place) → Type 0) → P None
    → ((e : Entry) → Q e → P (Some e.locators)) → (xs : List Entry) → AllByRecursion Q xs → (id : ℕ) → P (lookup id xs)
found_in Q P none some [] all id = none
found_in Q P none some (x ∷ xs) all id = pick (x.id == id) (some x all.0) (found_in Q P none some xs all.1 id)
  where
    pick : (b : Bool) → P (Some x.locators) → P (lookup id xs) → P (if b then Some x.locators else lookup id xs)
    pick true a r = a
    pick false a r = r

pub all_default : {X : Type 0} (n e : ℕ) (d : X) → slice_index_or (replicate n d) e d ≡ d
all_default zero e d = refl
all_default (suc n) zero d = refl
all_default (suc n) (suc e) d = all_default n e d

-- ---- bytes

pub bytes_append : (xs ys : List ℕ) → IsBytes xs → IsBytes ys → IsBytes (xs ++ ys)
bytes_append [] ys a b i = b i
bytes_append (x ∷ xs) ys a b zero = a zero
bytes_append (x ∷ xs) ys a b (suc i) = bytes_append xs ys (λ k. a (suc k)) b i

pub bytes_front : (xs ys : List ℕ) → IsBytes (xs ++ ys) → IsBytes xs
bytes_front [] ys are i = omega arith
bytes_front (x ∷ xs) ys are zero = are zero
bytes_front (x ∷ xs) ys are (suc i) = bytes_front xs ys (λ k. are (suc k)) i

pub bytes_back : (xs ys : List ℕ) → IsBytes (xs ++ ys) → IsBytes ys
bytes_back [] ys are = are
bytes_back (x ∷ xs) ys are = bytes_back xs ys (λ k. are (suc k))

pub bytes_joined : (pages : List (List ℕ)) → AllByRecursion IsPage pages → IsBytes (flat_map (λ (page : List ℕ). page) pages)
bytes_joined [] all = λ i. omega arith
bytes_joined (page ∷ pages) all = bytes_append page (flat_map (λ (page : List ℕ). page) pages) all.0.bytes (bytes_joined pages all.1)

pub each_has : (pages : List (List ℕ)) → AllByRecursion IsPage pages → EachHas 4096 pages
each_has [] all i lt = absurd (omega (arith, lt))
each_has (page ∷ pages) all zero lt = all.0.size
each_has (page ∷ pages) all (suc i) lt = each_has pages all.1 i (omega (arith, lt))

-- ---- the places of runs

places_append : (xs ys : List Run) → places (xs ++ ys) ≡ places xs ++ places ys
places_append [] ys = refl
places_append (x ∷ xs) ys = ap (λ ls. x.place ∷ ls) (places_append xs ys)

pub oldest_places : (runs : List StoredRun) → map as_locator (reverse (places (newest_first runs))) ≡ map (λ run. run.place) runs
oldest_places [] = refl
oldest_places (run ∷ runs) =
    ap (λ ls. map as_locator (reverse ls)) (places_append (newest_first runs) (run_of run ∷ []))
    ∙ ap (map as_locator) (reverse-append (places (newest_first runs)) (place_of run.place ∷ []))
    ∙ ap (λ ls. run.place ∷ ls) (oldest_places runs)
