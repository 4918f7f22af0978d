-- What stands against making a store, as it is found.
use Rattle.std.proofs.Common.{◌≡◌, ◌⊎◌, ◌∙◌, ◌↔◌, ◌-◌, ◌<◌, inl, inr, Some, Result, Ok, Err, IfOk, ⊎_elim, ℕ, Bool, true, false, Option, None, List, Contains, IsTrue, ap, subst, sym, map, length, nat_lt, get_or, arith}
use Rattle.std.specs.List.{list_any}
use Rattle.std.proofs.lemmas.Bool.{lt-ltb, ltb-true}
use Rattle.std.proofs.lemmas.List.{get_or-map, length-map}
use Rattle.std.proofs.lemmas.List.Elements.{Contains-get_or}
use Rattle.std.proofs.lemmas.List.Folds.{Any-from_list_any, list_any_at}
use Rattle.cs_refusal.specs.Refusals.{number_of}
use Rattle.cs_refusal.specs.declared.refusals.Refusal.{Refusal}
use Rattle.cs_refusal.specs.declared.refusals.Refusal.TheVariants.{DeviceFault, NotAStore, Occupied, OutOfMemory}
use Rattle.cs_disk.specs.declared.fault.DiskFault.{DiskFault}
use Rattle.cs_disk.specs.declared.fault.DiskFault.TheVariants as disk
use Rattle.cs_disk.specs.Disk.{Image, State, page, seen}
use Rattle.cs_disk.specs.Faults.{disk_fault_number}
use Rattle.cs_frame.specs.FirstFormat.{page_zero_fault}
use Rattle.cs_frame.specs.Geometries.{Dimensions}
use Rattle.law_machine.specs.Geometry.{twins_in}
use Rattle.cs_twin.specs.declared.findings.Finding.{Finding}
use Rattle.cs_twin.specs.declared.pairs.Held.{Held}
use Rattle.cs_twin.specs.declared.pairs.Pair.{Pair}
use Rattle.cs_twin.specs.Findings.{finding_in}
use Rattle.cs_mount.specs.OfStores.{IsOfStore}
use Rattle.cs_twin.specs.Pairs.{Versions, held_in}
use Rattle.cs_mount.specs.Showing.{findings_on}
use Rattle.cs_mount.specs.StorePairs.{first_says, pages_of, store_pairs, store_version}
use Rattle.cs_twin.proofs.Holding.{held_found}
use Rattle.cs_mount.proofs.Keeping.{made_of_store, not_both}
use Rattle.cs_mount.specs.Looks.{IsLeftOver, IsTaken, is_whole}

-- a pair that was found with a whole half has one
whole_held : (V : Versions) (image : Image) (x : Pair) → is_whole (finding_in V image x) ≡ nat_lt 0 (held_in V image x).version
whole_held V image x = ap (λ (h : Held). nat_lt 0 h.version) (held_found V image x)

-- what was found after some reads was there before them
pub found_before : (pages pages_then : ℕ) (s after : State) (found : List Finding) → pages_then ≡ pages → after ≡ s → found ≡ findings_on pages_then (seen after) → found ≡ findings_on pages (seen s)
found_before pages pages_then s after found same_pages same is = is ∙ ap (λ n. findings_on n (seen after)) same_pages ∙ ap (λ (z : State). findings_on pages (seen z)) same

module _ (pages : ℕ) (image : Image) (V : Versions) (pairs : List Pair) where
  -- one of the pairs has a whole half
  any_held : (found : List Finding) → found ≡ map (finding_in V image) pairs → list_any is_whole found ≡ true → (x : Pair) × Contains pairs x × (0 < (held_in V image x).version)
  any_held found are test =
      let any = Any-from_list_any is_whole (map (finding_in V image) pairs) (subst (λ (l : List Finding). list_any is_whole l ≡ true) are test) in
      let it = any.1 in
      let x = get_or pairs any.0 it.pair in
      let long = length-map pairs (finding_in V image) in
      let inside : any.0 < length pairs = omega (arith, any.2, long) in
      let same : finding_in V image x ≡ it = sym (get_or-map (finding_in V image) pairs any.0 it.pair it inside) ∙ any.3 in
      (x, Contains-get_or pairs any.0 it.pair inside, ltb-true 0 (held_in V image x).version (sym (whole_held V image x) ∙ ap is_whole same ∙ any.4))

  held_any : (found : List Finding) (x : Pair) → found ≡ map (finding_in V image) pairs → Contains pairs x → 0 < (held_in V image x).version → list_any is_whole found ≡ true
  held_any found x are has some =
      let long = length-map pairs (finding_in V image) in
      let inside : has.0 < length (map (finding_in V image) pairs) = omega (arith, has.1, long) in
      ap (list_any is_whole) are ∙ list_any_at is_whole (map (finding_in V image) pairs) has.0 (finding_in V image x) inside
      (ap is_whole (get_or-map (finding_in V image) pairs has.0 x (finding_in V image x) has.1 ∙ ap (finding_in V image) has.2) ∙ whole_held V image x ∙ lt-ltb 0 (held_in V image x).version some)

  -- the last page was read, and the pairs were looked at
  pub pairs_left : (last : Option Dimensions) (found : List Finding) (b : Bool) → last ≡ first_says pages (page image (pages - 1)) → last ≡ None → found ≡ map (finding_in V image) pairs → b ≡ list_any is_whole found
      → IsTrue b ↔ IsLeftOver pages image V pairs
  pairs_left last found b is nothing are test = (
    (λ true_is. inr (any_held found are (sym test ∙ true_is))),
    (λ left. test ∙ ⊎_elim (λ some. absurd (some (sym is ∙ nothing))) (λ held. held_any found held.0 are held.1 held.2) left),
  )

  -- or the last page holds a first section
  pub last_left : (last : Option Dimensions) (d : Dimensions) → last ≡ first_says pages (page image (pages - 1)) → last ≡ Some d → IsLeftOver pages image V pairs
  last_left last d is some = inl (λ none. not_both last d (is ∙ none) some)

  -- page 0 is no first section
  pub left_taken : (holds b : Bool) → IsTrue holds ↔ (page_zero_fault (page image 0) ≡ None) → holds ≡ false → IsTrue b ↔ IsLeftOver pages image V pairs → IsTrue b ↔ IsTaken pages image V pairs
  left_taken holds b first not_first left = (
    (λ true_is. inr (left.0 true_is)),
    (λ taken. ⊎_elim (λ (spelled : page_zero_fault (page image 0) ≡ None). absurd (let clash : holds ≡ true = first.1 spelled in cc (clash, not_first))) (λ over. left.1 over) taken),
  )

  -- page 0 is one
  pub first_taken : (holds : Bool) → IsTrue holds ↔ (page_zero_fault (page image 0) ≡ None) → holds ≡ true → IsTaken pages image V pairs
  first_taken holds first is = inl (first.0 is)

  -- nothing stands against it
  pub free : (b : Bool) → b ≡ false → IsTrue b ↔ IsTaken pages image V pairs → IsTaken pages image V pairs → ⊥
  free b false_is is taken = both (is.1 taken)
    where
      both : b ≡ true → ⊥
      both true_is = cc

-- what is left over, by reads that found no first section on page 0 before
pub left_behind : {E : Type 0} (r : Result Bool E) (n m : ℕ) (s after : State) (V : Versions) (pairs : List Pair) (holds : Bool) → m ≡ n → after ≡ s
    → IsTrue holds ↔ (page_zero_fault (page (seen s) 0) ≡ None) → holds ≡ false
    → IfOk r (λ b. IsTrue b ↔ IsLeftOver m (seen after) V pairs) → IfOk r (λ b. IsTrue b ↔ IsTaken n (seen s) V pairs)
left_behind (Err e) n m s after V pairs holds count same is nothing left = tt
left_behind (Ok b) n m s after V pairs holds count same is nothing left =
    left_taken n (seen s) V pairs holds b is nothing
    (subst (λ k. IsTrue b ↔ IsLeftOver k (seen s) V pairs) count (subst (λ (z : State). IsTrue b ↔ IsLeftOver m (seen z) V pairs) same left))

-- a disk that was found free fits the store that is made on it
pub free_fits : (d : Dimensions) (pairs : List Pair) (n : ℕ) (image : Image) (b : Bool) → 0 < n → length image ≡ n → pairs ≡ store_pairs d → pages_of d ≡ n → twins_in d.format ≡ false → b ≡ false
    → IsTrue b ↔ IsTaken n image (store_version (Some d)) pairs → IsOfStore (Some d) pairs n image
free_fits d pairs n image b some size its sized single test taken =
    let none : IsTaken n image (store_version (Some d)) pairs → ⊥ = free n image (store_version (Some d)) pairs b test taken in
    made_of_store d pairs n image some size single its sized (λ whole. none (inl whole))

-- no fault of a device is told as 45, and neither is what else a making is refused for
pub no_fault_is_occupied : (fault : DiskFault) (r : Refusal) → number_of r ≡ disk_fault_number fault → r ≡ Occupied → ⊥
no_fault_is_occupied disk.DeviceFault r number is = let no : 45 ≡ 1 = sym (ap number_of is) ∙ number in cc no
no_fault_is_occupied disk.OutOfMemory r number is = let no : 45 ≡ 9 = sym (ap number_of is) ∙ number in cc no

pub never_occupied : (r : Refusal) → (r ≡ NotAStore) ⊎ (r ≡ DeviceFault) ⊎ (r ≡ OutOfMemory) → r ≡ Occupied → ⊥
never_occupied r why is = ⊎_elim (λ (a : r ≡ NotAStore). cc (a, is)) (λ rest. ⊎_elim (λ (b : r ≡ DeviceFault). cc (b, is)) (λ (m : r ≡ OutOfMemory). cc (m, is)) rest) why
