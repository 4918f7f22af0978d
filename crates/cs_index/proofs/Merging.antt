-- The next entry, over several lists.
use Rattle.std.proofs.Common.{◌≡◌, ◌≢◌, ◌⊎◌, inl, inr, ℕ, zero, suc, ◌+◌, add-one, ◌<◌, ◌≤◌, nat_lt, true, false, List, [], ◌∷◌, ◌++◌, length, take, drop, map, Option, Some, None, get_or, if◌then◌else◌, refl, sym, ap, subst, ◌∙◌, arith, append_assoc, take-append-drop}
use Rattle.std.specs.Prelude.{slice_get, slice_index, slice_set}
use Rattle.std.specs.List.{AllByRecursion}
use Rattle.std.proofs.lemmas.Bool.{cases_lt, lt-ltb, le-ltb}
use Rattle.std.proofs.lemmas.Grind.{get_or-set_at}
use Rattle.std.proofs.lemmas.List.{get_or-set_other}
use Rattle.std.proofs.lemmas.Option.{get_or_from_slice_get}
use Rattle.cs_frame.specs.declared.identifiers.ShardId.{ShardId}
use Rattle.cs_frame.specs.Places.{Listed}
use Rattle.cs_index.specs.declared.stored_runs.StoredRun.{StoredRun}
use Rattle.law_machine.proofs.Counting.{lookup_here, lookup_there}
use Rattle.law_machine.specs.Element.{Entry, Locator as Place, Run}
use Rattle.law_machine.specs.Index.{Ascending, entries_of, lookup}
use Rattle.cs_index.specs.Read.{ArePlaces, AreStarts}
use Rattle.cs_index.specs.Sorted.{IsPlace, IsStart, first_of}
use Rattle.cs_index.specs.State.{IsAfter, IsNext, IsStored, named_entry, newest_first, run_of}
use Rattle.cs_index.proofs.Newest.{all_oldest, entries_up, lookup_first, lookup_second}
use Rattle.cs_index.proofs.Sorted.{above_all, above_place, all_append, all_at, all_map, ascending_drop, drop_at_get, drop_past, inside_at, place_down, some_at, take_at_get}

-- ---- where the identifiers after one begin

lookup_other : (d : ℕ) (xs : List Entry) → AllByRecursion (λ x. x.id ≢ d) xs → lookup d xs ≡ None
lookup_other d [] all = refl
lookup_other d (x ∷ xs) all = lookup_there x xs d all.0 ∙ lookup_other d xs all.1

pub start_there : (xs : List Entry) (k id : ℕ) (x : Entry) → Ascending xs → IsPlace id k xs → slice_get xs k ≡ Some x → x.id ≡ id → IsStart (Some id) (k + 1) xs
start_there xs k id x order place at is =
    let tail : drop k xs ≡ x ∷ drop (suc k) xs = drop_at_get xs k x at in
    let rising : Ascending (x ∷ drop (suc k) xs) = subst Ascending tail (ascending_drop k xs order) in
    let front : AllByRecursion (λ y. id < y.id → ⊥) (take (suc k) xs) = subst (λ zs. AllByRecursion (λ y. id < y.id → ⊥) zs) (sym (take_at_get xs k x at))
    (all_append (λ y. id < y.id → ⊥) (take k xs) (x ∷ []) (all_map (λ y. y.id < id) (λ y. id < y.id → ⊥) (take k xs) (λ y lt gt. omega arith) place.before) ((λ lt. omega arith), tt)) in
    subst (λ (n : ℕ). IsStart (Some id) n xs) (sym (add-one k)) (record {
      inside = (let lt : k < length xs = inside_at xs k x at in omega arith);
      before = front;
      behind = subst (λ (n : ℕ). AllByRecursion (λ y. n < y.id) (drop (suc k) xs)) is (above_all x (drop (suc k) xs) rising);
    })

pub start_here : (xs : List Entry) (k id : ℕ) → Ascending xs → IsPlace id k xs → ((x : Entry) → slice_get xs k ≡ Some x → x.id ≢ id) → IsStart (Some id) k xs
start_here xs k id order place other = record {
  inside = place.inside;
  before = all_map (λ y. y.id < id) (λ y. id < y.id → ⊥) (take k xs) (λ y lt gt. omega arith) place.before;
  behind = above_place xs k id order place other;
}

-- no entry before the start has what comes after
before_start : (after : Option ℕ) (k d : ℕ) (xs : List Entry) → IsStart after k xs → IsAfter after d → AllByRecursion (λ x. x.id ≢ d) (take k xs)
before_start after k d xs start later =
    all_map (λ x. IsAfter after x.id → ⊥) (λ x. x.id ≢ d) (take k xs) (λ x not is. not (subst (IsAfter after) (sym is) later)) start.before

lookup_start : (after : Option ℕ) (k d : ℕ) (xs : List Entry) → IsStart after k xs → IsAfter after d → lookup d xs ≡ lookup d (drop k xs)
lookup_start after k d xs start later =
    ap (lookup d) (sym (take-append-drop k xs)) ∙ lookup_second d (take k xs) (drop k xs) (lookup_other d (take k xs) (before_start after k d xs start later))

pub next_there : (after : Option ℕ) (k : ℕ) (xs : List Entry) (x : Entry) → Ascending xs → IsStart after k xs → slice_get xs k ≡ Some x → IsNext xs after (Some x)
next_there after k xs x order start at =
    let tail : drop k xs ≡ x ∷ drop (suc k) xs = drop_at_get xs k x at in
    let rising : Ascending (x ∷ drop (suc k) xs) = subst Ascending tail (ascending_drop k xs order) in
    let behind : AllByRecursion (λ y. IsAfter after y.id) (x ∷ drop (suc k) xs) = subst (AllByRecursion (λ y. IsAfter after y.id)) tail start.behind in (
      behind.0,
      lookup_start after k x.id xs start behind.0 ∙ ap (lookup x.id) tail ∙ lookup_here x (drop (suc k) xs) x.id refl,
      λ d later lt. lookup_start after k d xs start later ∙ ap (lookup d) tail ∙ lookup_other d (x ∷ drop (suc k) xs)
          ((λ is. omega arith), all_map (λ y. x.id < y.id) (λ y. y.id ≢ d) (drop (suc k) xs) (λ y gt is. omega arith) (above_all x (drop (suc k) xs) rising)),
    )

pub next_none : (after : Option ℕ) (k : ℕ) (xs : List Entry) → IsStart after k xs → length xs ≤ k → IsNext xs after None
next_none after k xs start le d later = lookup_start after k d xs start later ∙ ap (lookup d) (drop_past xs k le)

pub next_at : (after : Option ℕ) (k : ℕ) (xs : List Entry) (o : Option Entry) → Ascending xs → IsStart after k xs → slice_get xs k ≡ o → IsNext xs after o
next_at after k xs None order start at = next_none after k xs start (past xs k at)
  where
    past : (ys : List Entry) (m : ℕ) → slice_get ys m ≡ None → length ys ≤ m
    past ys m none = elim (cases_lt m (length ys)) [
      | inl lt ↦ (let some = some_at ys m lt in absurd (let e : None ≡ Some some.0 = sym none ∙ some.1 in cc))
      | inr ge ↦ ge
    ]
next_at after k xs (Some x) order start at = next_there after k xs x order start at

-- ---- over joined lists

neither : (d : ℕ) (xs ys : List Entry) → lookup d xs ≡ None → lookup d ys ≡ None → lookup d (xs ++ ys) ≡ None
neither d xs ys first second = lookup_second d xs ys first ∙ second

pub next_join : (xs ys : List Entry) (after : Option ℕ) (a b : Option Entry) → IsNext xs after a → IsNext ys after b → IsNext (xs ++ ys) after (first_of a b)
next_join xs ys after None None p q = λ d later. neither d xs ys (p d later) (q d later)
next_join xs ys after None (Some n) p q = (q.0, lookup_second n.id xs ys (p n.id q.0) ∙ q.1, λ d later lt. neither d xs ys (p d later) (q.2 d later lt))
next_join xs ys after (Some m) None p q = (p.0, lookup_first m.id xs ys m.locators p.1, λ d later lt. neither d xs ys (p.2 d later lt) (q d later))
next_join xs ys after (Some m) (Some n) p q = elim (cases_lt n.id m.id) [
  | inl lt ↦ (let test : nat_lt n.id m.id ≡ true = lt-ltb n.id m.id lt in
      subst (λ b. IsNext (xs ++ ys) after (if b then Some n else Some m)) (sym test)
      (q.0, lookup_second n.id xs ys (p.2 n.id q.0 lt) ∙ q.1, λ d later less. neither d xs ys (p.2 d later (omega arith)) (q.2 d later less)))
  | inr ge ↦ (let test : nat_lt n.id m.id ≡ false = le-ltb n.id m.id ge in
      subst (λ b. IsNext (xs ++ ys) after (if b then Some n else Some m)) (sym test)
      (p.0, lookup_first m.id xs ys m.locators p.1, λ d later less. neither d xs ys (p.2 d later less) (q.2 d later (omega arith))))
]

pub next_run : (runs : List StoredRun) (k : ℕ) (d : StoredRun) (entries : List (ShardId × Listed)) (after : Option ℕ) (a b c : Option Entry) → k < length runs → entries ≡ (get_or runs k d).entries.items
    → IsNext (entries_of (newest_first (take k runs))) after b → IsNext (map named_entry entries) after a → c ≡ first_of a b
    → IsNext (entries_of (newest_first (take (k + 1) runs))) after c
next_run runs k d entries after a b c lt is was new first =
    subst (λ (es : List Entry). IsNext es after c) (sym (entries_up runs k (k + 1) d entries lt (add-one k) is))
    (subst (λ (o : Option Entry). IsNext (map named_entry entries ++ entries_of (newest_first (take k runs))) after o) (sym first)
    (next_join (map named_entry entries) (entries_of (newest_first (take k runs))) after a b new was))

-- ---- from one identifier to the next

-- an identifier comes after one, or it doesn't
pub after_or_not : (after : Option ℕ) (d : ℕ) → (IsAfter after d) ⊎ (IsAfter after d → ⊥)
after_or_not None d = inl tt
after_or_not (Some a) d = elim (cases_lt a d) [ inl lt ↦ inl lt | inr ge ↦ inr (λ lt. omega arith) ]

pub later_still : (after : Option ℕ) (n d : ℕ) → IsAfter after n → n ≤ d → IsAfter after d
later_still None n d a le = tt
later_still (Some m) n d a le = let lt : m < n = a in omega arith

pub before_next : (after : Option ℕ) (n d : ℕ) → IsAfter after n → (IsAfter after d → ⊥) → d < n
before_next after n d later not = elim (cases_lt d n) [ inl lt ↦ lt | inr ge ↦ absurd (not (later_still after n d later ge)) ]

-- where the entries after an identifier begin, none has a lesser identifier than the next
pub place_at_next : (xs : List Entry) (k id : ℕ) (after : Option ℕ) → Ascending xs → IsStart after k xs → IsAfter after id → ((d : ℕ) → IsAfter after d → d < id → lookup d xs ≡ None)
    → IsPlace id k xs
place_at_next xs k id after order start later none = record {
  inside = start.inside;
  before = all_map (λ x. IsAfter after x.id → ⊥) (λ x. x.id < id) (take k xs) (λ x not. before_next after id x.id later not) start.before;
  behind = elim (cases_lt k (length xs)) [
    | inl lt ↦ (let some = some_at xs k lt in place_down xs k id some.0 order some.1 (least some.0 some.1))
    | inr le ↦ subst (AllByRecursion (λ x. id ≤ x.id)) (sym (drop_past xs k le)) tt
  ];
}
  where
    least : (x : Entry) → slice_get xs k ≡ Some x → id ≤ x.id
    least x at =
        let next : IsNext xs after (Some x) = next_there after k xs x order start at in
        elim (cases_lt x.id id) [
          | inl lt ↦ absurd (let e : None ≡ Some x.locators = sym (none x.id next.0 lt) ∙ next.1 in cc)
          | inr ge ↦ ge
        ]

none_first : (d : ℕ) (xs ys : List Entry) → lookup d (xs ++ ys) ≡ None → lookup d xs ≡ None
none_first d xs ys none = by (lookup d xs) refl
  where
    by : (o : Option (List Place)) → lookup d xs ≡ o → lookup d xs ≡ None
    by None is = is
    by (Some ls) is = absurd (let e : None ≡ Some ls = sym none ∙ lookup_first d xs ys ls is in cc)

none_second : (d : ℕ) (xs ys : List Entry) → lookup d (xs ++ ys) ≡ None → lookup d ys ≡ None
none_second d xs ys none = sym (lookup_second d xs ys (none_first d xs ys none)) ∙ none

entries_join : (a b : List Run) → entries_of (a ++ b) ≡ entries_of a ++ entries_of b
entries_join [] b = refl
entries_join (x ∷ a) b = ap (λ zs. x.entries ++ zs) (entries_join a b) ∙ sym (append_assoc x.entries (entries_of a) (entries_of b))

none_apart : (r : StoredRun) (rs : List StoredRun) (d : ℕ) → lookup d (entries_of (newest_first (r ∷ rs))) ≡ None → lookup d (entries_of (newest_first rs) ++ (map named_entry r.entries.items ++ [])) ≡ None
none_apart r rs d none = ap (lookup d) (sym (entries_join (newest_first rs) (run_of r ∷ []))) ∙ none

none_in_run : (runs : List StoredRun) (k d : ℕ) (run : StoredRun) → slice_get runs k ≡ Some run → lookup d (entries_of (newest_first runs)) ≡ None → lookup d (map named_entry run.entries.items) ≡ None
none_in_run [] k d run at none = absurd (let e : None ≡ Some run = at in cc)
none_in_run (r ∷ rs) zero d run here none =
    let e : Some r ≡ Some run = here in let is : r ≡ run = cc in
    subst (λ (x : StoredRun). lookup d (map named_entry x.entries.items) ≡ None) is
    (none_first d (map named_entry r.entries.items) [] (none_second d (entries_of (newest_first rs)) (map named_entry r.entries.items ++ []) (none_apart r rs d none)))
none_in_run (r ∷ rs) (suc k) d run there none =
    none_in_run rs k d run there (none_first d (entries_of (newest_first rs)) (map named_entry r.entries.items ++ []) (none_apart r rs d none))

-- the entry that comes next in a table and runs, and the places there
module _ (table : List Entry) (runs : List StoredRun) (after : Option ℕ) (x : Entry) (next : IsNext (table ++ entries_of (newest_first runs)) after (Some x)) where
  pub table_at_next : (k : ℕ) → Ascending table → IsStart after k table → IsPlace x.id k table
  table_at_next k order start = place_at_next table k x.id after order start next.0
      (λ d later lt. none_first d table (entries_of (newest_first runs)) (next.2 d later lt))

  pub runs_at_next : (places : List ℕ) → AllByRecursion IsStored (newest_first runs) → AreStarts after runs places → ArePlaces x.id runs places
  runs_at_next places stored starts k run at =
      place_at_next (map named_entry run.entries.items) (slice_index places k) x.id after (all_at (λ r. IsStored (run_of r)) runs k run (all_oldest IsStored runs stored) at).0
      (starts k run at) next.0 (λ d later lt. none_in_run runs k d run at (none_second d table (entries_of (newest_first runs)) (next.2 d later lt)))

-- ---- the places in the runs, one after another

module _ (runs : List StoredRun) (places : List ℕ) (k id v : ℕ) (d : StoredRun) (entries : List (ShardId × Listed))
    (lt : k < length runs) (inside : k < length places) (is : entries ≡ (get_or runs k d).entries.items) where
  pub moved_on : ((j : ℕ) (run : StoredRun) → slice_get runs j ≡ Some run → j < k → IsStart (Some id) (slice_index places j) (map named_entry run.entries.items))
      → IsStart (Some id) v (map named_entry entries)
      → (j : ℕ) (run : StoredRun) → slice_get runs j ≡ Some run → j < k + 1 → IsStart (Some id) (slice_index (slice_set places k v) j) (map named_entry run.entries.items)
  moved_on was now j run at le = elim (cases_lt j k) [
    | inl less ↦ subst (λ (n : ℕ). IsStart (Some id) n (map named_entry run.entries.items)) (sym (get_or-set_other places k j v 0 (λ e. omega arith))) (was j run at less)
    | inr ge ↦ (let same : j ≡ k = omega arith in
        let here : get_or runs k d ≡ run = ap (λ (n : ℕ). get_or runs n d) (sym same) ∙ get_or_from_slice_get runs j run d at in
        subst (λ (n : ℕ). IsStart (Some id) n (map named_entry run.entries.items)) (sym (get_or-set_at places k j v 0 same inside))
        (subst (λ (es : List (ShardId × Listed)). IsStart (Some id) v (map named_entry es)) (is ∙ ap (λ (r : StoredRun). r.entries.items) here) now))
  ]

  pub still_there : ((j : ℕ) (run : StoredRun) → slice_get runs j ≡ Some run → k ≤ j → IsPlace id (slice_index places j) (map named_entry run.entries.items))
      → (j : ℕ) (run : StoredRun) → slice_get runs j ≡ Some run → k + 1 ≤ j → IsPlace id (slice_index (slice_set places k v) j) (map named_entry run.entries.items)
  still_there was j run at le =
      subst (λ (n : ℕ). IsPlace id n (map named_entry run.entries.items)) (sym (get_or-set_other places k j v 0 (λ e. omega arith))) (was j run at (omega arith))
