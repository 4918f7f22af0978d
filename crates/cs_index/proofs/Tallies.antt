-- How many chunks live on each extent, counted.
use Rattle.std.proofs.Common.{◌≡◌, ◌∙◌, ◌==◌, inl, inr, ℕ, zero, suc, ◌+◌, ◌-◌, ◌*◌, ◌<◌, ◌≤◌, Bool, true, false, List, [], ◌∷◌, ◌++◌, Option, Some, None, get_or, set, length, ◌^◌, map, take, drop, take-append-drop, refl, sym, ap, subst, arith, eq-eqb, ne_eqb, if◌then◌else◌, get_or-set_same, get_or-set_other}
use Rattle.std.specs.List.{AllByRecursion}
use Rattle.std.specs.Prelude.{replicate}
use Rattle.std.proofs.lemmas.Bool.{cases_eq}
use Rattle.std.proofs.lemmas.List.{length-replicate, map-append}
use Rattle.std.proofs.lemmas.Option.{slice_get-get_or}
use Rattle.cs_frame.specs.declared.locators.Locator.{Locator}
use Rattle.cs_frame.specs.Formats.{place_of}
use Rattle.cs_index.specs.Held.{AreCounts, one_on}
use Rattle.cs_index.specs.Sorted.{IsMergedTo, live_entry}
use Rattle.cs_index.specs.declared.stored_runs.StoredRun.{StoredRun}
use Rattle.cs_index.specs.Merges.{part}
use Rattle.cs_index.specs.State.{IsNext, IsShort, IsStored, State, index_of, named_entry, newest_first, state_of}
use Rattle.cs_index.proofs.Merged.{live_left, merged_live, merged_step, run_few}
use Rattle.cs_index.proofs.Parts.{part_lookup}
use Rattle.cs_index.proofs.Sorted.{all_append, take_at_get}
use Rattle.cs_index.proofs.Whole.{Entries, short_in, short_runs}
use Rattle.law_machine.specs.Format.{Format}
use Rattle.law_machine.proofs.Counting.{ascending_lookup, ascending_tail, lookup_here, lookup_there, none_below}
use Rattle.law_machine.proofs.Sorted.{sorted_live}
use Rattle.law_machine.proofs.Tallies.{counts, counts_alike}
use Rattle.law_machine.specs.Element.{Entry, Locator as Place, Run}
use Rattle.law_machine.specs.Index.{Ascending, IsMergedRun, entries_of, live, live_at, lookup, names}
use Rattle.law_machine.specs.Merges.{IsRunOf}
use Rattle.law_machine.specs.Lists.{◌∈◌}
use Rattle.law_machine.specs.Tally.{lives_on, places_on}

-- ---- places of a list

one_step : (b : Bool) (n : ℕ) → (if b then suc n else n) ≡ (if b then 1 else 0) + n
one_step true n = omega arith
one_step false n = omega arith

places_step : (e : ℕ) (l : Place) (ls : List Place) → places_on e (l ∷ ls) ≡ one_on l.extent e + places_on e ls
places_step e l ls = one_step (l.extent == e) (places_on e ls)

places_append : (e : ℕ) (xs ys : List Place) → places_on e (xs ++ ys) ≡ places_on e xs + places_on e ys
places_append e [] ys = omega arith
places_append e (x ∷ xs) ys =
    let a : places_on e (x ∷ (xs ++ ys)) ≡ one_on x.extent e + places_on e (xs ++ ys) = places_step e x (xs ++ ys) in
    let b : places_on e (x ∷ xs) ≡ one_on x.extent e + places_on e xs = places_step e x xs in
    let c : places_on e (xs ++ ys) ≡ places_on e xs + places_on e ys = places_append e xs ys in
    omega arith

one_most : (extent e : ℕ) → one_on extent e ≤ 1
one_most extent e = by (extent == e)
  where
    by : (b : Bool) → (if b then 1 else 0) ≤ 1
    by true = omega arith
    by false = omega arith

places_few : (e : ℕ) (ls : List Place) → places_on e ls ≤ length ls
places_few e [] = omega arith
places_few e (l ∷ ls) =
    let a : places_on e (l ∷ ls) ≡ one_on l.extent e + places_on e ls = places_step e l ls in
    let b : places_on e ls ≤ length ls = places_few e ls in
    let c : one_on l.extent e ≤ 1 = one_most l.extent e in
    omega arith

-- of a place more
pub places_more : (e : ℕ) (ps : List Locator) (k : ℕ) (d : Locator) → k < length ps
    → places_on e (map place_of (take (k + 1) ps)) ≡ places_on e (map place_of (take k ps)) + one_on (get_or ps k d).extent e
places_more e ps k d lt =
    let up : k + 1 ≡ suc k = omega arith in
    let last : take (suc k) ps ≡ take k ps ++ get_or ps k d ∷ [] = take_at_get ps k (get_or ps k d) (slice_get-get_or ps k d lt) in
    let cut : map place_of (take (k + 1) ps) ≡ map place_of (take k ps) ++ place_of (get_or ps k d) ∷ [] =
    ap (λ (n : ℕ). map place_of (take n ps)) up ∙ ap (map place_of) last ∙ map-append place_of (take k ps) (get_or ps k d ∷ []) in
    let sum : places_on e (map place_of (take k ps) ++ place_of (get_or ps k d) ∷ []) ≡ places_on e (map place_of (take k ps)) + places_on e (place_of (get_or ps k d) ∷ []) =
    places_append e (map place_of (take k ps)) (place_of (get_or ps k d) ∷ []) in
    let one : places_on e (place_of (get_or ps k d) ∷ []) ≡ one_on (get_or ps k d).extent e + places_on e [] = places_step e (place_of (get_or ps k d)) [] in
    let same : places_on e (map place_of (take (k + 1) ps)) ≡ places_on e (map place_of (take k ps) ++ place_of (get_or ps k d) ∷ []) = ap (places_on e) cut in
    omega arith

pub places_within : (e : ℕ) (ps : List Locator) (k : ℕ) → places_on e (map place_of (take k ps)) ≤ places_on e (map place_of ps)
places_within e ps k =
    let cut : map place_of ps ≡ map place_of (take k ps) ++ map place_of (drop k ps) = ap (map place_of) (sym (take-append-drop k ps)) ∙ map-append place_of (take k ps) (drop k ps) in
    let sum : places_on e (map place_of (take k ps) ++ map place_of (drop k ps)) ≡ places_on e (map place_of (take k ps)) + places_on e (map place_of (drop k ps)) =
    places_append e (map place_of (take k ps)) (map place_of (drop k ps)) in
    let same : places_on e (map place_of ps) ≡ places_on e (map place_of (take k ps) ++ map place_of (drop k ps)) = ap (places_on e) cut in
    omega arith

-- ---- one number of a list

module _ (on : List ℕ) (x : ℕ) where
  pub set_more : x < length on → (e : ℕ) → get_or (set on x (get_or on x 0 + 1)) e 0 ≡ get_or on e 0 + one_on x e
  set_more lt e = elim (cases_eq x e) [
    | inl is ↦ (let one : one_on x e ≡ 1 = ap (λ (b : Bool). if b then 1 else 0) (eq-eqb x e is) in
        let at : get_or (set on x (get_or on x 0 + 1)) e 0 ≡ get_or on x 0 + 1 = subst (λ (n : ℕ). get_or (set on x (get_or on x 0 + 1)) n 0 ≡ get_or on x 0 + 1) is (get_or-set_same on x (get_or on x 0 + 1) 0 lt) in
        let same : get_or on e 0 ≡ get_or on x 0 = ap (λ (n : ℕ). get_or on n 0) (sym is) in omega arith)
    | inr not ↦ (let none : one_on x e ≡ 0 = ap (λ (b : Bool). if b then 1 else 0) (ne_eqb x e not) in
        let at : get_or (set on x (get_or on x 0 + 1)) e 0 ≡ get_or on e 0 = get_or-set_other on x e (get_or on x 0 + 1) 0 (λ h. not (sym h)) in omega arith)
  ]

  pub set_less : x < length on → 1 ≤ get_or on x 0 → (e : ℕ) → get_or (set on x (get_or on x 0 - 1)) e 0 + one_on x e ≡ get_or on e 0
  set_less lt some e = elim (cases_eq x e) [
    | inl is ↦ (let one : one_on x e ≡ 1 = ap (λ (b : Bool). if b then 1 else 0) (eq-eqb x e is) in
        let at : get_or (set on x (get_or on x 0 - 1)) e 0 ≡ get_or on x 0 - 1 = subst (λ (n : ℕ). get_or (set on x (get_or on x 0 - 1)) n 0 ≡ get_or on x 0 - 1) is (get_or-set_same on x (get_or on x 0 - 1) 0 lt) in
        let same : get_or on e 0 ≡ get_or on x 0 = ap (λ (n : ℕ). get_or on n 0) (sym is) in omega arith)
    | inr not ↦ (let none : one_on x e ≡ 0 = ap (λ (b : Bool). if b then 1 else 0) (ne_eqb x e not) in
        let at : get_or (set on x (get_or on x 0 - 1)) e 0 ≡ get_or on e 0 = get_or-set_other on x e (get_or on x 0 - 1) 0 (λ h. not (sym h)) in omega arith)
  ]

  pub one_outside : length on ≤ x → (e : ℕ) → e < length on → one_on x e ≡ 0
  one_outside out e lt = ap (λ (b : Bool). if b then 1 else 0) (ne_eqb x e (λ (is : x ≡ e). absurd (omega (arith, out, lt, is))))

-- there is room for one more, and one to take
module _ (ps : List Locator) (k : ℕ) (d : Locator) (lt : k < length ps) (e now before : ℕ) (is : (get_or ps k d).extent ≡ e) where
  one_here : places_on e (map place_of (take (k + 1) ps)) ≡ places_on e (map place_of (take k ps)) + 1
  one_here =
      let more : places_on e (map place_of (take (k + 1) ps)) ≡ places_on e (map place_of (take k ps)) + one_on (get_or ps k d).extent e = places_more e ps k d lt in
      let one : one_on (get_or ps k d).extent e ≡ 1 = ap (λ (b : Bool). if b then 1 else 0) (eq-eqb (get_or ps k d).extent e is) in
      omega arith

  pub room_for_one : now ≡ before + places_on e (map place_of (take k ps)) → before + places_on e (map place_of ps) < 2 ^ 32 → now + 1 < 2 ^ 32
  room_for_one was most =
      let le : places_on e (map place_of (take (k + 1) ps)) ≤ places_on e (map place_of ps) = places_within e ps (k + 1) in
      let one : places_on e (map place_of (take (k + 1) ps)) ≡ places_on e (map place_of (take k ps)) + 1 = one_here in
      omega arith

  pub one_to_take : now + places_on e (map place_of (take k ps)) ≡ before → places_on e (map place_of ps) ≤ before → 1 ≤ now
  one_to_take was most =
      let le : places_on e (map place_of (take (k + 1) ps)) ≤ places_on e (map place_of ps) = places_within e ps (k + 1) in
      let one : places_on e (map place_of (take (k + 1) ps)) ≡ places_on e (map place_of (take k ps)) + 1 = one_here in
      omega arith

-- ---- of a short index there are at most eight for each identifier

tally_few : (e : ℕ) (xs : List Entry) → AllByRecursion IsShort xs → lives_on e xs ≤ 8 * length xs
tally_few e [] short = omega arith
tally_few e (x ∷ xs) short =
    let sum : lives_on e (x ∷ xs) ≡ (lives_on e xs - places_on e (live_at xs x.id)) + places_on e x.locators = refl in
    let rest : lives_on e xs ≤ 8 * length xs = tally_few e xs short.1 in
    let few : places_on e x.locators ≤ length x.locators = places_few e x.locators in
    let most : length x.locators ≤ 8 = short.0 in
    omega arith

abbrev IsShortIndex : List Entry → Type 0
IsShortIndex index = (id : ℕ) → length (live_at index id) ≤ 8

short_run : (index xs ys : List Entry) → IsShortIndex index → IsMergedRun index xs → ((y : Entry) → y ∈ ys → y ∈ xs) → AllByRecursion IsShort ys
short_run index xs [] short run among = tt
short_run index xs (y ∷ ys) short run among = (
  (let is : live_at xs y.id ≡ y.locators = ap live (ascending_lookup xs y run.0 (among y (inl refl))) in
      let same : live_at xs y.id ≡ live_at index y.id = merged_live index xs run y.id in
      let e : length y.locators ≡ length (live_at index y.id) = ap length (sym is ∙ same) in
      let le : length (live_at index y.id) ≤ 8 = short y.id in
      omega arith),
  short_run index xs ys short run (λ z has. among z (inr has)),
)

pub lives_same : (e : ℕ) (xs ys : List Entry) → ((id : ℕ) → live_at xs id ≡ live_at ys id) → lives_on e xs ≡ lives_on e ys
lives_same e xs ys same = counts_alike (places_on e) refl xs ys same

pub lives_few : (e : ℕ) (index : List Entry) → ((id : ℕ) → length (live_at index id) ≤ 8) → lives_on e index ≤ 8 * names index
lives_few e index short =
    let all = sorted_live index in
    let run : IsMergedRun index all.0 = (all.1, all.2) in
    let same : lives_on e index ≡ lives_on e all.0 = lives_same e index all.0 (λ id. sym (merged_live index all.0 run id)) in
    let few : lives_on e all.0 ≤ 8 * length all.0 = tally_few e all.0 (short_run index all.0 all.0 short run (λ y has. has)) in
    let le : length all.0 ≤ names index = run_few true index all.0 run in
    omega arith

-- ---- counts

pub counts_as : (on : List ℕ) (old new : List Entry) → ((id : ℕ) → live_at new id ≡ live_at old id) → AreCounts on old → AreCounts on new
counts_as on old new same was = (was.0, λ e lt. was.1 e lt ∙ sym (lives_same e new old same))

-- with the places of a list more, or without
counts_with : (before on : List ℕ) (index : List Entry) (x : Entry) → length on ≡ length before
    → ((e : ℕ) → e < length before → get_or on e 0 ≡ get_or before e 0 + places_on e x.locators)
    → ((e : ℕ) → e < 7680 → get_or before e 0 ≡ lives_on e index - places_on e (live_at index x.id)) → length before ≡ 7680 → AreCounts on (x ∷ index)
counts_with before on index x size each was many = (
  (let a : length on ≡ 7680 = size ∙ many in a),
  λ e lt. (let a : get_or on e 0 ≡ get_or before e 0 + places_on e x.locators = each e (omega (arith, lt, many)) in
      let b : get_or before e 0 ≡ lives_on e index - places_on e (live_at index x.id) = was e lt in
      let c : lives_on e (x ∷ index) ≡ (lives_on e index - places_on e (live_at index x.id)) + places_on e x.locators = refl in
      omega arith),
)

pub lives_at_least : (e : ℕ) (index : List Entry) (id : ℕ) → places_on e (live_at index id) ≤ lives_on e index
lives_at_least e index id = counts (places_on e) refl index id

-- ---- counted one entry after another

asc_front : (xs ys : List Entry) → Ascending (xs ++ ys) → Ascending xs
asc_front [] ys o = tt
asc_front (x ∷ []) ys o = tt
asc_front (x ∷ y ∷ xs) ys o = (o.0, asc_front (y ∷ xs) ys o.1)

counted_behind : (e : ℕ) (xs : List Entry) (id : ℕ) (ls : List Place) → Ascending (xs ++ live_entry id ls) → lives_on e (xs ++ live_entry id ls) ≡ lives_on e xs + places_on e ls
counted_behind e [] id [] order = omega arith
counted_behind e [] id (l ∷ ls) order = omega arith
counted_behind e (x ∷ xs) id ls order =
    let rest : lives_on e (xs ++ live_entry id ls) ≡ lives_on e xs + places_on e ls = counted_behind e xs id ls (ascending_tail x (xs ++ live_entry id ls) order) in
    let none : places_on e (live_at (xs ++ live_entry id ls) x.id) ≡ 0 = ap (λ (o : Option (List Place)). places_on e (live o)) (none_below x (xs ++ live_entry id ls) x.id order (omega arith)) in
    let here : places_on e (live_at xs x.id) ≤ lives_on e xs = lives_at_least e xs x.id in
    let sum : lives_on e (x ∷ (xs ++ live_entry id ls)) ≡ (lives_on e (xs ++ live_entry id ls) - places_on e (live_at (xs ++ live_entry id ls) x.id)) + places_on e x.locators = refl in
    let was : lives_on e (x ∷ xs) ≡ (lives_on e xs - places_on e (live_at xs x.id)) + places_on e x.locators = refl in
    let front : places_on e (live_at xs x.id) ≡ 0 = nothing xs order in
    omega arith
  where
    nothing : (zs : List Entry) → Ascending (x ∷ (zs ++ live_entry id ls)) → places_on e (live_at zs x.id) ≡ 0
    nothing [] o = refl
    nothing (z ∷ zs) o = ap (λ (p : Option (List Place)). places_on e (live p)) (none_below x (z ∷ zs) x.id (asc_front (x ∷ z ∷ zs) (live_entry id ls) o) (omega arith))

-- what is counted once one entry more is read
pub counts_more : (before on : List ℕ) (index xs : List Entry) (after : Option ℕ) (id : ℕ) (ls : List Place) → IsMergedTo index after xs → IsNext index after (Some (record { id = id; locators = ls })) → AreCounts before xs
    → length on ≡ length before → ((e : ℕ) → e < length before → get_or on e 0 ≡ get_or before e 0 + places_on e ls) → AreCounts on (xs ++ live_entry id ls)
counts_more before on index xs after id ls was next counted size each = (
  size ∙ counted.0,
  λ e lt. (let a : get_or on e 0 ≡ get_or before e 0 + places_on e ls = each e (omega (arith, lt, counted.0)) in
      let b : get_or before e 0 ≡ lives_on e xs = counted.1 e lt in
      let c : lives_on e (xs ++ live_entry id ls) ≡ lives_on e xs + places_on e ls = counted_behind e xs id ls (merged_step index xs after id ls was next).ascending in
      omega arith),
)

zeros : (n k : ℕ) → get_or {A = ℕ} (replicate n 0) k 0 ≡ 0
zeros zero k = refl
zeros (suc n) zero = refl
zeros (suc n) (suc k) = zeros n k

pub counts_none : (on : List ℕ) → on ≡ replicate 7680 0 → AreCounts on []
counts_none on is = (ap length is ∙ length-replicate {A = ℕ} 7680 0, λ e lt. ap (λ (ns : List ℕ). get_or ns e 0) is ∙ zeros 7680 e)

-- ---- an index that can be read

pub short_index : (table : List Entry) (runs : List Run) → AllByRecursion IsShort table → AllByRecursion IsStored runs → (id : ℕ) → length (live_at (table ++ entries_of runs) id) ≤ 8
short_index table runs short stored id = by (lookup id (table ++ entries_of runs)) refl
  where
    by : (o : Option (List Place)) → lookup id (table ++ entries_of runs) ≡ o → length (live o) ≤ 8
    by None is = omega arith
    by (Some ls) is = short_in (table ++ entries_of runs) id ls (all_append IsShort table (entries_of runs) short (short_runs runs stored)) is

-- with another entry in front too, so each count has room
recount_room : (x : Entry) (index : List Entry) → ((id : ℕ) → length (live_at index id) ≤ 8) → length x.locators ≤ 8 → names (x ∷ index) < 2 ^ 29
    → (e : ℕ) → (lives_on e index - places_on e (live_at index x.id)) + places_on e x.locators < 2 ^ 32
recount_room x index short few small e =
    let all : lives_on e (x ∷ index) ≤ 8 * names (x ∷ index) = lives_few e (x ∷ index) each in
    let sum : lives_on e (x ∷ index) ≡ (lives_on e index - places_on e (live_at index x.id)) + places_on e x.locators = refl in
    omega arith
  where
    each : (id : ℕ) → length (live_at (x ∷ index) id) ≤ 8
    each id = elim (cases_eq x.id id) [
      | inl is ↦ subst (λ (ls : List Place). length ls ≤ 8) (sym (ap live (lookup_here x index id is))) few
      | inr not ↦ subst (λ (ls : List Place). length ls ≤ 8) (sym (ap live (lookup_there x index id not))) (short id)
    ]

-- what an identifier had last is counted
pub last_counted : (on : List ℕ) (index : List Entry) (id : ℕ) (o : Option (List Place)) → AreCounts on index → o ≡ lookup id index → (e : ℕ) → e < length on → places_on e (live o) ≤ get_or on e 0
last_counted on index id o counted last e lt =
    omega (arith, counted.1 e (omega (arith, lt, counted.0)), lives_at_least e index id, ap (λ (p : Option (List Place)). places_on e (live p)) last)

-- once that is counted no more there is room for an entry in front, and with it that is what is counted
module _ (on between : List ℕ) (index : List Entry) (x : Entry) (o : Option (List Place)) (counted : AreCounts on index) (last : o ≡ lookup x.id index) (size : length between ≡ length on)
    (taken : (e : ℕ) → e < length on → get_or between e 0 + places_on e (live o) ≡ get_or on e 0) where
  without : (e : ℕ) → e < 7680 → get_or between e 0 ≡ lives_on e index - places_on e (live_at index x.id)
  without e lt = omega (arith, counted.1 e lt, taken e (omega (arith, lt, counted.0)), ap (λ (p : Option (List Place)). places_on e (live p)) last)

  pub room_in_front : ((id : ℕ) → length (live_at index id) ≤ 8) → length x.locators ≤ 8 → names (x ∷ index) < 2 ^ 29 → (e : ℕ) → e < length between → get_or between e 0 + places_on e x.locators < 2 ^ 32
  room_in_front short few small e lt = omega (arith, recount_room x index short few small e, without e (omega (arith, lt, size, counted.0)))

  pub counts_in_front : (now : List ℕ) → length now ≡ length between → ((e : ℕ) → e < length between → get_or now e 0 ≡ get_or between e 0 + places_on e x.locators) → AreCounts now (x ∷ index)
  counts_in_front now same each = counts_with between now index x same each without (size ∙ counted.0)

-- so while entries are counted one after another
pub count_room : (e n limit : ℕ) (xs : List Entry) (id : ℕ) (ls : List Place) → AllByRecursion IsShort (xs ++ live_entry id ls) → Ascending (xs ++ live_entry id ls) → n ≡ lives_on e xs
    → length (xs ++ live_entry id ls) ≤ limit → limit < 2 ^ 29 → n + places_on e ls < 2 ^ 32
count_room e n limit xs id ls short order is few small =
    let all : lives_on e (xs ++ live_entry id ls) ≤ 8 * length (xs ++ live_entry id ls) = tally_few e (xs ++ live_entry id ls) short in
    let sum : lives_on e (xs ++ live_entry id ls) ≡ lives_on e xs + places_on e ls = counted_behind e xs id ls order in
    omega arith

-- ---- an index of which nothing lives

pub none_lives : (go : Bool) (s : State) (k : ℕ) (E : List Entry) → E ≡ [] → go ≡ true → drop k s.runs ≡ [] → IsRunOf go (part s k) E → (id : ℕ) → live_at (index_of s) id ≡ []
none_lives go s k E none goes alone run id =
    sym (live_left go (lookup id (index_of s)))
    ∙ sym (ap live (part_lookup go s k [] (λ g. alone) (subst (λ (es : List Entry). IsRunOf go (part s k) es) none run) id))
    ∙ ap (λ (rs : List Run). live_at (entries_of rs) id) alone

pub nothing_counts : (on : List ℕ) (old : List Entry) (xs : Entries) (runs : List StoredRun) (format : Format) (limit : ℕ) → xs ≡ [] → runs ≡ [] → ((id : ℕ) → live_at old id ≡ []) → AreCounts on old → AreCounts on (index_of (state_of xs runs format limit 0))
nothing_counts on old xs runs format limit none alone dead was =
    counts_as on old (index_of (state_of xs runs format limit 0))
    (λ id. ap (λ (es : Entries). live_at (map named_entry es ++ entries_of (newest_first runs)) id) none ∙ ap (λ (rs : List StoredRun). live_at (entries_of (newest_first rs)) id) alone ∙ sym (dead id))
    was

-- the run of all that is live has the same counts
pub counts_run : (on : List ℕ) (index xs : List Entry) → IsMergedRun index xs → AreCounts on xs → AreCounts on index
counts_run on index xs run was = counts_as on xs index (λ id. sym (merged_live index xs run id)) was

-- ---- numbers that were written back into a vector

front : (a b : List ℕ) → take (length a) (a ++ b) ≡ a
front [] b = refl
front (x ∷ a) b = ap (λ (xs : List ℕ). x ∷ xs) (front a b)

-- a list of that length that was written back is what it was
pub back_is : (n : ℕ) (new rest : List ℕ) → length new ≡ n → take n (new ++ rest) ≡ new
back_is n new rest size = ap (λ (m : ℕ). take m (new ++ rest)) (sym size) ∙ front new rest

pub counts_back : (n : ℕ) (new rest : List ℕ) (index : List Entry) → length new ≡ n → AreCounts new index → AreCounts (take n (new ++ rest)) index
counts_back n new rest index size was = subst (λ (on : List ℕ). AreCounts on index) (sym (back_is n new rest size)) was
