-- The table and the newest runs as one run, in front of the others.
use Rattle.std.proofs.Common.{◌≡◌, ◌≢◌, ◌⊎◌, inl, inr, ⊎_elim, ℕ, zero, suc, ◌+◌, ◌-◌, ◌<◌, ◌≤◌, Bool, true, false, List, [], ◌∷◌, ◌++◌, length, length-drop, take, drop, map, Option, Some, None, if◌then◌else◌, refl, sym, ap, subst, ◌∙◌, arith, append_assoc, append-nil, take-append-drop, le_trans}
use Rattle.std.proofs.Math.Seq.{take-length}
use Rattle.std.specs.Prelude.{Err, IfOk, Ok, Result, is_some}
use Rattle.std.specs.List.{AllByRecursion}
use Rattle.std.proofs.lemmas.List.{length-map}
use Rattle.cs_deps.specs.State.{State as GraphState}
use Rattle.cs_extent.specs.State.{State as ExtentsState}
use Rattle.cs_frame.specs.Formats.{place_of}
use Rattle.cs_frame.specs.Locators.{KeepFormat}
use Rattle.cs_index.specs.declared.stored_runs.StoredRun.{StoredRun}
use Rattle.law_machine.specs.Format.{Format}
use Rattle.law_machine.proofs.Counting.{ascending_names, lookup_here}
use Rattle.law_machine.proofs.Gives.{lookup_append}
use Rattle.law_machine.specs.Element.{Entry, Locator as Place, Run}
use Rattle.law_machine.specs.Extents.{Purpose as Reason}
use Rattle.law_machine.proofs.Weights.{weight_some}
use Rattle.law_machine.specs.Geometry.{weigh_in}
use Rattle.law_machine.specs.Index.{Ascending, entries_of, if_live, live, live_at, lookup, named_weight, names, run_weight}
use Rattle.law_machine.specs.Merges.{IsRunOf}
use Rattle.law_machine.specs.Tally.{living_weight}
use Rattle.cs_index.specs.Merges.{part}
use Rattle.cs_index.specs.Staged.{IsPartAppendedBy, IsPartStagedBy}
use Rattle.cs_index.specs.State.{IsShort, IsStored, IsWhole, KeepTo, RunsKeepTo, State, index_of, named_entry, newest_first, run_of, state_of}
use Rattle.cs_index.proofs.Marks.{left_keep, newer_keep, places_keep, run_keeps}
use Rattle.cs_index.proofs.Merged.{left, live_left}
use Rattle.cs_index.proofs.Names.{names_of_lookups}
use Rattle.cs_index.proofs.Newest.{all_newest, all_oldest, lookup_first}
use Rattle.cs_index.proofs.Sorted.{all_drop}
use Rattle.cs_index.proofs.Staging.{newest_push}
use Rattle.cs_index.proofs.Weights.{left_light, left_weight, run_light}
use Rattle.cs_index.proofs.Whole.{Entries, length-newest}

-- ---- the newest of runs that are listed oldest first are the last of them

newest_append : (a b : List StoredRun) → newest_first (a ++ b) ≡ newest_first b ++ newest_first a
newest_append [] b = sym (append-nil (newest_first b))
newest_append (x ∷ a) b = ap (λ (rs : List Run). rs ++ run_of x ∷ []) (newest_append a b) ∙ append_assoc (newest_first b) (newest_first a) (run_of x ∷ [])

take_front : (a b : List Run) → take (length a) (a ++ b) ≡ a
take_front [] b = refl
take_front (x ∷ a) b = ap (λ (rs : List Run). x ∷ rs) (take_front a b)

drop_front : (a b : List Run) → drop (length a) (a ++ b) ≡ b
drop_front [] b = refl
drop_front (x ∷ a) b = drop_front a b

-- three facts of a result give a fourth
pub all_three : {T E : Type 0} (r : Result T E) (A B C D : T → Type 0) → ((v : T) → A v → B v → C v → D v) → IfOk r A → IfOk r B → IfOk r C → IfOk r D
all_three (Ok v) A B C D from a b c = from v a b c
all_three (Err e) A B C D from a b c = tt

-- what is behind a place, as code takes it
pub behind_place : (n : ℕ) (xs : List StoredRun) → take (length xs - n) (drop n xs) ≡ drop n xs
behind_place n xs = ap (λ (m : ℕ). take m (drop n xs)) (sym (length-drop n xs)) ∙ take-length (drop n xs)

-- n older runs and k newer ones
module _ (runs : List StoredRun) (n k : ℕ) (split : n + k ≡ length runs) where
  abbrev newer : List Run
  newer = newest_first (drop n runs)

  abbrev older : List Run
  older = newest_first (take n runs)

  as_many : length newer ≡ k
  as_many = length-newest (drop n runs) ∙ (let e : length (drop n runs) ≡ length runs - n = length-drop n runs in let k_is : length runs - n ≡ k = omega (arith, split) in e ∙ k_is)

  joined : newest_first runs ≡ newer ++ older
  joined = ap newest_first (sym (take-append-drop n runs)) ∙ newest_append (take n runs) (drop n runs)

  pub newest_taken : newest_first (drop n runs) ≡ take k (newest_first runs)
  newest_taken = sym (ap (take k) joined ∙ ap (λ (m : ℕ). take m (newer ++ older)) (sym as_many) ∙ take_front newer older)

  pub newest_left : newest_first (take n runs) ≡ drop k (newest_first runs)
  newest_left = sym (ap (drop k) joined ∙ ap (λ (m : ℕ). drop m (newer ++ older)) (sym as_many) ∙ drop_front newer older)

  pub few_left : (most : ℕ) → length (drop k (newest_first runs)) < most → length (take n runs) < most
  few_left most few =
      let e : length (newest_first (take n runs)) ≡ length (take n runs) = length-newest (take n runs) in
      let same : length (newest_first (take n runs)) ≡ length (drop k (newest_first runs)) = ap length newest_left in
      omega (arith, e, same, few)

  pub left_places : (format : Format) → RunsKeepTo format (newest_first runs) → KeepFormat format (map (λ run. run.place) (take n runs))
  left_places format keep = places_keep format (take n runs) (subst (RunsKeepTo format) (sym newest_left) (left_keep format k (newest_first runs) keep))

  pub stored_newest : AllByRecursion IsStored (newest_first runs) → AllByRecursion IsStored (newest_first (drop n runs))
  stored_newest all = all_newest IsStored (drop n runs) (all_drop (λ (r : StoredRun). IsStored (run_of r)) n runs (all_oldest IsStored runs all))

  pub few_newest : length runs ≤ 24 → length (drop n runs) ≤ 24
  few_newest few = omega (arith, length-drop n runs, few)

-- ---- what an identifier has once a part is merged

entries_cut : (k : ℕ) (runs : List Run) → entries_of runs ≡ entries_of (take k runs) ++ entries_of (drop k runs)
entries_cut zero runs = refl
entries_cut (suc k) [] = refl
entries_cut (suc k) (run ∷ runs) = ap (λ (es : List Entry). run.entries ++ es) (entries_cut k runs)
    ∙ sym (append_assoc run.entries (entries_of (take k runs)) (entries_of (drop k runs)))

-- the index is the part and the rest
pub index_cut : (s : State) (k : ℕ) → index_of s ≡ part s k ++ entries_of (drop k s.runs)
index_cut s k = ap (λ (es : List Entry). s.table ++ es) (entries_cut k s.runs)
    ∙ sym (append_assoc s.table (entries_of (take k s.runs)) (entries_of (drop k s.runs)))

-- a part names no more than the index
pub named_first : (id : ℕ) (xs ys : List Entry) → is_some (lookup id xs) ≡ true → is_some (lookup id (xs ++ ys)) ≡ true
named_first id xs ys is = by (lookup id xs) refl is
  where
    by : (o : Option (List Place)) → lookup id xs ≡ o → is_some o ≡ true → is_some (lookup id (xs ++ ys)) ≡ true
    by None at some = absurd (let e : false ≡ true = some in cc)
    by (Some ls) at some = ap (λ (o : Option (List Place)). is_some o) (lookup_first id xs ys ls at)

-- and what it names weighs no more, so its run has room
pub part_light : (go : Bool) (s : State) (k : ℕ) (xs : List Entry) → IsWhole s → IsRunOf go (part s k) xs → run_weight (weigh_in s.format) xs ≤ s.limit
part_light go s k xs whole run =
    let few : run_weight (weigh_in s.format) xs ≤ named_weight (weigh_in s.format) (part s k) = run_light (weigh_in s.format) go (part s k) xs run in
    let le : named_weight (weigh_in s.format) (part s k) ≤ named_weight (weigh_in s.format) (index_of s) = weight_some (weigh_in s.format) (part s k) (index_of s)
    (λ id ls is. ap (lookup id) (index_cut s k) ∙ lookup_first id (part s k) (entries_of (drop k s.runs)) ls is) in
    let most : named_weight (weigh_in s.format) (index_of s) ≤ s.limit = whole.weight_fits in
    omega (arith, few, le, most)

pub part_lookup : (go : Bool) (s : State) (k : ℕ) (xs : List Entry) → (go ≡ true → drop k s.runs ≡ []) → IsRunOf go (part s k) xs
    → (id : ℕ) → lookup id (xs ++ entries_of (drop k s.runs)) ≡ left go (lookup id (index_of s))
part_lookup true s k xs all run id =
    let none : drop k s.runs ≡ [] = all refl in
    let whole : part s k ≡ index_of s = sym (index_cut s k ∙ ap (λ (rs : List Run). part s k ++ entries_of rs) none ∙ append-nil (part s k)) in
    ap (λ (rs : List Run). lookup id (xs ++ entries_of rs)) none ∙ ap (lookup id) (append-nil xs) ∙ run.1 id ∙ ap (λ (es : List Entry). if_live (lookup id es)) whole
part_lookup false s k xs all run id =
    lookup_append id xs (part s k) (entries_of (drop k s.runs)) (run.1 id) ∙ ap (lookup id) (sym (index_cut s k))

-- a run of a table that isn't empty has an entry, where deletions stay
pub goes_where_none : (go : Bool) (s : State) (k : ℕ) (xs : List Entry) → xs ≡ [] → IsRunOf go (part s k) xs → (go ≡ true) ⊎ (s.table ≢ []) → go ≡ true
goes_where_none true s k xs none run some = refl
goes_where_none false s k xs none run some = ⊎_elim (λ (is : false ≡ true). is) (λ (table : s.table ≢ []). absurd (has s.table table (λ id. sym (run.1 id) ∙ ap (lookup id) none))) some
  where
    has : (es : List Entry) → es ≢ [] → ((id : ℕ) → lookup id (es ++ entries_of (take k s.runs)) ≡ None) → ⊥
    has [] some nothing = some refl
    has (e ∷ es) some nothing = let wrong : Some e.locators ≡ None = sym (lookup_here e (es ++ entries_of (take k s.runs)) e.id refl) ∙ nothing e.id in cc

-- and its entries keep to the format
pub part_keeps : (go : Bool) (s : State) (k : ℕ) (xs : List Entry) → IsWhole s → IsRunOf go (part s k) xs → AllByRecursion (λ x. KeepTo s.format x.locators) xs
part_keeps go s k xs whole run = run_keeps s.format go (part s k) (entries_of (drop k s.runs)) xs run (λ id. subst (λ (es : List Entry). KeepTo s.format (live_at es id)) (index_cut s k) (whole.marks id))

-- ---- an index in which a part is one run

module _ {apart : Bool} (go : Bool) (k : ℕ) (s : State) (x : ExtentsState) (g : GraphState) (reason : Reason) (v commands : ℕ) (t : State) (y : ExtentsState) (h : GraphState)
    (staged : IsPartStagedBy apart go k s x g reason v commands t y h) (all : go ≡ true → drop k s.runs ≡ []) where
  pub part_left : (id : ℕ) → lookup id (index_of t) ≡ left go (lookup id (index_of s))
  part_left id = ap (λ (es : List Entry). lookup id (es ++ entries_of t.runs)) staged.table ∙ by staged.appended
    where
      by : IsPartAppendedBy apart go s k x g reason t.runs y staged.between → lookup id (entries_of t.runs) ≡ left go (lookup id (index_of s))
      by (inl m) = ap (λ (rs : List Run). lookup id (entries_of rs)) m.5 ∙ part_lookup go s k m.0 all m.3 id
      by (inr m) = ap (λ (rs : List Run). lookup id (entries_of rs)) m.3 ∙ part_lookup go s k [] all m.0 id

  pub part_live : (id : ℕ) → live_at (index_of t) id ≡ live_at (index_of s) id
  part_live id = ap live (part_left id) ∙ live_left go (lookup id (index_of s))

pub part_stays : {apart : Bool} (go : Bool) (k : ℕ) (s : State) (x : ExtentsState) (g : GraphState) (reason : Reason) (v commands : ℕ) (t : State) (y : ExtentsState) (h : GraphState)
    → IsPartStagedBy apart go k s x g reason v commands t y h → go ≡ false → (id : ℕ) → lookup id (index_of t) ≡ lookup id (index_of s)
part_stays true k s x g reason v commands t y h staged stay id = absurd (let e : true ≡ false = stay in cc)
part_stays false k s x g reason v commands t y h staged stay id = part_left false k s x g reason v commands t y h staged (λ e. absurd (let wrong : false ≡ true = e in cc)) id

-- ---- the fields of such an index: n older runs stay, and one takes the place of the k newer ones and of the table

-- how many are named then
count_then : (go : Bool) (es old new : List Entry) (rest : List Run) (named before : ℕ) → new ≡ es ++ entries_of rest → (go ≡ true → rest ≡ []) → Ascending es
    → ((id : ℕ) → lookup id new ≡ left go (lookup id old)) → before ≡ names old → named ≡ (if go then length es else before) → named ≡ names new
count_then true es old new rest named before is all order look was count =
    count ∙ sym (ap names (is ∙ ap (λ (rs : List Run). es ++ entries_of rs) (all refl) ∙ append-nil es) ∙ ascending_names es order)
count_then false es old new rest named before is all order look was count = count ∙ was ∙ sym (names_of_lookups new old look)

module _ (xs empty : Entries) (runs kept news : List StoredRun) (r : StoredRun) (n k : ℕ) (split : n + k ≡ length runs) (is : news ≡ kept ++ r ∷ []) (same : kept ≡ take n runs) (none : empty ≡ []) where
  pub parted_runs : newest_first news ≡ record { place = place_of r.place; entries = map named_entry r.entries.items } ∷ drop k (newest_first runs)
  parted_runs = ap newest_first (is ∙ ap (λ (rs : List StoredRun). rs ++ r ∷ []) same) ∙ newest_push (take n runs) r ∙ ap (λ (rs : List Run). run_of r ∷ rs) (newest_left runs n k split)

  pub parted_state : (format : Format) (limit : ℕ)
      → state_of empty news format limit 0 ≡ record { table = []; runs = record { place = place_of r.place; entries = map named_entry r.entries.items } ∷ drop k (newest_first runs); format = format; limit = limit; room = 0 }
  parted_state format limit =
      let table : map named_entry empty ≡ [] = ap (map named_entry) none in
      λ i. record { table = table i; runs = parted_runs i; format = format; limit = limit; room = 0 }

  parted_index : (format : Format) (limit : ℕ) → index_of (state_of empty news format limit 0) ≡ map named_entry r.entries.items ++ entries_of (drop k (newest_first runs))
  parted_index format limit = ap (λ (es : Entries). map named_entry es ++ entries_of (newest_first news)) none ∙ ap entries_of parted_runs

  module _ (format : Format) (limit room : ℕ) (go : Bool) (run : IsRunOf go (part (state_of xs runs format limit room) k) (map named_entry r.entries.items)) (all : go ≡ true → drop k (newest_first runs) ≡ []) where
    parted_lookup : (id : ℕ) → lookup id (index_of (state_of empty news format limit 0)) ≡ left go (lookup id (index_of (state_of xs runs format limit room)))
    parted_lookup id = ap (lookup id) (parted_index format limit) ∙ part_lookup go (state_of xs runs format limit room) k (map named_entry r.entries.items) all run id

    pub parted_live : (id : ℕ) → live_at (index_of (state_of empty news format limit 0)) id ≡ live_at (index_of (state_of xs runs format limit room)) id
    parted_live id = ap live (parted_lookup id) ∙ live_left go (lookup id (index_of (state_of xs runs format limit room)))

    pub parted_names : (named before : ℕ) → before ≡ names (index_of (state_of xs runs format limit room)) → named ≡ (if go then length r.entries.items else before)
        → named ≡ names (index_of (state_of empty news format limit 0))
    parted_names named before was count =
        count_then go (map named_entry r.entries.items) (index_of (state_of xs runs format limit room)) (index_of (state_of empty news format limit 0)) (drop k (newest_first runs)) named before
        (parted_index format limit) all run.0 parted_lookup was (count ∙ ap (λ (m : ℕ). if go then m else before) (sym (length-map r.entries.items named_entry)))

    pub parted_weight : (weight : ℕ) → weight ≡ (if go then living_weight (weigh_in format) (index_of (state_of xs runs format limit room)) else named_weight (weigh_in format) (index_of (state_of xs runs format limit room)))
        → weight ≡ named_weight (weigh_in format) (index_of (state_of empty news format limit 0))
    parted_weight weight is = is ∙ sym (left_weight (weigh_in format) go (index_of (state_of xs runs format limit room)) (index_of (state_of empty news format limit 0)) parted_lookup)

    pub parted_whole : map named_entry r.entries.items ≢ [] → AllByRecursion IsShort (map named_entry r.entries.items) → length (drop k (newest_first runs)) < 24 → KeepTo format (place_of r.place ∷ [])
        → IsWhole (state_of xs runs format limit room) → IsWhole (state_of empty news format limit 0)
    parted_whole some short few keep whole = record {
      ascending = subst (λ (es : Entries). Ascending (map named_entry es)) (sym none) tt;
      short = subst (λ (es : Entries). AllByRecursion IsShort (map named_entry es)) (sym none) tt;
      runs = subst (AllByRecursion IsStored) (sym parted_runs) ((run.0, some, short), all_drop IsStored k (newest_first runs) whole.runs);
      few = (let e : length (newest_first news) ≡ suc (length (drop k (newest_first runs))) = ap length parted_runs in omega arith);
      weight_fits = le_trans (left_light (weigh_in format) go (index_of (state_of xs runs format limit room)) (index_of (state_of empty news format limit 0)) parted_lookup) whole.weight_fits;
      marks = λ id. subst (λ (ls : List Place). KeepTo format ls) (sym (parted_live id)) (whole.marks id);
      placed = subst (RunsKeepTo format) (sym parted_runs)
          (newer_keep format (record { place = place_of r.place; entries = map named_entry r.entries.items }) (drop k (newest_first runs)) keep (left_keep format k (newest_first runs) whole.placed));
    }
