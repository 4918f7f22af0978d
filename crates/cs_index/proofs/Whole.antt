-- What an index keeps.
use Rattle.std.proofs.Common.{◌≡◌, ◌≢◌, inl, inr, ℕ, ◌+◌, ◌*◌, ◌<◌, ◌≤◌, ◌^◌, ◌==◌, ◌&&◌, true, false, true≢false, List, [], ◌∷◌, ◌++◌, length, length-append, map, Bool, Option, Some, None, MatchBool, eq-eqb, ne_eqb, if◌then◌else◌, refl, sym, ap, ap₂, subst, ◌∙◌, arith}
use Rattle.std.proofs.Common.{Bor}
use Rattle.std.specs.Prelude.{IfSome, is_some, option_copied, option_map}
use Rattle.std.specs.List.{AllByRecursion}
use Rattle.std.proofs.lemmas.Bool.{and_from, and_parts, cases_eq, eqb-true, ltb-true}
use Rattle.std.proofs.lemmas.List.{length-map}
use Rattle.cs_frame.specs.declared.identifiers.ShardId.{ShardId}
use Rattle.cs_frame.specs.declared.locators.Locator.{Locator}
use Rattle.cs_frame.specs.Runs.{IsRun, Rises, entries_of as spelled_entries}
use Rattle.cs_index.specs.declared.stored_runs.StoredRun.{StoredRun}
use Rattle.law_machine.specs.Format.{Format}
use Rattle.law_machine.proofs.Counting.{lookup_here, lookup_there}
use Rattle.law_machine.specs.Element.{Entry, Locator as Place, Run}
use Rattle.law_machine.specs.Geometry.{weigh_in}
use Rattle.law_machine.specs.Index.{Ascending, entries_of, live, live_at, lookup, named_weight, names, weight_with}
use Rattle.law_machine.specs.Tally.{shards}
use Rattle.cs_index.specs.Read.{IsReadable}
use Rattle.cs_index.specs.Sorted.{IsPut}
use Rattle.cs_frame.specs.Formats.{place_of}
use Rattle.cs_frame.specs.Locators.{KeepFormat}
use Rattle.cs_frame.specs.Places.{Listed}
use Rattle.cs_index.specs.State.{IsId, IsSet, IsShort, IsStored, IsWhole, KeepTo, RunsKeepTo, State, id_number, index_of, named_entry, newest_first, run_of, state_of}
use Rattle.cs_index.proofs.Marks.{keep_locators, set_keeps}
use Rattle.cs_index.proofs.Names.{names_of_lookups}
use Rattle.cs_index.proofs.Newest.{all_newest, lookup_first, lookup_second, names_here, names_more}
use Rattle.cs_index.proofs.Numbers.{before_is}
use Rattle.cs_index.proofs.Sorted.{all_append}
use Rattle.cs_index.proofs.Weights.{runs_names, weight_entered}

abbrev pub Entries : Type 0
Entries = List (ShardId × Listed)

pub length-newest : (xs : List StoredRun) → length (newest_first xs) ≡ length xs
length-newest [] = refl
length-newest (x ∷ xs) = let e : length (newest_first xs) ≡ length xs = length-newest xs in let a : length (newest_first xs ++ run_of x ∷ []) ≡ length (newest_first xs) + 1 = length-append (newest_first xs) (run_of x ∷ []) in omega arith

-- ---- short entries

pub short_runs : (runs : List Run) → AllByRecursion IsStored runs → AllByRecursion IsShort (entries_of runs)
short_runs [] all = tt
short_runs (run ∷ runs) all = all_append IsShort run.entries (entries_of runs) all.0.2 (short_runs runs all.1)

pub short_in : (xs : List Entry) (id : ℕ) (ls : List Place) → AllByRecursion IsShort xs → lookup id xs ≡ Some ls → length ls ≤ 8
short_in [] id ls all is = absurd (let e : None ≡ Some ls = is in cc)
short_in (x ∷ xs) id ls all is = elim (cases_eq x.id id) [
  | inl here ↦ (let e : Some x.locators ≡ Some ls = sym (lookup_here x xs id here) ∙ is in let same : x.locators ≡ ls = cc in subst (λ (k : List Place). length k ≤ 8) same all.0)
  | inr there ↦ short_in xs id ls all.1 (sym (lookup_there x xs id there) ∙ is)
]

pub short_found_in : (table : List Entry) (runs : List Run) (id : ℕ) (ls : List Locator) → AllByRecursion IsShort table → AllByRecursion IsStored runs
    → lookup id (table ++ entries_of runs) ≡ Some (map place_of ls) → length ls ≤ 8
short_found_in table runs id ls short stored is =
    let few : length (map place_of ls) ≤ 8 = short_in (table ++ entries_of runs) id (map place_of ls) (all_append IsShort table (entries_of runs) short (short_runs runs stored)) is in
    omega (arith, length-map ls place_of)

-- ---- places

one_place : (l m : Locator) → place_of l ≡ place_of m → l ≡ m
one_place l m is = λ i. record { extent = (is i).extent; page = (is i).page; generation = (is i).generation; mark = (is i).mark }

pub one_places : (ls ms : List Locator) → map place_of ls ≡ map place_of ms → ls ≡ ms
one_places [] [] is = refl
one_places [] (m ∷ ms) is = cc
one_places (l ∷ ls) [] is = cc
one_places (l ∷ ls) (m ∷ ms) is =
    let e : place_of l ∷ map place_of ls ≡ place_of m ∷ map place_of ms = is in
    let here : place_of l ≡ place_of m = cc in
    let more : map place_of ls ≡ map place_of ms = cc in
    ap₂ (λ (x : Locator) (xs : List Locator). x ∷ xs) (one_place l m here) (one_places ls ms more)

-- ---- runs that can be spelled

ascending_of : (xs : Entries) → AllByRecursion (λ entry. IsId entry.0) xs → Rises (spelled_entries xs) → Ascending (map named_entry xs)
ascending_of [] ids rises = tt
ascending_of (x ∷ []) ids rises = tt
ascending_of (x ∷ y ∷ xs) ids rises =
    (ltb-true (id_number x.0) (id_number y.0) (sym (before_is x.0 y.0 ids.0 ids.1.0) ∙ rises.0), ascending_of (y ∷ xs) ids.1 rises.1)

pub short_of : (xs : Entries) → AllByRecursion (λ entry. length entry.1.items ≤ 8) xs → AllByRecursion IsShort (map named_entry xs)
short_of [] all = tt
short_of (x ∷ xs) all = ((let e : length (map place_of x.1.items) ≡ length x.1.items = length-map x.1.items place_of in let few : length x.1.items ≤ 8 = all.0 in omega arith), short_of xs all.1)

some_of : (xs : Entries) → 1 ≤ length xs → map named_entry xs ≢ []
some_of [] some is = omega arith
some_of (x ∷ xs) some is = cc

stored_of : (format : Format) (runs : List StoredRun) → AllByRecursion (λ run. AllByRecursion (λ entry. IsId entry.0) run.entries.items) runs
    → AllByRecursion (λ run. IsRun format (record { entries = run.entries })) runs → AllByRecursion (λ run. IsStored (run_of run)) runs
stored_of format [] ids all = tt
stored_of format (run ∷ runs) ids all = (
  (ascending_of run.entries.items ids.0 all.0.rising, some_of run.entries.items all.0.some, short_of run.entries.items all.0.counts),
  stored_of format runs ids.1 all.1,
)

pub stored_runs : (format : Format) (runs : List StoredRun) → AllByRecursion (λ run. AllByRecursion (λ entry. IsId entry.0) run.entries.items) runs
    → AllByRecursion (λ run. IsRun format (record { entries = run.entries })) runs → AllByRecursion IsStored (newest_first runs)
stored_runs format runs ids all = all_newest IsStored runs (stored_of format runs ids all)

pub lengths_of : (format : Format) (runs : List StoredRun) → AllByRecursion (λ run. IsRun format (record { entries = run.entries })) runs → AllByRecursion (λ run. length run.entries.items < 2 ^ 32) runs
lengths_of format [] all = tt
lengths_of format (run ∷ runs) all = (all.0.most, lengths_of format runs all.1)

-- no more are named in them than they can have entries
pub loaded_names : (format : Format) (runs : List StoredRun) → AllByRecursion (λ run. IsRun format (record { entries = run.entries })) runs → names (entries_of (newest_first runs)) ≤ length runs * 2 ^ 32
loaded_names format runs all =
    let le : names (entries_of (newest_first runs)) ≤ length (newest_first runs) * 2 ^ 32 =
    runs_names (newest_first runs) (all_newest (λ (run : Run). length run.entries < 2 ^ 32) runs (named_lengths runs (lengths_of format runs all))) in
    omega (arith, le, length-newest runs)
  where
    named_lengths : (rs : List StoredRun) → AllByRecursion (λ run. length run.entries.items < 2 ^ 32) rs → AllByRecursion (λ run. length (run_of run).entries < 2 ^ 32) rs
    named_lengths [] each = tt
    named_lengths (r ∷ rs) each = ((let few : length r.entries.items < 2 ^ 32 = each.0 in omega (arith, few, length-map r.entries.items named_entry)), named_lengths rs each.1)

-- ---- an entry is put into the table

same_first : (d : ℕ) (xs ys rest : List Entry) (o : Option (List Place)) → lookup d xs ≡ o → lookup d ys ≡ o → lookup d (ys ++ rest) ≡ lookup d (xs ++ rest)
same_first d xs ys rest None a b = lookup_second d ys rest b ∙ sym (lookup_second d xs rest a)
same_first d xs ys rest (Some ls) a b = lookup_first d ys rest ls b ∙ sym (lookup_first d xs rest ls a)

put_index : (xs ys rest : List Entry) (id : ℕ) (ls : List Place) (d : ℕ) → IsPut xs id ls ys
    → lookup d (ys ++ rest) ≡ (if id == d then Some ls else lookup d (xs ++ rest))
put_index xs ys rest id ls d put = elim (cases_eq id d) [
  | inl is ↦ (let test : (id == d) ≡ true = eq-eqb id d is in
      lookup_first d ys rest ls (put.lookups d ∙ ap (λ b. if b then Some ls else lookup d xs) test) ∙ sym (ap (λ b. if b then Some ls else lookup d (xs ++ rest)) test))
  | inr not ↦ (let test : (id == d) ≡ false = ne_eqb id d not in
      same_first d xs ys rest _ refl (put.lookups d ∙ ap (λ b. if b then Some ls else lookup d xs) test) ∙ sym (ap (λ b. if b then Some ls else lookup d (xs ++ rest)) test))
]

some_is : (o : Option (List Place)) → o ≢ None → is_some o ≡ true
some_is None not = absurd (not refl)
some_is (Some ls) not = refl

none_is : (o : Option (List Place)) → o ≡ None → is_some o ≡ false
none_is o is = ap (λ (p : Option (List Place)). is_some p) is

put_names : (xs ys rest : List Entry) (id named more : ℕ) (ls : List Place) (known : Bool) → IsPut xs id ls ys → named ≡ names (xs ++ rest)
    → MatchBool known (lookup id (xs ++ rest) ≢ None) (lookup id (xs ++ rest) ≡ None)
    → more ≡ (if known then named else named + 1) → more ≡ names (ys ++ rest)
put_names xs ys rest id named more ls known put was is count =
    by known is count ∙ sym (names_of_lookups (ys ++ rest) (record { id = id; locators = ls } ∷ (xs ++ rest)) (λ d. put_index xs ys rest id ls d put))
  where
    by : (b : Bool) → MatchBool b (lookup id (xs ++ rest) ≢ None) (lookup id (xs ++ rest) ≡ None) → more ≡ (if b then named else named + 1)
        → more ≡ names (record { id = id; locators = ls } ∷ (xs ++ rest))
    by true old count = count ∙ was ∙ sym (names_here (record { id = id; locators = ls }) (xs ++ rest) true (some_is _ old) refl)
    by false new count = count ∙ ap (λ (n : ℕ). n + 1) was ∙ sym (names_more (record { id = id; locators = ls }) (xs ++ rest) (none_is _ new))

module _ (xs ys : Entries) (runs : List StoredRun) (format : Format) (limit room left : ℕ) where
  abbrev old : State
  old = state_of xs runs format limit room

  abbrev new : State
  new = state_of ys runs format limit left

  pub enter_set : (id : ℕ) (ls : List Place) → IsPut (map named_entry xs) id ls (map named_entry ys) → IsSet (state_of xs runs format limit room) id ls (state_of ys runs format limit left)
  enter_set id ls put = record {
    table = put.lookups;
    index = λ d. put_index (map named_entry xs) (map named_entry ys) (entries_of (newest_first runs)) id ls d put;
    runs = refl;
    format = refl;
    limit = refl;
  }

  pub enter_count : (id named more : ℕ) (ls : List Place) (known : Bool) → IsPut (map named_entry xs) id ls (map named_entry ys) → named ≡ names (index_of (state_of xs runs format limit room))
      → MatchBool known (lookup id (index_of (state_of xs runs format limit room)) ≢ None) (lookup id (index_of (state_of xs runs format limit room)) ≡ None)
      → more ≡ (if known then named else named + 1) → more ≡ names (index_of (state_of ys runs format limit left))
  enter_count id named more ls known put was is count = put_names (map named_entry xs) (map named_entry ys) (entries_of (newest_first runs)) id named more ls known put was is count

  pub enter_whole : (id : ℕ) (ls : List Place) → IsPut (map named_entry xs) id ls (map named_entry ys) → length ls ≤ 8 → KeepTo format ls
      → weight_with (weigh_in format) (index_of (state_of xs runs format limit room)) id (length ls) ≤ limit → IsWhole (state_of xs runs format limit room) → IsWhole (state_of ys runs format limit left)
  enter_whole id ls put few keep light whole = record {
    ascending = put.ascending;
    short = put.short whole.short few;
    runs = whole.runs;
    few = whole.few;
    weight_fits = omega (arith, light, weight_entered (weigh_in format) (index_of (state_of xs runs format limit room)) (index_of (state_of ys runs format limit left)) id ls (enter_set id ls put).index);
    marks = set_keeps format id ls (index_of (state_of xs runs format limit room)) (index_of (state_of ys runs format limit left)) (enter_set id ls put).index keep whole.marks;
    placed = whole.placed;
  }

-- ---- what is looked up in the table and then in the runs

module _ (xs ys : Entries) (rs ss : List StoredRun) (same : xs ≡ ys) (same' : rs ≡ ss) where
  pub last_in : (id : ℕ) (o : Option (List Place)) → o ≡ lookup id (map named_entry xs ++ entries_of (newest_first rs)) → o ≡ lookup id (map named_entry ys ++ entries_of (newest_first ss))
  last_in id o is = is ∙ ap₂ (λ (es : Entries) (runs : List StoredRun). lookup id (map named_entry es ++ entries_of (newest_first runs))) same same'

  pub readable : (format : Format) (limit room : ℕ) → IsWhole (state_of ys ss format limit room) → IsReadable xs rs
  readable format limit room whole = subst (λ (es : Entries). IsReadable es rs) (sym same) (subst (λ (runs : List StoredRun). IsReadable ys runs) (sym same') (record {
    ascending = whole.ascending;
    short = whole.short;
    stored = whole.runs;
    few = omega (arith, whole.few, length-newest ss);
  }))

pub empty_whole : (runs : List StoredRun) (format : Format) (limit named weight : ℕ) (xs : Entries) → xs ≡ [] → AllByRecursion IsStored (newest_first runs) → length runs ≤ 24 → named ≡ names (entries_of (newest_first runs))
    → weight ≡ named_weight (weigh_in format) (entries_of (newest_first runs)) → weight ≤ limit
    → ((id : ℕ) → KeepTo format (live_at (entries_of (newest_first runs)) id)) → RunsKeepTo format (newest_first runs)
    → IsWhole (state_of xs runs format limit 0) × (named ≡ names (index_of (state_of xs runs format limit 0))) × (weight ≡ named_weight (weigh_in format) (index_of (state_of xs runs format limit 0)))
empty_whole runs format limit named weight xs none stored few is weighs le marks placed =
    subst (λ (ys : Entries). IsWhole (state_of ys runs format limit 0) × (named ≡ names (index_of (state_of ys runs format limit 0))) × (weight ≡ named_weight (weigh_in format) (index_of (state_of ys runs format limit 0)))) (sym none) (
      record {
        ascending = tt;
        short = tt;
        runs = stored;
        few = (let e : length (newest_first runs) ≡ length runs = length-newest runs in omega arith);
        weight_fits = omega (arith, weighs, le);
        marks = marks;
        placed = placed;
      },
      is,
      weighs,
    )

pub same_locators : (found other : List Locator) (o : Option (List Place)) (b : Bool) → Some (map place_of found) ≡ o → ((b ≡ true → found ≡ other) × (found ≡ other → b ≡ true))
    → MatchBool b (o ≡ Some (map place_of other)) (o ≢ Some (map place_of other))
same_locators found other o true is decides = sym is ∙ ap (λ (ls : List Locator). Some (map place_of ls)) (decides.0 refl)
same_locators found other o false is decides = λ same.
    let e : Some (map place_of found) ≡ Some (map place_of other) = is ∙ same in
    let places : map place_of found ≡ map place_of other = cc in
    true≢false (sym (decides.1 (one_places found other places)))

pub short_some : (table : List Entry) (runs : List Run) (id : ℕ) (o : Option (Bor (List Locator))) → AllByRecursion IsShort table → AllByRecursion IsStored runs
    → option_map (map place_of) (option_copied o) ≡ lookup id (table ++ entries_of runs) → IfSome o (λ ls. length ls.now ≤ 8)
short_some table runs id None short stored is = tt
short_some table runs id (Some ls) short stored is = short_found_in table runs id ls.now short stored (sym is)

pub no_ids : (xs : Entries) → xs ≡ [] → AllByRecursion (λ entry. IsId entry.0) xs
no_ids xs is = subst (λ (ys : Entries). AllByRecursion (λ entry. IsId entry.0) ys) (sym is) tt

-- what is looked up keeps to the format
marks_lookup : (s : State) (id : ℕ) (ls : List Locator) → IsWhole s → Some (map place_of ls) ≡ lookup id (index_of s) → KeepFormat s.format ls
marks_lookup s id ls whole is = keep_locators s.format ls (subst (λ (o : Option (List Place)). KeepTo s.format (live o)) (sym is) (whole.marks id))

pub marks_found : (s : State) (id : ℕ) (o : Option (Bor (List Locator))) → IsWhole s → option_map (map place_of) (option_copied o) ≡ lookup id (index_of s) → IfSome o (λ ls. KeepFormat s.format ls.now)
marks_found s id None whole is = tt
marks_found s id (Some ls) whole is = marks_lookup s id ls.now whole is

-- an index of nothing
pub nothing_whole : (xs : Entries) (runs : List StoredRun) (format : Format) (limit : ℕ) → xs ≡ [] → runs ≡ []
    → IsWhole (state_of xs runs format limit 0) × (0 ≡ names (index_of (state_of xs runs format limit 0))) × (0 ≡ shards (index_of (state_of xs runs format limit 0)))
    × (0 ≡ named_weight (weigh_in format) (index_of (state_of xs runs format limit 0)))
nothing_whole xs runs format limit none alone =
    let whole = empty_whole runs format limit 0 0 xs none
    (subst (λ (rs : List StoredRun). AllByRecursion IsStored (newest_first rs)) (sym alone) tt)
    (let e : length runs ≡ 0 = ap length alone in omega arith)
    (ap (λ (rs : List StoredRun). names (entries_of (newest_first rs))) (sym alone))
    (ap (λ (rs : List StoredRun). named_weight (weigh_in format) (entries_of (newest_first rs))) (sym alone))
    (omega arith)
    (λ id. subst (λ (rs : List StoredRun). KeepTo format (live_at (entries_of (newest_first rs)) id)) (sym alone) (λ off. tt))
    (subst (λ (rs : List StoredRun). RunsKeepTo format (newest_first rs)) (sym alone) (λ off. tt)) in (
      whole.0,
      whole.1,
      ap (λ (ys : Entries). shards (map named_entry ys ++ entries_of (newest_first []))) (sym none) ∙ ap (λ (rs : List StoredRun). shards (map named_entry xs ++ entries_of (newest_first rs))) (sym alone),
      whole.2,
    )

-- the comparison of two locators decides whether they are the same
pub locators_decide : (a b : Locator) → (((a.extent == b.extent) && ((a.page == b.page) && ((a.generation == b.generation) && (a.mark == b.mark)))) ≡ true → a ≡ b)
    × (a ≡ b → ((a.extent == b.extent) && ((a.page == b.page) && ((a.generation == b.generation) && (a.mark == b.mark)))) ≡ true)
locators_decide a b = (
  (λ h. let first = and_parts (a.extent == b.extent) ((a.page == b.page) && ((a.generation == b.generation) && (a.mark == b.mark))) h in
      let second = and_parts (a.page == b.page) ((a.generation == b.generation) && (a.mark == b.mark)) first.1 in
      let third = and_parts (a.generation == b.generation) (a.mark == b.mark) second.1 in
      let extent : a.extent ≡ b.extent = eqb-true a.extent b.extent first.0 in
      let page : a.page ≡ b.page = eqb-true a.page b.page second.0 in
      let generation : a.generation ≡ b.generation = eqb-true a.generation b.generation third.0 in
      let mark : a.mark ≡ b.mark = eqb-true a.mark b.mark third.1 in
      λ i. record { extent = extent i; page = page i; generation = generation i; mark = mark i }),
  (λ is. and_from _ _ (eq-eqb a.extent b.extent (ap (λ (l : Locator). l.extent) is))
      (and_from _ _ (eq-eqb a.page b.page (ap (λ (l : Locator). l.page) is))
      (and_from _ _ (eq-eqb a.generation b.generation (ap (λ (l : Locator). l.generation) is)) (eq-eqb a.mark b.mark (ap (λ (l : Locator). l.mark) is))))),
)
