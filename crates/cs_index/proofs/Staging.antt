-- What a staged index keeps.
use Rattle.std.proofs.Common.{◌≡◌, ◌≢◌, ℕ, suc, ◌<◌, ◌≤◌, true, false, List, [], ◌∷◌, ◌++◌, length, map, Option, Some, None, refl, sym, ap, subst, ◌∙◌, arith, append-nil}
use Rattle.std.specs.Prelude.{is_some}
use Rattle.std.specs.List.{AllByRecursion}
use Rattle.std.proofs.lemmas.Bool.{lt-ltb}
use Rattle.std.proofs.lemmas.List.{length-map}
use Rattle.cs_frame.specs.declared.run_frames.Run.{Run as SpelledRun}
use Rattle.cs_frame.specs.Runs.{IsRun, Rises, entries_of as spelled_entries}
use Rattle.cs_index.specs.declared.stored_runs.StoredRun.{StoredRun}
use Rattle.law_machine.specs.Format.{Format}
use Rattle.law_machine.proofs.Counting.{ascending_names, names_le}
use Rattle.law_machine.specs.Element.{Entry, Locator as Place}
use Rattle.law_machine.proofs.Weights.{ascending_weight, weight_some}
use Rattle.law_machine.specs.Geometry.{most_weight_in, weigh_in}
use Rattle.law_machine.specs.Index.{Ascending, entries_of, live_at, lookup, named_weight, names, run_weight}
use Rattle.cs_frame.specs.Formats.{place_of}
use Rattle.cs_index.specs.State.{IsId, IsShort, IsStored, IsWhole, KeepTo, RunsKeepTo, id_number, index_of, named_entry, newest_first, run_of, state_of}
use Rattle.cs_index.proofs.Marks.{keep_entries, newer_keep, run_keeps}
use Rattle.cs_index.proofs.Newest.{lookup_first}
use Rattle.cs_index.proofs.Numbers.{before_is}
use Rattle.cs_index.proofs.Weights.{entries_weigh, most_few, names_few}
use Rattle.cs_index.proofs.Whole.{Entries}

-- ---- entries that can be spelled

rises_of : (xs : Entries) → AllByRecursion (λ entry. IsId entry.0) xs → Ascending (map named_entry xs) → Rises (spelled_entries xs)
rises_of [] ids order = tt
rises_of (x ∷ []) ids order = tt
rises_of (x ∷ y ∷ xs) ids order =
    (before_is x.0 y.0 ids.0 ids.1.0 ∙ lt-ltb (id_number x.0) (id_number y.0) order.0, rises_of (y ∷ xs) ids.1 order.1)

pub counts_of : (xs : Entries) → AllByRecursion IsShort (map named_entry xs) → AllByRecursion (λ entry. length entry.1.items ≤ 8) xs
counts_of [] all = tt
counts_of (x ∷ xs) all = ((let e : length (map place_of x.1.items) ≡ length x.1.items = length-map x.1.items place_of in let few : length (map place_of x.1.items) ≤ 8 = all.0 in omega arith), counts_of xs all.1)

some_of : (xs : Entries) → map named_entry xs ≢ [] → 1 ≤ length xs
some_of [] some = absurd (some refl)
some_of (x ∷ xs) some = omega arith

pub is_run : (run : SpelledRun) (format : Format) (pages : ℕ) → AllByRecursion (λ entry. IsId entry.0) run.entries.items → Ascending (map named_entry run.entries.items) → AllByRecursion IsShort (map named_entry run.entries.items)
    → map named_entry run.entries.items ≢ [] → pages ≤ 65535 → run_weight (weigh_in format) (map named_entry run.entries.items) ≤ most_weight_in format pages → AllByRecursion (λ x. KeepTo format x.locators) (map named_entry run.entries.items) → IsRun format run
is_run run format pages ids order short some most light keep = record {
  some = some_of run.entries.items some;
  most = omega (arith, light, most_few format pages most, entries_weigh format (map named_entry run.entries.items), length-map run.entries.items named_entry);
  counts = counts_of run.entries.items short;
  rising = rises_of run.entries.items ids order;
  marks = keep_entries format run.entries.items keep;
}

has_more : (id : ℕ) (xs ys : List Entry) (o : Option (List Place)) → lookup id xs ≡ o → is_some o ≡ true → is_some (lookup id (xs ++ ys)) ≡ true
has_more id xs ys None is some = absurd (let e : false ≡ true = some in cc)
has_more id xs ys (Some ls) is some = ap (λ (o : Option (List Place)). is_some o) (lookup_first id xs ys ls is)

-- a table has no more entries than identifiers are named
pub table_few : (xs : Entries) (runs : List StoredRun) (format : Format) (limit room : ℕ) → IsWhole (state_of xs runs format limit room) → length xs ≤ limit
table_few xs runs format limit room whole =
    let rest : List Entry = entries_of (newest_first runs) in
    let le : names (map named_entry xs) ≤ names (map named_entry xs ++ rest) = names_le (map named_entry xs) (map named_entry xs ++ rest) (λ id is. has_more id (map named_entry xs) rest _ refl is) in
    let count : names (map named_entry xs) ≡ length (map named_entry xs) = ascending_names (map named_entry xs) whole.ascending in
    let most : names (map named_entry xs ++ rest) ≤ limit = names_few (state_of xs runs format limit room) whole in
    let long : length (map named_entry xs) ≡ length xs = length-map xs named_entry in
    omega arith

-- nor do its entries weigh more than may be
pub table_light : (xs : Entries) (runs : List StoredRun) (format : Format) (limit room : ℕ) → IsWhole (state_of xs runs format limit room) → run_weight (weigh_in format) (map named_entry xs) ≤ limit
table_light xs runs format limit room whole =
    let rest : List Entry = entries_of (newest_first runs) in
    let same : named_weight (weigh_in format) (map named_entry xs) ≡ run_weight (weigh_in format) (map named_entry xs) = ascending_weight (weigh_in format) (map named_entry xs) whole.ascending in
    let le : named_weight (weigh_in format) (map named_entry xs) ≤ named_weight (weigh_in format) (map named_entry xs ++ rest) =
    weight_some (weigh_in format) (map named_entry xs) (map named_entry xs ++ rest) (λ id ls is. lookup_first id (map named_entry xs) rest ls is) in
    let most : named_weight (weigh_in format) (map named_entry xs ++ rest) ≤ limit = whole.weight_fits in
    omega (arith, same, le, most)

-- the table's entries keep to the format
pub table_keeps : (xs : Entries) (runs : List StoredRun) (format : Format) (limit room : ℕ) → IsWhole (state_of xs runs format limit room) → AllByRecursion (λ x. KeepTo format x.locators) (map named_entry xs)
table_keeps xs runs format limit room whole = run_keeps format false (map named_entry xs) (entries_of (newest_first runs)) (map named_entry xs) (whole.ascending, λ id. refl) whole.marks

-- ---- a run more

pub newest_push : (runs : List StoredRun) (r : StoredRun) → newest_first (runs ++ r ∷ []) ≡ run_of r ∷ newest_first runs
newest_push [] r = refl
newest_push (x ∷ xs) r = ap (λ rs. rs ++ run_of x ∷ []) (newest_push xs r)

module _ (xs empty : Entries) (runs before news : List StoredRun) (r : StoredRun) (is : news ≡ before ++ r ∷ []) (same : before ≡ runs) (its : r.entries.items ≡ xs) (none : empty ≡ []) where
  pub pushed_runs : newest_first news ≡ record { place = place_of r.place; entries = map named_entry xs } ∷ newest_first runs
  pushed_runs =
      ap newest_first (is ∙ ap (λ rs. rs ++ r ∷ []) same) ∙ newest_push runs r
      ∙ ap (λ (es : Entries). record { place = place_of r.place; entries = map named_entry es } ∷ newest_first runs) its

  pub pushed_index : (format : Format) (limit room : ℕ) → index_of (state_of empty news format limit 0) ≡ index_of (state_of xs runs format limit room)
  pushed_index format limit room =
      ap (λ (es : Entries). map named_entry es ++ entries_of (newest_first news)) none ∙ ap entries_of pushed_runs

  pub pushed_whole : (format : Format) (limit room : ℕ) → map named_entry xs ≢ [] → length (newest_first runs) < 24 → KeepTo format (place_of r.place ∷ []) → IsWhole (state_of xs runs format limit room) → IsWhole (state_of empty news format limit 0)
  pushed_whole format limit room some few keep whole = record {
    ascending = subst (λ (es : Entries). Ascending (map named_entry es)) (sym none) tt;
    short = subst (λ (es : Entries). AllByRecursion IsShort (map named_entry es)) (sym none) tt;
    runs = subst (AllByRecursion IsStored) (sym pushed_runs) ((whole.ascending, some, whole.short), whole.runs);
    few = (let e : length (newest_first news) ≡ suc (length (newest_first runs)) = ap length pushed_runs in omega arith);
    weight_fits = subst (λ (es : List Entry). named_weight (weigh_in format) es ≤ limit) (sym (pushed_index format limit room)) whole.weight_fits;
    marks = λ id. subst (λ (es : List Entry). KeepTo format (live_at es id)) (sym (pushed_index format limit room)) (whole.marks id);
    placed = subst (RunsKeepTo format) (sym pushed_runs) (newer_keep format (record { place = place_of r.place; entries = map named_entry xs }) (newest_first runs) keep whole.placed);
  }

-- ---- one run

pub one_run : (rs news : List StoredRun) (r : StoredRun) → rs ≡ [] → news ≡ rs ++ r ∷ [] → newest_first news ≡ run_of r ∷ []
one_run rs news r none is = ap newest_first (is ∙ ap (λ zs. zs ++ r ∷ []) none)

pub one_run_names : (rs news : List StoredRun) (r : StoredRun) → rs ≡ [] → news ≡ rs ++ r ∷ [] → Ascending (map named_entry r.entries.items) → length r.entries.items ≡ names (entries_of (newest_first news))
one_run_names rs news r none is order =
    sym (ap (λ zs. names (entries_of zs)) (one_run rs news r none is) ∙ ap names (append-nil (map named_entry r.entries.items)) ∙ ascending_names (map named_entry r.entries.items) order ∙ length-map r.entries.items named_entry)
