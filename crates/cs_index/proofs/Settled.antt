-- An index once copies count.
use Rattle.std.specs.Prelude.{is_some}
use Rattle.std.proofs.lemmas.List.{length-map}
use Rattle.std.proofs.Common.{◌≡◌, ◌∙◌, ℕ, zero, suc, ◌+◌, ◌<◌, ◌≤◌, Bool, true, false, ◌==◌, ◌&&◌, List, [], ◌∷◌, ◌++◌, Option, Some, None, get_or, set, length, map, take, refl, sym, ap, subst, arith, if◌then◌else◌}
use Rattle.cs_frame.specs.declared.locators.Locator.{Locator}
use Rattle.cs_frame.specs.Formats.{place_of}
use Rattle.std.specs.List.{AllByRecursion}
use Rattle.cs_index.specs.declared.counted_copies.ChunkCopy.{ChunkCopy}
use Rattle.cs_index.specs.declared.stored_runs.StoredRun.{StoredRun}
use Rattle.cs_index.proofs.Weights.{as_many_weigh}
use Rattle.cs_index.proofs.Whole.{Entries}
use Rattle.cs_index.specs.Copies.{IsSettled, copy_of, newest_copies, settle_in, settle_table}
use Rattle.cs_index.specs.State.{IsSet, IsShort, IsStored, IsWhole, KeepTo, RunsKeepTo, State, index_of, named_entry, newest_first, state_of}
use Rattle.law_machine.specs.Format.{Format}
use Rattle.law_machine.proofs.Gives.{lookup_append}
use Rattle.law_machine.specs.Apart.{is_place, same_place}
use Rattle.law_machine.specs.Element.{Copy, Entry, Locator as Place, Run}
use Rattle.law_machine.specs.Geometry.{weigh_in}
use Rattle.law_machine.specs.Index.{Ascending, entries_of, live, live_at, lookup, named_weight, weight_with}
use Rattle.law_machine.specs.Lists.{nth, replaced}

-- ---- one copy

-- the table once a copy counts, by whether its chunk lies where it was copied from
abbrev then_in : (older table : List Entry) → Copy → Bool → List Entry
then_in older table c b = if b then record { id = c.id; locators = replaced (live_at (table ++ older) c.id) c.chunk c.to } ∷ table else table

pub settled_not : (s : State) (c : Copy) → is_place (nth (live_at (index_of s) c.id) c.chunk) c.from ≡ false → IsSettled s (c ∷ []) s
settled_not s c not = record {
  table = λ d. sym (ap (λ (b : Bool). lookup d (then_in (entries_of s.runs) s.table c b)) not);
  index = λ d. sym (ap (λ (b : Bool). lookup d (then_in (entries_of s.runs) s.table c b ++ entries_of s.runs)) not);
  runs = refl;
  format = refl;
  limit = refl;
}

pub settled_set : (s t : State) (c : Copy) (ls : List Place) → is_place (nth (live_at (index_of s) c.id) c.chunk) c.from ≡ true → ls ≡ replaced (live_at (index_of s) c.id) c.chunk c.to → IsSet s c.id ls t → IsSettled s (c ∷ []) t
settled_set s t c ls there are put = record {
  table = λ d. put.table d ∙ ap (λ (ms : List Place). if c.id == d then Some ms else lookup d s.table) are
      ∙ sym (ap (λ (b : Bool). lookup d (then_in (entries_of s.runs) s.table c b)) there);
  index = λ d. put.index d ∙ ap (λ (ms : List Place). if c.id == d then Some ms else lookup d (index_of s)) are
      ∙ sym (ap (λ (b : Bool). lookup d (then_in (entries_of s.runs) s.table c b ++ entries_of s.runs)) there);
  runs = put.runs;
  format = put.format;
  limit = put.limit;
}

-- ---- a copy more

-- tables with the same entries have the same once a copy counts
settle_alike : (older xs ys : List Entry) (c : Copy) → ((d : ℕ) → lookup d xs ≡ lookup d ys) → (d : ℕ) → lookup d (settle_in older xs c) ≡ lookup d (settle_in older ys c)
settle_alike older xs ys c same d =
    ap (λ (ls : List Place). lookup d (if is_place (nth ls c.chunk) c.from then record { id = c.id; locators = replaced ls c.chunk c.to } ∷ xs else xs)) (ap live (lookup_append c.id xs ys older (same c.id)))
    ∙ by (live_at (ys ++ older) c.id) (is_place (nth (live_at (ys ++ older) c.id) c.chunk) c.from)
  where
    by : (ls : List Place) (b : Bool) → lookup d (if b then record { id = c.id; locators = replaced ls c.chunk c.to } ∷ xs else xs) ≡ lookup d (if b then record { id = c.id; locators = replaced ls c.chunk c.to } ∷ ys else ys)
    by ls true = ap (λ (o : Option (List Place)). if c.id == d then Some (replaced ls c.chunk c.to) else o) (same d)
    by ls false = same d

pub settled_more : (s t u : State) (cs : List Copy) (c : Copy) → IsSettled s cs t → IsSettled t (c ∷ []) u → IsSettled s (c ∷ cs) u
settled_more s t u cs c was more = record {
  table = table;
  index = λ d. more.index d
      ∙ ap (λ (rs : List Run). lookup d (settle_in (entries_of rs) t.table c ++ entries_of rs)) was.runs
      ∙ lookup_append d (settle_in (entries_of s.runs) t.table c) (settle_in (entries_of s.runs) (settle_table (entries_of s.runs) s.table cs) c) (entries_of s.runs)
      (settle_alike (entries_of s.runs) t.table (settle_table (entries_of s.runs) s.table cs) c was.table d);
  runs = more.runs ∙ was.runs;
  format = more.format ∙ was.format;
  limit = more.limit ∙ was.limit;
}
  where
    table : (d : ℕ) → lookup d u.table ≡ lookup d (settle_table (entries_of s.runs) s.table (c ∷ cs))
    table d = more.table d
        ∙ ap (λ (rs : List Run). lookup d (settle_in (entries_of rs) t.table c)) was.runs
        ∙ settle_alike (entries_of s.runs) t.table (settle_table (entries_of s.runs) s.table cs) c was.table d

pub settled_none : (s : State) → IsSettled s [] s
settled_none s = record { table = λ d. refl; index = λ d. refl; runs = refl; format = refl; limit = refl }

-- the index whose table is just that
pub settled_so : (s : State) (cs : List Copy) → IsSettled s cs (record s { table = settle_table (entries_of s.runs) s.table cs })
settled_so s cs = record { table = λ d. refl; index = λ d. refl; runs = refl; format = refl; limit = refl }

-- whatever room there was
pub settled_from : (s t u : State) (cs : List Copy) → t.table ≡ s.table → t.runs ≡ s.runs → t.format ≡ s.format → t.limit ≡ s.limit → IsSettled t cs u → IsSettled s cs u
settled_from s t u cs tables runs formats limits done = record {
  table = λ d. done.table d ∙ ap (λ (rs : List Run). lookup d (settle_table (entries_of rs) t.table cs)) runs ∙ ap (λ (es : List Entry). lookup d (settle_table (entries_of s.runs) es cs)) tables;
  index = λ d. done.index d ∙ ap (λ (rs : List Run). lookup d (settle_table (entries_of rs) t.table cs ++ entries_of rs)) runs
      ∙ ap (λ (es : List Entry). lookup d (settle_table (entries_of s.runs) es cs ++ entries_of s.runs)) tables;
  runs = done.runs ∙ runs;
  format = done.format ∙ formats;
  limit = done.limit ∙ limits;
}

pub copies_more : (xs : List ChunkCopy) (k : ℕ) (d : ChunkCopy) → k < length xs → newest_copies (take (k + 1) xs) ≡ copy_of (get_or xs k d) ∷ newest_copies (take k xs)
copies_more [] k d lt = absurd (omega (arith, lt))
copies_more (x ∷ xs) zero d lt = refl
copies_more (x ∷ xs) (suc k) d lt =
    let up : suc k + 1 ≡ suc (k + 1) = omega arith in
    ap (λ (n : ℕ). newest_copies (take n (x ∷ xs))) up ∙ ap (λ (cs : List Copy). cs ++ copy_of x ∷ []) (copies_more xs k d (omega (arith, lt)))

-- ---- locators with another place for one chunk

pub set_replaced : (ls : List Locator) (k : ℕ) (p : Locator) → map place_of (set ls k p) ≡ replaced (map place_of ls) k (place_of p)
set_replaced [] k p = refl
set_replaced (l ∷ ls) zero p = refl
set_replaced (l ∷ ls) (suc k) p = ap (λ (ms : List Place). place_of l ∷ ms) (set_replaced ls k p)

pub nth_beyond : (ls : List Locator) (k : ℕ) (p : Place) → length ls ≤ k → is_place (nth (map place_of ls) k) p ≡ false
nth_beyond [] k p le = refl
nth_beyond (l ∷ ls) zero p le = absurd (omega (arith, le))
nth_beyond (l ∷ ls) (suc k) p le = nth_beyond ls k p (omega (arith, le))

-- a chunk that lies somewhere is one of them
pub lies_inside : (ls : List Place) (k : ℕ) (p : Place) → is_place (nth ls k) p ≡ true → k < length ls
lies_inside [] k p is = absurd (let wrong : false ≡ true = is in cc)
lies_inside (l ∷ ls) zero p is = omega arith
lies_inside (l ∷ ls) (suc k) p is = let lt : k < length ls = lies_inside ls k p is in omega arith

-- as many lie elsewhere as before
pub as_many : (ls : List Place) (k : ℕ) (p : Place) → length (replaced ls k p) ≡ length ls
as_many [] k p = refl
as_many (l ∷ ls) zero p = refl
as_many (l ∷ ls) (suc k) p = ap suc (as_many ls k p)

-- so an index weighs no more with them
pub settled_light : (s : State) (c : Copy) (ls : List Locator) → IsWhole s → is_place (nth (live_at (index_of s) c.id) c.chunk) c.from ≡ true
    → map place_of ls ≡ replaced (live_at (index_of s) c.id) c.chunk c.to → weight_with (weigh_in s.format) (index_of s) c.id (length ls) ≤ s.limit
settled_light s c ls whole there are =
    let long : length (map place_of ls) ≡ length (live_at (index_of s) c.id) = ap length are ∙ as_many (live_at (index_of s) c.id) c.chunk c.to in
    subst (λ (n : ℕ). weight_with (weigh_in s.format) (index_of s) c.id n ≤ s.limit) (length-map ls place_of)
    (as_many_weigh (weigh_in s.format) (index_of s) c.id s.limit (map place_of ls)
    (some_there (lookup c.id (index_of s)) (lies_inside (live_at (index_of s) c.id) c.chunk c.from there)) long whole.weight_fits)
  where
    some_there : (o : Option (List Place)) → c.chunk < length (live o) → is_some o ≡ true
    some_there None lt = absurd (omega (arith, lt))
    some_there (Some ks) lt = refl

-- the comparison of two locators, its last part first
and_false : (b : Bool) → (b && false) ≡ false
and_false true = refl
and_false false = refl

and_true : (b : Bool) → (b && true) ≡ b
and_true true = refl
and_true false = refl

last_first : (a b c d : Bool) → (a && (b && (c && d))) ≡ (d && (a && (b && c)))
last_first false b c d = sym (and_false d)
last_first true false c d = sym (and_false d)
last_first true true false d = sym (and_false d)
last_first true true true d = sym (and_true d)

pub one_place : (a b : Locator) → ((a.extent == b.extent) && ((a.page == b.page) && ((a.generation == b.generation) && (a.mark == b.mark)))) ≡ same_place (place_of a) (place_of b)
one_place a b = last_first (a.extent == b.extent) (a.page == b.page) (a.generation == b.generation) (a.mark == b.mark)

-- ---- an index with another table of the same entries

module _ (xs ys : Entries) (runs rs : List StoredRun) (format : Format) (limit room : ℕ) (same : map named_entry ys ≡ map named_entry xs) (are : newest_first rs ≡ newest_first runs) where
  pub table_is : index_of (state_of ys rs format limit 0) ≡ index_of (state_of xs runs format limit room)
  table_is = ap (λ (es : List Entry). es ++ entries_of (newest_first rs)) same ∙ ap (λ (ns : List Run). map named_entry xs ++ entries_of ns) are

  pub whole_again : IsWhole (state_of xs runs format limit room) → IsWhole (state_of ys rs format limit 0)
  whole_again whole = record {
    ascending = subst (λ (es : List Entry). Ascending es) (sym same) whole.ascending;
    short = subst (λ (es : List Entry). AllByRecursion IsShort es) (sym same) whole.short;
    runs = subst (λ (ns : List Run). AllByRecursion IsStored ns) (sym are) whole.runs;
    few = subst (λ (ns : List Run). length ns ≤ 24) (sym are) whole.few;
    weight_fits = subst (λ (es : List Entry). named_weight (weigh_in format) es ≤ limit) (sym table_is) whole.weight_fits;
    marks = λ id. subst (λ (es : List Entry). KeepTo format (live_at es id)) (sym table_is) (whole.marks id);
    placed = subst (λ (ns : List Run). RunsKeepTo format ns) (sym are) whole.placed;
  }
