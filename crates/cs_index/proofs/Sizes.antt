-- How many runs are reached by their sizes.
use Rattle.std.proofs.Common.{◌≡◌, ℕ, suc, ◌+◌, ◌-◌, ◌*◌, ◌<◌, ◌≤◌, Bool, true, false, ◌&&◌, ◌||◌, List, [], ◌∷◌, ◌++◌, length, take, drop, map, Option, Some, None, get_or, nat_le, nat_lt, ◌^◌, le_refl, leb-true, true≢false, if◌then◌else◌, refl, sym, ap, subst, ◌∙◌, arith, append_assoc}
use Rattle.std.proofs.Math.ListN.{drop_of_length-le}
use Rattle.std.proofs.Math.Seq.{drop-length}
use Rattle.std.proofs.lemmas.Bool.Decides.{nat_tests}
use Rattle.std.specs.Prelude.{is_some}
use Rattle.std.specs.List.{AllByRecursion}
use Rattle.std.proofs.lemmas.List.{length-map, length-take-le}
use Rattle.cs_index.specs.declared.stored_runs.StoredRun.{StoredRun}
use Rattle.law_machine.specs.Format.{Format}
use Rattle.law_machine.proofs.Counting.{ascending_names, names_le}
use Rattle.law_machine.specs.Device.{Shape}
use Rattle.law_machine.specs.Element.{Entry, Locator as Place, Run}
use Rattle.law_machine.specs.Index.{entries_of, lookup, names}
use Rattle.law_machine.specs.Merges.{reaching, sizes}
use Rattle.law_machine.specs.Tally.{dead_weight}
use Rattle.cs_index.specs.Merges.{deletions_go, reached, stage_takes}
use Rattle.cs_index.specs.State.{IsStored, IsWhole, State, index_of, named_entry, newest_first, run_of, state_of}
use Rattle.cs_index.proofs.Newest.{all_oldest, lookup_first, lookup_second, newest_more}
use Rattle.cs_index.proofs.Parts.{named_first}
use Rattle.cs_index.proofs.Weights.{names_few}
use Rattle.cs_index.proofs.Whole.{Entries, length-newest}

-- ---- run by run, the newest first

length_sizes : (runs : List Run) → length (sizes runs) ≡ length runs
length_sizes [] = refl
length_sizes (run ∷ runs) = ap suc (length_sizes runs)

-- k runs are reached, with so many entries; run m is the next one
module _ (S : Shape) (runs : List StoredRun) (k m size count : ℕ) (d : StoredRun) (at : m + 1 + k ≡ length runs) (is : count ≡ length (get_or runs m d).entries.items) where
  -- what is reached of the runs before it
  abbrev before : ℕ → ℕ
  before n = reaching S (sizes (newest_first (take m runs))) (size + n)

  next_run : newest_first (take (length runs - k) runs) ≡ run_of (get_or runs m d) ∷ newest_first (take m runs)
  next_run =
      let e : length runs - k ≡ suc m = omega arith in
      ap (λ (n : ℕ). newest_first (take n runs)) e ∙ newest_more runs m d (omega arith)

  as_many_left : suc (length (sizes (newest_first (take m runs)))) ≡ length runs - k
  as_many_left =
      let a : length (sizes (newest_first (take m runs))) ≡ length (newest_first (take m runs)) = length_sizes (newest_first (take m runs)) in
      let b : length (newest_first (take m runs)) ≡ length (take m runs) = length-newest (take m runs) in
      let c : length (take m runs) ≡ m = length-take-le m runs (omega arith) in
      omega arith

  as_many_here : length (map named_entry (get_or runs m d).entries.items) ≡ count
  as_many_here = length-map (get_or runs m d).entries.items named_entry ∙ sym is

  reached_here : reaching S (sizes (newest_first (take (length runs - k) runs))) size ≡ (if nat_le count (2 * size) || nat_le S.most_runs (length runs - k) then suc (before count) else 0)
  reached_here =
      ap (λ (rs : List Run). reaching S (sizes rs) size) next_run
      ∙ ap (λ (n : ℕ). if nat_le n (2 * size) || nat_le S.most_runs (suc (length (sizes (newest_first (take m runs))))) then suc (before n) else 0) as_many_here
      ∙ ap (λ (n : ℕ). if nat_le count (2 * size) || nat_le S.most_runs n then suc (before count) else 0) as_many_left

  module _ (b : Bool) (most : ℕ) (same : S.most_runs ≡ most) (test : b ≡ (nat_le count (2 * size) || nat_le most (length runs - k))) where
    tested : (nat_le count (2 * size) || nat_le S.most_runs (length runs - k)) ≡ b
    tested = ap (λ (n : ℕ). nat_le count (2 * size) || nat_le n (length runs - k)) same ∙ sym test

    pub reaches_on : b ≡ true → reaching S (sizes (newest_first (take (length runs - k) runs))) size ≡ suc (reaching S (sizes (newest_first (take m runs))) (size + count))
    reaches_on on = reached_here ∙ ap (λ (t : Bool). if t then suc (before count) else 0) (tested ∙ on)

    pub reaches_no_further : b ≡ false → reaching S (sizes (newest_first (take (length runs - k) runs))) size ≡ 0
    reaches_no_further off = reached_here ∙ ap (λ (t : Bool). if t then suc (before count) else 0) (tested ∙ off)

-- none is left
pub reaches_all : (S : Shape) (runs : List StoredRun) (k size : ℕ) → length runs ≤ k → reaching S (sizes (newest_first (take (length runs - k) runs))) size ≡ 0
reaches_all S runs k size le =
    let e : length runs - k ≡ 0 = omega arith in
    ap (λ (n : ℕ). reaching S (sizes (newest_first (take n runs))) size) e

-- ---- no run has more entries than may be named

named_behind : (id : ℕ) (xs ys : List Entry) → is_some (lookup id ys) ≡ true → is_some (lookup id (xs ++ ys)) ≡ true
named_behind id xs ys is = by (lookup id xs) refl
  where
    by : (o : Option (List Place)) → lookup id xs ≡ o → is_some (lookup id (xs ++ ys)) ≡ true
    by None at = ap (λ (o : Option (List Place)). is_some o) (lookup_second id xs ys at) ∙ is
    by (Some ls) at = ap (λ (o : Option (List Place)). is_some o) (lookup_first id xs ys ls at)

lengths_in : (before : List Entry) (runs : List Run) (limit : ℕ) → AllByRecursion IsStored runs → names (before ++ entries_of runs) ≤ limit → AllByRecursion (λ (run : Run). length run.entries ≤ limit) runs
lengths_in before [] limit stored most = tt
lengths_in before (run ∷ runs) limit stored most =
    let count : names run.entries ≡ length run.entries = ascending_names run.entries stored.0.0 in
    let le : names run.entries ≤ names (before ++ (run.entries ++ entries_of runs)) =
    names_le run.entries (before ++ (run.entries ++ entries_of runs)) (λ id is. named_behind id before (run.entries ++ entries_of runs) (named_first id run.entries (entries_of runs) is)) in (
      omega arith,
      lengths_in (before ++ run.entries) runs limit stored.1 (subst (λ (es : List Entry). names es ≤ limit) (sym (append_assoc before run.entries (entries_of runs))) most),
    )

smaller : (runs : List StoredRun) (limit : ℕ) → limit < 2 ^ 32 → AllByRecursion (λ (run : StoredRun). length (map named_entry run.entries.items) ≤ limit) runs → AllByRecursion (λ (run : StoredRun). length run.entries.items < 2 ^ 32) runs
smaller [] limit small all = tt
smaller (run ∷ runs) limit small all = (
  (let le : length (map named_entry run.entries.items) ≤ limit = all.0 in omega (arith, length-map run.entries.items named_entry)),
  smaller runs limit small all.1,
)

pub runs_small : (xs : Entries) (runs : List StoredRun) (format : Format) (limit room : ℕ) → limit < 2 ^ 32 → IsWhole (state_of xs runs format limit room) → AllByRecursion (λ (run : StoredRun). length run.entries.items < 2 ^ 32) runs
runs_small xs runs format limit room small whole =
    smaller runs limit small (all_oldest (λ (run : Run). length run.entries ≤ limit) runs (lengths_in (map named_entry xs) (newest_first runs) limit whole.runs (names_few (state_of xs runs format limit room) whole)))

-- ---- how many a Stage takes

pub takes_reached : (S : Shape) (s : State) → S.by_size ≡ true → stage_takes S s ≡ reached S s
takes_reached S s by = ap (λ (b : Bool). if b then reached S s else (if nat_lt (length s.runs) 4 then 0 else length s.runs)) by

module _ (S : Shape) (s : State) where
  pub reached_whole : nat_le S.most_weight (4 * dead_weight S.weigh (index_of s)) ≡ true → reached S s ≡ length s.runs
  reached_whole on = ap (λ (b : Bool). if b then length s.runs else reaching S (sizes s.runs) (names s.table)) on

  pub reached_some : nat_le S.most_weight (4 * dead_weight S.weigh (index_of s)) ≡ false → reached S s ≡ reaching S (sizes s.runs) (names s.table)
  reached_some off = ap (λ (b : Bool). if b then length s.runs else reaching S (sizes s.runs) (names s.table)) off

module _ (S : Shape) (s : State) (dead limit : ℕ) (weigh : ℕ → ℕ) (rule : S.weigh ≡ weigh) (is : dead ≡ dead_weight weigh (index_of s)) (same : S.most_weight ≡ limit) where
  dead_is : dead_weight S.weigh (index_of s) ≡ dead
  dead_is = ap (λ (w : ℕ → ℕ). dead_weight w (index_of s)) rule ∙ sym is

  pub reached_by_quarter : limit ≤ 4 * dead → reached S s ≡ length s.runs
  reached_by_quarter le = reached_whole S s
      (let most : S.most_weight ≤ 4 * dead_weight S.weigh (index_of s) = omega (arith, le, dead_is, same) in grind (arith, nat_tests))

  pub reached_by_runs : 4 * dead < limit → reached S s ≡ reaching S (sizes s.runs) (names s.table)
  reached_by_runs lt = reached_some S s
      (let few : 4 * dead_weight S.weigh (index_of s) < S.most_weight = omega (arith, lt, dead_is, same) in grind (arith, nat_tests))

-- no more runs are reached than there are, and few are left
inside_step : (most rest : ℕ) (b : Bool) → rest ≤ most → (if b then suc rest else 0) ≤ suc most
inside_step most rest true le = omega arith
inside_step most rest false le = omega arith

reaching_inside : (S : Shape) (runs : List Run) (size : ℕ) → reaching S (sizes runs) size ≤ length runs
reaching_inside S [] size = omega arith
reaching_inside S (run ∷ runs) size =
    inside_step (length runs) (reaching S (sizes runs) (size + length run.entries)) (nat_le (length run.entries) (2 * size) || nat_le S.most_runs (suc (length (sizes runs))))
    (reaching_inside S runs (size + length run.entries))

left_step : (S : Shape) (run : Run) (runs : List Run) (size : ℕ) (b : Bool)
    → (nat_le (length run.entries) (2 * size) || nat_le S.most_runs (suc (length (sizes runs)))) ≡ b
    → length (drop (reaching S (sizes runs) (size + length run.entries)) runs) < S.most_runs
    → length (drop (if b then suc (reaching S (sizes runs) (size + length run.entries)) else 0) (run ∷ runs)) < S.most_runs
left_step S run runs size true is rest = rest
left_step S run runs size false is rest =
    let few : nat_le S.most_runs (suc (length (sizes runs))) ≡ false = second (nat_le (length run.entries) (2 * size)) _ is in
    let same : length (sizes runs) ≡ length runs = length_sizes runs in
    let lt : suc (length (sizes runs)) < S.most_runs = grind (arith, nat_tests) in omega arith
  where
    second : (a b : Bool) → (a || b) ≡ false → b ≡ false
    second true b is = absurd (true≢false is)
    second false b is = is

pub reaching_left : (S : Shape) (runs : List Run) (size : ℕ) → 0 < S.most_runs → length (drop (reaching S (sizes runs) size) runs) < S.most_runs
reaching_left S [] size some = some
reaching_left S (run ∷ runs) size some = left_step S run runs size _ refl (reaching_left S runs (size + length run.entries) some)

module _ (S : Shape) (s : State) where
  pub takes_inside : stage_takes S s ≤ length s.runs
  takes_inside = by_size S.by_size
    where
      by_quarter : (b : Bool) → (if b then length s.runs else reaching S (sizes s.runs) (names s.table)) ≤ length s.runs
      by_quarter true = le_refl _
      by_quarter false = reaching_inside S s.runs (names s.table)

      by_number : (b : Bool) → (if b then 0 else length s.runs) ≤ length s.runs
      by_number true = omega arith
      by_number false = le_refl _

      by_size : (b : Bool) → (if b then reached S s else (if nat_lt (length s.runs) 4 then 0 else length s.runs)) ≤ length s.runs
      by_size true = by_quarter (nat_le S.most_weight (4 * dead_weight S.weigh (index_of s)))
      by_size false = by_number (nat_lt (length s.runs) 4)

  pub none_left : length (drop (length s.runs) s.runs) ≡ 0
  none_left = ap length (drop-length s.runs)

  -- most: a root may have so many runs, at least four, and where a Stage merges by size just as many as the shape says
  pub takes_left : (most : ℕ) → 4 ≤ most → (S.by_size ≡ true → S.most_runs ≡ most) → length (drop (stage_takes S s) s.runs) < most
  takes_left most four same = by_size S.by_size refl
    where
      by_quarter : S.most_runs ≡ most → (b : Bool) → length (drop (if b then length s.runs else reaching S (sizes s.runs) (names s.table)) s.runs) < most
      by_quarter is true = let none : length (drop (length s.runs) s.runs) ≡ 0 = none_left in omega (arith, none, four)
      by_quarter is false =
          let left : length (drop (reaching S (sizes s.runs) (names s.table)) s.runs) < S.most_runs = reaching_left S s.runs (names s.table) (omega (arith, is, four)) in
          omega (arith, left, is)

      by_number : (b : Bool) → nat_lt (length s.runs) 4 ≡ b → length (drop (if b then 0 else length s.runs) s.runs) < most
      by_number true few = let lt : length s.runs < 4 = grind (arith, nat_tests) in omega (arith, lt, four)
      by_number false many = let none : length (drop (length s.runs) s.runs) ≡ 0 = none_left in omega (arith, none, four)

      by_size : (b : Bool) → S.by_size ≡ b → length (drop (if b then reached S s else (if nat_lt (length s.runs) 4 then 0 else length s.runs)) s.runs) < most
      by_size true is = by_quarter (same is) (nat_le S.most_weight (4 * dead_weight S.weigh (index_of s)))
      by_size false is = by_number (nat_lt (length s.runs) 4) refl

-- where deletions go no run is left
pub goes_all : (S : Shape) (s : State) (k : ℕ) → deletions_go S s k ≡ true → drop k s.runs ≡ []
goes_all S s k go = drop_of_length-le s.runs (leb-true (length s.runs) k (first (nat_le (length s.runs) k) (S.by_size || nat_lt 0 k) go))
  where
    first : (a b : Bool) → (a && b) ≡ true → a ≡ true
    first true b is = refl
    first false b is = is
