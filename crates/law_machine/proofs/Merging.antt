-- The table and the newest runs merged: what each identifier has then, and how many runs are left.
use Rattle.std.proofs.Common.{◌≡◌, inl, inr, ⊎_elim, ℕ, zero, suc, ◌+◌, ◌*◌, ◌<◌, ◌≤◌, Bool, true, false, ◌&&◌, ◌||◌, List, [], ◌∷◌, ◌++◌, append-nil, append_assoc, length, take, drop, Option, Some, None, nat_le, nat_lt, leb-true, le_refl, le_trans, true≢false, if◌then◌else◌, refl, sym, ap, ◌∙◌, arith, le_of_eq}
use Rattle.std.proofs.Math.Seq.{take-length, drop-length}
use Rattle.std.proofs.Math.ListN.{drop_of_length-le}
use Rattle.std.proofs.lemmas.Bool.Decides.{nat_tests}
use Rattle.law_machine.proofs.Gives.{lookup_append}
use Rattle.law_machine.specs.Device.{IsShape, Shape}
use Rattle.law_machine.specs.Element.{Entry, Locator, Run}
use Rattle.law_machine.specs.Events.{Merged}
use Rattle.law_machine.specs.Extents.{Purpose}
use Rattle.law_machine.specs.Formats.{Formats}
use Rattle.law_machine.specs.Frames.{most_staged}
use Rattle.law_machine.specs.Index.{entries_of, if_live, live, lookup, names}
use Rattle.law_machine.specs.Lists.{◌∈◌}
use Rattle.law_machine.specs.Machine.{World}
use Rattle.law_machine.specs.Merges.{IsRunOf, MergesPart, deletions_go, part, reached, reaching, sizes, stage_takes}
use Rattle.law_machine.specs.State.{State, index_now}
use Rattle.law_machine.specs.Tally.{dead_weight}

pub in_drop : {A : Type 0} (k : ℕ) (xs : List A) (x : A) → x ∈ drop k xs → x ∈ xs
in_drop zero xs x has = has
in_drop (suc k) [] x has = has
in_drop (suc k) (y ∷ ys) x has = inr (in_drop k ys x has)

entries_cut : (k : ℕ) (runs : List Run) → entries_of runs ≡ entries_of (take k runs) ++ entries_of (drop k runs)
entries_cut zero runs = refl
entries_cut (suc k) [] = refl
entries_cut (suc k) (run ∷ runs) = ap (λ (es : List Entry). run.entries ++ es) (entries_cut k runs)
    ∙ sym (append_assoc run.entries (entries_of (take k runs)) (entries_of (drop k runs)))

-- the index, as the part that is merged and the rest
pub index_cut : (s : State) (k : ℕ) → index_now s ≡ part s k ++ entries_of (drop k s.runs)
index_cut s k = ap (λ (es : List Entry). s.table ++ es) (entries_cut k s.runs)
    ∙ sym (append_assoc s.table (entries_of (take k s.runs)) (entries_of (drop k s.runs)))

-- the part of all runs is the index
pub part_all : (s : State) → part s (length s.runs) ≡ index_now s
part_all s = ap (λ (runs : List Run). s.table ++ entries_of runs) (take-length s.runs)

-- where deletions go no run is left
pub goes_all : (S : Shape) (s : State) (k : ℕ) → deletions_go S s k ≡ true → drop k s.runs ≡ []
goes_all S s k go = drop_of_length-le s.runs
    (leb-true (length s.runs) k (first (nat_le (length s.runs) k) (S.by_size || nat_lt 0 k) go))
  where
    first : (a b : Bool) → (a && b) ≡ true → a ≡ true
    first true b is = refl
    first false b is = is

-- the value of an identifier once the part is merged, and the rest stands behind it
pub merged_lookup : (s : State) (k : ℕ) (go : Bool) (entries : List Entry) → (go ≡ true → drop k s.runs ≡ [])
    → IsRunOf go (part s k) entries → (id : ℕ)
    → lookup id (entries ++ entries_of (drop k s.runs)) ≡ (if go then if_live (lookup id (index_now s))
    else lookup id (index_now s))
merged_lookup s k true entries all run id =
    let none : drop k s.runs ≡ [] = all refl in
    let whole : part s k ≡ index_now s = sym (index_cut s k
    ∙ ap (λ (runs : List Run). part s k ++ entries_of runs) none ∙ append-nil (part s k)) in
    ap (λ (runs : List Run). lookup id (entries ++ entries_of runs)) none ∙ ap (lookup id) (append-nil entries)
    ∙ run.1 id ∙ ap (λ (es : List Entry). if_live (lookup id es)) whole
merged_lookup s k false entries all run id =
    lookup_append id entries (part s k) (entries_of (drop k s.runs)) (run.1 id)
    ∙ ap (lookup id) (sym (index_cut s k))

-- so many runs are left behind the merged one
length_sizes : (runs : List Run) → length (sizes runs) ≡ length runs
length_sizes [] = refl
length_sizes (run ∷ runs) = ap suc (length_sizes runs)

left_step : (S : Shape) (run : Run) (runs : List Run) (size : ℕ) (b : Bool)
    → (nat_le (length run.entries) (2 * size) || nat_le S.most_runs (suc (length (sizes runs)))) ≡ b
    → length (drop (reaching S (sizes runs) (size + length run.entries)) runs) < S.most_runs
    → length (drop (if b then suc (reaching S (sizes runs) (size + length run.entries)) else 0) (run ∷ runs)) < S.most_runs
left_step S run runs size true is rest = rest
left_step S run runs size false is rest =
    let few : nat_le S.most_runs (suc (length (sizes runs))) ≡ false = second (nat_le (length run.entries) (2 * size)) _ is in
    let same : length (sizes runs) ≡ length runs = length_sizes runs in
    let lt : suc (length (sizes runs)) < S.most_runs = grind (arith, nat_tests) in omega arith
  where
    second : (a b : Bool) → (a || b) ≡ false → b ≡ false
    second true b is = absurd (true≢false is)
    second false b is = is

left_behind : (S : Shape) (runs : List Run) (size : ℕ) → 0 < S.most_runs
    → length (drop (reaching S (sizes runs) size) runs) < S.most_runs
left_behind S [] size some = some
left_behind S (run ∷ runs) size some = left_step S run runs size _ refl (left_behind S runs (size + length run.entries) some)

none_left : (S : Shape) (s : State) → length (drop (length s.runs) s.runs) ≡ 0
none_left S s = ap length (drop-length s.runs)

reached_left : (S : Shape) (s : State) → 0 < S.most_runs → length (drop (reached S s) s.runs) < S.most_runs
reached_left S s some = go (nat_le S.most_weight (4 * dead_weight S.weigh (index_now s)))
  where
    go : (b : Bool) → length (drop (if b then length s.runs else reaching S (sizes s.runs) (names s.table)) s.runs) < S.most_runs
    go true = let none : length (drop (length s.runs) s.runs) ≡ 0 = none_left S s in omega arith
    go false = left_behind S s.runs (names s.table) some

pub few_left : (S : Shape) (s : State) → IsShape S
    → suc (length (drop (stage_takes S s) s.runs)) ≤ most_staged S
few_left S s shape = go S.by_size
  where
    before : (b : Bool) → nat_lt (length s.runs) 4 ≡ b → suc (length (drop (if b then 0 else length s.runs) s.runs)) ≤ 4
    before true lt = grind (arith, nat_tests)
    before false ge = let none : length (drop (length s.runs) s.runs) ≡ 0 = none_left S s in omega arith

    go : (b : Bool) → suc (length (drop (if b then reached S s else (if nat_lt (length s.runs) 4 then 0 else length s.runs)) s.runs))
        ≤ (if b then S.most_runs else 4)
    go true = reached_left S s (let some : 4 ≤ S.most_runs = shape.enough_runs in omega arith)
    go false = before (nat_lt (length s.runs) 4) refl

-- so there are no more runs after it
pub part_few : (S : Shape) (F : Formats) (apart : Bool) (s t : State) (purpose : Purpose) (k n : ℕ) (go : Bool) (runs : List Run)
    → MergesPart S F apart go s purpose k t runs → suc (length (drop k s.runs)) ≤ n → length runs ≤ n
part_few S F apart s t purpose k n go runs (inl m) few = le_trans (le_of_eq (ap length m.5)) few
part_few S F apart s t purpose k n go runs (inr m) few = le_trans (le_of_eq (ap length m.2)) (le_trans (omega arith) few)

pub most_fits : (S : Shape) → IsShape S → most_staged S ≤ S.most_runs
most_fits S shape = go S.by_size
  where
    go : (b : Bool) → (if b then S.most_runs else 4) ≤ S.most_runs
    go true = le_refl _
    go false = shape.enough_runs

pub some_staged : (S : Shape) → IsShape S → 1 ≤ most_staged S
some_staged S shape = go S.by_size
  where
    go : (b : Bool) → 1 ≤ (if b then S.most_runs else 4)
    go true = le_trans (omega arith) shape.enough_runs
    go false = omega arith

-- a run of nothing: nothing lives
pub none_live : (o : Option (List Locator)) → None ≡ if_live o → live o ≡ []
none_live None is = refl
none_live (Some []) is = refl
none_live (Some (l ∷ ls)) is = absurd (let e : None ≡ Some (l ∷ ls) = is in cc)

dead : (o : Option (List Locator)) → live o ≡ [] → None ≡ if_live o
dead None is = refl
dead (Some []) is = refl
dead (Some (l ∷ ls)) is = absurd (let e : l ∷ ls ≡ [] = is in cc)

-- all that lives merged, as a part
pub in_part : (S : Shape) (F : Formats) (s t : State) (purpose : Purpose) (runs : List Run)
    → Merged S F s purpose t runs → MergesPart S F false true s purpose (length s.runs) t runs
in_part S F s t purpose runs m = ⊎_elim
    (λ some. inl (
      some.0,
      some.1,
      some.2,
      (some.3.0, λ id. some.3.1 id ∙ ap (λ (es : List Entry). if_live (lookup id es)) (sym (part_all s))),
      (m.0, some.4, m.2),
      some.5 ∙ ap (λ (rest : List Run). record { place = some.1; entries = some.0 } ∷ rest) (sym (drop-length s.runs)),
    ))
    (λ none. inr (
      (
        tt,
        λ id. dead (lookup id (index_now s)) (none.0 id)
            ∙ ap (λ (es : List Entry). if_live (lookup id es)) (sym (part_all s)),
      ),
      m.2 ∙ ap (λ (v : World). record s { world = v }) none.1,
      none.2 ∙ sym (drop-length s.runs),
    ))
    m.1

pub in_world : (S : Shape) (F : Formats) (s t : State) (purpose : Purpose) (runs : List Run)
    → MergesPart S F false true s purpose (length s.runs) t runs → Merged S F s purpose t runs
in_world S F s t purpose runs (inl m) = (
  m.4.0,
  inl (
    m.0,
    m.1,
    m.2,
    (m.3.0, λ id. m.3.1 id ∙ ap (λ (es : List Entry). if_live (lookup id es)) (part_all s)),
    m.4.1,
    m.5 ∙ ap (λ (rest : List Run). record { place = m.1; entries = m.0 } ∷ rest) (drop-length s.runs),
  ),
  m.4.2,
)
in_world S F s t purpose runs (inr m) = (
  s.world,
  inr (
    (λ id. none_live (lookup id (index_now s))
        (m.0.1 id ∙ ap (λ (es : List Entry). if_live (lookup id es)) (part_all s))),
    refl,
    m.2 ∙ drop-length s.runs,
  ),
  m.1,
)
