-- Stages that merge no run, stages that merge all, and stages that merge by size.
use Rattle.std.proofs.Common.{◌≡◌, ◌≢◌, ◌⊎◌, ◌↔◌, inl, inr, ⊎_elim, ℕ, ◌<◌, ◌≤◌, Bool, true, false, ◌&&◌, ◌||◌, List, [], ◌∷◌, ◌++◌, length, take, drop, Option, Some, None, nat_le, nat_lt, le_refl, le-leb, append-nil, refl, sym, ap, subst, ◌∙◌, arith}
use Rattle.std.proofs.Math.Seq.{drop-length, take-length}
use Rattle.std.proofs.lemmas.Bool.{cases_lt}
use Rattle.std.proofs.lemmas.Bool.Decides.{nat_tests}
use Rattle.cs_deps.specs.State.{State as GraphState}
use Rattle.cs_extent.specs.State.{State as ExtentsState, shape}
use Rattle.law_machine.proofs.Counting.{lookup_here}
use Rattle.law_machine.proofs.Merging.{none_live}
use Rattle.law_machine.specs.Device.{Shape}
use Rattle.law_machine.specs.Element.{Entry, Locator as Place, Run}
use Rattle.law_machine.specs.Extents.{ForRun, Purpose as Reason}
use Rattle.law_machine.specs.Index.{IsMergedRun, IsTableRun, entries_of, if_live, live, lookup}
use Rattle.law_machine.specs.Merges.{IsRunOf}
use Rattle.cs_index.specs.Merges.{deletions_go, part, reached, stage_takes}
use Rattle.cs_index.specs.Staged.{IsMergeAppended, IsMergeStaged, IsNewestStaged, IsPartAppendedBy, IsPartStagedBy, IsRootStaged, IsTableStaged, WritesMerged, WritesPart, WritesRun}
use Rattle.cs_index.specs.State.{State, index_of}
use Rattle.cs_index.proofs.Parts.{goes_where_none}
use Rattle.cs_index.proofs.Sizes.{takes_reached}

-- ---- all runs

module _ (s : State) (k : ℕ) (all : k ≡ length s.runs) where
  whole_part : part s k ≡ index_of s
  whole_part = ap (λ (n : ℕ). s.table ++ entries_of (take n s.runs)) all ∙ ap (λ (rs : List Run). s.table ++ entries_of rs) (take-length s.runs)

  pub none_behind : drop k s.runs ≡ []
  none_behind = ap (λ (n : ℕ). drop n s.runs) all ∙ drop-length s.runs

  pub all_run : (es : List Entry) → IsRunOf true (part s k) es → IsMergedRun (index_of s) es
  all_run es run = (run.0, λ id. run.1 id ∙ ap (λ (zs : List Entry). if_live (lookup id zs)) whole_part)

  pub run_all : (es : List Entry) → IsMergedRun (index_of s) es → IsRunOf true (part s k) es
  run_all es run = (run.0, λ id. run.1 id ∙ ap (λ (zs : List Entry). if_live (lookup id zs)) (sym whole_part))

dead : (o : Option (List Place)) → live o ≡ [] → None ≡ if_live o
dead None is = refl
dead (Some []) is = refl
dead (Some (l ∷ ls)) is = absurd (let e : l ∷ ls ≡ [] = is in cc)

module _ (s : State) (x : ExtentsState) (g : GraphState) (reason : Reason) (v commands : ℕ) (t : State) (y : ExtentsState) (h : GraphState) where
  pub all_merged : (k : ℕ) → k ≡ length s.runs → IsPartStagedBy false true k s x g reason v commands t y h → IsMergeStaged s x g reason v commands t y h
  all_merged k all staged = record {
    between = staged.between;
    appended = by staged.appended;
    root = staged.root;
    table = staged.table;
    format = staged.format;
    limit = staged.limit;
  }
    where
      by : IsPartAppendedBy false true s k x g reason t.runs y staged.between → IsMergeAppended (index_of s) x g reason t.runs y staged.between
      by (inl m) = inl (m.0, m.1, m.2, all_run s k all m.0 m.3, m.4, m.5 ∙ ap (λ (rs : List Run). record { place = m.1; entries = m.0 } ∷ rs) (none_behind s k all))
      by (inr m) = inr ((λ id. let run : IsMergedRun (index_of s) [] = all_run s k all [] m.0 in none_live (lookup id (index_of s)) (run.1 id)), m.1, m.2, m.3 ∙ none_behind s k all)

  pub merged_all : (k : ℕ) → k ≡ length s.runs → IsMergeStaged s x g reason v commands t y h → IsPartStagedBy false true k s x g reason v commands t y h
  merged_all k all staged = record {
    between = staged.between;
    appended = by staged.appended;
    root = staged.root;
    table = staged.table;
    format = staged.format;
    limit = staged.limit;
  }
    where
      by : IsMergeAppended (index_of s) x g reason t.runs y staged.between → IsPartAppendedBy false true s k x g reason t.runs y staged.between
      by (inl m) = inl (m.0, m.1, m.2, run_all s k all m.0 m.3, m.4, m.5 ∙ ap (λ (rs : List Run). record { place = m.1; entries = m.0 } ∷ rs) (sym (none_behind s k all)))
      by (inr m) = inr (run_all s k all [] (tt, λ id. dead (lookup id (index_of s)) (m.0 id)), m.1, m.2, m.3 ∙ sym (none_behind s k all))

-- the run of all runs and the table is that of all that is live
pub all_writes : (s : State) (k : ℕ) → k ≡ length s.runs → (es : List Entry) → WritesPart true s k es → WritesMerged s es
all_writes s k all es writes = (all_run s k all es writes.0, writes.1)

pub writes_all : (s : State) (k : ℕ) → k ≡ length s.runs → (es : List Entry) → WritesMerged s es → WritesPart true s k es
writes_all s k all es writes = (run_all s k all es writes.0, writes.1)

-- ---- no run

some_entries : (table entries : List Entry) → table ≢ [] → IsTableRun table entries → entries ≢ []
some_entries [] entries some run none = some refl
some_entries (x ∷ xs) entries some run none =
    let e : None ≡ Some x.locators = ap (lookup x.id) (sym none) ∙ run.1 x.id ∙ lookup_here x xs x.id refl in cc

module _ (s : State) where
  run_of_table : (es : List Entry) → IsTableRun s.table es → IsRunOf false (part s 0) es
  run_of_table es run = (run.0, λ id. run.1 id ∙ ap (lookup id) (sym (append-nil s.table)))

  table_of_run : (es : List Entry) → IsRunOf false (part s 0) es → IsTableRun s.table es
  table_of_run es run = (run.0, λ id. run.1 id ∙ ap (lookup id) (append-nil s.table))

  module _ (some : s.table ≢ []) (x : ExtentsState) (g : GraphState) (v commands : ℕ) (t : State) (y : ExtentsState) (h : GraphState) where
    table_part : IsTableStaged s x g v commands t y h → IsPartStagedBy false false 0 s x g ForRun v commands t y h
    table_part staged = record {
      between = staged.staged.0;
      appended = inl (staged.entries, staged.place, some_entries s.table staged.entries some staged.run, run_of_table staged.entries staged.run, staged.staged.1, staged.runs);
      root = subst (λ (rs : List Run). IsRootStaged x.format staged.staged.0 h v commands rs) (sym staged.runs) staged.staged.2;
      table = staged.table;
      format = staged.format;
      limit = staged.limit;
    }

    part_table : IsPartStagedBy false false 0 s x g ForRun v commands t y h → IsTableStaged s x g v commands t y h
    part_table staged = by staged.appended
      where
        by : IsPartAppendedBy false false s 0 x g ForRun t.runs y staged.between → IsTableStaged s x g v commands t y h
        by (inl m) = record {
          entries = m.0;
          place = m.1;
          run = table_of_run m.0 m.3;
          staged = (staged.between, m.4, subst (λ (rs : List Run). IsRootStaged x.format staged.between h v commands rs) m.5 staged.root);
          table = staged.table;
          runs = m.5;
          format = staged.format;
          limit = staged.limit;
        }
        by (inr m) = absurd (let wrong : false ≡ true = goes_where_none false s 0 [] refl m.0 (inr some) in cc)

-- ---- where a Stage doesn't merge by size

module _ (S : Shape) (s : State) (before : S.by_size ≡ false) where
  pub takes_none : length s.runs < 4 → stage_takes S s ≡ 0
  takes_none few = let test : nat_lt (length s.runs) 4 ≡ true = grind (arith, nat_tests) in rw (before, test)

  pub takes_all : 4 ≤ length s.runs → stage_takes S s ≡ length s.runs
  takes_all many = let test : nat_lt (length s.runs) 4 ≡ false = grind (arith, nat_tests) in rw (before, test)

  pub deletions_stay : deletions_go S s 0 ≡ false
  deletions_stay = rw before (nowhere (nat_le (length s.runs) 0))
    where
      nowhere : (b : Bool) → (b && false) ≡ false
      nowhere true = refl
      nowhere false = refl

  pub all_go : 4 ≤ length s.runs → deletions_go S s (length s.runs) ≡ true
  all_go many =
      let all : nat_le (length s.runs) (length s.runs) ≡ true = le-leb _ _ (le_refl _) in
      let some : nat_lt 0 (length s.runs) ≡ true = grind (arith, nat_tests) in
      rw (before, all, some)

  -- the run that is written then
  writes_as_before : (es : List Entry) → WritesRun S s es → (s.table ≢ []) × (((length s.runs < 4) × IsTableRun s.table es) ⊎ ((4 ≤ length s.runs) × WritesMerged s es))
  writes_as_before es writes = (
    writes.0,
    elim (cases_lt (length s.runs) 4) [
      | inl few ↦ inl (few, table_of_run s es (subst (λ (b : Bool). WritesPart b s 0 es) deletions_stay (subst (λ (n : ℕ). WritesPart (deletions_go S s n) s n es) (takes_none few) writes.1)).0)
      | inr many ↦ inr (many, all_writes s (length s.runs) refl es (subst (λ (b : Bool). WritesPart b s (length s.runs) es) (all_go many) (subst (λ (n : ℕ). WritesPart (deletions_go S s n) s n es) (takes_all many) writes.1)))
    ],
  )

  before_writes : (es : List Entry) → (s.table ≢ []) × (((length s.runs < 4) × IsTableRun s.table es) ⊎ ((4 ≤ length s.runs) × WritesMerged s es)) → WritesRun S s es
  before_writes es writes = (
    writes.0,
    ⊎_elim
        (λ (one : (length s.runs < 4) × IsTableRun s.table es). subst (λ (n : ℕ). WritesPart (deletions_go S s n) s n es) (sym (takes_none one.0))
        (subst (λ (b : Bool). WritesPart b s 0 es) (sym deletions_stay) (run_of_table s es one.1, some_entries s.table es writes.0 one.1)))
        (λ (whole : (4 ≤ length s.runs) × WritesMerged s es). subst (λ (n : ℕ). WritesPart (deletions_go S s n) s n es) (sym (takes_all whole.0))
        (subst (λ (b : Bool). WritesPart b s (length s.runs) es) (sym (all_go whole.0)) (writes_all s (length s.runs) refl es whole.1)))
        writes.1,
  )

  pub writes_exactly : (es : List Entry) → WritesRun S s es ↔ ((s.table ≢ []) × (((length s.runs < 4) × IsTableRun s.table es) ⊎ ((4 ≤ length s.runs) × WritesMerged s es)))
  writes_exactly es = (writes_as_before es, before_writes es)

module _ (s : State) (x : ExtentsState) (g : GraphState) (v commands : ℕ) (t : State) (y : ExtentsState) (h : GraphState) (before : (shape x).by_size ≡ false) where
  -- so much is merged: the table alone, or all
  newest_none : length s.runs < 4 → IsNewestStaged (stage_takes (shape x) s) s x g v commands t y h → IsPartStagedBy false false 0 s x g ForRun v commands t y h
  newest_none few staged = subst (λ (b : Bool). IsPartStagedBy false b 0 s x g ForRun v commands t y h) (deletions_stay (shape x) s before)
      (subst (λ (n : ℕ). IsNewestStaged n s x g v commands t y h) (takes_none (shape x) s before few) staged)

  none_newest : length s.runs < 4 → IsPartStagedBy false false 0 s x g ForRun v commands t y h → IsNewestStaged (stage_takes (shape x) s) s x g v commands t y h
  none_newest few staged = subst (λ (n : ℕ). IsNewestStaged n s x g v commands t y h) (sym (takes_none (shape x) s before few))
      (subst (λ (b : Bool). IsPartStagedBy false b 0 s x g ForRun v commands t y h) (sym (deletions_stay (shape x) s before)) staged)

  newest_all : 4 ≤ length s.runs → IsNewestStaged (stage_takes (shape x) s) s x g v commands t y h → IsPartStagedBy false true (length s.runs) s x g ForRun v commands t y h
  newest_all many staged = subst (λ (b : Bool). IsPartStagedBy false b (length s.runs) s x g ForRun v commands t y h) (all_go (shape x) s before many)
      (subst (λ (n : ℕ). IsNewestStaged n s x g v commands t y h) (takes_all (shape x) s before many) staged)

  all_newest : 4 ≤ length s.runs → IsPartStagedBy false true (length s.runs) s x g ForRun v commands t y h → IsNewestStaged (stage_takes (shape x) s) s x g v commands t y h
  all_newest many staged = subst (λ (n : ℕ). IsNewestStaged n s x g v commands t y h) (sym (takes_all (shape x) s before many))
      (subst (λ (b : Bool). IsPartStagedBy false b (length s.runs) s x g ForRun v commands t y h) (sym (all_go (shape x) s before many)) staged)

  pub table_exactly : s.table ≢ [] → length s.runs < 4 → IsNewestStaged (stage_takes (shape x) s) s x g v commands t y h ↔ IsTableStaged s x g v commands t y h
  table_exactly some few = (
    (λ staged. part_table s some x g v commands t y h (newest_none few staged)),
    (λ staged. none_newest few (table_part s some x g v commands t y h staged)),
  )

  pub merged_exactly : 4 ≤ length s.runs → IsNewestStaged (stage_takes (shape x) s) s x g v commands t y h ↔ IsMergeStaged s x g ForRun v commands t y h
  merged_exactly many = (
    (λ staged. all_merged s x g ForRun v commands t y h (length s.runs) refl (newest_all many staged)),
    (λ staged. all_newest many (merged_all s x g ForRun v commands t y h (length s.runs) refl staged)),
  )

-- ---- where a Stage merges by size

module _ (S : Shape) (s : State) (sized : S.by_size ≡ true) where
  pub goes_with_all : (k : ℕ) → deletions_go S s k ≡ nat_le (length s.runs) k
  goes_with_all k = ap (λ (b : Bool). nat_le (length s.runs) k && (b || nat_lt 0 k)) sized ∙ with_true (nat_le (length s.runs) k)
    where
      with_true : (b : Bool) → (b && true) ≡ b
      with_true true = refl
      with_true false = refl

  abbrev on_reached : List Entry → Type 0
  on_reached es = (s.table ≢ []) × WritesPart (nat_le (length s.runs) (reached S s)) s (reached S s) es

  pub writes_reached : (es : List Entry) → WritesRun S s es ↔ on_reached es
  writes_reached es = (
    (λ writes. (writes.0, subst (λ (b : Bool). WritesPart b s (reached S s) es) (goes_with_all (reached S s)) (subst (λ (n : ℕ). WritesPart (deletions_go S s n) s n es) (takes_reached S s sized) writes.1))),
    (λ writes. (writes.0, subst (λ (n : ℕ). WritesPart (deletions_go S s n) s n es) (sym (takes_reached S s sized)) (subst (λ (b : Bool). WritesPart b s (reached S s) es) (sym (goes_with_all (reached S s))) writes.1))),
  )

module _ (s : State) (x : ExtentsState) (g : GraphState) (v commands : ℕ) (t : State) (y : ExtentsState) (h : GraphState) (sized : (shape x).by_size ≡ true) where
  abbrev k : ℕ
  k = reached (shape x) s

  pub reached_exactly : IsNewestStaged (stage_takes (shape x) s) s x g v commands t y h ↔ IsPartStagedBy false (nat_le (length s.runs) k) k s x g ForRun v commands t y h
  reached_exactly = (
    (λ staged. subst (λ (b : Bool). IsPartStagedBy false b k s x g ForRun v commands t y h) (goes_with_all (shape x) s sized k)
        (subst (λ (n : ℕ). IsNewestStaged n s x g v commands t y h) (takes_reached (shape x) s sized) staged)),
    (λ staged. subst (λ (n : ℕ). IsNewestStaged n s x g v commands t y h) (sym (takes_reached (shape x) s sized))
        (subst (λ (b : Bool). IsPartStagedBy false b k s x g ForRun v commands t y h) (sym (goes_with_all (shape x) s sized k)) staged)),
  )
