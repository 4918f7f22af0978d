-- When staging is refused, and what it gives.
use Rattle.std.proofs.Common.{◌≡◌, ◌≢◌, ◌⊎◌, inl, inr, ⊎_elim, ℕ, List, [], ◌∷◌, drop, length, map, append-nil, refl, sym, ap, subst, ◌∙◌, arith}
use Rattle.std.specs.Prelude.{◌↔◌, Bool, MatchBool, Result, Ok, Err, false, true}
use Rattle.cs_refusal.specs.declared.refusals.Refusal.{Refusal}
use Rattle.cs_refusal.specs.declared.refusals.Refusal.TheVariants.{Full, OutOfMemory, WornOut}
use Rattle.cs_deps.specs.Staging.{Staging}
use Rattle.cs_deps.specs.State.{State as GraphState}
use Rattle.cs_extent.specs.State.{State as ExtentsState, extents_of, shape}
use Rattle.cs_extent.specs.Worn.{IsFrameWornBy}
use Rattle.law_machine.specs.Device.{Shape}
use Rattle.law_machine.specs.Element.{Entry, Locator as Place}
use Rattle.law_machine.specs.Extents.{ForRun, Goes, Placed, Purpose as Reason}
use Rattle.law_machine.specs.Geometry.{pages_first_in}
use Rattle.law_machine.specs.Index.{Ascending, IsMergedRun, lookup}
use Rattle.law_machine.specs.Merges.{IsRunOf}
use Rattle.cs_index.specs.Merges.{deletions_go, part, stage_takes}
use Rattle.cs_index.specs.Staged.{IsExact, IsFull, IsNewestStaged, IsPartStagedBy, IsRootOver, IsRootWorn, IsRunStagedBy, IsRunWornBy, IsStageWorn, IsWhy, WritesMerged, WritesPart, WritesRun, run_frame}
use Rattle.cs_index.specs.State.{State, index_of}
use Rattle.cs_index.proofs.Merged.{merged_one, run_one}

-- the same refusals, where the same is full and the same is worn
pub why_same : (f : Refusal) (A B V W : Type 0) → (A → B) → (B → A) → (V → W) → IsWhy f A V → IsWhy f B W
why_same Full A B V W to back on h = to h
why_same WornOut A B V W to back on h = ((λ b. h.0 (back b)), on h.1)
why_same OutOfMemory A B V W to back on h = tt
why_same _ A B V W to back on h = absurd h

pub exact_same : {T : Type 0} (r : Result T Refusal) (A B V W : Type 0) → (A → B) → (B → A) → (V → W) → (W → V) → IsExact r A V → IsExact r B W
exact_same (Ok x) A B V W to back on off h = ((λ b. h.0 (back b)), (λ w. h.1 (off w)))
exact_same (Err f) A B V W to back on off h = why_same f A B V W to back on h

-- where one run alone is to be written
module _ (apart : Bool) (Writes : List Entry → Type 0) (x : ExtentsState) (reason : Reason) (s : Staging) (E : List Entry) (writes : Writes E) (one : (es : List Entry) → Writes es → es ≡ E) where
  abbrev Worn : List Entry → Type 0
  Worn es = IsFrameWornBy apart x reason s (length (run_frame x es))

  pub exact_written : {T : Type 0} (r : Result T Refusal) → IsExact r ⊥ (IsRootWorn s ⊎ IsFrameWornBy apart x reason s (length (run_frame x E))) → IsExact r ⊥ (IsRootWorn s ⊎ IsRunWornBy apart Writes x reason s)
  exact_written r h =
      exact_same r ⊥ ⊥ (IsRootWorn s ⊎ Worn E) (IsRootWorn s ⊎ IsRunWornBy apart Writes x reason s) (λ n. n) (λ n. n)
      (λ worn. ⊎_elim (λ (root : IsRootWorn s). inl root) (λ (run : Worn E). inr (E, writes, run)) worn)
      (λ worn. ⊎_elim (λ (root : IsRootWorn s). inl root) (λ (run : IsRunWornBy apart Writes x reason s). inr (subst Worn (one run.0 run.1) run.2)) worn)
      h

-- where none is
pub exact_unwritten : {T : Type 0} (apart : Bool) (Writes : List Entry → Type 0) (x : ExtentsState) (reason : Reason) (s : Staging) → ((es : List Entry) → Writes es → ⊥) → (r : Result T Refusal)
    → IsExact r ⊥ (IsRootWorn s) → IsExact r ⊥ (IsRootWorn s ⊎ IsRunWornBy apart Writes x reason s)
exact_unwritten apart Writes x reason s none r h =
    exact_same r ⊥ ⊥ (IsRootWorn s) (IsRootWorn s ⊎ IsRunWornBy apart Writes x reason s) (λ n. n) (λ n. n)
    (λ root. inl root)
    (λ worn. ⊎_elim (λ (root : IsRootWorn s). root) (λ (run : IsRunWornBy apart Writes x reason s). absurd (none run.0 run.1)) worn)
    h

-- in format 2, where the run has no entry or goes somewhere
module _ (Writes : List Entry → Type 0) (x : ExtentsState) (reason : Reason) (E : List Entry) (one : (es : List Entry) → Writes es → (es ≡ E) × (es ≢ [])) where
  abbrev GoesBy : (apart : Bool) → Type 0
  GoesBy apart = (e : ℕ) × Goes (shape x) apart (extents_of x) reason (length (run_frame x E)) e

  placed_fits : (E ≡ []) ⊎ GoesBy false → IsFull Writes x reason → ⊥
  placed_fits placed full =
      let same : full.0 ≡ E = (one full.0 full.1).0 in
      ⊎_elim
      (λ (none : E ≡ []). (one full.0 full.1).1 (same ∙ none))
      (λ (goes : GoesBy false). full.2 goes.0 (subst (λ (es : List Entry). Placed (shape x) (extents_of x) reason (length (run_frame x es)) goes.0) (sym same) goes.1))
      placed

  pub full_one : (apart : Bool) → apart ≡ false → Writes E → ((e : ℕ) → Goes (shape x) apart (extents_of x) reason (length (run_frame x E)) e → ⊥) → IsFull Writes x reason
  full_one true is writes none = absurd (let wrong : true ≡ false = is in cc)
  full_one false is writes none = (E, writes, none)

  pub fits_one : (apart b : Bool) → apart ≡ false → (E ≢ [] → Writes E) → MatchBool b ((E ≡ []) ⊎ GoesBy apart) ((E ≢ []) × ((e : ℕ) → Goes (shape x) apart (extents_of x) reason (length (run_frame x E)) e → ⊥))
      → MatchBool b (IsFull Writes x reason → ⊥) (IsFull Writes x reason)
  fits_one true b is writes there = absurd (let wrong : true ≡ false = is in cc)
  fits_one false true is writes there = placed_fits there
  fits_one false false is writes none = (E, writes none.0, none.1)

  pub exact_placed : {T : Type 0} (apart : Bool) (g : Staging) (r : Result T Refusal) → apart ≡ false → (E ≡ []) ⊎ GoesBy apart
      → IsExact r ⊥ (IsRootWorn g ⊎ IsRunWornBy apart Writes x reason g) → IsExact r (IsFull Writes x reason) (IsStageWorn Writes x reason g)
  exact_placed true g r is placed h = absurd (let wrong : true ≡ false = is in cc)
  exact_placed false g r is placed h =
      exact_same r ⊥ (IsFull Writes x reason) (IsRootWorn g ⊎ IsRunWornBy false Writes x reason g) (IsStageWorn Writes x reason g) (λ n. absurd n) (placed_fits placed) (λ worn. worn) (λ worn. worn) h

-- what has some entry or goes somewhere goes somewhere, if it has some
pub goes_some : (P : Type 0) (E : List Entry) → E ≢ [] → (E ≡ []) ⊎ P → P
goes_some P E some placed = ⊎_elim (λ (none : E ≡ []). absurd (some none)) (λ (there : P). there) placed

-- whether a run with some entry goes somewhere, by its number of pages
pub fits_some : (P : ℕ → ℕ → Type 0) (E : List Entry) (pages frame : ℕ) (b : Bool) → E ≢ [] → pages ≡ frame → MatchBool b ((e : ℕ) × P pages e) ((e : ℕ) → P pages e → ⊥)
    → MatchBool b ((E ≡ []) ⊎ ((e : ℕ) × P frame e)) ((E ≢ []) × ((e : ℕ) → P frame e → ⊥))
fits_some P E pages frame true some are there = inr (subst (λ (k : ℕ). (e : ℕ) × P k e) are there)
fits_some P E pages frame false some are none = (some, subst (λ (k : ℕ). (e : ℕ) → P k e → ⊥) are none)

-- ---- the run of a part

pub part_writes : (go : Bool) (s : State) (k : ℕ) (E es : List Entry) → IsRunOf go (part s k) E → WritesPart go s k es → es ≡ E
part_writes go s k E es run writes = run_one go (part s k) es E writes.0 run

pub part_none : (go : Bool) (s : State) (k : ℕ) (E es : List Entry) → E ≡ [] → IsRunOf go (part s k) E → WritesPart go s k es → ⊥
part_none go s k E es none run writes = writes.1 (part_writes go s k E es run writes ∙ none)

module _ (apart go : Bool) (k : ℕ) (s : State) (x : ExtentsState) (g : GraphState) (reason : Reason) (v commands : ℕ) (t : State) (y : ExtentsState) (h : GraphState) (E : List Entry) (run : IsRunOf go (part s k) E) where
  pub part_one : (place : Place) → E ≢ [] → IsRunStagedBy apart x g reason E (drop k s.runs) place v commands y h
      → t ≡ record { table = []; runs = record { place = place; entries = E } ∷ drop k s.runs; format = s.format; limit = s.limit; room = 0 } → IsPartStagedBy apart go k s x g reason v commands t y h
  part_one place some staged is = subst (λ (u : State). IsPartStagedBy apart go k s x g reason v commands u y h) (sym is) (record {
    between = staged.0;
    appended = inl (E, place, some, run, staged.1, refl);
    root = staged.2;
    table = refl;
    format = refl;
    limit = refl;
  })

  pub part_empty : E ≡ [] → drop k s.runs ≡ [] → IsRootOver x.format (pages_first_in x.format) g h v commands [] → t ≡ record { table = []; runs = []; format = s.format; limit = s.limit; room = 0 } → IsPartStagedBy apart go k s x g reason v commands t x h
  part_empty none alone root is = subst (λ (u : State). IsPartStagedBy apart go k s x g reason v commands u x h) (sym is) (record {
    between = g;
    appended = inr (subst (λ (es : List Entry). IsRunOf go (part s k) es) none run, refl, refl, sym alone);
    root = root;
    table = refl;
    format = refl;
    limit = refl;
  })

-- the run of all that is live
pub merged_writes : (s : State) (E es : List Entry) → IsMergedRun (index_of s) E → WritesMerged s es → es ≡ E
merged_writes s E es run writes = merged_one (index_of s) es E writes.0 run

-- ---- staging

pub exact_with : {T : Type 0} (r : Result T Refusal) (A V P : Type 0) → P → IsExact r A V → IsExact r A (P × V)
exact_with r A V P p h = exact_same r A A V (P × V) (λ a. a) (λ a. a) (λ v. (p, v)) (λ w. w.1) h

-- the same refusals, where the same runs are to be written
pub exact_writes : {T : Type 0} (V W : List Entry → Type 0) (x : ExtentsState) (reason : Reason) (g : Staging) (r : Result T Refusal) → ((es : List Entry) → V es → W es) → ((es : List Entry) → W es → V es)
    → IsExact r (IsFull V x reason) (IsStageWorn V x reason g) → IsExact r (IsFull W x reason) (IsStageWorn W x reason g)
exact_writes V W x reason g r to back h =
    exact_same r (IsFull V x reason) (IsFull W x reason) (IsStageWorn V x reason g) (IsStageWorn W x reason g)
    (λ full. (full.0, to full.0 full.1, full.2))
    (λ full. (full.0, back full.0 full.1, full.2))
    (λ worn. ⊎_elim (λ (root : IsRootWorn g). inl root) (λ (run : (es : List Entry) × V es × IsFrameWornBy false x reason g (length (run_frame x es))). inr (run.0, to run.0 run.1, run.2)) worn)
    (λ worn. ⊎_elim (λ (root : IsRootWorn g). inl root) (λ (run : (es : List Entry) × W es × IsFrameWornBy false x reason g (length (run_frame x es))). inr (run.0, back run.0 run.1, run.2)) worn)
    h

-- where the table isn't empty, and so much is merged as a Stage merges
module _ (S : Shape) (s : State) (k : ℕ) (go : Bool) (takes : k ≡ stage_takes S s) (goes : go ≡ deletions_go S s k) where
  writes_to : s.table ≢ [] → (es : List Entry) → WritesPart go s k es → WritesRun S s es
  writes_to some es writes = (some, subst (λ (n : ℕ). WritesPart (deletions_go S s n) s n es) takes (subst (λ (b : Bool). WritesPart b s k es) goes writes))

  writes_back : (es : List Entry) → WritesRun S s es → WritesPart go s k es
  writes_back es writes = subst (λ (b : Bool). WritesPart b s k es) (sym goes) (subst (λ (n : ℕ). WritesPart (deletions_go S s n) s n es) (sym takes) writes.1)

  -- the lookups stay where deletions stay
  pub stays_too : deletions_go S s (stage_takes S s) ≡ false → go ≡ false
  stays_too stay = goes ∙ ap (λ (n : ℕ). deletions_go S s n) takes ∙ stay

pub exact_stage : {T : Type 0} (S : Shape) (s : State) (k : ℕ) (go : Bool) (x : ExtentsState) (g : Staging) (r : Result T Refusal) → k ≡ stage_takes S s → go ≡ deletions_go S s k → s.table ≢ []
    → IsExact r (IsFull (WritesPart go s k) x ForRun) (IsStageWorn (WritesPart go s k) x ForRun g)
    → IsExact r (IsFull (WritesRun S s) x ForRun) (IsStageWorn (WritesRun S s) x ForRun g)
exact_stage S s k go x g r takes goes some h =
    exact_writes (WritesPart go s k) (WritesRun S s) x ForRun g r (writes_to S s k go takes goes some) (writes_back S s k go takes goes) h

pub newest_staged : (s : State) (x : ExtentsState) (k : ℕ) (go : Bool) → k ≡ stage_takes (shape x) s → go ≡ deletions_go (shape x) s k → (g : GraphState) (v commands : ℕ) (t : State) (y : ExtentsState) (h : GraphState)
    → IsPartStagedBy false go k s x g ForRun v commands t y h → IsNewestStaged (stage_takes (shape x) s) s x g v commands t y h
newest_staged s x k go takes goes g v commands t y h staged =
    subst (λ (n : ℕ). IsNewestStaged n s x g v commands t y h) takes (subst (λ (b : Bool). IsPartStagedBy false b k s x g ForRun v commands t y h) goes staged)

-- the table itself is the run of the table alone
pub table_run : (s : State) → Ascending s.table → IsRunOf false (part s 0) s.table
table_run s order = (order, λ id. ap (lookup id) (sym (append-nil s.table)))

pub exact_table : {T : Type 0} (apart : Bool) (s : State) (x : ExtentsState) (g : Staging) (r : Result T Refusal) → apart ≡ false → Ascending s.table → s.table ≢ []
    → (s.table ≡ []) ⊎ ((e : ℕ) × Goes (shape x) apart (extents_of x) ForRun (length (run_frame x s.table)) e)
    → IsExact r ⊥ (IsRootWorn g ⊎ IsFrameWornBy apart x ForRun g (length (run_frame x s.table)))
    → IsExact r (IsFull (WritesPart false s 0) x ForRun) (IsStageWorn (WritesPart false s 0) x ForRun g)
exact_table apart s x g r is order some placed h =
    let one : (es : List Entry) → WritesPart false s 0 es → es ≡ s.table = λ es writes. part_writes false s 0 s.table es (table_run s order) writes in
    exact_placed (WritesPart false s 0) x ForRun s.table (λ es writes. (one es writes, writes.1)) apart g r is placed
    (exact_written apart (WritesPart false s 0) x ForRun g s.table (table_run s order, some) one r h)

pub none_of : {X Y : Type 0} (f : X → Y) (xs : List X) → length xs ≡ 0 → map f xs ≡ []
none_of f [] is = refl
none_of f (x ∷ xs) is = absurd (omega arith)

pub some_of : {X Y : Type 0} (f : X → Y) (xs : List X) → length xs ≢ 0 → map f xs ≢ []
some_of f [] is none = is refl
some_of f (x ∷ xs) is none = let e : f x ∷ map f xs ≡ [] = none in cc

-- ---- the append of a run for which there is a place

pub why_worn : {T : Type 0} (r : Result T Refusal) (f : Refusal) (P : ℕ → Type 0) (Worn : Type 0) → r ≡ Err f → (r ≡ Err Full) ↔ ((e : ℕ) → P e → ⊥) → (r ≡ Err WornOut) ↔ Worn
    → (f ≡ Full) ⊎ (f ≡ WornOut) ⊎ (f ≡ OutOfMemory) → (e : ℕ) × P e → IsWhy f ⊥ Worn
why_worn r f P Worn is full worn refusals place = ⊎_elim
    (λ (e : f ≡ Full). absurd (full.0 (is ∙ ap Err e) place.0 place.1))
    (λ (rest : (f ≡ WornOut) ⊎ (f ≡ OutOfMemory)). ⊎_elim
    (λ (e : f ≡ WornOut). subst (λ (g : Refusal). IsWhy g ⊥ Worn) (sym e) ((λ n. n), worn.0 (is ∙ ap Err e)))
    (λ (e : f ≡ OutOfMemory). subst (λ (g : Refusal). IsWhy g ⊥ Worn) (sym e) tt)
    rest)
    refusals

pub written_why : {T : Type 0} (r : Result T Refusal) (Root Worn : Type 0) → (Root → ⊥) → IsExact r ⊥ Worn → IsExact r ⊥ (Root ⊎ Worn)
written_why r Root Worn below h = exact_same r ⊥ ⊥ Worn (Root ⊎ Worn) (λ n. n) (λ n. n) (λ worn. inr worn) (λ both. ⊎_elim (λ (root : Root). absurd (below root)) (λ (worn : Worn). worn) both) h
