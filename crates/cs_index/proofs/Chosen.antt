-- The run that a Stage writes where chunks and runs lie apart.
use Rattle.std.proofs.Common.{◌≡◌, ◌≢◌, ◌⊎◌, inl, inr, ⊎_elim, ℕ, ◌<◌, ◌≤◌, Bool, true, false, List, [], ◌∷◌, ◌++◌, drop, length, Option, Some, None, nat_lt, refl, sym, ap, subst, ◌∙◌, arith, if◌then◌else◌}
use Rattle.std.specs.Prelude.{IfOk, OnErr, Result, Ok, Err}
use Rattle.std.proofs.lemmas.Bool.Decides.{nat_tests}
use Rattle.cs_refusal.specs.declared.refusals.Refusal.{Refusal}
use Rattle.cs_refusal.specs.declared.refusals.Refusal.TheVariants.{Full, OutOfMemory, WornOut}
use Rattle.cs_deps.specs.Staging.{Staging}
use Rattle.cs_deps.specs.State.{State as GraphState}
use Rattle.cs_extent.specs.State.{State as ExtentsState, extents_of, shape}
use Rattle.law_machine.proofs.Counting.{lookup_here}
use Rattle.law_machine.specs.Apart.{is_none}
use Rattle.law_machine.specs.Device.{Shape}
use Rattle.law_machine.specs.Element.{Entry, Locator as Place}
use Rattle.law_machine.specs.Extents.{ForMerge, ForRun, Goes, GoesApart, Purpose as Reason}
use Rattle.law_machine.specs.Index.{if_live, lookup, names}
use Rattle.law_machine.specs.Merges.{IsRunOf, reaching, sizes}
use Rattle.cs_index.specs.Apart.{IsFullApart, IsNewestStagedApart, IsRunWornApart, IsStageFullApart, IsStageWornApart, IsStagedApart, WritesNewest, takes_apart}
use Rattle.cs_index.specs.Merges.{deletions_go, part, reached, stage_takes}
use Rattle.cs_index.specs.Staged.{IsExact, IsPartStagedBy, IsRootStaged, IsRootWorn, IsRunWornBy, IsWhy, WritesPart, run_frame}
use Rattle.cs_index.specs.Stages.{IsStageFullBy}
use Rattle.cs_index.specs.State.{State}
use Rattle.cs_index.proofs.Exact.{exact_same, part_writes}
use Rattle.cs_index.proofs.Sizes.{goes_all, none_left, reaching_left}

-- ---- how few runs a Stage leaves

module _ (S : Shape) (s : State) where
  pub takes_below : 4 ≤ S.most_runs → length (drop (stage_takes S s) s.runs) < S.most_runs
  takes_below most = by_size S.by_size
    where
      by_quarter : (b : Bool) → length (drop (if b then length s.runs else reaching S (sizes s.runs) (names s.table)) s.runs) < S.most_runs
      by_quarter true = let none : length (drop (length s.runs) s.runs) ≡ 0 = none_left S s in omega arith
      by_quarter false = reaching_left S s.runs (names s.table) (omega (arith, most))

      by_number : (b : Bool) → nat_lt (length s.runs) 4 ≡ b → length (drop (if b then 0 else length s.runs) s.runs) < S.most_runs
      by_number true few = let lt : length s.runs < 4 = grind (arith, nat_tests) in omega arith
      by_number false many = let none : length (drop (length s.runs) s.runs) ≡ 0 = none_left S s in omega arith

      by_size : (b : Bool) → length (drop (if b then reached S s else (if nat_lt (length s.runs) 4 then 0 else length s.runs)) s.runs) < S.most_runs
      by_size true = by_quarter _
      by_size false = by_number (nat_lt (length s.runs) 4) refl

-- with some entries a Stage takes as many as the sizes say
some_taken : (S : Shape) (s : State) → s.table ≢ [] → (es : List Entry) → es ≡ s.table → (if is_none es then 0 else stage_takes S s) ≡ stage_takes S s
some_taken S s some [] is = absurd (some (sym is))
some_taken S s some (e ∷ es) is = refl

pub takes_some : (S : Shape) (s : State) → s.table ≢ [] → takes_apart S s ≡ stage_takes S s
takes_some S s some = some_taken S s some s.table refl

pub takes_none : (S : Shape) (s : State) → s.table ≡ [] → takes_apart S s ≡ 0
takes_none S s none = ap (λ (es : List Entry). if is_none es then 0 else stage_takes S s) none

-- ---- what was chosen

-- a run that goes somewhere, or has no entry, isn't full
not_full : (s : State) (x : ExtentsState) (k : ℕ) (reason : Reason) (E : List Entry) → IsRunOf (deletions_go (shape x) s k) (part s k) E → (E ≡ []) ⊎ ((e : ℕ) × GoesApart (shape x) (extents_of x) reason (length (run_frame x E)) e)
    → IsFullApart (WritesNewest (shape x) s k) x reason → ⊥
not_full s x k reason E run placed full =
    let same : full.0 ≡ E = part_writes (deletions_go (shape x) s k) s k E full.0 run full.1 in
    ⊎_elim
    (λ (none : E ≡ []). full.1.1 (same ∙ none))
    (λ (goes : (e : ℕ) × GoesApart (shape x) (extents_of x) reason (length (run_frame x E)) e).
    full.2 goes.0 (subst (λ (es : List Entry). GoesApart (shape x) (extents_of x) reason (length (run_frame x es)) goes.0) (sym same) goes.1))
    placed

module _ (s : State) (x : ExtentsState) (g : Staging) where
  abbrev Takes : ℕ
  Takes = takes_apart (shape x) s

  abbrev All : ℕ
  All = length s.runs

  -- a run that is full goes nowhere, so no number of its frame would pass the greatest
  not_worn : (k : ℕ) (reason : Reason) → IsFullApart (WritesNewest (shape x) s k) x reason → IsRunWornApart (WritesNewest (shape x) s k) x reason g → ⊥
  not_worn k reason full worn =
      let same : worn.0 ≡ full.0 = part_writes (deletions_go (shape x) s k) s k full.0 worn.0 full.1.0 worn.1 in
      full.2 worn.2.0 (subst (λ (es : List Entry). GoesApart (shape x) (extents_of x) reason (length (run_frame x es)) worn.2.0) same worn.2.1)

  module _ {T : Type 0} (r : Result T Refusal) (E : List Entry) where
    abbrev Why : (k : ℕ) → (go : Bool) → Reason → Type 0
    Why k go reason = IsRunOf go (part s k) E → (E ≡ []) ⊎ ((e : ℕ) × GoesApart (shape x) (extents_of x) reason (length (run_frame x E)) e)
        → IsExact r ⊥ (IsRootWorn g ⊎ IsRunWornApart (WritesPart go s k) x reason g) → IsExact r (IsStageFullApart s x) (IsStageWornApart s x g)

    why_taken : Why Takes (deletions_go (shape x) s Takes) ForRun
    why_taken run placed h =
        exact_same r ⊥ (IsStageFullApart s x) (IsRootWorn g ⊎ IsRunWornApart (WritesNewest (shape x) s Takes) x ForRun g) (IsStageWornApart s x g)
        (λ n. absurd n)
        (λ full. not_full s x Takes ForRun E run placed full.0)
        (λ worn. ⊎_elim (λ (root : IsRootWorn g). inl root) (λ (w : IsRunWornApart (WritesNewest (shape x) s Takes) x ForRun g). inr (inl w)) worn)
        (λ worn. ⊎_elim (λ (root : IsRootWorn g). inl root)
        (λ (rest : IsRunWornApart (WritesNewest (shape x) s Takes) x ForRun g ⊎ (IsFullApart (WritesNewest (shape x) s Takes) x ForRun × IsRunWornApart (WritesNewest (shape x) s All) x ForMerge g)). ⊎_elim
        (λ (w : IsRunWornApart (WritesNewest (shape x) s Takes) x ForRun g). inr w)
        (λ (w : IsFullApart (WritesNewest (shape x) s Takes) x ForRun × IsRunWornApart (WritesNewest (shape x) s All) x ForMerge g). absurd (not_full s x Takes ForRun E run placed w.0))
        rest)
        worn)
        h

    why_all : IsFullApart (WritesNewest (shape x) s Takes) x ForRun → Why All (deletions_go (shape x) s All) ForMerge
    why_all full run placed h =
        exact_same r ⊥ (IsStageFullApart s x) (IsRootWorn g ⊎ IsRunWornApart (WritesNewest (shape x) s All) x ForMerge g) (IsStageWornApart s x g)
        (λ n. absurd n)
        (λ both. not_full s x All ForMerge E run placed both.1)
        (λ worn. ⊎_elim (λ (root : IsRootWorn g). inl root) (λ (w : IsRunWornApart (WritesNewest (shape x) s All) x ForMerge g). inr (inr (full, w))) worn)
        (λ worn. ⊎_elim (λ (root : IsRootWorn g). inl root)
        (λ (rest : IsRunWornApart (WritesNewest (shape x) s Takes) x ForRun g ⊎ (IsFullApart (WritesNewest (shape x) s Takes) x ForRun × IsRunWornApart (WritesNewest (shape x) s All) x ForMerge g)). ⊎_elim
        (λ (w : IsRunWornApart (WritesNewest (shape x) s Takes) x ForRun g). absurd (not_worn Takes ForRun full w))
        (λ (w : IsFullApart (WritesNewest (shape x) s Takes) x ForRun × IsRunWornApart (WritesNewest (shape x) s All) x ForMerge g). inr w.1)
        rest)
        worn)
        h

-- which run was chosen
abbrev pub IsChosen : State → ExtentsState → Reason → ℕ → Type 0
IsChosen s x reason k = ((reason ≡ ForRun) × (k ≡ takes_apart (shape x) s))
    ⊎ ((reason ≡ ForMerge) × (k ≡ length s.runs) × IsFullApart (WritesNewest (shape x) s (takes_apart (shape x) s)) x ForRun)

-- so it is refused exactly where neither run goes anywhere, and where a number would pass its greatest
pub chosen_why : {T : Type 0} (apart : Bool) → apart ≡ true → (s : State) (x : ExtentsState) (g : Staging) (r : Result T Refusal) (E : List Entry) (k : ℕ) (go : Bool) (reason : Reason) → IsChosen s x reason k → go ≡ deletions_go (shape x) s k
    → IsRunOf go (part s k) E → (E ≡ []) ⊎ ((e : ℕ) × Goes (shape x) apart (extents_of x) reason (length (run_frame x E)) e)
    → IsExact r ⊥ (IsRootWorn g ⊎ IsRunWornBy apart (WritesPart go s k) x reason g) → IsExact r (IsStageFullApart s x) (IsStageWornApart s x g)
chosen_why false is s x g r E k go reason chosen goes = absurd (let wrong : false ≡ true = is in cc)
chosen_why true is s x g r E k go reason chosen goes = ⊎_elim
    (λ (c : (reason ≡ ForRun) × (k ≡ takes_apart (shape x) s)). subst (λ (p : Reason). Why s x g r E k go p) (sym c.0)
    (subst (λ (b : Bool). Why s x g r E k b ForRun) (sym goes) (subst (λ (n : ℕ). Why s x g r E n (deletions_go (shape x) s n) ForRun) (sym c.1) (why_taken s x g r E))))
    (λ (c : (reason ≡ ForMerge) × (k ≡ length s.runs) × IsFullApart (WritesNewest (shape x) s (takes_apart (shape x) s)) x ForRun). subst (λ (p : Reason). Why s x g r E k go p) (sym c.0)
    (subst (λ (b : Bool). Why s x g r E k b ForMerge) (sym goes) (subst (λ (n : ℕ). Why s x g r E n (deletions_go (shape x) s n) ForMerge) (sym c.1) (why_all s x g r E c.2))))
    chosen

pub chosen_staged : (apart : Bool) → apart ≡ true → (s : State) (x : ExtentsState) (g : GraphState) (k : ℕ) (go : Bool) (reason : Reason) (v commands : ℕ) (t : State) (y : ExtentsState) (h : GraphState) → IsChosen s x reason k → go ≡ deletions_go (shape x) s k
    → IsPartStagedBy apart go k s x g reason v commands t y h → IsStagedApart s x g v commands t y h
chosen_staged false is s x g k go reason v commands t y h chosen goes staged = absurd (let wrong : false ≡ true = is in cc)
chosen_staged true is s x g k go reason v commands t y h chosen goes staged =
    let so : IsNewestStagedApart k s x g reason v commands t y h = subst (λ (b : Bool). IsPartStagedBy true b k s x g reason v commands t y h) goes staged in
    ⊎_elim
    (λ (c : (reason ≡ ForRun) × (k ≡ takes_apart (shape x) s)).
    inl (subst (λ (n : ℕ). IsNewestStagedApart n s x g ForRun v commands t y h) c.1 (subst (λ (p : Reason). IsNewestStagedApart k s x g p v commands t y h) c.0 so)))
    (λ (c : (reason ≡ ForMerge) × (k ≡ length s.runs) × IsFullApart (WritesNewest (shape x) s (takes_apart (shape x) s)) x ForRun).
    inr (c.2, subst (λ (n : ℕ). IsNewestStagedApart n s x g ForMerge v commands t y h) c.1 (subst (λ (p : Reason). IsNewestStagedApart k s x g p v commands t y h) c.0 so)))
    chosen

-- where the run of as many as a Stage takes goes somewhere and keeps its deletions, so does what was chosen
pub chosen_keeps : (s : State) (x : ExtentsState) (k : ℕ) (go : Bool) (reason : Reason) → IsChosen s x reason k → go ≡ deletions_go (shape x) s k → deletions_go (shape x) s (takes_apart (shape x) s) ≡ false
    → (IsFullApart (WritesNewest (shape x) s (takes_apart (shape x) s)) x ForRun → ⊥) → go ≡ false
chosen_keeps s x k go reason chosen goes keeps not = ⊎_elim
    (λ (c : (reason ≡ ForRun) × (k ≡ takes_apart (shape x) s)). goes ∙ ap (deletions_go (shape x) s) c.1 ∙ keeps)
    (λ (c : (reason ≡ ForMerge) × (k ≡ length s.runs) × IsFullApart (WritesNewest (shape x) s (takes_apart (shape x) s)) x ForRun). absurd (not c.2))
    chosen

-- where a run was chosen not both are full
pub chosen_fits : (apart : Bool) → apart ≡ true → (s : State) (x : ExtentsState) (E : List Entry) (k : ℕ) (go : Bool) (reason : Reason) → IsChosen s x reason k → go ≡ deletions_go (shape x) s k
    → IsRunOf go (part s k) E → (E ≡ []) ⊎ ((e : ℕ) × Goes (shape x) apart (extents_of x) reason (length (run_frame x E)) e) → IsStageFullApart s x → ⊥
chosen_fits false is s x E k go reason chosen goes run placed full = absurd (let wrong : false ≡ true = is in cc)
chosen_fits true is s x E k go reason chosen goes run placed full =
    let so : IsRunOf (deletions_go (shape x) s k) (part s k) E = subst (λ (b : Bool). IsRunOf b (part s k) E) goes run in
    let not : IsFullApart (WritesNewest (shape x) s k) x reason → ⊥ = not_full s x k reason E so placed in
    ⊎_elim
    (λ (c : (reason ≡ ForRun) × (k ≡ takes_apart (shape x) s)).
    not (subst (λ (p : Reason). IsFullApart (WritesNewest (shape x) s k) x p) (sym c.0) (subst (λ (n : ℕ). IsFullApart (WritesNewest (shape x) s n) x ForRun) (sym c.1) full.0)))
    (λ (c : (reason ≡ ForMerge) × (k ≡ length s.runs) × IsFullApart (WritesNewest (shape x) s (takes_apart (shape x) s)) x ForRun).
    not (subst (λ (p : Reason). IsFullApart (WritesNewest (shape x) s k) x p) (sym c.0) (subst (λ (n : ℕ). IsFullApart (WritesNewest (shape x) s n) x ForMerge) (sym c.1) full.1)))
    chosen

-- ---- refused though there is a place

module _ (F W L : Type 0) where
  pub why_too : (f : Refusal) → L → ((f ≡ WornOut) × (F → ⊥)) ⊎ ((f ≡ Full) × F) ⊎ (f ≡ OutOfMemory) → IsWhy f F (W ⊎ L)
  why_too f last why = ⊎_elim
      (λ (worn : (f ≡ WornOut) × (F → ⊥)). subst (λ (g : Refusal). IsWhy g F (W ⊎ L)) (sym worn.0) (worn.1, inr last))
      (λ (rest : ((f ≡ Full) × F) ⊎ (f ≡ OutOfMemory)). ⊎_elim
      (λ (full : (f ≡ Full) × F). subst (λ (g : Refusal). IsWhy g F (W ⊎ L)) (sym full.0) full.1)
      (λ (memory : f ≡ OutOfMemory). subst (λ (g : Refusal). IsWhy g F (W ⊎ L)) (sym memory) tt)
      rest)
      why

  pub exact_too : {T : Type 0} (r : Result T Refusal) → (L → ⊥) → IsExact r F W → IsExact r F (W ⊎ L)
  exact_too r not h = exact_same r F F W (W ⊎ L) (λ full. full) (λ full. full) (λ worn. inl worn) (λ worn. ⊎_elim (λ (w : W). w) (λ (last : L). absurd (not last)) worn) h

-- ---- the run that goes nowhere

pub full_run : (apart : Bool) → apart ≡ true → (s : State) (x : ExtentsState) (k : ℕ) (go : Bool) (reason : Reason) (E : List Entry) → go ≡ deletions_go (shape x) s k → IsRunOf go (part s k) E → E ≢ []
    → ((e : ℕ) → Goes (shape x) apart (extents_of x) reason (length (run_frame x E)) e → ⊥) → IsFullApart (WritesNewest (shape x) s k) x reason
full_run false is s x k go reason E goes run some none = absurd (let wrong : false ≡ true = is in cc)
full_run true is s x k go reason E goes run some none = (E, (subst (λ (b : Bool). IsRunOf b (part s k) E) goes run, some), none)

-- ---- where the table is empty

nothing_in : (go : Bool) (s : State) (es : List Entry) → s.table ≡ [] → WritesPart go s 0 es → ⊥
nothing_in go s es none writes = by es writes.1 refl
  where
    at : (b : Bool) (o : Option (List Place)) (id : ℕ) → o ≡ (if b then if_live (lookup id (part s 0)) else lookup id (part s 0)) → o ≡ None
    at true o id is = is ∙ ap (λ (zs : List Entry). if_live (lookup id (zs ++ []))) none
    at false o id is = is ∙ ap (λ (zs : List Entry). lookup id (zs ++ [])) none

    by : (zs : List Entry) → zs ≢ [] → zs ≡ es → ⊥
    by [] some is = some refl
    by (z ∷ zs) some is =
        let wrong : Some z.locators ≡ None = sym (lookup_here z zs z.id refl) ∙ ap (lookup z.id) is ∙ at go (lookup z.id es) z.id (writes.0.1 z.id) in cc

module _ (s : State) (x : ExtentsState) (none : s.table ≡ []) where
  unwritten : (es : List Entry) → WritesNewest (shape x) s (takes_apart (shape x) s) es → ⊥
  unwritten es writes = nothing_in (deletions_go (shape x) s 0) s es none (subst (λ (k : ℕ). WritesNewest (shape x) s k es) (takes_none (shape x) s none) writes)

  pub nowhere_none : IsStageFullApart s x → ⊥
  nowhere_none full = unwritten full.0.0 full.0.1

  pub same_why : {T : Type 0} (g : Staging) (r : Result T Refusal) → IsExact r ⊥ (IsRootWorn g) → IsExact r (IsStageFullApart s x) (IsStageWornApart s x g)
  same_why g r h =
      exact_same r ⊥ (IsStageFullApart s x) (IsRootWorn g) (IsStageWornApart s x g) (λ n. absurd n) (λ full. unwritten full.0.0 full.0.1) (λ root. inl root)
      (λ worn. ⊎_elim (λ (root : IsRootWorn g). root)
      (λ (rest : IsRunWornApart (WritesNewest (shape x) s (takes_apart (shape x) s)) x ForRun g ⊎ (IsFullApart (WritesNewest (shape x) s (takes_apart (shape x) s)) x ForRun × IsRunWornApart (WritesNewest (shape x) s (length s.runs)) x ForMerge g)). ⊎_elim
      (λ (w : IsRunWornApart (WritesNewest (shape x) s (takes_apart (shape x) s)) x ForRun g). absurd (unwritten w.0 w.1))
      (λ (w : IsFullApart (WritesNewest (shape x) s (takes_apart (shape x) s)) x ForRun × IsRunWornApart (WritesNewest (shape x) s (length s.runs)) x ForMerge g). absurd (unwritten w.0.0 w.0.1))
      rest)
      worn)
      h

  pub same_staged : (g : GraphState) (v commands : ℕ) (t : State) (y : ExtentsState) (h : GraphState) → IsPartStagedBy true (deletions_go (shape x) s 0) 0 s x g ForRun v commands t y h → IsStagedApart s x g v commands t y h
  same_staged g v commands t y h staged = inl (subst (λ (k : ℕ). IsNewestStagedApart k s x g ForRun v commands t y h) (sym (takes_none (shape x) s none)) staged)

-- then nothing is full, by either rule
pub nothing_full : (apart : Bool) (s : State) (x : ExtentsState) → s.table ≡ [] → IsStageFullBy apart s x → ⊥
nothing_full false s x none full = full.1.0 none
nothing_full true s x none full = nowhere_none s x none full

-- ---- what was staged, where the table is empty no run is written, and all runs stand
nothing_of : (go : Bool) (s : State) → s.table ≡ [] → IsRunOf go (part s 0) []
nothing_of true s none = (tt, λ id. sym (ap (λ (zs : List Entry). if_live (lookup id (zs ++ []))) none))
nothing_of false s none = (tt, λ id. sym (ap (λ (zs : List Entry). lookup id (zs ++ [])) none))

pub same_part : (go : Bool) (s : State) (x : ExtentsState) (g : GraphState) (v commands : ℕ) (h : GraphState) → s.table ≡ [] → IsRootStaged x.format g h v commands s.runs
    → IsPartStagedBy true go 0 s x g ForRun v commands s x h
same_part go s x g v commands h none root = record {
  between = g;
  appended = inr (nothing_of go s none, refl, refl, refl);
  root = root;
  table = none;
  format = refl;
  limit = refl;
}

-- what both an answer and a refusal give
pub either_way : {T : Type 0} (r : Result T Refusal) {S : T → Type 0} {P Q : Type 0} → ((v : T) → S v → P) → (Q → P) → IfOk r S → OnErr r Q → P
either_way (Ok v) ok err h e = ok v h
either_way (Err f) ok err h e = err e

-- refused for its place, or for memory
pub refused_why : (f : Refusal) (F W : Type 0) → ((f ≡ Full) × F) ⊎ (f ≡ OutOfMemory) → IsWhy f F W
refused_why f F W refused = ⊎_elim
    (λ (full : (f ≡ Full) × F). subst (λ (g : Refusal). IsWhy g F W) (sym full.0) full.1)
    (λ (memory : f ≡ OutOfMemory). subst (λ (g : Refusal). IsWhy g F W) (sym memory) tt)
    refused

-- where deletions go no run is left
pub alone : (s : State) (x : ExtentsState) (k : ℕ) (go : Bool) → go ≡ deletions_go (shape x) s k → go ≡ true → drop k s.runs ≡ []
alone s x k go goes is = goes_all (shape x) s k (sym goes ∙ is)
