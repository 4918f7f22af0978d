-- Where a Stage doesn't merge by size it makes the table a run, or all that lives one.
use Rattle.std.proofs.Common.{◌≡◌, ◌≢◌, ◌↔◌, inl, inr, ⊎_elim, ℕ, ◌<◌, ◌≤◌, Bool, true, false, ◌&&◌, List, [], ◌∷◌, ◌++◌, append-nil, length, Some, None, nat_le, nat_lt, le_refl, le-leb, refl, sym, ap, ◌∙◌, subst, arith}
use Rattle.std.proofs.lemmas.Bool.{cases_lt}
use Rattle.std.proofs.lemmas.Bool.Decides.{nat_tests}
use Rattle.law_machine.proofs.Rules.{before_rule, rule_before}
use Rattle.law_machine.proofs.Counting.{lookup_here}
use Rattle.law_machine.proofs.Merging.{in_part, in_world}
use Rattle.law_machine.specs.Before.{FullAsBefore, StagesAsBefore}
use Rattle.law_machine.specs.Device.{Shape}
use Rattle.law_machine.specs.Element.{Entry, Run}
use Rattle.law_machine.specs.Events.{Does, rooted}
use Rattle.law_machine.specs.Extents.{ForRun}
use Rattle.law_machine.specs.Formats.{Formats}
use Rattle.law_machine.specs.Grounds.{NoRoomToStage}
use Rattle.law_machine.specs.Index.{IsTableRun, lookup}
use Rattle.law_machine.specs.Merges.{IsRunOf, MergesNewest, MergesPart, deletions_go, part, stage_takes}
use Rattle.law_machine.specs.State.{Stage, Staged, State}

module _ (S : Shape) (F : Formats) (s : State) (before : S.by_size ≡ false) (together : S.apart ≡ false) where
  takes_none : length s.runs < 4 → stage_takes S s ≡ 0
  takes_none few = let test : nat_lt (length s.runs) 4 ≡ true = grind (arith, nat_tests) in rw (before, test)

  takes_all : 4 ≤ length s.runs → stage_takes S s ≡ length s.runs
  takes_all many = let test : nat_lt (length s.runs) 4 ≡ false = grind (arith, nat_tests) in rw (before, test)

  stay : deletions_go S s 0 ≡ false
  stay = rw before (nowhere (nat_le (length s.runs) 0))
    where
      nowhere : (b : Bool) → (b && false) ≡ false
      nowhere true = refl
      nowhere false = refl

  go : 4 ≤ length s.runs → deletions_go S s (length s.runs) ≡ true
  go many = let all : nat_le (length s.runs) (length s.runs) ≡ true = le-leb _ _ (le_refl _) in
      let some : nat_lt 0 (length s.runs) ≡ true = grind (arith, nat_tests) in rw (before, all, some)

  -- the table as a part
  table_part : (t : State) (runs : List Run) → length s.runs < 4
      → MergesNewest S F s ForRun (stage_takes S s) t runs → MergesPart S F false false s ForRun 0 t runs
  table_part t runs few m = subst (λ (b : Bool). MergesPart S F false b s ForRun 0 t runs) stay
      (subst (λ (k : ℕ). MergesPart S F false (deletions_go S s k) s ForRun k t runs) (takes_none few) m)

  part_table : (t : State) (runs : List Run) → length s.runs < 4
      → MergesPart S F false false s ForRun 0 t runs → MergesNewest S F s ForRun (stage_takes S s) t runs
  part_table t runs few m = subst (λ (k : ℕ). MergesPart S F false (deletions_go S s k) s ForRun k t runs)
      (sym (takes_none few)) (subst (λ (b : Bool). MergesPart S F false b s ForRun 0 t runs) (sym stay) m)

  all_part : (t : State) (runs : List Run) → 4 ≤ length s.runs
      → MergesNewest S F s ForRun (stage_takes S s) t runs → MergesPart S F false true s ForRun (length s.runs) t runs
  all_part t runs many m = subst (λ (b : Bool). MergesPart S F false b s ForRun (length s.runs) t runs) (go many)
      (subst (λ (k : ℕ). MergesPart S F false (deletions_go S s k) s ForRun k t runs) (takes_all many) m)

  part_all : (t : State) (runs : List Run) → 4 ≤ length s.runs
      → MergesPart S F false true s ForRun (length s.runs) t runs → MergesNewest S F s ForRun (stage_takes S s) t runs
  part_all t runs many m = subst (λ (k : ℕ). MergesPart S F false (deletions_go S s k) s ForRun k t runs)
      (sym (takes_all many)) (subst (λ (b : Bool). MergesPart S F false b s ForRun (length s.runs) t runs) (sym (go many)) m)

  -- a table that isn't empty has a run
  some_run : (table : List Entry) → table ≢ [] → IsRunOf false (table ++ []) [] → ⊥
  some_run [] some run = some refl
  some_run (x ∷ xs) some run = let e : None ≡ Some x.locators = run.1 x.id ∙ lookup_here x (xs ++ []) x.id refl in cc

  some_entries : (table entries : List Entry) → table ≢ [] → IsTableRun table entries → entries ≢ []
  some_entries [] entries some run none = some refl
  some_entries (x ∷ xs) entries some run none = let e : None ≡ Some x.locators = ap (lookup x.id) (sym none) ∙ run.1 x.id
      ∙ lookup_here x xs x.id refl in cc

  run_of : (entries : List Entry) → IsTableRun s.table entries → IsRunOf false (part s 0) entries
  run_of entries run = (run.0, λ id. run.1 id ∙ ap (lookup id) (sym (append-nil s.table)))

  of_run : (entries : List Entry) → IsRunOf false (part s 0) entries → IsTableRun s.table entries
  of_run entries run = (run.0, λ id. run.1 id ∙ ap (lookup id) (append-nil s.table))

  as_before : (v : ℕ) (t : State) → Does S F s Stage (Staged v) t → StagesAsBefore S F s v t
  as_before v t does = let d = before_rule _ _ S.apart together does in elim (cases_lt (length s.runs) 4) [
    | inl few ↦ ⊎_elim
        (λ m. (
          d.0,
          d.1,
          inl (
            few,
            m.0,
            m.1,
            d.2,
            of_run m.0 m.3,
            m.4,
            d.5 ∙ ap (λ (rs : List Run). rooted S F d.2 rs d.2.world.extents.pointer) m.5,
          ),
        ))
        (λ none. absurd (some_run s.table d.0 none.0))
        (table_part d.2 d.3 few d.4)
    | inr many ↦ (d.0, d.1, inr (many, d.2, d.3, in_world S F s d.2 ForRun d.3 (all_part d.2 d.3 many d.4), d.5))
  ]

  of_before : (v : ℕ) (t : State) → StagesAsBefore S F s v t → Does S F s Stage (Staged v) t
  of_before v t d = rule_before _ _ S.apart together (⊎_elim
      (λ one. (
        d.0,
        d.1,
        one.3,
        record { place = one.2; entries = one.1 } ∷ s.runs,
        part_table one.3 (record { place = one.2; entries = one.1 } ∷ s.runs) one.0
            (inl (one.1, one.2, some_entries s.table one.1 d.0 one.4, run_of one.1 one.4, one.5, refl)),
        one.6,
      ))
      (λ all. (d.0, d.1, all.1, all.2, part_all all.1 all.2 all.0 (in_part S F s all.1 ForRun all.2 all.3), all.4))
      d.2)

  full_before : s.table ≢ [] → NoRoomToStage S F s → FullAsBefore S F s
  full_before some full = elim (cases_lt (length s.runs) 4) [
    | inl few ↦ inl (
      few,
      λ entries l mid run a. full mid (record { place = l; entries = entries } ∷ s.runs)
          (part_table mid (record { place = l; entries = entries } ∷ s.runs) few
          (inl (entries, l, some_entries s.table entries some run, run_of entries run, a, refl))),
    )
    | inr many ↦ inr (many, λ mid runs m. full mid runs (part_all mid runs many (in_part S F s mid ForRun runs m)))
  ]

  before_full : s.table ≢ [] → FullAsBefore S F s → NoRoomToStage S F s
  before_full some (inl full) mid runs m = ⊎_elim
      (λ one. full.1 one.0 one.1 mid (of_run one.0 one.3) one.4)
      (λ none. some_run s.table some none.0)
      (table_part mid runs full.0 m)
  before_full some (inr full) mid runs m = full.1 mid runs (in_world S F s mid ForRun runs (all_part mid runs full.0 m))

pub stages_as_before : (S : Shape) (F : Formats) (s t : State) (v : ℕ) → S.by_size ≡ false → S.apart ≡ false
    → Does S F s Stage (Staged v) t ↔ StagesAsBefore S F s v t
stages_as_before S F s t v before together = (as_before S F s before together v t, of_before S F s before together v t)

pub full_as_before : (S : Shape) (F : Formats) (s : State) → S.by_size ≡ false → S.apart ≡ false → s.table ≢ []
    → NoRoomToStage S F s ↔ FullAsBefore S F s
full_as_before S F s before together some =
    (full_before S F s before together some, before_full S F s before together some)
