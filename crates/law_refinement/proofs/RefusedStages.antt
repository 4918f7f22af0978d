-- Why a Stage and a Retire are refused.
use Rattle.std.proofs.Common.{◌≡◌, ◌≢◌, ◌⊎◌, ◌↔◌, inl, inr, ⊎_elim, ℕ, suc, ◌+◌, ◌^◌, ◌<◌, ◌≤◌, Bool, true, false, List, [], ◌∷◌, drop, length, refl, sym, ap, ◌∙◌, subst, le_of_eq, le_trans, arith}
use Rattle.std.proofs.lemmas.Bool.{cases_eq}
use Rattle.std.specs.Prelude.{◌==◌, if◌then◌else◌, slice_index}
use Rattle.cs_deps.specs.State.{State as GraphState}
use Rattle.cs_extent.specs.Frames.{IsWorn, root_family}
use Rattle.cs_extent.specs.State.{IsWhole, State as ExtentsState, extents_of, shape}
use Rattle.cs_extent.specs.Worn.{in_section, IsFrameWornBy}
use Rattle.cs_frame.specs.Formats.{formats_of}
use Rattle.cs_index.specs.Merges.{deletions_go as index_deletions_go, part as index_part, stage_takes as index_takes}
use Rattle.cs_index.specs.Staged.{IsFull, IsRootWorn, IsStageWorn, WritesMerged, WritesPart, WritesRun, run_frame}
use Rattle.cs_index.specs.State.{State as IndexState, index_of}
use Rattle.law_machine.proofs.Before.{full_as_before}
use Rattle.law_machine.proofs.Limits.{not_past}
use Rattle.law_machine.proofs.Needs.{append_there}
use Rattle.law_machine.proofs.Outcomes.{frame_generations, merged_generations, merged_or_full, none_live, not_both, part_or_full}
use Rattle.law_machine.proofs.Parts.{with_other, with_same}
use Rattle.law_machine.proofs.Places.{placed_one}
use Rattle.law_machine.proofs.Sorted.{one_sorted, sorted, sorted_live}
use Rattle.law_machine.specs.Append.{Append, MergesTo}
use Rattle.law_machine.specs.Element.{Entry, Locator as Place, Run}
use Rattle.law_machine.specs.Events.{Does, Merged, retired, rooted}
use Rattle.law_machine.specs.Extents.{Extents, ForMove, ForRun, NoPlace, Placed, Purpose as Reason}
use Rattle.law_machine.specs.Formats.{RunFrame}
use Rattle.law_machine.specs.Grounds.{NoRoomForRun, NoRoomForTable, NoRoomToStage, PastLimit, WouldPass}
use Rattle.law_machine.specs.Index.{IsMergedRun, NothingLive, if_live, live, lookup}
use Rattle.law_machine.specs.Machine.{World}
use Rattle.law_machine.specs.Merges.{IsRunOf, MergesNewest, MergesPart, deletions_go, part, stage_takes}
use Rattle.law_machine.specs.Sound.{Bounded, Sound}
use Rattle.law_machine.specs.State.{Reply, Retire, Retired, Stage, Staged, State, Unchanged, index_now}
use Rattle.cs_reclaim.specs.Retired.{IsRetireFull, IsRetireWorn}
use Rattle.law_refinement.proofs.Indexes.{looked_up, merged_run, nothing_live, some_table, some_table_here}
use Rattle.law_refinement.proofs.DoesBefore.{Retires, Stages, retired as retired_by, retires_so, staged, stages_so, unchanged}
use Rattle.law_refinement.proofs.Merges.{merges_here, merges_there, run_here, run_there, same_run}
use Rattle.law_refinement.proofs.Numbers.{IsPast, append_numbers, past, past_too}
use Rattle.law_refinement.proofs.RefusedPuts.{IsOver, no_command, no_section, no_write, of_frame, to_frame, young}
use Rattle.law_refinement.proofs.Shapes.{store_format, store_shape}
use Rattle.law_refinement.specs.Parts.{ArePartsOf}

-- there is a run of an index
some_run : (go : Bool) (index : List Entry) → (ws : List Entry) × IsRunOf go index ws
some_run true index = let all = sorted_live index in (all.0, (all.1, all.2))
some_run false index = let all = sorted index in (all.0, (all.1, all.2))

module _ (x : ExtentsState) (g : GraphState) (i : IndexState) (s : State) (whole : IsWhole x) (are : ArePartsOf x g i s) where
  -- the pages of a run, as the machine has them
  abbrev pages_of : List Entry → List (List ℕ)
  pages_of entries = (formats_of (shape x)).frame RunFrame ((formats_of (shape x)).run entries)

  as_many_pages : (entries : List Entry) → length (run_frame x entries) ≡ length (pages_of entries)
  unfolding run_frame
  as_many_pages entries = refl

  asked : (id : ℕ) → lookup id (index_of i) ≡ lookup id (index_now s)
  asked = looked_up i s.table s.runs are.index

  -- a place in the machine is one here
  placed_here : (reason : Reason) (entries : List Entry) (e : ℕ) → Placed (shape x) s.world.extents reason (length (pages_of entries)) e
      → Placed (shape x) (extents_of x) reason (length (run_frame x entries)) e
  placed_here reason entries e placed = subst (λ (z : Extents). Placed (shape x) z reason (length (run_frame x entries)) e) are.world.extents
      (subst (λ (k : ℕ). Placed (shape x) s.world.extents reason k e) (sym (as_many_pages entries)) placed)

  placed_there : (reason : Reason) (entries : List Entry) (e : ℕ) → Placed (shape x) (extents_of x) reason (length (run_frame x entries)) e
      → Placed (shape x) s.world.extents reason (length (pages_of entries)) e
  placed_there reason entries e placed = subst (λ (k : ℕ). Placed (shape x) s.world.extents reason k e) (as_many_pages entries)
      (subst (λ (z : Extents). Placed (shape x) z reason (length (run_frame x entries)) e) (sym are.world.extents) placed)

  append_run : (reason : Reason) (entries : List Entry) (e : ℕ) → Placed (shape x) (extents_of x) reason (length (run_frame x entries)) e
      → (l : Place) × (v : World) × Append (shape x) s.world reason (pages_of entries) l v
  append_run reason entries e placed = append_there (shape x) s.world reason (pages_of entries) e (placed_there reason entries e placed)

  -- an append of the same run in the machine shows that there is a place
  has_place : (reason : Reason) (es entries : List Entry) (l : Place) (v : World) → es ≡ entries → Append (shape x) s.world reason (pages_of es) l v
      → NoPlace (shape x) (extents_of x) reason (length (run_frame x entries)) → ⊥
  has_place reason es entries l v same a none =
      none a.extent (subst (λ (ys : List Entry). Placed (shape x) (extents_of x) reason (length (run_frame x ys)) a.extent) same (placed_here reason es a.extent a.placed))

  same_merged : (xs ys : List Entry) → IsMergedRun (index_now s) xs → IsMergedRun (index_of i) ys → xs ≡ ys
  same_merged xs ys a b = one_sorted xs ys a.0 b.0 (λ id. a.1 id ∙ ap if_live (sym (asked id)) ∙ sym (b.1 id))

  -- ---- room

  run_full_to : (reason : Reason) → NoRoomForRun (shape x) (formats_of (shape x)) s reason → IsFull (WritesMerged i) x reason
  run_full_to reason none = let all = sorted_live (index_of i) in go all.0 (all.1, all.2)
    where
      go : (ws : List Entry) → IsMergedRun (index_of i) ws → IsFull (WritesMerged i) x reason
      go [] run = absurd (none s [] (s.world, inr ((λ id. ap live (sym (asked id)) ∙ none_live (lookup id (index_of i)) (run.1 id)), refl, refl), refl))
      go (w ∷ ws) run =
          let some : w ∷ ws ≢ [] = (λ is. let e : w ∷ ws ≡ [] = is in cc) in (
            w ∷ ws,
            (run, some),
            λ e placed. let a = append_run reason (w ∷ ws) e placed in
                none (record s { world = a.1 }) (record { place = a.0; entries = w ∷ ws } ∷ [])
                (a.1, inl (w ∷ ws, a.0, some, merged_run (index_of i) (index_now s) asked (w ∷ ws) run, a.2, refl), refl),
          )

  run_full_from : (reason : Reason) → IsFull (WritesMerged i) x reason → NoRoomForRun (shape x) (formats_of (shape x)) s reason
  run_full_from reason (entries, (run, some), none) mid runs (v, inl (es, l, some', run', a, one), same) =
      has_place reason es entries l v (same_merged es entries run' run) a none
  run_full_from reason (entries, (run, some), none) mid runs (v, inr (nothing, w, nil), same) =
      not_both (shape x) (formats_of (shape x)) (store_shape x whole) (store_format x whole) s entries some (merged_run (index_of i) (index_now s) asked entries run) nothing

  pub retire_full : NoRoomForRun (shape x) (formats_of (shape x)) s ForMove ↔ IsRetireFull i x
  retire_full = (run_full_to ForMove, run_full_from ForMove)

  abbrev IsStageFull : Type 0
  IsStageFull = (s.table ≢ []) × (((length s.runs < 4) × NoRoomForTable (shape x) (formats_of (shape x)) s)
      ⊎ ((4 ≤ length s.runs) × NoRoomForRun (shape x) (formats_of (shape x)) s ForRun))

  -- the run of a part goes nowhere
  part_full_to : (go : Bool) (k : ℕ) → ((mid : State) (runs : List Run) → MergesPart (shape x) (formats_of (shape x)) false go s ForRun k mid runs → ⊥) → IsFull (WritesPart go i k) x ForRun
  part_full_to go k none = let all = some_run go (index_part i k) in by all.0 all.1
    where
      by : (ws : List Entry) → IsRunOf go (index_part i k) ws → IsFull (WritesPart go i k) x ForRun
      by [] run = absurd (none s (drop k s.runs) (inr (run_there i s are.index go k [] run, refl, refl)))
      by (w ∷ ws) run =
          let some : w ∷ ws ≢ [] = (λ is. let e : w ∷ ws ≡ [] = is in cc) in (
            w ∷ ws,
            (run, some),
            λ e placed. let a = append_run ForRun (w ∷ ws) e placed in
                none (record s { world = a.1 }) (record { place = a.0; entries = w ∷ ws } ∷ drop k s.runs)
                (inl (w ∷ ws, a.0, some, run_there i s are.index go k (w ∷ ws) run, (a.1, a.2, refl), refl)),
          )

  part_full_from : (go : Bool) (k : ℕ) → IsFull (WritesPart go i k) x ForRun → (mid : State) (runs : List Run) → MergesPart (shape x) (formats_of (shape x)) false go s ForRun k mid runs → ⊥
  part_full_from go k (entries, (run, some), none) mid runs (inl (es, l, some', run', (v, a, same), one)) =
      has_place ForRun es entries l v (same_run i s are.index go k es entries run' run) a none
  part_full_from go k (entries, (run, some), none) mid runs (inr (run', same, left)) = some (sym (same_run i s are.index go k [] entries run' run))

  -- so much of the index is merged by a Stage
  abbrev takes : ℕ
  takes = index_takes (shape x) i

  abbrev goes : Bool
  goes = index_deletions_go (shape x) i takes

  no_room_to : (s.table ≢ []) × NoRoomToStage (shape x) (formats_of (shape x)) s → IsFull (WritesRun (shape x) i) x ForRun
  no_room_to (some, none) =
      let full = part_full_to goes takes (λ mid runs m. none mid runs (merges_there (shape x) i s are.index (formats_of (shape x)) mid runs m)) in
      (full.0, (some_table_here i s.table s.runs are.index some, full.1), full.2)

  no_room_from : IsFull (WritesRun (shape x) i) x ForRun → (s.table ≢ []) × NoRoomToStage (shape x) (formats_of (shape x)) s
  no_room_from (entries, (some, writes), none) = (
    some_table i s.table s.runs are.index some,
    λ mid runs m. part_full_from goes takes (entries, writes, none) mid runs (merges_here (shape x) i s are.index (formats_of (shape x)) mid runs m),
  )

  -- the machine's ground is that
  pub no_room_to_stage : ((s.table ≢ []) × NoRoomToStage (shape x) (formats_of (shape x)) s) ↔ IsFull (WritesRun (shape x) i) x ForRun
  no_room_to_stage = (no_room_to, no_room_from)

  -- where a Stage doesn't merge by size in two branches
  pub stage_full : (shape x).apart ≡ false → (shape x).by_size ≡ false → IsStageFull ↔ IsFull (WritesRun (shape x) i) x ForRun
  stage_full together before = (
    (λ full. no_room_to (full.0, (full_as_before (shape x) (formats_of (shape x)) s before together full.0).1 full.1)),
    (λ full. let none = no_room_from full in (none.0, (full_as_before (shape x) (formats_of (shape x)) s before together none.0).0 none.1)),
  )

  -- ---- numbers

  module _ (sound : Sound (shape x) (formats_of (shape x)) s) (bounded : Bounded (shape x) (formats_of (shape x)) s) where
    root_worn : 2 ^ 63 ≤ s.world.root + 1 → IsRootWorn g.staging
    root_worn over = let same : s.world.root ≡ slice_index g.staging.latest root_family = are.world.staging.root in omega arith

    root_worn_back : IsRootWorn g.staging → 2 ^ 63 ≤ s.world.root + 1
    root_worn_back over = let same : s.world.root ≡ slice_index g.staging.latest root_family = are.world.staging.root in omega arith

    -- the root's number, or one of a run's writes or of the section of the extent that the run goes to
    abbrev IsRunWorn : Reason → List Entry → Type 0
    IsRunWorn reason entries = IsRootWorn g.staging ⊎ IsFrameWornBy false x reason g.staging (length (run_frame x entries))

    -- what a run that goes to e and its root take past the greatest
    run_worn : (Writes : List Entry → Type 0) (reason : Reason) (entries : List Entry) (e : ℕ) → Writes entries
        → Placed (shape x) (extents_of x) reason (length (run_frame x entries)) e
        → IsOver x g i s whole are sound bounded e (length (pages_of entries)) 1 0 → IsStageWorn Writes x reason g.staging
    run_worn Writes reason entries e writes placed (inl over) =
        inr (entries, writes, (e, placed, subst (λ (k : ℕ). IsWorn g.staging ((shape x).section e) k) (sym (as_many_pages entries)) over))
    run_worn Writes reason entries e writes placed (inr (inl over)) = inl (root_worn over)
    run_worn Writes reason entries e writes placed (inr (inr over)) = absurd (no_command x s sound bounded over)

    run_worn_back : (reason : Reason) (entries : List Entry) (e : ℕ) → Placed (shape x) (extents_of x) reason (length (run_frame x entries)) e
        → IsRunWorn reason entries → IsOver x g i s whole are sound bounded e (length (pages_of entries)) 1 0
    run_worn_back reason entries e placed (inl root) = inr (inl (root_worn_back root))
    run_worn_back reason entries e placed (inr (d, there, over)) = inl (subst (λ (k : ℕ). IsWorn g.staging ((shape x).section e) k) (as_many_pages entries)
        (subst (λ (k : ℕ). IsWorn g.staging ((shape x).section k) (length (run_frame x entries)))
        (placed_one (shape x) (extents_of x) reason (length (run_frame x entries)) d e there placed) over))

    -- a root alone
    root_alone : (Writes : List Entry → Type 0) (reason : Reason) → IsPast (shape x) s 0 (λ j. 0) 1 0 → IsStageWorn Writes x reason g.staging
    root_alone Writes reason (inl over) = absurd (no_write x s sound bounded over)
    root_alone Writes reason (inr (inl (j, there, over))) = absurd (no_section x s sound bounded j there over)
    root_alone Writes reason (inr (inr (inl over))) = inl (root_worn over)
    root_alone Writes reason (inr (inr (inr over))) = absurd (no_command x s sound bounded over)

    -- a state after a run was appended, and the root over these runs was staged
    abbrev after_root : World → List Run → (ℕ → ℕ) → State
    after_root v runs pointers = rooted (shape x) (formats_of (shape x)) (record s { world = v }) runs pointers

    module _ (reason : Reason) (entries : List Entry) (l : Place) (v : World) (a : Append (shape x) s.world reason (pages_of entries) l v) where
      placed_at : Placed (shape x) (extents_of x) reason (length (run_frame x entries)) a.extent
      placed_at = placed_here reason entries a.extent a.placed

      numbers : (v.written ≡ s.world.written + length (pages_of entries)) × ((j : ℕ) → v.superblocks j ≡ s.world.superblocks j + in_section (shape x) j (a.extent ∷ []))
          × (v.root ≡ s.world.root)
      numbers = append_numbers (shape x) (store_shape x whole) s.world v reason (pages_of entries) l a

      next_root : suc v.root ≡ s.world.root + 1
      next_root = let same : v.root ≡ s.world.root = numbers.2 in omega arith

      run_young : (e : ℕ) → v.extents.generation e ≤ (shape x).greatest_generation
      run_young e = le_trans
          (le_of_eq (ap (λ (f : ℕ → ℕ). f e)
          (frame_generations (shape x) (formats_of (shape x)) (store_shape x whole) (store_format x whole) s (record s { world = v }) reason RunFrame ((formats_of (shape x)).run entries) l (v, a, refl))))
          (young x s sound bounded e)

    same_commands : s.count + length s.commands ≡ s.count + length s.commands + 0
    same_commands = omega arith

    none_more : (n : ℕ) → n ≡ n + 0
    none_more n = omega arith

    -- a run and its root are past the greatest exactly where one of their numbers is
    run_past : (Writes : List Entry → Type 0) (reason : Reason) (entries : List Entry) (l : Place) (v : World) (runs : List Run) (pointers : ℕ → ℕ)
        → Append (shape x) s.world reason (pages_of entries) l v → Writes entries
        → PastLimit (shape x) (formats_of (shape x)) (after_root v runs pointers) → IsStageWorn Writes x reason g.staging
    run_past Writes reason entries l v runs pointers a writes over = run_worn Writes reason entries a.extent writes (placed_at reason entries l v a)
        (of_frame x g i s whole are sound bounded a.extent (length (pages_of entries)) 1 0
        (past x (formats_of (shape x)) s (after_root v runs pointers) (length (pages_of entries)) (λ j. in_section (shape x) j (a.extent ∷ [])) 1 0
        (numbers reason entries l v a).0 (numbers reason entries l v a).1 (next_root reason entries l v a) same_commands (run_young reason entries l v a) over))

    run_past_back : (reason : Reason) (entries : List Entry) (l : Place) (v : World) (runs : List Run) (pointers : ℕ → ℕ)
        → Append (shape x) s.world reason (pages_of entries) l v → IsRunWorn reason entries
        → PastLimit (shape x) (formats_of (shape x)) (after_root v runs pointers)
    run_past_back reason entries l v runs pointers a worn =
        past_too x (formats_of (shape x)) s (after_root v runs pointers) (length (pages_of entries)) (λ j. in_section (shape x) j (a.extent ∷ [])) 1 0
        (numbers reason entries l v a).0 (numbers reason entries l v a).1 (next_root reason entries l v a) same_commands
        (to_frame x g i s whole are sound bounded a.extent (length (pages_of entries)) 1 0 (run_worn_back reason entries a.extent (placed_at reason entries l v a) worn))

    root_next : s.world.root + 1 ≡ suc s.world.root
    root_next = omega arith

    -- what all that is live takes past the greatest as a run, with the root over it
    merge_past : (reason : Reason) (v : World) (runs : List Run) (pointers : ℕ → ℕ)
        → MergesTo (shape x) (formats_of (shape x)) s.world (index_now s) reason v runs
        → PastLimit (shape x) (formats_of (shape x)) (after_root v runs pointers) → IsStageWorn (WritesMerged i) x reason g.staging
    merge_past reason v runs pointers (inl (entries, l, some, run, a, one)) over =
        run_past (WritesMerged i) reason entries l v runs pointers a (merged_run (index_now s) (index_of i) (λ id. sym (asked id)) entries run, some) over
    merge_past reason v runs pointers (inr (nothing, same, nil)) over = root_alone (WritesMerged i) reason
        (past x (formats_of (shape x)) s (after_root s.world runs pointers) 0 (λ j. 0) 1 0 (omega arith) (λ j. none_more (s.world.superblocks j)) (sym root_next) same_commands (young x s sound bounded)
        (subst (λ (w : World). PastLimit (shape x) (formats_of (shape x)) (after_root w runs pointers)) same over))

    merge_past_back : (reason : Reason) (v : World) (runs : List Run) (pointers : ℕ → ℕ)
        → MergesTo (shape x) (formats_of (shape x)) s.world (index_now s) reason v runs
        → IsStageWorn (WritesMerged i) x reason g.staging → PastLimit (shape x) (formats_of (shape x)) (after_root v runs pointers)
    merge_past_back reason v runs pointers (inl (entries, l, some, run, a, one)) (inl root) = run_past_back reason entries l v runs pointers a (inl root)
    merge_past_back reason v runs pointers (inl (entries, l, some, run, a, one)) (inr (es, (run', some'), worn)) = run_past_back reason entries l v runs pointers a
        (inr (subst (λ (ys : List Entry). IsFrameWornBy false x reason g.staging (length (run_frame x ys))) (sym (same_merged entries es run run')) worn))
    merge_past_back reason v runs pointers (inr (nothing, same, nil)) (inl root) = subst (λ (w : World). PastLimit (shape x) (formats_of (shape x)) (after_root w runs pointers)) (sym same)
        (past_too x (formats_of (shape x)) s (after_root s.world runs pointers) 0 (λ j. 0) 1 0 (omega arith) (λ j. none_more (s.world.superblocks j)) (sym root_next) same_commands (inr (inr (inl (root_worn_back root)))))
    merge_past_back reason v runs pointers (inr (nothing, same, nil)) (inr (es, (run, some), worn)) =
        absurd (not_both (shape x) (formats_of (shape x)) (store_shape x whole) (store_format x whole) s es some (merged_run (index_of i) (index_now s) asked es run) nothing)

    -- ---- stages

    -- what a part takes past the greatest as a run, with the root over it and the older runs
    part_past : (go : Bool) (k : ℕ) (mid : State) (runs : List Run) → MergesPart (shape x) (formats_of (shape x)) false go s ForRun k mid runs
        → PastLimit (shape x) (formats_of (shape x)) (rooted (shape x) (formats_of (shape x)) mid runs mid.world.extents.pointer) → IsStageWorn (WritesPart go i k) x ForRun g.staging
    part_past go k mid runs (inl (entries, l, some, run, (w, a, same), one)) over =
        run_past (WritesPart go i k) ForRun entries l w runs w.extents.pointer a (run_here i s are.index go k entries run, some)
        (subst (λ (u : State). PastLimit (shape x) (formats_of (shape x)) u) (ap (λ (m : State). rooted (shape x) (formats_of (shape x)) m runs m.world.extents.pointer) same) over)
    part_past go k mid runs (inr (run, same, left)) over = root_alone (WritesPart go i k) ForRun
        (past x (formats_of (shape x)) s (after_root s.world runs s.world.extents.pointer) 0 (λ j. 0) 1 0 (omega arith) (λ j. none_more (s.world.superblocks j)) (sym root_next) same_commands (young x s sound bounded)
        (subst (λ (u : State). PastLimit (shape x) (formats_of (shape x)) u) (ap (λ (m : State). rooted (shape x) (formats_of (shape x)) m runs m.world.extents.pointer) same) over))

    worn_run : (go : Bool) (k : ℕ) (entries : List Entry) → IsRunOf go (part s k) entries → IsStageWorn (WritesPart go i k) x ForRun g.staging → IsRunWorn ForRun entries
    worn_run go k entries run (inl root) = inl root
    worn_run go k entries run (inr (es, (run', some'), over)) =
        inr (subst (λ (ys : List Entry). IsFrameWornBy false x ForRun g.staging (length (run_frame x ys))) (sym (same_run i s are.index go k entries es run run')) over)

    part_past_back : (go : Bool) (k : ℕ) (mid : State) (runs : List Run) → MergesPart (shape x) (formats_of (shape x)) false go s ForRun k mid runs
        → IsStageWorn (WritesPart go i k) x ForRun g.staging → PastLimit (shape x) (formats_of (shape x)) (rooted (shape x) (formats_of (shape x)) mid runs mid.world.extents.pointer)
    part_past_back go k mid runs (inl (entries, l, some, run, (w, a, same), one)) worn =
        subst (λ (u : State). PastLimit (shape x) (formats_of (shape x)) u) (sym (ap (λ (m : State). rooted (shape x) (formats_of (shape x)) m runs m.world.extents.pointer) same))
        (run_past_back ForRun entries l w runs w.extents.pointer a (worn_run go k entries run worn))
    part_past_back go k mid runs (inr (run, same, left)) (inl root) =
        subst (λ (u : State). PastLimit (shape x) (formats_of (shape x)) u) (sym (ap (λ (m : State). rooted (shape x) (formats_of (shape x)) m runs m.world.extents.pointer) same))
        (past_too x (formats_of (shape x)) s (after_root s.world runs s.world.extents.pointer) 0 (λ j. 0) 1 0 (omega arith) (λ j. none_more (s.world.superblocks j)) (sym root_next) same_commands (inr (inr (inl (root_worn_back root)))))
    part_past_back go k mid runs (inr (run, same, left)) (inr (es, (run', some'), over)) = absurd (some' (sym (same_run i s are.index go k [] es run run')))

    -- where the table isn't empty, a Stage writes the run of the part
    worn_to : i.table ≢ [] → IsStageWorn (WritesPart goes i takes) x ForRun g.staging → IsStageWorn (WritesRun (shape x) i) x ForRun g.staging
    worn_to some (inl root) = inl root
    worn_to some (inr (entries, writes, over)) = inr (entries, (some, writes), over)

    worn_from : IsStageWorn (WritesRun (shape x) i) x ForRun g.staging → IsStageWorn (WritesPart goes i takes) x ForRun g.staging
    worn_from (inl root) = inl root
    worn_from (inr (entries, (some, writes), over)) = inr (entries, writes, over)

    staged_past : (t : State) (v : ℕ) → Stages (shape x) (formats_of (shape x)) s t v → PastLimit (shape x) (formats_of (shape x)) t
        → (i.table ≢ []) × IsStageWorn (WritesRun (shape x) i) x ForRun g.staging
    staged_past t v (some, version, mid, runs, merges, is) over =
        let some_here : i.table ≢ [] = some_table_here i s.table s.runs are.index some in (
          some_here,
          worn_to some_here (part_past goes takes mid runs (merges_here (shape x) i s are.index (formats_of (shape x)) mid runs merges)
              (subst (λ (u : State). PastLimit (shape x) (formats_of (shape x)) u) is over)),
        )

    stage_past : (shape x).apart ≡ false → (reply : Reply) (t : State) → Does (shape x) (formats_of (shape x)) s Stage reply t → PastLimit (shape x) (formats_of (shape x)) t
        → (i.table ≢ []) × IsStageWorn (WritesRun (shape x) i) x ForRun g.staging
    stage_past together Unchanged t does over =
        absurd (not_past (shape x) (formats_of (shape x)) s sound bounded
        (subst (λ (u : State). PastLimit (shape x) (formats_of (shape x)) u) (unchanged (shape x) (formats_of (shape x)) together s t does).1 over))
    stage_past together (Staged v) t does over = staged_past t v (staged (shape x) (formats_of (shape x)) together s t v does) over
    stage_past together reply t d over = absurd d

    stage_past_back : (shape x).apart ≡ false → ¬ IsFull (WritesRun (shape x) i) x ForRun → i.table ≢ [] → IsStageWorn (WritesRun (shape x) i) x ForRun g.staging → WouldPass (shape x) (formats_of (shape x)) s Stage
    stage_past_back together room some worn = ⊎_elim
        (λ (found : (t : State) × (runs : List Run) × MergesNewest (shape x) (formats_of (shape x)) s ForRun (stage_takes (shape x) s) t runs).
        let after : State = rooted (shape x) (formats_of (shape x)) found.0 found.1 found.0.world.extents.pointer in (
          Staged (suc s.world.root),
          after,
          stages_so (shape x) (formats_of (shape x)) together s after (suc s.world.root) (some_table i s.table s.runs are.index some, refl, found.0, found.1, found.2, refl),
          part_past_back goes takes found.0 found.1 (merges_here (shape x) i s are.index (formats_of (shape x)) found.0 found.1 found.2) (worn_from worn),
        ))
        (λ (none : NoRoomToStage (shape x) (formats_of (shape x)) s). absurd (room (no_room_to (some_table i s.table s.runs are.index some, none))))
        (part_or_full (shape x) (formats_of (shape x)) (store_shape x whole) (store_format x whole) false s ForRun (stage_takes (shape x) s) (deletions_go (shape x) s (stage_takes (shape x) s)))

    pub stage_worn : (shape x).apart ≡ false → ¬ IsFull (WritesRun (shape x) i) x ForRun → WouldPass (shape x) (formats_of (shape x)) s Stage ↔ ((i.table ≢ []) × IsStageWorn (WritesRun (shape x) i) x ForRun g.staging)
    stage_worn together room = ((λ would. stage_past together would.0 would.1 would.2 would.3), (λ both. stage_past_back together room both.0 both.1))

    -- ---- retires

    module _ (e : ℕ) (v : World) (runs : List Run) (merges : MergesTo (shape x) (formats_of (shape x)) s.world (index_now s) ForMove v runs) where
      generations : v.extents.generation ≡ s.world.extents.generation
      generations = merged_generations (shape x) (formats_of (shape x)) (store_shape x whole) (store_format x whole) s (record s { world = v }) ForMove runs (v, merges, refl)

      abbrev after_retire : State
      after_retire = retired (shape x) (formats_of (shape x)) (record s { world = v }) runs e

      abbrev before_reset : State
      before_reset = after_root v runs (λ d. if d == e then 0 else v.extents.pointer d)

      -- the reset takes no number past its greatest but the generation of its extent
      of_reset : PastLimit (shape x) (formats_of (shape x)) after_retire
          → PastLimit (shape x) (formats_of (shape x)) before_reset ⊎ ((extents_of x).generation e ≡ (shape x).greatest_generation)
      of_reset (inl (inl over)) = inl (inl (inl over))
      of_reset (inl (inr (inl over))) = inl (inl (inr (inl over)))
      of_reset (inl (inr (inr (inl over)))) = inl (inl (inr (inr (inl over))))
      of_reset (inr over) = inl (inr over)
      of_reset (inl (inr (inr (inr (d, over))))) = elim (cases_eq d e) [
        | inl is ↦ inr (
            let top : 4294967295 < suc (v.extents.generation e) = subst (λ (k : ℕ). 4294967295 < k) (with_same v.extents.generation e (suc (v.extents.generation e)) d is) over in
            let low : s.world.extents.generation e ≤ 4294967295 = young x s sound bounded e in
            let same : v.extents.generation e ≡ s.world.extents.generation e = ap (λ (f : ℕ → ℕ). f e) generations in
            let here : s.world.extents.generation e ≡ (extents_of x).generation e = ap (λ (z : Extents). z.generation e) are.world.extents in
            omega arith
            )
        | inr not ↦ inl (inl (inr (inr (inr (d, subst (λ (k : ℕ). 4294967295 < k) (with_other v.extents.generation e (suc (v.extents.generation e)) d not) over)))))
      ]

      retire_past : PastLimit (shape x) (formats_of (shape x)) after_retire → IsRetireWorn i x g.staging e
      retire_past over = ⊎_elim
          (λ (before : PastLimit (shape x) (formats_of (shape x)) before_reset). inl (merge_past ForMove v runs (λ d. if d == e then 0 else v.extents.pointer d) merges before))
          (λ (top : (extents_of x).generation e ≡ (shape x).greatest_generation). inr top)
          (of_reset over)

      -- what was past its greatest before the reset is still
      still_past : PastLimit (shape x) (formats_of (shape x)) before_reset → PastLimit (shape x) (formats_of (shape x)) after_retire
      still_past (inl (inl over)) = inl (inl over)
      still_past (inl (inr (inl over))) = inl (inr (inl over))
      still_past (inl (inr (inr (inl over)))) = inl (inr (inr (inl over)))
      still_past (inr over) = inr over
      still_past (inl (inr (inr (inr (d, over))))) = inl (inr (inr (inr (
        d,
        elim (cases_eq d e) [
          | inl is ↦ subst (λ (k : ℕ). 4294967295 < k) (sym (with_same v.extents.generation e (suc (v.extents.generation e)) d is))
              (let at : 4294967295 < v.extents.generation e = subst (λ (k : ℕ). 4294967295 < v.extents.generation k) is over in omega arith)
          | inr not ↦ subst (λ (k : ℕ). 4294967295 < k) (sym (with_other v.extents.generation e (suc (v.extents.generation e)) d not)) over
        ],
      ))))

      retire_past_back : IsRetireWorn i x g.staging e → PastLimit (shape x) (formats_of (shape x)) after_retire
      retire_past_back (inl worn) = still_past (merge_past_back ForMove v runs (λ d. if d == e then 0 else v.extents.pointer d) merges worn)
      retire_past_back (inr top) = inl (inr (inr (inr (
        e,
        subst (λ (k : ℕ). 4294967295 < k) (sym (with_same v.extents.generation e (suc (v.extents.generation e)) e refl)) (
            let is : (extents_of x).generation e ≡ 4294967295 = top in
            let same : v.extents.generation e ≡ s.world.extents.generation e = ap (λ (f : ℕ → ℕ). f e) generations in
            let here : s.world.extents.generation e ≡ (extents_of x).generation e = ap (λ (z : Extents). z.generation e) are.world.extents in
            omega arith
            ),
      ))))

    retired_past : (e v : ℕ) (t : State) → Retires (shape x) (formats_of (shape x)) s t e v → PastLimit (shape x) (formats_of (shape x)) t → IsRetireWorn i x g.staging e
    retired_past e v t (swept, nothing, version, mid, runs, (w, merges, same), is) over = retire_past e w runs merges
        (subst (λ (u : State). PastLimit (shape x) (formats_of (shape x)) u) (is ∙ ap (λ (m : State). retired (shape x) (formats_of (shape x)) m runs e) same) over)

    retire_would : (shape x).apart ≡ false → (e : ℕ) (reply : Reply) (t : State) → Does (shape x) (formats_of (shape x)) s (Retire e) reply t → PastLimit (shape x) (formats_of (shape x)) t → IsRetireWorn i x g.staging e
    retire_would together e (Retired v) t does over = retired_past e v t (retired_by (shape x) (formats_of (shape x)) together s t e v does) over
    retire_would together e reply t d over = absurd d

    pub retire_worn : (shape x).apart ≡ false → (e : ℕ) → s.world.extents.swept e ≡ true → NothingLive (index_of i) e → ¬ IsRetireFull i x
        → WouldPass (shape x) (formats_of (shape x)) s (Retire e) ↔ IsRetireWorn i x g.staging e
    retire_worn together e swept nothing room = (
      (λ would. retire_would together e would.0 would.1 would.2 would.3),
      (λ worn. ⊎_elim
          (λ (found : (t : State) × (runs : List Run) × Merged (shape x) (formats_of (shape x)) s ForMove t runs). (
            Retired (suc s.world.root),
            after_retire e found.2.0 found.1 found.2.1,
            retires_so (shape x) (formats_of (shape x)) together s (after_retire e found.2.0 found.1 found.2.1) e (suc s.world.root)
                (swept, nothing_live (index_of i) (index_now s) asked e nothing, refl, record s { world = found.2.0 }, found.1, (found.2.0, found.2.1, refl), refl),
            retire_past_back e found.2.0 found.1 found.2.1 worn,
          ))
          (λ (none : NoRoomForRun (shape x) (formats_of (shape x)) s ForMove). absurd (room (run_full_to ForMove none)))
          (merged_or_full (shape x) (formats_of (shape x)) (store_shape x whole) (store_format x whole) s ForMove)),
    )
