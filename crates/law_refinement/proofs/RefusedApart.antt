-- Why a Stage, a Retire and a MoveOne are refused where chunks and runs lie apart.
use Rattle.std.proofs.Common.{◌≡◌, ◌⊎◌, ◌↔◌, inl, inr, ⊎_elim, ℕ, suc, ◌+◌, ◌^◌, ◌≤◌, Bool, true, List, [], ◌∷◌, length, refl, sym, ap, ◌∙◌, subst, arith}
use Rattle.std.specs.Prelude.{slice_index}
use Rattle.cs_deps.specs.State.{State as GraphState}
use Rattle.cs_extent.specs.Frames.{IsWorn, root_family}
use Rattle.cs_extent.specs.State.{State as ExtentsState, extents_of, shape}
use Rattle.cs_extent.specs.Worn.{IsFrameWornBy, in_section}
use Rattle.cs_frame.proofs.FormatLaws.{is_format}
use Rattle.cs_frame.specs.Formats.{formats_of}
use Rattle.cs_frame.specs.Geometries.{IsGeometry}
use Rattle.cs_index.specs.Apart.{IsFullApart, IsRunWornApart, IsStageFullApart, IsStageWornApart, WritesNewest, takes_apart}
use Rattle.cs_index.specs.Merges.{deletions_go as index_deletions_go}
use Rattle.cs_index.specs.Staged.{IsRootWorn, WritesPart, run_frame}
use Rattle.cs_index.specs.State.{State as IndexState}
use Rattle.law_machine.proofs.AnsweredStages.{stages_or_full, stages_young}
use Rattle.law_machine.proofs.Sorted.{one_sorted}
use Rattle.law_machine.specs.Apart.{MergesApart, StagesApart, rooted_apart, takes}
use Rattle.law_machine.specs.Append.{AppendBy}
use Rattle.law_machine.specs.Device.{IsShape, Shape}
use Rattle.law_machine.specs.Element.{Entry, Locator as Place, Run}
use Rattle.law_machine.specs.Extents.{ForMerge, ForRun, GoesApart, Purpose as Reason}
use Rattle.law_machine.specs.Formats.{Formats}
use Rattle.law_machine.specs.Frames.{IsFormat}
use Rattle.law_machine.specs.Grounds.{NoRoomApart, PastLimit}
use Rattle.law_machine.specs.Machine.{World}
use Rattle.law_machine.specs.Merges.{MergesPart, deletions_go}
use Rattle.law_machine.specs.State.{State}
use Rattle.law_machine.proofs.Places.{goes_one}
use Rattle.law_refinement.specs.Parts.{ArePartsOf}
use Rattle.law_refinement.proofs.Fitting as fitting
use Rattle.law_refinement.proofs.FullApart.{as_many_pages, goes_here, pages_of, part_full_from, part_full_to}
use Rattle.law_refinement.proofs.Merges.{run_here, same_run}
use Rattle.law_refinement.proofs.Numbers.{IsPast, append_numbers_by, past, past_too}
use Rattle.law_refinement.proofs.Shapes.{shape_of_store}
use Rattle.law_refinement.proofs.StagesApart.{merges_back, merges_so, same_takes_apart}

none_more : (n : ℕ) → n ≡ n + 0
none_more n = omega arith

module _ (x : ExtentsState) (g : GraphState) (i : IndexState) (s : State) (are : ArePartsOf x g i s) where
  abbrev S : Shape
  S = shape x

  abbrev F : Formats
  F = formats_of (shape x)

  -- so many of the newest runs does a Stage merge, and so many are there
  abbrev few : ℕ
  few = takes_apart S i

  abbrev all : ℕ
  all = length i.runs

  newest : (mid : State) (runs : List Run) → MergesPart S F true (index_deletions_go S i few) s ForRun few mid runs → MergesApart S F s mid runs
  newest mid runs m = inl (merges_so S i s are.index F ForRun few (takes S s) (same_takes_apart S i s are.index) mid runs m)

  newest_back : (mid : State) (runs : List Run) → MergesPart S F true (deletions_go S s (takes S s)) s ForRun (takes S s) mid runs
      → MergesPart S F true (index_deletions_go S i few) s ForRun few mid runs
  newest_back mid runs m = merges_back S i s are.index F ForRun few (takes S s) (same_takes_apart S i s are.index) mid runs m

  as_many : all ≡ length s.runs
  as_many = ap (λ (rs : List Run). length rs) are.index.same_runs

  all_back : (mid : State) (runs : List Run) → MergesPart S F true (deletions_go S s (length s.runs)) s ForMerge (length s.runs) mid runs
      → MergesPart S F true (index_deletions_go S i all) s ForMerge all mid runs
  all_back mid runs m = merges_back S i s are.index F ForMerge all (length s.runs) as_many mid runs m

  -- ---- room

  full_to : NoRoomApart S F s → IsStageFullApart i x
  full_to none =
      let first : IsFullApart (WritesNewest S i few) x ForRun = part_full_to x g i s are (index_deletions_go S i few) ForRun few
      (λ mid runs m. none (rooted_apart S F mid runs) (mid, runs, newest mid runs m, refl)) in (
        first,
        part_full_to x g i s are (index_deletions_go S i all) ForMerge all
            (λ mid runs m. none (rooted_apart S F mid runs) (
              mid,
              runs,
              inr (
                (λ u others n. part_full_from x g i s are (index_deletions_go S i few) ForRun few first u others (newest_back u others n)),
                merges_so S i s are.index F ForMerge all (length s.runs) as_many mid runs m,
              ),
              refl,
            )),
      )

  full_from : IsStageFullApart i x → NoRoomApart S F s
  full_from full t (mid, runs, inl m, is) = part_full_from x g i s are (index_deletions_go S i few) ForRun few full.0 mid runs (newest_back mid runs m)
  full_from full t (mid, runs, inr m, is) = part_full_from x g i s are (index_deletions_go S i all) ForMerge all full.1 mid runs (all_back mid runs m.1)

  pub stage_full : NoRoomApart S F s ↔ IsStageFullApart i x
  stage_full = (full_to, full_from)

  -- ---- numbers

  module _ (geometry : IsGeometry x.format (length x.written) x.pages x.sections) (fits : PastLimit (shape x) (formats_of (shape x)) s → ⊥) where
    store : IsShape S
    store = shape_of_store x geometry

    format : IsFormat S F
    format = is_format x.format (length x.written) x.pages x.sections geometry

    root_worn : 2 ^ 63 ≤ s.world.root + 1 → IsRootWorn g.staging
    root_worn over = let same : s.world.root ≡ slice_index g.staging.latest root_family = are.world.staging.root in omega arith

    root_worn_back : IsRootWorn g.staging → 2 ^ 63 ≤ s.world.root + 1
    root_worn_back over = let same : s.world.root ≡ slice_index g.staging.latest root_family = are.world.staging.root in omega arith

    same_commands : s.count + length s.commands ≡ s.count + length s.commands + 0
    same_commands = omega arith

    -- a state whose numbers are those of this world, with one root more
    record IsAfter (v : World) (t : State) : Type 0 where
      written : t.world.written ≡ v.written
      superblocks : t.world.superblocks ≡ v.superblocks
      root : t.world.root ≡ suc v.root
      commands : t.count + length t.commands ≡ s.count + length s.commands
      young : (e : ℕ) → t.world.extents.generation e ≤ S.greatest_generation

    -- what a run and its root take past the greatest
    module _ (reason : Reason) (entries : List Entry) (l : Place) (v : World) (a : AppendBy S true s.world reason (pages_of x g i s are entries) l v) (t : State) (after : IsAfter v t) where
      goes_at : GoesApart S (extents_of x) reason (length (run_frame x entries)) a.extent
      goes_at = goes_here x g i s are reason entries a.extent a.placed

      abbrev n : ℕ
      n = length (pages_of x g i s are entries)

      numbers : (v.written ≡ s.world.written + length (pages_of x g i s are entries)) × ((j : ℕ) → v.superblocks j ≡ s.world.superblocks j + in_section S j (a.extent ∷ []))
          × (v.root ≡ s.world.root)
      numbers = append_numbers_by S store true s.world v reason (pages_of x g i s are entries) l a

      written : t.world.written ≡ s.world.written + n
      written = after.written ∙ numbers.0

      superblocks : (j : ℕ) → t.world.superblocks j ≡ s.world.superblocks j + in_section S j (a.extent ∷ [])
      superblocks j = ap (λ (f : ℕ → ℕ). f j) after.superblocks ∙ numbers.1 j

      next_root : t.world.root ≡ s.world.root + 1
      next_root = let same : v.root ≡ s.world.root = numbers.2 in let next : t.world.root ≡ suc v.root = after.root in omega arith

      commands_stay : t.count + length t.commands ≡ s.count + length s.commands + 0
      commands_stay = after.commands ∙ same_commands

      run_past : PastLimit S F t → IsRootWorn g.staging ⊎ IsFrameWornBy true x reason g.staging (length (run_frame x entries))
      run_past over = is (fitting.of_frame x s fits g are.world a.extent n 1 0
          (past x F s t n (λ j. in_section S j (a.extent ∷ [])) 1 0 written superblocks next_root commands_stay after.young over))
        where
          is : fitting.IsOver x s fits g are.world a.extent (length (pages_of x g i s are entries)) 1 0
              → IsRootWorn g.staging ⊎ IsFrameWornBy true x reason g.staging (length (run_frame x entries))
          is (inl over) = inr (a.extent, goes_at, subst (λ (k : ℕ). IsWorn g.staging (S.section a.extent) k) (sym (as_many_pages x g i s are entries)) over)
          is (inr (inl over)) = inl (root_worn over)
          is (inr (inr over)) = absurd (fitting.no_command x s fits over)

      run_past_back : IsRootWorn g.staging ⊎ IsFrameWornBy true x reason g.staging (length (run_frame x entries)) → PastLimit S F t
      run_past_back worn = past_too x F s t n (λ j. in_section S j (a.extent ∷ [])) 1 0 written superblocks next_root commands_stay
          (fitting.to_frame x s fits g are.world a.extent n 1 0 geometry (is worn))
        where
          is : IsRootWorn g.staging ⊎ IsFrameWornBy true x reason g.staging (length (run_frame x entries))
              → fitting.IsOver x s fits g are.world a.extent (length (pages_of x g i s are entries)) 1 0
          is (inl root) = inr (inl (root_worn_back root))
          is (inr (d, goes, over)) = inl (subst (λ (k : ℕ). IsWorn g.staging (S.section a.extent) k) (as_many_pages x g i s are entries)
              (subst (λ (k : ℕ). IsWorn g.staging (S.section k) (length (run_frame x entries)))
              (goes_one S true (extents_of x) reason (length (run_frame x entries)) d a.extent goes goes_at) over))

    -- a root alone
    module _ (t : State) (after : IsAfter s.world t) where
      written_stays : t.world.written ≡ s.world.written + 0
      written_stays = after.written ∙ none_more s.world.written

      superblocks_stay : (j : ℕ) → t.world.superblocks j ≡ s.world.superblocks j + 0
      superblocks_stay j = ap (λ (f : ℕ → ℕ). f j) after.superblocks ∙ none_more (s.world.superblocks j)

      root_next : t.world.root ≡ s.world.root + 1
      root_next = let next : t.world.root ≡ suc s.world.root = after.root in omega arith

      commands_alone : t.count + length t.commands ≡ s.count + length s.commands + 0
      commands_alone = after.commands ∙ same_commands

      root_past : PastLimit S F t → IsRootWorn g.staging
      root_past over = is (past x F s t 0 (λ j. 0) 1 0 written_stays superblocks_stay root_next commands_alone after.young over)
        where
          is : IsPast S s 0 (λ j. 0) 1 0 → IsRootWorn g.staging
          is (inl over) = absurd (fitting.no_write x s fits over)
          is (inr (inl (j, there, over))) = absurd (fitting.no_section x s fits j there over)
          is (inr (inr (inl over))) = root_worn over
          is (inr (inr (inr over))) = absurd (fitting.no_command x s fits over)

      root_past_back : IsRootWorn g.staging → PastLimit S F t
      root_past_back root = past_too x F s t 0 (λ j. 0) 1 0 written_stays superblocks_stay root_next commands_alone (inr (inr (inl (root_worn_back root))))

    -- a part that becomes a run, with the root over it
    module _ (go : Bool) (reason : Reason) (k : ℕ) (mid : State) (runs : List Run) (t : State) where
      part_past : MergesPart S F true go s reason k mid runs → IsAfter mid.world t → PastLimit S F t
          → IsRootWorn g.staging ⊎ IsRunWornApart (WritesPart go i k) x reason g.staging
      part_past (inl (entries, l, some, run, (w, a, same), one)) after over = ⊎_elim
          (λ (root : IsRootWorn g.staging). inl root)
          (λ (worn : IsFrameWornBy true x reason g.staging (length (run_frame x entries))). inr (entries, (run_here i s are.index go k entries run, some), worn))
          (run_past reason entries l w a t (subst (λ (u : State). IsAfter u.world t) same after) over)
      part_past (inr (run, same, left)) after over = inl (root_past t (subst (λ (u : State). IsAfter u.world t) same after) over)

      part_past_back : MergesPart S F true go s reason k mid runs → IsAfter mid.world t
          → IsRootWorn g.staging ⊎ IsRunWornApart (WritesPart go i k) x reason g.staging → PastLimit S F t
      part_past_back (inl (entries, l, some, run, (w, a, same), one)) after (inl root) =
          run_past_back reason entries l w a t (subst (λ (u : State). IsAfter u.world t) same after) (inl root)
      part_past_back (inl (entries, l, some, run, (w, a, same), one)) after (inr (es, (run', some'), worn)) =
          run_past_back reason entries l w a t (subst (λ (u : State). IsAfter u.world t) same after)
          (inr (subst (λ (ys : List Entry). IsFrameWornBy true x reason g.staging (length (run_frame x ys))) (sym (same_run i s are.index go k entries es run run')) worn))
      part_past_back (inr (run, same, left)) after (inl root) = root_past_back t (subst (λ (u : State). IsAfter u.world t) same after) root
      part_past_back (inr (run, same, left)) after (inr (es, (run', some'), worn)) = absurd (some' (sym (same_run i s are.index go k [] es run run')))

    -- ---- what is merged

    young_after : (t : State) → StagesApart S F s t → (e : ℕ) → t.world.extents.generation e ≤ S.greatest_generation
    young_after t stages e = stages_young S F store format s t (λ d. fitting.young x s fits d) stages e

    -- where a frame has a place the run of a part doesn't go nowhere
    not_full : (go : Bool) (reason : Reason) (k : ℕ) → IsRunWornApart (WritesPart go i k) x reason g.staging → IsFullApart (WritesPart go i k) x reason → ⊥
    not_full go reason k (es, (run, some), (d, goes, over)) (ws, (run', some'), none) =
        none d (subst (λ (ys : List Entry). GoesApart S (extents_of x) reason (length (run_frame x ys)) d)
        (one_sorted es ws run.0 run'.0 (λ id. run.1 id ∙ sym (run'.1 id))) goes)

    -- the numbers after a root that is staged over what is merged
    after_that : (t mid : State) (runs : List Run) → MergesApart S F s mid runs → t ≡ rooted_apart S F mid runs → IsAfter mid.world t
    after_that t mid runs merges is = record {
      written = ap (λ (u : State). u.world.written) is;
      superblocks = ap (λ (u : State). u.world.superblocks) is;
      root = ap (λ (u : State). u.world.root) is;
      commands = ap (λ (u : State). u.count + length u.commands) is ∙ counted merges;
      young = young_after t (mid, runs, merges, is);
    }
      where
        of_part : (go : Bool) (reason : Reason) (k : ℕ) → MergesPart S F true go s reason k mid runs → mid.count + length mid.commands ≡ s.count + length s.commands
        of_part go reason k (inl (entries, l, some, run, (w, a, same), one)) = ap (λ (u : State). u.count + length u.commands) same
        of_part go reason k (inr (run, same, left)) = ap (λ (u : State). u.count + length u.commands) same

        counted : MergesApart S F s mid runs → mid.count + length mid.commands ≡ s.count + length s.commands
        counted (inl m) = of_part (deletions_go S s (takes S s)) ForRun (takes S s) m
        counted (inr m) = of_part (deletions_go S s (length s.runs)) ForMerge (length s.runs) m.1

    pub stage_past : (t : State) → StagesApart S F s t → PastLimit S F t → IsStageWornApart i x g.staging
    stage_past t (mid, runs, inl m, is) over = ⊎_elim
        (λ (root : IsRootWorn g.staging). inl root)
        (λ (worn : IsRunWornApart (WritesNewest S i few) x ForRun g.staging). inr (inl worn))
        (part_past (index_deletions_go S i few) ForRun few mid runs t (newest_back mid runs m) (after_that t mid runs (inl m) is) over)
    stage_past t (mid, runs, inr m, is) over = ⊎_elim
        (λ (root : IsRootWorn g.staging). inl root)
        (λ (worn : IsRunWornApart (WritesNewest S i all) x ForMerge g.staging). inr (inr (
          part_full_to x g i s are (index_deletions_go S i few) ForRun few (λ u others n. m.0 u others
              (merges_so S i s are.index F ForRun few (takes S s) (same_takes_apart S i s are.index) u others n)),
          worn,
        )))
        (part_past (index_deletions_go S i all) ForMerge all mid runs t (all_back mid runs m.1) (after_that t mid runs (inr m) is) over)

    pub stage_past_back : (t : State) → StagesApart S F s t → IsStageWornApart i x g.staging → PastLimit S F t
    stage_past_back t (mid, runs, inl m, is) (inl root) =
        part_past_back (index_deletions_go S i few) ForRun few mid runs t (newest_back mid runs m) (after_that t mid runs (inl m) is) (inl root)
    stage_past_back t (mid, runs, inl m, is) (inr (inl worn)) =
        part_past_back (index_deletions_go S i few) ForRun few mid runs t (newest_back mid runs m) (after_that t mid runs (inl m) is) (inr worn)
    stage_past_back t (mid, runs, inl m, is) (inr (inr (full, worn))) =
        absurd (part_full_from x g i s are (index_deletions_go S i few) ForRun few full mid runs (newest_back mid runs m))
    stage_past_back t (mid, runs, inr m, is) (inl root) =
        part_past_back (index_deletions_go S i all) ForMerge all mid runs t (all_back mid runs m.1) (after_that t mid runs (inr m) is) (inl root)
    stage_past_back t (mid, runs, inr m, is) (inr (inl worn)) = absurd (not_full (index_deletions_go S i few) ForRun few worn
        (part_full_to x g i s are (index_deletions_go S i few) ForRun few (λ u others n. m.0 u others
        (merges_so S i s are.index F ForRun few (takes S s) (same_takes_apart S i s are.index) u others n))))
    stage_past_back t (mid, runs, inr m, is) (inr (inr (full, worn))) =
        part_past_back (index_deletions_go S i all) ForMerge all mid runs t (all_back mid runs m.1) (after_that t mid runs (inr m) is) (inr worn)

    -- where there is room, a root can be staged
    pub stage_there : ¬ IsStageFullApart i x → (t : State) × StagesApart S F s t
    stage_there room = ⊎_elim (λ (found : (t : State) × StagesApart S F s t). found) (λ (none : NoRoomApart S F s). absurd (room (full_to none)))
        (stages_or_full S F store format s)
