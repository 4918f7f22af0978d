-- What the calls of a store's parts do is what the machine's events do.
use Rattle.std.proofs.Common.{◌≡◌, ◌≢◌, inl, inr, ℕ, suc, ◌+◌, ◌<◌, ◌≤◌, Bool, List, [], ◌∷◌, Some, None, drop, length, map, nat_le, false, true, refl, sym, ap, ◌∙◌, subst, arith}
use Rattle.std.proofs.lemmas.Bool.{cases_lt, false_from_ne_true}
use Rattle.cs_deps.specs.State.{State as GraphState}
use Rattle.cs_extent.specs.Appended.{AreAppendedBy}
use Rattle.cs_extent.specs.State.{IsWhole, State as ExtentsState, extents_of, shape}
use Rattle.cs_frame.specs.declared.locators.Locator.{Locator}
use Rattle.cs_frame.specs.Formats.{as_locator, formats_of, place_of}
use Rattle.cs_index.proofs.Cases.{merged_exactly, reached_exactly, table_exactly}
use Rattle.cs_index.specs.Merges.{deletions_go as index_deletions_go, reached, stage_takes as index_takes}
use Rattle.cs_index.specs.Staged.{IsMergeAppended, IsMergeStaged, IsNewestStaged, IsRootStaged, IsTableStaged, run_frame, IsPartAppendedBy, IsPartStagedBy, IsRunAppendedBy}
use Rattle.cs_index.specs.State.{IsSet, State as IndexState, index_of}
use Rattle.law_machine.specs.Append.{Append, AppendsChunksBy, MergesTo, chunk_frames}
use Rattle.law_machine.specs.Device.{Shape}
use Rattle.law_machine.specs.Element.{Entry, Locator as Place, Run}
use Rattle.law_machine.specs.Events.{ArePayloads, Does, ReadsNow, mark, retired, rooted}
use Rattle.law_machine.specs.Extents.{Extents, ForMove, ForPut, ForRun, Purpose as Reason, emptied, forgotten, marked}
use Rattle.law_machine.specs.Formats.{ChunkFrame, RunFrame}
use Rattle.law_machine.specs.Index.{NothingLive, live_at, lookup}
use Rattle.law_machine.specs.Lists.{replaced, with}
use Rattle.law_machine.specs.Merges.{MergesPart}
use Rattle.law_machine.specs.Machine.{StageRoot, World, happens}
use Rattle.law_machine.specs.State.{Abandon, Abandoned, Accepted, BeginSweep, Delete, MoveOne, Moved, Put, Retire, Retired, Stage, Staged, State, Sweeping, index_now, map_now, next_command}
use Rattle.cs_reclaim.specs.Moves.{IsMoved}
use Rattle.cs_reclaim.specs.Retired.{IsRetired}
use Rattle.cs_reclaim.specs.Sweeps.{IsNotSweepable}
use Rattle.law_refinement.specs.Parts.{ArePartsOf, IsIndexOf}
use Rattle.law_refinement.specs.Stores.{IsWorldOf}
use Rattle.law_refinement.proofs.Appending.{after_append}
use Rattle.law_refinement.proofs.DoesBefore.{begins_so, moves_so, retires_so, stages_so}
use Rattle.law_refinement.proofs.Indexes.{after_set, first_live, live_same, looked_up, merged_run, nothing_live, some_table}
use Rattle.law_refinement.proofs.Keeping.{after_appends, after_mark}
use Rattle.law_refinement.proofs.Merges.{merges_there, run_there}
use Rattle.law_refinement.proofs.Numbers.{append_numbers}
use Rattle.law_refinement.proofs.Resetting.{after_reset}
use Rattle.law_refinement.proofs.RootsOver.{of_same_shape, root_staged_as, root_version}
use Rattle.law_refinement.proofs.Shapes.{some_sections, store_shape}

-- ---- puts and deletes

module _ (x : ExtentsState) (g : GraphState) (i : IndexState) (s : State) (are : ArePartsOf x g i s) where
  pub put : (y : ExtentsState) (h : GraphState) (j : IndexState) (id : ℕ) (bytes : List ℕ) (cs : List (List ℕ)) (ls : List Locator)
      → (shape x).apart ≡ false → IsWhole x → ArePayloads (shape x) (formats_of (shape x)) id (next_command s) bytes cs
      → AreAppendedBy false x g ForPut (chunk_frames (shape x) (formats_of (shape x)) cs) ls y h → IsSet i id (map place_of ls) j
      → (t : State) × Does (shape x) (formats_of (shape x)) s (Put id bytes) (Accepted (suc (length s.commands))) t × ArePartsOf y h j t
  put y h j id bytes cs ls together whole cut all set =
      let done = after_appends x y g h s.world ForPut (chunk_frames (shape x) (formats_of (shape x)) cs) ls whole.geometry are.world all in (
        record s {
          world = done.0;
          table = record { id = id; locators = map place_of ls } ∷ s.table;
          commands = (id, Some bytes) ∷ s.commands;
        },
        (cs, map place_of ls, record s { world = done.0 }, cut, subst (λ (b : Bool). AppendsChunksBy (shape x) (formats_of (shape x)) b s cs (map place_of ls) (record s { world = done.0 })) (sym together) (done.0, done.1, refl), refl, refl),
        record { world = done.2; index = after_set i s.table s.runs are.index id (map place_of ls) j set },
      )

  pub delete : (j : IndexState) (id : ℕ) → map_now s id ≢ None → IsSet i id [] j
      → (t : State) × Does (shape x) (formats_of (shape x)) s (Delete id) (Accepted (suc (length s.commands))) t × ArePartsOf x g j t
  delete j id there set = (
    record s { table = record { id = id; locators = [] } ∷ s.table; commands = (id, None) ∷ s.commands },
    (there, refl, refl),
    record { world = are.world; index = after_set i s.table s.runs are.index id [] j set },
  )

-- ---- runs and roots

run_append : (x y : ExtentsState) (g h : GraphState) (w : World) (reason : Reason) (entries : List Entry) (place : Place)
    → IsWhole x → IsWorldOf x g w → IsRunAppendedBy false x g reason entries place y h
    → (v : World) × Append (shape x) w reason ((formats_of (shape x)).frame RunFrame ((formats_of (shape x)).run entries)) place v × IsWorldOf y h v
unfolding run_frame
run_append x y g h w reason entries place whole is a =
    after_append x g w whole.geometry is reason (run_frame x entries) (as_locator place) y h a

-- ---- stages

module _ (x : ExtentsState) (g : GraphState) (i : IndexState) (s : State) (whole : IsWhole x) (are : ArePartsOf x g i s) where
  abbrev commands : ℕ
  commands = s.count + length s.commands

  -- there are as many sections in extents of the same shape
  some_there : (y : ExtentsState) → shape y ≡ shape x → 0 < (shape y).sections
  some_there y same = subst (λ (S : Shape). 0 < S.sections) (sym same) (some_sections x whole)

  -- ---- merges

  module _ (reason : Reason) (runs : List Run) (mid : ExtentsState) (between : GraphState) where
    merges : IsMergeAppended (index_of i) x g reason runs mid between
        → (w : World) × MergesTo (shape x) (formats_of (shape x)) s.world (index_now s) reason w runs × IsWorldOf mid between w
        × (w.root ≡ s.world.root) × (shape mid ≡ shape x)
    merges (inl (entries, place, some, merged, appended, one)) =
        let a = run_append x mid g between s.world reason entries place whole are.world appended in (
          a.0,
          inl (entries, place, some, merged_run (index_of i) (index_now s) (looked_up i s.table s.runs are.index) entries merged, a.1, one),
          a.2,
          (append_numbers (shape x) (store_shape x whole) s.world a.0 reason ((formats_of (shape x)).frame RunFrame ((formats_of (shape x)).run entries)) place a.1).2,
          appended.same_shape,
        )
    merges (inr (nothing, same, unstaged, none)) = (
      s.world,
      inr ((λ id. sym (live_same (index_of i) (index_now s) (looked_up i s.table s.runs are.index) id) ∙ nothing id), refl, none),
      subst (λ (z : ExtentsState). IsWorldOf z between s.world) (sym same) (subst (λ (k : GraphState). IsWorldOf x k s.world) (sym unstaged) are.world),
      refl,
      ap shape same,
    )

  no_table : (j : IndexState) → j.table ≡ [] → IsIndexOf j [] j.runs
  no_table j none = record { lookups = λ id. ap (lookup id) none; same_runs = refl }

  -- ---- stages

  -- so is the run of a part
  module _ (go : Bool) (k : ℕ) (runs : List Run) (mid : ExtentsState) (between : GraphState) where
    part_merges : IsPartAppendedBy false go i k x g ForRun runs mid between
        → (w : World) × MergesPart (shape x) (formats_of (shape x)) false go s ForRun k (record s { world = w }) runs × IsWorldOf mid between w
        × (w.root ≡ s.world.root) × (shape mid ≡ shape x)
    part_merges (inl (entries, place, some, run, appended, one)) =
        let a = run_append x mid g between s.world ForRun entries place whole are.world appended in (
          a.0,
          inl (entries, place, some, run_there i s are.index go k entries run, (a.0, a.1, refl), one ∙ ap (λ (rs : List Run). record { place = place; entries = entries } ∷ drop k rs) are.index.same_runs),
          a.2,
          (append_numbers (shape x) (store_shape x whole) s.world a.0 ForRun ((formats_of (shape x)).frame RunFrame ((formats_of (shape x)).run entries)) place a.1).2,
          appended.same_shape,
        )
    part_merges (inr (run, same, unstaged, none)) = (
      s.world,
      inr (run_there i s are.index go k [] run, refl, none ∙ ap (λ (rs : List Run). drop k rs) are.index.same_runs),
      subst (λ (z : ExtentsState). IsWorldOf z between s.world) (sym same) (subst (λ (h : GraphState). IsWorldOf x h s.world) (sym unstaged) are.world),
      refl,
      ap shape same,
    )

  pub newest_staged : (y : ExtentsState) (h : GraphState) (j : IndexState) (v : ℕ) → (shape x).apart ≡ false → i.table ≢ [] → IsNewestStaged (index_takes (shape x) i) i x g v commands j y h
      → (t : State) × Does (shape x) (formats_of (shape x)) s Stage (Staged v) t × ArePartsOf y h j t
  newest_staged y h j v together some done =
      let merged = part_merges (index_deletions_go (shape x) i (index_takes (shape x) i)) (index_takes (shape x) i) j.runs y done.between done.appended in
      let root : IsRootStaged y.format done.between h v commands j.runs = of_same_shape x y done.between h v commands j.runs merged.4 done.root in
      let some_here : 0 < (shape y).sections = some_there y merged.4 in
      let mid : State = record s { world = merged.0 } in (
        rooted (shape x) (formats_of (shape x)) mid j.runs merged.0.extents.pointer,
        stages_so (shape x) (formats_of (shape x)) together s (rooted (shape x) (formats_of (shape x)) mid j.runs merged.0.extents.pointer) v (
          some_table i s.table s.runs are.index some,
          root_version y done.between h merged.0 v commands j.runs some_here merged.2 root ∙ ap suc merged.3,
          mid,
          j.runs,
          merges_there (shape x) i s are.index (formats_of (shape x)) mid j.runs merged.1,
          refl,
        ),
        record {
          world = root_staged_as y done.between h merged.0 v commands j.runs some_here merged.2 root (shape x) merged.4 (map_now s) merged.0.extents.pointer;
          index = no_table j done.table;
        },
      )

  -- where a Stage merges by size, as much is merged as is reached
  pub sized_staged : (y : ExtentsState) (h : GraphState) (j : IndexState) (v : ℕ) → (shape x).apart ≡ false → (shape x).by_size ≡ true → i.table ≢ []
      → IsPartStagedBy false (nat_le (length i.runs) (reached (shape x) i)) (reached (shape x) i) i x g ForRun v commands j y h
      → (t : State) × Does (shape x) (formats_of (shape x)) s Stage (Staged v) t × ArePartsOf y h j t
  sized_staged y h j v together sized some done = newest_staged y h j v together some ((reached_exactly i x g v commands j y h sized).1 done)

  -- where it doesn't, that is the table's run where there are fewer than four, else the one of all that is live
  pub table_staged : (y : ExtentsState) (h : GraphState) (j : IndexState) (v : ℕ) → (shape x).apart ≡ false → (shape x).by_size ≡ false → i.table ≢ [] → length i.runs < 4
      → IsTableStaged i x g v commands j y h
      → (t : State) × Does (shape x) (formats_of (shape x)) s Stage (Staged v) t × ArePartsOf y h j t
  table_staged y h j v together before some few done = newest_staged y h j v together some ((table_exactly i x g v commands j y h before some few).1 done)

  pub merge_staged : (y : ExtentsState) (h : GraphState) (j : IndexState) (v : ℕ) → (shape x).apart ≡ false → (shape x).by_size ≡ false → i.table ≢ [] → 4 ≤ length i.runs
      → IsMergeStaged i x g ForRun v commands j y h
      → (t : State) × Does (shape x) (formats_of (shape x)) s Stage (Staged v) t × ArePartsOf y h j t
  merge_staged y h j v together before some many done = newest_staged y h j v together some ((merged_exactly i x g v commands j y h before many).1 done)

  -- ---- sweeps

  pub move : (y : ExtentsState) (h : GraphState) (j : IndexState) (e id chunk : ℕ) (payload : List ℕ) → (shape x).apart ≡ false → s.world.extents.swept e ≡ true
      → (moved : IsMoved i x g e id chunk payload j y h) → s.opening.damage moved.from ≡ None
      → ReadsNow (shape x) (formats_of (shape x)) s moved.from ChunkFrame payload
      → (t : State) × Does (shape x) (formats_of (shape x)) s (MoveOne e) (Moved id chunk) t × ArePartsOf y h j t
  move y h j e id chunk payload together swept moved whole_chunk reads =
      let done = after_append x g s.world whole.geometry are.world ForMove ((formats_of (shape x)).frame ChunkFrame payload) moved.to y h moved.appended in
      let here : List Place = replaced (live_at (index_now s) id) chunk (place_of moved.to) in
      let set : IsSet i id here j =
      subst (λ (ls : List Place). IsSet i id (replaced ls chunk (place_of moved.to)) j) (live_same (index_of i) (index_now s) (looked_up i s.table s.runs are.index) id) moved.entry in (
        record s { world = done.0; table = record { id = id; locators = here } ∷ s.table },
        moves_so (shape x) (formats_of (shape x)) together s (record s { world = done.0; table = record { id = id; locators = here } ∷ s.table }) e id chunk (
          moved.from,
          place_of moved.to,
          payload,
          record s { world = done.0 },
          swept,
          first_live (index_of i) (index_now s) (looked_up i s.table s.runs are.index) e id chunk moved.from moved.first,
          whole_chunk,
          reads,
          (done.0, done.1, refl),
          refl,
        ),
        record { world = done.2; index = after_set i s.table s.runs are.index id here j set },
      )

  pub retire : (y : ExtentsState) (h : GraphState) (j : IndexState) (e v : ℕ) → (shape x).apart ≡ false → s.world.extents.swept e ≡ true → e < (shape x).extents → shape y ≡ shape x
      → NothingLive (index_of i) e → IsRetired i x g e v commands j y h
      → (t : State) × Does (shape x) (formats_of (shape x)) s (Retire e) (Retired v) t × ArePartsOf y h j t
  retire y h j e v together swept inside same nothing (mid, done, extents, _) =
      let merged = merges ForMove j.runs mid done.between done.appended in
      let root : IsRootStaged mid.format done.between h v commands j.runs = of_same_shape x mid done.between h v commands j.runs merged.4 done.root in
      let before : State = record s { world = merged.0 } in
      let pointers : ℕ → ℕ = with merged.0.extents.pointer e 0 in
      let some_here : 0 < (shape mid).sections = some_there mid merged.4 in
      let version : v ≡ suc merged.0.root = root_version mid done.between h merged.0 v commands j.runs some_here merged.2 root in
      let staged = root_staged_as mid done.between h merged.0 v commands j.runs some_here merged.2 root (shape x) merged.4 (map_now s) pointers in
      let rooted_world : World = happens (shape x) merged.0 (StageRoot commands j.runs (map_now s) pointers) in
      let emptied_now : Extents = marked (forgotten (shape x).apart (emptied merged.0.extents e (suc merged.0.root)) e) e false in
      let is : extents_of y ≡ emptied_now = extents ∙ ap (λ (z : Extents). marked (emptied z e v) e false) (sym merged.2.extents)
      ∙ ap (λ (k : ℕ). marked (emptied merged.0.extents e k) e false) version
      ∙ ap (λ (b : Bool). marked (forgotten b (emptied merged.0.extents e (suc merged.0.root)) e) e false) (sym together) in (
        retired (shape x) (formats_of (shape x)) before j.runs e,
        retires_so (shape x) (formats_of (shape x)) together s (retired (shape x) (formats_of (shape x)) before j.runs e) e v (
          swept,
          nothing_live (index_of i) (index_now s) (looked_up i s.table s.runs are.index) e nothing,
          version ∙ ap suc merged.3,
          before,
          j.runs,
          (merged.0, merged.1, refl),
          refl,
        ),
        record {
          world = after_reset mid y h rooted_world e staged (same ∙ sym merged.4) emptied_now refl is;
          index = no_table j done.table;
        },
      )

-- ---- marks

module _ (x y : ExtentsState) (g : GraphState) (i : IndexState) (s : State) (e : ℕ) (are : ArePartsOf x g i s) (same : shape y ≡ shape x) where
  pub sweep : (shape x).apart ≡ false → ¬ IsNotSweepable (shape x) (extents_of x) e → extents_of y ≡ marked (extents_of x) e true
      → Does (shape x) (formats_of (shape x)) s (BeginSweep e) Sweeping (mark s e true) × ArePartsOf y g i (mark s e true)
  sweep together may extents =
      let not : ¬ IsNotSweepable (shape x) s.world.extents e = (λ is. may (subst (λ (z : Extents). IsNotSweepable (shape x) z e) are.world.extents is)) in (
        begins_so (shape x) (formats_of (shape x)) together s (mark s e true) e (
          false_from_ne_true (s.world.extents.swept e) (λ is. not (inr (inr (inr is)))),
          (λ is. not (inl is)),
          elim (cases_lt e (shape x).extents) [ inl lt ↦ lt | inr ge ↦ absurd (not (inr (inl ge))) ],
          elim (cases_lt 0 (s.world.extents.pointer e)) [ inl some ↦ some | inr none ↦ absurd (not (inr (inr (inl (let le : s.world.extents.pointer e ≤ 0 = none in omega arith))))) ],
          refl,
        ),
        record { world = after_mark x y g s.world e true are.world same extents; index = are.index },
      )

  pub abandon : s.world.extents.swept e ≡ true → extents_of y ≡ marked (extents_of x) e false
      → Does (shape x) (formats_of (shape x)) s (Abandon e) Abandoned (mark s e false) × ArePartsOf y g i (mark s e false)
  abandon swept extents = ((swept, refl), record { world = after_mark x y g s.world e false are.world same extents; index = are.index })
