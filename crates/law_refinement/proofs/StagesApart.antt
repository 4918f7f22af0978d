-- What a Stage and a Retire do where chunks and runs lie apart is what the machine's do.
use Rattle.std.proofs.Common.{◌≡◌, ◌≢◌, ◌⊎◌, inl, inr, ℕ, suc, ◌+◌, ◌<◌, Bool, true, false, ◌==◌, List, [], ◌∷◌, ◌++◌, Option, Some, drop, length, if◌then◌else◌, refl, sym, ap, ap₂, ◌∙◌, subst}
use Rattle.cs_deps.specs.State.{State as GraphState}
use Rattle.cs_extent.specs.State.{State as ExtentsState, extents_of, shape}
use Rattle.cs_frame.specs.Formats.{as_locator, formats_of}
use Rattle.cs_frame.specs.Geometries.{IsGeometry}
use Rattle.cs_index.specs.Apart.{IsStagedApart, takes_apart}
use Rattle.cs_index.specs.Copies.{IsSettled, settle_in, settle_table}
use Rattle.cs_index.specs.Merges.{deletions_go as index_deletions_go}
use Rattle.cs_index.specs.Staged.{IsPartAppendedBy, IsRootStaged, IsRunAppendedBy, run_frame}
use Rattle.cs_index.specs.State.{State as IndexState, index_of}
use Rattle.law_machine.proofs.Gives.{lookup_append}
use Rattle.law_machine.proofs.Settling.{settle_all_is, settled_alike}
use Rattle.law_machine.specs.Apart.{AllCopied, MayStage, MergesApart, StagesApart, freed, is_any_swept, is_blank, is_blank_by, is_none, is_place, named, reset_all, rested, rooted_apart, settle, settle_all, takes}
use Rattle.law_machine.specs.Append.{AppendBy}
use Rattle.law_machine.specs.Device.{Shape}
use Rattle.law_machine.specs.Element.{Copy, Entry, Locator as Place, Run}
use Rattle.law_machine.specs.Events.{Does, mark, rooted}
use Rattle.law_machine.specs.Extents.{Extents, ForMerge, ForRun, Purpose as Reason}
use Rattle.law_machine.specs.Formats.{Formats, RunFrame}
use Rattle.law_machine.specs.Index.{entries_of, live_at, lookup}
use Rattle.law_machine.specs.Lists.{nth, replaced}
use Rattle.law_machine.specs.Machine.{StageRoot, World, happens}
use Rattle.law_machine.specs.Merges.{MergesPart, deletions_go}
use Rattle.law_machine.specs.State.{Retire, Retired, Stage, Staged, State, index_now, map_now}
use Rattle.cs_reclaim.specs.Rooted.{IsRetiredApart, IsRootedApart, IsSweepStaged, IsUnmarked, extents_at_rest, is_left_over, lying_apart}
use Rattle.law_refinement.specs.Copying.{AreAllPartsOf}
use Rattle.law_refinement.specs.Parts.{IsIndexOf}
use Rattle.law_refinement.specs.Stores.{IsWorldOf}
use Rattle.law_refinement.proofs.Appending.{after_append_by}
use Rattle.law_refinement.proofs.DoesApart.{retires_so, stages_so}
use Rattle.law_refinement.proofs.Freed.{after_others, reset_each}
use Rattle.law_refinement.proofs.FullApart.{part_full_from}
use Rattle.law_refinement.proofs.Indexes.{live_same, looked_up, none_too}
use Rattle.law_refinement.proofs.Keeping.{after_mark}
use Rattle.law_refinement.proofs.Left.{all_copied}
use Rattle.law_refinement.proofs.Merges.{run_there, same_goes, same_takes}
use Rattle.law_refinement.proofs.Numbers.{append_numbers_by}
use Rattle.law_refinement.proofs.RootsOver.{of_same_shape, root_staged_as, root_version}
use Rattle.law_refinement.proofs.Shapes.{shape_of_store}

-- a shape of the rule is it
pub lies_apart : (S : Shape) → S.apart ≡ true → lying_apart S ≡ S
lies_apart S on = λ k. record S { apart = sym on k }

-- ---- how much is merged

-- a table is empty where another is in which the same is looked up
none_alike : (xs ys : List Entry) → (xs ≡ [] → ys ≡ []) → (ys ≡ [] → xs ≡ []) → is_none xs ≡ is_none ys
none_alike [] [] to from = refl
none_alike [] (y ∷ ys) to from = absurd (let e : y ∷ ys ≡ [] = to refl in cc)
none_alike (x ∷ xs) [] to from = absurd (let e : x ∷ xs ≡ [] = from refl in cc)
none_alike (x ∷ xs) (y ∷ ys) to from = refl

module _ (S : Shape) (i : IndexState) (s : State) (is : IsIndexOf i s.table s.runs) where
  pub same_takes_apart : takes_apart S i ≡ takes S s
  same_takes_apart = ap₂ (λ (b : Bool) (n : ℕ). if b then 0 else n)
      (none_alike i.table s.table (none_too i.table s.table is.lookups) (none_too s.table i.table (λ id. sym (is.lookups id))))
      (same_takes S i s is)

  -- the newest k runs are merged as a Stage or a merge of all does
  pub merges_so : (F : Formats) (reason : Reason) (k n : ℕ) → k ≡ n → (mid : State) (runs : List Run)
      → MergesPart S F true (index_deletions_go S i k) s reason k mid runs → MergesPart S F true (deletions_go S s n) s reason n mid runs
  merges_so F reason k n same mid runs m = subst (λ (b : Bool). MergesPart S F true b s reason n mid runs) (same_goes S i s is n)
      (subst (λ (c : ℕ). MergesPart S F true (index_deletions_go S i c) s reason c mid runs) same m)

  pub merges_back : (F : Formats) (reason : Reason) (k n : ℕ) → k ≡ n → (mid : State) (runs : List Run)
      → MergesPart S F true (deletions_go S s n) s reason n mid runs → MergesPart S F true (index_deletions_go S i k) s reason k mid runs
  merges_back F reason k n same mid runs m = subst (λ (c : ℕ). MergesPart S F true (index_deletions_go S i c) s reason c mid runs) (sym same)
      (subst (λ (b : Bool). MergesPart S F true b s reason n mid runs) (sym (same_goes S i s is n)) m)

-- ---- stages

run_append_apart : (x y : ExtentsState) (g h : GraphState) (w : World) (reason : Reason) (entries : List Entry) (place : Place)
    → IsGeometry x.format (length x.written) x.pages x.sections → IsWorldOf x g w → IsRunAppendedBy true x g reason entries place y h
    → (v : World) × AppendBy (shape x) true w reason ((formats_of (shape x)).frame RunFrame ((formats_of (shape x)).run entries)) place v × IsWorldOf y h v
unfolding run_frame
run_append_apart x y g h w reason entries place geometry is a =
    after_append_by x g w geometry is true reason (run_frame x entries) (as_locator place) y h a

module _ (x : ExtentsState) (g : GraphState) (i : IndexState) (copies : List Copy) (s : State) (on : (shape x).apart ≡ true)
    (geometry : IsGeometry x.format (length x.written) x.pages x.sections) (are : AreAllPartsOf x g i copies s) where
  abbrev S : Shape
  S = shape x

  abbrev F : Formats
  F = formats_of (shape x)

  abbrev commands : ℕ
  commands = s.count + length s.commands

  index : IsIndexOf i s.table s.runs
  index = are.parts.index

  part_merges : (go : Bool) (reason : Reason) (k : ℕ) (runs : List Run) (mid : ExtentsState) (between : GraphState)
      → IsPartAppendedBy true go i k x g reason runs mid between
      → (w : World) × MergesPart S F true go s reason k (record s { world = w }) runs × IsWorldOf mid between w
      × (w.root ≡ s.world.root) × (shape mid ≡ shape x)
  part_merges go reason k runs mid between (inl (entries, place, some, run, appended, one)) =
      let a = run_append_apart x mid g between s.world reason entries place geometry are.parts.world appended in (
        a.0,
        inl (entries, place, some, run_there i s index go k entries run, (a.0, a.1, refl), one ∙ ap (λ (rs : List Run). record { place = place; entries = entries } ∷ drop k rs) index.same_runs),
        a.2,
        (append_numbers_by S (shape_of_store x geometry) true s.world a.0 reason (F.frame RunFrame (F.run entries)) place a.1).2,
        appended.same_shape,
      )
  part_merges go reason k runs mid between (inr (run, same, unstaged, none)) = (
    s.world,
    inr (run_there i s index go k [] run, refl, none ∙ ap (λ (rs : List Run). drop k rs) index.same_runs),
    subst (λ (z : ExtentsState). IsWorldOf z between s.world) (sym same) (subst (λ (h : GraphState). IsWorldOf x h s.world) (sym unstaged) are.parts.world),
    refl,
    ap shape same,
  )

  -- ---- the root, and what is freed under it

  module _ (mid y : ExtentsState) (between h : GraphState) (j : IndexState) (after : List Copy) (v : ℕ) (w : World)
      (is : IsWorldOf mid between w) (same : shape mid ≡ shape x) (root : IsRootStaged x.format between h v commands j.runs)
      (table : j.table ≡ []) (rooted_there : IsRootedApart j mid copies v y after) where
    abbrev merged : State
    merged = record s { world = w }

    some_there : 0 < (shape mid).sections
    some_there = subst (λ (T : Shape). 0 < T.sections) (sym same) geometry.fewest_sections

    root_here : IsRootStaged mid.format between h v commands j.runs
    root_here = of_same_shape x mid between h v commands j.runs same root

    pub version : v ≡ suc w.root
    version = root_version mid between h w v commands j.runs some_there is root_here

    -- the state before extents are freed
    abbrev at_rest : State
    at_rest = rested S (rooted S F merged j.runs (named w.extents.pointer j.runs))

    staged : IsWorldOf mid h (happens S w (StageRoot commands j.runs (map_now s) (named w.extents.pointer j.runs)))
    staged = root_staged_as mid between h w v commands j.runs some_there is root_here S same (map_now s) (named w.extents.pointer j.runs)

    copies_are : after ≡ at_rest.copies
    copies_are = rooted_there.copies_rest
        ∙ ap (λ (T : Shape). if is_any_swept T (extents_of mid) then copies else []) same
        ∙ ap (λ (z : Extents). if is_any_swept S z then copies else []) (sym is.extents)
        ∙ ap (λ (cs : List Copy). if is_any_swept S w.extents then cs else []) (sym are.same_copies)

    index_is : index_of j ≡ index_now at_rest
    index_is = ap (λ (es : List Entry). es ++ entries_of j.runs) table

    -- the extents as they are freed, by the parts that they are freed by
    abbrev freed_by : Shape → Shape → Extents → List Entry → List Copy → ℕ → Extents
    freed_by T U z es cs r = reset_all T (extents_at_rest U z) r (is_blank_by U (extents_at_rest U z) es j.runs cs) U.extents

    extents_are : extents_of y ≡ (freed S at_rest).world.extents
    extents_are = rooted_there.freed
        ∙ ap (λ (T : Shape). freed_by (lying_apart T) T (extents_of mid) (index_of j) after v) same
        ∙ ap (λ (T : Shape). freed_by T S (extents_of mid) (index_of j) after v) (lies_apart S on)
        ∙ ap (λ (z : Extents). freed_by S S z (index_of j) after v) (sym is.extents)
        ∙ ap (λ (es : List Entry). freed_by S S w.extents es after v) index_is
        ∙ ap (λ (cs : List Copy). freed_by S S w.extents (index_now at_rest) cs v) copies_are
        ∙ ap (λ (r : ℕ). freed_by S S w.extents (index_now at_rest) at_rest.copies r) version

    pub freed_there : AreAllPartsOf y h j after (rooted_apart S F merged j.runs)
    freed_there = record {
      parts = record {
        world = after_others mid y h (happens S w (StageRoot commands j.runs (map_now s) (named w.extents.pointer j.runs))) staged
            rooted_there.same_shape (freed S at_rest).world.extents
            (reset_each S at_rest.world.extents at_rest.world.root (is_blank S at_rest) S.extents) extents_are;
        index = record { lookups = λ id. ap (lookup id) table; same_runs = refl };
      };
      same_copies = sym copies_are;
    }

  -- the runs that an index merges are those that the machine merges
  module _ (mid : ExtentsState) (h : GraphState) (j : IndexState) (v : ℕ) where
    record Merged : Type 0 where
      between : GraphState
      world : World
      merges : MergesApart S F s (record s { world = world }) j.runs
      is : IsWorldOf mid between world
      same_root : world.root ≡ s.world.root
      same_shape : shape mid ≡ shape x
      root : IsRootStaged x.format between h v commands j.runs
      table : j.table ≡ []

    merged_so : IsStagedApart i x g v commands j mid h → Merged
    merged_so (inl newest) =
        let m = part_merges (index_deletions_go S i (takes_apart S i)) ForRun (takes_apart S i) j.runs mid newest.between newest.appended in record {
          between = newest.between;
          world = m.0;
          merges = inl (merges_so S i s index F ForRun (takes_apart S i) (takes S s) (same_takes_apart S i s index) (record s { world = m.0 }) j.runs m.1);
          is = m.2;
          same_root = m.3;
          same_shape = m.4;
          root = newest.root;
          table = newest.table;
        }
    merged_so (inr (full, all)) =
        let m = part_merges (index_deletions_go S i (length i.runs)) ForMerge (length i.runs) j.runs mid all.between all.appended in record {
          between = all.between;
          world = m.0;
          merges = inr (
            (λ u others n. part_full_from x g i s are.parts (index_deletions_go S i (takes_apart S i)) ForRun (takes_apart S i) full u others
                (merges_back S i s index F ForRun (takes_apart S i) (takes S s) (same_takes_apart S i s index) u others n)),
            merges_so S i s index F ForMerge (length i.runs) (length s.runs) (ap (λ (rs : List Run). length rs) index.same_runs) (record s { world = m.0 }) j.runs m.1,
          );
          is = m.2;
          same_root = m.3;
          same_shape = m.4;
          root = all.root;
          table = all.table;
        }

  -- a root is staged over what is merged, and extents are freed
  pub staged_so : (y : ExtentsState) (h : GraphState) (j : IndexState) (after : List Copy) (v : ℕ) → IsSweepStaged i x g copies v commands j y h after
      → (t : State) × (v ≡ suc s.world.root) × StagesApart S F s t × AreAllPartsOf y h j after t
  staged_so y h j after v done =
      let m = merged_so done.mid h j v done.staged in (
        rooted_apart S F (record s { world = m.world }) j.runs,
        version done.mid y m.between h j after v m.world m.is m.same_shape m.root m.table done.rooted ∙ ap suc m.same_root,
        (record s { world = m.world }, j.runs, m.merges, refl),
        freed_there done.mid y m.between h j after v m.world m.is m.same_shape m.root m.table done.rooted,
      )

  -- there is something to stage a root for
  may_there : (i.table ≢ []) ⊎ (is_left_over S (extents_of x) copies ≡ true) → MayStage S s
  may_there (inl some) = inl (λ none. some (none_too s.table i.table (λ id. sym (index.lookups id)) none))
  may_there (inr left) = inr (ap₂ (λ (z : Extents) (cs : List Copy). is_left_over S z cs) are.parts.world.extents are.same_copies ∙ left)

  pub stage : (y : ExtentsState) (h : GraphState) (j : IndexState) (after : List Copy) (v : ℕ) → (i.table ≢ []) ⊎ (is_left_over S (extents_of x) copies ≡ true)
      → IsSweepStaged i x g copies v commands j y h after
      → (t : State) × Does S F s Stage (Staged v) t × AreAllPartsOf y h j after t
  stage y h j after v may done = let t = staged_so y h j after v done in
      (t.0, stages_so S F on s t.0 v (may_there may, t.1, t.2), t.3)

-- ---- what was copied counts

-- a table in which a chunk counts where its copy is, or as it was
abbrev counted_in : List Entry → Copy → Bool → List Place → List Entry
counted_in table c b ls = if b then record { id = c.id; locators = replaced ls c.chunk c.to } ∷ table else table

counted_alike : (xs ys : List Entry) (c : Copy) (d : ℕ) → lookup d xs ≡ lookup d ys → (b : Bool) (ls : List Place)
    → lookup d (counted_in xs c b ls) ≡ lookup d (counted_in ys c b ls)
counted_alike xs ys c d alike true ls = ap (λ (o : Option (List Place)). if c.id == d then Some (replaced ls c.chunk c.to) else o) alike
counted_alike xs ys c d alike false ls = alike

-- the chunk counts where its copy is, where the same is looked up in a table, over the same runs
settle_one : (older xs : List Entry) (s : State) (c : Copy) → ((d : ℕ) → lookup d xs ≡ lookup d s.table) → older ≡ entries_of s.runs
    → (d : ℕ) → lookup d (settle_in older xs c) ≡ lookup d (settle s c).table
settle_one older xs s c alike same d =
    counted_alike xs s.table c d (alike d) (is_place (nth (live_at (xs ++ older) c.id) c.chunk) c.from) (live_at (xs ++ older) c.id)
    ∙ ap (λ (ls : List Place). lookup d (counted_in s.table c (is_place (nth ls c.chunk) c.from) ls)) live_there
  where
    live_there : live_at (xs ++ older) c.id ≡ live_at (index_now s) c.id
    live_there = live_same (xs ++ older) (index_now s)
        (λ id. lookup_append id xs s.table older (alike id) ∙ ap (λ (es : List Entry). lookup id (s.table ++ es)) same) c.id

settled_lookups : (i : IndexState) (s : State) (is : IsIndexOf i s.table s.runs) (cs : List Copy) (d : ℕ)
    → lookup d (settle_table (entries_of i.runs) i.table cs) ≡ lookup d (settle_all s cs).table
settled_lookups i s is [] d = is.lookups d
settled_lookups i s is (c ∷ cs) d = settle_one (entries_of i.runs) (settle_table (entries_of i.runs) i.table cs) (settle_all s cs) c
    (λ id. settled_lookups i s is cs id)
    (ap (λ (rs : List Run). entries_of rs) (is.same_runs ∙ ap (λ (z : State). z.runs) (sym (settle_all_is s cs)))) d

-- ---- retires

-- the state in which what was copied counts, and the extent isn't being swept any more
abbrev pub counting : State → ℕ → State
counting s e = record (mark s e false) { table = (settle_all (mark s e false) s.copies).table; copies = [] }

module _ (x : ExtentsState) (g : GraphState) (i : IndexState) (copies : List Copy) (s : State) (e : ℕ) (on : (shape x).apart ≡ true)
    (geometry : IsGeometry x.format (length x.written) x.pages x.sections) (are : AreAllPartsOf x g i copies s) where
  module _ (counted : IndexState) (unmarked : ExtentsState) (settles : IsSettled i copies counted) (ended : IsUnmarked x e unmarked) where
    pub counting_parts : AreAllPartsOf unmarked g counted [] (counting s e)
    counting_parts = record {
      parts = record {
        world = after_mark x unmarked g s.world e false are.parts.world ended.same_shape ended.mark;
        index = record {
          lookups = λ d. settles.table d
              ∙ ap (λ (cs : List Copy). lookup d (settle_table (entries_of i.runs) i.table cs)) (sym are.same_copies)
              ∙ settled_lookups i (mark s e false) (record { lookups = are.parts.index.lookups; same_runs = are.parts.index.same_runs }) s.copies d;
          same_runs = settles.runs ∙ are.parts.index.same_runs;
        };
      };
      same_copies = refl;
    }

    pub counting_geometry : IsGeometry unmarked.format (length unmarked.written) unmarked.pages unmarked.sections
    counting_geometry = subst (λ (T : Shape). IsGeometry T.format T.extents T.pages T.sections) (sym ended.same_shape) geometry

    pub counting_rule : (shape unmarked).apart ≡ true
    counting_rule = subst (λ (T : Shape). T.apart ≡ true) (sym ended.same_shape) on

  pub retire : (y : ExtentsState) (h : GraphState) (j : IndexState) (after : List Copy) (v : ℕ) → (extents_of x).swept e ≡ true
      → AllCopied (index_of i) copies e → IsRetiredApart i x g copies e v (s.count + length s.commands) j y h after
      → (t : State) × Does (shape x) (formats_of (shape x)) s (Retire e) (Retired v) t × AreAllPartsOf y h j after t
  retire y h j after v swept all done =
      let t = staged_so done.unmarked g done.counted [] (counting s e) (counting_rule done.counted done.unmarked done.settled done.ended)
      (counting_geometry done.counted done.unmarked done.settled done.ended)
      (counting_parts done.counted done.unmarked done.settled done.ended) y h j after v done.staged in (
        t.0,
        retires_so (shape x) (formats_of (shape x)) on s t.0 e v (
          ap (λ (z : Extents). z.swept e) are.parts.world.extents ∙ swept,
          subst (λ (cs : List Copy). AllCopied (index_now s) cs e) (sym are.same_copies)
              (all_copied (index_of i) (index_now s) (looked_up i s.table s.runs are.parts.index) copies e all),
          t.1,
          settled_alike (λ (z : State). StagesApart (shape x) (formats_of (shape x)) z t.0) (mark s e false)
              (subst (λ (T : Shape). StagesApart T (formats_of T) (counting s e) t.0) done.ended.same_shape t.2),
        ),
        t.3,
      )
