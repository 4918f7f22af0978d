-- Stagings of runs and roots are steps of the machine where chunks and runs lie apart.
use Rattle.std.proofs.Common.{◌≡◌, ◌≢◌, ◌⊎◌, inl, inr, ℕ, suc, ◌+◌, Bool, true, false, List, [], ◌∷◌, ◌++◌, Ok, Err, length, refl, sym, ap, ◌∙◌, subst}
use Rattle.std.specs.Prelude.{◌↔◌, Result}
use Rattle.cs_refusal.specs.declared.refusals.Refusal.{Refusal as Code}
use Rattle.cs_refusal.specs.declared.refusals.Refusal.TheVariants as code
use Rattle.cs_deps.specs.State.{State as GraphState}
use Rattle.cs_extent.specs.State.{IsWhole, State as ExtentsState, extents_of, shape}
use Rattle.cs_frame.specs.Formats.{formats_of}
use Rattle.cs_index.proofs.Chosen.{nowhere_none}
use Rattle.cs_index.specs.Apart.{IsStageFullApart, IsStageWornApart}
use Rattle.cs_index.specs.Copies.{IsSettled}
use Rattle.cs_index.specs.Staged.{IsWhy}
use Rattle.cs_index.specs.State.{State as IndexState, index_of}
use Rattle.law_machine.proofs.Rules.{apart_rule, rule_apart}
use Rattle.law_machine.proofs.Settling.{settle_all_is}
use Rattle.law_machine.specs.Apart.{AllCopied, MayStage, NothingLeft, StagesApart, named, rooted_apart, settle_all, settled, takes}
use Rattle.law_machine.specs.Append.{ResetWorn}
use Rattle.law_machine.specs.Device.{Shape}
use Rattle.law_machine.specs.Element.{Copy, Entry, Root, Run}
use Rattle.law_machine.specs.Events.{Does, mark}
use Rattle.law_machine.specs.Extents.{Extents, ForMerge, ForRun, Purpose as Reason}
use Rattle.law_machine.specs.Formats.{Formats, RunFrame}
use Rattle.law_machine.specs.Grounds.{NoRoomApart, Refuses, WouldPass}
use Rattle.law_machine.specs.Machine.{World, root_now}
use Rattle.law_machine.specs.Merges.{MergesPart, deletions_go}
use Rattle.law_machine.specs.Refusal.{Full, Halted, NotSweepable, Refusal, StillLive, WornOut}
use Rattle.law_machine.specs.State.{Refused, Retire, Retired, Stage, Staged, State, Unchanged, map_now}
use Rattle.law_machine.specs.Step.{Step}
use Rattle.law_refinement.proofs.cs_reclaim.Copying.{behind_is_left, none_is_left}
use Rattle.law_refinement.specs.cs_reclaim.Copied.{AllUpTo, AreInOrder}
use Rattle.law_refinement.specs.cs_reclaim.Rooted.{IsRetireExact, IsRetiredApart, IsSweepStaged, IsUnmarked, MayStageRoot}
use Rattle.law_refinement.proofs.DoesApart.{retired, staged}
use Rattle.law_refinement.proofs.RefusedApart.{stage_full}
use Rattle.law_refinement.proofs.RefusedRetires.{idle, may_stage, retire_full, retire_worn, stage_worn}
use Rattle.law_refinement.proofs.RefusedSweeps.{nothing_left}
use Rattle.law_refinement.proofs.StagesApart.{retire, stage}
use Rattle.law_refinement.specs.Copying.{AreAllPartsOf}
use Rattle.cs_core.specs.declared.histories.Root.{Root as Noted}
use Rattle.cs_core.specs.States.{IsStateOf}
use Rattle.cs_core.specs.Steps.{Declines, Steps}
use Rattle.cs_core.specs.Stored.{Stored, but_for_room}
use Rattle.cs_core.proofs.Going.{going, no_more, pass, roomed_roots, same_state}
use Rattle.cs_core.proofs.RootsStay.{SameRoots, append_stays_by, same_here}
use Rattle.cs_core.proofs.StageSteps.{IsRooted, RetireFull, RetireLive, RetireWorn, StageFull, not_still, noted, runs_on, said}

-- ---- a root is staged, and what is blank is emptied

module _ (S : Shape) (F : Formats) where
  module _ (s : State) where
    rooted_so : (w : World) (runs : List Run) (v : ℕ) → SameRoots s.world w → v ≡ suc s.world.root → IsRooted s (rooted_apart S F (record s { world = w }) runs) v
    rooted_so w runs v same number = record {
      beside = record { round_out = refl; left = refl; issued = refl; halted = refl; count = refl };
      commands = refl;
      root = root_now S w (s.count + length s.commands) runs (map_now s) (named w.extents.pointer runs);
      roots = ap (λ (rs : List Root). root_now S w (s.count + length s.commands) runs (map_now s) (named w.extents.pointer runs) ∷ rs) same.roots;
      version = number ∙ ap suc (sym same.root);
      counts = refl;
      persistent = same.persistent;
    }

    rooted_at : (mid t : State) (w : World) (runs : List Run) (v : ℕ) → mid ≡ record s { world = w } → SameRoots s.world w → v ≡ suc s.world.root → t ≡ rooted_apart S F mid runs → IsRooted s t v
    rooted_at mid t w runs v mid_is same number tis =
        subst (λ (z : State). IsRooted s z v) (sym (tis ∙ ap (λ (m : State). rooted_apart S F m runs) mid_is)) (rooted_so w runs v same number)

    part_rooted : (go : Bool) (reason : Reason) (k : ℕ) (mid t : State) (runs : List Run) (v : ℕ) → MergesPart S F true go s reason k mid runs → v ≡ suc s.world.root → t ≡ rooted_apart S F mid runs → IsRooted s t v
    part_rooted go reason k mid t runs v (inl (entries, l, some, run, (w, append, mid_is), is)) number tis =
        rooted_at mid t w runs v mid_is (append_stays_by true S s.world w reason (F.frame RunFrame (F.run entries)) l append) number tis
    part_rooted go reason k mid t runs v (inr (run, mid_is, is)) number tis = rooted_at mid t s.world runs v mid_is (same_here s.world s.world refl) number tis

    stages_rooted : (t : State) (v : ℕ) → v ≡ suc s.world.root → StagesApart S F s t → IsRooted s t v
    stages_rooted t v number (mid, runs, inl m, tis) = part_rooted (deletions_go S s (takes S s)) ForRun (takes S s) mid t runs v m number tis
    stages_rooted t v number (mid, runs, inr m, tis) = part_rooted (deletions_go S s (length s.runs)) ForMerge (length s.runs) mid t runs v m.1 number tis

  -- a state in which what was copied counts, and the extent isn't being swept any more, has the same roots
  abbrev counting : State → ℕ → State
  counting s e = record (mark s e false) { table = (settle_all (mark s e false) s.copies).table; copies = [] }

  counts : (s : State) (e : ℕ) → settled (mark s e false) ≡ counting s e
  counts s e = ap (λ (u : State). record u { copies = [] }) (settle_all_is (mark s e false) s.copies)

  counted_rooted : (s t : State) (e v : ℕ) → IsRooted (counting s e) t v → IsRooted s t v
  counted_rooted s t e v so = record {
    beside = record { round_out = so.beside.round_out; left = so.beside.left; issued = so.beside.issued; halted = so.beside.halted; count = so.beside.count };
    commands = so.commands;
    root = so.root;
    roots = so.roots;
    version = so.version;
    counts = so.counts;
    persistent = so.persistent;
  }

  module _ (apart : S.apart ≡ true) (s : State) where
    stage_rooted : (t : State) (v : ℕ) → Does S F s Stage (Staged v) t → IsRooted s t v
    stage_rooted t v does = let d = staged S F apart s t v does in stages_rooted s t v d.1 d.2

    retire_rooted : (t : State) (e v : ℕ) → Does S F s (Retire e) (Retired v) t → IsRooted s t v
    retire_rooted t e v does =
        let d = retired S F apart s t e v does in
        counted_rooted s t e v (stages_rooted (counting s e) t v d.2 (subst (λ (u : State). StagesApart S F u t) (counts s e) d.3))

    -- the grounds of a Stage and of a Retire, to what they say and back
    stage_full_says : StageFull S F s → MayStage S s × NoRoomApart S F s
    stage_full_says full = apart_rule _ _ S.apart apart full

    stage_full_so : MayStage S s × NoRoomApart S F s → StageFull S F s
    stage_full_so full = rule_apart _ _ S.apart apart full

    live_says : (e : ℕ) → RetireLive S s e → NothingLeft s e → ⊥
    live_says e live = apart_rule _ _ S.apart apart live

    live_so : (e : ℕ) → (NothingLeft s e → ⊥) → RetireLive S s e
    live_so e live = rule_apart _ _ S.apart apart live

    retire_full_says : (e : ℕ) → RetireFull S F s e → NoRoomApart S F (settled (mark s e false))
    retire_full_says e full = apart_rule _ _ S.apart apart full

    retire_full_so : (e : ℕ) → NoRoomApart S F (settled (mark s e false)) → RetireFull S F s e
    retire_full_so e full = rule_apart _ _ S.apart apart full

    retire_worn_says : (e : ℕ) → RetireWorn S F s e → WouldPass S F s (Retire e) ⊎ ResetWorn S s.world.extents e
    retire_worn_says e would = apart_rule _ _ S.apart apart would

    retire_worn_so : (e : ℕ) → WouldPass S F s (Retire e) ⊎ ResetWorn S s.world.extents e → RetireWorn S F s e
    retire_worn_so e would = rule_apart _ _ S.apart apart would

no_table : (es : List Entry) → (es ≢ [] → ⊥) → es ≡ []
no_table [] not = refl
no_table (e ∷ es) not = absurd (not (λ is. let wrong : e ∷ es ≡ [] = is in cc wrong))

-- a store that differs in room alone, with the same copies
pub roomed_copies : (v : Stored) (x : ExtentsState) (g : GraphState) (i : IndexState) (copies : List Copy) (roots : List Noted) → x ≡ v.extents → g ≡ record v.graph { room = g.room } → i ≡ record v.index { room = i.room }
    → copies ≡ v.copies → roots ≡ v.roots → but_for_room (record v { extents = x; graph = g; index = i; copies = copies; roots = roots }) ≡ but_for_room v
roomed_copies v x g i copies roots extents graph index same noted =
    ap (λ (cs : List Copy). but_for_room (record v { extents = x; graph = g; index = i; copies = cs; roots = roots })) same ∙ roomed_roots v x g i roots extents graph index noted

module _ (v : Stored) (s : State) (whole : IsWhole v.extents) (is : IsStateOf v s) (runs : v.halted ≡ false) (rule : (shape v.extents).apart ≡ true) where
  abbrev S : Shape
  S = shape v.extents

  abbrev F : Formats
  F = formats_of (shape v.extents)

  parts : AreAllPartsOf v.extents v.graph v.index v.copies s
  parts = record { parts = is.parts; same_copies = is.copies }

  -- ---- Stage

  abbrev May : Type 0
  May = MayStageRoot (shape v.extents) (extents_of v.extents) v.index v.copies

  abbrev NoStage : Type 0
  NoStage = May × IsStageFullApart v.index v.extents

  abbrev WornStage : Type 0
  WornStage = May × IsStageWornApart v.index v.extents v.graph.staging

  full_says : StageFull (shape v.extents) (formats_of (shape v.extents)) s → NoStage
  full_says full = let so = stage_full_says S F rule s full in
      ((may_stage v.extents v.graph v.index v.copies s parts).0 so.0, (stage_full v.extents v.graph v.index s is.parts).0 so.1)

  full_so : NoStage → StageFull (shape v.extents) (formats_of (shape v.extents)) s
  full_so full = stage_full_so S F rule s ((may_stage v.extents v.graph v.index v.copies s parts).1 full.0, (stage_full v.extents v.graph v.index s is.parts).1 full.1)

  worn_is : (IsStageFullApart v.index v.extents → ⊥) → WouldPass (shape v.extents) (formats_of (shape v.extents)) s Stage ↔ WornStage
  worn_is room = stage_worn v.extents v.graph v.index v.copies s parts rule whole is.sound is.bounded room

  stages : (IsStageFullApart v.index v.extents → ⊥) → (WornStage → ⊥) → (f : Refusal) → Refuses (shape v.extents) (formats_of (shape v.extents)) s Stage f → ⊥
  stages room young = pass Halted (runs_on v s whole is runs) (pass Full (λ full. room (full_says full).1) (pass WornOut (λ would. young ((worn_is room).0 would)) no_more))

  stage_nothing : (May → ⊥) → Step (shape v.extents) (formats_of (shape v.extents)) s Stage Unchanged s
  stage_nothing none = (
    stages (nowhere_none v.index v.extents (no_table v.index.table (λ some. none (inl some)))) (λ worn. none worn.0),
    idle v.extents v.graph v.index v.copies s parts rule none,
  )

  stage_no_room : NoStage → Step (shape v.extents) (formats_of (shape v.extents)) s Stage (Refused Full) s
  stage_no_room full = (inl (inr (runs_on v s whole is runs, inl (full_so full, refl))), refl)

  stage_worn_out : (NoStage → ⊥) → WornStage → Step (shape v.extents) (formats_of (shape v.extents)) s Stage (Refused WornOut) s
  stage_worn_out room worn = (
    inl (inr (runs_on v s whole is runs, inr ((λ full. room (full_says full)), inl ((worn_is (λ full. room (worn.0, full))).1 worn, refl)))),
    refl,
  )

  -- a root was staged, and noted
  abbrev after_root : (n : ℕ) (y : ExtentsState) (h : GraphState) (j : IndexState) (after : List Copy) → Stored
  after_root n y h j after = record v { graph = h; extents = y; index = j; copies = after; roots = v.roots ++ record { version = n; commands = v.accepted } ∷ [] }

  stage_done : (n : ℕ) (y : ExtentsState) (h : GraphState) (j : IndexState) (after : List Copy) → (NoStage → ⊥) → (WornStage → ⊥) → May
      → IsSweepStaged v.index v.extents v.graph v.copies n (v.base + v.accepted) j y h after → shape y ≡ shape v.extents
      → (t : State) × Step (shape v.extents) (formats_of (shape v.extents)) s Stage (Staged n) t × IsStateOf (after_root n y h j after) t
  stage_done n y h j after room young may done same =
      let law = stage v.extents v.graph v.index v.copies s rule whole.geometry parts y h j after n may
      (subst (λ (k : ℕ). IsSweepStaged v.index v.extents v.graph v.copies n k j y h after) (said v s whole is runs) done) in
      let step : Step (shape v.extents) (formats_of (shape v.extents)) s Stage (Staged n) law.0 = (stages (λ full. room (may, full)) young, law.1) in (
        law.0,
        step,
        noted v s whole is runs law.0 n (after_root n y h j after) Stage (Staged n) (stage_rooted S F rule s law.0 n law.1) step same law.2.parts law.2.same_copies refl refl refl refl refl refl refl,
      )

  -- ---- Retire

  module _ (e : ℕ) (yes : (extents_of v.extents).swept e ≡ true) where
    swept : s.world.extents.swept e ≡ true
    swept = ap (λ (x : Extents). x.swept e) is.parts.world.extents ∙ yes

    marked_there : s.world.extents.swept e ≡ false → ⊥
    marked_there not = going (s.world.extents.swept e) not swept

    left_is : NothingLeft s e ↔ AllCopied (index_of v.index) v.copies e
    left_is = nothing_left v.extents v.graph v.index v.copies s parts e

    retire_live : (AllCopied (index_of v.index) v.copies e → ⊥) → Step (shape v.extents) (formats_of (shape v.extents)) s (Retire e) (Refused StillLive) s
    retire_live live = (inl (inr (runs_on v s whole is runs, inr (marked_there, inl (live_so S F rule s e (λ none. live (left_is.0 none)), refl)))), refl)

    module _ (all : AllCopied (index_of v.index) v.copies e) where
      still : RetireLive (shape v.extents) s e → ⊥
      still live = live_says S F rule s e live (left_is.1 all)

      -- by what counts then
      module _ (counted : IndexState) (unmarked : ExtentsState) (settles : IsSettled v.index v.copies counted) (ended : IsUnmarked v.extents e unmarked) where
        abbrev NoRetire : Type 0
        NoRetire = IsStageFullApart counted unmarked

        abbrev WornRetire : Type 0
        WornRetire = IsStageWornApart counted unmarked v.graph.staging ⊎ ((extents_of v.extents).generation e ≡ (shape v.extents).greatest_generation)

        nowhere : RetireFull (shape v.extents) (formats_of (shape v.extents)) s e ↔ NoRetire
        nowhere = let is_so = retire_full v.extents v.graph v.index v.copies s e rule whole parts counted unmarked settles ended in (
          (λ full. is_so.0 (retire_full_says S F rule s e full)),
          (λ full. retire_full_so S F rule s e (is_so.1 full)),
        )

        too_old : (NoRetire → ⊥) → RetireWorn (shape v.extents) (formats_of (shape v.extents)) s e ↔ WornRetire
        too_old room = let is_so = retire_worn v.extents v.graph v.index v.copies s e rule whole parts counted unmarked settles ended is.sound is.bounded swept (left_is.1 all) room in (
          (λ would. is_so.0 (retire_worn_says S F rule s e would)),
          (λ worn. retire_worn_so S F rule s e (is_so.1 worn)),
        )

        retire_no_room : NoRetire → Step (shape v.extents) (formats_of (shape v.extents)) s (Retire e) (Refused Full) s
        retire_no_room full = (inl (inr (runs_on v s whole is runs, inr (marked_there, inr (still, inl (nowhere.1 full, refl))))), refl)

        retire_worn_out : (NoRetire → ⊥) → WornRetire → Step (shape v.extents) (formats_of (shape v.extents)) s (Retire e) (Refused WornOut) s
        retire_worn_out room worn =
            (inl (inr (runs_on v s whole is runs, inr (marked_there, inr (still, inr ((λ full. room (nowhere.0 full)), inl ((too_old room).1 worn, refl)))))), refl)

        retires : (NoRetire → ⊥) → (WornRetire → ⊥) → (f : Refusal) → Refuses (shape v.extents) (formats_of (shape v.extents)) s (Retire e) f → ⊥
        retires room young = pass Halted (runs_on v s whole is runs) (pass NotSweepable marked_there (pass StillLive still
            (pass Full (λ full. room (nowhere.0 full)) (pass WornOut (λ would. young ((too_old room).0 would)) no_more))))

      retire_done : (n : ℕ) (y : ExtentsState) (h : GraphState) (j : IndexState) (after : List Copy) → IsRetireExact (Ok n) v.index v.extents v.graph v.copies e
          → IsRetiredApart v.index v.extents v.graph v.copies e n (v.base + v.accepted) j y h after → shape y ≡ shape v.extents
          → (t : State) × Step (shape v.extents) (formats_of (shape v.extents)) s (Retire e) (Retired n) t × IsStateOf (after_root n y h j after) t
      retire_done n y h j after why done same =
          let law = retire v.extents v.graph v.index v.copies s e rule whole.geometry parts y h j after n yes all
          (subst (λ (k : ℕ). IsRetiredApart v.index v.extents v.graph v.copies e n k j y h after) (said v s whole is runs) done) in
          let step : Step (shape v.extents) (formats_of (shape v.extents)) s (Retire e) (Retired n) law.0
          = (retires why.counted why.unmarked why.settled why.ended why.why.0 why.why.1, law.1) in (
            law.0,
            step,
            noted v s whole is runs law.0 n (after_root n y h j after) (Retire e) (Retired n) (retire_rooted S F rule s law.0 e n law.1) step same law.2.parts law.2.same_copies refl refl refl refl refl refl refl,
          )

-- ---- the answers of the calls

module _ (v : Stored) (whole : IsWhole v.extents) (runs : v.halted ≡ false) (rule : (shape v.extents).apart ≡ true) where
  abbrev MayRoot : Type 0
  MayRoot = MayStageRoot (shape v.extents) (extents_of v.extents) v.index v.copies

  pub stage_apart_declines : (w : Stored) → but_for_room w ≡ but_for_room v → (r : Code)
      → IsWhy r (MayRoot × IsStageFullApart v.index v.extents) (MayRoot × IsStageWornApart v.index v.extents v.graph.staging) → Declines v Stage r w
  stage_apart_declines w same code.Full full = inr (Full, refl, λ s is. (s, stage_no_room v s whole is runs rule full, same_state v w s is same))
  stage_apart_declines w same code.WornOut worn = inr (WornOut, refl, λ s is. (s, stage_worn_out v s whole is runs rule worn.0 worn.1, same_state v w s is same))
  stage_apart_declines w same code.OutOfMemory why = inl refl
  stage_apart_declines w same r why = absurd why

  pub stage_apart_none : (w : Stored) → but_for_room w ≡ but_for_room v → (MayRoot → ⊥) → Steps v Stage Unchanged w
  stage_apart_none w same none s is = (s, stage_nothing v s whole is runs rule none, same_state v w s is same)

  pub stage_apart_steps : (n : ℕ) (y : ExtentsState) (h : GraphState) (j : IndexState) (after : List Copy) (roots : List Noted) → (MayRoot × IsStageFullApart v.index v.extents → ⊥)
      → (MayRoot × IsStageWornApart v.index v.extents v.graph.staging → ⊥) → MayRoot
      → IsSweepStaged v.index v.extents v.graph v.copies n (v.base + v.accepted) j y h after → shape y ≡ shape v.extents
      → roots ≡ v.roots ++ record { version = n; commands = v.accepted } ∷ [] → Steps v Stage (Staged n) (record v { graph = h; extents = y; index = j; copies = after; roots = roots })
  stage_apart_steps n y h j after roots room young may done same noted s is =
      let d = stage_done v s whole is runs rule n y h j after room young may done same in
      (d.0, d.1, subst (λ (rs : List Noted). IsStateOf (record v { graph = h; extents = y; index = j; copies = after; roots = rs }) d.0) (sym noted) d.2)

  module _ (e : ℕ) (marks : (extents_of v.extents).swept e ≡ true) where
    abbrev All : Type 0
    All = AllCopied (index_of v.index) v.copies e

    retire_apart_lives : (w : Stored) → but_for_room w ≡ but_for_room v → (All → ⊥) → Declines v (Retire e) code.StillLive w
    retire_apart_lives w same live = inr (StillLive, refl, λ s is. (s, retire_live v s whole is runs rule e marks live, same_state v w s is same))

    module _ (all : AllCopied (index_of v.index) v.copies e) where
      retire_apart_declines : (w : Stored) → but_for_room w ≡ but_for_room v → (counted : IndexState) (unmarked : ExtentsState) → IsSettled v.index v.copies counted → IsUnmarked v.extents e unmarked → (r : Code)
          → IsWhy r (IsStageFullApart counted unmarked) (IsStageWornApart counted unmarked v.graph.staging ⊎ ((extents_of v.extents).generation e ≡ (shape v.extents).greatest_generation)) → Declines v (Retire e) r w
      retire_apart_declines w same counted unmarked settles ended code.Full full =
          inr (Full, refl, λ s is. (s, retire_no_room v s whole is runs rule e marks all counted unmarked settles ended full, same_state v w s is same))
      retire_apart_declines w same counted unmarked settles ended code.WornOut worn =
          inr (WornOut, refl, λ s is. (s, retire_worn_out v s whole is runs rule e marks all counted unmarked settles ended worn.0 worn.1, same_state v w s is same))
      retire_apart_declines w same counted unmarked settles ended code.OutOfMemory why = inl refl
      retire_apart_declines w same counted unmarked settles ended r why = absurd why

      pub retire_apart_steps : (n : ℕ) (y : ExtentsState) (h : GraphState) (j : IndexState) (after : List Copy) (roots : List Noted) → IsRetireExact (Ok n) v.index v.extents v.graph v.copies e
          → IsRetiredApart v.index v.extents v.graph v.copies e n (v.base + v.accepted) j y h after → shape y ≡ shape v.extents
          → roots ≡ v.roots ++ record { version = n; commands = v.accepted } ∷ [] → Steps v (Retire e) (Retired n) (record v { graph = h; extents = y; index = j; copies = after; roots = roots })
      retire_apart_steps n y h j after roots why done same noted s is =
          let d = retire_done v s whole is runs rule e marks all n y h j after why done same in
          (d.0, d.1, subst (λ (rs : List Noted). IsStateOf (record v { graph = h; extents = y; index = j; copies = after; roots = rs }) d.0) (sym noted) d.2)

    -- what can't be otherwise is so: no chunk that lives there comes behind the last copy
    settled_all : AreInOrder v.copies → AllUpTo (index_of v.index) v.copies e → ((All → ⊥) → ⊥) → All
    settled_all order up_to nn = none_is_left (index_of v.index) v.copies e order up_to
        (λ d k x at on behind. nn (λ all. behind_is_left v.copies d k x order behind (all d k x at on)))

    pub retire_apart_refused : (w : Stored) → but_for_room w ≡ but_for_room v → AreInOrder v.copies → AllUpTo (index_of v.index) v.copies e → (r : Code)
        → (◌≡◌ {A = Result ℕ Code} (Err r) (Err code.StillLive)) ↔ (All → ⊥)
        → (All → IsRetireExact {T = ℕ} (Err r) v.index v.extents v.graph v.copies e)
        → (r ≡ code.StillLive) ⊎ (r ≡ code.Full) ⊎ (r ≡ code.WornOut) ⊎ (r ≡ code.OutOfMemory) → Declines v (Retire e) r w
    retire_apart_refused w same order up_to r left why (inl live) =
        subst (λ (k : Code). Declines v (Retire e) k w) (sym live) (retire_apart_lives w same (left.0 (ap (λ (k : Code). Err k) live)))
    retire_apart_refused w same order up_to r left why (inr other) =
        let all = settled_all order up_to (λ live. not_still r other (left.1 live)) in
        let exact = why all in
        retire_apart_declines all w same exact.counted exact.unmarked exact.settled exact.ended r exact.why
