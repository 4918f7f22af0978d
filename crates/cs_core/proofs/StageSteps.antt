-- Stagings of runs and roots are steps of the machine.
use Rattle.std.proofs.Common.{◌≡◌, ◌≢◌, ◌⊎◌, inl, inr, ℕ, suc, ◌+◌, ◌<◌, true, false, List, [], ◌∷◌, ◌++◌, Some, None, Ok, Err, length, refl, sym, ap, ◌∙◌, subst, arith}
use Rattle.std.specs.Prelude.{◌↔◌, IfOk, Option, Result}
use Rattle.cs_refusal.specs.declared.refusals.Refusal.{Refusal as Code}
use Rattle.cs_refusal.specs.declared.refusals.Refusal.TheVariants as code
use Rattle.cs_deps.specs.State.{State as GraphState}
use Rattle.cs_extent.specs.State.{IsWhole, State as ExtentsState, extents_of, shape}
use Rattle.cs_frame.specs.Formats.{formats_of}
use Rattle.cs_index.specs.Merges.{stage_takes as stage_takes_of}
use Rattle.cs_index.specs.Staged.{IsFull, IsNewestStaged, IsStageWorn, IsWhy, WritesRun}
use Rattle.cs_index.specs.State.{State as IndexState, index_of}
use Rattle.law_machine.proofs.Rules.{before_rule, rule_before}
use Rattle.law_machine.specs.Apart.{MayStage, NothingLeft, by_rule, settled}
use Rattle.law_machine.specs.Append.{ResetWorn}
use Rattle.law_machine.specs.Device.{Shape}
use Rattle.law_machine.specs.Element.{Entry, Root, Run, roots_of}
use Rattle.law_machine.specs.Events.{Does, IsFrontier, mark, retired, rooted}
use Rattle.law_machine.specs.Extents.{Extents, ForMove, ForRun}
use Rattle.law_machine.specs.Formats.{Formats, RunFrame}
use Rattle.law_machine.specs.Grounds.{NoRoomApart, NoRoomForRun, NoRoomToStage, Refuses, WouldPass}
use Rattle.law_machine.specs.Index.{NothingLive}
use Rattle.law_machine.specs.Lists.{with}
use Rattle.law_machine.specs.Machine.{World, root_now}
use Rattle.law_machine.specs.Merges.{MergesNewest, stage_takes}
use Rattle.law_machine.specs.Refusal.{Full, Halted, NotSweepable, Refusal, StillLive, WornOut}
use Rattle.law_machine.specs.Lists.{◌∈◌}
use Rattle.law_machine.specs.State.{Event, Reply, Refused, Retire, Retired, Stage, Staged, State, Unchanged, index_now, map_now}
use Rattle.law_machine.specs.Step.{Step}
use Rattle.law_refinement.proofs.Calls.{newest_staged, retire}
use Rattle.law_refinement.proofs.DoesBefore.{retired as retired_before, staged as staged_before, unchanged_so}
use Rattle.law_refinement.proofs.Indexes.{looked_up, none_too, nothing_live}
use Rattle.law_refinement.proofs.RefusedStages.{no_room_to_stage, retire_full, retire_worn, stage_worn}
use Rattle.law_refinement.specs.Parts.{ArePartsOf}
use Rattle.law_refinement.specs.cs_reclaim.Retired.{IsRetireFull, IsRetireWorn, IsRetired}
use Rattle.cs_core.specs.declared.histories.Root.{Root as Noted}
use Rattle.cs_core.specs.States.{AreRootsOf, IsStateOf}
use Rattle.cs_core.specs.Steps.{Declines, Steps}
use Rattle.cs_core.specs.Stored.{Stored, but_for_room}
use Rattle.cs_core.proofs.Going.{Beside, frontier_stays, goes_on, going, no_more, pass, roots_more, same_state}
use Rattle.cs_core.proofs.RootsStay.{SameRoots, append_stays, merge_stays, same_here}

-- the grounds of a Stage and of a Retire that are by rule
abbrev pub StageFull : Shape → Formats → State → Type 0
StageFull S F s = by_rule S.apart ((s.table ≢ []) × NoRoomToStage S F s) (MayStage S s × NoRoomApart S F s)

abbrev pub RetireLive : Shape → State → ℕ → Type 0
RetireLive S s e = by_rule S.apart (NothingLive (index_now s) e → ⊥) (NothingLeft s e → ⊥)

abbrev pub RetireFull : Shape → Formats → State → ℕ → Type 0
RetireFull S F s e = by_rule S.apart (NoRoomForRun S F s ForMove) (NoRoomApart S F (settled (mark s e false)))

abbrev pub RetireWorn : Shape → Formats → State → ℕ → Type 0
RetireWorn S F s e = by_rule S.apart (WouldPass S F s (Retire e)) (WouldPass S F s (Retire e) ⊎ ResetWorn S s.world.extents e)

-- what a state has after a root was staged
pub record IsRooted (s t : State) (v : ℕ) : Type 0 where
  pub beside : Beside s t
  pub commands : t.commands ≡ s.commands
  pub root : Root
  pub roots : roots_of t.world.elements ≡ root ∷ roots_of s.world.elements
  pub version : v ≡ root.version
  pub counts : root.commands ≡ s.count + length s.commands
  pub persistent : t.world.persistent ≡ s.world.persistent

module _ (S : Shape) (F : Formats) (s : State) where
  rooted_so : (w : World) (runs : List Run) (pointers : ℕ → ℕ) (v : ℕ) → SameRoots s.world w → v ≡ suc s.world.root → IsRooted s (rooted S F (record s { world = w }) runs pointers) v
  rooted_so w runs pointers v same number = record {
    beside = record { round_out = refl; left = refl; issued = refl; halted = refl; count = refl };
    commands = refl;
    root = root_now S w (s.count + length s.commands) runs (map_now s) pointers;
    roots = ap (λ (rs : List Root). root_now S w (s.count + length s.commands) runs (map_now s) pointers ∷ rs) same.roots;
    version = number ∙ ap suc (sym same.root);
    counts = refl;
    persistent = same.persistent;
  }

  -- so it has, and what was copied is the same
  abbrev RootsAlone : State → ℕ → Type 0
  RootsAlone t v = IsRooted s t v × (t.copies ≡ s.copies)

  rooted_at : (mid t : State) (w : World) (runs : List Run) (v : ℕ) → mid ≡ record s { world = w } → SameRoots s.world w → v ≡ suc s.world.root → t ≡ rooted S F mid runs mid.world.extents.pointer → RootsAlone t v
  rooted_at mid t w runs v mid_is same number tis =
      subst (λ (z : State). RootsAlone z v) (sym (tis ∙ ap (λ (m : State). rooted S F m runs m.world.extents.pointer) mid_is)) (rooted_so w runs w.extents.pointer v same number, refl)

  retired_at : (mid t : State) (w : World) (runs : List Run) (e v : ℕ) → mid ≡ record s { world = w } → SameRoots s.world w → v ≡ suc s.world.root → t ≡ retired S F mid runs e → RootsAlone t v
  retired_at mid t w runs e v mid_is same number tis =
      let one = rooted_so w runs (with w.extents.pointer e 0) v same number in
      subst (λ (z : State). RootsAlone z v) (sym (tis ∙ ap (λ (m : State). retired S F m runs e) mid_is)) (
        record {
          beside = record { round_out = refl; left = refl; issued = refl; halted = refl; count = refl };
          commands = refl;
          root = one.root;
          roots = one.roots;
          version = one.version;
          counts = one.counts;
          persistent = one.persistent;
        },
        refl,
      )

  merged_rooted : (t : State) (v : ℕ) → v ≡ suc s.world.root → (mid : State) (runs : List Run) → MergesNewest S F s ForRun (stage_takes S s) mid runs
      → t ≡ rooted S F mid runs mid.world.extents.pointer → RootsAlone t v
  merged_rooted t v number mid runs (inl (entries, l, some, run, (w, append, mid_is), is)) tis =
      rooted_at mid t w runs v mid_is (append_stays S s.world w ForRun (F.frame RunFrame (F.run entries)) l append) number tis
  merged_rooted t v number mid runs (inr (run, mid_is, is)) tis = rooted_at mid t s.world runs v mid_is (same_here s.world s.world refl) number tis

  -- where chunks and runs may lie on one extent
  module _ (before : S.apart ≡ false) where
    stage_rooted : (t : State) (v : ℕ) → Does S F s Stage (Staged v) t → RootsAlone t v
    stage_rooted t v does = let d = staged_before S F before s t v does in merged_rooted t v d.1 d.2 d.3 d.4 d.5

    retire_rooted : (t : State) (e v : ℕ) → Does S F s (Retire e) (Retired v) t → RootsAlone t v
    retire_rooted t e v does = let d = retired_before S F before s t e v does in
        retired_at d.3 t d.5.0 d.4 e v d.5.2 (merge_stays S F s.world d.5.0 (index_now s) ForMove d.4 d.5.1) d.2 d.6

    -- the grounds of a Stage and of a Retire, to what they say and back
    stage_full_says : StageFull S F s → (s.table ≢ []) × NoRoomToStage S F s
    stage_full_says full = before_rule _ _ S.apart before full

    stage_full_so : (s.table ≢ []) × NoRoomToStage S F s → StageFull S F s
    stage_full_so full = rule_before _ _ S.apart before full

    live_says : (e : ℕ) → RetireLive S s e → NothingLive (index_now s) e → ⊥
    live_says e live = before_rule _ _ S.apart before live

    live_so : (e : ℕ) → (NothingLive (index_now s) e → ⊥) → RetireLive S s e
    live_so e live = rule_before _ _ S.apart before live

    retire_full_says : (e : ℕ) → RetireFull S F s e → NoRoomForRun S F s ForMove
    retire_full_says e full = before_rule _ _ S.apart before full

    retire_full_so : (e : ℕ) → NoRoomForRun S F s ForMove → RetireFull S F s e
    retire_full_so e full = rule_before _ _ S.apart before full

    retire_worn_says : (e : ℕ) → RetireWorn S F s e → WouldPass S F s (Retire e)
    retire_worn_says e would = before_rule _ _ S.apart before would

    retire_worn_so : (e : ℕ) → WouldPass S F s (Retire e) → RetireWorn S F s e
    retire_worn_so e would = rule_before _ _ S.apart before would

module _ (v : Stored) (s : State) (whole : IsWhole v.extents) (is : IsStateOf v s) (runs : v.halted ≡ false) where
  pub runs_on : s.halted ≡ true → ⊥
  runs_on = going s.halted (is.halted ∙ runs)

  -- the commands that the root says
  pub said : v.base + v.accepted ≡ s.count + length s.commands
  said = omega (arith, is.base, is.accepted)

  -- ---- Stage

  no_table : v.index.table ≡ [] → s.table ≡ []
  no_table = none_too v.index.table s.table is.parts.index.lookups

  some_table : v.index.table ≢ [] → s.table ≢ []
  some_table some none = some (none_too s.table v.index.table (λ id. sym (is.parts.index.lookups id)) none)

  abbrev NoStage : Type 0
  NoStage = IsFull (WritesRun (shape v.extents) v.index) v.extents ForRun

  abbrev WornStage : Type 0
  WornStage = (v.index.table ≢ []) × IsStageWorn (WritesRun (shape v.extents) v.index) v.extents ForRun v.graph.staging

  -- a root was staged, and noted
  pub noted : (t : State) (n : ℕ) (w : Stored) → (event : Event) (reply : Reply) → IsRooted s t n → Step (shape v.extents) (formats_of (shape v.extents)) s event reply t → shape w.extents ≡ shape v.extents → ArePartsOf w.extents w.graph w.index t
      → t.copies ≡ w.copies → w.out ≡ v.out → w.issued ≡ v.issued → w.halted ≡ v.halted → w.base ≡ v.base → w.accepted ≡ v.accepted → w.frontier ≡ v.frontier → w.roots ≡ v.roots ++ record { version = n; commands = v.accepted } ∷ []
      → IsStateOf w t
  noted t n w event reply so step same parts copies out issued halted base accepted frontier roots =
      goes_on v w s t event reply whole is step same parts copies so.beside out issued halted base (ap length so.commands ∙ is.accepted ∙ sym accepted)
      (subst (λ (k : ℕ). IsFrontier (shape v.extents) (formats_of (shape v.extents)) t k) (sym frontier) (frontier_stays (shape v.extents) (formats_of (shape v.extents)) s t v.frontier is.frontier (λ r has. subst (λ (rs : List Root). r ∈ rs) (sym so.roots) (inr has)) so.persistent so.beside.count))
      (subst (λ (qs : List Noted). AreRootsOf qs t) (sym roots)
      (roots_more v.roots s t so.root (record { version = n; commands = v.accepted }) is.roots so.roots so.version (ap (λ (k : ℕ). s.count + k) (sym is.accepted) ∙ sym so.counts) so.persistent so.beside.count))

  -- where chunks and runs may lie on one extent
  module _ (rule : (shape v.extents).apart ≡ false) where
    stages : (NoStage → ⊥) → (WornStage → ⊥) → (f : Refusal) → Refuses (shape v.extents) (formats_of (shape v.extents)) s Stage f → ⊥
    stages room young = pass Halted runs_on (pass Full (λ full. room ((no_room_to_stage v.extents v.graph v.index s whole is.parts).0 (stage_full_says (shape v.extents) (formats_of (shape v.extents)) s rule full)))
        (pass WornOut (λ would. young ((stage_worn v.extents v.graph v.index s whole is.parts is.sound is.bounded rule room).0 would)) no_more))

    pub stage_nothing : v.index.table ≡ [] → Step (shape v.extents) (formats_of (shape v.extents)) s Stage Unchanged s
    stage_nothing none = (stages (λ full. full.1.0 none) (λ worn. worn.0 none), unchanged_so (shape v.extents) (formats_of (shape v.extents)) rule s s (no_table none, refl))

    pub stage_no_room : NoStage → Step (shape v.extents) (formats_of (shape v.extents)) s Stage (Refused Full) s
    stage_no_room full = (inl (inr (runs_on, inl (stage_full_so (shape v.extents) (formats_of (shape v.extents)) s rule ((no_room_to_stage v.extents v.graph v.index s whole is.parts).1 full), refl))), refl)

    pub stage_worn_out : (NoStage → ⊥) → WornStage → Step (shape v.extents) (formats_of (shape v.extents)) s Stage (Refused WornOut) s
    stage_worn_out room worn =
        (inl (inr (runs_on, inr ((λ full. room ((no_room_to_stage v.extents v.graph v.index s whole is.parts).0 (stage_full_says (shape v.extents) (formats_of (shape v.extents)) s rule full))), inl ((stage_worn v.extents v.graph v.index s whole is.parts is.sound is.bounded rule room).1 worn, refl)))), refl)

    pub stage_done : (n : ℕ) (y : ExtentsState) (h : GraphState) (j : IndexState) → (NoStage → ⊥) → (WornStage → ⊥) → v.index.table ≢ []
        → IsNewestStaged (stage_takes_of (shape v.extents) v.index) v.index v.extents v.graph n (v.base + v.accepted) j y h → shape y ≡ shape v.extents
        → (t : State) × Step (shape v.extents) (formats_of (shape v.extents)) s Stage (Staged n) t
        × IsStateOf (record v { graph = h; extents = y; index = j; roots = v.roots ++ record { version = n; commands = v.accepted } ∷ [] }) t
    stage_done n y h j room young some staged same =
        let law = newest_staged v.extents v.graph v.index s whole is.parts y h j n rule some
        (subst (λ (k : ℕ). IsNewestStaged (stage_takes_of (shape v.extents) v.index) v.index v.extents v.graph n k j y h) said staged) in
        at law.0 law.1 law.2
      where
        at : (t : State) → Does (shape v.extents) (formats_of (shape v.extents)) s Stage (Staged n) t → ArePartsOf y h j t
            → (z : State) × Step (shape v.extents) (formats_of (shape v.extents)) s Stage (Staged n) z
            × IsStateOf (record v { graph = h; extents = y; index = j; roots = v.roots ++ record { version = n; commands = v.accepted } ∷ [] }) z
        at t does parts =
            let step : Step (shape v.extents) (formats_of (shape v.extents)) s Stage (Staged n) t = (stages room young, does) in
            let so = stage_rooted (shape v.extents) (formats_of (shape v.extents)) s rule t n does in (
              t,
              step,
              noted t n (record v { graph = h; extents = y; index = j; roots = v.roots ++ record { version = n; commands = v.accepted } ∷ [] }) Stage (Staged n)
                  so.0 step same parts (so.1 ∙ is.copies) refl refl refl refl refl refl refl,
            )

    -- ---- Retire

    module _ (e : ℕ) (yes : (extents_of v.extents).swept e ≡ true) where
      swept : s.world.extents.swept e ≡ true
      swept = ap (λ (x : Extents). x.swept e) is.parts.world.extents ∙ yes

      lives : NothingLive (index_of v.index) e ↔ NothingLive (index_now s) e
      lives = (nothing_live (index_of v.index) (index_now s) (looked_up v.index s.table s.runs is.parts.index) e, nothing_live (index_now s) (index_of v.index) (λ id. sym (looked_up v.index s.table s.runs is.parts.index id)) e)

      marked_there : s.world.extents.swept e ≡ false → ⊥
      marked_there not = going (s.world.extents.swept e) not swept

      pub retire_live : (NothingLive (index_of v.index) e → ⊥) → Step (shape v.extents) (formats_of (shape v.extents)) s (Retire e) (Refused StillLive) s
      retire_live live = (inl (inr (runs_on, inr (marked_there, inl (live_so (shape v.extents) (formats_of (shape v.extents)) s rule e (λ none. live (lives.1 none)), refl)))), refl)

      module _ (none : NothingLive (index_of v.index) e) where
        still : RetireLive (shape v.extents) s e → ⊥
        still live = live_says (shape v.extents) (formats_of (shape v.extents)) s rule e live (lives.0 none)

        full_is : RetireFull (shape v.extents) (formats_of (shape v.extents)) s e ↔ IsRetireFull v.index v.extents
        full_is = let is_so = retire_full v.extents v.graph v.index s whole is.parts in (
          (λ full. is_so.0 (retire_full_says (shape v.extents) (formats_of (shape v.extents)) s rule e full)),
          (λ full. retire_full_so (shape v.extents) (formats_of (shape v.extents)) s rule e (is_so.1 full)),
        )

        worn_is : (IsRetireFull v.index v.extents → ⊥) → RetireWorn (shape v.extents) (formats_of (shape v.extents)) s e ↔ IsRetireWorn v.index v.extents v.graph.staging e
        worn_is room = let is_so = retire_worn v.extents v.graph v.index s whole is.parts is.sound is.bounded rule e swept none room in (
          (λ would. is_so.0 (retire_worn_says (shape v.extents) (formats_of (shape v.extents)) s rule e would)),
          (λ worn. retire_worn_so (shape v.extents) (formats_of (shape v.extents)) s rule e (is_so.1 worn)),
        )

        pub retire_no_room : IsRetireFull v.index v.extents → Step (shape v.extents) (formats_of (shape v.extents)) s (Retire e) (Refused Full) s
        retire_no_room full = (inl (inr (runs_on, inr (marked_there, inr (still, inl (full_is.1 full, refl))))), refl)

        pub retire_worn_out : (IsRetireFull v.index v.extents → ⊥) → IsRetireWorn v.index v.extents v.graph.staging e → Step (shape v.extents) (formats_of (shape v.extents)) s (Retire e) (Refused WornOut) s
        retire_worn_out room worn = (inl (inr (runs_on, inr (marked_there, inr (still, inr ((λ full. room (full_is.0 full)), inl ((worn_is room).1 worn, refl)))))), refl)

        pub retire_done : (n : ℕ) (y : ExtentsState) (h : GraphState) (j : IndexState) → (IsRetireFull v.index v.extents → ⊥) → (IsRetireWorn v.index v.extents v.graph.staging e → ⊥) → e < (shape v.extents).extents
            → IsRetired v.index v.extents v.graph e n (v.base + v.accepted) j y h → shape y ≡ shape v.extents
            → (t : State) × Step (shape v.extents) (formats_of (shape v.extents)) s (Retire e) (Retired n) t
            × IsStateOf (record v { graph = h; extents = y; index = j; roots = v.roots ++ record { version = n; commands = v.accepted } ∷ [] }) t
        retire_done n y h j room young inside done same =
            let refuses : (f : Refusal) → Refuses (shape v.extents) (formats_of (shape v.extents)) s (Retire e) f → ⊥
            = pass Halted runs_on (pass NotSweepable marked_there (pass StillLive still (pass Full (λ full. room (full_is.0 full)) (pass WornOut (λ would. young ((worn_is room).0 would)) no_more)))) in
            let law = retire v.extents v.graph v.index s whole is.parts y h j e n rule swept inside same none (subst (λ (k : ℕ). IsRetired v.index v.extents v.graph e n k j y h) said done) in
            let step : Step (shape v.extents) (formats_of (shape v.extents)) s (Retire e) (Retired n) law.0 = (refuses, law.1) in
            let so = retire_rooted (shape v.extents) (formats_of (shape v.extents)) s rule law.0 e n law.1 in (
              law.0,
              step,
              noted law.0 n (record v { graph = h; extents = y; index = j; roots = v.roots ++ record { version = n; commands = v.accepted } ∷ [] }) (Retire e) (Retired n)
                  so.0 step same law.2 (so.1 ∙ is.copies) refl refl refl refl refl refl refl,
            )

-- ---- the answers of the calls

pub stage_declines : (v w : Stored) (whole : IsWhole v.extents) (runs : v.halted ≡ false) (rule : (shape v.extents).apart ≡ false) → but_for_room w ≡ but_for_room v → (r : Code)
    → IsWhy r (IsFull (WritesRun (shape v.extents) v.index) v.extents ForRun) ((v.index.table ≢ []) × IsStageWorn (WritesRun (shape v.extents) v.index) v.extents ForRun v.graph.staging) → Declines v Stage r w
stage_declines v w whole runs rule same code.Full full = inr (Full, refl, λ s is. (s, stage_no_room v s whole is runs rule full, same_state v w s is same))
stage_declines v w whole runs rule same code.WornOut worn = inr (WornOut, refl, λ s is. (s, stage_worn_out v s whole is runs rule worn.0 worn.1, same_state v w s is same))
stage_declines v w whole runs rule same code.OutOfMemory why = inl refl
stage_declines v w whole runs rule same r why = absurd why

pub retire_declines : (v w : Stored) (whole : IsWhole v.extents) (runs : v.halted ≡ false) (rule : (shape v.extents).apart ≡ false) → but_for_room w ≡ but_for_room v → (e : ℕ) → (extents_of v.extents).swept e ≡ true → NothingLive (index_of v.index) e → (r : Code)
    → IsWhy r (IsRetireFull v.index v.extents) (IsRetireWorn v.index v.extents v.graph.staging e) → Declines v (Retire e) r w
retire_declines v w whole runs rule same e marks none code.Full full = inr (Full, refl, λ s is. (s, retire_no_room v s whole is runs rule e marks none full, same_state v w s is same))
retire_declines v w whole runs rule same e marks none code.WornOut worn = inr (WornOut, refl, λ s is. (s, retire_worn_out v s whole is runs rule e marks none worn.0 worn.1, same_state v w s is same))
retire_declines v w whole runs rule same e marks none code.OutOfMemory why = inl refl
retire_declines v w whole runs rule same e marks none r why = absurd why

pub retire_lives : (v w : Stored) (whole : IsWhole v.extents) (runs : v.halted ≡ false) (rule : (shape v.extents).apart ≡ false) → but_for_room w ≡ but_for_room v → (e : ℕ) → (extents_of v.extents).swept e ≡ true → (NothingLive (index_of v.index) e → ⊥)
    → Declines v (Retire e) code.StillLive w
retire_lives v w whole runs rule same e marks live = inr (StillLive, refl, λ s is. (s, retire_live v s whole is runs rule e marks live, same_state v w s is same))

pub stage_none : (v w : Stored) (whole : IsWhole v.extents) (runs : v.halted ≡ false) (rule : (shape v.extents).apart ≡ false) → but_for_room w ≡ but_for_room v → v.index.table ≡ [] → Steps v Stage Unchanged w
stage_none v w whole runs rule same none s is = (s, stage_nothing v s whole is runs rule none, same_state v w s is same)

pub stage_steps : (v : Stored) (whole : IsWhole v.extents) (runs : v.halted ≡ false) (rule : (shape v.extents).apart ≡ false) (n : ℕ) (y : ExtentsState) (h : GraphState) (j : IndexState) (roots : List Noted) → (IsFull (WritesRun (shape v.extents) v.index) v.extents ForRun → ⊥)
    → ((v.index.table ≢ []) × IsStageWorn (WritesRun (shape v.extents) v.index) v.extents ForRun v.graph.staging → ⊥) → v.index.table ≢ []
    → IsNewestStaged (stage_takes_of (shape v.extents) v.index) v.index v.extents v.graph n (v.base + v.accepted) j y h → shape y ≡ shape v.extents
    → roots ≡ v.roots ++ record { version = n; commands = v.accepted } ∷ [] → Steps v Stage (Staged n) (record v { graph = h; extents = y; index = j; roots = roots })
stage_steps v whole runs rule n y h j roots room young some staged same noted s is =
    let d = stage_done v s whole is runs rule n y h j room young some staged same in
    (d.0, d.1, subst (λ (rs : List Noted). IsStateOf (record v { graph = h; extents = y; index = j; roots = rs }) d.0) (sym noted) d.2)

pub retire_steps : (v : Stored) (whole : IsWhole v.extents) (runs : v.halted ≡ false) (rule : (shape v.extents).apart ≡ false) (e : ℕ) → (extents_of v.extents).swept e ≡ true → NothingLive (index_of v.index) e → (n : ℕ) (y : ExtentsState) (h : GraphState) (j : IndexState) (roots : List Noted)
    → (IsRetireFull v.index v.extents → ⊥) → (IsRetireWorn v.index v.extents v.graph.staging e → ⊥) → e < (shape v.extents).extents
    → IsRetired v.index v.extents v.graph e n (v.base + v.accepted) j y h → shape y ≡ shape v.extents
    → roots ≡ v.roots ++ record { version = n; commands = v.accepted } ∷ [] → Steps v (Retire e) (Retired n) (record v { graph = h; extents = y; index = j; roots = roots })
retire_steps v whole runs rule e marks none n y h j roots room young inside done same noted s is =
    let d = retire_done v s whole is runs rule e marks none n y h j room young inside done same in
    (d.0, d.1, subst (λ (rs : List Noted). IsStateOf (record v { graph = h; extents = y; index = j; roots = rs }) d.0) (sym noted) d.2)

pub staged_none : (result : Result (Option ℕ) Code) (P : Type 0) → IfOk result (λ staged. (staged ≡ None) ↔ P) → result ≡ Ok None → P
staged_none result P exact is = let at : IfOk {E = Code} (Ok None) (λ (staged : Option ℕ). (staged ≡ None) ↔ P) = subst (λ (r : Result (Option ℕ) Code). IfOk r (λ staged. (staged ≡ None) ↔ P)) is exact in at.0 refl

pub staged_some : (result : Result (Option ℕ) Code) (P : Type 0) (v : ℕ) → IfOk result (λ staged. (staged ≡ None) ↔ P) → result ≡ Ok (Some v) → P → ⊥
staged_some result P v exact is p = let at : IfOk {E = Code} (Ok (Some v)) (λ (staged : Option ℕ). (staged ≡ None) ↔ P) = subst (λ (r : Result (Option ℕ) Code). IfOk r (λ staged. (staged ≡ None) ↔ P)) is exact in
    let e : Some v ≡ None = at.1 p in cc

-- a refusal that is another one isn't that something lives
pub not_still : (r : Code) → (r ≡ code.Full) ⊎ (r ≡ code.WornOut) ⊎ (r ≡ code.OutOfMemory) → ◌≡◌ {A = Result ℕ Code} (Err r) (Err code.StillLive) → ⊥
not_still r other bad = go r other (ap which bad)
  where
    which : Result ℕ Code → Code
    which (Ok n) = code.Full
    which (Err k) = k

    go : (r : Code) → (r ≡ code.Full) ⊎ (r ≡ code.WornOut) ⊎ (r ≡ code.OutOfMemory) → r ≡ code.StillLive → ⊥
    go r (inl full) is = let b : code.Full ≡ code.StillLive = sym full ∙ is in cc b
    go r (inr (inl worn)) is = let b : code.WornOut ≡ code.StillLive = sym worn ∙ is in cc b
    go r (inr (inr memory)) is = let b : code.OutOfMemory ≡ code.StillLive = sym memory ∙ is in cc b

-- that nothing is live is said of what isn't there, so what can't be otherwise is so
pub settled_nothing : (x : List Entry) (e : ℕ) → ((NothingLive x e → ⊥) → ⊥) → NothingLive x e
settled_nothing x e nn id l has on = absurd (nn (λ none. none id l has on))

pub retire_refused : (v w : Stored) (whole : IsWhole v.extents) (runs : v.halted ≡ false) (rule : (shape v.extents).apart ≡ false) → but_for_room w ≡ but_for_room v → (e : ℕ) → (extents_of v.extents).swept e ≡ true → (r : Code)
    → (◌≡◌ {A = Result ℕ Code} (Err r) (Err code.StillLive)) ↔ (NothingLive (index_of v.index) e → ⊥)
    → (NothingLive (index_of v.index) e → IsWhy r (IsRetireFull v.index v.extents) (IsRetireWorn v.index v.extents v.graph.staging e))
    → (r ≡ code.StillLive) ⊎ (r ≡ code.Full) ⊎ (r ≡ code.WornOut) ⊎ (r ≡ code.OutOfMemory) → Declines v (Retire e) r w
retire_refused v w whole runs rule same e marks r alive why (inl live) =
    subst (λ (k : Code). Declines v (Retire e) k w) (sym live) (retire_lives v w whole runs rule same e marks (alive.0 (ap (λ (k : Code). Err k) live)))
retire_refused v w whole runs rule same e marks r alive why (inr other) =
    let none = settled_nothing (index_of v.index) e (λ live. not_still r other (alive.1 live)) in
    retire_declines v w whole runs rule same e marks none r (why none)
