-- A Stage of the machine is one of room.
use Rattle.std.proofs.Common.{◌≡◌, ◌≢◌, inl, inr, ℕ, ◌<◌, ◌≤◌, ◌==◌, not, Bool, true, false, List, [], ◌∷◌, ◌++◌, length, take, drop, Option, Some, None, if◌then◌else◌, refl, sym, ap, ◌∙◌, subst}
use Rattle.std.proofs.lemmas.Bool.{cases_Bool, or_right}
use Rattle.law_machine.proofs.ApartStaging.{merged_live}
use Rattle.law_machine.proofs.Bounds.{not_first}
use Rattle.law_machine.proofs.Carries.{and_left}
use Rattle.law_machine.proofs.Commands.{in_room}
use Rattle.law_machine.proofs.Counting.{lookup_here}
use Rattle.law_machine.proofs.Frames.{added}
use Rattle.law_machine.proofs.Keeps.{steps}
use Rattle.law_machine.proofs.Merging.{goes_all}
use Rattle.law_machine.proofs.Needs.{after_extents_by}
use Rattle.law_machine.proofs.Rules.{apart_rule}
use Rattle.law_machine.specs.Apart.{MergesApart, any_swept, is_blank, is_none, rooted_apart, takes}
use Rattle.law_machine.specs.Device.{IsShape, Shape}
use Rattle.law_machine.specs.Element.{Copy, Entry, Run}
use Rattle.law_machine.specs.Extents.{Extents, ForMerge, ForRun}
use Rattle.law_machine.specs.Formats.{Formats, RunFrame}
use Rattle.law_machine.specs.Frames.{IsFormat}
use Rattle.law_machine.specs.Index.{entries_of, live_at}
use Rattle.law_machine.specs.Merges.{IsRunOf, MergesPart, deletions_go, part, stage_takes}
use Rattle.law_machine.specs.Refusal.{Full, Halted, WornOut}
use Rattle.law_machine.specs.State.{Stage, Staged, State, index_now}
use Rattle.law_machine.specs.Step.{Step}
use Rattle.law_room.proofs.Chunks.{has_of, has_there, none_on}
use Rattle.law_room.proofs.Given.{chunks_not_empty, runs_not_empty}
use Rattle.law_room.proofs.MachineIds.{swept_of}
use Rattle.law_room.proofs.MachineResets.{swept_after_all, fresh_after_all}
use Rattle.law_room.proofs.MachineRoots.{now_rooted}
use Rattle.law_room.proofs.MachineStages.{IsBefore, IsStaged, empty_stage, merge_stage, rooted_stage, run_stage}
use Rattle.law_room.proofs.MachineSweeps.{some_sweep}
use Rattle.law_room.proofs.Retiring.{stage_keeps}
use Rattle.law_room.specs.Events.{Does as RoomDoes, Stage as RoomStage, is_held as room_held}
use Rattle.law_room.specs.Invariant.{IsSweep, SweepsRight}
use Rattle.law_room.specs.OfMachine.{HasRoomNow, IsSweepOf, NoneWorn, copies_now, is_aside}
use Rattle.law_room.specs.Rooms.{Empty, Room, Sweep, has}

no_run : (go : Bool) (entries : List Entry) → entries ≢ [] → IsRunOf go [] entries → ⊥
no_run go [] some is = some refl
no_run true (x ∷ xs) some is = let e : None ≡ Some x.locators = sym (is.1 x.id) ∙ lookup_here x xs x.id refl in cc
no_run false (x ∷ xs) some is = let e : None ≡ Some x.locators = sym (is.1 x.id) ∙ lookup_here x xs x.id refl in cc

empty_run : (go : Bool) → IsRunOf go [] []
empty_run true = (tt, λ id. refl)
empty_run false = (tt, λ id. refl)

-- where a table merges to nothing its deletions go
they_go : (go : Bool) (x : Entry) (es : List Entry) → IsRunOf go (x ∷ es) [] → go ≡ true
they_go true x es is = refl
they_go false x es is = absurd (let e : None ≡ Some x.locators = is.1 x.id ∙ lookup_here x es x.id refl in cc)

module _ (S : Shape) (F : Formats) (shape : IsShape S) (format : IsFormat S F) (apart : S.apart ≡ true) where
  module _ (aside : ℕ → Bool) (copies : List Copy) (s : State) (r : Room)
      (before : IsBefore S F shape format apart aside copies s r) (t mid : State) (runs : List Run)
      (is : t ≡ rooted_apart S F mid runs) (young : NoneWorn S t)
      (room : (j : ℕ) → j < S.sections → mid.world.superblocks j ≤ S.greatest_number) where
    root_alone : s.table ≡ [] → MergesApart S F s mid runs → IsStaged S F shape format apart aside copies s r before t
    root_alone none (inl m) = kept (deletions_go S s 0) (subst (λ (k : ℕ). MergesPart S F true (deletions_go S s k) s ForRun k mid runs)
        (ap (λ (es : List Entry). if is_none es then 0 else stage_takes S s) none) m)
      where
        kept : (go : Bool) → MergesPart S F true go s ForRun 0 mid runs
            → IsStaged S F shape format apart aside copies s r before t
        kept go (inl n) = absurd (no_run go n.0 n.2 (subst (λ (es : List Entry). IsRunOf go (es ++ []) n.0) none n.3))
        kept go (inr n) = rooted_stage S F shape format apart aside copies s r before t
            (before.room.rooted ∙ ap is_none none)
            (is ∙ ap (λ (x : State). rooted_apart S F x runs) n.1 ∙ ap (λ (rs : List Run). rooted_apart S F s rs) n.2) none young
    root_alone none (inr m) = absurd (m.0 s s.runs (subst (λ (k : ℕ). MergesPart S F true (deletions_go S s k) s ForRun k s s.runs)
        (sym (ap (λ (es : List Entry). if is_none es then 0 else stage_takes S s) none))
        (inr (
          subst (λ (es : List Entry). IsRunOf (deletions_go S s 0) (es ++ []) []) (sym none)
              (empty_run (deletions_go S s 0)),
          refl,
          refl,
        ))))

    nothing_left : (x : Entry) (xs : List Entry) → s.table ≡ x ∷ xs → (k : ℕ)
        → IsRunOf (deletions_go S s k) (part s k) [] → mid ≡ s → runs ≡ drop k s.runs
        → ((id : ℕ) → live_at (entries_of runs) id ≡ live_at (index_now s) id)
        → IsStaged S F shape format apart aside copies s r before t
    nothing_left x xs some k none same runs_is live = empty_stage S F shape format apart aside copies s r before t runs
        (before.room.rooted ∙ ap is_none some) (is ∙ ap (λ (m : State). rooted_apart S F m runs) same)
        (runs_is ∙ goes_all S s k (they_go (deletions_go S s k) x (xs ++ entries_of (take k s.runs))
        (subst (λ (es : List Entry). IsRunOf (deletions_go S s k) (es ++ entries_of (take k s.runs)) []) some none)))
        live young

    with_table : (x : Entry) (xs : List Entry) → s.table ≡ x ∷ xs → MergesApart S F s mid runs
        → IsStaged S F shape format apart aside copies s r before t
    with_table x xs some (inl m) = go m (merged_live S F true s mid ForRun (takes S s) (deletions_go S s (takes S s)) runs
        (goes_all S s (takes S s)) m)
      where
        go : MergesPart S F true (deletions_go S s (takes S s)) s ForRun (takes S s) mid runs
            → ((id : ℕ) → live_at (entries_of runs) id ≡ live_at (index_now s) id)
            → IsStaged S F shape format apart aside copies s r before t
        go (inl (entries, l, full, run, (v, a, mid_is), runs_is)) live = run_stage S F shape format apart aside copies s r before
            t v (takes S s) l entries runs (before.room.rooted ∙ ap is_none some) a
            (added S F shape format true (λ rule. apart) s (record s { world = v }) ForRun RunFrame (F.run entries) l
            before.sound (v, a, refl)
            (subst (λ (m : State). (j : ℕ) → j < S.sections → m.world.superblocks j ≤ S.greatest_number) mid_is room))
            runs_is live (is ∙ ap (λ (m : State). rooted_apart S F m runs) mid_is) young
        go (inr (none, same, runs_is)) live = nothing_left x xs some (takes S s) none same runs_is live
    with_table x xs some (inr (nowhere, m)) = go m (merged_live S F true s mid ForMerge (length s.runs)
        (deletions_go S s (length s.runs)) runs (goes_all S s (length s.runs)) m)
      where
        go : MergesPart S F true (deletions_go S s (length s.runs)) s ForMerge (length s.runs) mid runs
            → ((id : ℕ) → live_at (entries_of runs) id ≡ live_at (index_now s) id)
            → IsStaged S F shape format apart aside copies s r before t
        go (inl (entries, l, full, run, (v, a, mid_is), runs_is)) live = merge_stage S F shape format apart aside copies s r
            before t v l entries runs (before.room.rooted ∙ ap is_none some) a
            (added S F shape format true (λ rule. apart) s (record s { world = v }) ForMerge RunFrame (F.run entries) l
            before.sound (v, a, refl)
            (subst (λ (m : State). (j : ℕ) → j < S.sections → m.world.superblocks j ≤ S.greatest_number) mid_is room))
            runs_is live (is ∙ ap (λ (m : State). rooted_apart S F m runs) mid_is) young
        go (inr (none, same, runs_is)) live = nothing_left x xs some (length s.runs) none same runs_is live

    pub stage_there : MergesApart S F s mid runs → IsStaged S F shape format apart aside copies s r before t
    stage_there m = by_table s.table refl
      where
        by_table : (es : List Entry) → s.table ≡ es → IsStaged S F shape format apart aside copies s r before t
        by_table [] none = root_alone none m
        by_table (x ∷ xs) some = with_table x xs some m

  -- what a merge leaves
  part_leaves : (s mid : State) (runs : List Run) (k : ℕ) (go : Bool) → MergesPart S F true go s ForRun k mid runs
      → (mid.world.extents.fresh ≡ s.world.extents.fresh) × (mid.copies ≡ s.copies)
      × (mid.world.extents.swept ≡ s.world.extents.swept)
  part_leaves s mid runs k go (inl (entries, l, full, run, (v, a, mid_is), runs_is)) = (
    ap (λ (x : State). x.world.extents.fresh) mid_is ∙ ap (λ (y : Extents). y.fresh)
        (after_extents_by S shape true s.world v ForRun (F.frame RunFrame (F.run entries)) l a),
    ap (λ (x : State). x.copies) mid_is,
    ap (λ (x : State). x.world.extents.swept) mid_is ∙ ap (λ (y : Extents). y.swept)
        (after_extents_by S shape true s.world v ForRun (F.frame RunFrame (F.run entries)) l a),
  )
  part_leaves s mid runs k go (inr (none, same, runs_is)) = (
    ap (λ (x : State). x.world.extents.fresh) same,
    ap (λ (x : State). x.copies) same,
    ap (λ (x : State). x.world.extents.swept) same,
  )

  all_leaves : (s mid : State) (runs : List Run) (k : ℕ) (go : Bool) → MergesPart S F true go s ForMerge k mid runs
      → (mid.world.extents.fresh ≡ s.world.extents.fresh) × (mid.copies ≡ s.copies)
      × (mid.world.extents.swept ≡ s.world.extents.swept)
  all_leaves s mid runs k go (inl (entries, l, full, run, (v, a, mid_is), runs_is)) = (
    ap (λ (x : State). x.world.extents.fresh) mid_is ∙ ap (λ (y : Extents). y.fresh)
        (after_extents_by S shape true s.world v ForMerge (F.frame RunFrame (F.run entries)) l a),
    ap (λ (x : State). x.copies) mid_is,
    ap (λ (x : State). x.world.extents.swept) mid_is ∙ ap (λ (y : Extents). y.swept)
        (after_extents_by S shape true s.world v ForMerge (F.frame RunFrame (F.run entries)) l a),
  )
  all_leaves s mid runs k go (inr (none, same, runs_is)) = (
    ap (λ (x : State). x.world.extents.fresh) same,
    ap (λ (x : State). x.copies) same,
    ap (λ (x : State). x.world.extents.swept) same,
  )

  pub merge_leaves : (s mid : State) (runs : List Run) → MergesApart S F s mid runs
      → (mid.world.extents.fresh ≡ s.world.extents.fresh) × (mid.copies ≡ s.copies)
      × (mid.world.extents.swept ≡ s.world.extents.swept)
  merge_leaves s mid runs (inl m) = part_leaves s mid runs (takes S s) (deletions_go S s (takes S s)) m
  merge_leaves s mid runs (inr m) = all_leaves s mid runs (length s.runs) (deletions_go S s (length s.runs)) m.1

  -- where no sweep goes on as a root is staged, no extent is one that a sweep opened then
  pub rested_fresh : (mid : State) (runs : List Run) → any_swept S mid ≡ false
      → (rooted_apart S F mid runs).world.extents.fresh ≡ None
  rested_fresh mid runs off =
      fresh_after_all S apart (now_rooted S F apart mid runs).world.extents (now_rooted S F apart mid runs).world.root
      (is_blank S (now_rooted S F apart mid runs)) S.extents ∙ rw off refl

  -- nor is any where none was before
  pub fresh_still : (mid : State) (runs : List Run) → mid.world.extents.fresh ≡ None
      → (rooted_apart S F mid runs).world.extents.fresh ≡ None
  fresh_still mid runs none =
      fresh_after_all S apart (now_rooted S F apart mid runs).world.extents (now_rooted S F apart mid runs).world.root
      (is_blank S (now_rooted S F apart mid runs)) S.extents ∙ go (any_swept S mid)
    where
      go : (b : Bool) → (if b then mid.world.extents.fresh else None) ≡ None
      go true = none
      go false = refl

  -- the same extents are marked
  pub swept_still : (mid : State) (runs : List Run) → (rooted_apart S F mid runs).world.extents.swept ≡ mid.world.extents.swept
  swept_still mid runs = swept_after_all S apart (now_rooted S F apart mid runs).world.extents
      (now_rooted S F apart mid runs).world.root (is_blank S (now_rooted S F apart mid runs)) S.extents

  -- where a root was staged no copy is noted but those of the unfinished sweep
  pub staged_unopened : (mid : State) (runs : List Run) → (any_swept S mid ≡ true → mid.copies ≡ []
      → mid.world.extents.fresh ≡ None) → (rooted_apart S F mid runs).copies ≡ []
      → (rooted_apart S F mid runs).world.extents.fresh ≡ None
  staged_unopened mid runs old none =
      fresh_after_all S apart (now_rooted S F apart mid runs).world.extents (now_rooted S F apart mid runs).world.root
      (is_blank S (now_rooted S F apart mid runs)) S.extents ∙ go (any_swept S mid) refl none
    where
      go : (b : Bool) → any_swept S mid ≡ b → (if b then mid.copies else []) ≡ []
          → (if b then mid.world.extents.fresh else None) ≡ None
      go true on is = old on is
      go false off is = refl

  negated : (b : Bool) → not b ≡ true → b ≡ false
  negated true wrong = sym wrong
  negated false is = refl

  aside_empty : (s : State) (r : Room) → HasRoomNow S F s r → (e : ℕ) → e < S.extents → is_aside S s e ≡ true → r.holds e ≡ Empty
  aside_empty s r room e lt on = room.room.extents.holds e lt ∙ rw on refl

  fresh_held : (s : State) (r : Room) → HasRoomNow S F s r → (w : Sweep) → r.sweep ≡ Some w → (e : ℕ)
      → s.world.extents.fresh ≡ Some e → room_held r.sweep e ≡ true
  fresh_held s r room w is e fresh =
      let sweep : IsSweep S S.run_extents r w =
      subst (λ (o : Option Sweep). SweepsRight S S.run_extents r o) is room.keeps.sweeps in
      let of : IsSweepOf S s (Some w) = subst (λ (o : Option Sweep). IsSweepOf S s o) is room.room.sweep in
      ap (λ (o : Option Sweep). room_held o e) is
      ∙ or_right (w.extent == e) (has w.targets e) (has_there w.targets e (sweep.fresh e (of.3 ∙ fresh)).0)

  -- room before a Stage
  pub stage_before : (s : State) (r : Room) → HasRoomNow S F s r
      → IsBefore S F shape format apart (is_aside S s) (copies_now S s) s r
  stage_before s r room = record {
    sound = room.sound;
    room = room.room;
    aside_fresh = (swept_of S s r.sweep (room.sound.apart apart).one_sweep room.room.sweep).aside_fresh;
    dead = λ e lt on. (
      none_on r.chunks e (λ c there at. chunks_not_empty
          (sym (room.keeps.lies.chunks c there).1 ∙ ap r.holds at ∙ aside_empty s r room e lt on)),
      (elim (cases_Bool (has r.runs e)) [
        | inl some ↦ absurd (runs_not_empty
            (sym (room.keeps.lies.runs e (has_of r.runs e some)).1 ∙ aside_empty s r room e lt on))
        | inr none ↦ none
      ]),
      negated (any_swept S s) (and_left (not (any_swept S s)) _ on),
    );
    held = λ e on is. (let w = some_sweep S s r.sweep on room.room.sweep in fresh_held s r room w.0 w.1 e is);
    copies_are = refl;
  }

  pub stage_room : (s t : State) (r : Room) (v : ℕ) → HasRoomNow S F s r → Step S F s Stage (Staged v) t → NoneWorn S t
      → (newest : ℕ) × (pages : ℕ) × (all : ℕ) × (q : Room)
      × RoomDoes S S.run_extents r (RoomStage newest pages all) q × HasRoomNow S F t q
  stage_room s t r v room step young =
      let o = apart_rule _ _ S.apart apart step.1 in
      let worn = not_first WornOut (not_first Full (not_first Halted step.0).1).1 in
      let mid = o.2.0 in let runs = o.2.1 in let is = o.2.3 in
      let done : IsStaged S F shape format apart (is_aside S s) (copies_now S s) s r (stage_before s r room) t =
      stage_there (is_aside S s) (copies_now S s) s r (stage_before s r room) t mid runs is young
      (in_room S F shape format s t mid.world Stage (Staged v) worn.0 step.1
      (ap (λ (x : State). x.world.superblocks) (sym is))) o.2.2 in
      let left = merge_leaves s mid runs o.2.2 in
      let kept = steps S F shape format s t Stage (Staged v) room.sound room.bounded step in (
        done.newest,
        done.pages,
        done.all,
        done.after,
        done.stages,
        record {
          sound = kept.0;
          bounded = kept.1;
          room = done.room;
          keeps = stage_keeps S S.run_extents r done.after done.newest done.pages done.all (shape.apart apart).2 room.keeps
              done.stages;
          unopened = λ none. ap (λ (x : State). x.world.extents.fresh) is ∙ staged_unopened mid runs
              (λ on gone. left.0 ∙ room.unopened (sym left.1 ∙ gone)) (sym (ap (λ (x : State). x.copies) is) ∙ none);
        },
      )
