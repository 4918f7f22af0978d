-- Where chunks and runs lie apart an event gives pages of an extent, or resets one that the last root doesn't name.
use Rattle.std.proofs.Common.{◌≡◌, ◌⊎◌, inl, inr, ⊎_elim, ℕ, suc, ◌+◌, ◌≤◌, Bool, true, false, List, [], ◌∷◌, ◌++◌, length, Some, if◌then◌else◌, true≢false, le_of_eq, le_refl, le_trans, refl, sym, ap, ◌∙◌, subst, arith}
use Rattle.law_machine.proofs.ApartResets.{blank, each_extent, run_there}
use Rattle.law_machine.proofs.Needs.{after_extents_by}
use Rattle.law_machine.proofs.Parts.{grows}
use Rattle.law_machine.proofs.Quiet.{none_moved, unchanged}
use Rattle.law_machine.proofs.Rules.{apart_rule}
use Rattle.law_machine.proofs.Settling.{settled_alike}
use Rattle.law_machine.specs.Apart.{Grows, IsFreed, MergesApart, StagesApart, any_run_on, freed, is_blank, named, rested, rooted_apart, settled, takes}
use Rattle.law_machine.specs.Append.{chunk_frames, AppendAllBy, AppendBy, AppendsFrameBy}
use Rattle.law_machine.specs.Device.{IsShape, Page, Shape}
use Rattle.law_machine.specs.Element.{Entry, Locator, Map, Root, Run, roots_of}
use Rattle.law_machine.specs.Events.{Does, mark, rooted}
use Rattle.law_machine.specs.Extents.{Extents, ForMerge, ForMove, ForPut, ForRun, Purpose}
use Rattle.law_machine.specs.Formats.{ChunkFrame, Formats, FrameKind, RunFrame}
use Rattle.law_machine.specs.Index.{entries_of, live_at}
use Rattle.law_machine.specs.Lists.{◌∈◌}
use Rattle.law_machine.specs.Machine.{World, root_now}
use Rattle.law_machine.specs.Merges.{MergesPart, deletions_go}
use Rattle.law_machine.specs.Open.{extents_read, opened_state, root_read, state_read}
use Rattle.law_machine.specs.Recovery.{Recovers}
use Rattle.law_machine.specs.State.{Abandon, Abandoned, Absent, Accepted, Begin, BeginSweep, Begun, Delete, End, Ended, Event, Found, Get, Issue, Issued, MoveOne, Moved, NoneLive, NotYet, Nothing, Persistent, Put, Refused, Reply, Retire, Retired, Settle, Stage, Staged, State, Sweeping, Unchanged, map_now}
use Rattle.law_machine.specs.Step.{Step}

-- what an event leaves of an extent
abbrev pub Leaves : (s t : State) → ℕ → Type 0
Leaves s t e = Grows s t e ⊎ IsFreed s t e

same_extents : (s t : State) (e : ℕ) → t.world.extents.generation ≡ s.world.extents.generation
    → t.world.extents.pointer ≡ s.world.extents.pointer → Leaves s t e
same_extents s t e generation pointer =
    inl (ap (λ (f : ℕ → ℕ). f e) generation, le_of_eq (ap (λ (f : ℕ → ℕ). f e) (sym pointer)))

here : (s t : State) (e : ℕ) → t ≡ s → Leaves s t e
here s t e is = same_extents s t e (ap (λ (x : State). x.world.extents.generation) is)
    (ap (λ (x : State). x.world.extents.pointer) is)

after_growing : (s m t : State) (e : ℕ) → Grows s m e → Leaves m t e → Leaves s t e
after_growing s m t e grow (inl more) = inl (more.0 ∙ grow.0, le_trans grow.1 more.1)
after_growing s m t e grow (inr freed_there) = inr (record {
  generation = freed_there.generation ∙ ap suc grow.0;
  empty = freed_there.empty;
  root = freed_there.root;
  staged = freed_there.staged;
  none_lives = freed_there.none_lives;
  no_run = freed_there.no_run;
})

module _ (S : Shape) (F : Formats) (shape : IsShape S) where
  append_grows : (apart : Bool) (w v : World) (purpose : Purpose) (bs : List Page) (l : Locator)
      → AppendBy S apart w purpose bs l v → (e : ℕ)
      → (v.extents.generation e ≡ w.extents.generation e) × (w.extents.pointer e ≤ v.extents.pointer e)
  append_grows apart w v purpose bs l a e = (
    ap (λ (x : Extents). x.generation e) (after_extents_by S shape apart w v purpose bs l a),
    subst (λ (x : Extents). w.extents.pointer e ≤ x.pointer e) (sym (after_extents_by S shape apart w v purpose bs l a))
        (grows w.extents.pointer a.extent (w.extents.pointer a.extent + length bs) e (omega arith)),
  )

  all_grow : (apart : Bool) (w v : World) (purpose : Purpose) (frames : List (List Page)) (ls : List Locator)
      → AppendAllBy S apart w purpose frames ls v → (e : ℕ)
      → (v.extents.generation e ≡ w.extents.generation e) × (w.extents.pointer e ≤ v.extents.pointer e)
  all_grow apart w v purpose [] [] is e =
      (ap (λ (x : World). x.extents.generation e) is, le_of_eq (ap (λ (x : World). x.extents.pointer e) (sym is)))
  all_grow apart w v purpose [] (l ∷ ls) is e = absurd is
  all_grow apart w v purpose (bs ∷ frames) [] is e = absurd is
  all_grow apart w v purpose (bs ∷ frames) (l ∷ ls) is e =
      let one = append_grows apart w is.0 purpose bs l is.1 e in
      let rest = all_grow apart is.0 v purpose frames ls is.2 e in
      (rest.0 ∙ one.0, le_trans one.1 rest.1)

  frame_grows : (apart : Bool) (s t : State) (purpose : Purpose) (kind : FrameKind) (payload : List ℕ) (l : Locator)
      → AppendsFrameBy S F apart s purpose kind payload l t → (e : ℕ) → Grows s t e
  frame_grows apart s t purpose kind payload l a e = subst (λ (x : State). Grows s x e) (sym a.2)
      (append_grows apart s.world a.0 purpose (F.frame kind payload) l a.1 e)

  part_grows : (apart : Bool) (s t : State) (purpose : Purpose) (k : ℕ) (go : Bool) (runs : List Run)
      → MergesPart S F apart go s purpose k t runs → (e : ℕ) → Grows s t e
  part_grows apart s t purpose k go runs (inl m) e = frame_grows apart s t purpose RunFrame (F.run m.0) m.1 m.4 e
  part_grows apart s t purpose k go runs (inr m) e = subst (λ (x : State). Grows s x e) (sym m.1) (refl, le_refl _)

  -- blank extents are reset under a root of these runs
  freeing : (s : State) (r : Root) → r ∈ roots_of s.world.elements → r.version ≡ s.world.root → r.runs ≡ s.runs
      → s.table ≡ [] → (e : ℕ) → Leaves s (freed S s) e
  freeing s r has version runs table e = ⊎_elim
      (λ x. (let b = blank S s e x.1 in inr (record {
        generation = x.3;
        empty = x.2;
        root = (r, has, version, runs);
        staged = table;
        none_lives = λ id l there. b.dead id l
            (subst (λ (es : List Entry). l ∈ live_at es id) (sym (ap (λ (es : List Entry). es ++ entries_of s.runs) table)) there);
        no_run = λ run there on. true≢false (sym (run_there s.runs run there)
            ∙ ap (λ (d : ℕ). any_run_on s.runs d) on ∙ b.no_run);
      })))
      (λ k. inl (k.2, le_of_eq (sym k.1)))
      (each_extent S s.world.extents s.world.root (is_blank S s) S.extents e)

  rooted_leaves : (s : State) (runs : List Run) (e : ℕ) → Leaves s (rooted_apart S F s runs) e
  rooted_leaves s runs e =
      let staged : State = rested S (rooted S F s runs (named s.world.extents.pointer runs)) in
      ⊎_elim (λ more. inl (more.0, more.1)) (λ freed_there. inr (record {
        generation = freed_there.generation;
        empty = freed_there.empty;
        root = freed_there.root;
        staged = freed_there.staged;
        none_lives = freed_there.none_lives;
        no_run = freed_there.no_run;
      }))
      (freeing staged (root_now S s.world (s.count + length s.commands) runs (map_now s) (named s.world.extents.pointer runs))
      (inl refl) refl refl refl e)

  stages_leave : (s t : State) → StagesApart S F s t → (e : ℕ) → Leaves s t e
  stages_leave s t (mid, runs, merges, is) e = subst (λ (x : State). Leaves s x e) (sym is)
      (after_growing s mid (rooted_apart S F mid runs) e (merged merges) (rooted_leaves mid runs e))
    where
      merged : MergesApart S F s mid runs → Grows s mid e
      merged (inl m) = part_grows true s mid ForRun (takes S s) (deletions_go S s (takes S s)) runs m e
      merged (inr m) = part_grows true s mid ForMerge (length s.runs) (deletions_go S s (length s.runs)) runs m.1 e

  retires_leave : (s t : State) (d : ℕ) → StagesApart S F (settled (mark s d false)) t → (e : ℕ) → Leaves s t e
  retires_leave s t d stages e = after_growing s (settled (mark s d false)) t e
      (settled_alike (λ (x : State). Grows s x e) (mark s d false) (refl, le_refl _))
      (stages_leave (settled (mark s d false)) t stages e)

  module _ (on : S.apart ≡ true) where
    does_leaves : (s t : State) (event : Event) (reply : Reply) → Does S F s event reply t → (e : ℕ) → Leaves s t e
    does_leaves s t (Put id bytes) (Accepted n) d e = subst (λ (x : State). Leaves s x e) (sym d.6)
        (subst (λ (x : State). Grows s x e ⊎ IsFreed s (record x {
          table = record { id = id; locators = d.1 } ∷ x.table;
          commands = (id, Some bytes) ∷ x.commands;
        }) e) (sym d.4.2) (inl (all_grow S.apart s.world d.4.0 ForPut (chunk_frames S F d.0) d.1 d.4.1 e)))
    does_leaves s t (Get id) (Found bytes) d e = here s t e d.1
    does_leaves s t (Get id) Absent d e = here s t e d.1
    does_leaves s t (Delete id) (Accepted n) d e = subst (λ (x : State). Leaves s x e) (sym d.2) (inl (refl, le_refl _))
    does_leaves s t (Delete id) Absent d e = here s t e d.1
    does_leaves s t Stage Unchanged d e = here s t e (unchanged S F s t d)
    does_leaves s t Stage (Staged v) d e = stages_leave s t (apart_rule _ _ S.apart on d).2 e
    does_leaves s t Begin Nothing d e = here s t e d.2
    does_leaves s t Begin (Begun members) d e = subst (λ (x : State). Leaves s x e) (sym d.6) (inl (refl, le_refl _))
    does_leaves s t Issue (Issued m) d e = subst (λ (x : State). Leaves s x e) (sym d.3) (inl (refl, le_refl _))
    does_leaves s t End (Ended n) d e = subst (λ (x : State). Leaves s x e) (sym d.2) (inl (refl, le_refl _))
    does_leaves s t (BeginSweep d) Sweeping does e =
        subst (λ (x : State). Leaves s x e) (sym (apart_rule _ _ S.apart on does).5) (inl (refl, le_refl _))
    does_leaves s t (MoveOne d) NoneLive does e = here s t e (none_moved S F s t d does)
    does_leaves s t (MoveOne d) (Moved id k) does e = (let o = apart_rule _ _ S.apart on does in
        subst (λ (x : State). Leaves s x e) (sym o.9) (inl (frame_grows true s o.3 ForMove ChunkFrame o.2 o.1 o.8 e)))
    does_leaves s t (Retire d) (Retired v) does e = retires_leave s t d (apart_rule _ _ S.apart on does).3 e
    does_leaves s t (Abandon d) Abandoned does e = subst (λ (x : State). Leaves s x e) (sym does.1) (inl (refl, le_refl _))
    does_leaves s t (Settle n) Persistent d e = here s t e d.4
    does_leaves s t (Settle n) (NotYet f) d e = here s t e d.2
    does_leaves s t event reply d e = absurd d

    pub step_leaves : (s t : State) (event : Event) (reply : Reply) → Step S F s event reply t → (e : ℕ) → Leaves s t e
    step_leaves s t Issue (Refused f) (inl same) e = here s t e same.1
    step_leaves s t Issue (Refused f) (inr fault) e = ⊎_elim
        (λ (is : t ≡ record s { halted = true }). subst (λ (x : State). Leaves s x e) (sym is) (inl (refl, le_refl _)))
        (λ w. subst (λ (x : State). Leaves s x e) (sym w.4) (inl (refl, le_refl _))) fault.2
    step_leaves s t End (Refused f) (inl same) e = here s t e same.1
    step_leaves s t End (Refused f) (inr fault) e = subst (λ (x : State). Leaves s x e) (sym fault.2) (inl (refl, le_refl _))
    step_leaves s t event (Refused f) d e = here s t e d.1
    step_leaves s t event reply d e = does_leaves s t event reply d.1 e

-- so it is at an opening
pub opening_leaves : (S : Shape) (F : Formats) (img : ℕ → Page) (n : ℕ) (m : Map) (gives : Recovers S F img n m) (e : ℕ)
    → IsShape S → S.apart ≡ true → Leaves (state_read S F img n m gives) (opened_state S F img n m gives) e
opening_leaves S F img n m gives e shape on = subst
    (λ (b : Bool). Leaves (state_read S F img n m gives) (record (state_read S F img n m gives) {
      world = record (state_read S F img n m gives).world {
        extents = if b then (freed S (state_read S F img n m gives)).world.extents else extents_read S F img n m gives;
      };
    }) e) (sym on)
    (freeing S F shape (state_read S F img n m gives) (root_read S F img n m gives) (inl refl) refl refl refl e)
