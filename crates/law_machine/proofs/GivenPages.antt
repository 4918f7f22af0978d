-- An event empties an extent, or leaves each of its given pages as it reads.
use Rattle.std.proofs.Common.{◌≡◌, ◌≢◌, ◌⊎◌, inl, inr, ⊎_elim, ℕ, suc, ◌+◌, ◌<◌, ◌≤◌, Bool, true, false, ◌&&◌, List, [], ◌∷◌, length, Some, if◌then◌else◌, ◌==◌, le_of_eq, le_refl, le_trans, ne_eqb, refl, sym, ap, ◌∙◌, subst, arith}
use Rattle.std.proofs.lemmas.Bool.{cases_Bool, cases_eq}
use Rattle.law_machine.proofs.ApartResets.{each_extent}
use Rattle.law_machine.proofs.Merging.{in_part}
use Rattle.law_machine.proofs.Needs.{after_extents_by}
use Rattle.law_machine.proofs.Parts.{grows, with_other, with_same}
use Rattle.law_machine.proofs.Places.{goes_inside}
use Rattle.law_machine.proofs.Quiet.{none_moved, unchanged}
use Rattle.law_machine.proofs.Rules.{apart_rule, before_rule}
use Rattle.law_machine.proofs.Settling.{settled_alike}
use Rattle.law_machine.specs.Apart.{MergesApart, StagesApart, is_blank, named, rested, rooted_apart, settled, takes}
use Rattle.law_machine.specs.Append.{AppendAllBy, AppendBy, AppendsFrameBy, chunk_frames, stage_pages}
use Rattle.law_machine.specs.Device.{Inside, IsShape, Page, Shape}
use Rattle.law_machine.specs.Element.{Locator, Run}
use Rattle.law_machine.specs.Events.{Does, mark, newest_page, retired, rooted}
use Rattle.law_machine.specs.Extents.{Extents, ForMerge, ForMove, ForPut, ForRun, Purpose}
use Rattle.law_machine.specs.Formats.{ChunkFrame, Formats, FrameKind, RunFrame}
use Rattle.law_machine.specs.Lists.{with}
use Rattle.law_machine.specs.Machine.{StagePage, World, happens, newest_in}
use Rattle.law_machine.specs.Merges.{MergesPart, deletions_go, stage_takes}
use Rattle.law_machine.specs.State.{Abandon, Abandoned, Absent, Accepted, Begin, BeginSweep, Begun, Delete, End, Ended, Event, Found, Get, Issue, Issued, MoveOne, Moved, NoneLive, NotYet, Nothing, Persistent, Put, Refused, Reply, Retire, Retired, Settle, Stage, Staged, State, Sweeping, Unchanged}
use Rattle.law_machine.specs.Stays.{IsEmptied, KeepsPages}
use Rattle.law_machine.specs.Step.{Step}

miss : (q p : ℕ) (b z : Page) → q ≢ p → (if (q == p) && true then b else z) ≡ z
miss q p b z not = let test : (q == p) ≡ false = ne_eqb q p not in rw test

found_other : (b : Bool) (f : ℕ → ℕ) (n d : ℕ) → d ≢ n → (if b then with f n 0 else f) d ≡ f d
found_other true f n d not = with_other f n 0 d not
found_other false f n d not = refl

module _ (S : Shape) where
  -- what an event leaves of an extent
  abbrev pub Leaves : (s t : State) → ℕ → Type 0
  Leaves s t e = IsEmptied s t e ⊎ KeepsPages S s t e

  same_pages : (s : State) (e : ℕ) → KeepsPages S s s e
  same_pages s e = record { generation = refl; found = refl; given = le_refl _; pages = λ i below inside. refl }

  here : (s t : State) (e : ℕ) → t ≡ s → Leaves s t e
  here s t e is = inr (subst (λ (x : State). KeepsPages S s x e) (sym is) (same_pages s e))

  after_keeping : (s m t : State) (e : ℕ) → KeepsPages S s m e → Leaves m t e → Leaves s t e
  after_keeping s m t e kept (inl gone) = inl (subst (λ (n : ℕ). n < t.world.extents.generation e) kept.generation gone)
  after_keeping s m t e kept (inr more) = inr (record {
    generation = more.generation ∙ kept.generation;
    found = more.found ∙ kept.found;
    given = le_trans kept.given more.given;
    pages = λ i below inside. more.pages i (le_trans below kept.given) inside ∙ kept.pages i below inside;
  })

module _ (S : Shape) (F : Formats) (shape : IsShape S) where
  -- pages are staged elsewhere
  page_stays : (opened : ℕ → Page) (w : World) (e i : ℕ) (bs : List Page) (d k : ℕ) → e < S.extents → i + length bs ≤ S.pages
      → Inside S d k → (e ≡ d → k < i) → newest_in opened (stage_pages S w e i bs) (S.address d k) ≡ newest_in opened w (S.address d k)
  page_stays opened w e i [] d k exists fits inside other = refl
  page_stays opened w e i (b ∷ bs) d k exists fits inside other =
      page_stays opened (happens S w (StagePage (S.address e i) b)) e (suc i) bs d k exists (omega arith) inside
      (λ is. (let lt : k < i = other is in omega arith))
      ∙ miss (S.address e i) (S.address d k) b (newest_in opened w (S.address d k)) (λ same.
      let extent : e ≡ d = sym (shape.extent e i (exists, omega arith)) ∙ ap S.extent same ∙ shape.extent d k inside in
      let index : i ≡ k = sym (shape.index e i (exists, omega arith)) ∙ ap S.index same ∙ shape.index d k inside in
      let lt : k < i = other extent in omega arith)

  append_keeps : (apart : Bool) (s : State) (v : World) (purpose : Purpose) (bs : List Page) (l : Locator)
      → AppendBy S apart s.world purpose bs l v → (e : ℕ) → KeepsPages S s (record s { world = v }) e
  append_keeps apart s v purpose bs l a e =
      let extents = after_extents_by S shape apart s.world v purpose bs l a in
      let inside = goes_inside S apart s.world.extents purpose (length bs) a.extent a.placed in record {
        generation = ap (λ (x : Extents). x.generation e) extents;
        found = ap (λ (x : Extents). x.found e) extents;
        given = subst (λ (x : Extents). s.world.extents.pointer e ≤ x.pointer e) (sym extents)
            (grows s.world.extents.pointer a.extent (s.world.extents.pointer a.extent + length bs) e (omega arith));
        pages = λ i below within. subst (λ (w : World). newest_in s.opened w (S.address e i) ≡ newest_page s (S.address e i)) (sym a.after)
            (page_stays s.opened s.world a.extent (s.world.extents.pointer a.extent) bs e i inside.0 inside.1 within
            (λ is. subst (λ (d : ℕ). i < s.world.extents.pointer d) (sym is) below));
      }

  all_keep : (apart : Bool) (s : State) (v : World) (purpose : Purpose) (frames : List (List Page)) (ls : List Locator)
      → AppendAllBy S apart s.world purpose frames ls v → (e : ℕ) → Leaves S s (record s { world = v }) e
  all_keep apart s v purpose [] [] is e = here S s (record s { world = v }) e (ap (λ (w : World). record s { world = w }) is)
  all_keep apart s v purpose [] (l ∷ ls) is e = absurd is
  all_keep apart s v purpose (bs ∷ frames) [] is e = absurd is
  all_keep apart s v purpose (bs ∷ frames) (l ∷ ls) is e = after_keeping S s (record s { world = is.0 }) (record s { world = v }) e
      (append_keeps apart s is.0 purpose bs l is.1 e)
      (all_keep apart (record s { world = is.0 }) v purpose frames ls is.2 e)

  frame_keeps : (apart : Bool) (s t : State) (purpose : Purpose) (kind : FrameKind) (payload : List ℕ) (l : Locator)
      → AppendsFrameBy S F apart s purpose kind payload l t → (e : ℕ) → KeepsPages S s t e
  frame_keeps apart s t purpose kind payload l a e = subst (λ (x : State). KeepsPages S s x e) (sym a.2)
      (append_keeps apart s a.0 purpose (F.frame kind payload) l a.1 e)

  part_keeps : (apart : Bool) (s t : State) (purpose : Purpose) (k : ℕ) (go : Bool) (runs : List Run)
      → MergesPart S F apart go s purpose k t runs → (e : ℕ) → KeepsPages S s t e
  part_keeps apart s t purpose k go runs (inl m) e = frame_keeps apart s t purpose RunFrame (F.run m.0) m.1 m.4 e
  part_keeps apart s t purpose k go runs (inr m) e = subst (λ (x : State). KeepsPages S s x e) (sym m.1) (same_pages S s e)

  -- a root is staged, which writes no page of an extent
  root_keeps : (s : State) (runs : List Run) (pointers : ℕ → ℕ) (e : ℕ) → KeepsPages S s (rooted S F s runs pointers) e
  root_keeps s runs pointers e = record { generation = refl; found = refl; given = le_refl _; pages = λ i below inside. refl }

  -- an extent is reset, and the others stay
  reset_leaves : (s : State) (runs : List Run) (d e : ℕ) → Leaves S s (retired S F s runs d) e
  reset_leaves s runs d e = elim (cases_eq e d) [
    | inl is ↦ inl (let up : with s.world.extents.generation d (suc (s.world.extents.generation d)) e ≡ suc (s.world.extents.generation e)
        = with_same s.world.extents.generation d (suc (s.world.extents.generation d)) e is
        ∙ ap (λ (n : ℕ). suc (s.world.extents.generation n)) (sym is) in omega arith)
    | inr not ↦ inr (record {
      generation = with_other s.world.extents.generation d (suc (s.world.extents.generation d)) e not;
      found = found_other S.apart s.world.extents.found d e not;
      given = le_of_eq (sym (with_other s.world.extents.pointer d 0 e not));
      pages = λ i below inside. refl;
    })
  ]

  -- where chunks and runs lie apart blank extents are reset under a root
  rooted_leaves : (s : State) (runs : List Run) (e : ℕ) → Leaves S s (rooted_apart S F s runs) e
  rooted_leaves s runs e =
      let staged : State = rested S (rooted S F s runs (named s.world.extents.pointer runs)) in
      let x : Extents = staged.world.extents in
      ⊎_elim
      (λ gone. inl (let up : (rooted_apart S F s runs).world.extents.generation e ≡ suc (s.world.extents.generation e) = gone.3 in omega arith))
      (λ kept. inr (record { generation = kept.2; found = kept.3; given = le_of_eq (sym kept.1); pages = λ i below inside. refl }))
      (each_extent S x staged.world.root (is_blank S staged) S.extents e)

  stages_leave : (s t : State) → StagesApart S F s t → (e : ℕ) → Leaves S s t e
  stages_leave s t (mid, runs, merges, is) e = subst (λ (x : State). Leaves S s x e) (sym is)
      (after_keeping S s mid (rooted_apart S F mid runs) e (merged merges) (rooted_leaves mid runs e))
    where
      merged : MergesApart S F s mid runs → KeepsPages S s mid e
      merged (inl m) = part_keeps true s mid ForRun (takes S s) (deletions_go S s (takes S s)) runs m e
      merged (inr m) = part_keeps true s mid ForMerge (length s.runs) (deletions_go S s (length s.runs)) runs m.1 e

  put_leaves : (s t : State) (id n : ℕ) (bytes : List ℕ) → Does S F s (Put id bytes) (Accepted n) t → (e : ℕ) → Leaves S s t e
  put_leaves s t id n bytes d e = subst (λ (x : State). Leaves S s x e) (sym d.6)
      (subst (λ (x : State). Leaves S s (record x {
        table = record { id = id; locators = d.1 } ∷ x.table;
        commands = (id, Some bytes) ∷ x.commands;
      }) e) (sym d.4.2) (restated (all_keep S.apart s d.4.0 ForPut (chunk_frames S F d.0) d.1 d.4.1 e)))
    where
      restated : Leaves S s (record s { world = d.4.0 }) e → Leaves S s (record s {
        world = d.4.0;
        table = record { id = id; locators = d.1 } ∷ s.table;
        commands = (id, Some bytes) ∷ s.commands;
      }) e
      restated (inl gone) = inl gone
      restated (inr kept) = inr (record { generation = kept.generation; found = kept.found; given = kept.given; pages = kept.pages })

  stage_leaves : (s t : State) (v : ℕ) → Does S F s Stage (Staged v) t → (e : ℕ) → Leaves S s t e
  stage_leaves s t v d e = elim (cases_Bool S.apart) [
    | inl on ↦ stages_leave s t (apart_rule _ _ S.apart on d).2 e
    | inr before ↦ (let o = before_rule _ _ S.apart before d in
        subst (λ (x : State). Leaves S s x e) (sym o.5)
        (after_keeping S s o.2 (rooted S F o.2 o.3 o.2.world.extents.pointer) e
        (part_keeps false s o.2 ForRun (stage_takes S s) (deletions_go S s (stage_takes S s)) o.3 o.4 e)
        (inr (root_keeps o.2 o.3 o.2.world.extents.pointer e))))
  ]

  begun_leaves : (s t : State) (d : ℕ) → Does S F s (BeginSweep d) Sweeping t → (e : ℕ) → Leaves S s t e
  begun_leaves s t d does e = elim (cases_Bool S.apart) [
    | inl on ↦ subst (λ (x : State). Leaves S s x e) (sym (apart_rule _ _ S.apart on does).5)
        (inr (record { generation = refl; found = refl; given = le_refl _; pages = λ i below inside. refl }))
    | inr before ↦ subst (λ (x : State). Leaves S s x e) (sym (before_rule _ _ S.apart before does).4)
        (inr (record { generation = refl; found = refl; given = le_refl _; pages = λ i below inside. refl }))
  ]

  move_leaves : (s t : State) (d id k : ℕ) → Does S F s (MoveOne d) (Moved id k) t → (e : ℕ) → Leaves S s t e
  move_leaves s t d id k does e = elim (cases_Bool S.apart) [
    | inl on ↦ (let o = apart_rule _ _ S.apart on does in
        let kept = frame_keeps true s o.3 ForMove ChunkFrame o.2 o.1 o.8 e in
        subst (λ (x : State). Leaves S s x e) (sym o.9)
        (inr (record { generation = kept.generation; found = kept.found; given = kept.given; pages = kept.pages })))
    | inr before ↦ (let o = before_rule _ _ S.apart before does in
        let kept = frame_keeps false s o.3 ForMove ChunkFrame o.2 o.1 o.8 e in
        subst (λ (x : State). Leaves S s x e) (sym o.9)
        (inr (record { generation = kept.generation; found = kept.found; given = kept.given; pages = kept.pages })))
  ]

  retire_leaves : (s t : State) (d v : ℕ) → Does S F s (Retire d) (Retired v) t → (e : ℕ) → Leaves S s t e
  retire_leaves s t d v does e = elim (cases_Bool S.apart) [
    | inl on ↦ after_keeping S s (settled (mark s d false)) t e
        (settled_alike (λ (x : State). KeepsPages S s x e) (mark s d false)
        (record { generation = refl; found = refl; given = le_refl _; pages = λ i below inside. refl }))
        (stages_leave (settled (mark s d false)) t (apart_rule _ _ S.apart on does).3 e)
    | inr before ↦ (let o = before_rule _ _ S.apart before does in
        subst (λ (x : State). Leaves S s x e) (sym o.6)
        (after_keeping S s o.3 (retired S F o.3 o.4 d) e
        (part_keeps false s o.3 ForMove (length s.runs) true o.4 (in_part S F s o.3 ForMove o.4 o.5) e)
        (reset_leaves o.3 o.4 d e)))
  ]

  does_leaves : (s t : State) (event : Event) (reply : Reply) → Does S F s event reply t → (e : ℕ) → Leaves S s t e
  does_leaves s t (Put id bytes) (Accepted n) d e = put_leaves s t id n bytes d e
  does_leaves s t (Get id) (Found bytes) d e = here S s t e d.1
  does_leaves s t (Get id) Absent d e = here S s t e d.1
  does_leaves s t (Delete id) (Accepted n) d e = subst (λ (x : State). Leaves S s x e) (sym d.2)
      (inr (record { generation = refl; found = refl; given = le_refl _; pages = λ i below inside. refl }))
  does_leaves s t (Delete id) Absent d e = here S s t e d.1
  does_leaves s t Stage Unchanged d e = here S s t e (unchanged S F s t d)
  does_leaves s t Stage (Staged v) d e = stage_leaves s t v d e
  does_leaves s t Begin Nothing d e = here S s t e d.2
  does_leaves s t Begin (Begun members) d e = subst (λ (x : State). Leaves S s x e) (sym d.6)
      (inr (record { generation = refl; found = refl; given = le_refl _; pages = λ i below inside. refl }))
  does_leaves s t Issue (Issued m) d e = subst (λ (x : State). Leaves S s x e) (sym d.3)
      (inr (record { generation = refl; found = refl; given = le_refl _; pages = λ i below inside. refl }))
  does_leaves s t End (Ended n) d e = subst (λ (x : State). Leaves S s x e) (sym d.2)
      (inr (record { generation = refl; found = refl; given = le_refl _; pages = λ i below inside. refl }))
  does_leaves s t (BeginSweep d) Sweeping does e = begun_leaves s t d does e
  does_leaves s t (MoveOne d) NoneLive does e = here S s t e (none_moved S F s t d does)
  does_leaves s t (MoveOne d) (Moved id k) does e = move_leaves s t d id k does e
  does_leaves s t (Retire d) (Retired v) does e = retire_leaves s t d v does e
  does_leaves s t (Abandon d) Abandoned does e = subst (λ (x : State). Leaves S s x e) (sym does.1)
      (inr (record { generation = refl; found = refl; given = le_refl _; pages = λ i below inside. refl }))
  does_leaves s t (Settle n) Persistent d e = here S s t e d.4
  does_leaves s t (Settle n) (NotYet f) d e = here S s t e d.2
  does_leaves s t event reply d e = absurd d

  pub step_leaves : (s t : State) (event : Event) (reply : Reply) → Step S F s event reply t → (e : ℕ) → Leaves S s t e
  step_leaves s t Issue (Refused f) (inl same) e = here S s t e same.1
  step_leaves s t Issue (Refused f) (inr fault) e = ⊎_elim
      (λ (is : t ≡ record s { halted = true }). subst (λ (x : State). Leaves S s x e) (sym is)
      (inr (record { generation = refl; found = refl; given = le_refl _; pages = λ i below inside. refl })))
      (λ w. subst (λ (x : State). Leaves S s x e) (sym w.4)
      (inr (record { generation = refl; found = refl; given = le_refl _; pages = λ i below inside. refl }))) fault.2
  step_leaves s t End (Refused f) (inl same) e = here S s t e same.1
  step_leaves s t End (Refused f) (inr fault) e = subst (λ (x : State). Leaves S s x e) (sym fault.2)
      (inr (record { generation = refl; found = refl; given = le_refl _; pages = λ i below inside. refl }))
  step_leaves s t event (Refused f) d e = here S s t e d.1
  step_leaves s t event reply d e = does_leaves s t event reply d.1 e
