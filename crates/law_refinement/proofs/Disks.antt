-- What the disk of a state reads as, and what a crash may leave of it.
use Rattle.std.proofs.Common.{◌≡◌, ◌≢◌, inl, inr, ℕ, ◌<◌, Bool, true, false, ◌==◌, List, [], ◌∷◌, ◌++◌, length, Some, None, if◌then◌else◌, eq-eqb, ne_eqb, refl, sym, ap, ap₂, ◌∙◌, subst, arith}
use Rattle.std.proofs.lemmas.Bool.{cases_Bool, cases_eq}
use Rattle.cs_disk.proofs.Images.{length-applied, page-applied}
use Rattle.cs_disk.specs.Disk.{Image, MayLeave, State as DiskState, applied as applied_to, flushed, kept, latest, page, seen, written as written_to}
use Rattle.law_machine.proofs.Device.{flush_makes, writes_more}
use Rattle.law_machine.proofs.Quiet.{none_moved, unchanged}
use Rattle.law_machine.proofs.Rules.{apart_rule, before_rule}
use Rattle.law_machine.specs.Apart.{sweeping}
use Rattle.law_machine.specs.Device.{IsShape, Page, Shape}
use Rattle.law_machine.specs.Disk.{applied, kept_of, page_write, page_writes, written}
use Rattle.law_machine.specs.Append.{AppendsFrame, AppendsFrameBy, chunk_frames}
use Rattle.law_machine.specs.Element.{Copy, Element, Entry, Locator, Run, log_of}
use Rattle.law_machine.specs.Events.{Does, Merged, issued_one, mark, retired, rooted}
use Rattle.law_machine.specs.Extents.{ForMove, ForPut, ForRun}
use Rattle.law_machine.specs.Index.{live_at}
use Rattle.law_machine.specs.Lists.{replaced, with}
use Rattle.law_machine.specs.Merges.{deletions_go, stage_takes}
use Rattle.law_machine.specs.Safe.{IsStaged}
use Rattle.law_machine.specs.Formats.{ChunkFrame, Formats, image}
use Rattle.law_machine.specs.Machine.{BeginRound, EndRound, World, happens}
use Rattle.law_machine.specs.Sound.{Sound, crashed}
use Rattle.law_machine.specs.State.{Abandon, Abandoned, Absent, Accepted, Begin, BeginSweep, Begun, Command, Delete, End, Event, Found, Get, Issue, Issued, MoveOne, Moved, NoneLive, NotYet, Nothing, Persistent, Put, Refused, Reply, Retire, Retired, Settle, Stage, Staged, State, Sweeping, Unchanged, index_now}
use Rattle.law_machine.specs.Step.{Step}
use Rattle.law_refinement.specs.Devices.{IsDeviceOf, IsDiskOf, persistent_image}
use Rattle.law_refinement.proofs.ImagesStay.{Keeps, Stays, append_stays, appends_stay, merge_stays, other_extents, part_keeps, retires_keep, rooted_stays, stages_keep}

-- the last write to a page, in the words of the disk and in those of the machine
same_latest : (writes : List (ℕ × Page)) (img : ℕ → Page) (p : ℕ) → latest writes p (img p) ≡ applied img writes p
same_latest [] img p = refl
same_latest (w ∷ writes) img p =
    ap (latest writes p) here ∙ same_latest writes (written img w.0 w.1) p
  where
    here : (if w.0 == p then w.1 else img p) ≡ written img w.0 w.1 p
    here = elim (cases_eq w.0 p) [
      | inl is ↦ (let a : (w.0 == p) ≡ true = eq-eqb w.0 p is in let b : (p == w.0) ≡ true = eq-eqb p w.0 (sym is) in rw (a, b) refl)
      | inr not ↦ (let a : (w.0 == p) ≡ false = ne_eqb w.0 p not in let b : (p == w.0) ≡ false = ne_eqb p w.0 (λ is. not (sym is)) in rw (a, b) refl)
    ]

same_kept : (mask : List Bool) (writes : List (ℕ × Page)) → kept mask writes ≡ kept_of mask writes
same_kept [] writes = refl
same_kept (true ∷ mask) [] = refl
same_kept (false ∷ mask) [] = refl
same_kept (true ∷ mask) (w ∷ writes) = ap (λ (ws : List (ℕ × Page)). w ∷ ws) (same_kept mask writes)
same_kept (false ∷ mask) (w ∷ writes) = same_kept mask writes

module _ (S : Shape) (F : Formats) (s : State) (disk : DiskState) (is : IsDiskOf S F s disk) where
  -- the durable pages with these writes
  with_writes : (writes : List (ℕ × Page)) (p : ℕ) → p < length (applied_to disk.durable writes)
      → page (applied_to disk.durable writes) p ≡ applied (persistent_image S F s) writes p
  with_writes writes p inside =
      let below : p < length disk.durable = (let same : length (applied_to disk.durable writes) ≡ length disk.durable = length-applied disk.durable writes in omega arith) in
      page-applied disk.durable writes p below ∙ ap (latest writes p) (is.durable p below) ∙ same_latest writes (persistent_image S F s) p

  pub reads : IsDeviceOf S F s (seen disk)
  reads p inside = with_writes disk.volatile p inside ∙ ap (λ (ws : List (ℕ × Page)). applied (persistent_image S F s) ws p) is.volatile

  pub crash : (left : Image) → MayLeave disk left → (mask : List Bool) × ((p : ℕ) → p < length left → page left p ≡ crashed S F s mask p)
  crash left may = (
    may.0,
    λ p inside. ap (λ (img : Image). page img p) may.2
        ∙ with_writes (kept may.0 disk.volatile) p (subst (λ (img : Image). p < length img) may.2 inside)
        ∙ ap (λ (ws : List (ℕ × Page)). applied (persistent_image S F s) ws p) (same_kept may.0 disk.volatile ∙ ap (kept_of may.0) is.volatile),
  )

  pub issue : (before behind : List Element) (m : Element) → s.left ≡ before ++ m ∷ behind
      → Does S F s Issue (Issued m) (issued_one S F s before m behind)
      × IsDiskOf S F (issued_one S F s before m behind) (written_to disk (page_write S F m).0 (page_write S F m).1)
  issue before behind m left = (
    (before, behind, left, refl),
    record {
      durable = is.durable;
      volatile = ap (λ (ws : List (ℕ × Page)). ws ++ page_write S F m ∷ []) is.volatile ∙ sym (writes_more S F s.issued m);
    },
  )

  -- the disk after a flush is that of the state in which the round is persistent
  pub flush : IsShape S → Sound S F s → s.round_out ≡ true → s.left ≡ []
      → IsDiskOf S F (record s { world = happens S s.world EndRound; round_out = false; left = []; issued = [] }) (flushed disk)
  flush store sound out none = record {
    durable = λ p inside. reads p inside ∙ flush_makes S F store s sound out none p;
    volatile = refl;
  }

  -- a state in which more was staged, and the same was issued
  after : (t : State) → t.opened ≡ s.opened → t.issued ≡ s.issued → Stays S F s.world.persistent s.opened s.world t.world → IsDiskOf S F t disk
  after t opened issued stays = record {
    durable = λ p inside. is.durable p inside ∙ sym (stays.same p)
        ∙ ap₂ (λ (P : _) (o : ℕ → Page). image S F P o (log_of t.world.elements) p) (sym stays.persistent) (sym opened);
    volatile = is.volatile ∙ ap (page_writes S F) (sym issued);
  }

  -- a state with the same elements
  alike : (t : State) → t.opened ≡ s.opened → t.issued ≡ s.issued → t.world.elements ≡ s.world.elements → t.world.persistent ≡ s.world.persistent → IsDiskOf S F t disk
  alike t opened issued elements persistent = record {
    durable = λ p inside. is.durable p inside
        ∙ ap (λ (els : List Element). image S F s.world.persistent s.opened (log_of els) p) (sym elements)
        ∙ ap₂ (λ (P : _) (o : ℕ → Page). image S F P o (log_of t.world.elements) p) (sym persistent) (sym opened);
    volatile = is.volatile ∙ ap (page_writes S F) (sym issued);
  }

  -- another table and other commands, and the same world
  retabled : (u : State) (table : List Entry) (commands : List Command) → IsDiskOf S F u disk → IsDiskOf S F (record u { table = table; commands = commands }) disk
  retabled u table commands was = record { durable = was.durable; volatile = was.volatile }

  here : (t u : State) → t ≡ u → IsDiskOf S F u disk → IsDiskOf S F t disk
  here t u same was = subst (λ (z : State). IsDiskOf S F z disk) (sym same) was

  kept_disk : (t : State) → Keeps S F s.world.persistent s.opened s t → IsDiskOf S F t disk
  kept_disk t k = after t k.same_opened k.same_issued k.world

  -- ---- events that go by either rule

  staged_one : (t : State) (version : ℕ) → IsStaged S s.world s.world.persistent → Does S F s Stage (Staged version) t → IsDiskOf S F t disk
  staged_one t version low does = elim (cases_Bool S.apart) [
    | inl on ↦ (let o = apart_rule _ _ S.apart on does in kept_disk t (stages_keep S F s.world.persistent s.opened s t low o.2))
    | inr before ↦ (let o = before_rule _ _ S.apart before does in
        kept_disk t (part_keeps S F s.world.persistent s.opened s o.2 t (deletions_go S s (stage_takes S s)) (stage_takes S s) ForRun o.3 low o.4 o.5))
  ]

  begun : (t : State) (e : ℕ) → Does S F s (BeginSweep e) Sweeping t → IsDiskOf S F t disk
  begun t e does = elim (cases_Bool S.apart) [
    | inl on ↦ here t (sweeping S s e) (apart_rule _ _ S.apart on does).5 (alike (sweeping S s e) refl refl refl refl)
    | inr before ↦ here t (mark s e true) (before_rule _ _ S.apart before does).4 (alike (mark s e true) refl refl refl refl)
  ]

  moved_before : (t mid : State) (id k : ℕ) (new : Locator) (payload : List ℕ) → IsStaged S s.world s.world.persistent → AppendsFrame S F s ForMove ChunkFrame payload new mid
      → t ≡ record mid { table = record { id = id; locators = replaced (live_at (index_now s) id) k new } ∷ mid.table } → IsDiskOf S F t disk
  moved_before t mid id k new payload low (v, append, same) done =
      let table : List Entry = record { id = id; locators = replaced (live_at (index_now s) id) k new } ∷ s.table in
      let next : State = record s { world = v; table = table } in
      here t next (done ∙ ap (λ (u : State). record u { table = record { id = id; locators = replaced (live_at (index_now s) id) k new } ∷ u.table }) same)
      (after next refl refl (append_stays S F s.world.persistent s.opened false s.world v ForMove (F.frame ChunkFrame payload) new low append))

  moved_apart : (t mid : State) (c : Copy) (payload : List ℕ) → IsStaged S s.world s.world.persistent → AppendsFrameBy S F true s ForMove ChunkFrame payload c.to mid
      → t ≡ record mid { copies = c ∷ mid.copies } → IsDiskOf S F t disk
  moved_apart t mid c payload low (v, append, same) done =
      let next : State = record s { world = v; copies = c ∷ s.copies } in
      here t next (done ∙ ap (λ (u : State). record u { copies = c ∷ u.copies }) same)
      (after next refl refl (append_stays S F s.world.persistent s.opened true s.world v ForMove (F.frame ChunkFrame payload) c.to low append))

  moved_one : (t : State) (e id k : ℕ) → IsStaged S s.world s.world.persistent → Does S F s (MoveOne e) (Moved id k) t → IsDiskOf S F t disk
  moved_one t e id k low does = elim (cases_Bool S.apart) [
    | inl on ↦ (let o = apart_rule _ _ S.apart on does in moved_apart t o.3 (record { id = id; chunk = k; from = o.0; to = o.1 }) o.2 low o.8 o.9)
    | inr before ↦ (let o = before_rule _ _ S.apart before does in moved_before t o.3 id k o.1 o.2 low o.8 o.9)
  ]

  retired_before : (t mid : State) (e : ℕ) (runs : List Run) → IsStaged S s.world s.world.persistent → Merged S F s ForMove mid runs → t ≡ retired S F mid runs e → IsDiskOf S F t disk
  retired_before t mid e runs low (v, merges, same) done =
      let next : State = retired S F (record s { world = v }) runs e in
      let root : World = (rooted S F (record s { world = v }) runs (with v.extents.pointer e 0)).world in
      here t next (done ∙ ap (λ (u : State). retired S F u runs e) same)
      (after next refl refl (other_extents S F s.world.persistent s.opened s.world root next.world.extents
      (rooted_stays S F s.world.persistent s.opened s v runs (with v.extents.pointer e 0) (merge_stays S F s.world.persistent s.opened s.world v (index_now s) ForMove runs low merges))))

  retired_one : (t : State) (e version : ℕ) → IsStaged S s.world s.world.persistent → Does S F s (Retire e) (Retired version) t → IsDiskOf S F t disk
  retired_one t e version low does = elim (cases_Bool S.apart) [
    | inl on ↦ (let o = apart_rule _ _ S.apart on does in kept_disk t (retires_keep S F s.world.persistent s.opened s t e low o.3))
    | inr before ↦ (let o = before_rule _ _ S.apart before does in retired_before t o.3 e o.4 low o.5 o.6)
  ]

  -- ---- all events but Issue and End

  pub other : (t : State) (event : Event) (reply : Reply) → IsStaged S s.world s.world.persistent → Does S F s event reply t → event ≢ Issue → event ≢ End → (s.round_out ≡ false → s.issued ≡ []) → IsDiskOf S F t disk
  other t (Put id bytes) (Accepted n) low (cs, ls, mid, cut, (v, all, same), number, done) a b c =
      let next : State = record s { world = v; table = record { id = id; locators = ls } ∷ s.table; commands = (id, Some bytes) ∷ s.commands } in
      here t next (done ∙ ap (λ (u : State). record u { table = record { id = id; locators = ls } ∷ u.table; commands = (id, Some bytes) ∷ u.commands }) same)
      (after next refl refl (appends_stay S F s.world.persistent s.opened S.apart s.world v ForPut (chunk_frames S F cs) ls low all))
  other t (Put id bytes) reply low does a b c = absurd does
  other t (Get id) (Found bytes) low does a b c = here t s does.1 is
  other t (Get id) Absent low does a b c = here t s does.1 is
  other t (Get id) reply low does a b c = absurd does
  other t (Delete id) (Accepted n) low does a b c =
      here t (record s { table = record { id = id; locators = [] } ∷ s.table; commands = (id, None) ∷ s.commands }) does.2 (retabled s (record { id = id; locators = [] } ∷ s.table) ((id, None) ∷ s.commands) is)
  other t (Delete id) Absent low does a b c = here t s does.1 is
  other t (Delete id) reply low does a b c = absurd does
  other t Stage Unchanged low does a b c = here t s (unchanged S F s t does) is
  other t Stage (Staged version) low does a b c = staged_one t version low does
  other t Stage reply low does a b c = absurd does
  other t Begin Nothing low does a b c = here t s does.2 is
  other t Begin (Begun members) low (out, R, round, are, once, some, done) a b c =
      let next : State = record s { world = happens S s.world (BeginRound R); round_out = true; left = members; issued = [] } in
      here t next done (alike next refl (sym (c out)) refl refl)
  other t Begin reply low does a b c = absurd does
  other t Issue reply low does a b c = absurd (a refl)
  other t End reply low does a b c = absurd (b refl)
  other t (BeginSweep e) Sweeping low does a b c = begun t e does
  other t (BeginSweep e) reply low does a b c = absurd does
  other t (MoveOne e) NoneLive low does a b c = here t s (none_moved S F s t e does) is
  other t (MoveOne e) (Moved id k) low does a b c = moved_one t e id k low does
  other t (MoveOne e) reply low does a b c = absurd does
  other t (Retire e) (Retired version) low does a b c = retired_one t e version low does
  other t (Retire e) reply low does a b c = absurd does
  other t (Abandon e) Abandoned low does a b c = here t (mark s e false) does.1 (alike (mark s e false) refl refl refl refl)
  other t (Abandon e) reply low does a b c = absurd does
  other t (Settle n) Persistent low does a b c = here t s does.4 is
  other t (Settle n) (NotYet f) low does a b c = here t s does.2 is
  other t (Settle n) reply low does a b c = absurd does

  -- no step but Issue and End, whether it is refused or not
  pub step_stays : (t : State) (event : Event) (reply : Reply) → Sound S F s → Step S F s event reply t → event ≢ Issue → event ≢ End → IsDiskOf S F t disk
  step_stays t Issue reply sound step a b = absurd (a refl)
  step_stays t End reply sound step a b = absurd (b refl)
  step_stays t event (Refused f) sound step a b = here t s step.1 is
  step_stays t event reply sound step a b = other t event reply sound.safe.staged step.1 a b (λ out. (sound.idle out).1)
