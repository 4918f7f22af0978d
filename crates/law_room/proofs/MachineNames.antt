-- Room has the roots of the machine, and every event keeps that.
use Rattle.std.proofs.Common.{◌≡◌, ◌⊎◌, inl, inr, ⊎_elim, ℕ, ◌+◌, ◌<◌, ◌≤◌, ◌||◌, Bool, true, false, List, [], ◌∷◌, length, map, if◌then◌else◌, le-leb, le_trans, le_of_eq, true≢false, refl, sym, ap, ◌∙◌, subst, arith}
use Rattle.std.proofs.lemmas.Bool.{or_cases}
use Rattle.law_machine.proofs.ApartResets.{blank, each_extent, run_there}
use Rattle.law_machine.proofs.ClosedSets.{gt-leb, page_same}
use Rattle.law_machine.proofs.Kept.{history_on}
use Rattle.law_machine.proofs.Named.{named_live, named_run}
use Rattle.law_machine.proofs.Rules.{apart_rule}
use Rattle.law_machine.proofs.Staying.{root_stays, step_roots}
use Rattle.law_machine.specs.Apart.{is_blank, is_none, named, rooted_apart}
use Rattle.law_machine.specs.Cut.{held_by, section_of}
use Rattle.law_machine.specs.Device.{IsShape, Page, Shape}
use Rattle.law_machine.specs.Element.{Locator, Opening, Root as StagedRoot, Run, Write, roots_of, writes_of}
use Rattle.law_machine.specs.Events.{newest_page}
use Rattle.law_machine.specs.Formats.{ChunkFrame, Formats}
use Rattle.law_machine.specs.Frames.{IsFormat}
use Rattle.law_machine.specs.Guard.{page_as_staged}
use Rattle.law_machine.specs.Index.{entries_of, live_at}
use Rattle.law_machine.specs.Lists.{◌∈◌}
use Rattle.law_machine.specs.Machine.{everything, root_now}
use Rattle.law_machine.specs.Sound.{Sound}
use Rattle.law_machine.specs.State.{Event, Reply, Retire, Retired, Stage, Staged, State, map_now}
use Rattle.law_machine.specs.Stays.{KeepsRoots}
use Rattle.law_machine.specs.Step.{Step}
use Rattle.law_room.proofs.Chunks.{any_of, has_of}
use Rattle.law_room.proofs.MachineBlank.{lives_there, runs_alike}
use Rattle.law_room.proofs.MachineChunks.{chunks_move, pages_move, reads_there}
use Rattle.law_room.proofs.MachineFreed.{kept_there}
use Rattle.law_room.proofs.MachineOpening.{run_on}
use Rattle.law_room.proofs.MachineRoots.{now_rooted}
use Rattle.law_room.proofs.MachineSteps.{step_room}
use Rattle.law_room.proofs.MachineSweeps.{forgotten_all, forgotten_are}
use Rattle.law_room.proofs.MachineWrites.{GoesOn, on_step}
use Rattle.law_room.proofs.NamedNow.{event_named, event_roots, named_lies}
use Rattle.law_room.specs.Events.{forget}
use Rattle.law_room.specs.OfMachine.{AreChunksOf, HasRoomNow, InRoom, Names, NoneWorn, copies_now, of_id}
use Rattle.law_room.specs.RootsOfMachine.{HasRootsOf, IsRoomy, IsRootOf, NamesNow}
use Rattle.law_room.specs.Rooms.{Chunk, Room, Root, any_on, has, is_named}

-- where something is named lies an extent that is there
named_inside : (S : Shape) (F : Formats) (s : State) (r : Room) → HasRoomNow S F s r → (e : ℕ)
    → (any_on r.chunks e || has r.runs e) ≡ true → e < S.extents
named_inside S F s r room e on = ⊎_elim
    (λ chunk. (let c = any_of r.chunks e chunk in
    subst (λ (d : ℕ). d < S.extents) c.2 (room.keeps.lies.chunks c.0 c.1).0))
    (λ run. (room.keeps.lies.runs e (has_of r.runs e run)).0) (or_cases (any_on r.chunks e) (has r.runs e) on)

module _ (S : Shape) (F : Formats) (apart : S.apart ≡ true) where
  -- the root that is staged where chunks and runs lie apart
  abbrev root_apart : State → List Run → StagedRoot
  root_apart mid runs = root_now S mid.world (mid.count + length mid.commands) runs (map_now mid)
      (named mid.world.extents.pointer runs)

  -- that root was staged last, and nothing since
  abbrev pub IsNewest : State → StagedRoot → Type 0
  IsNewest t q = (mid : State) × (runs : List Run) × (t ≡ rooted_apart S F mid runs) × (q ≡ root_apart mid runs)

  module _ (mid : State) (runs : List Run) (sound : Sound S F (rooted_apart S F mid runs)) (r : Room)
      (room : HasRoomNow S F (rooted_apart S F mid runs) r) (p : Root) (names : NamesNow r p) where
    abbrev now : State
    now = rooted_apart S F mid runs

    abbrev q : StagedRoot
    q = root_apart mid runs

    -- its pages are those that were staged last
    page_is : (x : ℕ) → newest_page now x ≡ page_as_staged S q now.opened (writes_of now.world.elements) x
    page_is x = page_same (everything now.world) (held_by q (section_of S x)) now.opened (writes_of now.world.elements) x
        (λ (w : Write) there at. sym (le-leb w.number (mid.world.behind (section_of S x))
        ((sound.settled (S.extent x)).pages w there (ap S.extent at))))

    -- where something lives the extent is as the root says
    live_is : (id : ℕ) (l : Locator) → l ∈ live_at (entries_of runs) id
        → (q.pointers l.extent ≡ now.world.extents.pointer l.extent)
        × (q.generations l.extent ≡ now.world.extents.generation l.extent)
    live_is id l there = let kept = kept_there S F apart (now_rooted S F apart mid runs) id l there in
        (named_live mid.world.extents.pointer runs id l there ∙ sym kept.0, sym kept.1)

    run_is : (run : Run) → run ∈ runs → q.pointers run.place.extent ≡ now.world.extents.pointer run.place.extent
    run_is run there = named_run mid.world.extents.pointer runs run there ∙ ⊎_elim
        (λ reset. absurd (true≢false (sym (run_there runs run there)
        ∙ (blank S (now_rooted S F apart mid runs) run.place.extent reset.1).no_run)))
        (λ kept. sym kept.1)
        (each_extent S (now_rooted S F apart mid runs).world.extents (now_rooted S F apart mid runs).world.root
        (is_blank S (now_rooted S F apart mid runs)) S.extents run.place.extent)

    chunks_are : (id : ℕ) → AreChunksOf S F now.opening (page_as_staged S q now.opened (writes_of now.world.elements))
        q.pointers q.generations [] id 0 (live_at (entries_of runs) id) (of_id id (map forget p.chunks))
    chunks_are id = subst (λ (cs : List Chunk). AreChunksOf S F now.opening
        (page_as_staged S q now.opened (writes_of now.world.elements)) q.pointers q.generations [] id 0
        (live_at (entries_of runs) id) (of_id id cs)) (sym names.chunks)
        (subst (λ (cs : List Chunk). AreChunksOf S F now.opening
        (page_as_staged S q now.opened (writes_of now.world.elements)) q.pointers q.generations [] id 0
        (live_at (entries_of runs) id) cs) (sym (forgotten_all id r.chunks))
        (subst (λ (img : ℕ → Page). AreChunksOf S F now.opening img q.pointers q.generations [] id 0
        (live_at (entries_of runs) id) (map forget (of_id id r.chunks))) (λ i x. page_is x i)
        (chunks_move S F now.opening now.opening (newest_page now) (newest_page now) now.world.extents.pointer
        now.world.extents.generation q.pointers q.generations [] [] id 0 (live_at (entries_of runs) id)
        (map forget (of_id id r.chunks))
        (λ l n there. pages_move S F now.opening now.opening (newest_page now) (newest_page now) now.world.extents.pointer
        now.world.extents.generation q.pointers q.generations l n refl refl
        (λ payload. reads_there S F now.opening (newest_page now) now.world.extents.pointer now.world.extents.generation
        q.pointers q.generations l (F.frame ChunkFrame payload) (live_is id l there).0 (live_is id l there).1))
        (λ j l there. refl)
        (forgotten_are S F now.opening (newest_page now) now.world.extents.pointer now.world.extents.generation
        (copies_now S now) id 0 (live_at (entries_of runs) id) (of_id id r.chunks) (room.room.chunks id)))))

    pointer_is : (e : ℕ) → is_named p e ≡ true → q.pointers e ≡ now.world.extents.pointer e
    pointer_is e on = ⊎_elim
        (λ chunk. (let c = any_of r.chunks e chunk in
        let l = lives_there S F now (copies_now S now) r.chunks room.room.chunks c.0 c.1 in
        subst (λ (d : ℕ). q.pointers d ≡ now.world.extents.pointer d) (sym l.2 ∙ c.2) (live_is c.0.id l.0 l.1).0))
        (λ run. (let at = run_on runs e (runs_alike runs e ∙ ap (λ (ds : List ℕ). has ds e) (sym room.room.runs) ∙ run) in
        subst (λ (d : ℕ). q.pointers d ≡ now.world.extents.pointer d) at.2 (run_is at.0 at.1)))
        (or_cases (any_on r.chunks e) (has r.runs e) (sym (named_lies r p names e) ∙ on))

    aside_le : (b : Bool) (n m : ℕ) → n ≡ (if b then 0 else m) → n ≤ m
    aside_le true n m is = omega arith
    aside_le false n m is = omega arith

    inside : (e : ℕ) → is_named p e ≡ true → e < S.extents
    inside e on = named_inside S F now r room e (sym (named_lies r p names e) ∙ on)

    root_names : IsRootOf S F now q p
    root_names = record {
      names = record {
        chunks = chunks_are;
        runs = names.runs ∙ room.room.runs;
        given = λ e on. le_trans (names.given e on) (le_trans (aside_le _ (r.pointer e) (now.world.extents.pointer e)
            (room.room.extents.pointer e (inside e on))) (le_of_eq (sym (pointer_is e on))));
      };
      fits = λ e on. le_trans (names.given e on) (room.keeps.lies.fits e (inside e on));
    }

  newest_names : (t : State) (q : StagedRoot) (r : Room) (p : Root) → IsNewest t q → HasRoomNow S F t r → NamesNow r p
      → IsRootOf S F t q p
  newest_names t q r p (mid, runs, is, same) room names =
      subst (λ (x : StagedRoot). IsRootOf S F t x p) (sym same)
      (subst (λ (x : State). HasRoomNow S F x r → IsRootOf S F x (root_apart mid runs) p) (sym is)
      (λ has. root_names mid runs has.sound r has p names) room)

  -- what a root was is what it was
  older_names : (s t : State) (q : StagedRoot) (p : Root) → Sound S F s → q ∈ roots_of s.world.elements
      → t.opened ≡ s.opened → t.opening ≡ s.opening → GoesOn s.world t.world → IsRootOf S F s q p → IsRootOf S F t q p
  older_names s t q p sound there opened opening on is = record {
    names = subst (λ (o : Opening). Names S F o (page_as_staged S q t.opened (writes_of t.world.elements)) q.pointers
        q.generations q.runs p) (sym opening)
        (subst (λ (img : ℕ → Page). Names S F s.opening img q.pointers q.generations q.runs p) (λ i x. pages x i) is.names);
    fits = is.fits;
  }
    where
      pages : (x : ℕ) → page_as_staged S q s.opened (writes_of s.world.elements) x
          ≡ page_as_staged S q t.opened (writes_of t.world.elements) x
      pages x = sym (on.pages (held_by q (section_of S x)) s.opened
          (λ n lt. gt-leb n (q.writes (section_of S x))
          (let below : q.writes (section_of S x) ≤ s.world.written = (sound.safe.roots_below q there).2 (section_of S x) in
          omega arith)) x)
          ∙ ap (λ (img : ℕ → Page). page_as_staged S q img (writes_of t.world.elements) x) (sym opened)

  -- the roots of a state after an event
  one_more : (s t mid : State) (v : ℕ) (runs : List Run) → t ≡ rooted_apart S F mid runs
      → (root : StagedRoot) → roots_of t.world.elements ≡ root ∷ roots_of s.world.elements
      → (q : StagedRoot) → q ∈ roots_of t.world.elements → (q ∈ roots_of s.world.elements) ⊎ IsNewest t q
  one_more s t mid v runs is root added q there =
      let now : roots_of t.world.elements ≡ root_apart mid runs ∷ roots_of mid.world.elements =
      ap (λ (x : State). roots_of x.world.elements) is in
      let both : root ∷ roots_of s.world.elements ≡ root_apart mid runs ∷ roots_of mid.world.elements = sym added ∙ now in
      let rest : roots_of mid.world.elements ≡ roots_of s.world.elements = cc in
      ⊎_elim (λ same. inr (mid, runs, is, same)) (λ old. inl (subst (λ (rs : List StagedRoot). q ∈ rs) rest old))
      (subst (λ (rs : List StagedRoot). q ∈ rs) now there)

  same_roots : (s t : State) → KeepsRoots s t → (q : StagedRoot) → q ∈ roots_of t.world.elements
      → (q ∈ roots_of s.world.elements) ⊎ IsNewest t q
  same_roots s t keeps q there = inl (subst (λ (rs : List StagedRoot). q ∈ rs) keeps.roots there)

  roots_after : (s t : State) (event : Event) (reply : Reply) → Step S F s event reply t → (q : StagedRoot)
      → q ∈ roots_of t.world.elements → (q ∈ roots_of s.world.elements) ⊎ IsNewest t q
  roots_after s t Stage (Staged v) step = let o = apart_rule _ _ S.apart apart step.1 in
      let added = step_roots S F s t Stage (Staged v) step in
      one_more s t o.2.0 v o.2.1 o.2.3 added.root added.roots
  roots_after s t (Retire e) (Retired v) step = let o = apart_rule _ _ S.apart apart step.1 in
      let added = step_roots S F s t (Retire e) (Retired v) step in
      one_more s t o.3.0 v o.3.1 o.3.3 added.root added.roots
  roots_after s t event (Staged v) step = absurd step.1
  roots_after s t event (Retired v) step = absurd step.1
  roots_after s t event reply step = same_roots s t (step_roots S F s t event reply step)

  module _ (shape : IsShape S) (format : IsFormat S F) (s t : State) (r : Room) (has : IsRoomy S F s r)
      (young : NoneWorn S t) (event : Event) (reply : Reply) (step : Step S F s event reply t) where
    -- after a root was staged the table is empty
    newest_rooted : (q : Room) → HasRoomNow S F t q → (x : StagedRoot) → IsNewest t x → q.rooted ≡ true
    newest_rooted q room x (mid, runs, is, same) = room.room.rooted ∙ ap (λ (y : State). is_none y.table) is

    has_roots : (q : Room) → InRoom S F event reply r q → HasRoomNow S F t q → HasRootsOf S F t q
    has_roots q in_room room =
        let present = event_named S F event reply r q in_room has.room.keeps has.roots.present in
        let kept = history_on S F s t ((event, reply) ∷ []) (t, step, refl) in record {
          staged = λ x there late. ⊎_elim
              (λ (old : x ∈ roots_of s.world.elements). (let was = has.roots.staged x old
              (le_trans (root_stays S F s t event reply has.room.sound step) late) in (
                was.0,
                event_roots S F event reply r q in_room was.0 was.1,
                older_names s t x was.0 has.room.sound old kept.opened kept.opening
                    (on_step S F s t apart event reply step) was.2,
              )))
              (λ newest. (let p = present (newest_rooted q room x newest) in
              (p.0, p.1, newest_names t x q p.0 newest room p.2)))
              (roots_after s t event reply step x there);
          present = present;
        }

    pub step_roomy : (q : Room) × InRoom S F event reply r q × IsRoomy S F t q
    step_roomy = let o = step_room S F shape format apart s t r has.room young event reply step in
        (o.0, o.1, record { room = o.2; roots = has_roots o.0 o.1 o.2 })
