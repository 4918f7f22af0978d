-- A store of the machine that is opened at a root has room.
use Rattle.std.proofs.Common.{◌≡◌, ◌≢◌, inl, inr, ⊎_elim, ℕ, zero, suc, ◌<◌, ◌==◌, ◌&&◌, ◌||◌, not, Bool, true, false, List, [], ◌∷◌, map, Option, Some, None, if◌then◌else◌, refl, sym, ap, ◌∙◌, subst, arith}
use Rattle.std.proofs.lemmas.Bool.{cases_Bool, eqb-true, ne_eqb, true≢false}
use Rattle.law_machine.proofs.ApartResets.{none_swept}
use Rattle.law_machine.proofs.Opens.{opens_bounded, opens_sound}
use Rattle.law_machine.specs.Apart.{any_run_on, any_swept, freed, is_blank}
use Rattle.law_machine.specs.Cut.{page_in}
use Rattle.law_machine.specs.Device.{IsShape, Page, Shape}
use Rattle.law_machine.specs.Element.{Locator, Map, Run, writes_of}
use Rattle.law_machine.specs.Events.{newest_page}
use Rattle.law_machine.specs.Formats.{Formats}
use Rattle.law_machine.specs.Index.{AllPass, entries_of, live, live_at, lookup}
use Rattle.law_machine.specs.Lists.{◌∈◌}
use Rattle.law_machine.specs.Machine.{everything}
use Rattle.law_machine.specs.Open.{extents_read, opened_state, opened_world, superblocks_read}
use Rattle.law_machine.specs.Recovery.{Recovers}
use Rattle.law_machine.specs.State.{State}
use Rattle.law_room.proofs.Chunks.{any_of, forget_on}
use Rattle.law_room.proofs.MachineBlank.{lives_there, runs_alike}
use Rattle.law_room.proofs.MachineFreed.{asides_alike, freed_alike, if_apart, opened_is, read}
use Rattle.law_room.proofs.MachineGoes.{holds_runs}
use Rattle.law_room.proofs.MachineResets.{fresh_after_all}
use Rattle.law_room.proofs.NewStore.{new_keeps}
use Rattle.law_room.proofs.Opening.{open_keeps}
use Rattle.law_room.specs.Events.{forget, found_holding, freed as room_freed, is_blank as room_blank, opened}
use Rattle.law_room.specs.Example.{new_room}
use Rattle.law_room.specs.Invariant.{IsRoot, Keeps}
use Rattle.law_room.specs.OfMachine.{AreChunksOf, HasRoomNow, IsRoomBut, IsRoomOf, IsRootIn, NoneWorn, copies_now, holding, is_aside, of_id}
use Rattle.law_room.specs.Rooms.{Chunk, Empty, Room, Root, any_on, has, is_at, is_named}

no_run_on : (runs : List Run) (e : ℕ) → ((run : Run) → run ∈ runs → run.place.extent ≢ e) → any_run_on runs e ≡ false
no_run_on [] e none = refl
no_run_on (run ∷ runs) e none = let off : (run.place.extent == e) ≡ false = ne_eqb run.place.extent e (none run (inl refl)) in
    rw off (no_run_on runs e (λ x there. none x (inr there)))

pub run_on : (runs : List Run) (e : ℕ) → any_run_on runs e ≡ true → (run : Run) × (run ∈ runs) × (run.place.extent ≡ e)
run_on [] e wrong = absurd (true≢false (sym wrong))
run_on (run ∷ runs) e is = go (run.place.extent == e) refl is (λ on. run_on runs e on)
  where
    go : (b : Bool) → (run.place.extent == e) ≡ b → (b || any_run_on runs e) ≡ true
        → (any_run_on runs e ≡ true → (x : Run) × (x ∈ runs) × (x.place.extent ≡ e))
        → (x : Run) × (x ∈ run ∷ runs) × (x.place.extent ≡ e)
    go true at on rest = (run, inl refl, eqb-true run.place.extent e at)
    go false at on rest = let found = rest on in (found.0, inr found.1, found.2)

or_second : (a b : Bool) → a ≡ false → (a || b) ≡ true → b ≡ true
or_second true b wrong is = absurd (true≢false wrong)
or_second false b off is = is

pub forgotten_in : (cs : List Chunk) (c : Chunk) → c ∈ cs → forget c ∈ map forget cs
forgotten_in [] c none = absurd none
forgotten_in (x ∷ cs) c (inl is) = inl (ap forget is)
forgotten_in (x ∷ cs) c (inr there) = inr (forgotten_in cs c there)

module _ (S : Shape) (F : Formats) (apart : S.apart ≡ true) (img : ℕ → Page) (n : ℕ) (m : Map)
    (gives : Recovers S F img n m) where
  pub no_writes : (k : ℕ) → writes_of (superblocks_read S F img n m gives k) ≡ []
  no_writes zero = refl
  no_writes (suc k) = no_writes k

  pub newest_is : newest_page (read S F apart img n m gives) ≡ img
  newest_is = λ i p. page_in (everything (opened_world S F img n m gives)) img (no_writes S.sections i) p

  runs_read : (extents_read S F img n m gives).of_runs ≡ any_run_on gives.runs
  runs_read = if_apart S F apart img n m gives S.apart (any_run_on gives.runs) (λ (d : ℕ). false) apart

  run_given : (run : Run) → run ∈ gives.runs → 0 < gives.pointers run.place.extent
  run_given run there = let below : run.place.page < gives.pointers run.place.extent =
      (gives.gives.runs_read run there).passes.below in omega arith

  module _ (p : Root) (is : IsRootIn S F img n m gives p) where
    -- room as it was read, before blank extents are reset
    abbrev room_read : Room
    room_read = record (opened p gives.pointers) {
      pointer = gives.pointers;
      holds = holding (extents_read S F img n m gives);
    }

    read_room : IsRoomBut S F (λ (e : ℕ). false) [] (read S F apart img n m gives) room_read
    read_room = record {
      extents = record {
        pointer = λ e lt. refl;
        holds = λ e lt. refl;
        open_extent = refl;
        last = refl;
        noted = record {
          appended = λ e at. absurd (let wrong : None ≡ Some e = at in cc);
          copied = λ e at. absurd (let wrong : None ≡ Some e = at in cc);
          opened = λ e at. absurd (let wrong : None ≡ Some e = at in cc);
          empty = λ e lt none. (
            ap (λ (f : ℕ → Bool). f e) runs_read ∙ no_run_on gives.runs e (λ run there at.
                (let some : 0 < gives.pointers run.place.extent = run_given run there in
                let same : gives.pointers run.place.extent ≡ gives.pointers e = ap gives.pointers at in omega arith)),
            ap (λ (f : ℕ → ℕ). f e) (if_apart S F apart img n m gives S.apart gives.pointers (λ (d : ℕ). 0) apart) ∙ none,
          );
        };
      };
      chunks = λ id. subst (λ (f : ℕ → Page). AreChunksOf S F (read S F apart img n m gives).opening f gives.pointers
          gives.generations [] id 0 (live_at (entries_of gives.runs) id) (of_id id (map forget p.chunks))) (sym newest_is) (is.names.chunks id);
      runs = is.names.runs;
      rooted = refl;
      sweep = none_swept (λ (e : ℕ). false) S.extents (λ e. refl);
    }

    passed : (l : Locator) (o : Option (List Locator)) → AllPass S F img gives.pointers gives.generations o → l ∈ live o
        → 0 < gives.pointers l.extent
    passed l None all none = absurd none
    passed l (Some ls) all there = let below : l.page < gives.pointers l.extent = (all l there).below in omega arith

    named_there : (e : ℕ) → is_named p e ≡ true → (0 < gives.pointers e)
        × (holding (extents_read S F img n m gives) e ≡ found_holding (any_on p.chunks e) (has p.runs e))
    named_there e named = elim (cases_Bool (any_on p.chunks e)) [
      | inl on ↦ (let c = any_of p.chunks e on in
          let l = lives_there S F (read S F apart img n m gives) [] room_read.chunks read_room.chunks (forget c.0)
          (forgotten_in p.chunks c.0 c.1) in
          let some : 0 < gives.pointers e = subst (λ (d : ℕ). 0 < gives.pointers d) (sym l.2 ∙ c.2)
          (passed l.0 (lookup c.0.id (entries_of gives.runs)) (gives.gives.visible_pass c.0.id) l.1) in
          let off : has p.runs e ≡ false = ap (has p.runs) (sym c.2) ∙ is.root.apart c.0 c.1 in (
            some,
            holds_runs (extents_read S F img n m gives) e false some
                (ap (λ (f : ℕ → Bool). f e) runs_read ∙ runs_alike gives.runs e ∙ ap (λ (ds : List ℕ). has ds e) (sym is.names.runs) ∙ off)
                ∙ sym (rw on refl),
          ))
      | inr off ↦ (let run : has p.runs e ≡ true = or_second (any_on p.chunks e) (has p.runs e) off named in
          let at = run_on gives.runs e (runs_alike gives.runs e ∙ ap (λ (ds : List ℕ). has ds e) (sym is.names.runs) ∙ run) in
          let some : 0 < gives.pointers e = subst (λ (d : ℕ). 0 < gives.pointers d) at.2 (run_given at.0 at.1) in (
            some,
            holds_runs (extents_read S F img n m gives) e true some
                (ap (λ (f : ℕ → Bool). f e) runs_read ∙ runs_alike gives.runs e ∙ ap (λ (ds : List ℕ). has ds e) (sym is.names.runs) ∙ run)
                ∙ sym (rw (off, run) refl),
          ))
    ]

    blank_is : (e : ℕ) → room_blank room_read e ≡ not (is_named p e)
    blank_is e = ap (λ (b : Bool). not (b || (has p.runs e || false))) (forget_on p.chunks e)
        ∙ ap (λ (b : Bool). not (any_on p.chunks e || b)) (or_none (has p.runs e))
      where
        or_none : (b : Bool) → (b || false) ≡ b
        or_none true = refl
        or_none false = refl

    pointer_is : (e : ℕ) → (opened p gives.pointers).pointer e ≡ (room_freed room_read).pointer e
    pointer_is e = either (is_named p e) ∙ ap (λ (b : Bool). if b then 0 else gives.pointers e) (sym (blank_is e))
      where
        either : (b : Bool) → (if b then gives.pointers e else 0) ≡ (if not b then 0 else gives.pointers e)
        either true = refl
        either false = refl

    unnamed : (a b : Bool) → (a || b) ≡ false → found_holding a b ≡ Empty
    unnamed true b wrong = absurd (true≢false wrong)
    unnamed false true wrong = absurd (true≢false wrong)
    unnamed false false off = refl

    holds_is : (e : ℕ) → (opened p gives.pointers).holds e ≡ (room_freed room_read).holds e
    holds_is e = elim (cases_Bool (is_named p e)) [
      | inl named ↦ sym (named_there e named).1 ∙ sym (ap (λ (b : Bool). if b then Empty else holding
          (extents_read S F img n m gives) e) (blank_is e ∙ ap not named))
      | inr off ↦ unnamed (any_on p.chunks e) (has p.runs e) off ∙ sym (ap (λ (b : Bool). if b then Empty else holding
          (extents_read S F img n m gives) e) (blank_is e ∙ ap not off))
    ]

    opened_room : NoneWorn S (opened_state S F img n m gives)
        → IsRoomOf S F (opened_state S F img n m gives) (opened p gives.pointers)
    opened_room young =
        let done : IsRoomBut S F (λ (e : ℕ). false) [] (freed S (read S F apart img n m gives)) (room_freed room_read) =
        freed_alike S F apart (read S F apart img n m gives) (λ c d wrong. absurd (true≢false (sym wrong))) (λ (e : ℕ). false) []
        room_read read_room (λ e lt wrong. absurd (true≢false (sym wrong)))
        (λ e at. absurd (let wrong : None ≡ Some e = at in cc))
        (subst (λ (s : State). NoneWorn S s) (opened_is S F apart img n m gives) young) in
        subst (λ (s : State). IsRoomOf S F s (opened p gives.pointers)) (sym (opened_is S F apart img n m gives))
        (asides_alike S F (λ (e : ℕ). false) (is_aside S (freed S (read S F apart img n m gives))) []
        (copies_now S (freed S (read S F apart img n m gives))) (freed S (read S F apart img n m gives)) (opened p gives.pointers)
        (λ e. sym (no_fresh (any_swept S (freed S (read S F apart img n m gives)))
        (freed S (read S F apart img n m gives)).world.extents.fresh e
        (fresh_after_all S apart (read S F apart img n m gives).world.extents (read S F apart img n m gives).world.root
        (is_blank S (read S F apart img n m gives)) S.extents)))
        (no_copies (any_swept S (freed S (read S F apart img n m gives)))) (record {
          extents = record {
            pointer = λ e lt. pointer_is e ∙ done.extents.pointer e lt;
            holds = λ e lt. holds_is e ∙ done.extents.holds e lt;
            open_extent = done.extents.open_extent;
            last = done.extents.last;
            noted = done.extents.noted;
          };
          chunks = done.chunks;
          runs = done.runs;
          rooted = done.rooted;
          sweep = done.sweep;
        }))
      where
        no_fresh : (b : Bool) (o : Option ℕ) (e : ℕ) → o ≡ None → (not b && is_at o e) ≡ false
        no_fresh true o e is = refl
        no_fresh false o e is = ap (λ (x : Option ℕ). is_at x e) is

        no_copies : (b : Bool) → [] ≡ (if b then (read S F apart img n m gives).copies else [])
        no_copies true = refl
        no_copies false = refl

    -- a room with this root alone
    rooted_keeps : IsShape S → Keeps S S.run_extents (record new_room { roots = p ∷ [] })
    rooted_keeps shape = let k = new_keeps S S.run_extents (shape.apart apart).3 in record {
      quotas = record { chunks = k.quotas.chunks; runs = k.quotas.runs };
      lies = record {
        given = k.lies.given;
        fits = k.lies.fits;
        empty = k.lies.empty;
        chunks = k.lies.chunks;
        runs = k.lies.runs;
      };
      sweeps = k.sweeps;
      roots = λ r there. ⊎_elim (λ (same : r ≡ p). subst (λ (x : Root). IsRoot S S.run_extents x) (sym same) is.root)
          (λ none. absurd none) there;
    }

    pub opened_has_room : IsShape S → NoneWorn S (opened_state S F img n m gives)
        → HasRoomNow S F (opened_state S F img n m gives) (opened p gives.pointers)
    opened_has_room shape young = record {
      sound = opens_sound S F shape img n m gives;
      bounded = opens_bounded S F shape img n m gives;
      room = opened_room young;
      keeps = open_keeps S S.run_extents (record new_room { roots = p ∷ [] }) p gives.pointers (rooted_keeps shape) (inl refl)
          (λ e lt. (gives.extents_fit e).0) is.names.given;
      unopened = λ none. ap (λ (x : State). x.world.extents.fresh) (opened_is S F apart img n m gives)
          ∙ fresh_after_all S apart (read S F apart img n m gives).world.extents (read S F apart img n m gives).world.root
          (is_blank S (read S F apart img n m gives)) S.extents;
    }
