-- Blank extents are reset in the machine and in its room; a new store has room.
use Rattle.std.proofs.Common.{◌≡◌, ⊎_elim, ℕ, suc, ◌<◌, ◌&&◌, not, Bool, true, false, List, ◌∷◌, [], Option, Some, None, if◌then◌else◌, true≢false, refl, sym, ap, ◌∙◌, subst, arith}
use Rattle.law_machine.proofs.ApartResets.{blank, each_extent, none_swept, swept_stay}
use Rattle.law_machine.proofs.Opens.{opens_bounded, opens_sound}
use Rattle.law_machine.specs.Apart.{any_below, any_run_on, any_swept, freed, is_blank}
use Rattle.law_machine.specs.Device.{IsShape, Page, Shape}
use Rattle.law_machine.specs.Element.{Copy, Locator, Map, Run}
use Rattle.law_machine.specs.Events.{newest_page}
use Rattle.law_machine.specs.Formats.{ChunkFrame, Formats, places}
use Rattle.law_machine.specs.Frames.{IsFormat}
use Rattle.law_machine.specs.Index.{entries_of, live_at}
use Rattle.law_machine.specs.Lists.{◌∈◌}
use Rattle.law_machine.specs.Open.{extents_read, opened_state, state_read}
use Rattle.law_machine.specs.Recovery.{IsNew, Recovers}
use Rattle.law_machine.specs.State.{State, index_now}
use Rattle.law_room.proofs.MachineBlank.{blank_alike}
use Rattle.law_room.proofs.MachineChunks.{chunks_move, pages_move, reads_there}
use Rattle.law_room.proofs.NewStore.{new_keeps}
use Rattle.law_room.proofs.MachineResets.{fresh_after_all, reset_alike}
use Rattle.law_room.specs.Events.{freed as room_freed, is_blank as room_blank}
use Rattle.law_room.specs.Example.{new_room}
use Rattle.law_room.specs.OfMachine.{AreChunksIn, AreChunksOf, HasRoomNow, IsRoomBut, IsRoomOf, IsSweepOf, NoneWorn, copies_now, holding, is_aside, of_id, run_places, targets_of}
use Rattle.law_room.specs.Rooms.{Chunk, Room, Sweep, is_at}

module _ (S : Shape) (F : Formats) (apart : S.apart ≡ true) (s : State) where
  -- generations only rise
  pub young_before : NoneWorn S (freed S s) → NoneWorn S s
  young_before young e lt = ⊎_elim
      (λ reset. (let later : (freed S s).world.extents.generation e < S.greatest_generation = young e lt in
      let up : (freed S s).world.extents.generation e ≡ suc (s.world.extents.generation e) = reset.3 in omega arith))
      (λ kept. (let later : (freed S s).world.extents.generation e < S.greatest_generation = young e lt in
      let same : (freed S s).world.extents.generation e ≡ s.world.extents.generation e = kept.2 in omega arith))
      (each_extent S s.world.extents s.world.root (is_blank S s) S.extents e)

  -- where something lives the extent is as it was
  pub kept_there : (id : ℕ) (l : Locator) → l ∈ live_at (index_now s) id
      → ((freed S s).world.extents.pointer l.extent ≡ s.world.extents.pointer l.extent)
      × ((freed S s).world.extents.generation l.extent ≡ s.world.extents.generation l.extent)
  kept_there id l has_it = ⊎_elim
      (λ reset. absurd ((blank S s l.extent reset.1).dead id l has_it refl))
      (λ kept. (kept.1, kept.2))
      (each_extent S s.world.extents s.world.root (is_blank S s) S.extents l.extent)

  pub chunks_freed : (copies : List Copy) (id : ℕ) (cs : List Chunk) → AreChunksIn S F s copies id cs
      → AreChunksIn S F (freed S s) copies id cs
  chunks_freed copies id cs are = chunks_move S F s.opening s.opening (newest_page s) (newest_page s)
      s.world.extents.pointer s.world.extents.generation (freed S s).world.extents.pointer
      (freed S s).world.extents.generation copies copies id 0 (live_at (index_now s) id) cs
      (λ l n has_it. pages_move S F s.opening s.opening (newest_page s) (newest_page s)
      s.world.extents.pointer s.world.extents.generation (freed S s).world.extents.pointer
      (freed S s).world.extents.generation l n refl refl
      (λ payload. reads_there S F s.opening (newest_page s) s.world.extents.pointer s.world.extents.generation
      (freed S s).world.extents.pointer (freed S s).world.extents.generation l (F.frame ChunkFrame payload)
      (kept_there id l has_it).0 (kept_there id l has_it).1))
      (λ j l has_it. refl) are

-- what is set aside, and which copies count, is the same
pub asides_alike : (S : Shape) (F : Formats) (f g : ℕ → Bool) (copies more : List Copy) (s : State) (r : Room)
    → ((e : ℕ) → f e ≡ g e) → copies ≡ more → IsRoomBut S F f copies s r → IsRoomBut S F g more s r
asides_alike S F f g copies more s r same is room = subst (λ (h : ℕ → Bool). IsRoomBut S F h more s r) (λ i e. same e i)
    (subst (λ (cs : List Copy). IsRoomBut S F f cs s r) is room)

pub sweep_moves : (S : Shape) (s t : State) (o : Option Sweep) → t.world.extents.swept ≡ s.world.extents.swept
    → t.world.extents.fresh ≡ s.world.extents.fresh → t.copies ≡ s.copies → IsSweepOf S s o → IsSweepOf S t o
sweep_moves S s t None swept fresh copies none = ap (λ (f : ℕ → Bool). any_below f S.extents) swept ∙ none
sweep_moves S s t (Some w) swept fresh copies (any, below, marked, opened, targets) = (
  ap (λ (f : ℕ → Bool). any_below f S.extents) swept ∙ any,
  below,
  ap (λ (f : ℕ → Bool). f w.extent) swept ∙ marked,
  opened ∙ sym fresh,
  targets ∙ ap targets_of (sym copies),
)

module _ (S : Shape) (F : Formats) (apart : S.apart ≡ true) (s : State)
    (one : (c d : ℕ) → s.world.extents.swept c ≡ true → s.world.extents.swept d ≡ true → c ≡ d) where
  pub freed_alike : (aside : ℕ → Bool) (copies : List Copy) (r : Room) → IsRoomBut S F aside copies s r
      → ((e : ℕ) → e < S.extents → aside e ≡ true → is_blank S s e ≡ true)
      → ((e : ℕ) → s.world.extents.fresh ≡ Some e → is_blank S s e ≡ false) → NoneWorn S (freed S s)
      → IsRoomBut S F (λ (e : ℕ). false) copies (freed S s) (room_freed r)
  freed_alike aside copies r room goes fresh young = record {
    extents = reset_alike S apart aside (is_blank S s) s.world.extents s.world.root r (room_blank r) room.extents goes
        (λ e lt off some. blank_alike S F s copies r one room.chunks room.runs room.sweep e some
        (young_before S F apart s young e lt)) fresh;
    chunks = λ id. chunks_freed S F apart s copies id (of_id id r.chunks) (room.chunks id);
    runs = room.runs;
    rooted = room.rooted;
    sweep = sweep_moves S s (freed S s) r.sweep
        (swept_stay S s.world.extents s.world.root (is_blank S s) S.extents)
        (fresh_after_all S apart s.world.extents s.world.root (is_blank S s) S.extents) refl room.sweep;
  }

-- a store that is opened where no run is named
module _ (S : Shape) (F : Formats) (apart : S.apart ≡ true) (img : ℕ → Page) (n : ℕ) (m : Map)
    (gives : Recovers S F img n m) where
  abbrev pub read : State
  read = state_read S F img n m gives

  pub opened_is : opened_state S F img n m gives ≡ freed S read
  opened_is = ap (λ (b : Bool). record read {
    world = record read.world { extents = if b then (freed S read).world.extents else extents_read S F img n m gives };
  }) apart

  abbrev before : Room
  before = record new_room { pointer = gives.pointers; holds = holding (extents_read S F img n m gives) }

  pub if_apart : {A : Type 0} (b : Bool) (x y : A) → b ≡ true → (if b then x else y) ≡ x
  if_apart true x y is = refl
  if_apart false x y wrong = absurd (true≢false (sym wrong))

  before_is : gives.runs ≡ [] → IsRoomBut S F (λ (e : ℕ). false) [] read before
  before_is none = record {
    extents = record {
      pointer = λ e lt. refl;
      holds = λ e lt. refl;
      open_extent = refl;
      last = refl;
      noted = record {
        appended = λ e is. absurd (let wrong : None ≡ Some e = is in cc);
        copied = λ e is. absurd (let wrong : None ≡ Some e = is in cc);
        opened = λ e is. absurd (let wrong : None ≡ Some e = is in cc);
        empty = λ e lt is. (
          ap (λ (f : ℕ → Bool). f e) (if_apart S.apart (any_run_on gives.runs) (λ (d : ℕ). false) apart)
              ∙ ap (λ (rs : List Run). any_run_on rs e) none,
          ap (λ (f : ℕ → ℕ). f e) (if_apart S.apart gives.pointers (λ (d : ℕ). 0) apart) ∙ is,
        );
      };
    };
    chunks = λ id. subst (λ (rs : List Run). AreChunksOf S F read.opening (newest_page read) gives.pointers gives.generations [] id 0
        (live_at (entries_of rs) id) []) (sym none) refl;
    runs = ap run_places (sym none);
    rooted = refl;
    sweep = none_swept (λ (e : ℕ). false) S.extents (λ e. refl);
  }

  pub new_room_of : gives.runs ≡ [] → NoneWorn S (opened_state S F img n m gives)
      → IsRoomOf S F (opened_state S F img n m gives) new_room
  new_room_of none young = subst (λ (s : State). IsRoomOf S F s new_room) (sym opened_is)
      (asides_alike S F (λ (e : ℕ). false) (is_aside S (freed S read)) [] (copies_now S (freed S read)) (freed S read) new_room
      (λ e. sym (no_fresh (any_swept S (freed S read)) (freed S read).world.extents.fresh e
      (fresh_after_all S apart read.world.extents read.world.root (is_blank S read) S.extents)))
      (no_copies (any_swept S (freed S read)))
      (freed_alike S F apart read (λ c d wrong. absurd (true≢false (sym wrong))) (λ (e : ℕ). false) [] before
      (before_is none) (λ e lt wrong. absurd (true≢false (sym wrong)))
      (λ e is. absurd (let wrong : None ≡ Some e = is in cc))
      (subst (λ (s : State). NoneWorn S s) opened_is young)))
    where
      no_fresh : (b : Bool) (o : Option ℕ) (e : ℕ) → o ≡ None → (not b && is_at o e) ≡ false
      no_fresh true o e is = refl
      no_fresh false o e is = ap (λ (x : Option ℕ). is_at x e) is

      no_copies : (b : Bool) → [] ≡ (if b then read.copies else [])
      no_copies true = refl
      no_copies false = refl

  pub new_has_room : IsShape S → gives.runs ≡ [] → NoneWorn S (opened_state S F img n m gives)
      → HasRoomNow S F (opened_state S F img n m gives) new_room
  new_has_room shape none young = record {
    sound = opens_sound S F shape img n m gives;
    bounded = opens_bounded S F shape img n m gives;
    room = new_room_of none young;
    keeps = new_keeps S S.run_extents (shape.apart apart).3;
    unopened = λ is. ap (λ (x : State). x.world.extents.fresh) opened_is
        ∙ fresh_after_all S apart read.world.extents read.world.root (is_blank S read) S.extents;
  }

  no_runs : (runs : List Run) → places runs ≡ [] → runs ≡ []
  no_runs [] is = refl
  no_runs (run ∷ runs) wrong = absurd cc

  pub made_runs : IsFormat S F → IsNew S F img → gives.runs ≡ []
  made_runs format made = no_runs gives.runs
      (format.one_root gives.version 1 n 0 (places gives.runs) [] gives.root_fits made.root_fits
      (sym gives.root ∙ made.root)).1
