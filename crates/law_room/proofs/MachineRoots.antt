-- A root is staged, and blank extents are reset, in the machine and in its room.
use Rattle.std.proofs.Common.{◌≡◌, ℕ, ◌<◌, ◌&&◌, ◌||◌, not, Bool, true, false, List, [], Option, Some, None, if◌then◌else◌, refl, sym, ap, ◌∙◌}
use Rattle.std.proofs.lemmas.Bool.{true≢false}
use Rattle.law_machine.proofs.ApartResets.{swept_stay}
use Rattle.law_machine.specs.Apart.{any_below, any_swept, freed, is_blank, named, rested, rooted_apart}
use Rattle.law_machine.specs.Device.{Shape}
use Rattle.law_machine.specs.Element.{Copy, Run}
use Rattle.law_machine.specs.Events.{newest_page, rooted}
use Rattle.law_machine.specs.Formats.{Formats}
use Rattle.law_machine.specs.Index.{entries_of, live_at}
use Rattle.law_machine.specs.State.{State}
use Rattle.law_room.proofs.MachineBlank.{blank_alike}
use Rattle.law_room.proofs.MachineFreed.{asides_alike, freed_alike, young_before}
use Rattle.law_room.proofs.MachineResets.{fresh_after_all}
use Rattle.law_room.specs.Events.{freed as room_freed, is_blank as room_blank, is_held as room_held}
use Rattle.law_room.specs.OfMachine.{AreChunksOf, AreExtentsOf, IsRoomBut, IsRoomOf, IsSweepOf, NoneWorn, copies_now, is_aside, of_id, run_places, targets_of}
use Rattle.law_room.specs.Rooms.{Room, Sweep, any_on, has, is_at}

if_true : {A : Type 0} (b : Bool) (x y : A) → b ≡ true → (if b then x else y) ≡ x
if_true true x y is = refl
if_true false x y wrong = absurd (true≢false (sym wrong))

module _ (S : Shape) (F : Formats) (apart : S.apart ≡ true) where
  -- room before blank extents are reset, and what it takes that they are reset as in the machine
  pub record IsReady (aside : ℕ → Bool) (copies : List Copy) (m : State) (runs : List Run) (r : Room) : Type 0 where
    pub extents : AreExtentsOf S aside m.world.extents r
    pub chunks : (id : ℕ) → AreChunksOf S F m.opening (newest_page m) m.world.extents.pointer m.world.extents.generation
        copies id 0 (live_at (entries_of runs) id) (of_id id r.chunks)
    pub runs_are : r.runs ≡ run_places runs
    pub rooted : r.rooted ≡ true
    pub sweep : IsSweepOf S m r.sweep
    pub one : (c d : ℕ) → m.world.extents.swept c ≡ true → m.world.extents.swept d ≡ true → c ≡ d
    -- nothing lies on what is set aside, and no sweep goes on then
    pub dead : (e : ℕ) → e < S.extents → aside e ≡ true → (any_on r.chunks e ≡ false) × (has r.runs e ≡ false)
        × (any_swept S m ≡ false) × (m.world.extents.fresh ≡ Some e)
    -- the unfinished sweep holds the extent that it opened
    pub held : (e : ℕ) → any_swept S m ≡ true → m.world.extents.fresh ≡ Some e → room_held r.sweep e ≡ true
    pub copies_are : copies ≡ copies_now S m

  abbrev pub now_rooted : State → List Run → State
  now_rooted m runs = rested S (rooted S F m runs (named m.world.extents.pointer runs))

  fresh_before : (m : State) (runs : List Run) (e : ℕ) → (now_rooted m runs).world.extents.fresh ≡ Some e
      → (any_swept S m ≡ true) × (m.world.extents.fresh ≡ Some e)
  fresh_before m runs e is = go (any_swept S m) refl is
    where
      go : (b : Bool) → any_swept S m ≡ b → (if b then m.world.extents.fresh else None) ≡ Some e
          → (any_swept S m ≡ true) × (m.world.extents.fresh ≡ Some e)
      go true on at = (on, at)
      go false off wrong = absurd (let no : None ≡ Some e = wrong in cc)

  sweep_rested : (m : State) (runs : List Run) (o : Option Sweep) → IsSweepOf S m o → IsSweepOf S (now_rooted m runs) o
  sweep_rested m runs None none = none
  sweep_rested m runs (Some w) (any, below, marked, fresh, targets) = (
    any,
    below,
    marked,
    fresh ∙ sym (if_true (any_swept S m) m.world.extents.fresh None any),
    targets ∙ ap targets_of (sym (if_true (any_swept S m) m.copies [] any)),
  )

  rested_room : (aside : ℕ → Bool) (copies : List Copy) (m : State) (runs : List Run) (r : Room)
      → IsReady aside copies m runs r → IsRoomBut S F aside copies (now_rooted m runs) r
  rested_room aside copies m runs r ready = record {
    extents = record {
      pointer = ready.extents.pointer;
      holds = ready.extents.holds;
      open_extent = ready.extents.open_extent;
      last = ready.extents.last;
      noted = record {
        appended = ready.extents.noted.appended;
        copied = ready.extents.noted.copied;
        opened = λ e is. ready.extents.noted.opened e (fresh_before m runs e is).1;
        empty = ready.extents.noted.empty;
      };
    };
    chunks = ready.chunks;
    runs = ready.runs_are;
    rooted = ready.rooted;
    sweep = sweep_rested m runs r.sweep ready.sweep;
  }

  unheld : (m : State) (o : Option Sweep) (e : ℕ) → any_swept S m ≡ false → IsSweepOf S m o → room_held o e ≡ false
  unheld m None e off is = refl
  unheld m (Some w) e off is = absurd (true≢false (sym is.0 ∙ off))

  pub root_staged : (aside : ℕ → Bool) (copies : List Copy) (m : State) (runs : List Run) (r : Room)
      → IsReady aside copies m runs r → NoneWorn S (rooted_apart S F m runs)
      → IsRoomOf S F (rooted_apart S F m runs) (room_freed r)
  root_staged aside copies m runs r ready young =
      let u : State = now_rooted m runs in
      let room : IsRoomBut S F aside copies u r = rested_room aside copies m runs r ready in
      let before : NoneWorn S u = young_before S F apart u young in
      let alike : (e : ℕ) → e < S.extents → 0 < m.world.extents.pointer e → is_blank S u e ≡ room_blank r e =
      λ e lt some. blank_alike S F u copies r ready.one room.chunks room.runs room.sweep e some (before e lt) in
      asides_alike S F (λ (e : ℕ). false) (is_aside S (freed S u)) copies (copies_now S (freed S u)) (freed S u) (room_freed r)
      (λ e. sym (none_left (any_swept S (freed S u)) (any_swept S m) m.world.extents.fresh (freed S u).world.extents.fresh e
      (ap (λ (f : ℕ → Bool). any_below f S.extents) (swept_stay S u.world.extents u.world.root (is_blank S u) S.extents))
      (fresh_after_all S apart u.world.extents u.world.root (is_blank S u) S.extents)))
      (ready.copies_are ∙ same_copies (any_swept S (freed S u)) (any_swept S m) m.copies
      (ap (λ (f : ℕ → Bool). any_below f S.extents) (swept_stay S u.world.extents u.world.root (is_blank S u) S.extents)))
      (freed_alike S F apart u ready.one aside copies r room
      (λ e lt on. (let out = ready.dead e lt on in
      alike e lt (ready.extents.noted.opened e out.3).1 ∙ blank_there r e out.0 out.1
      (unheld m r.sweep e out.2 ready.sweep)))
      (λ e is. (let was = fresh_before m runs e is in let filled = ready.extents.noted.opened e was.1 in
      alike e filled.0 filled.1 ∙ held_there r e (ready.held e was.0 was.1)))
      young)
    where
      none_left : (b a : Bool) (o p : Option ℕ) (e : ℕ) → b ≡ a → p ≡ (if a then o else None) → (not b && is_at p e) ≡ false
      none_left true a o p e same is = refl
      none_left false true o p e wrong is = absurd (true≢false (sym wrong))
      none_left false false o p e same is = ap (λ (q : Option ℕ). is_at q e) is

      same_copies : (b a : Bool) (cs : List Copy) → b ≡ a
          → (if a then cs else []) ≡ (if b then (if a then cs else []) else [])
      same_copies true true cs same = refl
      same_copies false false cs same = refl
      same_copies true false cs wrong = refl
      same_copies false true cs wrong = absurd (true≢false (sym wrong))

      blank_there : (r : Room) (e : ℕ) → any_on r.chunks e ≡ false → has r.runs e ≡ false → room_held r.sweep e ≡ false
          → room_blank r e ≡ true
      blank_there r e a b c = rw (a, b, c) refl

      held_there : (r : Room) (e : ℕ) → room_held r.sweep e ≡ true → room_blank r e ≡ false
      held_there r e on = rw on (any (any_on r.chunks e) (has r.runs e))
        where
          any : (a b : Bool) → not (a || (b || true)) ≡ false
          any true b = refl
          any false true = refl
          any false false = refl
