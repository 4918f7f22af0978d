-- A sweep of the machine begins and is given up as one of room.
use Rattle.std.proofs.Common.{◌≡◌, inl, inr, ℕ, zero, suc, ◌<◌, ◌==◌, ◌&&◌, not, Bool, true, false, List, [], ◌∷◌, ◌++◌, map, Option, Some, None, if◌then◌else◌, eq-eqb, refl, sym, ap, ◌∙◌, subst}
use Rattle.std.proofs.lemmas.Bool.{cases_Bool, true≢false}
use Rattle.law_machine.proofs.ApartResets.{swept_below}
use Rattle.law_machine.proofs.Keeps.{steps}
use Rattle.law_machine.proofs.Rules.{apart_rule}
use Rattle.law_machine.specs.Apart.{any_below, any_swept, sweeping}
use Rattle.law_machine.specs.Device.{IsShape, Page, Shape}
use Rattle.law_machine.specs.Element.{Copy, Locator, Opening}
use Rattle.law_machine.specs.Events.{mark, newest_page}
use Rattle.law_machine.specs.Extents.{Extents, other_than}
use Rattle.law_machine.specs.Formats.{Formats}
use Rattle.law_machine.specs.Frames.{IsFormat}
use Rattle.law_machine.specs.Index.{live_at}
use Rattle.law_machine.specs.State.{Abandon, Abandoned, BeginSweep, State, Sweeping, index_now}
use Rattle.law_machine.specs.Step.{Step}
use Rattle.law_room.proofs.Gaining.{begun}
use Rattle.law_room.proofs.MachineFreed.{asides_alike}
use Rattle.law_room.proofs.MachineGoes.{filled_here}
use Rattle.law_room.proofs.Opening.{abandon_keeps, begin_keeps}
use Rattle.law_room.specs.Events.{Abandon as RoomAbandon, BeginSweep as RoomBegin, Does as RoomDoes, abandoned, forget, unless}
use Rattle.law_room.specs.OfMachine.{AreChunksIn, AreChunksOf, AreExtentsOf, HasRoomNow, IsRoomBut, IsRoomOf, IsSweepOf, copies_now, is_aside, of_id, targets_of}
use Rattle.law_room.specs.Rooms.{Chunk, Empty, Holding, OfChunks, Room, Sweep, is_at}

-- which sweep goes on
pub no_sweep : (S : Shape) (s : State) (o : Option Sweep) → any_swept S s ≡ false → IsSweepOf S s o → o ≡ None
no_sweep S s None off none = refl
no_sweep S s (Some w) off is = absurd (true≢false (sym is.0 ∙ off))

pub some_sweep : (S : Shape) (s : State) (o : Option Sweep) → any_swept S s ≡ true → IsSweepOf S s o
    → (w : Sweep) × (o ≡ Some w)
some_sweep S s None on none = absurd (true≢false (sym on ∙ none))
some_sweep S s (Some w) on is = (w, refl)

-- nothing is set aside while a sweep goes on
pub none_aside : (S : Shape) (s : State) → any_swept S s ≡ true → (e : ℕ) → is_aside S s e ≡ false
none_aside S s on e = ap (λ (b : Bool). not b && is_at s.world.extents.fresh e) on

pub all_copies : (S : Shape) (s : State) → any_swept S s ≡ true → copies_now S s ≡ s.copies
all_copies S s on = ap (λ (b : Bool). if b then s.copies else []) on

pub no_copies : (S : Shape) (s : State) → any_swept S s ≡ false → copies_now S s ≡ []
no_copies S s off = ap (λ (b : Bool). if b then s.copies else []) off

other_alike : (e : ℕ) (o : Option ℕ) → unless (λ d. d == e) (unless (λ (d : ℕ). false) o)
    ≡ unless (λ (d : ℕ). false) (other_than e o)
other_alike e None = refl
other_alike e (Some d) = either (d == e)
  where
    either : (b : Bool) → (if b then None else Some d) ≡ unless (λ (c : ℕ). false) (if b then None else Some d)
    either true = refl
    either false = refl

was_noted : (e d : ℕ) (o : Option ℕ) → other_than e o ≡ Some d → o ≡ Some d
was_noted e d None is = is
was_noted e d (Some c) is = go (c == e) is
  where
    go : (b : Bool) → (if b then None else Some c) ≡ Some d → Some c ≡ Some d
    go true wrong = absurd (let no_more : None ≡ Some d = wrong in cc)
    go false same = same

module _ (S : Shape) (F : Formats) (shape : IsShape S) (format : IsFormat S F) (apart : S.apart ≡ true) where
  marked_now : (s : State) (e : ℕ) → e < S.extents → any_swept S (sweeping S s e) ≡ true
  marked_now s e lt = swept_below (λ d. if d == e then true else s.world.extents.swept d) S.extents e lt
      (let test : (e == e) ≡ true = eq-eqb e e refl in rw test refl)

  pub begin_room : (s t : State) (r : Room) (e : ℕ) → HasRoomNow S F s r → Step S F s (BeginSweep e) Sweeping t
      → (q : Room) × RoomDoes S S.run_extents r (RoomBegin e) q × HasRoomNow S F t q
  begin_room s t r e has step =
      let d = apart_rule _ _ S.apart apart step.1 in
      let kept = steps S F shape format s t (BeginSweep e) Sweeping has.sound has.bounded step in
      let none : s.world.extents.fresh ≡ None = has.unopened d.1 in
      let on : any_swept S (sweeping S s e) ≡ true = marked_now s e d.2 in
      let idle : r.sweep ≡ None = no_sweep S s r.sweep d.0 has.room.sweep in
      let plain : IsRoomBut S F (λ (c : ℕ). false) [] s r = asides_alike S F (is_aside S s) (λ (c : ℕ). false)
      (copies_now S s) [] s r (λ c. ap (λ (b : Bool). not b && is_at s.world.extents.fresh c) d.0
      ∙ ap (λ (o : Option ℕ). is_at o c) none) (no_copies S s d.0) has.room in
      let kind : r.holds e ≡ OfChunks = filled_here S (λ (c : ℕ). false) s.world.extents r plain.extents e refl d.3 d.2 false d.4 in
      let room : IsRoomBut S F (λ (c : ℕ). false) [] (sweeping S s e) (begun r e) = record {
        extents = record {
          pointer = plain.extents.pointer;
          holds = plain.extents.holds;
          open_extent = ap (unless (λ c. c == e)) plain.extents.open_extent ∙ other_alike e s.world.extents.open_extent;
          last = ap (unless (λ c. c == e)) plain.extents.last ∙ other_alike e s.world.extents.last;
          noted = record {
            appended = λ c is. plain.extents.noted.appended c (was_noted e c s.world.extents.open_extent is);
            copied = λ c is. plain.extents.noted.copied c (was_noted e c s.world.extents.last is);
            opened = plain.extents.noted.opened;
            empty = plain.extents.noted.empty;
          };
        };
        chunks = plain.chunks;
        runs = plain.runs;
        rooted = plain.rooted;
        sweep = (
          on,
          d.2,
          (let test : (e == e) ≡ true = eq-eqb e e refl in rw test refl),
          sym none,
          ap targets_of (sym d.1),
        );
      } in (
        begun r e,
        (idle, d.2, kind, refl),
        record {
          sound = kept.0;
          bounded = kept.1;
          room = subst (λ (x : State). IsRoomOf S F x (begun r e)) (sym d.5)
              (asides_alike S F (λ (c : ℕ). false) (is_aside S (sweeping S s e)) [] (copies_now S (sweeping S s e)) (sweeping S s e)
              (begun r e) (λ c. sym (none_aside S (sweeping S s e) on c)) (sym (all_copies S (sweeping S s e) on ∙ d.1)) room);
          keeps = begin_keeps S S.run_extents r e has.keeps idle d.2 kind;
          unopened = λ is. ap (λ (x : State). x.world.extents.fresh) d.5 ∙ none;
        },
      )

-- the copies are forgotten
pub forgotten_all : (id : ℕ) (cs : List Chunk) → of_id id (map forget cs) ≡ map forget (of_id id cs)
forgotten_all id [] = refl
forgotten_all id (c ∷ cs) = step (c.id == id) (forgotten_all id cs)
  where
    step : (b : Bool) → of_id id (map forget cs) ≡ map forget (of_id id cs)
        → (if b then forget c ∷ of_id id (map forget cs) else of_id id (map forget cs))
        ≡ map forget (if b then c ∷ of_id id cs else of_id id cs)
    step true rest = ap (λ (xs : List Chunk). forget c ∷ xs) rest
    step false rest = rest

map_last : (xs : List Chunk) (c : Chunk) → map forget (xs ++ c ∷ []) ≡ map forget xs ++ forget c ∷ []
map_last [] c = refl
map_last (x ∷ xs) c = ap (λ (ys : List Chunk). forget x ∷ ys) (map_last xs c)

pub forgotten_are : (S : Shape) (F : Formats) (opening : Opening) (img : ℕ → Page) (p g : ℕ → ℕ) (copies : List Copy)
    (id k : ℕ) (ls : List Locator) (cs : List Chunk) → AreChunksOf S F opening img p g copies id k ls cs
    → AreChunksOf S F opening img p g [] id k ls (map forget cs)
forgotten_are S F opening img p g copies id k [] cs none = ap (map forget) none
forgotten_are S F opening img p g copies id k (l ∷ ls) cs (c, rest, parts, is, more) = (
  forget c,
  map forget rest,
  ap (map forget) parts ∙ map_last rest c,
  record { id = is.id; extent = is.extent; pages = is.pages; copy = refl },
  forgotten_are S F opening img p g copies id (suc k) ls rest more,
)

pub unmarked_below : (test : ℕ → Bool) (e n : ℕ) → ((d : ℕ) → test d ≡ true → e ≡ d)
    → any_below (λ d. if d == e then false else test d) n ≡ false
unmarked_below test e zero one = refl
unmarked_below test e (suc n) one = go (n == e) refl (unmarked_below test e n one)
  where
    go : (b : Bool) → (n == e) ≡ b → any_below (λ d. if d == e then false else test d) n ≡ false
        → any_below (λ d. if d == e then false else test d) (suc n) ≡ false
    go true is rest = rw is rest
    go false is rest = rw is (rw (off is) rest)
      where
        off : (n == e) ≡ false → test n ≡ false
        off is = elim (cases_Bool (test n)) [
          | inl on ↦ absurd (true≢false (sym (eq-eqb n e (sym (one n on))) ∙ is))
          | inr not_on ↦ not_on
        ]

module _ (S : Shape) (F : Formats) (shape : IsShape S) (format : IsFormat S F) (apart : S.apart ≡ true) where
  -- the extents of room once the one that the sweep opened is set aside
  abandoned_extents : (x y : Extents) (r : Room) (fresh : Option ℕ) (aside : ℕ → Bool) → AreExtentsOf S (λ (e : ℕ). false) x r
      → y ≡ record x { swept = y.swept } → ((e : ℕ) → aside e ≡ is_at fresh e)
      → AreExtentsOf S aside y (abandoned r fresh)
  abandoned_extents x y r fresh aside of same is = subst (λ (z : Extents). AreExtentsOf S aside z (abandoned r fresh)) (sym same)
      (subst (λ (f : ℕ → Bool). AreExtentsOf S f (record x { swept = y.swept }) (abandoned r fresh)) (λ i e. sym (is e) i)
      (record {
        pointer = λ e lt. ap (λ (n : ℕ). if is_at fresh e then 0 else n) (of.pointer e lt);
        holds = λ e lt. ap (λ (h : Holding). if is_at fresh e then Empty else h) (of.holds e lt);
        open_extent = ap (unless (is_at fresh)) (of.open_extent ∙ all_noted x.open_extent);
        last = ap (unless (is_at fresh)) (of.last ∙ all_noted x.last);
        noted = record {
          appended = of.noted.appended;
          copied = of.noted.copied;
          opened = of.noted.opened;
          empty = of.noted.empty;
        };
      }))
    where
      all_noted : (o : Option ℕ) → unless (λ (e : ℕ). false) o ≡ o
      all_noted None = refl
      all_noted (Some e) = refl

  pub abandon_room : (s t : State) (r : Room) (e : ℕ) → HasRoomNow S F s r → Step S F s (Abandon e) Abandoned t
      → (q : Room) × RoomDoes S S.run_extents r RoomAbandon q × HasRoomNow S F t q
  abandon_room s t r e has step =
      let d = step.1 in
      let kept = steps S F shape format s t (Abandon e) Abandoned has.sound has.bounded step in
      let on : any_swept S s ≡ true = swept_below s.world.extents.swept S.extents e (has.sound.swept e d.0).2 d.0 in
      let off : any_swept S (mark s e false) ≡ false = unmarked_below s.world.extents.swept e S.extents
      (λ c is. (has.sound.apart apart).one_sweep e c d.0 is) in
      let sweep = some_sweep S s r.sweep on has.room.sweep in
      let w : Sweep = sweep.0 in
      let fresh : w.fresh ≡ s.world.extents.fresh =
      (subst (λ (o : Option Sweep). IsSweepOf S s o) sweep.1 has.room.sweep).3 in
      let plain : IsRoomBut S F (λ (c : ℕ). false) s.copies s r = asides_alike S F (is_aside S s) (λ (c : ℕ). false)
      (copies_now S s) s.copies s r (none_aside S s on) (all_copies S s on) has.room in
      let room : IsRoomBut S F (is_aside S (mark s e false)) [] (mark s e false) (abandoned r w.fresh) = record {
        extents = abandoned_extents s.world.extents (mark s e false).world.extents r w.fresh (is_aside S (mark s e false))
            plain.extents refl
            (λ c. ap (λ (b : Bool). not b && is_at s.world.extents.fresh c) off ∙ ap (λ (o : Option ℕ). is_at o c) (sym fresh));
        chunks = λ id. subst (λ (cs : List Chunk). AreChunksIn S F s [] id cs) (sym (forgotten_all id r.chunks))
            (forgotten_are S F s.opening (newest_page s) s.world.extents.pointer s.world.extents.generation s.copies id 0
            (live_at (index_now s) id) (of_id id r.chunks) (plain.chunks id));
        runs = plain.runs;
        rooted = plain.rooted;
        sweep = off;
      } in (
        abandoned r w.fresh,
        (w, sweep.1, refl),
        record {
          sound = kept.0;
          bounded = kept.1;
          room = subst (λ (x : State). IsRoomOf S F x (abandoned r w.fresh)) (sym d.1)
              (asides_alike S F (is_aside S (mark s e false)) (is_aside S (mark s e false)) [] (copies_now S (mark s e false))
              (mark s e false) (abandoned r w.fresh) (λ c. refl) (sym (no_copies S (mark s e false) off)) room);
          keeps = abandon_keeps S S.run_extents r w has.keeps sweep.1;
          unopened = λ is. ap (λ (x : State). x.world.extents.fresh) d.1
              ∙ has.unopened (sym (ap (λ (x : State). x.copies) d.1) ∙ is);
        },
      )
