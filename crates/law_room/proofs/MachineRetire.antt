-- A sweep of the machine ends as one of room.
use Rattle.std.proofs.Common.{◌≡◌, ◌≢◌, inl, inr, ℕ, ◌+◌, ◌&&◌, ◌||◌, not, Bool, true, false, List, [], ◌∷◌, ◌++◌, map, Option, Some, None, is_some, if◌then◌else◌, refl, sym, ap, ◌∙◌, subst, arith}
use Rattle.std.proofs.lemmas.Bool.{cases_Bool, true≢false}
use Rattle.law_machine.proofs.ApartMoving.{retired_ready}
use Rattle.law_machine.proofs.ApartResets.{swept_below}
use Rattle.law_machine.proofs.Bounds.{not_first}
use Rattle.law_machine.proofs.Commands.{in_room}
use Rattle.law_machine.proofs.Keeps.{steps}
use Rattle.law_machine.proofs.Rules.{apart_rule, rule_apart}
use Rattle.law_machine.proofs.Settling.{settle_all_is}
use Rattle.law_machine.specs.Apart.{NothingLeft, StagesApart, any_below, any_swept, is_none, settle_all, settled as machine_settled}
use Rattle.law_machine.specs.Device.{IsShape, Shape}
use Rattle.law_machine.specs.Element.{Copy, Entry, Locator}
use Rattle.law_machine.specs.Events.{mark, newest_page}
use Rattle.law_machine.specs.Formats.{Formats}
use Rattle.law_machine.specs.Frames.{IsFormat}
use Rattle.law_machine.specs.Grounds.{WouldPass}
use Rattle.law_machine.specs.Index.{entries_of, live_at}
use Rattle.law_machine.specs.Lists.{nth, ◌∈◌}
use Rattle.law_machine.specs.Refusal.{Full, Halted, NotSweepable, StillLive, WornOut}
use Rattle.law_machine.specs.Sound.{IsCopy, Sound}
use Rattle.law_machine.specs.State.{Retire, Retired, State, index_now}
use Rattle.law_machine.specs.Step.{Step}
use Rattle.law_room.proofs.Chunks.{middle_in}
use Rattle.law_room.proofs.MachineBlank.{in_id, of_id_in}
use Rattle.law_room.proofs.MachineCopies.{pages_are}
use Rattle.law_room.proofs.MachineFreed.{asides_alike}
use Rattle.law_room.proofs.MachineMoves.{IsAmong, among, this_copy}
use Rattle.law_room.proofs.MachineRetired.{IsSettled, chunks_settle, has_number, in_targets, settled_ids, settled_or_not, table_before, table_still}
use Rattle.law_room.proofs.MachineSettled.{map_from, nth_map, places_settled, settled_place}
use Rattle.law_room.proofs.MachineStaged.{merge_leaves, rested_fresh, staged_unopened, stage_there}
use Rattle.law_room.proofs.MachineStages.{IsBefore, IsStaged}
use Rattle.law_room.proofs.MachineSweeps.{all_copies, no_copies, none_aside, some_sweep, unmarked_below}
use Rattle.law_room.proofs.Retiring.{retire_keeps}
use Rattle.law_room.specs.Events.{AllCopied, Does as RoomDoes, Retire as RoomRetire, any_copied, settle, settled}
use Rattle.law_room.specs.Invariant.{IsSweep, SweepsRight}
use Rattle.law_room.specs.OfMachine.{AreChunksOf, HasPages, HasRoomNow, IsRoomBut, IsSweepOf, NoneWorn, copied_to, copies_now, either_of, is_aside, is_copy_of, of_id}
use Rattle.law_room.specs.Rooms.{Chunk, Room, Sweep}

any_copied_there : (cs : List Chunk) → any_copied cs ≡ true → (c : Chunk) × (c ∈ cs) × (d : ℕ) × (c.copy ≡ Some d)
any_copied_there [] wrong = absurd (true≢false (sym wrong))
any_copied_there (c ∷ cs) is = go c.copy refl is (λ on. any_copied_there cs on)
  where
    go : (o : Option ℕ) → c.copy ≡ o → (is_some o || any_copied cs) ≡ true
        → (any_copied cs ≡ true → (x : Chunk) × (x ∈ cs) × (d : ℕ) × (x.copy ≡ Some d))
        → (x : Chunk) × (x ∈ c ∷ cs) × (d : ℕ) × (x.copy ≡ Some d)
    go (Some d) at on rest = (c, inl refl, d, at)
    go None at on rest = let found = rest on in (found.0, inr found.1, found.2, found.3)

none_copied_there : (cs : List Chunk) → any_copied cs ≡ false → (c : Chunk) → c ∈ cs → c.copy ≡ None
none_copied_there [] off c none = absurd none
none_copied_there (x ∷ cs) off c has_it = go x.copy refl off has_it (λ rest there. none_copied_there cs rest c there)
  where
    go : (o : Option ℕ) → x.copy ≡ o → (is_some o || any_copied cs) ≡ false → c ∈ x ∷ cs
        → (any_copied cs ≡ false → c ∈ cs → c.copy ≡ None) → c.copy ≡ None
    go (Some d) at wrong there rest = absurd (true≢false wrong)
    go None at none (inl is) rest = ap (λ (y : Chunk). y.copy) is ∙ at
    go None at none (inr there) rest = rest none there

copied_some : (copies : List Copy) (c : Copy) (id k : ℕ) (l : Locator) → c ∈ copies → c.id ≡ id → c.chunk ≡ k → c.from ≡ l
    → copied_to copies id k l ≡ None → ⊥
copied_some [] c id k l none a b is gone = absurd none
copied_some (d ∷ copies) c id k l (inl same) a b is gone =
    let on : is_copy_of d id k l ≡ true = this_copy d id k l (ap (λ (x : Copy). x.id) (sym same) ∙ a)
    (ap (λ (x : Copy). x.chunk) (sym same) ∙ b) (ap (λ (x : Copy). x.from) (sym same) ∙ is) in
    some_not (copied_to copies id k l) d.to.extent (is_copy_of d id k l) on gone
  where
    some_not : (o : Option ℕ) (e : ℕ) (b : Bool) → b ≡ true → either_of o (if b then Some e else None) ≡ None → ⊥
    some_not None e true on wrong = cc
    some_not (Some d) e true on wrong = cc
    some_not o e false off is = true≢false (sym off)
copied_some (d ∷ copies) c id k l (inr there) a b is gone = copied_some copies c id k l there a b is
    (first_none (copied_to copies id k l) _ gone)
  where
    first_none : (o p : Option ℕ) → either_of o p ≡ None → o ≡ None
    first_none None p is = refl
    first_none (Some e) p wrong = absurd cc

not_none : (es : List Entry) → (es ≡ [] → ⊥) → is_none es ≡ false
not_none [] wrong = absurd (wrong refl)
not_none (x ∷ es) some = refl

module _ (S : Shape) (F : Formats) (shape : IsShape S) (format : IsFormat S F) (apart : S.apart ≡ true) where
  -- a sweep that may end
  pub record IsEnding (s : State) (r : Room) (e : ℕ) (w : Sweep) : Type 0 where
    pub room : HasRoomNow S F s r
    pub swept : s.world.extents.swept e ≡ true
    pub is : r.sweep ≡ Some w
    pub of : IsSweepOf S s (Some w)
    pub plain : IsRoomBut S F (λ (c : ℕ). false) s.copies s r
    pub on : any_swept S s ≡ true
    pub extent : w.extent ≡ e

  pub ending : (s : State) (r : Room) (e : ℕ) → HasRoomNow S F s r → s.world.extents.swept e ≡ true
      → (w : Sweep) × IsEnding s r e w
  ending s r e room swept =
      let on : any_swept S s ≡ true =
      swept_below s.world.extents.swept S.extents e (room.sound.swept e swept).2 swept in
      let sweep = some_sweep S s r.sweep on room.room.sweep in
      let of : IsSweepOf S s (Some sweep.0) = subst (λ (o : Option Sweep). IsSweepOf S s o) sweep.1 room.room.sweep in (
        sweep.0,
        record {
          room = room;
          swept = swept;
          is = sweep.1;
          of = of;
          plain = asides_alike S F (is_aside S s) (λ (c : ℕ). false) (copies_now S s) s.copies s r (none_aside S s on)
              (all_copies S s on) room.room;
          on = on;
          extent = (room.sound.apart apart).one_sweep sweep.0.extent e of.2 swept;
        },
      )

  module _ (s : State) (r : Room) (e : ℕ) (w : Sweep) (end : IsEnding s r e w) where
    apart_places : (c : Copy) → c ∈ s.copies → (c.from.extent ≡ e) × (c.to.extent ≢ e)
    apart_places c there =
        let sweep : IsSweep S S.run_extents r w =
        subst (λ (o : Option Sweep). SweepsRight S S.run_extents r o) end.is end.room.keeps.sweeps in (
          (end.room.sound.apart apart).one_sweep c.from.extent e ((end.room.sound.apart apart).copied end.on c there).1 end.swept,
          λ same. (sweep.targets c.to.extent (subst (λ (ds : List ℕ). c.to.extent ∈ ds) (sym end.of.4)
              (in_targets s.copies c there))).2 (same ∙ sym end.extent),
        )

    copy_pages : (c : Copy) (n : ℕ) → c ∈ s.copies
        → HasPages S F s.opening (newest_page s) s.world.extents.pointer s.world.extents.generation c.from n
        → HasPages S F s.opening (newest_page s) s.world.extents.pointer s.world.extents.generation c.to n
    copy_pages c n there has_it =
        let copy : IsCopy S F s c = ((end.room.sound.apart apart).copied end.on c there).0 in
        inl (
          copy.0,
          copy.2,
          pages_are S F shape format apart s.opening (newest_page s) s.world.extents.pointer
              s.world.extents.generation c.from n copy.0 copy.3 copy.1 has_it,
        )

    abbrev pub now_settled : State
    now_settled = record (mark s e false) { table = (settle_all (mark s e false) s.copies).table; copies = [] }

    places : (id : ℕ) → live_at (index_now now_settled) id
        ≡ map_from (settled_place s.copies id) 0 (live_at (index_now s) id)
    places id = ap (λ (x : State). live_at (index_now x) id) (sym (settle_all_is (mark s e false) s.copies))
        ∙ places_settled (mark s e false) s.copies id

    wrong_place : (d id k : ℕ) (l : Locator) → IsSettled s.copies id k l (settled_place s.copies id k l) (copied_to s.copies id k l)
        → l ≡ settled_place s.copies id k l → Some d ≡ copied_to s.copies id k l → ⊥
    wrong_place d id k l (inl no_copy) at is = let no : Some d ≡ None = is ∙ no_copy.0 in cc
    wrong_place d id k l (inr c) at is = (apart_places c.0 c.1).1 (ap (λ (x : Locator). x.extent) (sym (at ∙ c.3))
        ∙ ap (λ (x : Locator). x.extent) (sym c.2) ∙ (apart_places c.0 c.1).0)

    rooted_settled : (r.rooted && not (any_copied r.chunks)) ≡ is_none now_settled.table
    rooted_settled = elim (cases_Bool (any_copied r.chunks)) [
      | inl on ↦ rw on (no_and r.rooted ∙ sym (not_none now_settled.table (λ none. some none (any_copied_there r.chunks on))))
      | inr off ↦ rw off (and_yes r.rooted ∙ end.plain.rooted ∙ ap is_none (sym (table_still (mark s e false) s.copies
          (λ id k l at. still id k l at (none_copied_there r.chunks off)))))
    ]
      where
        no_and : (b : Bool) → (b && false) ≡ false
        no_and true = refl
        no_and false = refl

        and_yes : (b : Bool) → (b && true) ≡ b
        and_yes true = refl
        and_yes false = refl

        some : now_settled.table ≡ [] → ((c : Chunk) × (c ∈ r.chunks) × (d : ℕ) × (c.copy ≡ Some d)) → ⊥
        some none (c, there, d, copy) =
            let n = has_number S F s.opening (newest_page s) s.world.extents.pointer s.world.extents.generation s.copies c.id 0
            (live_at (index_now s) c.id) (of_id c.id r.chunks) c (end.plain.chunks c.id) (in_id r.chunks c there) in
            let same : live_at (index_now s) c.id ≡ map_from (settled_place s.copies c.id) 0 (live_at (index_now s) c.id) =
            ap (λ (es : List Entry). live_at (es ++ entries_of s.runs) c.id)
            (table_before (mark s e false) s.copies none ∙ sym none) ∙ places c.id in
            let moved : Some n.1 ≡ Some (settled_place s.copies c.id (0 + n.0) n.1) = sym n.2
            ∙ ap (λ (ls : List Locator). nth ls n.0) same ∙ nth_map (settled_place s.copies c.id) 0 n.0
            (live_at (index_now s) c.id) n.1 n.2 in
            let place : n.1 ≡ settled_place s.copies c.id (0 + n.0) n.1 = cc in
            wrong_place d c.id (0 + n.0) n.1 (settled_or_not e s.copies c.id (0 + n.0) n.1 apart_places) place
            (sym copy ∙ n.3.copy)

        still : (id k : ℕ) (l : Locator) → nth (live_at (index_now s) id) k ≡ Some l
            → ((c : Chunk) → c ∈ r.chunks → c.copy ≡ None) → copied_to s.copies id k l ≡ None
        still id k l at none =
            let am : IsAmong S F s.opening (newest_page s) s.world.extents.pointer s.world.extents.generation s.copies
            s.copies id 0 k (live_at (index_now s) id) l (of_id id r.chunks) =
            among S F s.opening (newest_page s) s.world.extents.pointer s.world.extents.generation s.copies
            s.copies id 0 k (live_at (index_now s) id) l (of_id id r.chunks) at (end.plain.chunks id) in
            let zero_more : k ≡ 0 + k = omega arith in
            ap (λ (n : ℕ). copied_to s.copies id n l) zero_more ∙ sym am.is.copy ∙ none am.chunk (of_id_in id r.chunks am.chunk
            (subst (λ (cs : List Chunk). am.chunk ∈ cs) (sym am.parts) (middle_in am.front am.back am.chunk)))

    unmarked : any_swept S (mark s e false) ≡ false
    unmarked = unmarked_below s.world.extents.swept e S.extents
        (λ c is. (end.room.sound.apart apart).one_sweep e c end.swept is)

    -- room before the Stage of a Retire
    before_retire : Sound S F now_settled → IsBefore S F shape format apart (λ (c : ℕ). false) [] now_settled (settled r)
    before_retire sound = record {
      sound = sound;
      room = record {
        extents = record {
          pointer = end.plain.extents.pointer;
          holds = end.plain.extents.holds;
          open_extent = end.plain.extents.open_extent;
          last = end.plain.extents.last;
          noted = record {
            appended = end.plain.extents.noted.appended;
            copied = end.plain.extents.noted.copied;
            opened = end.plain.extents.noted.opened;
            empty = end.plain.extents.noted.empty;
          };
        };
        chunks = λ id. subst (λ (ls : List Locator). AreChunksOf S F s.opening (newest_page s) s.world.extents.pointer
            s.world.extents.generation [] id 0 ls (of_id id (map settle r.chunks))) (sym (places id))
            (subst (λ (cs : List Chunk). AreChunksOf S F s.opening (newest_page s) s.world.extents.pointer
            s.world.extents.generation [] id 0 (map_from (settled_place s.copies id) 0 (live_at (index_now s) id)) cs)
            (sym (settled_ids id r.chunks))
            (chunks_settle S F s.opening (newest_page s) s.world.extents.pointer s.world.extents.generation s.copies id e
            apart_places copy_pages 0 (live_at (index_now s) id) (of_id id r.chunks) (end.plain.chunks id)));
        runs = end.plain.runs;
        rooted = rooted_settled;
        sweep = unmarked;
      };
      aside_fresh = λ c wrong. absurd (true≢false (sym wrong));
      dead = λ c lt wrong. absurd (true≢false (sym wrong));
      held = λ c on is. absurd (true≢false (sym on ∙ unmarked));
      copies_are = sym (no_copies S now_settled unmarked);
    }

    all_copied : NothingLeft s e → AllCopied S r w
    all_copied nothing c there left =
        let n = has_number S F s.opening (newest_page s) s.world.extents.pointer s.world.extents.generation s.copies c.id 0
        (live_at (index_now s) c.id) (of_id c.id r.chunks) c (end.plain.chunks c.id) (in_id r.chunks c there) in
        let zero_more : n.0 ≡ 0 + n.0 = omega arith in
        let copy = nothing c.id n.0 n.1 n.2 (sym n.3.extent ∙ left.0 ∙ end.extent) in
        copied_some s.copies copy.0 c.id (0 + n.0) n.1 copy.1 copy.2 (copy.3 ∙ zero_more) copy.4 (sym n.3.copy ∙ left.1)

  pub retire_room : (s t : State) (r : Room) (e v : ℕ) → HasRoomNow S F s r → Step S F s (Retire e) (Retired v) t → NoneWorn S t
      → (newest : ℕ) × (pages : ℕ) × (all : ℕ) × (q : Room)
      × RoomDoes S S.run_extents r (RoomRetire newest pages all) q × HasRoomNow S F t q
  retire_room s t r e v room step young =
      let o = apart_rule _ _ S.apart apart step.1 in
      let worn = not_first WornOut (not_first Full (not_first StillLive (not_first NotSweepable
      (not_first Halted step.0).1).1).1).1 in
      let fresh = λ (w : WouldPass S F s (Retire e)). worn.0 (rule_apart _ _ S.apart apart (inl w)) in
      let end = ending s r e room o.0 in
      let w : Sweep = end.0 in
      let m : State = now_settled s r e w end.1 in
      let m_is : machine_settled (mark s e false) ≡ m =
      ap (λ (x : State). record x { copies = [] }) (settle_all_is (mark s e false) s.copies) in
      let stages = subst (λ (x : State). StagesApart S F x t) m_is o.3 in
      let sound : Sound S F m = subst (λ (x : State). Sound S F x) m_is
      (retired_ready S F shape format apart s e room.sound room.bounded o.0).0 in
      let before = before_retire s r e w end.1 sound in
      let mid = stages.0 in let runs = stages.1 in let is = stages.3 in
      let done : IsStaged S F shape format apart (λ (c : ℕ). false) [] m (settled r) before t =
      stage_there S F shape format apart (λ (c : ℕ). false) [] m (settled r) before t mid runs is young
      (in_room S F shape format s t mid.world (Retire e) (Retired v) fresh step.1
      (ap (λ (x : State). x.world.superblocks) (sym is))) stages.2 in
      let left = merge_leaves S F shape format apart m mid runs stages.2 in
      let copied : AllCopied S r w = all_copied s r e w end.1 o.1 in
      let kept = steps S F shape format s t (Retire e) (Retired v) room.sound room.bounded step in (
        done.newest,
        done.pages,
        done.all,
        done.after,
        (w, end.1.is, copied, done.stages),
        record {
          sound = kept.0;
          bounded = kept.1;
          room = done.room;
          keeps = retire_keeps S S.run_extents r done.after w done.newest done.pages done.all (shape.apart apart).2 room.keeps
              end.1.is copied done.stages;
          unopened = λ none. ap (λ (x : State). x.world.extents.fresh) is ∙ staged_unopened S F shape format apart mid runs
              (λ on gone. absurd (true≢false (sym on ∙ ap (λ (f : ℕ → Bool). any_below f S.extents) left.2
              ∙ unmarked s r e w end.1)))
              (sym (ap (λ (x : State). x.copies) is) ∙ none);
        },
      )

  -- no extent is one that a sweep opened then
  pub retired_fresh : (s t : State) (r : Room) (e v : ℕ) → HasRoomNow S F s r → Step S F s (Retire e) (Retired v) t
      → t.world.extents.fresh ≡ None
  retired_fresh s t r e v room step =
      let o = apart_rule _ _ S.apart apart step.1 in
      let end = ending s r e room o.0 in
      let w : Sweep = end.0 in
      let m : State = now_settled s r e w end.1 in
      let m_is : machine_settled (mark s e false) ≡ m =
      ap (λ (x : State). record x { copies = [] }) (settle_all_is (mark s e false) s.copies) in
      let stages = subst (λ (x : State). StagesApart S F x t) m_is o.3 in
      let left = merge_leaves S F shape format apart m stages.0 stages.1 stages.2 in
      ap (λ (x : State). x.world.extents.fresh) stages.3
      ∙ rested_fresh S F shape format apart stages.0 stages.1
      (ap (λ (f : ℕ → Bool). any_below f S.extents) left.2 ∙ unmarked s r e w end.1)
