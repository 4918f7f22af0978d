-- A MoveOne of the machine is one of room.
use Rattle.std.proofs.Common.{◌≡◌, inl, inr, ℕ, ◌+◌, ◌<◌, ◌≤◌, ◌==◌, Bool, true, false, List, [], ◌∷◌, ◌++◌, length, Option, Some, None, if◌then◌else◌, refl, sym, ap, ◌∙◌, subst, arith}
use Rattle.std.proofs.lemmas.Bool.{cases_Bool, cases_eq, eqb-true}
use Rattle.law_machine.proofs.Meant.{one_place}
use Rattle.law_machine.proofs.ApartResets.{swept_below}
use Rattle.law_machine.proofs.Bounds.{not_first, not_found}
use Rattle.law_machine.proofs.Carries.{and_left, and_right, carry_reads}
use Rattle.law_machine.proofs.Commands.{in_room}
use Rattle.law_machine.proofs.Frames.{Added, added}
use Rattle.law_machine.proofs.Keeps.{steps}
use Rattle.law_machine.proofs.Needs.{after_extents_by}
use Rattle.law_machine.proofs.Rules.{apart_rule}
use Rattle.law_machine.specs.Apart.{FirstLeft, any_below, any_swept, same_place}
use Rattle.law_machine.specs.Append.{AppendBy}
use Rattle.law_machine.specs.Device.{IsShape, Page, Shape}
use Rattle.law_machine.specs.Element.{Copy, Locator, Opening}
use Rattle.law_machine.specs.Events.{ReadsNow, newest_page}
use Rattle.law_machine.specs.Extents.{Extents, ForMove, GoesApart, fresh_by, taken_by}
use Rattle.law_machine.specs.Formats.{ChunkFrame, Formats}
use Rattle.law_machine.specs.Frames.{IsFormat}
use Rattle.law_machine.specs.Index.{Reads, live_at}
use Rattle.law_machine.specs.Lists.{◌∈◌}
use Rattle.law_machine.specs.Machine.{World}
use Rattle.law_machine.specs.Refusal.{Full, Halted, NotSweepable, WornOut}
use Rattle.law_machine.specs.State.{MoveOne, Moved, State, index_now}
use Rattle.law_machine.specs.Step.{Step}
use Rattle.law_room.proofs.MachineChunks.{chunks_move, pages_move}
use Rattle.law_room.proofs.MachineFreed.{asides_alike}
use Rattle.law_room.proofs.MachineMoves.{IsAmong, IsPart, among, chunks_copied, copied_more, copy_extents, copy_goes_there, other_copy, part_of, target, this_copy}
use Rattle.law_room.proofs.MachineSweeps.{all_copies, none_aside, some_sweep}
use Rattle.law_room.proofs.Moving.{moved_keeps}
use Rattle.law_room.specs.Events.{Does as RoomDoes, MoveOne as RoomMove, with_copy}
use Rattle.law_room.specs.Invariant.{Keeps}
use Rattle.law_room.specs.OfMachine.{AreChunksOf, AreExtentsOf, HasPages, HasRoomNow, IsChunkOf, IsRoomBut, IsRoomOf, IsSweepOf, copied_to, copies_now, either_of, is_aside, is_copy_of, of_id}
use Rattle.law_room.specs.Rooms.{Chunk, Room, Sweep}

pub copy_is : (c : Copy) (id k : ℕ) (l : Locator) → is_copy_of c id k l ≡ true → (c.id ≡ id) × (c.chunk ≡ k) × (c.from ≡ l)
copy_is c id k l is =
    let rest = and_right (c.id == id) _ is in (
      eqb-true _ _ (and_left (c.id == id) _ is),
      eqb-true _ _ (and_left (c.chunk == k) _ rest),
      one_place c.from l (and_right (c.chunk == k) (same_place c.from l) rest),
    )

-- what isn't copied has no copy
pub none_copied : (copies : List Copy) (id k : ℕ) (l : Locator)
    → ((c : Copy) → c ∈ copies → c.id ≡ id → c.chunk ≡ k → c.from ≡ l → ⊥) → copied_to copies id k l ≡ None
none_copied [] id k l none = refl
none_copied (c ∷ copies) id k l none =
    let rest : copied_to copies id k l ≡ None = none_copied copies id k l (λ d there. none d (inr there)) in
    let test : is_copy_of c id k l ≡ false = elim (cases_Bool (is_copy_of c id k l)) [
      | inl on ↦ absurd (let is = copy_is c id k l on in none c (inl refl) is.0 is.1 is.2)
      | inr off ↦ off
    ] in ap (λ (o : Option ℕ). either_of o (if is_copy_of c id k l then Some c.to.extent else None)) rest
    ∙ ap (λ (b : Bool). if b then Some c.to.extent else None) test

module _ (S : Shape) (F : Formats) (shape : IsShape S) (format : IsFormat S F) (apart : S.apart ≡ true) where
  -- the pages of a chunk that is read are those of its frame
  pub pages_are : (opening : Opening) (img : ℕ → Page) (p g : ℕ → ℕ) (l : Locator) (n : ℕ) (payload : List ℕ)
      → opening.damage l ≡ None → Reads S F opening img p g l (F.frame ChunkFrame payload)
      → HasPages S F opening img p g l n → n ≡ length (F.frame ChunkFrame payload)
  pages_are opening img p g l n payload whole reads (inl (other, r, is)) = is ∙ ap (λ (xs : List ℕ). length (F.frame ChunkFrame xs))
      (format.one_payload img l.extent l.page ChunkFrame other payload (short r.inside) (short reads.inside) r.stand reads.stand)
    where
      short : {n : ℕ} → l.page + n ≤ S.pages → n ≤ S.pages
      short fits = omega (arith, fits)
  pages_are opening img p g l n payload whole reads (inr (f, bad, lasts, none)) =
      absurd (let wrong : Some f ≡ None = sym bad ∙ whole in cc)

  abbrev copied : State → World → (id k : ℕ) (l new : Locator) → State
  copied s v id k l new = record s {
    world = v;
    copies = record { id = id; chunk = k; from = l; to = new } ∷ s.copies;
  }

  -- the chunk is copied in room
  record IsMade (s : State) (v : World) (r : Room) (id k : ℕ) (l new : Locator) : Type 0 where
    after : Room
    does : RoomDoes S S.run_extents r RoomMove after
    room : IsRoomBut S F (λ (e : ℕ). false) (record { id = id; chunk = k; from = l; to = new } ∷ s.copies)
        (copied s v id k l new) after

  make : (s : State) (v : World) (r : Room) (e id k : ℕ) (l new : Locator) (payload : List ℕ) (w : Sweep) → HasRoomNow S F s r
      → IsRoomBut S F (λ (d : ℕ). false) s.copies s r → s.world.extents.swept e ≡ true → FirstLeft s e id k l
      → s.opening.damage l ≡ None → ReadsNow S F s l ChunkFrame payload
      → (a : AppendBy S true s.world ForMove (F.frame ChunkFrame payload) new v)
      → Added S F shape format s (record s { world = v }) new (F.frame ChunkFrame payload)
      → r.sweep ≡ Some w → IsSweepOf S s (Some w) → IsMade s v r id k l new
  make s v r e id k l new payload w has plain swept first whole reads a add is (any, below, marked, fresh, targets) =
      let t : State = copied s v id k l new in
      let c : Copy = record { id = id; chunk = k; from = l; to = new } in
      let one = (has.sound.apart apart).one_sweep in
      let reads_on : (m : Locator) (b : List ℕ) → ReadsNow S F s m ChunkFrame b
      → Reads S F s.opening (newest_page t) t.world.extents.pointer t.world.extents.generation m (F.frame ChunkFrame b) =
      λ m b. carry_reads S F s.opening (newest_page t) (newest_page s) s.world.extents.pointer s.world.extents.generation
      t.world.extents.pointer t.world.extents.generation add.carries add.still m (F.frame ChunkFrame b) in
      let moved : (d : ℕ) → AreChunksOf S F s.opening (newest_page t) t.world.extents.pointer t.world.extents.generation
      s.copies d 0 (live_at (index_now s) d) (of_id d r.chunks) = λ d. chunks_move S F s.opening s.opening (newest_page s)
      (newest_page t) s.world.extents.pointer s.world.extents.generation t.world.extents.pointer
      t.world.extents.generation s.copies s.copies d 0 (live_at (index_now s) d) (of_id d r.chunks)
      (λ m n there. pages_move S F s.opening s.opening (newest_page s) (newest_page t) s.world.extents.pointer
      s.world.extents.generation t.world.extents.pointer t.world.extents.generation m n refl refl (λ b. reads_on m b))
      (λ j m there. refl) (plain.chunks d) in
      let am : IsAmong S F s.opening (newest_page t) t.world.extents.pointer t.world.extents.generation s.copies
      (c ∷ s.copies) id 0 k (live_at (index_now s) id) l (of_id id r.chunks) =
      among S F s.opening (newest_page t) t.world.extents.pointer t.world.extents.generation s.copies (c ∷ s.copies) id 0 k
      (live_at (index_now s) id) l (of_id id r.chunks) first.there (moved id) in
      let part : IsPart id am.front am.chunk am.back r.chunks =
      part_of id am.front am.chunk am.back r.chunks am.is.id am.parts in
      let at : 0 + k ≡ k = omega arith in
      let pages : am.chunk.pages ≡ length (F.frame ChunkFrame payload) = pages_are s.opening (newest_page t)
      t.world.extents.pointer t.world.extents.generation l am.chunk.pages payload whole (reads_on l payload reads) am.is.pages in
      let none : copied_to s.copies id k l ≡ None = none_copied s.copies id k l
      (λ d there i j from. first.left (d, there, i, j, from)) in
      let goes : GoesApart S s.world.extents ForMove am.chunk.pages a.extent =
      subst (λ (n : ℕ). GoesApart S s.world.extents ForMove n a.extent) (sym pages) a.placed in
      let place : new.extent ≡ a.extent = ap (λ (m : Locator). m.extent) a.at in
      let extents : v.extents ≡ taken_by S true ForMove s.world.extents a.extent am.chunk.pages =
      after_extents_by S shape true s.world v ForMove (F.frame ChunkFrame payload) new a
      ∙ ap (λ (n : ℕ). taken_by S true ForMove s.world.extents a.extent n) (sym pages) in
      let made : Option ℕ = fresh_by S true ForMove s.world.extents a.extent s.world.extents.fresh in
      let some : 0 < am.chunk.pages = (let any_page : 0 < length (F.frame ChunkFrame payload) =
      format.some_page ChunkFrame payload in omega arith) in
      let copy : Chunk = record am.chunk { copy = Some a.extent } in
      let some_swept = λ (d : ℕ) (on : s.world.extents.swept d ≡ true). (has.sound.swept d on).1 in
      let becomes : IsChunkOf S F s.opening (newest_page t) t.world.extents.pointer t.world.extents.generation
      (c ∷ s.copies) id (0 + k) l copy = record {
        id = am.is.id;
        extent = am.is.extent;
        pages = am.is.pages;
        copy = ap (λ (n : ℕ). Some n) (sym place)
            ∙ sym (ap (λ (b : Bool). either_of None (if b then Some new.extent else None))
            (this_copy c id (0 + k) l refl (sym at) refl))
            ∙ ap (λ (o : Option ℕ). either_of o (if is_copy_of c id (0 + k) l then Some new.extent else None))
            (sym (ap (λ (n : ℕ). copied_to s.copies id n l) at ∙ none));
      } in record {
        after = with_copy S r w part.before am.chunk part.behind a.extent made;
        does = (
          w,
          part.before,
          am.chunk,
          part.behind,
          a.extent,
          made,
          is,
          part.parts,
          (
            am.is.extent ∙ first.on_it ∙ one e w.extent swept marked,
            am.is.copy ∙ ap (λ (n : ℕ). copied_to s.copies id n l) at ∙ none,
          ),
          copy_goes_there S s.world.extents r plain.extents w marked one fresh some_swept am.chunk.pages a.extent goes,
          refl,
        );
        room = record {
          extents = subst (λ (y : Extents). AreExtentsOf S (λ (d : ℕ). false) y
              (with_copy S r w part.before am.chunk part.behind a.extent made)) (sym extents)
              (copy_extents S s.world.extents r plain.extents w marked one fresh some_swept part.before am.chunk part.behind
              a.extent made some
              (target S s.world.extents r plain.extents w marked one fresh some_swept am.chunk.pages a.extent goes));
          chunks = λ d. elim (cases_eq d id) [
            | inl same ↦ subst (λ (n : ℕ). AreChunksOf S F s.opening (newest_page t) t.world.extents.pointer
                t.world.extents.generation (c ∷ s.copies) n 0 (live_at (index_now s) n)
                (of_id n (part.before ++ copy ∷ part.behind))) (sym same)
                (subst (λ (xs : List Chunk). AreChunksOf S F s.opening (newest_page t) t.world.extents.pointer
                t.world.extents.generation (c ∷ s.copies) id 0 (live_at (index_now s) id) xs) (sym (part.becomes copy am.is.id))
                (am.becomes copy becomes (λ i x not. copied_more c s.copies id i x
                (other_copy c id i x (λ ids here. not (sym here ∙ sym at))))))
            | inr other ↦ subst (λ (xs : List Chunk). AreChunksOf S F s.opening (newest_page t) t.world.extents.pointer
                t.world.extents.generation (c ∷ s.copies) d 0 (live_at (index_now s) d) xs)
                (sym (part.others d copy am.is.id other))
                (chunks_copied S F s.opening (newest_page t) t.world.extents.pointer t.world.extents.generation s.copies
                (c ∷ s.copies) d 0 (live_at (index_now s) d) (of_id d r.chunks)
                (λ i x le. copied_more c s.copies d i x (other_copy c d i x (λ ids here. other (sym ids)))) (moved d))
          ];
          runs = plain.runs;
          rooted = plain.rooted;
          sweep = (
            ap (λ (f : ℕ → Bool). any_below f S.extents) (ap (λ (y : Extents). y.swept) extents) ∙ any,
            below,
            ap (λ (y : Extents). y.swept w.extent) extents ∙ marked,
            sym (ap (λ (y : Extents). y.fresh) extents),
            ap (λ (n : ℕ). n ∷ w.targets) (sym place) ∙ ap (λ (ds : List ℕ). new.extent ∷ ds) targets,
          );
        };
      }

  pub move_room : (s t : State) (r : Room) (e id k : ℕ) → HasRoomNow S F s r → Step S F s (MoveOne e) (Moved id k) t
      → (q : Room) × RoomDoes S S.run_extents r RoomMove q × HasRoomNow S F t q
  move_room s t r e id k has step =
      let o = apart_rule _ _ S.apart apart step.1 in
      let worn = not_first WornOut
      (not_first Full (not_found (not_first NotSweepable (not_first Halted step.0).1).1)).1 in
      let on : any_swept S s ≡ true = swept_below s.world.extents.swept S.extents e (has.sound.swept e o.4).2 o.4 in
      let whole : t ≡ copied s o.8.0 id k o.0 o.1 = o.9 ∙ ap (λ (m : State). record m {
        copies = record { id = id; chunk = k; from = o.0; to = o.1 } ∷ m.copies;
      }) o.8.2 in
      let add = added S F shape format true (λ rule. apart) s (record s { world = o.8.0 }) ForMove ChunkFrame o.2 o.1 has.sound
      (o.8.0, o.8.1, refl) (in_room S F shape format s t o.8.0 (MoveOne e) (Moved id k) worn.0 step.1
      (ap (λ (x : State). x.world.superblocks) (sym whole))) in
      let sweep = some_sweep S s r.sweep on has.room.sweep in
      let plain : IsRoomBut S F (λ (d : ℕ). false) s.copies s r = asides_alike S F (is_aside S s) (λ (d : ℕ). false)
      (copies_now S s) s.copies s r (none_aside S s on) (all_copies S s on) has.room in
      let done : IsMade s o.8.0 r id k o.0 o.1 = make s o.8.0 r e id k o.0 o.1 o.2 sweep.0 has plain o.4 o.5 o.6 o.7 o.8.1 add
      sweep.1 (subst (λ (x : Option Sweep). IsSweepOf S s x) sweep.1 has.room.sweep) in
      let kept = steps S F shape format s t (MoveOne e) (Moved id k) has.sound has.bounded step in
      let still : any_swept S (copied s o.8.0 id k o.0 o.1) ≡ true =
      ap (λ (f : ℕ → Bool). any_below f S.extents) add.swept ∙ on in (
        done.after,
        done.does,
        record {
          sound = kept.0;
          bounded = kept.1;
          room = subst (λ (x : State). IsRoomOf S F x done.after) (sym whole)
              (asides_alike S F (λ (d : ℕ). false) (is_aside S (copied s o.8.0 id k o.0 o.1))
              (record { id = id; chunk = k; from = o.0; to = o.1 } ∷ s.copies)
              (copies_now S (copied s o.8.0 id k o.0 o.1)) (copied s o.8.0 id k o.0 o.1) done.after
              (λ d. sym (none_aside S (copied s o.8.0 id k o.0 o.1) still d))
              (sym (all_copies S (copied s o.8.0 id k o.0 o.1) still)) done.room);
          keeps = moves_keep r done.after has.keeps done.does;
          unopened = λ none. absurd (some_there (sym (ap (λ (x : State). x.copies) whole) ∙ none));
        },
      )
    where
      moves_keep : (r q : Room) → Keeps S S.run_extents r → RoomDoes S S.run_extents r RoomMove q → Keeps S S.run_extents q
      moves_keep r q keeps does = rw does.10 (moved_keeps S S.run_extents r does.0 does.1 does.2 does.3 does.4 does.5
          keeps does.6 (record { chunks = does.7; left = does.8; goes = does.9 }))

      some_there : {c : Copy} {copies : List Copy} → c ∷ copies ≡ [] → ⊥
      some_there wrong = cc
