-- Puts and deletions of the machine are those of room.
use Rattle.std.proofs.Common.{◌≡◌, ◌≢◌, inl, inr, ℕ, ◌==◌, ◌&&◌, not, Bool, true, false, List, [], ◌∷◌, ◌++◌, Option, Some, None, if◌then◌else◌, eq-eqb, true≢false, refl, sym, ap, ◌∙◌, subst}
use Rattle.std.proofs.lemmas.Bool.{cases_eq, ne_eqb}
use Rattle.std.proofs.lemmas.List.{append-nil}
use Rattle.law_machine.proofs.Bounds.{not_first}
use Rattle.law_machine.proofs.Carries.{carry_reads}
use Rattle.law_machine.proofs.Commands.{in_room}
use Rattle.law_machine.proofs.Frames.{PutIn, put_in}
use Rattle.law_machine.proofs.Payloads.{payloads_long}
use Rattle.law_machine.proofs.Keeps.{steps}
use Rattle.law_machine.specs.Apart.{any_below, any_swept}
use Rattle.law_machine.specs.Append.{AppendAllBy, chunk_frames, page_counts}
use Rattle.law_machine.specs.Device.{IsShape, Shape}
use Rattle.law_machine.specs.Element.{Copy, Entry, Locator}
use Rattle.law_machine.specs.Events.{ArePayloads, newest_page}
use Rattle.law_machine.specs.Extents.{ForPut}
use Rattle.law_machine.specs.Formats.{ChunkFrame, Formats}
use Rattle.law_machine.specs.Frames.{AreLong, IsFormat}
use Rattle.law_machine.specs.Index.{live_at}
use Rattle.law_machine.specs.Machine.{World}
use Rattle.law_machine.specs.Refusal.{Full, Halted, IndexFull, TooLarge, WornOut}
use Rattle.law_machine.specs.State.{Accepted, Delete, Put, State, index_now, next_command}
use Rattle.law_machine.specs.Step.{Step}
use Rattle.law_room.proofs.Given.{delete_keeps, put_keeps}
use Rattle.law_room.proofs.MachineChunks.{chunks_move, pages_move}
use Rattle.law_room.proofs.MachineFreed.{asides_alike, sweep_moves}
use Rattle.law_room.proofs.MachineIds.{id_of_news, id_of_others, id_without, not_copied, other_without, swept_of, written_are, written_ids}
use Rattle.law_room.proofs.MachinePut.{IsWritten, put_all}
use Rattle.law_room.specs.Events.{Does as RoomDoes, Put as RoomPut, Delete as RoomDelete, dropped}
use Rattle.law_room.specs.OfMachine.{AreChunksIn, AreChunksOf, AreExtentsOf, HasRoomNow, IsRoomBut, IsRoomOf, IsSweepOf, copied_to, copies_now, is_aside, of_id}
use Rattle.law_room.specs.Rooms.{Chunk, Room, Sweep, is_at, without}

module _ (S : Shape) (F : Formats) where
  -- where the sweep stays so does what is set aside
  pub same_asides : (s t : State) (q : Room) → t.world.extents.swept ≡ s.world.extents.swept
      → t.world.extents.fresh ≡ s.world.extents.fresh → t.copies ≡ s.copies
      → IsRoomBut S F (is_aside S s) (copies_now S s) t q → IsRoomOf S F t q
  same_asides s t q swept fresh copies room = asides_alike S F (is_aside S s) (is_aside S t) (copies_now S s) (copies_now S t) t q
      (λ e. ap (λ (f : ℕ → Bool). not (any_below f S.extents) && is_at s.world.extents.fresh e) (sym swept)
      ∙ ap (λ (o : Option ℕ). not (any_below t.world.extents.swept S.extents) && is_at o e) (sym fresh))
      (ap (λ (f : ℕ → Bool). if any_below f S.extents then s.copies else []) (sym swept)
      ∙ ap (λ (cs : List Copy). if any_below t.world.extents.swept S.extents then cs else []) (sym copies)) room

  extents_stay : (aside : ℕ → Bool) (s : State) (r : Room) (id : ℕ) → AreExtentsOf S aside s.world.extents r
      → AreExtentsOf S aside s.world.extents (dropped r id)
  extents_stay aside s r id of = record {
    pointer = of.pointer;
    holds = of.holds;
    open_extent = of.open_extent;
    last = of.last;
    noted = of.noted;
  }

  other_entry : (d id : ℕ) (ls : List Locator) (es : List Entry) → d ≢ id
      → live_at (record { id = id; locators = ls } ∷ es) d ≡ live_at es d
  other_entry d id ls es other = let off : (id == d) ≡ false = ne_eqb id d (λ same. other (sym same)) in rw off refl

  same_entry : (id : ℕ) (ls : List Locator) (es : List Entry) → live_at (record { id = id; locators = ls } ∷ es) id ≡ ls
  same_entry id ls es = let on : (id == id) ≡ true = eq-eqb id id refl in rw on refl

  module _ (shape : IsShape S) (format : IsFormat S F) (apart : S.apart ≡ true) where
    abbrev deleted : State → ℕ → State
    deleted s id = record s { table = record { id = id; locators = [] } ∷ s.table; commands = (id, None) ∷ s.commands }

    abbrev put_state : State → World → ℕ → List ℕ → List Locator → State
    put_state s v id bytes ls = record s {
      world = v;
      table = record { id = id; locators = ls } ∷ s.table;
      commands = (id, Some bytes) ∷ s.commands;
    }

    put_chunks : (s : State) (v : World) (r : Room) (id : ℕ) (bytes : List ℕ) (cs : List (List ℕ)) (ls : List Locator)
        → HasRoomNow S F s r → PutIn S F shape format s (record s { world = v }) ls cs → AreLong S F cs
        → (w : IsWritten S F shape format (is_aside S s) v id cs ls (dropped r id))
        → v.extents.swept ≡ s.world.extents.swept
        → (d : ℕ) → AreChunksIn S F (put_state s v id bytes ls) (copies_now S s) d (of_id d w.after.chunks)
    put_chunks s v r id bytes cs ls has put long w swept d = elim (cases_eq d id) [
      | inl same ↦ subst (λ (n : ℕ). AreChunksIn S F (put_state s v id bytes ls) (copies_now S s) n (of_id n w.after.chunks)) (sym same)
          (subst (λ (xs : List Chunk). AreChunksIn S F (put_state s v id bytes ls) (copies_now S s) id xs) (sym ids)
          (subst (λ (ks : List Locator). AreChunksOf S F (put_state s v id bytes ls).opening (newest_page (put_state s v id bytes ls)) (put_state s v id bytes ls).world.extents.pointer
          (put_state s v id bytes ls).world.extents.generation (copies_now S s) id 0 ks w.news) (sym (same_entry id ls (index_now s)))
          (written_are S F (put_state s v id bytes ls).opening (newest_page (put_state s v id bytes ls)) (put_state s v id bytes ls).world.extents.pointer (put_state s v id bytes ls).world.extents.generation (copies_now S s) id 0
          cs ls w.news w.written (put.chunks long)
          (λ j l there. away (any_swept S s) refl j l (ap (λ (f : ℕ → Bool). f l.extent) (sym swept) ∙ w.away l there)))))
      | inr other ↦ subst (λ (xs : List Chunk). AreChunksIn S F (put_state s v id bytes ls) (copies_now S s) d xs) (sym (others other))
          (subst (λ (ks : List Locator). AreChunksOf S F (put_state s v id bytes ls).opening (newest_page (put_state s v id bytes ls)) (put_state s v id bytes ls).world.extents.pointer
          (put_state s v id bytes ls).world.extents.generation (copies_now S s) d 0 ks (of_id d r.chunks)) (sym (other_entry d id ls (index_now s) other))
          (chunks_move S F s.opening (put_state s v id bytes ls).opening (newest_page s) (newest_page (put_state s v id bytes ls)) s.world.extents.pointer
          s.world.extents.generation (put_state s v id bytes ls).world.extents.pointer (put_state s v id bytes ls).world.extents.generation (copies_now S s) (copies_now S s) d 0
          (live_at (index_now s) d) (of_id d r.chunks)
          (λ l k there. pages_move S F s.opening (put_state s v id bytes ls).opening (newest_page s) (newest_page (put_state s v id bytes ls)) s.world.extents.pointer
          s.world.extents.generation (put_state s v id bytes ls).world.extents.pointer (put_state s v id bytes ls).world.extents.generation l k refl refl
          (λ payload. carry_reads S F s.opening (newest_page (put_state s v id bytes ls)) (newest_page s) s.world.extents.pointer
          s.world.extents.generation (put_state s v id bytes ls).world.extents.pointer (put_state s v id bytes ls).world.extents.generation put.carries put.still l
          (F.frame ChunkFrame payload)))
          (λ j l there. refl) (has.room.chunks d)))
    ]
      where
        ids : of_id id w.after.chunks ≡ w.news
        ids = ap (of_id id) w.chunks
            ∙ id_of_news id w.news (without id r.chunks) (written_ids F id cs ls w.news w.written)
            ∙ ap (λ (xs : List Chunk). w.news ++ xs) (id_without id r.chunks) ∙ append-nil w.news

        others : d ≢ id → of_id d w.after.chunks ≡ of_id d r.chunks
        others other = ap (of_id d) w.chunks
            ∙ id_of_others d id w.news (without id r.chunks) other (written_ids F id cs ls w.news w.written)
            ∙ other_without d id r.chunks other

        away : (b : Bool) → any_swept S s ≡ b → (j : ℕ) (l : Locator) → s.world.extents.swept l.extent ≡ false
            → copied_to (if b then s.copies else []) id j l ≡ None
        away false is j l off = refl
        away true is j l off = not_copied s.copies id j l (λ c there same. true≢false
            (sym (ap s.world.extents.swept (sym same) ∙ ((has.sound.apart apart).copied is c there).1) ∙ off))

    put_there : (s : State) (v : World) (r : Room) (id : ℕ) (bytes : List ℕ) (cs : List (List ℕ)) (ls : List Locator)
        → HasRoomNow S F s r → AppendAllBy S true s.world ForPut (chunk_frames S F cs) ls v
        → PutIn S F shape format s (record s { world = v }) ls cs → AreLong S F cs
        → (q : Room) × RoomDoes S S.run_extents r (RoomPut id (page_counts (chunk_frames S F cs))) q
        × IsRoomOf S F (put_state s v id bytes ls) q × (v.extents.fresh ≡ s.world.extents.fresh)
    put_there s v r id bytes cs ls has all put long =
        let done = put_all S F shape format (is_aside S s) s.world v id cs ls (dropped r id)
        (extents_stay (is_aside S s) s r id has.room.extents)
        (swept_of S s r.sweep (has.sound.apart apart).one_sweep has.room.sweep) (λ d is. (has.sound.swept d is).1)
        has.keeps.quotas.chunks all in (
          done.0.after,
          (done.0.writes, done.0.quota),
          same_asides s (put_state s v id bytes ls) done.0.after done.1 done.2 refl (record {
            extents = done.0.extents;
            chunks = put_chunks s v r id bytes cs ls has put long done.0 done.1;
            runs = done.0.runs ∙ has.room.runs;
            rooted = done.0.rooted;
            sweep = subst (λ (o : Option Sweep). IsSweepOf S (put_state s v id bytes ls) o) (sym done.0.sweep)
                (sweep_moves S s (put_state s v id bytes ls) r.sweep done.1 done.2 refl has.room.sweep);
          }),
          done.2,
        )

    pub put_room : (s t : State) (r : Room) (id n : ℕ) (bytes : List ℕ) → HasRoomNow S F s r
        → Step S F s (Put id bytes) (Accepted n) t
        → (cs : List (List ℕ)) × ArePayloads S F id (next_command s) bytes cs
        × ((q : Room) × RoomDoes S S.run_extents r (RoomPut id (page_counts (chunk_frames S F cs))) q × HasRoomNow S F t q)
    put_room s t r id n bytes has step =
        let d = step.1 in
        let worn = not_first WornOut (not_first Full (not_first IndexFull (not_first TooLarge
        (not_first Halted step.0).1).1).1).1 in
        let all = subst (λ (b : Bool). AppendAllBy S b s.world ForPut (chunk_frames S F d.0) d.1 d.4.0) apart d.4.1 in
        let whole : t ≡ put_state s d.4.0 id bytes d.1 = d.6 ∙ ap (λ (m : State). record m {
          table = record { id = id; locators = d.1 } ∷ m.table;
          commands = (id, Some bytes) ∷ m.commands;
        }) d.4.2 in
        let put = put_in S F shape format true (λ on. apart) s (record s { world = d.4.0 }) d.0 d.1 has.sound (d.4.0, all, refl)
        (in_room S F shape format s t d.4.0 (Put id bytes) (Accepted n) worn.0 d
        (ap (λ (x : State). x.world.superblocks) (sym whole))) in
        let done = put_there s d.4.0 r id bytes d.0 d.1 has all put
        (payloads_long S F format id (next_command s) bytes d.0 d.3) in
        let kept = steps S F shape format s t (Put id bytes) (Accepted n) has.sound has.bounded step in (
          d.0,
          d.3,
          (
            done.0,
            done.1,
            record {
              sound = kept.0;
              bounded = kept.1;
              room = subst (λ (x : State). IsRoomOf S F x done.0) (sym whole) done.2;
              keeps = put_keeps S S.run_extents r done.0 id (page_counts (chunk_frames S F d.0)) has.keeps done.1.0 done.1.1;
              unopened = λ none. ap (λ (x : State). x.world.extents.fresh) whole ∙ done.3
                  ∙ has.unopened (sym (ap (λ (x : State). x.copies) whole) ∙ none);
            },
          ),
        )

    pub delete_room : (s t : State) (r : Room) (id n : ℕ) → HasRoomNow S F s r → Step S F s (Delete id) (Accepted n) t
        → (q : Room) × RoomDoes S S.run_extents r (RoomDelete id) q × HasRoomNow S F t q
    delete_room s t r id n has step =
        let kept = steps S F shape format s t (Delete id) (Accepted n) has.sound has.bounded step in (
          dropped r id,
          refl,
          record {
            sound = kept.0;
            bounded = kept.1;
            room = subst (λ (x : State). IsRoomOf S F x (dropped r id)) (sym step.1.2) (record {
              extents = extents_stay (is_aside S s) s r id has.room.extents;
              chunks = λ d. elim (cases_eq d id) [
                | inl same ↦ subst (λ (x : ℕ). AreChunksIn S F (deleted s id) (copies_now S s) x (of_id x (without id r.chunks)))
                    (sym same) (subst (λ (ks : List Locator). AreChunksOf S F s.opening (newest_page s)
                    s.world.extents.pointer s.world.extents.generation (copies_now S s) id 0 ks
                    (of_id id (without id r.chunks))) (sym (same_entry id [] (index_now s))) (id_without id r.chunks))
                | inr other ↦ subst (λ (ks : List Locator). AreChunksOf S F s.opening (newest_page s)
                    s.world.extents.pointer s.world.extents.generation (copies_now S s) d 0 ks
                    (of_id d (without id r.chunks))) (sym (other_entry d id [] (index_now s) other))
                    (subst (λ (xs : List Chunk). AreChunksIn S F s (copies_now S s) d xs)
                    (sym (other_without d id r.chunks other)) (has.room.chunks d))
              ];
              runs = has.room.runs;
              rooted = refl;
              sweep = sweep_moves S s (deleted s id) r.sweep refl refl refl has.room.sweep;
            });
            keeps = delete_keeps S S.run_extents r id has.keeps;
            unopened = λ none. ap (λ (x : State). x.world.extents.fresh) step.1.2
                ∙ has.unopened (sym (ap (λ (x : State). x.copies) step.1.2) ∙ none);
          },
        )
