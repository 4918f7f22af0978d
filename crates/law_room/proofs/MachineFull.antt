-- Nothing but a put is refused for want of a place.
use Rattle.std.proofs.Common.{◌≡◌, ◌⊎◌, inl, inr, ℕ, zero, suc, ◌+◌, ◌<◌, ◌≤◌, ◌==◌, ◌&&◌, true, false, List, [], ◌∷◌, ◌++◌, length, Option, Some, None, refl, sym, ap, ◌∙◌, subst, arith}
use Rattle.std.proofs.lemmas.Bool.{cases_Bool}
use Rattle.law_machine.proofs.ApartAnswered.{left_found}
use Rattle.law_machine.proofs.ApartMoving.{retired_ready}
use Rattle.law_machine.proofs.Needs.{append_there_by}
use Rattle.law_machine.proofs.Rules.{apart_rule, rule_apart}
use Rattle.law_machine.proofs.Settling.{settled_alike}
use Rattle.law_machine.specs.Apart.{FirstLeft, NoRoomToCopy, NothingLeft, settled as machine_settled}
use Rattle.law_machine.specs.Device.{IsShape, Page, Shape}
use Rattle.law_machine.specs.Element.{Bytes, Content, Damaged, Locator, Opening}
use Rattle.law_machine.specs.Events.{mark, newest_page}
use Rattle.law_machine.specs.Extents.{Extents, ForMove, GoesApart, IsFirstEmpty, Takes}
use Rattle.law_machine.specs.Formats.{ChunkFrame, Formats}
use Rattle.law_machine.specs.Frames.{IsFormat}
use Rattle.law_machine.specs.Grounds.{Refuses}
use Rattle.law_machine.specs.Index.{Holds, Reads, ReadsAs, Value, after, live, live_at, lookup}
use Rattle.law_machine.specs.Lists.{nth, ◌∈◌}
use Rattle.law_machine.specs.Refusal.{Full, Halted, InFlight, NoRound, NotSweepable, Refusal, StillLive, WornOut}
use Rattle.law_machine.specs.State.{Abandon, Begin, BeginSweep, Delete, End, Event, Get, Issue, MoveOne, Put, Retire, Settle, Stage, State, index_now, map_now}
use Rattle.law_room.proofs.Chunks.{middle_in}
use Rattle.law_room.proofs.MachineBlank.{of_id_in}
use Rattle.law_room.proofs.MachineCopies.{none_copied, pages_are}
use Rattle.law_room.proofs.MachineEmpty.{machine_empty, stages_there}
use Rattle.law_room.proofs.MachineMoves.{IsAmong, all_there, among}
use Rattle.law_room.proofs.MachineGoes.{pointer_is}
use Rattle.law_room.proofs.MachineRetire.{IsEnding, ending}
use Rattle.law_room.proofs.Places.{at_most_all, left_fits, left_here, sweep_of}
use Rattle.law_room.specs.Events.{IsLeft}
use Rattle.law_room.specs.Invariant.{IsSweep}
use Rattle.law_room.specs.OfMachine.{HasRoomNow, IsFilled, IsPut, NoneToldFull, RunsFit, copied_to, of_id}
use Rattle.law_room.specs.Rooms.{Chunk, Room, Sweep, left_pages}
use Rattle.std.specs.Prelude.{is_none as no_number}

module _ (S : Shape) (F : Formats) (shape : IsShape S) (format : IsFormat S F) (apart : S.apart ≡ true) where
  -- a copy goes nowhere: then no extent takes it
  none_takes : (x : Extents) (k : ℕ) → ((e : ℕ) → GoesApart S x ForMove k e → ⊥) → (n : ℕ)
      → (d : ℕ) → d < n → Takes S x ForMove k d → ⊥
  none_takes x k none zero d lt takes = absurd (omega arith)
  none_takes x k none (suc n) d lt takes = none d (inr (inl (
    (λ c noted there. none c (inl (noted, there))),
    (takes, λ c below there. none_takes x k none n c (omega arith) there),
  )))

  -- but one does, or an empty extent may be opened
  copy_there : (s : State) (r : Room) (e : ℕ) (w : Sweep) → IsEnding S F shape format apart s r e w → (k : ℕ)
      → k ≤ left_pages r.chunks w.extent → ((d : ℕ) → GoesApart S s.world.extents ForMove k d → ⊥) → ⊥
  copy_there s r e w end k few none = by_fresh s.world.extents.fresh refl
    where
      keeps_sweep : IsSweep S S.run_extents r w
      keeps_sweep = sweep_of S S.run_extents r w end.room.keeps end.is

      by_fresh : (o : Option ℕ) → s.world.extents.fresh ≡ o → ⊥
      by_fresh None is =
          let fits : left_pages r.chunks w.extent ≤ S.pages = left_fits S S.run_extents r w end.room.keeps keeps_sweep in
          let empty = machine_empty S F shape format apart s r end.room in
          none empty.0 (inr (inr (
            (λ d takes. none_takes s.world.extents k none (suc d) d (omega arith) takes),
            empty.1,
            omega arith,
            is,
          )))
      by_fresh (Some f) is =
          let there = keeps_sweep.fresh f (end.of.3 ∙ is) in
          let filled : IsFilled S s.world.extents f = end.plain.extents.noted.opened f is in
          let fits : r.pointer f + left_pages r.chunks w.extent ≤ S.pages = there.3 in
          let pointer : r.pointer f ≡ s.world.extents.pointer f =
          pointer_is S (λ (d : ℕ). false) s.world.extents r end.plain.extents f filled.0 refl in
          none f (inl (
            sym (all_there s.world.extents.last) ∙ sym end.plain.extents.last ∙ there.1,
            (
              (filled.0, filled.1, filled.2, omega arith, filled.3),
              elim (cases_Bool (s.world.extents.swept f)) [
                | inl on ↦ absurd ((keeps_sweep.targets f there.0).2
                    ((end.room.sound.apart apart).one_sweep f w.extent on end.of.2))
                | inr off ↦ off
              ],
            ),
          ))

  -- so the first chunk that is left has a place
  move_there : (s : State) (r : Room) (e : ℕ) (w : Sweep) → IsEnding S F shape format apart s r e w → (id k : ℕ) (l : Locator)
      (payload : List ℕ) → FirstLeft s e id k l → s.opening.damage l ≡ None
      → Reads S F s.opening (newest_page s) s.world.extents.pointer s.world.extents.generation l (F.frame ChunkFrame payload)
      → ((d : ℕ) → GoesApart S s.world.extents ForMove (length (F.frame ChunkFrame payload)) d → ⊥) → ⊥
  move_there s r e w end id k l payload first whole reads none =
      let am : IsAmong S F s.opening (newest_page s) s.world.extents.pointer s.world.extents.generation s.copies
      s.copies id 0 k (live_at (index_now s) id) l (of_id id r.chunks) =
      among S F s.opening (newest_page s) s.world.extents.pointer s.world.extents.generation s.copies
      s.copies id 0 k (live_at (index_now s) id) l (of_id id r.chunks) first.there (end.plain.chunks id) in
      let zero_more : 0 + k ≡ k = omega arith in
      let got : am.chunk ∈ r.chunks = of_id_in id r.chunks am.chunk
      (subst (λ (cs : List Chunk). am.chunk ∈ cs) (sym am.parts) (middle_in am.front am.back am.chunk)) in
      let left : IsLeft S w am.chunk = (
        am.is.extent ∙ first.on_it ∙ sym end.extent,
        am.is.copy ∙ ap (λ (n : ℕ). copied_to s.copies id n l) zero_more
            ∙ none_copied s.copies id k l (λ c there i j from. first.left (c, there, i, j, from)),
      ) in
      let pages : am.chunk.pages ≡ length (F.frame ChunkFrame payload) = pages_are S F shape format apart s.opening (newest_page s)
      s.world.extents.pointer s.world.extents.generation l am.chunk.pages payload whole reads am.is.pages in
      let few : am.chunk.pages ≤ left_pages r.chunks w.extent = at_most_all S S.run_extents
      (λ (c : Chunk). (c.extent == w.extent) && no_number c.copy) r.chunks am.chunk got
      (left_here S S.run_extents w am.chunk left) in
      copy_there s r e w end (length (F.frame ChunkFrame payload)) (omega arith) none

  swept_now : (s : State) (e : ℕ) → (s.world.extents.swept e ≡ false → ⊥) → s.world.extents.swept e ≡ true
  swept_now s e not = elim (cases_Bool (s.world.extents.swept e)) [
    | inl on ↦ on
    | inr off ↦ absurd (not off)
  ]

  -- a shard is told as damaged as one of its chunks is
  told : (opening : Opening) (img : ℕ → Page) (p g : ℕ → ℕ) (ls : List Locator) (content : Content) (f : Refusal)
      → ReadsAs S F opening img p g ls content → content ≡ Damaged f
      → (l : Locator) × (l ∈ ls) × (opening.damage l ≡ Some f)
  told opening img p g [] content f is damaged = absurd (let wrong : Bytes [] ≡ Damaged f = sym is ∙ damaged in cc)
  told opening img p g (l ∷ ls) content f (inr (h, bad, is)) damaged =
      (let same : Damaged h ≡ Damaged f = sym is ∙ damaged in let at : h ≡ f = cc in
      (l, inl refl, bad ∙ ap (λ (n : Refusal). Some n) at))
  told opening img p g (l ∷ ls) content f (inl (chunk, rest, reads, more, is)) damaged =
      let found = told opening img p g ls rest f more (behind rest (sym is ∙ damaged)) in (found.0, inr found.1, found.2)
    where
      behind : (c : Content) → after (F.body chunk) c ≡ Damaged f → c ≡ Damaged f
      behind (Bytes bytes) wrong = absurd (let no : Bytes (F.body chunk ++ bytes) ≡ Damaged f = wrong in cc)
      behind (Damaged h) same = same

  told_of : (s : State) (o : Option (List Locator)) (v : Option Content) (f : Refusal)
      → Value S F s.opening (newest_page s) s.world.extents.pointer s.world.extents.generation o v → v ≡ Some (Damaged f)
      → (l : Locator) × (l ∈ live o) × (s.opening.damage l ≡ Some f)
  told_of s None v f none is = absurd (let wrong : None ≡ Some (Damaged f) = sym none ∙ is in cc)
  told_of s (Some []) v f none is = absurd (let wrong : None ≡ Some (Damaged f) = sym none ∙ is in cc)
  told_of s (Some (l ∷ ls)) v f (content, reads, at) is = told s.opening (newest_page s) s.world.extents.pointer
      s.world.extents.generation (l ∷ ls) content f reads
      (let same : Some content ≡ Some (Damaged f) = sym at ∙ is in cc)

  nth_in : (ls : List Locator) (k : ℕ) (l : Locator) → nth ls k ≡ Some l → l ∈ ls
  nth_in [] k l wrong = absurd (let no : None ≡ Some l = wrong in cc)
  nth_in (x ∷ ls) zero l is = inl (let same : x ≡ l = cc in sym same)
  nth_in (x ∷ ls) (suc k) l is = inr (nth_in ls k l is)

  move_full : (s : State) (r : Room) (e : ℕ) → HasRoomNow S F s r → NoneToldFull s → Refuses S F s (MoveOne e) Full → ⊥
  move_full s r e has told_none (inl (halted, wrong)) = let no : Full ≡ Halted = wrong in cc
  move_full s r e has told_none (inr (on, inl (idle, wrong))) = let no : Full ≡ NotSweepable = wrong in cc
  move_full s r e has told_none (inr (on, inr (sweeps, inl bad))) =
      let d = apart_rule _ _ S.apart apart bad in told_none d.0 d.2 (nth_in (live_at (index_now s) d.0) d.1 d.2 d.3.there) d.4
  move_full s r e has told_none (inr (on, inr (sweeps, inr (whole, inr (room, inl (worn, wrong)))))) =
      let no : Full ≡ WornOut = wrong in cc
  move_full s r e has told_none (inr (on, inr (sweeps, inr (whole, inr (room, inr none))))) = none.1
  move_full s r e has told_none (inr (on, inr (sweeps, inr (whole, inl (full, is))))) =
      let ground = apart_rule _ _ S.apart apart full in
      let swept : s.world.extents.swept e ≡ true = swept_now s e sweeps in
      let end = ending S F shape format apart s r e has swept in
      by_left (left_found S F shape format s e) ground.0 ground.1 end.0 end.1
    where
      undamaged : (id k : ℕ) (l : Locator) → FirstLeft s e id k l → (o : Option Refusal) → s.opening.damage l ≡ o → o ≡ None
      undamaged id k l first None is = refl
      undamaged id k l first (Some f) is = absurd (whole f (rule_apart _ _ S.apart apart (id, k, l, first, is)))

      by_left : ((id : ℕ) × (k : ℕ) × (l : Locator) × FirstLeft s e id k l) ⊎ NothingLeft s e → (NothingLeft s e → ⊥)
          → NoRoomToCopy S F s e → (w : Sweep) → IsEnding S F shape format apart s r e w → ⊥
      by_left (inr nothing) some nowhere w end = some nothing
      by_left (inl (id, k, l, first)) some nowhere w end =
          let none : s.opening.damage l ≡ None = undamaged id k l first (s.opening.damage l) refl in
          by_holds none (has.sound.gives.holds id l (nth_in (live_at (index_now s) id) k l first.there))
        where
          by_holds : s.opening.damage l ≡ None
              → Holds S F s.opening (newest_page s) s.world.extents.pointer s.world.extents.generation l → ⊥
          by_holds none (inl (f, bad)) = let no : None ≡ Some f = sym none ∙ bad in cc
          by_holds none (inr (payload, reads)) = move_there s r e w end id k l payload first none reads
              (λ d goes. (let one = append_there_by S true s.world ForMove (F.frame ChunkFrame payload) d goes in
              nowhere id k l one.0 payload (record s { world = one.1 }) first reads (one.1, one.2, refl)))

  stage_full : (s : State) (r : Room) → HasRoomNow S F s r → RunsFit S F → Refuses S F s Stage Full → ⊥
  stage_full s r has fit (inl (halted, wrong)) = let no : Full ≡ Halted = wrong in cc
  stage_full s r has fit (inr (on, inr (room, inl (worn, wrong)))) = let no : Full ≡ WornOut = wrong in cc
  stage_full s r has fit (inr (on, inr (room, inr none))) = none.1
  stage_full s r has fit (inr (on, inl (full, is))) =
      let empty = machine_empty S F shape format apart s r has in
      stages_there S F shape format apart s empty.0 has.sound has.bounded fit empty.1 (apart_rule _ _ S.apart apart full).1

  retire_full : (s : State) (r : Room) (e : ℕ) → HasRoomNow S F s r → RunsFit S F → Refuses S F s (Retire e) Full → ⊥
  retire_full s r e has fit (inl (halted, wrong)) = let no : Full ≡ Halted = wrong in cc
  retire_full s r e has fit (inr (on, inl (idle, wrong))) = let no : Full ≡ NotSweepable = wrong in cc
  retire_full s r e has fit (inr (on, inr (sweeps, inl (live, wrong)))) = let no : Full ≡ StillLive = wrong in cc
  retire_full s r e has fit (inr (on, inr (sweeps, inr (dead, inr (room, inl (worn, wrong)))))) =
      let no : Full ≡ WornOut = wrong in cc
  retire_full s r e has fit (inr (on, inr (sweeps, inr (dead, inr (room, inr none))))) = none.1
  retire_full s r e has fit (inr (on, inr (sweeps, inr (dead, inl (full, is))))) =
      let empty = machine_empty S F shape format apart s r has in
      let ready = retired_ready S F shape format apart s e has.sound has.bounded (swept_now s e sweeps) in
      stages_there S F shape format apart (machine_settled (mark s e false)) empty.0 ready.0 ready.1 fit
      (settled_alike (λ (x : State). IsFirstEmpty S x.world.extents empty.0) (mark s e false) empty.1)
      (apart_rule _ _ S.apart apart full)

  pub only_puts : (s : State) (r : Room) (event : Event) → HasRoomNow S F s r → RunsFit S F → NoneToldFull s
      → Refuses S F s event Full → IsPut event
  only_puts s r (Put id bytes) has fit told_none full = tt
  only_puts s r (Get id) has fit told_none (inl bad) = (let found = told_of s (lookup id (index_now s)) (map_now s id) Full
      (has.sound.gives.values id) bad in told_none id found.0 found.1 found.2)
  only_puts s r (Get id) has fit told_none (inr none) = none.1
  only_puts s r (Delete id) has fit told_none (inl (halted, wrong)) = let no : Full ≡ Halted = wrong in cc
  only_puts s r (Delete id) has fit told_none (inr (on, inl (worn, wrong))) = let no : Full ≡ WornOut = wrong in cc
  only_puts s r (Delete id) has fit told_none (inr (on, inr none)) = none.1
  only_puts s r Stage has fit told_none full = stage_full s r has fit full
  only_puts s r Begin has fit told_none (inl (halted, wrong)) = let no : Full ≡ Halted = wrong in cc
  only_puts s r Begin has fit told_none (inr (on, inl (out, wrong))) = let no : Full ≡ InFlight = wrong in cc
  only_puts s r Begin has fit told_none (inr (on, inr none)) = none.1
  only_puts s r Issue has fit told_none (inl (halted, wrong)) = let no : Full ≡ Halted = wrong in cc
  only_puts s r Issue has fit told_none (inr (on, inl (out, wrong))) = let no : Full ≡ NoRound = wrong in cc
  only_puts s r Issue has fit told_none (inr (on, inr none)) = none.1
  only_puts s r End has fit told_none (inl (halted, wrong)) = let no : Full ≡ Halted = wrong in cc
  only_puts s r End has fit told_none (inr (on, inl (out, wrong))) = let no : Full ≡ NoRound = wrong in cc
  only_puts s r End has fit told_none (inr (on, inr none)) = none.1
  only_puts s r (BeginSweep e) has fit told_none (inl (halted, wrong)) = let no : Full ≡ Halted = wrong in cc
  only_puts s r (BeginSweep e) has fit told_none (inr (on, inl (out, wrong))) = let no : Full ≡ NotSweepable = wrong in cc
  only_puts s r (BeginSweep e) has fit told_none (inr (on, inr none)) = none.1
  only_puts s r (MoveOne e) has fit told_none full = move_full s r e has told_none full
  only_puts s r (Retire e) has fit told_none full = retire_full s r e has fit full
  only_puts s r (Abandon e) has fit told_none (inl (halted, wrong)) = let no : Full ≡ Halted = wrong in cc
  only_puts s r (Abandon e) has fit told_none (inr (on, inl (out, wrong))) = let no : Full ≡ NotSweepable = wrong in cc
  only_puts s r (Abandon e) has fit told_none (inr (on, inr none)) = none.1
  only_puts s r (Settle n) has fit told_none full = full
