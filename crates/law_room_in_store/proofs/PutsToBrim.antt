-- Puts of cores and of the typed store find room up to the brim.
use Rattle.std.proofs.Common.{◌≡◌, inl, inr, ℕ, zero, suc, ◌+◌, ◌-◌, ◌*◌, ◌<◌, ◌≤◌, true, List, [], ◌∷◌, None, refl, ap, ◌∙◌, subst, sym, arith}
use Rattle.std.specs.Prelude.{sum}
use Rattle.cs_refusal.specs.declared.refusals.Refusal.TheVariants as refusal
use Rattle.cs_disk.specs.declared.disk.PageDisk.{Ghosts as PageDisk}
use Rattle.cs_extent.specs.State.{shape}
use Rattle.cs_frame.specs.declared.identifiers.ShardId.{ShardId}
use Rattle.cs_frame.specs.Formats.{formats_of}
use Rattle.cs_index.specs.State.{id_number}
use Rattle.law_machine.specs.Append.{chunk_frames, page_counts}
use Rattle.law_machine.specs.Device.{IsShape, Shape}
use Rattle.law_machine.specs.Events.{ArePayloads}
use Rattle.law_machine.specs.Extents.{Extents}
use Rattle.law_machine.specs.Formats.{Formats}
use Rattle.law_machine.specs.State as model
use Rattle.law_refinement.proofs.Shapes.{shape_of_store}
use Rattle.law_room.proofs.BrimDead.{dead_rested}
use Rattle.law_room.proofs.MachineBrim.{put_not_full_in}
use Rattle.law_room.proofs.MachineSweeps.{no_sweep}
use Rattle.law_room.proofs.MachineSwept.{syncs}
use Rattle.law_room.proofs.Syncing.{synced}
use Rattle.law_room.specs.Brim.{FitBeside, NothingDead, all_dead, dead_pages, sum_to}
use Rattle.law_room.specs.OfMachine.{HasRoomNow, IsRoomOf, NoneWorn}
use Rattle.law_room.specs.Rooms.{Room, all_pages}
use Rattle.law_room.specs.SweepsOfMachine.{IsSyncing}
use Rattle.cs_core.specs.declared.events.Event.{Event}
use Rattle.cs_core.specs.declared.events.Event.TheVariants.{Put}
use Rattle.cs_core.specs.declared.events.Reply.{Reply}
use Rattle.cs_core.specs.declared.events.Reply.TheVariants.{Refused}
use Rattle.cs_core.specs.Views.{Applies, IsCore, View}
use Rattle.cs_writeback.specs.Histories.{IsRefused, IsStopped, Went}
use Rattle.cs_store.specs.Events.{DeclinesCopy}
use Rattle.cs_store.specs.Reserves.{RefusesPut}
use Rattle.law_room_in_store.proofs.CorePuts.{not_refused}
use Rattle.law_room_in_store.proofs.CoreRoom.{state_roomy, young_state}
use Rattle.law_room_in_store.proofs.CoreSteps.{IsAt}
use Rattle.law_room_in_store.proofs.CoreSweeps.{room_in}
use Rattle.law_room_in_store.proofs.HavingRoom.{fills_apart, format_is}
use Rattle.law_room_in_store.proofs.KeepingRoom.{IsRoomyState, read_untouched, young_before}
use Rattle.law_room_in_store.proofs.Reaching.{reaches_ready, reaches_stopped}
use Rattle.law_room_in_store.proofs.ReclaimsGain.{none_below, still_at}
use Rattle.law_room_in_store.proofs.StorePuts.{of_sync}
use Rattle.law_room_in_store.proofs.StoresFull.{past_reads, read_state, ready_state, store_put}
use Rattle.law_room_in_store.specs.Cores.{HasRoom, NoneWornIn}
use Rattle.law_room_in_store.specs.Images.{HasGeometry}
use Rattle.law_room_in_store.specs.Reclaims.{FitsBeside, IsIdle, TakenAtMost}

-- ---- sums

sum_less : (h k : ℕ → ℕ) (n : ℕ) → ((e : ℕ) → h e ≤ k e) → sum_to h n ≤ sum_to k n
sum_less h k zero le = omega arith
sum_less h k (suc n) le = let rest : sum_to h n ≤ sum_to k n = sum_less h k n le in let here : h n ≤ k n = le n in omega (arith, rest, here)

sum_none : (h : ℕ → ℕ) (n : ℕ) → ((e : ℕ) → e < n → h e ≡ 0) → sum_to h n ≡ 0
sum_none h zero none = refl
sum_none h (suc n) none = let rest : sum_to h n ≡ 0 = sum_none h n (λ e lt. none e (omega (arith, lt))) in
    let here : h n ≡ 0 = none n (omega arith) in omega (arith, rest, here)

pub none_dead_all : (S : Shape) (r : Room) → NothingDead S r → all_dead r S.extents ≡ 0
none_dead_all S r none = sum_none (dead_pages r) S.extents none

-- what fits beside more fits beside less
pub fits_less : (S : Shape) (J less more : ℕ) (sizes : List ℕ) → less ≤ more → FitBeside S J more sizes → FitBeside S J less sizes
fits_less S J less more sizes le fit = record {
  most = fit.most;
  each = fit.each;
  one_fits = fit.one_fits;
  extents = fit.extents;
  few = below (sum sizes) ((S.extents - (J + 2)) * (S.pages + 1 - fit.most) + fit.most) fit.few;
}
  where
    below : (s x : ℕ) → more + s < x → less + s < x
    below s x lt = omega (arith, le, lt)

module _ {D : Type 0} (disks : PageDisk D) (v : View D) (geometry : HasGeometry v.store.extents)
    (apart : (shape v.store.extents).apart ≡ true) where
  abbrev S : Shape
  S = shape v.store.extents

  abbrev F : Formats
  F = formats_of (shape v.store.extents)

  store_is : IsShape S
  store_is = shape_of_store v.store.extents geometry

  filled : S.fills ≡ true
  filled = fills_apart v.store.extents.format apart

  -- the frames of a put fit beside what lives and what is dead in a room
  abbrev pub Fits : Room → ShardId → List ℕ → Type 0
  Fits r id bytes = (command : ℕ) (chunks : List (List ℕ)) → ArePayloads S F (id_number id) command bytes chunks
      → FitBeside S S.run_extents (all_pages r.chunks + all_dead r S.extents) (page_counts (chunk_frames S F chunks))

  not_full_beside : (w x : View D) (t : model.State) (r : Room) (id : ShardId) (bytes : List ℕ) → IsAt disks S w t → HasRoomNow S F t r
      → r.sweep ≡ None → Fits r id bytes → Applies disks w (Put id bytes) (Refused refusal.Full) x → ⊥
  not_full_beside w x t r id bytes at has none fits = not_refused disks S w x t id bytes at
      (put_not_full_in S F store_is (format_is v.store.extents geometry) filled t r (id_number id) bytes has none fits)

  -- no sweep goes on in a room of an idle core
  pub rests_now : (s : model.State) (r : Room) → IsAt disks S v s → IsRoomOf S F s r → IsIdle v → r.sweep ≡ None
  rests_now s r at room idle = no_sweep S s r.sweep
      (none_below s.world.extents.swept S.extents (λ e lt. ap (λ (x : Extents). x.swept e) at.is_in.store.parts.world.extents ∙ idle.none_swept e lt))
      room.sweep

  pub fits_now : (s : model.State) (r : Room) (taken : ℕ) (id : ShardId) (bytes : List ℕ) → IsAt disks S v s → IsRoomOf S F s r
      → TakenAtMost disks.state v taken → FitsBeside v taken id bytes → Fits r id bytes
  fits_now s r taken id bytes at room most fits = λ command chunks payloads. fits_less S S.run_extents (all_pages r.chunks + all_dead r S.extents) taken
      (page_counts (chunk_frames S F chunks)) (most r (room_in disks S v s r at room)) (fits command chunks payloads)

  pub core_put : (core : IsCore disks v) (honest : disks.honest v.disk) → HasRoom v → NoneWornIn v → IsIdle v
      → (w : View D) (id : ShardId) (bytes : List ℕ) (taken : ℕ) → TakenAtMost disks.state v taken → FitsBeside v taken id bytes
      → Applies disks v (Put id bytes) (Refused refusal.Full) w → ⊥
  core_put core honest has young idle w id bytes taken most fits =
      let s : model.State = (core.legal honest).0 in
      let at : IsAt disks S v s = record { same = refl; honest = honest; is_in = (core.legal honest).1 } in
      let r = state_roomy disks v geometry apart has young s at.is_in in
      not_full_beside v w s r.0 id bytes at r.1.room (rests_now s r.0 at r.1.room.room idle) (fits_now s r.0 taken id bytes at r.1.room.room most fits)

  -- a put at a state with a room in which it fits isn't refused so, whatever room is made for its event
  pub store_put_at : (y : View D) (id : ShardId) (bytes : List ℕ) (roomy : IsRoomyState disks v) → NoneWornIn y → (s : model.State) → IsAt disks S v s
      → (r : Room) → HasRoomNow S F s r → r.sweep ≡ None → Fits r id bytes → DeclinesCopy disks v (Put id bytes) refusal.Full y → ⊥
  store_put_at y id bytes roomy young s at r has none fits declines =
      let d = store_put disks v y id bytes roomy young declines in
      let ready = ready_state disks v d.0 roomy d.1 in
      let reaches = reaches_ready disks IsSyncing of_sync v d.0 d.1 in
      let t = reaches.leads at.honest s at.is_in in
      let then_at : IsAt disks S d.0 t.0 = record { same = reaches.same; honest = ready.honest; is_in = t.1 } in
      let ready_young : NoneWornIn d.0 = before_put d.0 ready d.2 in
      let then_young : NoneWorn S t.0 = subst (λ (T : Shape). NoneWorn T t.0) reaches.same
      (young_state disks d.0 ready.geometry ready.apart t.0 t.1 ready_young) in
      let q = syncs S F store_is (format_is v.store.extents geometry) apart s t.0 r t.2 has t.3 then_young t.4 in
      let rested = synced S S.run_extents q.0 r q.1 (store_is.apart apart).2 has.keeps q.2 in
      let pages : all_pages q.1.chunks ≡ all_pages r.chunks = ap all_pages rested.chunks in
      let dead : all_dead q.1 S.extents ≤ all_dead r S.extents =
      sum_less (dead_pages q.1) (dead_pages r) S.extents (dead_rested S S.run_extents r q.1 rested) in
      let fits_then : Fits q.1 id bytes = λ command chunks payloads. fits_less S S.run_extents (all_pages q.1.chunks + all_dead q.1 S.extents)
      (all_pages r.chunks + all_dead r S.extents) (page_counts (chunk_frames S F chunks)) (omega (arith, pages, dead)) (fits command chunks payloads) in
      stopped d.0 t.0 q.1 then_at q.3 (rested.sweep ∙ none) fits_then d.2
    where
      before_put : (ready : View D) → IsRoomyState disks ready → IsStopped disks ready [] (Put id bytes) refusal.Full y → NoneWornIn ready
      before_put ready there stops = young_before disks ready y there (reaches_stopped disks ready y [] (Put id bytes) refusal.Full stops) young

      stopped : (w : View D) (t : model.State) (q : Room) → IsAt disks S w t → HasRoomNow S F t q → q.sweep ≡ None → Fits q id bytes
          → IsStopped disks w [] (Put id bytes) refusal.Full y → ⊥
      stopped w t q here room rests beside stops = go stops.added stops.went stops.refused
        where
          go : (added : List (Event × Reply)) → Went disks w added y → IsRefused y (Put id bytes) refusal.Full added → ⊥
          go added went (inl is) = last (subst (λ (xs : List (Event × Reply)). Went disks w xs y) is went)
            where
              last : Went disks w ((Put id bytes, Refused refusal.Full) ∷ []) y → ⊥
              last (before, after, stays, goes, then_stays) =
                  not_full_beside before after t q id bytes (still_at disks S w before t here stays) room rests beside (inr goes.step)
          go added went (inr (none_told, inl why)) = let no : refusal.Full ≡ refusal.OutOfMemory = why in cc
          go added went (inr (none_told, inr why)) = let no : refusal.Full ≡ refusal.HistoryFull = why.0 in cc

-- of a store with the shape of another one
module _ {D : Type 0} (disks : PageDisk D) (v : View D) where
  pub store_put_read : (read y : View D) (id : ShardId) (bytes : List ℕ) → IsRoomyState disks read → NoneWornIn y → (s : model.State) → IsAt disks (shape v.store.extents) read s
      → (r : Room) → HasRoomNow (shape v.store.extents) (formats_of (shape v.store.extents)) s r → r.sweep ≡ None
      → ((command : ℕ) (chunks : List (List ℕ)) → ArePayloads (shape v.store.extents) (formats_of (shape v.store.extents)) (id_number id) command bytes chunks
      → FitBeside (shape v.store.extents) (shape v.store.extents).run_extents (all_pages r.chunks + all_dead r (shape v.store.extents).extents)
      (page_counts (chunk_frames (shape v.store.extents) (formats_of (shape v.store.extents)) chunks)))
      → DeclinesCopy disks read (Put id bytes) refusal.Full y → ⊥
  store_put_read read y id bytes there young s at r has none fits declines =
      store_put_at disks read there.geometry there.apart y id bytes there young s (record { same = refl; honest = at.honest; is_in = at.is_in }) r
      (subst (λ (T : Shape). HasRoomNow T (formats_of T) s r) (sym at.same) has) none
      (subst (λ (T : Shape). (command : ℕ) (chunks : List (List ℕ)) → ArePayloads T (formats_of T) (id_number id) command bytes chunks
      → FitBeside T T.run_extents (all_pages r.chunks + all_dead r T.extents) (page_counts (chunk_frames T (formats_of T) chunks))) (sym at.same) fits)
      declines

  -- beside what lives and what is dead, after reads
  pub store_put_beside : (y : View D) (id : ShardId) (bytes : List ℕ) (taken : ℕ) → IsRoomyState disks v → NoneWornIn v → NoneWornIn y → IsIdle v
      → TakenAtMost disks.state v taken → FitsBeside v taken id bytes → RefusesPut disks v id bytes refusal.Full y → ⊥
  store_put_beside y id bytes taken roomy young then_young idle most fits refuses =
      let p = past_reads disks v y id bytes refuses in
      let s : model.State = roomy.legal.0 in
      let at : IsAt disks (shape v.store.extents) v s = record { same = refl; honest = roomy.honest; is_in = roomy.legal.1 } in
      let r = state_roomy disks v roomy.geometry roomy.apart roomy.room young roomy.legal.0 roomy.legal.1 in
      let then_at = still_at disks (shape v.store.extents) v p.0 s at (read_untouched disks v p.0 p.1.0 p.1.1, p.1.1.honesty) in
      store_put_read p.0 y id bytes (read_state disks v p.0 roomy p.1) then_young s then_at r.0 r.1.room
      (rests_now disks v roomy.geometry roomy.apart s r.0 at r.1.room.room idle)
      (fits_now disks v roomy.geometry roomy.apart s r.0 taken id bytes at r.1.room.room most fits) p.2
