-- A put of the typed store finds room.
use Rattle.std.proofs.Common.{◌≡◌, inl, inr, ℕ, ◌+◌, ◌≤◌, List, [], ◌∷◌, refl, sym, ap, subst, arith}
use Rattle.cs_refusal.specs.declared.refusals.Refusal.TheVariants as refusal
use Rattle.cs_disk.specs.declared.disk.PageDisk.{Ghosts as PageDisk}
use Rattle.cs_extent.specs.State.{shape}
use Rattle.cs_frame.specs.declared.identifiers.ShardId.{ShardId}
use Rattle.cs_frame.specs.Formats.{formats_of}
use Rattle.law_machine.specs.Device.{Shape}
use Rattle.law_refinement.proofs.Shapes.{shape_of_store}
use Rattle.law_room.proofs.Counts.{chunks_is, count_le}
use Rattle.law_room.proofs.MachineSwept.{syncs}
use Rattle.law_room.proofs.Syncing.{synced}
use Rattle.law_room.specs.OfMachine.{NoneWorn}
use Rattle.law_room.specs.Rooms.{chunk_extents, is_of_chunks}
use Rattle.law_room.specs.SweepsOfMachine.{IsSyncing}
use Rattle.cs_core.specs.declared.events.Event.{Event}
use Rattle.cs_core.specs.declared.events.Event.TheVariants.{Put}
use Rattle.cs_core.specs.declared.events.Reply.{Reply}
use Rattle.cs_core.specs.declared.events.Reply.TheVariants.{Refused}
use Rattle.cs_core.specs.Stored.{Stored}
use Rattle.cs_core.specs.Views.{View}
use Rattle.cs_writeback.specs.Histories.{IsRefused, IsStopped, Went}
use Rattle.cs_store.specs.Events.{DeclinesCopy}
use Rattle.cs_store.specs.Reserves.{RefusesPut}
use Rattle.law_room_in_store.proofs.CorePuts.{not_full}
use Rattle.law_room_in_store.proofs.CoreRoom.{state_roomy, young_state}
use Rattle.law_room_in_store.proofs.CoreSteps.{IsAt}
use Rattle.law_room_in_store.proofs.CoreSweeps.{chunks_counted}
use Rattle.law_room_in_store.proofs.HavingRoom.{format_is}
use Rattle.law_room_in_store.proofs.KeepingRoom.{IsRoomyState, reached_state, young_before}
use Rattle.law_room_in_store.proofs.Reaching.{Anything, IsOfSync, Reaches, reaches_goes, reaches_ready, reaches_some, reaches_stays, reaches_stopped, reaches_then}
use Rattle.law_room_in_store.proofs.StoresFull.{past_reads, read_state, ready_state, store_put}
use Rattle.law_room_in_store.specs.Cores.{NoneWornIn}
use Rattle.law_room_in_store.specs.Puts.{FillsExtents}
use Rattle.law_room_in_store.specs.Sweeps.{AreLeftForPuts, chunk_extents_of}

pub of_sync : IsOfSync IsSyncing
of_sync = record { stage = tt; rounds = record { begin = tt; issue = tt; end = tt } }

module _ {D : Type 0} (disks : PageDisk D) where
  at_now : (v : View D) (roomy : IsRoomyState disks v) → IsAt disks (shape v.store.extents) v roomy.legal.0
  at_now v roomy = record { same = refl; honest = roomy.honest; is_in = roomy.legal.1 }

  -- the events of syncs leave no fewer extents for puts
  pub synced_left : (v w : View D) (n : ℕ) → IsRoomyState disks v → NoneWornIn w → Reaches disks IsSyncing v w → AreLeftForPuts n v
      → AreLeftForPuts n w
  synced_left v w n roomy young reaches left =
      let some = reaches_some disks IsSyncing v w reaches in
      let before = young_before disks v w roomy some young in
      let r = state_roomy disks v roomy.geometry roomy.apart roomy.room before roomy.legal.0 roomy.legal.1 in
      let t = reaches.leads roomy.honest roomy.legal.0 roomy.legal.1 in
      let after = reached_state disks v w roomy some in
      let then_young : NoneWorn (shape v.store.extents) t.0 = subst (λ (T : Shape). NoneWorn T t.0) reaches.same
      (young_state disks w after.geometry after.apart t.0 t.1 young) in
      let q = syncs (shape v.store.extents) (formats_of (shape v.store.extents)) (shape_of_store v.store.extents roomy.geometry)
      (format_is v.store.extents roomy.geometry) roomy.apart roomy.legal.0 t.0 r.0 t.2 r.1.room t.3 then_young t.4 in
      let rested = synced (shape v.store.extents) (shape v.store.extents).run_extents q.0 r.0 q.1
      ((shape_of_store v.store.extents roomy.geometry).apart roomy.apart).2 r.1.room.keeps q.2 in
      let fewer : chunk_extents q.1 (shape v.store.extents).extents ≤ chunk_extents r.0 (shape v.store.extents).extents =
      count_le (λ e. is_of_chunks (q.1.holds e)) (λ e. is_of_chunks (r.0.holds e)) (shape v.store.extents).extents
      (λ e lt on. ap is_of_chunks (rested.only e (chunks_is (q.1.holds e) on))) in
      let was : chunk_extents r.0 (shape v.store.extents).extents ≡ chunk_extents_of v =
      chunks_counted disks (shape v.store.extents) v roomy.legal.0 r.0 (at_now v roomy) r.1.room.room in
      let now : chunk_extents q.1 (shape v.store.extents).extents ≡ chunk_extents_of w =
      chunks_counted disks (shape v.store.extents) w t.0 q.1 (record { same = reaches.same; honest = after.honest; is_in = t.1 }) q.3.room in
      subst (λ (T : Shape). chunk_extents_of w + n + T.run_extents + 2 ≤ T.extents) (sym reaches.same)
      (let all : chunk_extents_of v + n + (shape v.store.extents).run_extents + 2 ≤ (shape v.store.extents).extents = left in
      omega (arith, fewer, was, now))

  -- a put that fills at most n extents isn't refused for want of a place where n are left
  last_put : (v w : View D) (id : ShardId) (bytes : List ℕ) (n : ℕ) → IsRoomyState disks v → NoneWornIn w → AreLeftForPuts n v
      → FillsExtents (shape v.store.extents) n id bytes → Went disks v ((Put id bytes, Refused refusal.Full) ∷ []) w → ⊥
  last_put v w id bytes n roomy young left fill (before, after, stays, goes, then_stays) =
      let first = reached_state disks v before roomy (reaches_stays disks Anything v before stays) in
      let rest = reaches_then disks Anything before after w
      (reaches_goes disks Anything before after (Put id bytes) (Refused refusal.Full) tt goes)
      (reaches_stays disks Anything after w then_stays) in
      let first_young = young_before disks before w first rest young in
      let r = state_roomy disks before first.geometry first.apart first.room first_young first.legal.0 first.legal.1 in
      let same : before.store ≡ v.store = stays.0.store in
      let left_now : AreLeftForPuts n before = subst (λ (u : Stored). AreLeftForPuts n (record before { store = u })) (sym same) left in
      let count : chunk_extents r.0 (shape before.store.extents).extents ≡ chunk_extents_of before =
      chunks_counted disks (shape before.store.extents) before first.legal.0 r.0 (at_now before first) r.1.room.room in
      not_full disks before first.geometry first.apart before after first.legal.0 r.0 id bytes n (at_now before first) r.1.room
      (subst (λ (k : ℕ). k + n + (shape before.store.extents).run_extents + 2 ≤ (shape before.store.extents).extents) (sym count) left_now)
      (subst (λ (u : Stored). FillsExtents (shape u.extents) n id bytes) (sym same) fill) (inr goes.step)

  stopped_put : (v w : View D) (id : ShardId) (bytes : List ℕ) (n : ℕ) → IsRoomyState disks v → NoneWornIn w → AreLeftForPuts n v
      → FillsExtents (shape v.store.extents) n id bytes → IsStopped disks v [] (Put id bytes) refusal.Full w → ⊥
  stopped_put v w id bytes n roomy young left fill stopped = go stopped.added stopped.went stopped.refused
    where
      go : (added : List (Event × Reply)) → Went disks v added w → IsRefused w (Put id bytes) refusal.Full added → ⊥
      go added went (inl is) = last_put v w id bytes n roomy young left fill
          (subst (λ (xs : List (Event × Reply)). Went disks v xs w) is went)
      go added went (inr (none, inl why)) = let no : refusal.Full ≡ refusal.OutOfMemory = why in cc
      go added went (inr (none, inr why)) = let no : refusal.Full ≡ refusal.HistoryFull = why.0 in cc

  -- nor is one of the store, whatever room is made for its event
  pub store_put_left : (v w : View D) (id : ShardId) (bytes : List ℕ) (n : ℕ) → IsRoomyState disks v → NoneWornIn w
      → AreLeftForPuts n v → FillsExtents (shape v.store.extents) n id bytes
      → DeclinesCopy disks v (Put id bytes) refusal.Full w → ⊥
  store_put_left v w id bytes n roomy young left fill declines =
      let d = store_put disks v w id bytes roomy young declines in
      let ready = ready_state disks v d.0 roomy d.1 in
      let reaches = reaches_ready disks IsSyncing of_sync v d.0 d.1 in
      let ready_young : NoneWornIn d.0 = young_at d.0 w id bytes ready d.2 young in
      stopped_put d.0 w id bytes n ready young (synced_left v d.0 n roomy ready_young reaches left)
      (subst (λ (T : Shape). FillsExtents T n id bytes) (sym reaches.same) fill) d.2
    where
      young_at : (ready w : View D) (id : ShardId) (bytes : List ℕ) → IsRoomyState disks ready
          → IsStopped disks ready [] (Put id bytes) refusal.Full w → NoneWornIn w → NoneWornIn ready
      young_at ready w id bytes roomy stopped young = young_before disks ready w roomy
          (reaches_stopped disks ready w [] (Put id bytes) refusal.Full stopped) young

  -- nor after reads
  pub read_put_left : (v w : View D) (id : ShardId) (bytes : List ℕ) (n : ℕ) → IsRoomyState disks v → NoneWornIn w
      → AreLeftForPuts n v → FillsExtents (shape v.store.extents) n id bytes
      → RefusesPut disks v id bytes refusal.Full w → ⊥
  read_put_left v w id bytes n roomy young left fill refuses =
      let p = past_reads disks v w id bytes refuses in
      store_put_left p.0 w id bytes n (read_state disks v p.0 roomy p.1) young
      (subst (λ (u : View D). AreLeftForPuts n u) (sym p.1.0) left)
      (subst (λ (u : View D). FillsExtents (shape u.store.extents) n id bytes) (sym p.1.0) fill) p.2
