-- A put of a core finds room.
use Rattle.std.proofs.Common.{◌≡◌, inl, inr, ℕ, ◌+◌, ◌-◌, ◌*◌, ◌<◌, ◌≤◌, true, false, List, sym, ap, ◌∙◌, subst, arith}
use Rattle.cs_refusal.specs.declared.refusals.Refusal.TheVariants.{Full as NoPlace, HistoryFull}
use Rattle.cs_disk.specs.declared.disk.PageDisk.{Ghosts as PageDisk}
use Rattle.cs_extent.specs.State.{extents_of, shape}
use Rattle.cs_frame.specs.declared.identifiers.ShardId.{ShardId}
use Rattle.cs_frame.specs.Formats.{formats_of}
use Rattle.cs_index.specs.State.{id_number}
use Rattle.law_machine.proofs.ApartResets.{none_swept}
use Rattle.law_machine.specs.Apart.{any_swept, is_any_swept}
use Rattle.law_machine.specs.Device.{IsShape, Shape}
use Rattle.law_machine.specs.Extents.{Extents}
use Rattle.law_machine.specs.Formats.{Formats}
use Rattle.law_machine.specs.Grounds.{Refuses}
use Rattle.law_machine.specs.Refusal.{Full, Refusal as Ground}
use Rattle.law_machine.specs.State as model
use Rattle.law_machine.specs.Step.{Step}
use Rattle.law_refinement.proofs.Shapes.{shape_of_store}
use Rattle.law_room.proofs.MachineSweeps.{no_sweep}
use Rattle.law_room.proofs.MachineSwept.{pairs_room}
use Rattle.law_room.proofs.Sharing.{every_way}
use Rattle.law_room.specs.OfMachine.{HasRoomNow, NoneWorn}
use Rattle.law_room.specs.Rooms.{Room, all_pages, chunk_extents}
use Rattle.cs_core.specs.declared.events.Event.TheVariants.{Put}
use Rattle.cs_core.specs.declared.events.Reply.TheVariants.{Refused}
use Rattle.cs_core.specs.Views.{Applies, IsCore, View}
use Rattle.law_room_in_store.proofs.CoreRoom.{ground_full, state_roomy}
use Rattle.law_room_in_store.proofs.CoreSteps.{IsAt}
use Rattle.law_room_in_store.proofs.CoreSweeps.{chunks_counted, pairs_in, room_in, young_pairs}
use Rattle.law_room_in_store.proofs.HavingRoom.{fills_apart, format_is}
use Rattle.law_room_in_store.proofs.PutsInExtents.{put_not_full}
use Rattle.law_room_in_store.proofs.Reached.{refused_full}
use Rattle.law_room_in_store.specs.Cores.{HasRoom, NoneWornIn}
use Rattle.law_room_in_store.specs.Images.{HasGeometry}
use Rattle.law_room_in_store.specs.Puts.{FillsExtents}
use Rattle.law_room_in_store.specs.Sweeps.{AreLeftForPuts, LiveAtMost, PairsSweptBy}

-- what the machine doesn't refuse so in a state, no core in it does
pub not_refused : {D : Type 0} (disks : PageDisk D) (S : Shape) (w x : View D) (t : model.State) (id : ShardId) (bytes : List ℕ)
    → IsAt disks S w t → (Refuses S (formats_of S) t (model.Put (id_number id) bytes) Full → ⊥)
    → Applies disks w (Put id bytes) (Refused NoPlace) x → ⊥
not_refused disks S w x t id bytes at never (inl full) =
    let no : Refused NoPlace ≡ Refused HistoryFull = full.reply_is in cc
not_refused disks S w x t id bytes at never (inr step) =
    let d = step.step at.honest t at.is_in in
    let went : Step (shape w.store.extents) (formats_of (shape w.store.extents)) t (model.Put (id_number id) bytes)
    (model.Refused Full) d.1 =
    subst (λ (m : model.Reply). Step (shape w.store.extents) (formats_of (shape w.store.extents)) t
    (model.Put (id_number id) bytes) m d.1) (d.2.1 ∙ ap (λ (f : Ground). model.Refused f) (ground_full d.2.0 d.2.2)) d.3 in
    let here : Step S (formats_of S) t (model.Put (id_number id) bytes) (model.Refused Full) d.1 =
    subst (λ (T : Shape). Step T (formats_of T) t (model.Put (id_number id) bytes) (model.Refused Full) d.1) at.same went in
    never (refused_full S (formats_of S) t d.1 (model.Put (id_number id) bytes) here)

module _ {D : Type 0} (disks : PageDisk D) (v : View D) (geometry : HasGeometry v.store.extents)
    (apart : (shape v.store.extents).apart ≡ true) where
  abbrev S : Shape
  S = shape v.store.extents

  abbrev F : Formats
  F = formats_of (shape v.store.extents)

  store_is : IsShape S
  store_is = shape_of_store v.store.extents geometry

  -- a core in a state in which n extents are left doesn't refuse a put so that fills at most n
  pub not_full : (w x : View D) (t : model.State) (r : Room) (id : ShardId) (bytes : List ℕ) (n : ℕ) → IsAt disks S w t → HasRoomNow S F t r
      → chunk_extents r S.extents + n + S.run_extents + 2 ≤ S.extents → FillsExtents S n id bytes
      → Applies disks w (Put id bytes) (Refused NoPlace) x → ⊥
  not_full w x t r id bytes n at has left fill = not_refused disks S w x t id bytes at
      (put_not_full S F store_is (format_is v.store.extents geometry) (fills_apart v.store.extents.format apart) t r (id_number id) n
      bytes has left fill)

  module _ (core : IsCore disks v) (honest : disks.honest v.disk) (has : HasRoom v) where
    abbrev s : model.State
    s = (core.legal honest).0

    at_start : IsAt disks S v s
    at_start = record { same = λ i. S; honest = honest; is_in = (core.legal honest).1 }

    -- where n extents are left
    pub left_for_put : NoneWornIn v → (x : View D) (id : ShardId) (bytes : List ℕ) (n : ℕ) → AreLeftForPuts n v
        → FillsExtents S n id bytes → Applies disks v (Put id bytes) (Refused NoPlace) x → ⊥
    left_for_put young x id bytes n left fill full =
        let roomy = state_roomy disks v geometry apart has young s at_start.is_in in
        not_full v x s roomy.0 id bytes n at_start roomy.1.room
        (subst (λ (k : ℕ). k + n + S.run_extents + 2 ≤ S.extents)
        (sym (chunks_counted disks S v s roomy.0 at_start roomy.1.room.room)) left) fill full

    -- where little lives, and n pairs were swept
    pub pairs_for_put : (w x : View D) (id : ShardId) (bytes : List ℕ) (n pages : ℕ) → NoneWornIn w
        → ((e : ℕ) → (extents_of v.store.extents).swept e ≡ false) → S.run_extents + n + 3 ≤ S.extents
        → LiveAtMost disks.state v pages → 2 * pages < (S.extents - (S.run_extents + 1 + n)) * (S.pages + 1)
        → PairsSweptBy disks n v w → FillsExtents S n id bytes
        → Applies disks w (Put id bytes) (Refused NoPlace) x → ⊥
    pairs_for_put w x id bytes n pages young idle large live share swept fill full =
        let pairs = pairs_in disks S n v w s at_start swept in
        let then_young : NoneWorn S pairs.0 = subst (λ (T : Shape). NoneWorn T pairs.0) pairs.1.same
        (λ e lt. subst (λ (y : Extents). y.generation e < (shape w.store.extents).greatest_generation)
        (sym pairs.1.is_in.store.parts.world.extents) (young e lt)) in
        let first_young : NoneWorn S s = young_pairs S F store_is (format_is v.store.extents geometry) apart n s pairs.0 pairs.2
        then_young in
        let roomy = state_roomy disks v geometry apart has (λ e lt. subst (λ (y : Extents). y.generation e < S.greatest_generation)
        at_start.is_in.store.parts.world.extents (first_young e lt)) s at_start.is_in in
        let after = pairs_room S F store_is (format_is v.store.extents geometry) apart n s pairs.0 roomy.0 roomy.1.room pairs.2
        then_young in
        let none : any_swept S s ≡ false = subst (λ (y : Extents). is_any_swept S y ≡ false)
        (sym at_start.is_in.store.parts.world.extents) (none_swept (extents_of v.store.extents).swept S.extents idle) in
        let few : all_pages roomy.0.chunks ≤ pages = live roomy.0 (room_in disks S v s roomy.0 at_start roomy.1.room.room) in
        not_full w x pairs.0 after.0 id bytes n pairs.1 after.2
        (every_way S S.run_extents n roomy.0 after.0 roomy.1.room.keeps (store_is.apart apart).2
        (no_sweep S s roomy.0.sweep none roomy.1.room.room.sweep) large (omega (arith, few, share)) after.1) fill full
