-- Cores have room from the time that they are made.
use Rattle.std.proofs.Common.{slice_index_or, replicate, length, arith, ◌≡◌, ◌⊎◌, inl, inr, ⊎_elim, ℕ, ◌<◌, true, List, [], ◌∷◌, refl, sym, ap, ◌∙◌, subst}
use Rattle.std.proofs.lemmas.List.{get_or-replicate, length-replicate}
use Rattle.cs_refusal.specs.declared.refusals.Refusal.TheVariants as refusal
use Rattle.cs_disk.specs.declared.disk.PageDisk.{Ghosts as PageDisk}
use Rattle.cs_disk.specs.Disk.{Image, page}
use Rattle.cs_extent.specs.State.{State as ExtentsState, extents_of, shape}
use Rattle.cs_frame.specs.Geometries.{IsGeometry}
use Rattle.cs_frame.specs.Formats.{formats_of}
use Rattle.law_machine.specs.Format.{Format, Four}
use Rattle.law_machine.specs.Device.{Shape}
use Rattle.law_machine.specs.Extents.{Extents}
use Rattle.cs_frame.specs.declared.identifiers.ShardId.{ShardId}
use Rattle.law_machine.specs.Formats.{Formats}
use Rattle.law_machine.specs.Geometry.{apart_in}
use Rattle.law_machine.specs.Grounds.{Refuses}
use Rattle.law_machine.specs.Open.{opened_state}
use Rattle.law_machine.specs.Refusal.{Full, Refusal as Ground}
use Rattle.law_machine.specs.State as model
use Rattle.law_machine.specs.Step.{History, Step}
use Rattle.law_refinement.proofs.Shapes.{shape_of_store}
use Rattle.law_refinement.specs.Refusals.{refusal_for}
use Rattle.law_room.proofs.MachineSteps.{young_step}
use Rattle.law_room.specs.OfMachine.{IsPut, NoneWorn}
use Rattle.law_room.specs.Rooms.{Room}
use Rattle.law_room.specs.RootsOfMachine.{IsRoomy}
use Rattle.cs_core.specs.declared.events.Event.{Event}
use Rattle.cs_core.specs.declared.events.Event.TheVariants.{Put}
use Rattle.cs_core.specs.declared.events.Reply.{Reply}
use Rattle.cs_core.specs.declared.events.Reply.TheVariants.{Refused}
use Rattle.cs_core.specs.Calls.{AreCalls, IsCall}
use Rattle.cs_core.specs.Checkpoints.{Replaces}
use Rattle.cs_core.specs.Meanings.{event_of}
use Rattle.cs_core.specs.Started.{new_stored}
use Rattle.cs_core.specs.Stored.{Stored}
use Rattle.cs_core.specs.Views.{Applies, AreSaid, IsCore, IsIn, IsStep, IsUntouched, View}
use Rattle.law_room_in_store.proofs.HavingRoom.{format_is, store_has_room}
use Rattle.law_room_in_store.proofs.Reached.{nothing_has_room, reached_full, reached_roomy, refused_full}
use Rattle.law_room_in_store.specs.Cores.{HasRoom, NoneWornIn}
use Rattle.law_room_in_store.specs.Images.{HasGeometry, HasRoomOn}

-- what says no event has none
none_said : (S : Shape) (F : Formats) (history : List (Event × Reply)) (events : List (model.Event × model.Reply))
    → AreSaid S F history events → history ≡ [] → events ≡ []
none_said S F [] [] said none = refl
none_said S F [] (y ∷ ys) said none = absurd said
none_said S F (x ∷ xs) events said none = absurd cc

-- no other ground is told as want of a place
pub ground_full : (f : Ground) → refusal.Full ≡ refusal_for f → f ≡ Full
ground_full Full is = refl
ground_full f is = absurd cc

-- the event is a put
put_is : (event : Event) → IsPut (event_of event) → (id : ShardId) × (bytes : List ℕ) × (event ≡ Put id bytes)
put_is (Put id bytes) is = (id, bytes, refl)
put_is event none = absurd none

module _ {D : Type 0} (disks : PageDisk D) (v : View D) (geometry : HasGeometry v.store.extents)
    (apart : (shape v.store.extents).apart ≡ true) where
  abbrev S : Shape
  S = shape v.store.extents

  abbrev F : Formats
  F = formats_of (shape v.store.extents)

  -- a core on which nothing was done, and which has no run
  pub empty_has_room : IsCore disks v → disks.honest v.disk → v.history ≡ [] → v.store.index.runs ≡ [] → HasRoom v
  empty_has_room core honest none empty =
      let s = core.legal honest in
      let reached = s.1.reached in
      let run : History S F (opened_state S F (page v.opened) reached.count reached.start reached.gives) [] s.0 =
      subst (λ (events : List (model.Event × model.Reply)). History S F
      (opened_state S F (page v.opened) reached.count reached.start reached.gives) events s.0)
      (none_said S F v.history reached.events reached.said none) reached.legal in
      let runs : reached.gives.runs ≡ [] = sym (ap (λ (x : model.State). x.runs) run) ∙ sym s.1.store.parts.index.same_runs ∙ empty in
      nothing_has_room S (shape_of_store v.store.extents geometry) (format_is v.store.extents geometry)
      (store_has_room v.store.extents geometry) apart v.opened reached.count reached.start reached.gives runs

  pub young_state : (s : model.State) → IsIn disks.state v s → NoneWornIn v → NoneWorn S s
  young_state s is young e lt = subst (λ (x : Extents). x.generation e < S.greatest_generation)
      (sym is.store.parts.world.extents) (young e lt)

  module _ (has : HasRoom v) (young : NoneWornIn v) (s : model.State) (is : IsIn disks.state v s) where
    -- the state of a core with room has it
    pub state_roomy : (r : Room) × IsRoomy S F s r
    state_roomy = reached_roomy S (shape_of_store v.store.extents geometry) (format_is v.store.extents geometry)
        (store_has_room v.store.extents geometry) apart v.opened is.reached.count is.reached.start is.reached.gives
        is.reached.events s is.reached.legal has (young_state s is young)

    state_full : (event : model.Event) → Refuses S F s event Full → IsPut event
    state_full = reached_full S (shape_of_store v.store.extents geometry) (format_is v.store.extents geometry)
        (store_has_room v.store.extents geometry) apart v.opened is.reached.count is.reached.start is.reached.gives
        is.reached.events s is.reached.legal has (young_state s is young)

    pub step_full : (event : Event) (w : View D) → disks.honest v.disk → IsStep disks v event (Refused refusal.Full) w
        → (id : ShardId) × (bytes : List ℕ) × (event ≡ Put id bytes)
    step_full event w honest step = let d = step.step honest s is in
        put_is event (state_full (event_of event) (refused_full S F s d.1 (event_of event)
        (subst (λ (m : model.Reply). Step S F s (event_of event) m d.1)
        (d.2.1 ∙ ap (λ (f : Ground). model.Refused f) (ground_full d.2.0 d.2.2)) d.3)))

  -- nothing but a put is refused for want of a place
  pub only_a_put : IsCore disks v → disks.honest v.disk → HasRoom v → NoneWornIn v → (event : Event) (w : View D)
      → Applies disks v event (Refused refusal.Full) w → (id : ShardId) × (bytes : List ℕ) × (event ≡ Put id bytes)
  only_a_put core honest has young event w (inl full) =
      absurd (let no : Refused refusal.Full ≡ Refused refusal.HistoryFull = full.reply_is in cc)
  only_a_put core honest has young event w (inr step) = let s = core.legal honest in
      step_full has young s.0 s.1 event w honest step

-- a new store has the geometry that it was made with
pub new_geometry : (format : Format) (extents pages sections : ℕ) → IsGeometry format extents pages sections
    → HasGeometry (new_stored format extents pages sections).extents
new_geometry format extents pages sections geometry =
    subst (λ (n : ℕ). IsGeometry format n pages sections) (sym (length-replicate extents (0, 0))) geometry

-- in format 4 chunks and runs lie apart
pub format_apart : (x : ExtentsState) (store : List ℕ) (device : ℕ) → x.format ≡ Four store device → (shape x).apart ≡ true
format_apart x store device is = ap apart_in is

-- a core over a new store has no run
pub new_is_empty : {D : Type 0} (disks : PageDisk D) (v : View D) (store : List ℕ) (device extents pages sections : ℕ) → IsGeometry (Four store device) extents pages sections
    → IsCore disks v → disks.honest v.disk → v.history ≡ [] → v.store ≡ new_stored (Four store device) extents pages sections → HasRoom v
new_is_empty disks v store device extents pages sections geometry core honest none made =
    empty_has_room disks v (subst (λ (s : Stored). HasGeometry s.extents) (sym made) (new_geometry (Four store device) extents pages sections geometry))
    (ap (λ (s : Stored). (shape s.extents).apart) made) core honest none (ap (λ (s : Stored). s.index.runs) made)

-- the geometry goes with the shape
pub same_geometry : (x y : ExtentsState) → shape y ≡ shape x → HasGeometry x → HasGeometry y
same_geometry x y same geometry = subst (λ (S : Shape). IsGeometry S.format S.extents S.pages S.sections) (sym same) geometry

-- no extent of a new store was ever reset
young_row : (extents e : ℕ) (row : ℕ × ℕ) → row.1 ≡ 0 → e < length (replicate extents row)
    → (slice_index_or (replicate extents row) e row).1 < 4294967295
young_row extents e row none lt =
    let size : length (replicate extents row) ≡ extents = length-replicate extents row in
    let same : slice_index_or (replicate extents row) e row ≡ row = get_or-replicate extents e row row (omega (arith, size, lt)) in
    let is : (slice_index_or (replicate extents row) e row).1 ≡ 0 = ap (λ (r : ℕ × ℕ). r.1) same ∙ none in omega (arith, is)

pub new_is_young : {D : Type 0} (v : View D) (format : Format) (extents pages sections : ℕ) → v.store ≡ new_stored format extents pages sections
    → NoneWornIn v
new_is_young v format extents pages sections made = subst (λ (s : Stored). (e : ℕ) → e < (shape s.extents).extents
    → (extents_of s.extents).generation e < (shape s.extents).greatest_generation) (sym made)
    (λ e lt. young_row extents e (0, 0) refl lt)

-- room is that of the image that the core was opened on
pub same_opened : {D : Type 0} (v w : View D) → shape w.store.extents ≡ shape v.store.extents → w.opened ≡ v.opened → HasRoom v
    → HasRoom w
same_opened v w same_shape same has = subst (λ (i : Image). HasRoomOn (shape w.store.extents) i) (sym same)
    (subst (λ (S : Shape). HasRoomOn S v.opened) (sym same_shape) has)

module _ {D : Type 0} (disks : PageDisk D) where
  pub event_stays : (v w : View D) (event : Event) (reply : Reply) → HasRoom v → Applies disks v event reply w → HasRoom w
  event_stays v w event reply has (inl full) = subst HasRoom (sym full.same) has
  event_stays v w event reply has (inr step) = same_opened v w step.same_shape step.opened has

  pub untouched_stays : (v w : View D) → HasRoom v → IsUntouched disks v w → HasRoom w
  untouched_stays v w has same = same_opened v w (ap (λ (s : Stored). shape s.extents) same.store) same.opened has

  pub replaced_stays : (v w : View D) (n : ℕ) → HasRoom v → Replaces v n w → HasRoom w
  replaced_stays v w n has replaces = subst HasRoom (sym replaces.1) has

  call_stays : (v w : View D) → HasRoom v → IsCall disks v w → HasRoom w
  call_stays v w has call = ⊎_elim
      (λ (did : (e : Event) × (r : Reply) × Applies disks v e r w). event_stays v w did.0 did.1 has did.2)
      (λ (other : IsUntouched disks v w ⊎ ((n : ℕ) × Replaces v n w)). ⊎_elim
      (λ (same : IsUntouched disks v w). untouched_stays v w has same)
      (λ (replaces : (n : ℕ) × Replaces v n w). replaced_stays v w replaces.0 has replaces.1) other) call.did

  pub calls_stay : (between : List (View D)) (v w : View D) → HasRoom v → AreCalls disks v between w → HasRoom w
  calls_stay [] v w has call = call_stays v w has call
  calls_stay (x ∷ xs) v w has (call, calls) = calls_stay xs x w (call_stays v x has call) calls

  -- generations only rise
  pub young_event : (v w : View D) (event : Event) (reply : Reply) → HasGeometry v.store.extents
      → (shape v.store.extents).apart ≡ true → IsCore disks v → disks.honest v.disk → Applies disks v event reply w
      → NoneWornIn w → NoneWornIn v
  young_event v w event reply geometry apart core honest (inl full) young = subst NoneWornIn full.same young
  young_event v w event reply geometry apart core honest (inr step) young =
      let s = core.legal honest in
      let d = step.step honest s.0 s.1 in
      let later : NoneWorn (shape v.store.extents) d.1 = λ e lt.
      subst (λ (S : Shape). e < S.extents → d.1.world.extents.generation e < S.greatest_generation) step.same_shape
      (λ inside. subst (λ (x : Extents). x.generation e < (shape w.store.extents).greatest_generation)
      (sym d.4.store.parts.world.extents) (young e inside)) lt in
      let earlier = young_step (shape v.store.extents) (formats_of (shape v.store.extents)) (shape_of_store v.store.extents geometry)
      (format_is v.store.extents geometry) apart s.0 d.1 (event_of event) d.0 d.3 later in
      λ e lt. subst (λ (x : Extents). x.generation e < (shape v.store.extents).greatest_generation)
      s.1.store.parts.world.extents (earlier e lt)
