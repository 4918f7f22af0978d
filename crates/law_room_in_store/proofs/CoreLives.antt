-- A core has room whatever becomes of it.
use Rattle.std.proofs.Common.{◌≡◌, inl, inr, ℕ, true, List, [], ◌∷◌, length, sym, ap, ◌∙◌, subst}
use Rattle.std.proofs.lemmas.Bool.{cases_Bool}
use Rattle.cs_refusal.specs.declared.refusals.Refusal.TheVariants.{Full}
use Rattle.cs_disk.proofs.Moments.{goes_on, started}
use Rattle.cs_disk.specs.declared.disk.PageDisk.{Ghosts as PageDisk}
use Rattle.cs_disk.specs.Disk.{Image, MayLeave}
use Rattle.cs_extent.specs.State.{extents_at, shape}
use Rattle.cs_frame.specs.declared.identifiers.ShardId.{ShardId}
use Rattle.cs_frame.specs.Geometries.{IsGeometry}
use Rattle.law_machine.specs.Format.{Four}
use Rattle.law_machine.specs.Device.{Shape}
use Rattle.cs_core.specs.declared.events.Event.{Event}
use Rattle.cs_core.specs.declared.events.Event.TheVariants.{Put}
use Rattle.cs_core.specs.declared.events.Reply.TheVariants.{Refused}
use Rattle.cs_core.specs.Openings.{IsOpened}
use Rattle.cs_core.specs.Started.{new_stored}
use Rattle.cs_core.specs.Stored.{Stored}
use Rattle.cs_core.specs.Views.{Applies, View}
use Rattle.law_room_in_store.proofs.CoreCrashes.{leaves_room}
use Rattle.law_room_in_store.proofs.CoreRoom.{event_stays, new_geometry, new_is_empty, only_a_put, replaced_stays, same_geometry, untouched_stays}
use Rattle.law_room_in_store.specs.Cores.{HasRoom}
use Rattle.law_room_in_store.specs.Images.{HasGeometry, HasRoomOn}
use Rattle.law_room_in_store.specs.Lives.{Comes, IsAlive, IsCutShort, Lives}
use Rattle.law_room_in_store.specs.Sweeps.{Asks, Call, IsMade, Rests}

-- an opened store has the geometry that was read
pub opened_geometry : (honest : Type 0) (image : Image) (found : ℕ × ℕ) (store : Stored) → IsOpened honest image found store → honest
    → HasGeometry store.extents
opened_geometry honest image found store is there =
    subst (λ (s : Stored). HasGeometry s.extents) (sym is.made)
    (same_geometry (extents_at is.format is.pages (length is.versions) is.written) is.extents is.opened.same_shape
    (elim (cases_Bool (shape (extents_at is.format is.pages (length is.versions) is.written)).hidden_stand) [
      | inl stand ↦ ((is.read there).whole stand).sections.geometry
      | inr gone ↦ ((is.read there).visible gone).sections.geometry
    ]))

module _ {D : Type 0} (disks : PageDisk D) where
  -- a core of this shape has room
  record IsRoomyAs (S : Shape) (v : View D) : Type 0 where
    pub same : shape v.store.extents ≡ S
    pub has : HasRoom v

  made_shape : (v w : View D) (call : Call) → IsMade disks v call w → shape w.store.extents ≡ shape v.store.extents
  made_shape v w (Asks event reply) (inl full) = ap (λ (u : View D). shape u.store.extents) full.same
  made_shape v w (Asks event reply) (inr step) = step.same_shape
  made_shape v w Rests (inl same) = ap (λ (u : Stored). shape u.extents) same.store
  made_shape v w Rests (inr replaces) = ap (λ (u : View D). shape u.store.extents) replaces.1.1

  made_room : (v w : View D) (call : Call) → HasRoom v → IsMade disks v call w → HasRoom w
  made_room v w (Asks event reply) has applies = event_stays disks v w event reply has applies
  made_room v w Rests has (inl same) = untouched_stays disks v w has same
  made_room v w Rests has (inr replaces) = replaced_stays disks v w replaces.0 has replaces.1

  comes_shape : (v w : View D) → Comes disks v w → shape w.store.extents ≡ shape v.store.extents
  comes_shape v w (inl (call, made)) = made_shape v w call made
  comes_shape v w (inr (inl again)) = again.same_shape
  comes_shape v w (inr (inr cut)) = cut.same_shape

  pub lives_shape : (others : List (View D)) (v w : View D) → Lives disks v others w → shape w.store.extents ≡ shape v.store.extents
  lives_shape [] v w (alive, is) = ap (λ (u : View D). shape u.store.extents) is
  lives_shape (mid ∷ others) v w (alive, comes, more) = lives_shape others mid w more ∙ comes_shape v mid comes

  module _ (sized : (d : D) → disks.honest d → length (disks.state d).durable ≡ disks.page_count d)
      (only_now : (d : D) (c : Image) → disks.honest d → disks.left_since d (disks.moment d) c → MayLeave (disks.state d) c) where
    left_room : (v : View D) → HasGeometry v.store.extents → (shape v.store.extents).apart ≡ true → HasRoom v → IsAlive disks v
        → (image : Image) → MayLeave (disks.state v.disk) image → HasRoomOn (shape v.store.extents) image
    left_room v geometry apart has alive =
        leaves_room disks v geometry apart alive.core alive.honest (sized v.disk alive.honest) has alive.young

    -- in the midst of a call
    cut_room : (v w : View D) → HasGeometry v.store.extents → (shape v.store.extents).apart ≡ true → HasRoom v → IsAlive disks v
        → IsCutShort disks v w → HasRoomOn (shape v.store.extents) w.opened
    cut_room v w geometry apart has alive cut =
        let same : shape cut.cut.store.extents ≡ shape v.store.extents = made_shape v cut.cut cut.call cut.made in
        (goes_on disks.state disks.moment disks.left_since v.disk v.disk cut.cut.disk (HasRoomOn (shape v.store.extents))
        (started disks.state disks.moment disks.left_since v.disk (HasRoomOn (shape v.store.extents))
        (left_room v geometry apart has alive) (λ c since. only_now v.disk c alive.honest since)) (cut.time alive.honest)
        (λ image may. subst (λ (S : Shape). HasRoomOn S image) same
        (left_room cut.cut (same_geometry v.store.extents cut.cut.store.extents same geometry)
        (ap (λ (S : Shape). S.apart) same ∙ apart) (made_room v cut.cut cut.call has cut.made) cut.alive image may))).any_moment.each
        w.opened cut.left

    comes_room : (v w : View D) → HasGeometry v.store.extents → (shape v.store.extents).apart ≡ true → HasRoom v → IsAlive disks v
        → Comes disks v w → IsRoomyAs (shape v.store.extents) w
    comes_room v w geometry apart has alive (inl (call, made)) =
        record { same = made_shape v w call made; has = made_room v w call has made }
    comes_room v w geometry apart has alive (inr (inl again)) = record {
      same = again.same_shape;
      has = subst (λ (S : Shape). HasRoomOn S w.opened) (sym again.same_shape) (left_room v geometry apart has alive w.opened again.left);
    }
    comes_room v w geometry apart has alive (inr (inr cut)) = record {
      same = cut.same_shape;
      has = subst (λ (S : Shape). HasRoomOn S w.opened) (sym cut.same_shape) (cut_room v w geometry apart has alive cut);
    }

    -- so has each core that comes of it
    pub lives_room : (others : List (View D)) (v w : View D) → HasGeometry v.store.extents → (shape v.store.extents).apart ≡ true
        → HasRoom v → Lives disks v others w → HasRoom w × HasGeometry w.store.extents × ((shape w.store.extents).apart ≡ true)
        × IsAlive disks w
    lives_room [] v w geometry apart has (alive, is) = subst (λ (u : View D). HasRoom u × HasGeometry u.store.extents
        × ((shape u.store.extents).apart ≡ true) × IsAlive disks u) (sym is) (has, geometry, apart, alive)
    lives_room (mid ∷ others) v w geometry apart has (alive, comes, more) =
        let next = comes_room v mid geometry apart has alive comes in
        lives_room others mid w (same_geometry v.store.extents mid.store.extents next.same geometry)
        (ap (λ (S : Shape). S.apart) next.same ∙ apart) next.has more

    pub lives_full : (others : List (View D)) (v w x : View D) (event : Event) → HasGeometry v.store.extents
        → (shape v.store.extents).apart ≡ true → HasRoom v → Lives disks v others w → Applies disks w event (Refused Full) x
        → (id : ShardId) × (bytes : List ℕ) × (event ≡ Put id bytes)
    lives_full others v w x event geometry apart has lives full =
        let last = lives_room others v w geometry apart has lives in
        only_a_put disks w last.1 last.2 last.3.core last.3.honest last.0 last.3.young event x full

    -- from the time on that a store is made
    pub new_lives_full : (others : List (View D)) (v w x : View D) (event : Event) (store : List ℕ) (device extents pages sections : ℕ)
        → IsGeometry (Four store device) extents pages sections → v.history ≡ [] → v.store ≡ new_stored (Four store device) extents pages sections
        → Lives disks v others w → Applies disks w event (Refused Full) x → (id : ShardId) × (bytes : List ℕ) × (event ≡ Put id bytes)
    new_lives_full others v w x event store device extents pages sections geometry none made lives full =
        let first = first_alive others lives in
        lives_full others v w x event
        (subst (λ (s : Stored). HasGeometry s.extents) (sym made) (new_geometry (Four store device) extents pages sections geometry))
        (ap (λ (s : Stored). (shape s.extents).apart) made)
        (new_is_empty disks v store device extents pages sections geometry first.core first.honest none made) lives full
      where
        first_alive : (others : List (View D)) → Lives disks v others w → IsAlive disks v
        first_alive [] lives = lives.0
        first_alive (mid ∷ others) lives = lives.0
