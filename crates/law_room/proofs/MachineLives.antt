-- A store has room from the time that it was made, through events, crashes and openings.
use Rattle.std.proofs.Common.{◌≡◌, ℕ, ◌+◌, ◌-◌, ◌*◌, ◌<◌, ◌≤◌, Bool, true, false, List, [], ◌∷◌, length, Some, None, refl, sym, ◌∙◌, subst}
use Rattle.law_machine.proofs.Crash.{leaves_prefix}
use Rattle.law_machine.proofs.Kept.{history_on}
use Rattle.law_machine.proofs.Unique.{new_store, one_recovery}
use Rattle.law_machine.proofs.Whole.{whole_after, whole_map}
use Rattle.law_machine.specs.Apart.{any_swept}
use Rattle.law_machine.specs.Device.{IsShape, Shape}
use Rattle.law_machine.specs.Element.{Damaged, Map}
use Rattle.law_machine.specs.Events.{Chunked}
use Rattle.law_machine.specs.Formats.{Formats}
use Rattle.law_machine.specs.Frames.{IsFormat}
use Rattle.law_machine.specs.Grounds.{Refuses}
use Rattle.law_machine.specs.Index.{NoneDamaged}
use Rattle.law_machine.specs.Open.{opened_state}
use Rattle.law_machine.specs.Recovery.{Recovers}
use Rattle.law_machine.specs.Refusal.{Full}
use Rattle.law_machine.specs.Sound.{crashed}
use Rattle.law_machine.specs.State.{Event, Put, State}
use Rattle.law_room.proofs.MachineCrash.{crash_room}
use Rattle.law_room.proofs.MachineFull.{only_puts}
use Rattle.law_room.proofs.MachineNames.{step_roomy}
use Rattle.law_room.proofs.OpenedRoots.{made_roomy}
use Rattle.law_room.proofs.MachineShare.{put_not_full}
use Rattle.law_room.proofs.MachineSweeps.{no_sweep}
use Rattle.law_room.proofs.MachineSwept.{pairs_room}
use Rattle.law_room.proofs.Sharing.{every_way}
use Rattle.law_room.proofs.WholeShards.{none_damaged}
use Rattle.law_room.specs.Events.{opened}
use Rattle.law_room.specs.Example.{new_room}
use Rattle.law_room.specs.Lives.{Act, Acts, Crashes, Happens, IsFormatWithRoom, IsMade, Lives}
use Rattle.law_room.specs.OfMachine.{ChunksFit, IsPut, IsRoomOf, NoneWorn}
use Rattle.law_room.specs.RootsOfMachine.{IsRoomy}
use Rattle.law_room.specs.Rooms.{Room, all_pages}
use Rattle.law_room.specs.SweepsOfMachine.{PairsSweptIn}

-- a map that gives the same as one without damaged shards has none
same_whole : (m o : Map) → ((id : ℕ) → m id ≡ o id) → NoneDamaged m → NoneDamaged o
same_whole m o same whole id f is = whole id f (same id ∙ is)

module _ (S : Shape) (F : Formats) (shape : IsShape S) (format : IsFormat S F) (fit : IsFormatWithRoom S F)
    (apart : S.apart ≡ true) where
  -- what a store keeps that was made
  record IsAlive (s : State) : Type 0 where
    pub space : Room
    pub roomy : IsRoomy S F s space
    pub whole : NoneDamaged s.start

  made_alive : (s : State) → IsMade S F s → NoneWorn S s → IsAlive s
  made_alive s (img, n, m, gives, made, is) young = subst (λ (x : State). NoneWorn S x → IsAlive x) (sym is)
      (λ worn. record {
        space = new_room;
        roomy = made_roomy S F apart img n m gives shape format made worn;
        whole = same_whole (λ (id : ℕ). None) m
            (one_recovery S F shape format img 0 n (λ (id : ℕ). None) m (new_store S F img made) gives).1
            (λ id f wrong. let no : None ≡ Some (Damaged f) = wrong in cc);
      }) young

  crash_alive : (s : State) (kept : List Bool) (n : ℕ) (m : Map) (gives : Recovers S F (crashed S F s kept) n m)
      → NoneWorn S (opened_state S F (crashed S F s kept) n m gives) → IsAlive s
      → IsAlive (opened_state S F (crashed S F s kept) n m gives)
  crash_alive s kept n m gives young alive =
      let after = crash_room S F shape format fit.tells apart s alive.space alive.roomy kept n m gives young in
      let prefix = leaves_prefix S F shape format s alive.roomy.room.sound kept in record {
        space = opened after.0 gives.pointers;
        roomy = after.2;
        whole = same_whole _ m (one_recovery S F shape format (crashed S F s kept) (s.count + prefix.0) n _ m
            (prefix.1.3 alive.whole) gives).1 (whole_map s.start s.commands prefix.0 alive.whole);
      }

  act_alive : (s t : State) (act : Act) → Acts S F s act t → NoneWorn S t → IsAlive s → IsAlive t
  act_alive s t (Happens event reply) step young alive =
      let after = step_roomy S F apart shape format s t alive.space alive.roomy young event reply step in
      let on = history_on S F s t ((event, reply) ∷ []) (t, step, refl) in record {
        space = after.0;
        roomy = after.2;
        whole = subst NoneDamaged (sym on.start) alive.whole;
      }
  act_alive s t (Crashes kept) (n, m, gives, is) young alive = subst (λ (x : State). NoneWorn S x → IsAlive x) (sym is)
      (λ worn. crash_alive s kept n m gives worn alive) young

  act_roomy : (s t : State) (r : Room) (act : Act) → Acts S F s act t → NoneWorn S t → IsRoomy S F s r
      → (q : Room) × IsRoomy S F t q
  act_roomy s t r (Happens event reply) step young roomy =
      let after = step_roomy S F apart shape format s t r roomy young event reply step in (after.0, after.2)
  act_roomy s t r (Crashes kept) (n, m, gives, is) young roomy =
      subst (λ (x : State). NoneWorn S x → (q : Room) × IsRoomy S F x q) (sym is)
      (λ worn. (let after = crash_room S F shape format fit.tells apart s r roomy kept n m gives worn in
      (opened after.0 gives.pointers, after.2))) young

  young_first : (s t : State) (acts : List Act) → Lives S F s acts t → NoneWorn S s
  young_first s t [] lives = lives.0
  young_first s t (act ∷ acts) lives = lives.0

  lives_alive : (s t : State) (acts : List Act) → Lives S F s acts t → IsAlive s → IsAlive t
  lives_alive s t [] lives alive = subst IsAlive (sym lives.1) alive
  lives_alive s t (act ∷ acts) (worn, mid, does, rest) alive =
      lives_alive mid t acts rest (act_alive s mid act does (young_first mid t acts rest) alive)

  -- room stays, from any state that has it
  pub lives_roomy : (s t : State) (r : Room) (acts : List Act) → IsRoomy S F s r → Lives S F s acts t
      → (q : Room) × IsRoomy S F t q
  lives_roomy s t r [] roomy lives = (r, subst (λ (x : State). IsRoomy S F x r) (sym lives.1) roomy)
  lives_roomy s t r (act ∷ acts) roomy (worn, mid, does, rest) =
      let next = act_roomy s mid r act does (young_first mid t acts rest) roomy in
      lives_roomy mid t next.0 acts next.1 rest

  module _ (s t : State) (acts : List Act) (made : IsMade S F s) (lives : Lives S F s acts t) where
    alive : IsAlive t
    alive = lives_alive s t acts lives (made_alive s made (young_first s t acts lives))

    pub life_room : (r : Room) × IsRoomy S F t r
    life_room = (alive.space, alive.roomy)

    pub life_not_full : (event : Event) → Refuses S F t event Full → IsPut event
    life_not_full event full =
        only_puts S F shape format apart t alive.space event alive.roomy.room fit.fits
        (λ id l there. none_damaged S F shape format t alive.roomy.room.sound
        (whole_after t.start t.commands alive.whole) id l there Full) full

    pub life_opens : (kept : List Bool) → (n : ℕ) × (m : Map) × Recovers S F (crashed S F t kept) n m
    life_opens kept = let prefix = leaves_prefix S F shape format t alive.roomy.room.sound kept in
        (t.count + prefix.0, _, prefix.1.3 alive.whole)

    -- a put finds room behind sweeps of enough pairs
    pub life_puts : (u : State) (id n : ℕ) (bytes : List ℕ) (chunks : List (List ℕ)) → ChunksFit S F → any_swept S t ≡ false
        → S.run_extents + n + 3 ≤ S.extents → ((r : Room) → IsRoomOf S F t r
        → 2 * all_pages r.chunks < (S.extents - (S.run_extents + 1 + n)) * (S.pages + 1)) → PairsSweptIn S F n t u
        → NoneWorn S u → Chunked (S.piece_bytes (length bytes)) bytes chunks → length chunks ≤ n → Refuses S F u (Put id bytes) Full → ⊥
    life_puts u id n bytes chunks each idle large share swept young chunked short full =
        let room = alive.roomy.room in
        let after = pairs_room S F shape format apart n t u alive.space room swept young in
        put_not_full S F shape format apart u after.0 id n bytes chunks after.2 each
        (every_way S S.run_extents n alive.space after.0 room.keeps (shape.apart apart).2
        (no_sweep S t alive.space.sweep idle room.room.sweep) large (share alive.space room.room) after.1) chunked short full
