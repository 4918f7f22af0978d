-- What a call does that asks for one event.
use Rattle.std.specs.Prelude.{◌≡◌, ◌⊎◌, ◌∷◌, [], true}
use Rattle.cs_refusal.specs.declared.refusals.Refusal.{Refusal}
use Rattle.cs_refusal.specs.declared.refusals.Refusal.TheVariants.{Halted, OutOfMemory}
use Rattle.cs_disk.specs.declared.disk.PageDisk.{Ghosts as PageDisk}
use Rattle.law_machine.specs.State.{State}
use Rattle.cs_core.specs.declared.events.Event.{Event}
use Rattle.cs_core.specs.declared.events.Reply.{Reply}
use Rattle.cs_core.specs.Views.{IsIn, View}
use Rattle.cs_writeback.specs.Histories.{IsStopped, Went}
use Rattle.cs_store.specs.Maps.{Accepts}
use Rattle.cs_store.specs.Rooms.{IsMadeReady, IsNoRoom}

-- the store is halted, and nothing has changed
abbrev pub IsHalted : {D : Type 0} → (old : View D) → Refusal → (new : View D) → Type 0
IsHalted old refusal new = (old.store.halted ≡ true) × (refusal ≡ Halted) × (new ≡ old)

module _ {D : Type 0} (disks : PageDisk D) where
  -- the store is made ready, and then the event is done with this reply
  abbrev pub Does : (old : View D) → Event → Reply → (new : View D) → Type 0
  Does old event reply new = (ready : View D) × IsMadeReady disks old ready × Went disks ready ((event, reply) ∷ []) new

  -- The same, with the state of the machine in which the store is once it is made ready: as far as commands go it is as
  -- it was.
  pub record DoesFrom (old : View D) (event : Event) (reply : Reply) (new : View D) : Type 0 where
    pub ready : View D
    pub machine : State
    pub same : Accepts disks [] old ready
    pub is_in : IsIn disks.state ready machine
    pub went : Went disks ready ((event, reply) ∷ []) new

  -- no room is made for the event; or the store is made ready, and then the event is refused
  abbrev pub Declines : (old : View D) → Event → Refusal → (new : View D) → Type 0
  Declines old event refusal new = IsNoRoom disks old refusal new
      ⊎ ((ready : View D) × IsMadeReady disks old ready × IsStopped disks ready [] event refusal new)

  -- the store is halted; or there was no memory for the event's bytes, and nothing has changed; or it is declined
  abbrev pub DeclinesCopy : (old : View D) → Event → Refusal → (new : View D) → Type 0
  DeclinesCopy old event refusal new = IsHalted old refusal new ⊎ ((refusal ≡ OutOfMemory) × (new ≡ old)) ⊎ Declines old event refusal new
