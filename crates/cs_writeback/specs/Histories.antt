-- How a core came from what it was, event by event.
use Rattle.std.specs.Prelude.{◌≡◌, ◌⊎◌, ◌↔◌, ◌*◌, ◌^◌, ◌<◌, ◌≤◌, ◌∷◌, ◌++◌, false, List, [], length}
use Rattle.cs_refusal.specs.declared.refusals.Refusal.{Refusal}
use Rattle.cs_refusal.specs.declared.refusals.Refusal.TheVariants.{HistoryFull, OutOfMemory}
use Rattle.cs_disk.specs.declared.disk.PageDisk.{Ghosts as PageDisk}
use Rattle.cs_core.specs.declared.events.Event.{Event}
use Rattle.cs_core.specs.declared.events.Reply.{Reply}
use Rattle.cs_core.specs.declared.events.Reply.TheVariants.{Refused}
use Rattle.cs_core.specs.Answered.{IsLimited}
use Rattle.cs_core.specs.Checkpoints.{IsSettled}
use Rattle.cs_core.specs.Replies.{MayAnswer}
use Rattle.cs_core.specs.Views.{IsUntouched, IsStep, View, kept}
use Rattle.cs_core.specs.Writebacks.{WritesBack}

-- the event was done
abbrev pub IsNoRefusal : Reply → Type 0
IsNoRefusal (Refused r) = ⊥
IsNoRefusal reply = Unit {0}

-- why an event is refused and not recorded: for want of memory; or since it is one that is refused where as many events
-- are kept as may be
abbrev pub IsUnrecorded : {D : Type 0} → View D → Event → Refusal → Type 0
IsUnrecorded new event r = (r ≡ OutOfMemory) ⊎ ((r ≡ HistoryFull) × IsLimited event × (new.limit ≤ length (kept new)))

-- what a refused event adds to the history that the core has then
abbrev pub IsRefused : {D : Type 0} → (new : View D) → Event → Refusal → List (Event × Reply) → Type 0
IsRefused new event r xs = (xs ≡ (event, Refused r) ∷ []) ⊎ ((xs ≡ []) × IsUnrecorded new event r)

-- the events that are kept may be replaced by the state that they led to: they are half as many as may be, or more, and
-- the store is settled
abbrev pub MayReplace : {D : Type 0} → View D → Type 0
MayReplace v = (v.limit ≤ 2 * length (kept v)) × (v.store.halted ≡ false) × IsSettled v.store × (length v.history < 2 ^ 63)

-- ahead of a line they are replaced where they may be, which changes nothing else; else nothing changes
abbrev pub MakesRoom : {D : Type 0} → (old new : View D) → Type 0
MakesRoom old new = (MayReplace old × (new ≡ record old { base = length old.history })) ⊎ ((¬ MayReplace old) × (new ≡ old))

module _ {D : Type 0} (disks : PageDisk D) where
  -- nothing was recorded, and nothing has changed but for how much there is room
  abbrev pub Stays : (old new : View D) → Type 0
  Stays old new = IsUntouched disks old new × (disks.honest old.disk ↔ disks.honest new.disk)

  -- one event was recorded with this reply, which it may have: the machine's step, and what it does to the graph
  pub record Goes (old : View D) (event : Event) (reply : Reply) (new : View D) : Type 0 where
    pub step : IsStep disks old event reply new
    pub answers : MayAnswer event reply
    pub writeback : WritesBack old.store event reply new.store
    pub stays_honest : disks.honest old.disk ↔ disks.honest new.disk

  -- these events were recorded with their replies, one after another, and no others
  abbrev pub Went : (old : View D) → List (Event × Reply) → (new : View D) → Type 0
  Went old [] new = Stays old new
  Went old (x ∷ xs) new = (before : View D) × (after : View D) × Stays old before × Goes before x.0 x.1 after × Went after xs new

  -- These events were recorded with their replies, and then this event was refused: it is recorded so, or it isn't
  -- recorded for a reason that stands.
  pub record IsStopped (old : View D) (done : List (Event × Reply)) (event : Event) (refusal : Refusal) (new : View D) : Type 0 where
    pub added : List (Event × Reply)
    pub went : Went old (done ++ added) new
    pub refused : IsRefused new event refusal added
