-- A sync: how it ends well, where it stops, and what is told of its rounds.
use Rattle.std.specs.Prelude.{◌≡◌, ◌⊎◌, ◌+◌, ◌∷◌, ◌++◌, ℕ, List, [], None, Option}
use Rattle.cs_deps.specs.declared.elements.Element.{Element}
use Rattle.cs_refusal.specs.declared.refusals.Refusal.{Refusal}
use Rattle.cs_refusal.specs.declared.refusals.Refusal.TheVariants.{DeviceFault, Full, Halted, OutOfMemory, WornOut}
use Rattle.cs_disk.specs.declared.disk.PageDisk.{Ghosts as PageDisk}
use Rattle.cs_core.specs.declared.events.Event.{Event}
use Rattle.cs_core.specs.declared.events.Event.TheVariants.{Stage}
use Rattle.cs_core.specs.declared.events.Reply.{Reply}
use Rattle.cs_core.specs.declared.events.Reply.TheVariants.{Staged, Unchanged}
use Rattle.cs_core.specs.Views.{View}
use Rattle.cs_writeback.specs.declared.syncs.Stop.{Stop}
use Rattle.cs_writeback.specs.declared.syncs.Stop.TheVariants.{Refused, Untold}
use Rattle.cs_writeback.specs.Histories.{IsStopped, Went}
use Rattle.cs_writeback.specs.Rounds.{Finishes, IsPart, IsStoppedAtDue, StopsFirst, Turn, events_of_all, rounds_of}

-- the refusals of a sync, whatever the disk does: the device or memory refused, there was no place for the index's run,
-- a number was worn out, or the store was halted
abbrev pub MayRefuseSync : Refusal → Type 0
MayRefuseSync DeviceFault = Unit {0}
MayRefuseSync OutOfMemory = Unit {0}
MayRefuseSync Full = Unit {0}
MayRefuseSync WornOut = Unit {0}
MayRefuseSync Halted = Unit {0}
MayRefuseSync r = ⊥

-- a Stage that isn't refused
abbrev pub IsStageDone : Reply → Type 0
IsStageDone reply = ((v : ℕ) × (reply ≡ Staged v)) ⊎ (reply ≡ Unchanged)

module _ {S : Type 0} (tells : S → ℕ → List Element → S → Type 0) where
  -- these rounds are told one after another, the first of them under this number
  abbrev pub AreTold : ℕ → List (List Element) → (before after : S) → Type 0
  AreTold number [] before after = after ≡ before
  AreTold number (round ∷ rounds) before after = (mid : S) × tells before number round mid × AreTold (number + 1) rounds mid after

module _ {D : Type 0} (disks : PageDisk D) where
  -- A sync that ends well. A round that was out is ended, then the index's changes are staged, and then round after
  -- round is written; nothing is left to stage or to write.
  pub record Syncs (old new : View D) : Type 0 where
    pub finished : Option ℕ
    pub ended : View D
    pub finishes : Finishes disks old finished ended
    pub staged : View D
    pub reply : Reply
    pub stages : Went disks ended ((Stage, reply) ∷ []) staged
    pub is_staged : IsStageDone reply
    pub turns : List Turn
    pub turned : Went disks staged (events_of_all turns) new
    pub none_out : new.store.out ≡ None
    pub none_waiting : new.store.graph.staging.pending.waiting ≡ []
    pub none_changed : new.store.index.table ≡ []

  -- after a Stage, these turns and a part of a further round, what is due then is refused
  abbrev pub StopsInTurn : (ended : View D) → List Turn → Refusal → (new : View D) → Type 0
  StopsInTurn ended turns r new = (reply : Reply) × IsStageDone reply × (part : List (Event × Reply)) × IsPart part
      × IsStoppedAtDue disks ended ((Stage, reply) ∷ events_of_all turns ++ part) r new

  -- A sync in which the Stage or a later event is refused, after these turns.
  pub record StopsLater (old : View D) (refusal : Refusal) (new : View D) : Type 0 where
    pub finished : Option ℕ
    pub ended : View D
    pub finishes : Finishes disks old finished ended
    pub turns : List Turn
    pub stopped : ((turns ≡ []) × IsStopped disks ended [] Stage refusal new) ⊎ StopsInTurn ended turns refusal new

  -- a sync in which an event is refused: what is due of the round that was out, or the Stage, or what is due of a later
  -- round
  abbrev pub StopsSync : (old : View D) → Refusal → (new : View D) → Type 0
  StopsSync old r new = StopsFirst disks old r new ⊎ StopsLater old r new

  -- Rounds that ended early, after so many, which are told, and a part of a further one. Where one couldn't be told
  -- nothing is said of them.
  abbrev pub StopsInRounds : {S E : Type 0} → (tells : S → ℕ → List Element → S → Type 0) → (old new : View D) → (before after : S) → Stop E → Type 0
  StopsInRounds tells old new before after (Refused r) = (turns : List Turn) × (part : List (Event × Reply)) × IsPart part
      × IsStoppedAtDue disks old (events_of_all turns ++ part) r new × AreTold tells 1 (rounds_of turns) before after
  StopsInRounds tells old new before after (Untold e) = Unit {0}
