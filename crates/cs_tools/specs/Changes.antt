-- What the commands `put` and `del` do, and what a crash leaves of them and of `reclaim`.
use Rattle.std.specs.Prelude.{◌≡◌, ◌≢◌, ◌⊎◌, ◌*◌, ◌<◌, ℕ, suc, List, None, Some, length}
use Rattle.cs_core.specs.declared.events.Event.{Event}
use Rattle.cs_core.specs.declared.events.Event.TheVariants.{Delete}
use Rattle.cs_core.specs.declared.events.Reply.TheVariants as reply
use Rattle.cs_core.specs.Meanings.{commands_said}
use Rattle.cs_core.specs.Views.{View}
use Rattle.cs_refusal.specs.declared.refusals.Refusal.{Refusal}
use Rattle.cs_refusal.specs.declared.refusals.Refusal.TheVariants.{TooLarge}
use Rattle.cs_disk.specs.declared.disk.PageDisk.{Ghosts as PageDisk}
use Rattle.cs_disk.specs.Disk.{Leaves, LeavesOnly, page}
use Rattle.cs_writeback.specs.Syncs.{StopsSync, Syncs}
use Rattle.cs_extent.specs.State.{shape}
use Rattle.cs_frame.specs.declared.identifiers.ShardId.{ShardId}
use Rattle.cs_index.specs.State.{id_number}
use Rattle.law_machine.specs.Device.{Shape}
use Rattle.law_machine.specs.Element.{Map}
use Rattle.law_machine.specs.State.{changed}
use Rattle.cs_core.specs.law_refinement.Crashes.{IsPrefix}
use Rattle.cs_store.specs.Events.{Declines, Does, IsHalted}
use Rattle.cs_store.specs.Maps.{HasMap}
use Rattle.cs_store.specs.Reserves.{PutsAfterReads, RefusesPut}
use Rattle.cs_advice.specs.declared.outcomes.Outcome.{Outcome}
use Rattle.cs_advice.specs.declared.outcomes.Outcome.TheVariants.{Absent, Damaged, Done, Failed, MayBeLost, NoStore, Refused, Unopened, Unread}

-- one command more was accepted, and all of them are persistent
abbrev pub IsOneMore : {D : Type 0} → (old new : View D) → Type 0
IsOneMore old new = (new.store.accepted ≡ suc old.store.accepted) × (new.store.frontier ≡ new.store.accepted)

-- the most bytes that a store takes under an identifier
abbrev pub most_bytes : Shape → ℕ
most_bytes S = S.most_chunks * S.chunk_bytes

-- the store takes no so many bytes, and nothing has changed
abbrev pub IsTooLarge : {D : Type 0} → (text : List ℕ) → (old : View D) → Refusal → (new : View D) → Type 0
IsTooLarge text old r new = (most_bytes (shape old.store.extents) < length text) × (r ≡ TooLarge) × (new ≡ old)

module _ {D : Type 0} (disks : PageDisk D) where
  -- what was accepted is made persistent; or that is refused, as the store is halted or its sync stops
  abbrev pub Commits : (old new : View D) → Outcome → Type 0
  Commits old new Done = Syncs disks old new
  Commits old new (Refused r) = IsHalted old r new ⊎ StopsSync disks old r new
  Commits old new Absent = ⊥
  Commits old new Failed = ⊥
  Commits old new Damaged = ⊥
  Commits old new (NoStore r) = ⊥
  Commits old new (Unopened f) = ⊥
  Commits old new MayBeLost = ⊥
  Commits old new (Unread r) = ⊥

  -- a crash at any moment of what led from one to the other leaves the map after some of the commands, none of those left out that were persistent before
  abbrev pub LeavesPrefixBetween : (old new : View D) → Type 0
  LeavesPrefixBetween old new = disks.honest old.disk → LeavesOnly disks.moment disks.left_since old.disk new.disk
      (IsPrefix (shape old.store.extents) (page old.opened) (commands_said new.history) old.store.frontier new.store.accepted)

  -- a crash now does so, none of those left out that are persistent now
  abbrev pub LeavesPrefixAt : View D → Type 0
  LeavesPrefixAt now = disks.honest now.disk → Leaves (disks.state now.disk)
      (IsPrefix (shape now.store.extents) (page now.opened) (commands_said now.history) now.store.frontier now.store.accepted)

  -- the store accepts this event as a command, and the commit behind it ends so
  abbrev pub DoesAndCommits : Event → (old new : View D) → Outcome → Type 0
  DoesAndCommits event old new outcome = (mid : View D) × (n : ℕ) × Does disks old event (reply.Accepted n) mid × Commits mid new outcome

  -- the store refuses a delete itself
  abbrev pub DeclinesDelete : ShardId → (old : View D) → Refusal → (new : View D) → Type 0
  DeclinesDelete id old r new = IsHalted old r new ⊎ Declines disks old (Delete id) r new

  -- the store accepts a put of this text, after reads at most, and the commit behind it ends so
  abbrev pub PutsAndCommits : ShardId → (text : List ℕ) → (old new : View D) → Outcome → Type 0
  PutsAndCommits id text old new outcome = (mid : View D) × (n : ℕ) × PutsAfterReads disks old id text n mid × Commits mid new outcome

  -- the store refuses a put itself, after reads at most, or isn't asked for it
  abbrev pub DeclinesPut : ShardId → (text : List ℕ) → (old : View D) → Refusal → (new : View D) → Type 0
  DeclinesPut id text old r new = IsTooLarge text old r new ⊎ RefusesPut disks old id text r new

  -- What `del` does, whatever the disk does: a delete, and a commit behind it where it is a command; or the delete is refused.
  abbrev pub Deletes : ShardId → (old new : View D) → Outcome → Type 0
  Deletes id old new Done = DoesAndCommits (Delete id) old new Done
  Deletes id old new Absent = Does disks old (Delete id) reply.Absent new
  Deletes id old new (Refused r) = DeclinesDelete id old r new ⊎ DoesAndCommits (Delete id) old new (Refused r)
  Deletes id old new Failed = ⊥
  Deletes id old new Damaged = ⊥
  Deletes id old new (NoStore r) = ⊥
  Deletes id old new (Unopened f) = ⊥
  Deletes id old new MayBeLost = ⊥
  Deletes id old new (Unread r) = ⊥

  -- What `del` makes of this map: what was under the identifier is gone, and that is persistent; or there was nothing; or it is refused, by the store
  -- itself, when the map is as it was, or by the commit, when it is changed in memory alone.
  abbrev pub DeletesFrom : Map → ShardId → (old new : View D) → Outcome → Type 0
  DeletesFrom m id old new Done = (m (id_number id) ≢ None) × HasMap new (changed m (id_number id, None)) × IsOneMore old new
  DeletesFrom m id old new Absent = (m (id_number id) ≡ None) × HasMap new m
  DeletesFrom m id old new (Refused r) = (HasMap new m × DeclinesDelete id old r new)
      ⊎ (HasMap new (changed m (id_number id, None)) × DoesAndCommits (Delete id) old new (Refused r))
  DeletesFrom m id old new Failed = ⊥
  DeletesFrom m id old new Damaged = ⊥
  DeletesFrom m id old new (NoStore r) = ⊥
  DeletesFrom m id old new (Unopened f) = ⊥
  DeletesFrom m id old new MayBeLost = ⊥
  DeletesFrom m id old new (Unread r) = ⊥

  -- What `put` does with this text, whatever the disk does: a put and a commit behind it; or the put is refused; or the reader failed, and nothing has
  -- changed.
  abbrev pub Puts : ShardId → (text : List ℕ) → (old new : View D) → Outcome → Type 0
  Puts id text old new Done = PutsAndCommits id text old new Done
  Puts id text old new (Refused r) = DeclinesPut id text old r new ⊎ PutsAndCommits id text old new (Refused r)
  Puts id text old new Failed = new ≡ old
  Puts id text old new Absent = ⊥
  Puts id text old new Damaged = ⊥
  Puts id text old new (NoStore r) = ⊥
  Puts id text old new (Unopened f) = ⊥
  Puts id text old new MayBeLost = ⊥
  Puts id text old new (Unread r) = ⊥

  -- What `put` makes of this map: the text is under the identifier, and that is persistent; or it is refused, before the store accepts it, when the map
  -- is as it was, or by the commit, when it is changed in memory alone; or the reader failed, and nothing has changed.
  abbrev pub PutsInto : Map → ShardId → (text : List ℕ) → (old new : View D) → Outcome → Type 0
  PutsInto m id text old new Done = HasMap new (changed m (id_number id, Some text)) × IsOneMore old new
  PutsInto m id text old new (Refused r) = (HasMap new m × DeclinesPut id text old r new)
      ⊎ (HasMap new (changed m (id_number id, Some text)) × PutsAndCommits id text old new (Refused r))
  PutsInto m id text old new Failed = new ≡ old
  PutsInto m id text old new Absent = ⊥
  PutsInto m id text old new Damaged = ⊥
  PutsInto m id text old new (NoStore r) = ⊥
  PutsInto m id text old new (Unopened f) = ⊥
  PutsInto m id text old new MayBeLost = ⊥
  PutsInto m id text old new (Unread r) = ⊥
