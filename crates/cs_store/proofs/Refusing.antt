-- Which refusals a call may have, of those that its parts may have.
use Rattle.std.proofs.Common.{◌≡◌, ◌≢◌, ◌⊎◌, ◌≤◌, ℕ, List, inl, inr, subst, sym, arith}
use Rattle.cs_chunk.specs.Reads.{IsReadRefusal}
use Rattle.cs_refusal.specs.declared.refusals.Refusal.{Refusal}
use Rattle.cs_refusal.specs.declared.refusals.Refusal.TheVariants as refusal
use Rattle.cs_refusal.specs.Refusals.{number_of}
use Rattle.cs_frame.specs.declared.identifiers.ShardId.{ShardId}
use Rattle.cs_core.specs.Checkpoints.{IsNotReplaced}
use Rattle.cs_core.specs.declared.events.Event.TheVariants.{Delete, Put}
use Rattle.cs_core.specs.Replies.{MayRefuse}
use Rattle.cs_core.specs.Views.{View}
use Rattle.cs_writeback.specs.Sweeps.{MayRefuseSweep}
use Rattle.cs_writeback.specs.Syncs.{MayRefuseSync}
use Rattle.cs_store.specs.Errors.{IsDeleteRefusal, IsGetRefusal, IsPutRefusal}
use Rattle.cs_store.specs.Rooms.{room_refusal}

-- a sync that makes room
pub room_by_sync : (r : Refusal) → MayRefuseSync r → IsDeleteRefusal r
room_by_sync refusal.DeviceFault may = tt
room_by_sync refusal.OutOfMemory may = tt
room_by_sync refusal.Full may = tt
room_by_sync refusal.WornOut may = tt
room_by_sync refusal.Halted may = tt
room_by_sync other may = absurd may

-- a checkpoint that makes room
pub room_by_checkpoint : {D : Type 0} (v : View D) (r : Refusal) → IsNotReplaced v r → IsDeleteRefusal (room_refusal r)
room_by_checkpoint v refusal.Halted is = tt
room_by_checkpoint v refusal.Unsettled is = tt
room_by_checkpoint v refusal.WornOut is = tt
room_by_checkpoint v other is = absurd is

-- room for a put, and the put itself
put_by_room : (r : Refusal) → IsDeleteRefusal r → IsPutRefusal r
put_by_room refusal.DeviceFault may = tt
put_by_room refusal.OutOfMemory may = tt
put_by_room refusal.Full may = tt
put_by_room refusal.WornOut may = tt
put_by_room refusal.Halted may = tt
put_by_room refusal.HistoryFull may = tt
put_by_room other may = absurd may

put_by_event : (id : ShardId) (bytes : List ℕ) (r : Refusal) → MayRefuse (Put id bytes) r → IsPutRefusal r
put_by_event id bytes refusal.TooLarge may = tt
put_by_event id bytes refusal.IndexFull may = tt
put_by_event id bytes refusal.Full may = tt
put_by_event id bytes refusal.WornOut may = tt
put_by_event id bytes refusal.Halted may = tt
put_by_event id bytes refusal.HistoryFull may = tt
put_by_event id bytes other may = absurd may

pub put_is : (id : ShardId) (bytes : List ℕ) (r : Refusal) → IsDeleteRefusal r ⊎ MayRefuse (Put id bytes) r → IsPutRefusal r
put_is id bytes r (inl room) = put_by_room r room
put_is id bytes r (inr event) = put_by_event id bytes r event

-- the same of a copy of the bytes
pub same_bytes : (id : ShardId) (copy bytes : List ℕ) → copy ≡ bytes → (r : Refusal) → IsDeleteRefusal r ⊎ MayRefuse (Put id copy) r → IsDeleteRefusal r ⊎ MayRefuse (Put id bytes) r
same_bytes id copy bytes same r may = subst (λ (b : List ℕ). IsDeleteRefusal r ⊎ MayRefuse (Put id b) r) same may

-- neither of them is refused by a reserve
room_unreserved : (r : Refusal) → IsDeleteRefusal r → r ≢ refusal.Reserved
room_unreserved refusal.DeviceFault may is = cc
room_unreserved refusal.OutOfMemory may is = cc
room_unreserved refusal.Full may is = cc
room_unreserved refusal.WornOut may is = cc
room_unreserved refusal.Halted may is = cc
room_unreserved refusal.HistoryFull may is = cc
room_unreserved other may is = absurd may

event_unreserved : (id : ShardId) (bytes : List ℕ) (r : Refusal) → MayRefuse (Put id bytes) r → r ≢ refusal.Reserved
event_unreserved id bytes refusal.TooLarge may is = cc
event_unreserved id bytes refusal.IndexFull may is = cc
event_unreserved id bytes refusal.Full may is = cc
event_unreserved id bytes refusal.WornOut may is = cc
event_unreserved id bytes refusal.Halted may is = cc
event_unreserved id bytes refusal.HistoryFull may is = cc
event_unreserved id bytes other may is = absurd may

pub put_unreserved : (id : ShardId) (bytes : List ℕ) (r : Refusal) → IsDeleteRefusal r ⊎ MayRefuse (Put id bytes) r → r ≢ refusal.Reserved
put_unreserved id bytes r (inl room) = room_unreserved r room
put_unreserved id bytes r (inr event) = event_unreserved id bytes r event

-- a look, before the put
pub look_is : (T : Type 0) (r : Refusal) → (r ≡ refusal.OutOfMemory) ⊎ ((r ≡ refusal.TooLarge) × T) ⊎ (r ≡ refusal.Reserved) → IsPutRefusal r
look_is T r (inl memory) = subst IsPutRefusal (sym memory) tt
look_is T r (inr (inl (large, t))) = subst IsPutRefusal (sym large) tt
look_is T r (inr (inr reserved)) = subst IsPutRefusal (sym reserved) tt

-- room for a delete, and the delete itself
delete_by_event : (id : ShardId) (r : Refusal) → MayRefuse (Delete id) r → IsDeleteRefusal r
delete_by_event id refusal.WornOut may = tt
delete_by_event id refusal.Halted may = tt
delete_by_event id refusal.HistoryFull may = tt
delete_by_event id other may = absurd may

pub delete_is : (id : ShardId) (r : Refusal) → IsDeleteRefusal r ⊎ MayRefuse (Delete id) r → IsDeleteRefusal r
delete_is id r (inl room) = room
delete_is id r (inr event) = delete_by_event id r event

-- room for a sweep, and the sweep itself
sweep_by_room : (r : Refusal) → IsDeleteRefusal r → MayRefuseSweep r
sweep_by_room refusal.DeviceFault may = tt
sweep_by_room refusal.OutOfMemory may = tt
sweep_by_room refusal.Full may = tt
sweep_by_room refusal.WornOut may = tt
sweep_by_room refusal.Halted may = tt
sweep_by_room refusal.HistoryFull may = tt
sweep_by_room other may = absurd may

pub sweep_is : (r : Refusal) → IsDeleteRefusal r ⊎ MayRefuseSweep r → MayRefuseSweep r
sweep_is r (inl room) = sweep_by_room r room
sweep_is r (inr may) = may

-- a get
get_by_number : (r : Refusal) → 20 ≤ number_of r → number_of r ≤ 24 → IsGetRefusal r
get_by_number refusal.BadMagic low high = tt
get_by_number refusal.BadDigest low high = tt
get_by_number refusal.BadLength low high = tt
get_by_number refusal.BadPadding low high = tt
get_by_number refusal.BadVersion low high = tt
get_by_number r low high = absurd (omega (arith, low, high))

pub get_is : (r : Refusal) → IsReadRefusal r → IsGetRefusal r
get_is r (inl (inl device)) = subst IsGetRefusal (sym device) tt
get_is r (inl (inr memory)) = subst IsGetRefusal (sym memory) tt
get_is r (inr (inl (low, high))) = get_by_number r low high
get_is r (inr (inr other)) = subst IsGetRefusal (sym other) tt
