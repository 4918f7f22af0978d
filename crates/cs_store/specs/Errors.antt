-- Which refusal each error is, and which refusals a call may have.
use Rattle.cs_refusal.specs.declared.refusals.Refusal.{Refusal}
use Rattle.cs_refusal.specs.declared.refusals.Refusal.TheVariants as refusal
use Rattle.cs_store.specs.declared.errors.PutError.{PutError}
use Rattle.cs_store.specs.declared.errors.PutError.TheVariants as put
use Rattle.cs_store.specs.declared.errors.DeleteError.{DeleteError}
use Rattle.cs_store.specs.declared.errors.DeleteError.TheVariants as delete
use Rattle.cs_store.specs.declared.errors.GetError.{GetError}
use Rattle.cs_store.specs.declared.errors.GetError.TheVariants as get
use Rattle.cs_store.specs.declared.errors.SyncError.{SyncError}
use Rattle.cs_store.specs.declared.errors.SyncError.TheVariants as sync
use Rattle.cs_store.specs.declared.errors.SweepError.{SweepError}
use Rattle.cs_store.specs.declared.errors.SweepError.TheVariants as sweep
use Rattle.cs_store.specs.declared.errors.OpenError.{OpenError}
use Rattle.cs_store.specs.declared.errors.OpenError.TheVariants as opening

-- the refusal that a put tells by its error
abbrev pub put_refusal : PutError → Refusal
put_refusal put.DeviceFault = refusal.DeviceFault
put_refusal put.OutOfMemory = refusal.OutOfMemory
put_refusal put.Full = refusal.Full
put_refusal put.TooLarge = refusal.TooLarge
put_refusal put.IndexFull = refusal.IndexFull
put_refusal put.WornOut = refusal.WornOut
put_refusal put.Reserved = refusal.Reserved
put_refusal put.Halted = refusal.Halted
put_refusal put.HistoryFull = refusal.HistoryFull

-- the refusal that a delete tells by its error
abbrev pub delete_refusal : DeleteError → Refusal
delete_refusal delete.DeviceFault = refusal.DeviceFault
delete_refusal delete.OutOfMemory = refusal.OutOfMemory
delete_refusal delete.Full = refusal.Full
delete_refusal delete.WornOut = refusal.WornOut
delete_refusal delete.Halted = refusal.Halted
delete_refusal delete.HistoryFull = refusal.HistoryFull

-- the refusal that a get tells by its error
abbrev pub get_refusal : GetError → Refusal
get_refusal get.DeviceFault = refusal.DeviceFault
get_refusal get.OutOfMemory = refusal.OutOfMemory
get_refusal get.BadMagic = refusal.BadMagic
get_refusal get.BadDigest = refusal.BadDigest
get_refusal get.BadLength = refusal.BadLength
get_refusal get.BadPadding = refusal.BadPadding
get_refusal get.BadVersion = refusal.BadVersion
get_refusal get.Misplaced = refusal.Misplaced

-- the refusal that a sync tells by its error
abbrev pub sync_refusal : SyncError → Refusal
sync_refusal sync.DeviceFault = refusal.DeviceFault
sync_refusal sync.OutOfMemory = refusal.OutOfMemory
sync_refusal sync.Full = refusal.Full
sync_refusal sync.WornOut = refusal.WornOut
sync_refusal sync.Halted = refusal.Halted

-- the refusal that a sweep tells by its error
abbrev pub sweep_refusal : SweepError → Refusal
sweep_refusal sweep.DeviceFault = refusal.DeviceFault
sweep_refusal sweep.OutOfMemory = refusal.OutOfMemory
sweep_refusal sweep.BadMagic = refusal.BadMagic
sweep_refusal sweep.BadDigest = refusal.BadDigest
sweep_refusal sweep.BadLength = refusal.BadLength
sweep_refusal sweep.BadPadding = refusal.BadPadding
sweep_refusal sweep.BadVersion = refusal.BadVersion
sweep_refusal sweep.Misplaced = refusal.Misplaced
sweep_refusal sweep.Full = refusal.Full
sweep_refusal sweep.NotSweepable = refusal.NotSweepable
sweep_refusal sweep.StillLive = refusal.StillLive
sweep_refusal sweep.WornOut = refusal.WornOut
sweep_refusal sweep.Halted = refusal.Halted
sweep_refusal sweep.HistoryFull = refusal.HistoryFull

-- the refusal that making or opening a store tells by its error
abbrev pub open_refusal : OpenError → Refusal
open_refusal opening.DeviceFault = refusal.DeviceFault
open_refusal opening.OddLength = refusal.OddLength
open_refusal opening.OutOfMemory = refusal.OutOfMemory
open_refusal opening.BadMagic = refusal.BadMagic
open_refusal opening.BadDigest = refusal.BadDigest
open_refusal opening.BadLength = refusal.BadLength
open_refusal opening.BadPadding = refusal.BadPadding
open_refusal opening.BadVersion = refusal.BadVersion
open_refusal opening.OutOfOrder = refusal.OutOfOrder
open_refusal opening.Misplaced = refusal.Misplaced
open_refusal opening.RootLost = refusal.RootLost
open_refusal opening.Unreadable = refusal.Unreadable
open_refusal opening.NotAStore = refusal.NotAStore
open_refusal opening.Occupied = refusal.Occupied
open_refusal opening.NotEmpty = refusal.NotEmpty

-- the refusals that a put may have: 1, 9, 30, 31, 32, 35, 36, 40 and 41
abbrev pub IsPutRefusal : Refusal → Type 0
IsPutRefusal refusal.DeviceFault = Unit {0}
IsPutRefusal refusal.OutOfMemory = Unit {0}
IsPutRefusal refusal.Full = Unit {0}
IsPutRefusal refusal.TooLarge = Unit {0}
IsPutRefusal refusal.IndexFull = Unit {0}
IsPutRefusal refusal.WornOut = Unit {0}
IsPutRefusal refusal.Reserved = Unit {0}
IsPutRefusal refusal.Halted = Unit {0}
IsPutRefusal refusal.HistoryFull = Unit {0}
IsPutRefusal other = ⊥

-- the refusals that a delete may have: 1, 9, 30, 35, 40 and 41
abbrev pub IsDeleteRefusal : Refusal → Type 0
IsDeleteRefusal refusal.DeviceFault = Unit {0}
IsDeleteRefusal refusal.OutOfMemory = Unit {0}
IsDeleteRefusal refusal.Full = Unit {0}
IsDeleteRefusal refusal.WornOut = Unit {0}
IsDeleteRefusal refusal.Halted = Unit {0}
IsDeleteRefusal refusal.HistoryFull = Unit {0}
IsDeleteRefusal other = ⊥

-- the refusals that a get may have: 1, 9, 20, 21, 22, 23, 24 and 26
abbrev pub IsGetRefusal : Refusal → Type 0
IsGetRefusal refusal.DeviceFault = Unit {0}
IsGetRefusal refusal.OutOfMemory = Unit {0}
IsGetRefusal refusal.BadMagic = Unit {0}
IsGetRefusal refusal.BadDigest = Unit {0}
IsGetRefusal refusal.BadLength = Unit {0}
IsGetRefusal refusal.BadPadding = Unit {0}
IsGetRefusal refusal.BadVersion = Unit {0}
IsGetRefusal refusal.Misplaced = Unit {0}
IsGetRefusal other = ⊥

-- the refusals that making or opening a store may have: 1, 6, 9, 20, 21, 22, 23, 24, 25, 26, 27, 29, 43, 45 and 46
abbrev pub IsOpenRefusal : Refusal → Type 0
IsOpenRefusal refusal.DeviceFault = Unit {0}
IsOpenRefusal refusal.OddLength = Unit {0}
IsOpenRefusal refusal.OutOfMemory = Unit {0}
IsOpenRefusal refusal.BadMagic = Unit {0}
IsOpenRefusal refusal.BadDigest = Unit {0}
IsOpenRefusal refusal.BadLength = Unit {0}
IsOpenRefusal refusal.BadPadding = Unit {0}
IsOpenRefusal refusal.BadVersion = Unit {0}
IsOpenRefusal refusal.OutOfOrder = Unit {0}
IsOpenRefusal refusal.Misplaced = Unit {0}
IsOpenRefusal refusal.RootLost = Unit {0}
IsOpenRefusal refusal.Unreadable = Unit {0}
IsOpenRefusal refusal.NotAStore = Unit {0}
IsOpenRefusal refusal.Occupied = Unit {0}
IsOpenRefusal refusal.NotEmpty = Unit {0}
IsOpenRefusal other = ⊥
