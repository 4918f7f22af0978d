-- What a crash may leave of a store's disk that tears the pages that were being written.
use Rattle.std.specs.Prelude.{◌≡◌, ◌⊎◌, ◌<◌, ◌+◌, ◌*◌, ℕ, length}
use Rattle.cs_disk.specs.Disk.{Image, MayLeave, State, page}
use Rattle.cs_frame.specs.Geometries.{Dimensions}
use Rattle.law_machine.specs.Device.{FramePage}
use Rattle.cs_mount.specs.StorePairs.{pages_of, store_shape}
use Rattle.cs_twin.specs.Tears.{HasWaitingWrite}

-- The page is spare: it lies after the sections, and before the first twin. A store has such pages where its device had
-- more than it needs, and they hold nothing of it.
pub record IsSpare (d : Dimensions) (p : ℕ) : Type 0 where
  pub after_sections : d.extents * d.pages + d.sections < p
  pub before_twins : p + (1 + d.sections) < pages_of d

-- It is what a crash left of a store's disk. But each page of frames, and each spare page, may hold anything if a write
-- to it wasn't flushed.
pub record IsTornFrom (d : Dimensions) (disk : State) (left image : Image) : Type 0 where
  pub size : length image ≡ length left
  pub each : (p : ℕ) → p < length left → (page image p ≡ page left p) ⊎ ((((store_shape d).kind p ≡ FramePage) ⊎ IsSpare d p) × HasWaitingWrite disk p)

-- an image is what a crash leaves of a store's disk that tears the pages of frames that were being written
abbrev pub LeavesTorn : Dimensions → (disk : State) → Image → Type 0
LeavesTorn d disk image = (left : Image) × MayLeave disk left × IsTornFrom d disk left image
