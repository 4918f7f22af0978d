-- What a page disk holds, what its calls do to it, and what a crash may leave.
use Rattle.std.specs.Prelude.{All, ◌≡◌, ◌⊎◌, ℕ, ◌<◌, ◌≤◌, ◌+◌, ◌-◌, ◌^◌, min, Bool, true, false, List, [], ◌∷◌, ◌++◌, length, slice_index, slice_index_or, slice_set, if◌then◌else◌, ◌==◌, Result, Ok, Err, IsErrOf}
use Rattle.cs_disk.specs.declared.fault.DiskFault.{DiskFault}
use Rattle.cs_disk.specs.declared.fault.DiskFault.TheVariants.{DeviceFault}

-- an image: the bytes of each page, page 0 first
abbrev pub Image : Type 0
Image = List (List ℕ)

-- a page write: the page's number and its bytes
abbrev pub Write : Type 0
Write = ℕ × List ℕ

-- what page p of an image reads as
abbrev pub page : Image → ℕ → List ℕ
page image p = slice_index_or image p []

-- an image with page writes applied to it, in order
abbrev pub applied : Image → List Write → Image
applied image [] = image
applied image (w ∷ writes) = applied (slice_set image w.0 w.1) writes

-- what page p reads as after these writes, where it read as these bytes before
abbrev pub latest : List Write → ℕ → List ℕ → List ℕ
latest [] p bytes = bytes
latest (w ∷ writes) p bytes = latest writes p (if w.0 == p then w.1 else bytes)

-- the items for which the mask, one truth value an item, says true
abbrev pub kept : {A : Type 0} → List Bool → List A → List A
kept (true ∷ mask) (x ∷ xs) = x ∷ kept mask xs
kept (false ∷ mask) (x ∷ xs) = kept mask xs
kept mask xs = []

-- a disk: its durable image and the writes since the last flush that succeeded, in order
pub record State : Type 0 where
  pub durable : Image
  pub volatile : List Write

-- each is a byte
abbrev pub IsBytes : List ℕ → Type 0
IsBytes bytes = (i : ℕ) → slice_index bytes i < 256

-- each page and each volatile write has 4,096 bytes
pub record IsWhole (s : State) : Type 0 where
  pub durable : All (λ (bytes : List ℕ). length bytes ≡ 4096) s.durable
  pub volatile : All (λ (w : Write). length w.1 ≡ 4096) s.volatile
  pub durable_bytes : All (λ (bytes : List ℕ). IsBytes bytes) s.durable
  pub volatile_bytes : All (λ (w : Write). IsBytes w.1) s.volatile

-- what the disk reads as
abbrev pub seen : State → Image
seen s = applied s.durable s.volatile

-- what a crash now may leave: some of the volatile writes reach the durable image, in order
abbrev pub MayLeave : State → Image → Type 0
MayLeave s image = (mask : List Bool) × (length mask ≡ length s.volatile) × (image ≡ applied s.durable (kept mask s.volatile))

-- whatever a crash now may leave has P
abbrev pub Leaves : State → (Image → Type 0) → Type 0
Leaves s P = (image : Image) → MayLeave s image → P image

-- the disk after a page write
abbrev pub written : State → ℕ → List ℕ → State
written s p bytes = record { durable = s.durable; volatile = s.volatile ++ (p, bytes) ∷ [] }

-- the disk after a flush
abbrev pub flushed : State → State
flushed s = record { durable = seen s; volatile = [] }

-- the disk after a crash that kept these of the volatile writes
abbrev pub crashed : State → List Bool → State
crashed s mask = record { durable = applied s.durable (kept mask s.volatile); volatile = [] }

-- Time goes on: a crash since t might have left what it might have left before, or what it may leave now.
pub record Elapses (before now : ℕ) (past since : ℕ → Image → Type 0) (state : State) : Type 0 where
  pub later : before ≤ now
  pub nothing_else : (t : ℕ) (c : Image) → t ≤ before → since t c → past t c ⊎ MayLeave state c
  pub keeps : (t : ℕ) (c : Image) → t ≤ before → past t c → since t c

-- From the old disk to the new one time goes on, where it is honest.
abbrev pub GoesOn : {D : Type 0} (honest : D → Type 0) (state : D → State) (moment : D → ℕ) (left_since : D → ℕ → Image → Type 0) (old new : D) → Type 0
GoesOn honest state moment left_since old new = honest old → Elapses (moment old) (moment new) (left_since old) (left_since new) (state new)

-- A sound disk stays sound, and has refused no more calls itself.
abbrev pub StaysSound : {D : Type 0} (sound : D → Type 0) (refusal_count : D → ℕ) (old new : D) → Type 0
StaysSound sound refusal_count old new = sound old → sound new × (refusal_count new ≡ refusal_count old)

-- A write or a flush that succeeds raises the moment by one; one that fails may raise it, by one at most.
abbrev pub Counts : {T E : Type 0} → Result T E → (before now : ℕ) → Type 0
Counts (Ok x) before now = now ≡ before + 1
Counts (Err e) before now = now ≤ before + 1

-- A crash at any moment since old leaves an image that has P.
pub record LeavesOnly {D : Type 0} (moment : D → ℕ) (left_since : D → ℕ → Image → Type 0) (old new : D) (P : Image → Type 0) : Type 0 where
  pub later : moment old ≤ moment new
  pub each : (c : Image) → left_since new (moment old) c → P c
  -- for a run that began earlier
  pub before : (t : ℕ) (c : Image) → t ≤ moment old → left_since new t c → left_since old t c ⊎ P c

-- A count has risen, or stands at 2^64 - 1, where it stays.
abbrev pub Rises : ℕ → ℕ → Type 0
Rises before now = min (before + 1) (2 ^ 64 - 1) ≤ now

-- A `DeviceFault` is answered only where the count of failures rose in this call, or stands at its greatest.
pub record HasCause {T : Type 0} (before now : ℕ) (result : Result T DiskFault) : Type 0 where
  pub later : before ≤ now
  pub failed : IsErrOf result DeviceFault → Rises before now
