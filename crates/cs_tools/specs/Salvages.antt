-- What the frames on a device spell, and what is exported of it.
use Rattle.std.specs.Prelude.{◌≡◌, ◌≢◌, ◌⊎◌, ◌+◌, ◌*◌, ◌-◌, ◌^◌, ◌≤◌, ℕ, Bool, true, false, List, [], Option, Some, None, All, Ok, Err, length, map}
use Rattle.std.specs.Io.KnownBytes.{Appends}
use Rattle.std.specs.List.{AllZip, list_all}
use Rattle.cs_refusal.specs.declared.refusals.Refusal.TheVariants.{DeviceFault, OutOfMemory}
use Rattle.cs_disk.specs.Disk.{Image, Rises, page}
use Rattle.cs_frame.specs.declared.formats.FormatNumber.TheVariants.{Four}
use Rattle.cs_frame.specs.declared.identifiers.ShardId.{ShardId}
use Rattle.cs_frame.specs.declared.superblocks.Superblock.{Superblock}
use Rattle.cs_frame.specs.FormatNumbers.{number_in}
use Rattle.cs_frame.specs.Geometries.{Dimensions}
use Rattle.cs_frame.specs.Superblocks.{SpellsSuperblock}
use Rattle.cs_index.specs.State.{id_number, index_of}
use Rattle.cs_inspect.specs.Listings.{AreFirst}
use Rattle.cs_mount.specs.StorePairs.{dimensions_on, pages_of}
use Rattle.law_machine.specs.Index.{joined_bodies, live_at}
use Rattle.cs_salvage.specs.Founds.{Found}
use Rattle.cs_salvage.specs.Frames.{IsMeant}
use Rattle.cs_salvage.specs.Missing.{AreMissing}
use Rattle.cs_salvage.specs.Namings.{AreCounted, HasShard}
use Rattle.cs_salvage.specs.Parts.{AreParts, IsPart, formats_in}
use Rattle.cs_salvage.specs.Passed.{from_on, without}
use Rattle.cs_salvage.specs.Shards.{AreNewest}
use Rattle.cs_salvage.specs.declared.namings.Naming.TheVariants.{AsItIs}
use Rattle.cs_salvage.specs.declared.parts.Part.{Part}
use Rattle.cs_salvage.specs.declared.searches.Sought.{Sought}
use Rattle.cs_salvage.specs.declared.whole_shards.WholeShard.{WholeShard}
use Rattle.cs_tools.specs.Exports.{IsScript, Shard, is_whole}
use Rattle.cs_advice.specs.declared.outcomes.Outcome.{Outcome}
use Rattle.cs_advice.specs.declared.outcomes.Outcome.TheVariants.{Absent, Damaged, Done, Failed, MayBeLost, NoStore, Refused, Unopened, Unread}
use Rattle.cs_tools.specs.declared.salvages.Named.{Named}
use Rattle.cs_tools.specs.declared.salvages.Salvaged.{Salvaged}

-- the dimensions of the store that a section of a superblock is of
abbrev pub dimensions_in : Superblock → Dimensions
dimensions_in it = record { format = it.format; extents = it.extent_count; pages = it.pages; sections = it.sections }

-- the bytes spell section 0 of the superblock of a store of format 4 of these dimensions
abbrev pub SaysFirst : (bytes : List ℕ) → Dimensions → Type 0
SaysFirst bytes g = (number_in g.format ≡ Four)
    × ((version : ℕ) × (recorded : ℕ) × (written : List (ℕ × ℕ)) × SpellsSuperblock bytes g.format version recorded g.extents g.pages g.sections 0 written)

-- page 0 says these dimensions, with which a device has another number of pages than this one
abbrev pub IsOfOtherLength : (count : ℕ) → Image → Dimensions → Type 0
IsOfOtherLength count image g = SaysFirst (page image 0) g × (pages_of g ≢ count)

-- there is no geometry to salvage by: no store of format 4 is there, and page 0 says none of another length
abbrev pub HasNoGeometry : (count : ℕ) → Image → Type 0
HasNoGeometry count image = (dimensions_on count image ≡ None) × ((g : Dimensions) → IsOfOtherLength count image g → ⊥)

-- This is what frames on a device spell, those of the store alone or those of any, without the pages before the first
-- that was looked at and those that couldn't be read: of each identifier the newest shard that is whole, and each newest
-- put that isn't.
pub record IsSalvaged (image : Image) (found : Salvaged) : Type 0 where
  pub parts : List Part
  pub all : AreParts found.sought (without found.unreadable.items (from_on found.from_page image)) parts
  pub shards : AreNewest parts found.shards.items
  pub missing : AreMissing parts found.missing.items

-- all frames were looked at: from the first page of the extents on, none was passed over, and the device has all
abbrev pub IsWholeScan : Salvaged → Type 0
IsWholeScan found = (found.unreadable.items ≡ []) × (found.from_page ≤ 2)
    × (2 + found.sought.geometry.extents * found.sought.geometry.pages ≤ found.device_pages)

-- each identifier that these runs name is that of one of the shards
abbrev pub AreAllFound : Found → List WholeShard → Type 0
AreAllFound f shards = (ids : List ShardId) × AreFirst (λ (id : ℕ). live_at (index_of f.index) id ≢ []) 0 (2 ^ 64 - 1) (map id_number ids) × All (HasShard shards) ids

-- the index is whole, names each of the shards as it was found, and no others
abbrev pub IsJustThese : Named → Type 0
IsJustThese named = (named.is_whole ≡ true) × (named.lacking ≡ 0) × AreCounted AsItIs named.namings.items (length named.namings.items)

-- this is known
abbrev pub IsSure : Option Named → Type 0
IsSure None = ⊥
IsSure (Some named) = IsJustThese named

-- Something may be wrong: not all could be read, there is no shard, a newest put isn't whole, not all was looked at, or
-- the index has others, or may have.
abbrev pub IsInDoubt : Salvaged → Option Named → (whole : Bool) → Type 0
IsInDoubt found named whole = (whole ≡ false) ⊎ (found.shards.items ≡ []) ⊎ (found.missing.items ≢ []) ⊎ (IsWholeScan found → ⊥) ⊎ (IsSure named → ⊥)

-- these are the payloads of a whole shard's parts, which stand on the device and are of a store whose chunks are sought
abbrev pub ArePayloadsOf : Sought → Image → WholeShard → (payloads : List (List ℕ)) → Type 0
ArePayloadsOf sought image whole payloads = AllZip (IsPart sought image) whole.parts.items payloads

-- the parts of a whole shard stand on the device
abbrev pub Stands : Sought → Image → WholeShard → Type 0
Stands sought image whole = (payloads : List (List ℕ)) × ArePayloadsOf sought image whole payloads

-- what is told of a whole shard is what its frames have, unless the device, whose count of failures rose then from the one to the other or stood at its end, or memory refuses
abbrev pub IsToldOf : Sought → Image → (failed failed_then : ℕ) → WholeShard → Shard → Type 0
IsToldOf sought image failed failed_then whole (id, Ok bytes) =
    (id ≡ whole.put.id) × ((payloads : List (List ℕ)) × ArePayloadsOf sought image whole payloads × (bytes ≡ joined_bodies (formats_in sought.geometry) payloads))
IsToldOf sought image failed failed_then whole (id, Err r) = (id ≡ whole.put.id) × (((r ≡ DeviceFault) × Rises failed failed_then) ⊎ (r ≡ OutOfMemory))

-- it is told of these whole shards, in order, with these counts of the disk's failures before and after
abbrev pub AreToldOf : Sought → Image → (failed failed_then : ℕ) → List WholeShard → List Shard → Type 0
AreToldOf sought image failed failed_then wholes shards = AllZip (IsToldOf sought image failed failed_then) wholes shards

-- the script of what was found was written out, and whether all could be read, with these counts of the disk's failures before and after
pub record IsWrittenOut (image : Image) (found : Salvaged) (failed failed_then : ℕ) (before after : Option (List ℕ)) (whole : Bool) : Type 0 where
  pub shards : List Shard
  pub told : AreToldOf found.sought image failed failed_then found.shards.items shards
  pub whole_is : whole ≡ list_all is_whole shards
  pub text : List ℕ
  pub script : IsScript shards text
  pub written : Appends before after text

-- With these counts of the disk's failures before and after: the script of all that was found was written out, something was, all could be read, nothing is
-- missing, all was looked at, and the index has just these shards; or something may be wrong; or the writer failed.
abbrev pub Salvages : Image → Salvaged → Option Named → (failed failed_then : ℕ) → (before after : Option (List ℕ)) → Outcome → Type 0
Salvages image found named failed failed_then before after Done =
    IsWrittenOut image found failed failed_then before after true × (found.shards.items ≢ []) × (found.missing.items ≡ []) × IsWholeScan found × IsSure named
Salvages image found named failed failed_then before after Damaged =
    (whole : Bool) × IsWrittenOut image found failed failed_then before after whole × IsInDoubt found named whole
Salvages image found named failed failed_then before after Failed = Unit {0}
Salvages image found named failed failed_then before after Absent = ⊥
Salvages image found named failed failed_then before after (Refused r) = ⊥
Salvages image found named failed failed_then before after (NoStore r) = ⊥
Salvages image found named failed failed_then before after (Unopened f) = ⊥
Salvages image found named failed failed_then before after MayBeLost = ⊥
Salvages image found named failed failed_then before after (Unread r) = ⊥

-- What is told of a whole shard is bytes that its parts mean, or why they can't be read: 1 only where the disk's count of failures rose from the one to the other, or
-- stood at its end.
abbrev pub IsMeantBy : Sought → (failed failed_then : ℕ) → WholeShard → Shard → Type 0
IsMeantBy sought failed failed_then whole (told, Ok bytes) =
    (told ≡ whole.put.id) × ((payloads : List (List ℕ)) × AllZip IsMeant whole.parts.items payloads × (bytes ≡ joined_bodies (formats_in sought.geometry) payloads))
IsMeantBy sought failed failed_then whole (told, Err r) = (told ≡ whole.put.id) × (r ≡ DeviceFault → Rises failed failed_then)

-- Whatever the disk does: the script of what was found was written out, and whether all could be read, with these counts of the disk's failures before and after.
pub record IsMeantSalvage (found : Salvaged) (failed failed_then : ℕ) (before after : Option (List ℕ)) (whole : Bool) : Type 0 where
  pub shards : List Shard
  pub told : AllZip (IsMeantBy found.sought failed failed_then) found.shards.items shards
  pub whole_is : whole ≡ list_all is_whole shards
  pub text : List ℕ
  pub script : IsScript shards text
  pub written : Appends before after text

-- it is done only if something was found, all could be read, nothing is missing, all was looked at, and the index has just these shards
abbrev pub MeansSalvage : Salvaged → Option Named → (failed failed_then : ℕ) → (before after : Option (List ℕ)) → Outcome → Type 0
MeansSalvage found named failed failed_then before after Done =
    IsMeantSalvage found failed failed_then before after true × (found.shards.items ≢ []) × (found.missing.items ≡ []) × IsWholeScan found × IsSure named
MeansSalvage found named failed failed_then before after Damaged =
    (whole : Bool) × IsMeantSalvage found failed failed_then before after whole × IsInDoubt found named whole
MeansSalvage found named failed failed_then before after Failed = Unit {0}
MeansSalvage found named failed failed_then before after Absent = ⊥
MeansSalvage found named failed failed_then before after (Refused r) = ⊥
MeansSalvage found named failed failed_then before after (NoStore r) = ⊥
MeansSalvage found named failed failed_then before after (Unread r) = ⊥
MeansSalvage found named failed failed_then before after (Unopened f) = ⊥
MeansSalvage found named failed failed_then before after MayBeLost = ⊥
