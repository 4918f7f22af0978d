-- What is found of a store in a file, and when it is sound.
use Rattle.std.specs.Prelude.{◌≡◌, ◌⊎◌, ◌==◌, ◌&&◌, ℕ, Bool, true, false, not, List, [], ◌∷◌, Option, Some, None, Result, Ok, Err, if◌then◌else◌, length}
use Rattle.std.specs.List.{AllZip, list_all}
use Rattle.cs_disk.specs.Disk.{Image, Rises}
use Rattle.cs_frame.specs.Geometries.{Dimensions}
use Rattle.cs_frame.specs.declared.identities.StoreId.{StoreId}
use Rattle.cs_mount.specs.Identities.{stores_on}
use Rattle.cs_mount.specs.Showing.{findings_on}
use Rattle.cs_mount.specs.StorePairs.{dimensions_on}
use Rattle.cs_salvage.specs.Missing.{AreMissing}
use Rattle.cs_salvage.specs.Parts.{AreParts, of_store}
use Rattle.cs_salvage.specs.Passed.{RisesBy, without}
use Rattle.cs_salvage.specs.Shards.{AreNewest}
use Rattle.cs_salvage.specs.declared.searches.Sought.{Sought}
use Rattle.cs_salvage.specs.declared.whole_shards.Missing.{Missing}
use Rattle.cs_salvage.specs.declared.whole_shards.WholeShard.{WholeShard}
use Rattle.cs_doctor.specs.declared.diagnoses.Deep.{Deep}
use Rattle.cs_doctor.specs.declared.diagnoses.Deep.TheVariants as deep
use Rattle.cs_doctor.specs.declared.diagnoses.Frames.{Frames}
use Rattle.cs_twin.specs.Findings.{is_damaged}
use Rattle.cs_twin.specs.declared.findings.Finding.{Finding}
use Rattle.cs_twin.specs.declared.findings.Half.{Half}
use Rattle.cs_advice.specs.Knowns.{IsSuperseded}
use Rattle.cs_advice.specs.Outcomes.{status_of_fault}
use Rattle.cs_doctor.specs.declared.diagnoses.Diagnosis.{Diagnosis}
use Rattle.cs_doctor.specs.declared.diagnoses.FileDiagnosis.{FileDiagnosis}
use Rattle.cs_doctor.specs.declared.diagnoses.FileDiagnosis.TheVariants as file
use Rattle.cs_doctor.specs.declared.diagnoses.Looked.{Looked}
use Rattle.cs_doctor.specs.declared.diagnoses.Opening.{Opening}
use Rattle.cs_doctor.specs.declared.diagnoses.Opening.TheVariants as opening
use Rattle.cs_doctor.specs.declared.diagnoses.PairFound.{PairFound}
use Rattle.cs_doctor.specs.declared.diagnoses.RunFound.{RunFound}
use Rattle.cs_advice.specs.declared.knowns.Content.{Content}
use Rattle.cs_advice.specs.declared.knowns.Content.TheVariants as content

-- ---- what is sound

-- a page of a pair can be read, and is whole or a fence
abbrev pub is_sound_half : Option Half → Bool
is_sound_half None = false
is_sound_half (Some half) = not (is_damaged half)

-- and both pages of a pair
abbrev pub is_sound_pair : PairFound → Bool
is_sound_pair found = is_sound_half found.own && is_sound_half found.twin

abbrev pub are_sound_pairs : List PairFound → Bool
are_sound_pairs pairs = list_all is_sound_pair pairs

-- a run was read
abbrev pub is_read : {T E : Type 0} → Result T E → Bool
is_read (Ok x) = true
is_read (Err e) = false

abbrev pub is_sound_run : RunFound → Bool
is_sound_run run = is_read run.entries

abbrev pub are_sound_runs : List RunFound → Bool
are_sound_runs runs = list_all is_sound_run runs

-- nothing is in the list
abbrev pub is_none : {T : Type 0} → List T → Bool
is_none [] = true
is_none (x ∷ xs) = false

-- the store opens, and each shard and each run that its index names was read
abbrev pub reads_all : Opening → Bool
reads_all (opening.Opened shards scrubbed) = is_none scrubbed.damages.items
reads_all (opening.Refused refusal rest) = false

-- a disk holds a store that has as many pages
abbrev pub is_store : Content → Bool
is_store (content.Store format) = true
is_store other = false

-- so it does, and the file has no page more
abbrev pub has_right_length : Diagnosis → Bool
has_right_length d = is_store d.looked.content && d.file_pages == d.looked.pages

-- The length is right, each page of a pair is whole or a fence, each run was read, and so was each shard. No section
-- had to be made.
abbrev pub is_sound : Diagnosis → Bool
is_sound d = has_right_length d && are_sound_pairs d.looked.pairs.items && are_sound_runs d.store.head.runs.items && reads_all d.store.opening && is_none d.made.items

-- ---- the exit status

-- 0 if a store that opens is sound, 5 if it isn't, and 3 if it isn't opened
abbrev pub status_by : Opening → (sound : Bool) → ℕ
status_by (opening.Opened shards scrubbed) sound = if sound then 0 else 5
status_by (opening.Refused refusal rest) sound = 3

abbrev pub status_of_diagnosis : Diagnosis → ℕ
status_of_diagnosis d = status_by d.store.opening (is_sound d)

-- and of a file: 6 if another process has it open, 7 if it isn't there or may not be read, and 3 for one of an odd length
abbrev pub status_of_file : FileDiagnosis → ℕ
status_of_file (file.Unopened fault) = status_of_fault fault
status_of_file (file.InUse pages geometry) = 6
status_of_file (file.OddLength bytes) = 3
status_of_file (file.Found d) = status_of_diagnosis d

-- ---- what is told of pairs

-- this is told of what a page holds: that, or nothing where the disk refused a read, whose count of failures rose from the one to the other
abbrev pub IsHalfFound : (before after : ℕ) → Half → Option Half → Type 0
IsHalfFound before after half None = Rises before after
IsHalfFound before after half (Some found) = found ≡ half

-- what is told of both pages of a pair
pub record IsFoundAs (before after : ℕ) (finding : Finding) (found : PairFound) : Type 0 where
  pub pair : found.pair ≡ finding.pair
  pub own : IsHalfFound before after finding.own found.own
  pub twin : IsHalfFound before after finding.twin found.twin

-- and of all pairs, in order
abbrev pub AreFoundAs : (before after : ℕ) → List Finding → List PairFound → Type 0
AreFoundAs before after findings pairs = AllZip (IsFoundAs before after) findings pairs

-- ---- what is told of frames

-- These are all whole frames of chunks that are sought, without the pages that couldn't be read; for each of those the
-- device failed. So many identifiers have a whole shard, and of so many the newest put isn't whole.
pub record AreFramesOf (sought : Sought) (image : Image) (before after : ℕ) (frames : Frames) : Type 0 where
  pub parts : AreParts sought (without frames.unreadable.items image) frames.parts.items
  pub failed : RisesBy (length frames.unreadable.items) before after
  pub whole : List WholeShard
  pub newest : AreNewest frames.parts.items whole
  pub shards : frames.shards ≡ length whole
  pub gaps : List Missing
  pub missing_puts : AreMissing frames.parts.items gaps
  pub missing : frames.missing ≡ length gaps

-- the frames are those of the store of these dimensions, if they are asked for, and if there is one
abbrev pub IsDeep : Option Dimensions → Image → (before after : ℕ) → Deep → Type 0
IsDeep dimensions image before after deep.NotAsked = Unit {0}
IsDeep dimensions image before after deep.NoStore = dimensions ≡ None
IsDeep dimensions image before after (deep.Found frames) = (d : Dimensions) × (dimensions ≡ Some d) × AreFramesOf (of_store d) image before after frames

-- ---- what is told of a disk's pages

-- A device of so many pages holds this image. Each page of each pair of the store on it is told of; or a read failed as the store was looked for.
abbrev pub ArePairsOn : (count : ℕ) → Image → (before after : ℕ) → List PairFound → Type 0
ArePairsOn count image before after pairs = Rises before after ⊎ AreFoundAs before after (findings_on count image) pairs

-- the frames of the store on it are told of, if they are asked for; or a read failed as the store was looked for
abbrev pub IsDeepOn : (count : ℕ) → Image → (before after : ℕ) → Deep → Type 0
IsDeepOn count image before after deep = Rises before after ⊎ IsDeep (dimensions_on count image) image before after deep

-- what is told of its pages, with these counts of the disk's failures before and after: of two stores both identities too
pub record IsLook (count : ℕ) (image : Image) (before after : ℕ) (looked : Looked) : Type 0 where
  pub two : (first last : StoreId) → looked.content ≡ content.TwoStores first last → stores_on count image ≡ Some (first.0, last.0)
  pub superseded : looked.content ≡ content.Superseded → IsSuperseded count image
  pub pairs : ArePairsOn count image before after looked.pairs.items
  pub deep : IsDeepOn count image before after looked.deep
