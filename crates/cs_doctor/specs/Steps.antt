-- The commands that a diagnosis names to type next.
use Rattle.std.specs.Prelude.{◌==◌, ◌&&◌, ◌||◌, ℕ, Bool, true, false, List, [], ◌∷◌, ◌++◌, Option, Some, None, codes, decimal, if◌then◌else◌, nat_lt}
use Rattle.std.specs.List.{list_all}
use Rattle.cs_disk.specs.declared.fault.SystemFault.{SystemFault}
use Rattle.cs_disk.specs.declared.fault.SystemFault.TheVariants as fault
use Rattle.cs_frame.specs.declared.formats.FormatNumber.{FormatNumber}
use Rattle.cs_frame.specs.declared.formats.FormatNumber.TheVariants as format
use Rattle.cs_refusal.specs.declared.refusals.Refusal.{Refusal}
use Rattle.cs_refusal.specs.declared.refusals.Refusal.TheVariants as refusal
use Rattle.uuid.specs.Text.{lower, simple_text}
use Rattle.cs_advice.specs.Advices.{has_word}
use Rattle.cs_doctor.specs.Doctor.{are_sound_pairs, are_sound_runs, is_none, is_sound, is_sound_pair, reads_all}
use Rattle.cs_doctor.specs.declared.diagnoses.Deep.{Deep}
use Rattle.cs_doctor.specs.declared.diagnoses.Deep.TheVariants as deep
use Rattle.cs_doctor.specs.declared.diagnoses.Diagnosis.{Diagnosis}
use Rattle.cs_doctor.specs.declared.diagnoses.FileDiagnosis.{FileDiagnosis}
use Rattle.cs_doctor.specs.declared.diagnoses.FileDiagnosis.TheVariants as file
use Rattle.cs_doctor.specs.declared.diagnoses.Opening.{Opening}
use Rattle.cs_doctor.specs.declared.diagnoses.Opening.TheVariants as opening
use Rattle.cs_doctor.specs.declared.diagnoses.PairFound.{PairFound}
use Rattle.cs_doctor.specs.declared.diagnosis_steps.Step.{Step}
use Rattle.cs_doctor.specs.declared.diagnosis_steps.Step.TheVariants.{CopyStore, Create, DoctorAgain, DoctorCopy, DoctorDeep, DoctorLater, DoctorPages, Export, ExportOlder, ExportRest, ExportSuperseded, KeepCopy, ListById, ListOlder, ListRest, LookAt, Repair, RoundCopy, Scrub, SeeLog, StretchCopy}
use Rattle.cs_advice.specs.declared.knowns.Content.{Content}
use Rattle.cs_advice.specs.declared.knowns.Content.TheVariants as content
use Rattle.cs_twin.specs.declared.findings.Half.{Half}

-- ---- what a command says

-- the words before a number or the file
abbrev pub front_of : Step → List ℕ
front_of Create = codes "cs_cli create "
front_of KeepCopy = codes "cp -n "
front_of (StretchCopy pages) = codes "truncate -s $((4096 * "
front_of RoundCopy = codes "truncate -s %4096 "
front_of DoctorCopy = codes "cs_cli doctor "
front_of DoctorAgain = codes "cs_cli doctor "
front_of (DoctorPages pages) = codes "cs_cli doctor --device-pages "
front_of DoctorDeep = codes "cs_cli doctor --deep "
front_of DoctorLater = codes "cs_cli doctor --wait 60 "
front_of (ListById id) = codes "cs_cli list --id "
front_of Scrub = codes "cs_cli scrub "
front_of Repair = codes "cs_cli scrub --repair "
front_of Export = codes "cs_cli export "
front_of CopyStore = codes "cs_cli copy "
front_of ListOlder = codes "cs_cli list --as-of "
front_of ExportOlder = codes "cs_cli export --as-of "
front_of ListRest = codes "cs_cli list --salvage "
front_of ExportRest = codes "cs_cli export --salvage "
front_of ExportSuperseded = codes "cs_cli export --file "
front_of LookAt = codes "ls -l "
front_of SeeLog = codes "dmesg | tail # "

-- a number or an identity, with what stands between it and the file
abbrev pub inner_of : Step → List ℕ
inner_of (StretchCopy pages) = decimal pages ++ codes ")) "
inner_of (DoctorPages pages) = decimal pages ++ codes " "
inner_of (ListById id) = simple_text lower id.0 ++ codes " "
inner_of other = []

-- the words between the file and the same file again, where it is named twice
abbrev pub joint_of : Step → Option (List ℕ)
joint_of KeepCopy = Some (codes " ")
joint_of CopyStore = Some (codes " ")
joint_of Export = Some (codes " > ")
joint_of ExportOlder = Some (codes " > ")
joint_of ExportRest = Some (codes " > ")
joint_of ExportSuperseded = Some (codes " > ")
joint_of other = None

-- what is appended to the file's name
abbrev pub suffix_of : Step → List ℕ
suffix_of KeepCopy = codes ".copy"
suffix_of (StretchCopy pages) = codes ".copy"
suffix_of RoundCopy = codes ".copy"
suffix_of DoctorCopy = codes ".copy"
suffix_of CopyStore = codes ".new"
suffix_of Export = codes ".script"
suffix_of ExportOlder = codes ".script"
suffix_of ExportRest = codes ".script"
suffix_of ExportSuperseded = codes ".script"
suffix_of other = []

-- the file, and where it is named twice once more
abbrev pub file_words : (file : List ℕ) → Option (List ℕ) → List ℕ
file_words name None = name
file_words name (Some joint) = name ++ joint ++ name

-- a command about a file of this name
abbrev pub step_text : (file : List ℕ) → Step → List ℕ
step_text name s = front_of s ++ inner_of s ++ file_words name (joint_of s) ++ suffix_of s

-- what a command says but for the file, numbers and identities
abbrev pub words_of : Step → List ℕ
words_of s = front_of s ++ file_words [] (joint_of s) ++ suffix_of s

-- A command erases what a file holds, or gives up commands for good, where it has one of these words.
abbrev pub says_to_erase : List ℕ → Bool
says_to_erase text =
    has_word (codes "create") text || has_word (codes "--new") text || has_word (codes "--force") text || has_word (codes "--accept-loss") text
    || has_word (codes "rm ") text || has_word (codes "dd ") text

-- ---- which commands are named

-- of a file that the system refuses
abbrev pub steps_of_fault : SystemFault → List Step
steps_of_fault fault.InUse = DoctorLater ∷ []
steps_of_fault fault.Failed = SeeLog ∷ LookAt ∷ DoctorAgain ∷ []
steps_of_fault other = LookAt ∷ DoctorAgain ∷ []

-- of a store of this format that isn't opened
abbrev pub steps_of_store : Refusal → FormatNumber → List Step
steps_of_store r format.Two = KeepCopy ∷ ListRest ∷ []
steps_of_store refusal.RootLost format.Four = KeepCopy ∷ ListOlder ∷ ExportOlder ∷ []
steps_of_store other format.Four = KeepCopy ∷ ListRest ∷ ExportRest ∷ []

-- of a file of so many pages whose superblock says another number
abbrev pub steps_of_length : (pages wanted : ℕ) → List Step
steps_of_length pages wanted = if nat_lt pages wanted then KeepCopy ∷ StretchCopy wanted ∷ DoctorCopy ∷ [] else DoctorPages wanted ∷ []

-- of a disk that holds this, and whose store isn't opened
abbrev pub steps_of_content : Refusal → Content → List Step
steps_of_content r content.Empty = Create ∷ []
steps_of_content r (content.Length pages wanted) = steps_of_length pages wanted
steps_of_content r (content.TwoStores first last) = ListById first ∷ ListById last ∷ []
steps_of_content r content.Superseded = KeepCopy ∷ ExportSuperseded ∷ []
steps_of_content r (content.Torn page twin) = KeepCopy ∷ ExportRest ∷ []
steps_of_content r (content.Store number) = steps_of_store r number
steps_of_content r other = KeepCopy ∷ LookAt ∷ DoctorAgain ∷ []

-- the same; where the device failed its log comes first
abbrev pub steps_of_refusal : Refusal → Content → List Step
steps_of_refusal refusal.DeviceFault it = SeeLog ∷ steps_of_content refusal.DeviceFault it
steps_of_refusal other it = steps_of_content other it

-- a page of a pair can be read
abbrev pub can_be_read : Option Half → Bool
can_be_read None = false
can_be_read (Some half) = true

-- A repair mends the pair: both pages can be read, and if it is the root's both are sound.
abbrev pub is_mendable : PairFound → Bool
is_mendable found = if found.pair.page == 1 then is_sound_pair found else can_be_read found.own && can_be_read found.twin

abbrev pub are_mendable : List PairFound → Bool
are_mendable pairs = list_all is_mendable pairs

-- if not all pages were asked for yet
abbrev pub deep_step : Deep → List Step
deep_step deep.NotAsked = DoctorDeep ∷ []
deep_step other = []

-- all pages of pairs are sound, and no section had to be made
abbrev pub needs_no_repair : Diagnosis → Bool
needs_no_repair d = are_sound_pairs d.looked.pairs.items && is_none d.made.items

-- Of pairs: a repair, unless a page can't be read, or a page of the root may have held a newer root; then a look at all pages.
abbrev pub steps_of_pairs : Diagnosis → List Step
steps_of_pairs d =
    if needs_no_repair d then [] else (if are_mendable d.looked.pairs.items then Repair ∷ [] else deep_step d.looked.deep)

-- Of what the index names: a copy into a new file where all was read, and else a list of what wasn't and a script of what was.
abbrev pub steps_of_reads : Diagnosis → List Step
steps_of_reads d = if reads_all d.store.opening && are_sound_runs d.store.head.runs.items then CopyStore ∷ [] else Scrub ∷ Export ∷ []

-- of a store that opens: none where it is sound
abbrev pub steps_if_opened : Diagnosis → List Step
steps_if_opened d = if is_sound d then [] else KeepCopy ∷ steps_of_pairs d ++ steps_of_reads d

abbrev pub steps_by : Opening → Diagnosis → List Step
steps_by (opening.Opened shards scrubbed) d = steps_if_opened d
steps_by (opening.Refused r rest) d = steps_of_refusal r d.looked.content

abbrev pub steps_of_diagnosis : Diagnosis → List Step
steps_of_diagnosis d = steps_by d.store.opening d

-- of a file
abbrev pub steps_in : FileDiagnosis → List Step
steps_in (file.Unopened it) = steps_of_fault it
steps_in (file.InUse pages geometry) = DoctorLater ∷ []
steps_in (file.OddLength bytes) = KeepCopy ∷ RoundCopy ∷ DoctorCopy ∷ []
steps_in (file.Found d) = steps_of_diagnosis d

-- a disk without pages
abbrev pub IsEmpty : Content → Type 0
IsEmpty content.Empty = Unit {0}
IsEmpty other = ⊥

-- a file that was found to hold nothing
abbrev pub HoldsNothing : FileDiagnosis → Type 0
HoldsNothing (file.Found d) = IsEmpty d.looked.content
HoldsNothing other = ⊥
