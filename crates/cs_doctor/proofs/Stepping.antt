-- No command that is named erases anything, but where a file was found to hold nothing.
use Rattle.std.proofs.Common.{◌≡◌, Bool, true, false, List, [], ◌∷◌, ◌++◌, if◌then◌else◌, refl}
use Rattle.std.specs.Prelude.{nat_lt, ◌&&◌}
use Rattle.std.specs.List.{AllByRecursion}
use Rattle.cs_disk.specs.declared.fault.SystemFault.{SystemFault}
use Rattle.cs_disk.specs.declared.fault.SystemFault.TheVariants as fault
use Rattle.cs_frame.specs.declared.formats.FormatNumber.{FormatNumber}
use Rattle.cs_frame.specs.declared.formats.FormatNumber.TheVariants as format
use Rattle.cs_refusal.specs.declared.refusals.Refusal.{Refusal}
use Rattle.cs_refusal.specs.declared.refusals.Refusal.TheVariants as refusal
use Rattle.cs_doctor.specs.Doctor.{are_sound_runs, is_sound, reads_all}
use Rattle.cs_doctor.specs.Steps.{HoldsNothing, IsEmpty, are_mendable, deep_step, needs_no_repair, says_to_erase, steps_by, steps_if_opened, steps_in, steps_of_content, steps_of_fault, steps_of_pairs, steps_of_reads, steps_of_refusal, steps_of_store, words_of}
use Rattle.cs_doctor.specs.declared.diagnoses.Deep.{Deep}
use Rattle.cs_doctor.specs.declared.diagnoses.Deep.TheVariants as deep
use Rattle.cs_doctor.specs.declared.diagnoses.Diagnosis.{Diagnosis}
use Rattle.cs_doctor.specs.declared.diagnoses.FileDiagnosis.{FileDiagnosis}
use Rattle.cs_doctor.specs.declared.diagnoses.FileDiagnosis.TheVariants as file
use Rattle.cs_doctor.specs.declared.diagnoses.Opening.{Opening}
use Rattle.cs_doctor.specs.declared.diagnoses.Opening.TheVariants as opening
use Rattle.cs_doctor.specs.declared.diagnosis_steps.Step.{Step}
use Rattle.cs_doctor.specs.declared.diagnosis_steps.Step.TheVariants.{CopyStore, DoctorCopy, DoctorPages, Export, KeepCopy, Repair, Scrub, StretchCopy}
use Rattle.cs_advice.specs.declared.knowns.Content.{Content}
use Rattle.cs_advice.specs.declared.knowns.Content.TheVariants as content

-- a command doesn't say to erase
abbrev pub IsCareful : Step → Type 0
IsCareful step = says_to_erase (words_of step) ≡ false

abbrev pub AreCareful : List Step → Type 0
AreCareful steps = AllByRecursion IsCareful steps

both : (xs ys : List Step) → AreCareful xs → AreCareful ys → AreCareful (xs ++ ys)
both [] ys h k = k
both (x ∷ xs) ys h k = (h.0, both xs ys h.1 k)

either : (b : Bool) (xs ys : List Step) → AreCareful xs → AreCareful ys → AreCareful (if b then xs else ys)
either true xs ys h k = h
either false xs ys h k = k

of_fault : (it : SystemFault) → AreCareful (steps_of_fault it)
of_fault fault.InUse = (refl, tt)
of_fault fault.Failed = (refl, (refl, (refl, tt)))
of_fault other = (refl, (refl, tt))

of_store : (r : Refusal) (number : FormatNumber) → AreCareful (steps_of_store r number)
of_store r format.Two = (refl, (refl, tt))
of_store refusal.RootLost format.Four = (refl, (refl, (refl, tt)))
of_store other format.Four = (refl, (refl, (refl, tt)))

of_content : (r : Refusal) (it : Content) → (IsEmpty it → ⊥) → AreCareful (steps_of_content r it)
of_content r content.Empty some = absurd (some tt)
of_content r (content.Length pages wanted) some = either (nat_lt pages wanted) (KeepCopy ∷ StretchCopy wanted ∷ DoctorCopy ∷ []) (DoctorPages wanted ∷ []) (refl, (refl, (refl, tt))) (refl, tt)
of_content r (content.TwoStores first last) some = (refl, (refl, tt))
of_content r content.Superseded some = (refl, (refl, tt))
of_content r (content.Torn page twin) some = (refl, (refl, tt))
of_content r (content.Store number) some = of_store r number
of_content r other some = (refl, (refl, (refl, tt)))

of_refusal : (r : Refusal) (it : Content) → (IsEmpty it → ⊥) → AreCareful (steps_of_refusal r it)
of_refusal refusal.DeviceFault it some = (refl, of_content refusal.DeviceFault it some)
of_refusal other it some = of_content other it some

of_deep : (it : Deep) → AreCareful (deep_step it)
of_deep deep.NotAsked = (refl, tt)
of_deep deep.NoStore = tt
of_deep (deep.Found frames) = tt

of_pairs : (d : Diagnosis) → AreCareful (steps_of_pairs d)
of_pairs d = either (needs_no_repair d) [] (if are_mendable d.looked.pairs.items then Repair ∷ [] else deep_step d.looked.deep) tt
    (either (are_mendable d.looked.pairs.items) (Repair ∷ []) (deep_step d.looked.deep) (refl, tt) (of_deep d.looked.deep))

of_reads : (d : Diagnosis) → AreCareful (steps_of_reads d)
of_reads d = either (reads_all d.store.opening && are_sound_runs d.store.head.runs.items) (CopyStore ∷ []) (Scrub ∷ Export ∷ []) (refl, tt) (refl, (refl, tt))

if_opened : (d : Diagnosis) → AreCareful (steps_if_opened d)
if_opened d = either (is_sound d) [] (KeepCopy ∷ steps_of_pairs d ++ steps_of_reads d) tt (refl, both (steps_of_pairs d) (steps_of_reads d) (of_pairs d) (of_reads d))

by_opening : (o : Opening) (d : Diagnosis) → (IsEmpty d.looked.content → ⊥) → AreCareful (steps_by o d)
by_opening (opening.Opened shards scrubbed) d some = if_opened d
by_opening (opening.Refused r rest) d some = of_refusal r d.looked.content some

pub careful : (found : FileDiagnosis) → (HoldsNothing found → ⊥) → AreCareful (steps_in found)
careful (file.Unopened it) some = of_fault it
careful (file.InUse pages geometry) some = (refl, tt)
careful (file.OddLength bytes) some = (refl, (refl, (refl, tt)))
careful (file.Found d) some = by_opening d.store.opening d some
