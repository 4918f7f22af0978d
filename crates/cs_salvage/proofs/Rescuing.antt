-- A store that isn't damaged, read for what can be got of it.
use Rattle.std.proofs.Common.{◌≡◌, ◌∙◌, ◌⊎◌, inl, inr, ⊎_elim, ℕ, ◌-◌, false, List, Option, None, Some, drop, length, refl, sym, ap, subst}
use Rattle.std.specs.List.{AllByRecursion}
use Rattle.cs_chunk.proofs.Framed.{no_fault_there, one_frame}
use Rattle.cs_chunk.specs.Reads.{IsOfFault, fault_in}
use Rattle.cs_refusal.specs.declared.refusals.Refusal.{Refusal}
use Rattle.cs_refusal.specs.declared.refusals.Refusal.TheVariants.{DeviceFault}
use Rattle.cs_extent.specs.State.{IsWhole, State as ExtentsState, extents_at, shape}
use Rattle.cs_frame.proofs.FormatRunLaws.{fault-spelled}
use Rattle.cs_frame.specs.declared.faults.FormatFault.{FormatFault}
use Rattle.cs_frame.specs.declared.frames.FrameKind.TheVariants.{Run}
use Rattle.cs_frame.specs.FormatRuns.{run_fault}
use Rattle.cs_frame.specs.declared.locators.Locator.{Locator}
use Rattle.cs_frame.specs.Formats.{formats_of}
use Rattle.cs_frame.specs.Geometries.{device_pages}
use Rattle.cs_reader.proofs.OneByOne.{place_inside}
use Rattle.cs_reader.proofs.Readable.{all_readable}
use Rattle.cs_reader.proofs.Superblocks.{read_whole}
use Rattle.cs_reader.specs.ImageReads.{ArePages, IsReadable, IsRunRead}
use Rattle.cs_index.proofs.Sorted.{all_at}
use Rattle.law_machine.specs.Element.{Damaged, Map}
use Rattle.law_machine.specs.Index.{lookup}
use Rattle.law_machine.specs.Recovery.{Recovers}
use Rattle.law_machine.specs.Refusal.{Refusal as Ground}
use Rattle.cs_salvage.specs.declared.rescued_runs.DamagedRun.{DamagedRun}
use Rattle.cs_salvage.specs.Answers.{HasContent, IsRefusedFor}
use Rattle.cs_salvage.specs.Founds.{Found}
use Rattle.cs_salvage.specs.Rescued.{IsRescued, most_taken}
use Rattle.cs_salvage.specs.Runs.{IsEndOf, IsRunRescued, IsWhyNoRun}
use Rattle.cs_salvage.proofs.Damages.{refused_for}
use Rattle.cs_salvage.proofs.Noise.{all_read}
use Rattle.cs_salvage.proofs.Mapped.{content, counts, entries_are, not_lost}

-- where none is damaged none is left
none_left : (honest : Type 0) (x : ExtentsState) (view : ℕ → List ℕ) (places : List Locator) (left : ℕ) (damaged : Option DamagedRun) → damaged ≡ None → IsEndOf honest x view places left damaged → left ≡ 0
none_left honest x view places left None is end = end
none_left honest x view places left (Some d) is end = absurd (cc is)

pub found_whole : (honest : Type 0) (count : ℕ) (view : ℕ → List ℕ) (f : Found) (n : ℕ) (m : Map) → honest → ArePages count view → IsRescued honest count view f → f.damaged ≡ None
    → Recovers (shape f.extents) (formats_of (shape f.extents)) view n m → (f.lost ≡ false) × (f.commands ≡ n) × ((id : ℕ) → HasContent f view id (m id))
found_whole honest count view f n m h are (format, versions, records, pages, written, is) all r =
    let there = is.sections h in
    let here : ArePages (device_pages format (length written) pages (length versions)) view = subst (λ (k : ℕ). ArePages k view) is.sized are in
    let recovered : Recovers (shape (extents_at format pages (length versions) written)) (formats_of (shape (extents_at format pages (length versions) written))) view n m =
    subst (λ (y : ExtentsState). Recovers (shape y) (formats_of (shape y)) view n m) is.extents r in
    let newest = is.runs.newest in
    let none : newest.left ≡ 0 = none_left honest f.extents view f.places newest.left f.damaged all newest.end in
    let listed = newest.listed ∙ ap (λ (k : ℕ). drop k f.places) none in
    let read : AllByRecursion (IsRunRead (extents_at format pages (length versions) written) view) is.runs.runs = all_read (extents_at format pages (length versions) written) (read_whole view format versions records pages written there) view is.runs.runs f.places listed
    (all_readable view format versions records pages written there here n m recovered f.root f.commands f.places (is.root h))
    (subst (λ (y : ExtentsState). AllByRecursion (IsRunRescued y view) is.runs.runs) is.extents (newest.each h)) in (
      not_lost view format versions records pages written there here n m recovered f is.extents (is.root h) is.lost,
      counts view format versions records pages written there here n m recovered f is.extents (is.root h),
      content view format versions records pages written there here n m recovered f is.extents (is.root h) all is.runs.runs (newest.listed ∙ ap (λ (k : ℕ). drop k f.places) none) read most_taken is.runs.index,
    )

-- ---- all is read

no_fault : (found : Option FormatFault) (r : Refusal) → found ≡ None → IsOfFault found r → ⊥
no_fault found r none fault = let clash : None ≡ Some fault.0 = sym none ∙ fault.1 in cc clash

-- a run that can be read is read
run_there : (x : ExtentsState) (whole : IsWhole x) (view : ℕ → List ℕ) (place : Locator) (r : Refusal) → IsReadable x view place → IsWhyNoRun x view place r → ⊥
run_there x whole view place r has (none, inl away) = away.0 has.1.located
run_there x whole view place r has (none, inr (inl broken)) =
    no_fault (fault_in x view Run place) r (no_fault_there x whole view Run place (place_inside x place whole has.1.located).1 has.1.payload has.1.frame) broken.1
run_there x whole view place r has (none, inr (inr spoiled)) =
    let same : has.1.payload ≡ spoiled.1.0 = one_frame x whole view Run place (place_inside x place whole has.1.located).1 has.1.payload spoiled.1.0 has.1.frame spoiled.1.1 in
    no_fault (run_fault x.format spoiled.1.0) r (ap (run_fault x.format) (sym same) ∙ fault-spelled x.format has.1.payload has.0 whole.geometry.fits_format has.1.spelled) spoiled.1.2

-- where each can be, none is damaged but by the device
end_by_device : (honest : Type 0) → honest → (x : ExtentsState) → IsWhole x → (view : ℕ → List ℕ) (places : List Locator) → AllByRecursion (λ place. IsReadable x view place) places → (left : ℕ) (damaged : Option DamagedRun)
    → IsEndOf honest x view places left damaged → (damaged ≡ None) ⊎ ((d : DamagedRun) × (damaged ≡ Some d) × (d.refusal ≡ DeviceFault))
end_by_device honest h x whole view places all left None end = inl refl
end_by_device honest h x whole view places all left (Some d) end = inr (
  d,
  refl,
  ⊎_elim
      (λ (device : d.refusal ≡ DeviceFault). device)
      (λ (why : IsWhyNoRun x view d.place d.refusal). absurd (run_there x whole view d.place d.refusal (all_at (λ place. IsReadable x view place) places (left - 1) d.place all end.last) why))
      (end.why h),
)

pub whole_read : (honest : Type 0) (count : ℕ) (view : ℕ → List ℕ) (f : Found) (n : ℕ) (m : Map) → honest → ArePages count view → IsRescued honest count view f
    → Recovers (shape f.extents) (formats_of (shape f.extents)) view n m → (f.damaged ≡ None) ⊎ ((d : DamagedRun) × (f.damaged ≡ Some d) × (d.refusal ≡ DeviceFault))
whole_read honest count view f n m h are (format, versions, records, pages, written, is) r =
    let x : ExtentsState = extents_at format pages (length versions) written in
    let there = is.sections h in
    let here : ArePages (device_pages format (length written) pages (length versions)) view = subst (λ (k : ℕ). ArePages k view) is.sized are in
    let recovered : Recovers (shape x) (formats_of (shape x)) view n m = subst (λ (y : ExtentsState). Recovers (shape y) (formats_of (shape y)) view n m) is.extents r in
    end_by_device honest h x (read_whole view format versions records pages written there) view f.places
    (all_readable view format versions records pages written there here n m recovered f.root f.commands f.places (is.root h))
    is.runs.newest.left f.damaged (subst (λ (y : ExtentsState). IsEndOf honest y view f.places is.runs.newest.left f.damaged) is.extents is.runs.newest.end)

-- ---- what is damaged

pub whole_refused : (honest : Type 0) (count : ℕ) (view : ℕ → List ℕ) (f : Found) (n : ℕ) (m : Map) (id : ℕ) (g : Ground) → honest → ArePages count view → IsRescued honest count view f → f.damaged ≡ None
    → Recovers (shape f.extents) (formats_of (shape f.extents)) view n m → m id ≡ Some (Damaged g) → IsRefusedFor f view id g
whole_refused honest count view f n m id g h are (format, versions, records, pages, written, is) all r content =
    let x : ExtentsState = extents_at format pages (length versions) written in
    let there = is.sections h in
    let here : ArePages (device_pages format (length written) pages (length versions)) view = subst (λ (k : ℕ). ArePages k view) is.sized are in
    let recovered : Recovers (shape x) (formats_of (shape x)) view n m = subst (λ (y : ExtentsState). Recovers (shape y) (formats_of (shape y)) view n m) is.extents r in
    let newest = is.runs.newest in
    let none : newest.left ≡ 0 = none_left honest f.extents view f.places newest.left f.damaged all newest.end in
    let listed = newest.listed ∙ ap (λ (k : ℕ). drop k f.places) none in
    let read : AllByRecursion (IsRunRead x view) is.runs.runs = all_read x (read_whole view format versions records pages written there) view is.runs.runs f.places listed
    (all_readable view format versions records pages written there here n m recovered f.root f.commands f.places (is.root h))
    (subst (λ (y : ExtentsState). AllByRecursion (IsRunRescued y view) is.runs.runs) is.extents (newest.each h)) in
    refused_for view format versions records pages written there here n m recovered f is.extents id
    (ap (lookup id) (entries_are view format versions records pages written there here n m recovered f is.extents (is.root h) all is.runs.runs
    (newest.listed ∙ ap (λ (k : ℕ). drop k f.places) none) read most_taken is.runs.index)) g content
