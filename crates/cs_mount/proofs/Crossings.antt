-- How the section of an extent is written anew with the extent's row left out.
use Rattle.std.proofs.Common.{◌≡◌, ◌⊎◌, inl, inr, ◌==◌, ℕ, zero, suc, ◌+◌, ◌-◌, ◌/◌, ◌*◌, ◌<◌, ◌≤◌, ◌^◌, Bool, true, List, [], ◌∷◌, Option, length, if◌then◌else◌, slice_set, refl, sym, ap, ◌∙◌, subst, arith, lt-ltb}
use Rattle.std.specs.List.{AllByRecursion}
use Rattle.std.proofs.lemmas.List.{length-set}
use Rattle.cs_core.specs.cs_chunk.Reads.{IsNoAnswer, IsOfFault}
use Rattle.cs_disk.specs.declared.disk.PageDisk.{Ghosts as PageDisk}
use Rattle.cs_disk.specs.Disk.{Image, LeavesOnly, MayLeave, State, flushed, page, seen, written}
use Rattle.cs_disk.specs.Reads.{OnlyReads}
use Rattle.cs_disk.proofs.Moments.{narrows, started, stays}
use Rattle.cs_frame.specs.Bytes.{number}
use Rattle.cs_frame.specs.declared.faults.FormatFault.{FormatFault}
use Rattle.cs_frame.specs.declared.formats.FormatNumber.{FormatNumber}
use Rattle.cs_frame.specs.declared.formats.FormatNumber.TheVariants as of_number
use Rattle.cs_frame.specs.declared.superblocks.Superblock.{Superblock}
use Rattle.cs_frame.specs.FormatNumbers.{number_in}
use Rattle.cs_frame.specs.Geometries.{Dimensions, IsGeometry, section_length, section_size, section_start}
use Rattle.cs_frame.specs.Superblocks.{IsSuperblock, spelled_superblock, superblock_fault, superblock_version}
use Rattle.cs_frame.proofs.GeometryLaws.{lies_in_device, section_holds, section_inside}
use Rattle.cs_disk.specs.declared.fault.DiskFault.{DiskFault}
use Rattle.cs_disk.specs.declared.fault.DiskFault.TheVariants as fault
use Rattle.cs_disk.specs.Faults.{disk_fault_number}
use Rattle.cs_refusal.specs.declared.refusals.Refusal.{Refusal}
use Rattle.cs_refusal.specs.declared.refusals.Refusal.TheVariants as refusal
use Rattle.cs_refusal.specs.Refusals.{number_of}
use Rattle.law_machine.specs.Geometry.{twins_in}
use Rattle.cs_reader.specs.Openings.{HasNumbers, SpellsFurther}
use Rattle.cs_mount.specs.LeftOut.{HasRowLeftOut, IsCrossed, IsCrossing, IsCrossingPage, LeavesCrossing, left_out_page, left_out_rows, row_page, row_place}
use Rattle.cs_mount.specs.Makings.{LeavesSome}
use Rattle.cs_mount.specs.StorePairs.{pages_of, section_version, store_shape, without_fault}
use Rattle.cs_mount.proofs.Laying.{safe_of}
use Rattle.cs_mount.proofs.Lowering.{within}
use Rattle.cs_mount.proofs.Respelling.{four_number, page_left_out, version_read}
use Rattle.cs_mount.proofs.Spelling.{another_read, no_section}

-- the section of an extent that is there
pub section_is : (d : Dimensions) (e : ℕ) → e < d.extents → (store_shape d).section e ≡ e / section_size d.extents d.sections
section_is d e lt = ap (λ (b : Bool). if b then e / section_size d.extents d.sections else 0) (lt-ltb e d.extents lt)

-- its page, and that it is there
pub row_at : (d : Dimensions) (e section number : ℕ) → e < d.extents → section ≡ e / section_size d.extents d.sections → number ≡ (if section == 0 then 0 else 1 + d.extents * d.pages + section) → number ≡ row_page d e
row_at d e section number lt is at = at ∙ ap (λ (j : ℕ). if j == 0 then 0 else 1 + d.extents * d.pages + j) (is ∙ sym (section_is d e lt))

pub row_there : (d : Dimensions) (e : ℕ) → e < d.extents → IsGeometry d.format d.extents d.pages d.sections → row_page d e < pages_of d
row_there d e lt g = (lies_in_device d.format d.extents d.pages d.sections g).sections ((store_shape d).section e)
    (subst (λ (j : ℕ). j < d.sections) (sym (section_is d e lt)) (section_inside d.format d.extents d.pages d.sections g e lt))

-- the place of its row
module _ (d : Dimensions) (e section : ℕ) (lt : e < d.extents) (g : IsGeometry d.format d.extents d.pages d.sections) (is : section ≡ e / section_size d.extents d.sections) where
  pub row_inside : (section_start d.extents d.sections section ≤ e) × (e < section_start d.extents d.sections section + section_length d.extents d.sections section)
  row_inside = (section_holds d.format d.extents d.pages d.sections g e section lt).0 (sym is)

  pub place_is : (start : ℕ) → start ≡ section_start d.extents d.sections section → e - start ≡ row_place d e
  place_is start at = ap (λ (k : ℕ). e - k) (at ∙ ap (section_start d.extents d.sections) (is ∙ sym (section_is d e lt)))

  pub place_there : (it : Superblock) (start : ℕ) → start ≡ section_start d.extents d.sections section → HasNumbers d.format d.extents d.pages d.sections section it → ((bytes : List ℕ) × SpellsFurther bytes it) → e - start < length it.extents.items
  place_there it start at has some =
      let count : length it.extents.items ≡ section_length d.extents d.sections section =
      some.1.fits.count ∙ ap (λ (k : ℕ). section_length k it.sections it.section) has.of_extents ∙ ap (λ (k : ℕ). section_length d.extents k it.section) has.of_sections ∙ ap (section_length d.extents d.sections) has.place in
      let in_it = row_inside in
      omega (arith, count, at, in_it.0, in_it.1)

-- ---- the section with the row so

pub all_set : (P : ℕ × ℕ → Type 0) (rows : List (ℕ × ℕ)) (k : ℕ) (row : ℕ × ℕ) → P row → AllByRecursion P rows → AllByRecursion P (slice_set rows k row)
all_set P [] k row here all = tt
all_set P (x ∷ rows) zero row here all = (here, all.1)
all_set P (x ∷ rows) (suc k) row here all = (all.0, all_set P rows k row here all.1)

pub row_fits : (it anew : Superblock) (place : ℕ) (lives : Bool) → HasRowLeftOut it place lives anew → it.version + 1 < 2 ^ 63 → ((bytes : List ℕ) × SpellsFurther bytes it) → IsSuperblock anew
row_fits it anew place lives has low some =
    let fits = some.1.fits in
    let rows = it.extents.items in
    let pointers : AllByRecursion (λ (extent : ℕ × ℕ). extent.0 ≤ it.pages) (left_out_rows it.pages lives place rows) = all_set (λ (extent : ℕ × ℕ). extent.0 ≤ it.pages) rows place _ (omega arith) (within it.pages rows fits.each) in
    let version = has.version in
    record {
      first_version = omega (arith, version);
      last_version = omega (arith, version, low);
      recorded_fits = rw (has.format, has.recorded) fits.recorded_fits;
      geometry = rw (has.format, has.extent_count, has.pages, has.sections) fits.geometry;
      one_of_them = rw (has.section, has.sections) fits.one_of_them;
      count = ap length has.rows ∙ length-set rows place _ ∙ rw (has.extent_count, has.sections, has.section) fits.count;
      pointers = rw (has.pages, has.rows) pointers;
    }

-- is what the image asks for
pub crossing_found : (d : Dimensions) (e : ℕ) (lives : Bool) (image : Image) (it anew : Superblock) (number place : ℕ) (bytes : List ℕ) → twins_in it.format ≡ true → number ≡ row_page d e → place ≡ row_place d e
    → SpellsFurther (page image number) it → HasRowLeftOut it place lives anew → it.version + 1 < 2 ^ 63
    → bytes ≡ spelled_superblock anew.format anew.version anew.recorded anew.extent_count anew.pages anew.sections anew.section anew.extents.items → IsCrossingPage d e lives image bytes
crossing_found d e lives image it anew number place bytes twins at row spells has low is =
    let version : superblock_version (page image number) ≡ it.version = version_read (page image number) it.format it.version it.recorded it.extent_count it.pages it.sections it.section it.extents.items twins spells in
    subst (λ (p : ℕ). (superblock_version (page image p) + 1 < 2 ^ 63) × (bytes ≡ left_out_page lives (row_place d e) (page image p))) at (
      omega (arith, version, low),
      is ∙ anew_is ∙ sym (page_left_out (page image number) it.format it.version it.recorded it.extent_count it.pages it.sections it.section it.extents.items twins spells lives place)
          ∙ ap (λ (k : ℕ). left_out_page lives k (page image number)) row,
    )
  where
    anew_is : spelled_superblock anew.format anew.version anew.recorded anew.extent_count anew.pages anew.sections anew.section anew.extents.items
        ≡ spelled_superblock it.format (it.version + 1) it.recorded it.extent_count it.pages it.sections it.section (left_out_rows it.pages lives place it.extents.items)
    anew_is = rw (has.format, has.version, has.recorded, has.extent_count, has.pages, has.sections, has.section, has.rows) refl

-- ---- why there is none

is_device : (r : Refusal) → number_of r ≡ 1 → r ≡ refusal.DeviceFault
is_device r is = grind arith

is_memory : (r : Refusal) → number_of r ≡ 9 → r ≡ refusal.OutOfMemory
is_memory r is = grind arith

-- the disk or memory refused
pub no_answer : (f : DiskFault) (r : Refusal) → number_of r ≡ disk_fault_number f → IsNoAnswer r
no_answer fault.DeviceFault r is = inl (is_device r is)
no_answer fault.OutOfMemory r is = inr (is_memory r is)

-- a page with a fault, or another section, is no version of this one
pub not_faulty : (d : Dimensions) (j : ℕ) (bytes : List ℕ) (r : Refusal) → twins_in d.format ≡ true → 0 < section_version d j bytes → IsOfFault (superblock_fault of_number.Four bytes) r → ⊥
not_faulty d j bytes r twins some fault =
    let none : 0 ≡ section_version d j bytes = no_section d j bytes (sym (ap (λ (n : FormatNumber). without_fault (superblock_fault n bytes) (number 4 12 bytes)) (four_number d.format twins) ∙ ap (λ (o : Option FormatFault). without_fault o (number 4 12 bytes)) fault.1)) in
    omega (arith, some, none)

pub not_another : (d : Dimensions) (j : ℕ) (bytes : List ℕ) (it : Superblock) → twins_in d.format ≡ true → number_in it.format ≡ of_number.Four → 0 < section_version d j bytes → SpellsFurther bytes it
    → (HasNumbers d.format d.extents d.pages d.sections j it → ⊥) → ⊥
not_another d j bytes it twins four some spells other =
    let none : 0 ≡ section_version d j bytes = another_read bytes d it.format it.version it.recorded it.extent_count it.pages it.sections it.section j it.extents.items spells (four ∙ sym (four_number d.format twins))
    (λ its. other (record { of_format = its.0; of_extents = its.1; of_pages = its.2; of_sections = its.3; place = its.4 })) in
    omega (arith, some, none)

-- ---- the calls

module _ {D : Type 0} (disks : PageDisk D) (d : Dimensions) (e : ℕ) (lives : Bool) (old mid new : D) (honest : disks.honest old) (reads : OnlyReads disks old mid) (number : ℕ) (at : number ≡ row_page d e)
    (bytes : List ℕ) (is : IsCrossingPage d e lives (seen (disks.state old)) bytes) where
  abbrev s : State
  s = disks.state old

  crossing : (t : State) → t ≡ written (disks.state mid) number bytes → IsCrossing d e lives s t
  crossing t written_is = record {
    unworn = is.0;
    write = written_is ∙ ap (λ (z : State). written z number bytes) (reads.same honest) ∙ ap (λ (p : ℕ). written s p bytes) at ∙ ap (written s (row_page d e)) is.1;
  }

  pub crossed_now : disks.state new ≡ flushed (written (disks.state mid) number bytes) → IsCrossed d e lives s (disks.state new)
  crossed_now flushed_is = (written (disks.state mid) number bytes, crossing (written (disks.state mid) number bytes) refl, flushed_is)

  pub crossed_or_not : (disks.state new ≡ disks.state mid) ⊎ (disks.state new ≡ written (disks.state mid) number bytes) → (disks.state new ≡ s) ⊎ IsCrossing d e lives s (disks.state new)
  crossed_or_not (inl same) = inl (same ∙ reads.same honest)
  crossed_or_not (inr written_is) = inr (crossing (disks.state new) written_is)

  pub crossing_leaves : ((c : Image) → disks.left_since old (disks.moment old) c → MayLeave s c) → LeavesSome disks mid new ((number, bytes) ∷ []) → LeavesOnly disks.moment disks.left_since old new (LeavesCrossing d e lives s)
  crossing_leaves only some =
      (narrows disks.state disks.moment disks.left_since old mid new (LeavesCrossing d e lives s) (MayLeave (written (disks.state mid) number bytes))
      (stays disks.state disks.moment disks.left_since old old mid (LeavesCrossing d e lives s) (started disks.state disks.moment disks.left_since old (LeavesCrossing d e lives s) (λ c left. inl left) only) (reads.time honest) (reads.same honest))
      (λ c left. inr (written (disks.state mid) number bytes, crossing (written (disks.state mid) number bytes) refl, left)) (safe_of disks mid new ((number, bytes) ∷ []) some)).any_moment

-- nothing was written
pub no_crossing_leaves : {D : Type 0} (disks : PageDisk D) (d : Dimensions) (e : ℕ) (lives : Bool) (old mid : D) → disks.honest old → OnlyReads disks old mid → ((c : Image) → disks.left_since old (disks.moment old) c → MayLeave (disks.state old) c)
    → LeavesOnly disks.moment disks.left_since old mid (LeavesCrossing d e lives (disks.state old))
no_crossing_leaves disks d e lives old mid honest reads only =
    (stays disks.state disks.moment disks.left_since old old mid (LeavesCrossing d e lives (disks.state old))
    (started disks.state disks.moment disks.left_since old (LeavesCrossing d e lives (disks.state old)) (λ c left. inl left) only) (reads.time honest) (reads.same honest)).any_moment
