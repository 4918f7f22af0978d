-- How section 0 is written anew with the newest root on record.
use Rattle.std.proofs.Common.{◌≡◌, ◌⊎◌, inl, inr, ℕ, ◌+◌, ◌<◌, ◌^◌, Bool, true, false, List, [], ◌∷◌, Option, Some, None, Result, Ok, Err, IfOk, if◌then◌else◌, eq-eqb, ne_eqb, refl, sym, ap, ◌∙◌, arith}
use Rattle.cs_disk.specs.declared.disk.PageDisk.{Ghosts as PageDisk}
use Rattle.cs_disk.specs.Disk.{Image, LeavesOnly, MayLeave, State, flushed, page, seen, written}
use Rattle.cs_disk.specs.Reads.{OnlyReads}
use Rattle.cs_disk.proofs.Moments.{narrows, started, stays}
use Rattle.cs_frame.specs.declared.formats.FormatNumber.TheVariants as of_number
use Rattle.cs_frame.specs.declared.superblocks.Superblock.{Superblock}
use Rattle.cs_frame.specs.FormatNumbers.{number_in}
use Rattle.cs_frame.specs.Superblocks.{FitsRecord, FitsSuperblock, IsSuperblock, superblock_record, superblock_version}
use Rattle.law_machine.specs.Format.{Format, Four, Two}
use Rattle.law_machine.specs.Geometry.{twins_in}
use Rattle.cs_reader.specs.Openings.{SpellsFurther}
use Rattle.cs_mount.specs.Makings.{LeavesSome}
use Rattle.cs_mount.specs.Seals.{IsResealed, IsSealFor, IsSealOf, IsSealing, LeavesSealing, is_sealed, root_said, seal_calls, sealed_page}
use Rattle.cs_mount.proofs.Laying.{safe_of}
use Rattle.cs_mount.proofs.Lowering.{within}
use Rattle.cs_mount.proofs.Respelling.{page_sealed, record_read, version_read}

-- the format of this number is the one with twins
pub number_four : (format : Format) → number_in format ≡ of_number.Four → twins_in format ≡ true
number_four Two four = absurd (let clash : of_number.Two ≡ of_number.Four = four in cc clash)
number_four (Four store device) four = refl

pub root_fits : (format : Format) (root : ℕ) → twins_in format ≡ true → root < 2 ^ 63 → FitsRecord format root
root_fits Two root twins fits = absurd (let clash : false ≡ true = twins in cc clash)
root_fits (Four store device) root twins fits = omega (arith, fits)

-- the section one version later can be spelled
pub sealed_fits : (it : Superblock) (root : ℕ) → twins_in it.format ≡ true → it.version + 1 < 2 ^ 63 → root < 2 ^ 63
    → FitsSuperblock it.format it.version it.recorded it.extent_count it.pages it.sections it.section it.extents.items
    → IsSuperblock (record it { version = it.version + 1; recorded = root })
sealed_fits it root twins low small fits = record {
  first_version = omega arith;
  last_version = low;
  recorded_fits = root_fits it.format root twins small;
  geometry = fits.geometry;
  one_of_them = fits.one_of_them;
  count = fits.count;
  pointers = within it.pages it.extents.items fits.each;
}

-- what is made of section and root is what the image asks for
pub seal_found : (image : Image) (it : Superblock) (root : ℕ) (found : Option (List ℕ)) → number_in it.format ≡ of_number.Four → SpellsFurther (page image 0) it → root ≡ root_said image
    → IsSealFor it root found → IsSealOf image found
seal_found image it root None four spells same is =
    let twins = number_four it.format four in
    let record_is : superblock_record of_number.Four (page image 0) ≡ it.recorded = record_read (page image 0) it.format it.version it.recorded it.extent_count it.pages it.sections it.section it.extents.items twins spells in
    eq-eqb (superblock_record of_number.Four (page image 0)) (root_said image) (record_is ∙ is ∙ same)
seal_found image it root (Some bytes) four spells same is =
    let twins = number_four it.format four in
    let record_is : superblock_record of_number.Four (page image 0) ≡ it.recorded = record_read (page image 0) it.format it.version it.recorded it.extent_count it.pages it.sections it.section it.extents.items twins spells in
    let version_is : superblock_version (page image 0) ≡ it.version = version_read (page image 0) it.format it.version it.recorded it.extent_count it.pages it.sections it.section it.extents.items twins spells in
    let low : it.version + 1 < 2 ^ 63 = is.1 in (
      ne_eqb (superblock_record of_number.Four (page image 0)) (root_said image) (λ e. is.0 (sym record_is ∙ e ∙ sym same)),
      omega (arith, version_is, low),
      is.2 ∙ sym (page_sealed (page image 0) it.format it.version it.recorded it.extent_count it.pages it.sections it.section it.extents.items twins spells root)
          ∙ ap (λ (n : ℕ). sealed_page n (page image 0)) same,
    )

-- so it is of what a read gave, whatever the answer
pub seal_given : {E : Type 0} (result : Result (Option (List ℕ)) E) (image : Image) (it : Superblock) (root : ℕ) → number_in it.format ≡ of_number.Four → SpellsFurther (page image 0) it → root ≡ root_said image
    → IfOk result (IsSealFor it root) → IfOk result (IsSealOf image)
seal_given (Ok found) image it root four spells same is = seal_found image it root found four spells same is
seal_given (Err e) image it root four spells same is = tt

module _ {D : Type 0} (disks : PageDisk D) (old mid new : D) (honest : disks.honest old) (reads : OnlyReads disks old mid) where
  abbrev s : State
  s = disks.state old

  -- nothing was written
  pub reads_leave : (P : Image → Type 0) → ((c : Image) → MayLeave s c → P c) → ((c : Image) → disks.left_since old (disks.moment old) c → MayLeave s c) → LeavesOnly disks.moment disks.left_since old mid P
  reads_leave P here only =
      (stays disks.state disks.moment disks.left_since old old mid P (started disks.state disks.moment disks.left_since old P here only) (reads.time honest) (reads.same honest)).any_moment

  module _ (bytes : List ℕ) (is : IsSealOf (seen s) (Some bytes)) where
    sealing : (t : State) → t ≡ written (disks.state mid) 0 bytes → IsSealing s t
    sealing t written_is = record {
      not_yet = is.0;
      unworn = is.1;
      write = written_is ∙ ap (λ (z : State). written z 0 bytes) (reads.same honest) ∙ ap (written s 0) is.2;
    }

    pub sealed_now : disks.state new ≡ flushed (written (disks.state mid) 0 bytes) → IsResealed s (disks.state new)
    sealed_now flushed_is = inr (written (disks.state mid) 0 bytes, sealing (written (disks.state mid) 0 bytes) refl, flushed_is)

    pub sealed_or_not : (disks.state new ≡ disks.state mid) ⊎ (disks.state new ≡ written (disks.state mid) 0 bytes) → (disks.state new ≡ s) ⊎ IsSealing s (disks.state new)
    sealed_or_not (inl same) = inl (same ∙ reads.same honest)
    sealed_or_not (inr written_is) = inr (sealing (disks.state new) written_is)

    pub sealing_leaves : ((c : Image) → disks.left_since old (disks.moment old) c → MayLeave s c) → LeavesSome disks mid new ((0, bytes) ∷ []) → LeavesOnly disks.moment disks.left_since old new (LeavesSealing s)
    sealing_leaves only some =
        (narrows disks.state disks.moment disks.left_since old mid new (LeavesSealing s) (MayLeave (written (disks.state mid) 0 bytes))
        (stays disks.state disks.moment disks.left_since old old mid (LeavesSealing s) (started disks.state disks.moment disks.left_since old (LeavesSealing s) (λ c left. inl left) only) (reads.time honest) (reads.same honest))
        (λ c left. inr (written (disks.state mid) 0 bytes, sealing (written (disks.state mid) 0 bytes) refl, left)) (safe_of disks mid new ((0, bytes) ∷ []) some)).any_moment

    pub two_calls : disks.moment new ≡ disks.moment mid + 2 → disks.moment new ≡ disks.moment old + seal_calls (seen s)
    two_calls more =
        let calls : seal_calls (seen s) ≡ 2 = ap (λ (b : Bool). if b then 0 else 2) is.0 in
        let still = reads.still honest in
        omega (arith, calls, still, more)

  pub no_calls : is_sealed (seen s) ≡ true → disks.moment mid ≡ disks.moment old + seal_calls (seen s)
  no_calls is =
      let calls : seal_calls (seen s) ≡ 0 = ap (λ (b : Bool). if b then 0 else 2) is in
      let still = reads.still honest in
      omega (arith, calls, still)
