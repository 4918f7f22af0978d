-- A disk on which page 0 and the last page hold zeros, and what crashes leave of a making.
use Rattle.std.proofs.Common.{◌≡◌, ◌≢◌, ◌⊎◌, ◌-◌, ◌≤◌, inl, inr, ℕ, [], Option, None, Some, length, refl, ◌∙◌, ap, arith, true}
use Rattle.cs_refusal.specs.declared.refusals.Refusal.TheVariants as refusal
use Rattle.cs_disk.specs.Disk.{Image, MayLeave, State, page}
use Rattle.cs_frame.specs.declared.faults.FormatFault.{FormatFault}
use Rattle.cs_frame.specs.declared.faults.FormatFault.TheVariants.{BadMagic}
use Rattle.cs_frame.specs.declared.formats.FormatNumber.TheVariants as of_number
use Rattle.law_machine.specs.Geometry.{twins_in}
use Rattle.cs_frame.specs.FirstFormat.{page_zero_fault}
use Rattle.cs_frame.specs.Geometries.{Dimensions, IsGeometry}
use Rattle.cs_frame.specs.Superblocks.{superblock_fault}
use Rattle.cs_reader.specs.Openings.{IsWhyNotOpened}
use Rattle.cs_twin.proofs.Shown.{page-shown}
use Rattle.cs_mount.specs.Makings.{HasNewStore, IsBlankedFrom, IsCleared, IsTornLaying, LeavesLaying, half_laid, new_section}
use Rattle.cs_mount.specs.Showing.{shown_on}
use Rattle.cs_mount.specs.StorePairs.{dimensions_on, first_says, pages_of, pairs_where, store_version, zero_or_last}
use Rattle.cs_mount.proofs.Blank.{says_none, zero_fault}
use Rattle.cs_mount.proofs.Laid.{blanked, size_half, still_cleared, there_half, third_is, torn_from}
use Rattle.cs_mount.proofs.NewShown.{found_none}
use Rattle.cs_mount.proofs.Ones.{unsaid_none}
use Rattle.cs_mount.proofs.NewStore.{has_new}
use Rattle.cs_twin.specs.Pairs.{shown}

module _ (pages : ℕ) (image : Image) (cleared : IsCleared pages image) where
  fault : page_zero_fault (page image 0) ≡ Some BadMagic
  fault = ap page_zero_fault cleared.0 ∙ zero_fault

  pub cleared_none : dimensions_on pages image ≡ None
  cleared_none = unsaid_none pages image
      (ap (λ (o : Option FormatFault). zero_or_last pages o (page image 0) (first_says pages (page image (pages - 1)))) fault ∙ ap (first_says pages) cleared.1 ∙ says_none pages)

  pub cleared_why : 10 ≤ pages → length image ≡ pages → IsWhyNotOpened pages (page (shown_on pages image)) refusal.BadMagic
  cleared_why enough sized =
      let same : page (shown_on pages image) 0 ≡ page image 0 =
      ap (λ (o : Option Dimensions). page (shown (store_version o) (pairs_where o) image) 0) cleared_none ∙ page-shown (store_version None) [] image 0 (omega (arith, enough, sized)) in
      inr (inl (record { enough = enough; fault = (BadMagic, ap page_zero_fault same ∙ fault, refl) }))

module _ (d : Dimensions) (g : IsGeometry d.format d.extents d.pages d.sections) (twins : twins_in d.format ≡ true) (s : State) (sized : length s.durable ≡ pages_of d) (c : Image) where
  -- A crash that tears pages while section 0 is written leaves no store or the new one.
  pub torn_making : IsTornLaying d (half_laid d s).durable c → (dimensions_on (pages_of d) c ≡ None) ⊎ HasNewStore d c
  torn_making torn = by torn.first torn.last
    where
      new_one : (page c 0 ≡ new_section d 0) ⊎ (page c (pages_of d - 1) ≡ new_section d 0) → HasNewStore d c
      new_one one = has_new d g twins (half_laid d s).durable c (size_half d g twins s sized) (there_half d g twins s sized) torn one

      by : (page c 0 ≡ new_section d 0) ⊎ (page_zero_fault (page c 0) ≢ None) → (page c (pages_of d - 1) ≡ new_section d 0) ⊎ (superblock_fault of_number.Four (page c (pages_of d - 1)) ≢ None) → (dimensions_on (pages_of d) c ≡ None) ⊎ HasNewStore d c
      by (inl own) last = inr (new_one (inl own))
      by (inr damaged) (inl twin) = inr (new_one (inr twin))
      by (inr damaged) (inr broken) = inl (found_none d g twins (half_laid d s).durable c (size_half d g twins s sized) (there_half d g twins s sized) torn damaged broken)

  -- What a crash leaves of a making that tears nothing.
  pub crash_of_laying : LeavesLaying d s c → ((before : Image) × MayLeave s before × IsBlankedFrom (pages_of d) before c) ⊎ IsCleared (pages_of d) c ⊎ HasNewStore d c
  crash_of_laying (inl first) = inl (blanked (pages_of d) s c first)
  crash_of_laying (inr (inl second)) = inr (inl (still_cleared d g twins s sized c second))
  crash_of_laying (inr (inr third)) = by (third_is d g twins s sized c third)
    where
      by : IsCleared (pages_of d) c ⊎ (page c 0 ≡ new_section d 0) ⊎ (page c (pages_of d - 1) ≡ new_section d 0) → ((before : Image) × MayLeave s before × IsBlankedFrom (pages_of d) before c) ⊎ IsCleared (pages_of d) c ⊎ HasNewStore d c
      by (inl none) = inr (inl none)
      by (inr one) = inr (inr (has_new d g twins (half_laid d s).durable c (size_half d g twins s sized) (there_half d g twins s sized) (torn_from d g twins s sized c third) one))
