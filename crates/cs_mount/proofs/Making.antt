-- What is written of a new store is taken by a device that is free, and 1 is then an answer of the device.
use Rattle.std.proofs.Common.{◌≡◌, ◌≢◌, ⊎_elim, if◌then◌else◌, ◌==◌, ◌&&◌, ◌^◌, ℕ, ◌+◌, ◌-◌, ◌*◌, ◌<◌, ◌≤◌, Bool, true, false, not, min, List, [], Option, Some, slice_get, slice_index, refl, sym, ◌∙◌, ap, subst, arith}
use Rattle.std.proofs.lemmas.Bool.{cases_eq, ne_eqb}
use Rattle.std.proofs.lemmas.Bool.Decides.{nat_tests}
use Rattle.cs_refusal.specs.Refusals.{number_of}
use Rattle.cs_refusal.specs.declared.refusals.Refusal.{Refusal}
use Rattle.cs_refusal.specs.declared.refusals.Refusal.TheVariants.{DeviceFault}
use Rattle.cs_disk.specs.declared.fault.DiskFault.{DiskFault}
use Rattle.cs_disk.specs.declared.fault.DiskFault.TheVariants as disk
use Rattle.cs_disk.specs.Disk.{Image, Rises}
use Rattle.cs_disk.specs.Faults.{disk_fault_number}
use Rattle.cs_frame.specs.FormatNumbers.{number_in, section_digit}
use Rattle.cs_frame.specs.Geometries.{Dimensions, IsGeometry}
use Rattle.law_machine.specs.Format.{Format, Four, Two}
use Rattle.law_machine.specs.Geometry.{twins_in}
use Rattle.cs_frame.specs.Superblocks.{SpellsSuperblock}
use Rattle.cs_frame.proofs.SuperblockLaws as superblocks
use Rattle.cs_twin.specs.declared.pairs.Pair.{Pair}
use Rattle.cs_twin.specs.Kept.{TakesWrite}
use Rattle.cs_twin.specs.Tears.{IsUnpaired}
use Rattle.cs_mount.specs.OfStores.{is_allowed}
use Rattle.cs_mount.specs.StorePairs.{pages_of, store_pair, store_pairs, store_version}
use Rattle.cs_mount.proofs.Twins.{made_at, total_pages, unlisted}
use Rattle.cs_mount.proofs.Unpaired.{listed_pairs, pair_there}

-- the page of a section
abbrev section_page : Dimensions → ℕ → ℕ
section_page d j = if j == 0 then 0 else 1 + d.extents * d.pages + j

nothing : {A : Type 0} (k : ℕ) (x : A) → slice_get {X = A} [] k ≡ Some x → ⊥
nothing k x at = cc

not_and : (b : Bool) → not (b && false) ≡ true
not_and true = refl
not_and false = refl

page_below : (F S j : ℕ) → j < S → (if j == 0 then 0 else 1 + F + j) ≤ F + S
page_below F S j lt = grind (arith, nat_tests)

page_other : (F j : ℕ) → (j ≡ 0 → ⊥) → (if j == 0 then 0 else 1 + F + j) ≢ 0
page_other F j some = grind (arith, nat_tests)

digit_two : (format : Format) → twins_in format ≡ false → section_digit (number_in format) ≡ 50
digit_two Two two = refl
digit_two (Four store device) two = cc two

module _ (d : Dimensions) (g : IsGeometry d.format d.extents d.pages d.sections) where
  -- no twin is a page that shows
  not_twin : (p : ℕ) → p ≤ d.extents * d.pages + d.sections → (k : ℕ) (x : Pair) → slice_get (store_pairs d) k ≡ Some x → p ≢ x.twin
  not_twin p le k x at same = by_format (twins_in d.format) refl
    where
      by_format : (b : Bool) → twins_in d.format ≡ b → ⊥
      by_format false two =
          let none : store_pairs d ≡ [] = sym (unlisted d [] two refl) in
          nothing k x (ap (λ (l : List Pair). slice_get l k) (sym none) ∙ at)
      by_format true twins =
          let made = made_at (store_pair d) 0 (1 + d.sections) k x (ap (λ (l : List Pair). slice_get l k) (sym (listed_pairs d g twins)) ∙ at) in
          let twin : pages_of d - (1 + (0 + k)) ≡ x.twin = ap (λ (y : Pair). y.twin) made.1 in
          let total = total_pages d g twins in
          omega (arith, le, made.0, twin, total, same)

  -- on a page of no pair a new section may be written
  section_may : (j : ℕ) (bytes : List ℕ) (rows : List (ℕ × ℕ)) → SpellsSuperblock bytes d.format 1 0 d.extents d.pages d.sections j rows → IsUnpaired (store_pairs d) (section_page d j)
      → is_allowed (section_page d j) bytes ≡ true
  section_may j bytes rows spelled alone = ⊎_elim
      (λ (first : j ≡ 0). by_format first (twins_in d.format) refl)
      (λ (some : j ≡ 0 → ⊥). ap (λ (b : Bool). not (b && slice_index bytes 3 == 52)) (ne_eqb (section_page d j) 0 (page_other (d.extents * d.pages) j some)))
      (cases_eq j 0)
    where
      by_format : j ≡ 0 → (b : Bool) → twins_in d.format ≡ b → is_allowed (section_page d j) bytes ≡ true
      by_format first false two =
          let digit = (superblocks.one_section bytes d.format 1 0 d.extents d.pages d.sections j rows spelled).of_digit ∙ digit_two d.format two in
          ap (λ (b : Bool). not (section_page d j == 0 && b)) (ne_eqb (slice_index bytes 3) 52 (λ e. omega (arith, e, digit))) ∙ not_and (section_page d j == 0)
      by_format first true twins =
          absurd (alone 0 (store_pair d 0) false (pair_there d g twins 0 (omega arith)) (ap (section_page d) first))

  module _ (image : Image) (two : twins_in d.format ≡ false) where
    -- in format 2 there are no pairs
    none_there : (k : ℕ) (x : Pair) → slice_get (store_pairs d) k ≡ Some x → ⊥
    none_there k x at =
        let none : store_pairs d ≡ [] = sym (unlisted d [] two refl) in
        nothing k x (ap (λ (l : List Pair). slice_get l k) (sym none) ∙ at)

    pub takes_section : (j : ℕ) (bytes : List ℕ) (rows : List (ℕ × ℕ)) → j < d.sections → SpellsSuperblock bytes d.format 1 0 d.extents d.pages d.sections j rows
        → TakesWrite (store_version (Some d)) is_allowed (store_pairs d) image (section_page d j) bytes
    takes_section j bytes rows lt spelled = record {
      shown = not_twin (section_page d j) (page_below (d.extents * d.pages) d.sections j lt);
      newer = λ k x at here. absurd (none_there k x at);
      fenced = λ k x at here. absurd (none_there k x at);
      may = section_may j bytes rows spelled;
    }

    pub takes_root : (bytes : List ℕ) → TakesWrite (store_version (Some d)) is_allowed (store_pairs d) image 1 bytes
    takes_root bytes = record {
      shown = not_twin 1 (let some = g.fewest_sections in omega (arith, some));
      newer = λ k x at here. absurd (none_there k x at);
      fenced = λ k x at here. absurd (none_there k x at);
      may = λ alone. refl;
    }

-- what the disk in pairs takes, by its rules, its pairs and the disk below
pub takes_behind : (d : Dimensions) (geometry : Option Dimensions) (pairs : List Pair) (image now : Image) (p : ℕ) (bytes : List ℕ) → geometry ≡ Some d → pairs ≡ store_pairs d → now ≡ image
    → TakesWrite (store_version (Some d)) is_allowed (store_pairs d) image p bytes → TakesWrite (store_version geometry) is_allowed pairs now p bytes
takes_behind d geometry pairs image now p bytes its are same takes =
    subst (λ (o : Option Dimensions). TakesWrite (store_version o) is_allowed pairs now p bytes) (sym its)
    (subst (λ (l : List Pair). TakesWrite (store_version (Some d)) is_allowed l now p bytes) (sym are)
    (subst (λ (i : Image). TakesWrite (store_version (Some d)) is_allowed (store_pairs d) i p bytes) (sym same) takes))

-- Where a disk refused nothing itself, a failure that it counted is one of the disk below: of a count that is at its
-- end, too.
pub caused_below : (before start now refused later : ℕ) → before ≤ start → refused ≡ 0 → later ≡ refused → Rises (min (start + refused) (2 ^ 64 - 1)) (min (now + later) (2 ^ 64 - 1)) → Rises before now
caused_below before start now refused later le none same rises = omega (arith, le, none, same, rises)

-- a refusal that is 1 is of a fault of the device
pub device_fault : (fault : DiskFault) (r : Refusal) → number_of r ≡ disk_fault_number fault → r ≡ DeviceFault → fault ≡ disk.DeviceFault
device_fault disk.DeviceFault r number is = refl
device_fault disk.OutOfMemory r number is = absurd (let no : 1 ≡ 9 = sym (ap number_of is) ∙ number in cc no)
