-- Devices whose two ends aren't of different stores.
use Rattle.std.proofs.Common.{◌≡◌, ◌≢◌, ◌⊎◌, inl, inr, ◌-◌, ℕ, Bool, true, false, List, Option, Some, None, bytes_eq, if◌then◌else◌, refl, sym, ◌∙◌, ap}
use Rattle.cs_disk.specs.Disk.{Image, page}
use Rattle.cs_frame.specs.declared.faults.FormatFault.{FormatFault}
use Rattle.cs_frame.specs.declared.formats.FormatNumber.TheVariants as of_number
use Rattle.cs_frame.specs.FirstFormat.{page_zero_fault}
use Rattle.cs_frame.specs.Geometries.{Dimensions}
use Rattle.cs_frame.specs.Superblocks.{superblock_fault}
use Rattle.cs_frame.proofs.FirstFormatLaws as zeros
use Rattle.cs_frame.proofs.TestLaws.{equal_bytes, same_bytes}
use Rattle.cs_mount.specs.Identities.{AreOfTwo, IsOfOne, both_said, identity_by, identity_said, stores_on}
use Rattle.cs_mount.specs.StorePairs.{dimensions_on, said_on, unless_two}

-- what is found there is what is said
pub one_found : (n : ℕ) (image : Image) → IsOfOne n image → dimensions_on n image ≡ said_on n image
one_found n image one = ap (λ (o : Option (List ℕ × List ℕ)). unless_two o (said_on n image)) one

pub found_one : (n : ℕ) (image : Image) (d : Dimensions) → dimensions_on n image ≡ Some d → IsOfOne n image × (said_on n image ≡ Some d)
found_one n image d found = by (stores_on n image) refl
  where
    by : (o : Option (List ℕ × List ℕ)) → stores_on n image ≡ o → IsOfOne n image × (said_on n image ≡ Some d)
    by None is = (is, sym (one_found n image is) ∙ found)
    by (Some both) is = absurd (let none : None ≡ Some d = sym (ap (λ (o : Option (List ℕ × List ℕ)). unless_two o (said_on n image)) is) ∙ found in cc none)

-- and nothing where they are of two
pub two_none : (n : ℕ) (image : Image) → AreOfTwo n image → dimensions_on n image ≡ None
two_none n image two = by (stores_on n image) refl
  where
    by : (o : Option (List ℕ × List ℕ)) → stores_on n image ≡ o → dimensions_on n image ≡ None
    by None is = absurd (two is)
    by (Some both) is = ap (λ (o : Option (List ℕ × List ℕ)). unless_two o (said_on n image)) is

-- nothing is said, so nothing is found
pub unsaid_none : (n : ℕ) (image : Image) → said_on n image ≡ None → dimensions_on n image ≡ None
unsaid_none n image none = by (stores_on n image)
  where
    by : (o : Option (List ℕ × List ℕ)) → unless_two o (said_on n image) ≡ None
    by None = none
    by (Some both) = refl

-- bytes with a fault say no identity
pub faulty_unsaid : (bytes : List ℕ) → superblock_fault of_number.Four bytes ≢ None → identity_said bytes ≡ None
faulty_unsaid bytes damaged = by (superblock_fault of_number.Four bytes) refl
  where
    by : (o : Option FormatFault) → superblock_fault of_number.Four bytes ≡ o → identity_said bytes ≡ None
    by None is = absurd (damaged is)
    by (Some fault) is = ap (λ (o : Option FormatFault). identity_by o bytes) is

pub damaged_unsaid : (bytes : List ℕ) → page_zero_fault bytes ≢ None → identity_said bytes ≡ None
damaged_unsaid bytes damaged = faulty_unsaid bytes (λ whole. damaged (zeros.zero_of_section of_number.Four bytes whole))

-- two ends of which each says this identity, or none
alike : (o : Option (List ℕ)) → both_said o o ≡ None
alike None = refl
alike (Some id) = ap (λ (b : Bool). if b then None else Some (id, id)) (equal_bytes id id refl)

none_last : (o : Option (List ℕ)) → both_said o None ≡ None
none_last None = refl
none_last (Some id) = refl

pub both_one : (n : ℕ) (image : Image) (o : Option (List ℕ)) → (identity_said (page image 0) ≡ None) ⊎ (identity_said (page image 0) ≡ o) → (identity_said (page image (n - 1)) ≡ None) ⊎ (identity_said (page image (n - 1)) ≡ o) → IsOfOne n image
both_one n image o (inl none) last = ap (λ (a : Option (List ℕ)). both_said a (identity_said (page image (n - 1)))) none
both_one n image o (inr its) (inl none) = ap (both_said (identity_said (page image 0))) none ∙ none_last (identity_said (page image 0))
both_one n image o (inr its) (inr also) = ap (λ (a : Option (List ℕ)). both_said a (identity_said (page image (n - 1)))) its ∙ ap (both_said o) also ∙ alike o

-- page 0 is whole in no format
pub damaged_one : (n : ℕ) (image : Image) → page_zero_fault (page image 0) ≢ None → IsOfOne n image
damaged_one n image damaged = ap (λ (a : Option (List ℕ)). both_said a (identity_said (page image (n - 1)))) (damaged_unsaid (page image 0) damaged)

-- where one end says an identity, the other says the same or none
pub last_alike : (first last : Option (List ℕ)) (id : List ℕ) → both_said first last ≡ None → first ≡ Some id → (last ≡ None) ⊎ (last ≡ Some id)
last_alike None last id one is = absurd (cc is)
last_alike (Some a) None id one is = inl refl
last_alike (Some a) (Some b) id one is = by (bytes_eq a b) refl one
  where
    by : (t : Bool) → bytes_eq a b ≡ t → ◌≡◌ {A = Option (List ℕ × List ℕ)} (if t then None else Some (a, b)) None → (Some b ≡ None) ⊎ (Some b ≡ Some id)
    by true test one = inr (ap (λ (l : List ℕ). Some l) (sym (same_bytes a b test)) ∙ is)
    by false test one = absurd (cc one)
