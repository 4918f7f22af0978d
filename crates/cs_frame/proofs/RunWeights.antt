-- What the entries of a run weigh, and the bytes and pages that it takes.
use Rattle.std.proofs.Common.{◌≡◌, ◌↔◌, inl, inr, ℕ, ◌+◌, ◌*◌, ◌≤◌, List, [], ◌∷◌, length, map, refl, ap, ◌∙◌, arith}
use Rattle.std.specs.List.{AllByRecursion}
use Rattle.std.proofs.lemmas.List.{length-map}
use Rattle.cs_frame.specs.Formats.{as_entry, as_locator, formats_of}
use Rattle.cs_frame.specs.FormatRuns.{run_size}
use Rattle.cs_frame.specs.Frames.{page_count}
use Rattle.cs_frame.specs.Geometries.{FitsFormat, run_bytes, weight_bytes}
use Rattle.cs_frame.specs.PackedRuns.{packed_sizes}
use Rattle.cs_frame.proofs.RunSizes.{HasSizes, length-spelled_run}
use Rattle.law_machine.specs.Element.{Entry as NamedEntry}
use Rattle.law_machine.specs.Format.{Format, Four, Two}
use Rattle.law_machine.specs.Geometry.{most_weight_in, shape_of, weigh_in}
use Rattle.law_machine.specs.Index.{run_weight}
use Rattle.law_machine.specs.Lists.{◌∈◌}

-- an entry weighs something, so there are no more than they weigh
pub weighs_some : (format : Format) (c : ℕ) → 1 ≤ weigh_in format c
weighs_some Two c = omega arith
weighs_some (Four store device) c = omega arith

pub length_weighs : (weigh : ℕ → ℕ) → ((c : ℕ) → 1 ≤ weigh c) → (xs : List NamedEntry) → length xs ≤ run_weight weigh xs
length_weighs weigh some [] = omega arith
length_weighs weigh some (x ∷ xs) = omega (arith, some (length x.locators), length_weighs weigh some xs)

-- where an entry weighs its bytes
packed_weigh : (weigh : ℕ → ℕ) → ((c : ℕ) → weigh c ≡ 17 + 16 * c) → (xs : List NamedEntry)
    → packed_sizes (map as_entry xs) ≡ run_weight weigh xs
packed_weigh weigh bytes [] = refl
packed_weigh weigh bytes (x ∷ xs) =
    omega (arith, bytes (length x.locators), length-map x.locators as_locator, packed_weigh weigh bytes xs)

-- where it weighs one
ones_weigh : (weigh : ℕ → ℕ) → ((c : ℕ) → weigh c ≡ 1) → (xs : List NamedEntry) → length (map as_entry xs) ≡ run_weight weigh xs
ones_weigh weigh ones [] = refl
ones_weigh weigh ones (x ∷ xs) = omega (arith, ones (length x.locators), ones_weigh weigh ones xs)

have_sizes : (xs : List NamedEntry) → ((x : NamedEntry) → x ∈ xs → length x.locators ≤ 8) → AllByRecursion HasSizes (map as_entry xs)
have_sizes [] few = tt
have_sizes (x ∷ xs) few = (
  record { id = refl; few = omega (arith, few x (inl refl), length-map x.locators as_locator) },
  have_sizes xs (λ y there. few y (inr there)),
)

-- a run takes what its entries weigh
pub size_weighs : (format : Format) (xs : List NamedEntry)
    → run_size format (map as_entry xs) ≡ weight_bytes format (run_weight (weigh_in format) xs)
size_weighs Two xs = ap run_bytes (ones_weigh (weigh_in Two) (λ c. refl) xs)
size_weighs (Four store device) xs = ap (λ (n : ℕ). 12 + n) (packed_weigh (weigh_in (Four store device)) (λ c. refl) xs)

pub payload_weighs : (E P N Q : ℕ) (format : Format) (xs : List NamedEntry) → FitsFormat format → ((x : NamedEntry) → x ∈ xs → length x.locators ≤ 8)
    → length ((formats_of (shape_of E P N Q format)).run xs) ≡ weight_bytes format (run_weight (weigh_in format) xs)
payload_weighs E P N Q format xs fits few = length-spelled_run format (map as_entry xs) fits (have_sizes xs few) ∙ size_weighs format xs

-- and fits on so many pages exactly where they weigh no more than may be
pub fits_where : (format : Format) (pages weight : ℕ) → 1 ≤ pages
    → (page_count (weight_bytes format weight) ≤ pages) ↔ (weight ≤ most_weight_in format pages)
fits_where Two pages weight some = ((λ fits. omega (arith, fits, some)), (λ light. omega (arith, light, some)))
fits_where (Four store device) pages weight some = ((λ fits. omega (arith, fits, some)), (λ light. omega (arith, light, some)))
