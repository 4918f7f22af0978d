-- Sections of a superblock: the extents that they record together, and a section's part of a store's extents.
use Rattle.std.proofs.Common.{◌≡◌, ◌∙◌, ℕ, zero, suc, ◌+◌, ◌-◌, ◌*◌, ◌/◌, ◌<◌, ◌≤◌, true, min, List, [], ◌∷◌, ◌++◌, length, take, drop, get_or, Some, slice_get, refl, sym, ap, subst, arith, length-append, mul-le-mul_right, if◌then◌else◌, nat_lt}
use Rattle.std.specs.List.{AllByRecursion}
use Rattle.std.proofs.lemmas.Bool.{lt-ltb}
use Rattle.std.proofs.lemmas.List.{get_or-drop, get_or-take, length-drop, length-take}
use Rattle.law_machine.specs.Format.{Format}
use Rattle.cs_frame.specs.declared.superblocks.Superblock.{Superblock}
use Rattle.cs_frame.specs.Geometries.{IsGeometry, lengths_below, section_length, section_size, section_start}
use Rattle.cs_frame.proofs.GeometryLaws.{lengths_sum, section_inside}
use Rattle.cs_extent.specs.Frames.{greatest}
use Rattle.cs_extent.specs.Sections.{AreSections, IsSectionAt, count_of, format_of, pages_of, rows_of}
use Rattle.cs_extent.specs.State.{IsWhole, State, section_rows, shape}

-- ---- what is read

pub geometry_is : (sections : List Superblock) → AreSections sections → IsGeometry (format_of sections) (count_of sections) (pages_of sections) (length sections)
geometry_is [] are = absurd (omega (arith, are.some))
geometry_is (it ∷ sections) are =
    let first = are.each 0 it refl in
    subst (λ (n : ℕ). IsGeometry it.format it.extent_count it.pages n) first.of_sections first.is.geometry

-- sections from section k on record as many extents as they have
rows_from : (format : Format) (extents pages count k : ℕ) (sections : List Superblock)
    → ((i : ℕ) (it : Superblock) → slice_get sections i ≡ Some it → IsSectionAt format extents pages count (k + i) it)
    → lengths_below extents count k + length (rows_of sections) ≡ lengths_below extents count (k + length sections)
rows_from format extents pages count k [] each =
    let same : k ≡ k + 0 = omega arith in
    let none : lengths_below extents count k + 0 ≡ lengths_below extents count k = omega arith in
    none ∙ ap (lengths_below extents count) same
rows_from format extents pages count k (it ∷ sections) each =
    let here : IsSectionAt format extents pages count (k + 0) it = each 0 it refl in
    let place : it.section ≡ k = omega (arith, here.place) in
    let long : length it.extents.items ≡ section_length extents count k =
    here.is.count ∙ ap (λ (n : ℕ). section_length n it.sections it.section) here.of_extents ∙ ap (λ (n : ℕ). section_length extents n it.section) here.of_sections ∙ ap (section_length extents count) place in
    let next = rows_from format extents pages count (suc k) sections (λ i at is.
    let same : k + suc i ≡ suc k + i = omega arith in subst (λ (n : ℕ). IsSectionAt format extents pages count n at) same (each (suc i) at is)) in
    let end : suc k + length sections ≡ k + suc (length sections) = omega arith in
    omega (arith, length-append it.extents.items (rows_of sections), long, next, ap (lengths_below extents count) end)

-- counted from the first on
at_zero : (sections : List Superblock) → AreSections sections → (i : ℕ) (it : Superblock) → slice_get sections i ≡ Some it
    → IsSectionAt (format_of sections) (count_of sections) (pages_of sections) (length sections) (0 + i) it
at_zero sections are i it is =
    let same : i ≡ 0 + i = omega arith in
    subst (λ (n : ℕ). IsSectionAt (format_of sections) (count_of sections) (pages_of sections) (length sections) n it) same (are.each i it is)

pub rows_are_all : (sections : List Superblock) → AreSections sections → length (rows_of sections) ≡ count_of sections
rows_are_all sections are =
    let extents : ℕ = count_of sections in
    let all : lengths_below extents (length sections) 0 + length (rows_of sections) ≡ lengths_below extents (length sections) (0 + length sections) = rows_from (format_of sections) extents (pages_of sections) (length sections) 0 sections (at_zero sections are) in
    let end : 0 + length sections ≡ length sections = omega arith in
    let sum : lengths_below extents (length sections) (length sections) ≡ extents = lengths_sum (format_of sections) extents (pages_of sections) (length sections) (geometry_is sections are) in
    let whole : 0 + length (rows_of sections) ≡ extents = all ∙ ap (lengths_below extents (length sections)) end ∙ sum in
    omega (arith, whole)

all_append : (P : ℕ × ℕ → Type 0) (xs ys : List (ℕ × ℕ)) → AllByRecursion P xs → AllByRecursion P ys → AllByRecursion P (xs ++ ys)
all_append P [] ys a b = b
all_append P (x ∷ xs) ys a b = (a.0, all_append P xs ys a.1 b)

rows_point : (format : Format) (extents pages count k : ℕ) (sections : List Superblock)
    → ((i : ℕ) (it : Superblock) → slice_get sections i ≡ Some it → IsSectionAt format extents pages count (k + i) it)
    → AllByRecursion (λ (x : ℕ × ℕ). x.0 ≤ pages) (rows_of sections)
rows_point format extents pages count k [] each = tt
rows_point format extents pages count k (it ∷ sections) each =
    let here = each 0 it refl in
    all_append (λ (x : ℕ × ℕ). x.0 ≤ pages) it.extents.items (rows_of sections)
    (subst (λ (n : ℕ). AllByRecursion (λ (x : ℕ × ℕ). x.0 ≤ n) it.extents.items) here.of_pages here.is.pointers)
    (rows_point format extents pages count (suc k) sections (λ i at is.
    let same : k + suc i ≡ suc k + i = omega arith in subst (λ (n : ℕ). IsSectionAt format extents pages count n at) same (each (suc i) at is)))

pub rows_are_within : (sections : List Superblock) → AreSections sections → AllByRecursion (λ (x : ℕ × ℕ). x.0 ≤ pages_of sections) (rows_of sections)
rows_are_within sections are = rows_point (format_of sections) (count_of sections) (pages_of sections) (length sections) 0 sections (at_zero sections are)

pub rows_geometry : (sections : List Superblock) → AreSections sections → IsGeometry (format_of sections) (length (rows_of sections)) (pages_of sections) (length sections)
rows_geometry sections are = subst (λ (n : ℕ). IsGeometry (format_of sections) n (pages_of sections) (length sections)) (sym (rows_are_all sections are)) (geometry_is sections are)

-- ---- a section's part

-- the section of an extent that there is
pub section_is : (s : State) (e : ℕ) → e < length s.written → e / section_size (length s.written) s.sections ≡ (shape s).section e
section_is s e lt =
    let test : nat_lt e (length s.written) ≡ true = lt-ltb e (length s.written) lt in
    ap (λ b. if b then e / section_size (length s.written) s.sections else 0) (sym test)

pub section_there : (s : State) → IsWhole s → (e : ℕ) → e < length s.written → (shape s).section e < s.sections
section_there s whole e lt = subst (λ (n : ℕ). n < s.sections) (section_is s e lt) (section_inside s.format (length s.written) s.pages s.sections whole.geometry e lt)

-- it lies among them
pub part_inside : (extents sections j : ℕ) → section_length extents sections j ≤ extents - section_start extents sections j
part_inside extents sections j = below (section_size extents sections) (extents - section_start extents sections j)
  where
    below : (a b : ℕ) → min a b ≤ b
    below a b = omega arith

pub end_inside : (format : Format) (extents pages sections j : ℕ) → IsGeometry format extents pages sections → j < sections
    → section_start extents sections j + section_length extents sections j ≤ extents
end_inside format extents pages sections j g lt =
    let low : j * section_size extents sections ≤ (sections - 1) * section_size extents sections = mul-le-mul_right (section_size extents sections) (omega (arith, lt)) in
    omega (arith, low, g.none_empty, part_inside extents sections j)

pub length_of_rows : (s : State) (j : ℕ) → length (section_rows s j) ≡ section_length (length s.written) s.sections j
length_of_rows s j =
    let start : ℕ = section_start (length s.written) s.sections j in
    let count : ℕ = section_length (length s.written) s.sections j in
    omega (arith, length-take count (drop start s.written), length-drop start s.written, part_inside (length s.written) s.sections j)

all_taken : (P : ℕ × ℕ → Type 0) (n : ℕ) (xs : List (ℕ × ℕ)) → AllByRecursion P xs → AllByRecursion P (take n xs)
all_taken P zero xs all = tt
all_taken P (suc n) [] all = tt
all_taken P (suc n) (x ∷ xs) all = (all.0, all_taken P n xs all.1)

all_dropped : (P : ℕ × ℕ → Type 0) (n : ℕ) (xs : List (ℕ × ℕ)) → AllByRecursion P xs → AllByRecursion P (drop n xs)
all_dropped P zero xs all = all
all_dropped P (suc n) [] all = tt
all_dropped P (suc n) (x ∷ xs) all = all_dropped P n xs all.1

pub all_in_part : (P : ℕ × ℕ → Type 0) (start count : ℕ) (xs : List (ℕ × ℕ)) → AllByRecursion P xs → AllByRecursion P (take count (drop start xs))
all_in_part P start count xs all = all_taken P count (drop start xs) (all_dropped P start xs all)

-- the greatest of a part of a list
greatest_same : (f g : ℕ → ℕ) (n : ℕ) → ((i : ℕ) → i < n → f i ≡ g i) → greatest f n ≡ greatest g n
greatest_same f g zero same = refl
greatest_same f g (suc n) same =
    let here : f n ≡ g n = same n (omega arith) in
    let rest : greatest f n ≡ greatest g n = greatest_same f g n (λ i lt. same i (omega (arith, lt))) in
    omega (arith, here, rest)

pub greatest_of_part : (xs : List ℕ) (start count : ℕ) → count ≤ length xs - start
    → greatest (λ i. get_or (take count (drop start xs)) i 0) (length (take count (drop start xs))) ≡ greatest (λ i. get_or xs (start + i) 0) count
greatest_of_part xs start count inside =
    let long : length (take count (drop start xs)) ≡ count = omega (arith, length-take count (drop start xs), length-drop start xs, inside) in
    ap (greatest (λ i. get_or (take count (drop start xs)) i 0)) long
    ∙ greatest_same (λ i. get_or (take count (drop start xs)) i 0) (λ i. get_or xs (start + i) 0) count (λ i lt. get_or-take count (drop start xs) i 0 lt ∙ get_or-drop start xs i 0)
