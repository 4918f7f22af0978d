-- The sections of a new store's superblock, one after another.
use Rattle.std.proofs.Common.{◌≡◌, ◌∙◌, ◌⊎◌, inl, inr, ⊎_elim, ℕ, zero, suc, ◌+◌, ◌^◌, ◌<◌, ◌≤◌, List, [], ◌∷◌, ◌++◌, None, Some, length, length-append, replicate, refl, sym, ap, subst, arith}
use Rattle.std.proofs.lemmas.List.{length-replicate}
use Rattle.std.proofs.lemmas.Option.{same_Some}
use Rattle.std.specs.List.{AllByRecursion}
use Rattle.std.specs.Prelude.{slice_get}
use Rattle.cs_extent.specs.Sections.{AreSections, IsSectionAt}
use Rattle.cs_frame.specs.declared.superblocks.Superblock.{Superblock}
use Rattle.cs_frame.specs.Geometries.{IsGeometry, section_length}
use Rattle.cs_frame.specs.Superblocks.{FitsRecord}
use Rattle.law_machine.specs.Format.{Format, Four, Two}

-- these are the first of them, so many
pub record AreFirst (format : Format) (extents pages sections count : ℕ) (items : List Superblock) : Type 0 where
  pub counted : length items ≡ count
  pub each : (k : ℕ) (it : Superblock) → slice_get items k ≡ Some it → IsSectionAt format extents pages sections k it

-- an empty extent
pub pair_is : (p : ℕ × ℕ) → (p.0 ≡ 0) × (p.1 ≡ 0) → p ≡ (0, 0)
pair_is (a, b) h = ap (λ (n : ℕ). (n, b)) h.0 ∙ ap (λ (n : ℕ). (0, n)) h.1

pub none_first : (format : Format) (extents pages sections : ℕ) → AreFirst format extents pages sections 0 []
none_first format extents pages sections = record { counted = refl; each = λ k it at. absurd (let clash : None ≡ Some it = at in cc clash) }

-- that no root was persistent can be spelled
none_fits : (format : Format) → FitsRecord format 0
none_fits Two = omega arith
none_fits (Four store device) = (let small : 0 < 2 ^ 64 = omega arith in small)

-- the last of a list, or one before it
last_or : (xs : List Superblock) (y : Superblock) (k : ℕ) (x : Superblock) → slice_get (xs ++ y ∷ []) k ≡ Some x → (slice_get xs k ≡ Some x) ⊎ ((k ≡ length xs) × (y ≡ x))
last_or [] y zero x at = inr (refl, same_Some y x at)
last_or [] y (suc k) x at = absurd (cc at)
last_or (z ∷ xs) y zero x at = inl at
last_or (z ∷ xs) y (suc k) x at = ⊎_elim
    (λ (l : slice_get xs k ≡ Some x). inl l)
    (λ (r : (k ≡ length xs) × (y ≡ x)). inr (ap suc r.0, r.1))
    (last_or xs y k x at)

module _ (format : Format) (extents pages sections : ℕ) (geometry : IsGeometry format extents pages sections) where
  -- one of them is the next
  pub is_section : (k : ℕ) → k < sections → (it : Superblock) → it.format ≡ format → it.version ≡ 1 → it.recorded ≡ 0 → it.extent_count ≡ extents → it.pages ≡ pages → it.sections ≡ sections → it.section ≡ k
      → it.extents.items ≡ replicate (section_length extents sections k) (0, 0) → IsSectionAt format extents pages sections k it
  is_section k lt it written version unrecorded counted same divided place rows = record {
    is = record {
      first_version = omega (arith, version);
      last_version = omega (arith, version);
      recorded_fits = subst (λ (n : ℕ). FitsRecord it.format n) (sym unrecorded) (none_fits it.format);
      geometry = subst (λ (n : Format). IsGeometry n it.extent_count it.pages it.sections) (sym written)
          (subst (λ (n : ℕ). IsGeometry format n it.pages it.sections) (sym counted)
          (subst (λ (n : ℕ). IsGeometry format extents n it.sections) (sym same) (subst (λ (n : ℕ). IsGeometry format extents pages n) (sym divided) geometry)));
      one_of_them = omega (arith, place, divided, lt);
      count = ap length rows ∙ length-replicate {A = ℕ × ℕ} (section_length extents sections k) (0, 0)
          ∙ ap (section_length extents sections) (sym place) ∙ ap (λ (n : ℕ). section_length extents n it.section) (sym divided) ∙ ap (λ (n : ℕ). section_length n it.sections it.section) (sym counted);
      pointers = subst (AllByRecursion (λ (extent : ℕ × ℕ). extent.0 ≤ it.pages)) (sym rows) (empty (section_length extents sections k));
    };
    of_format = written;
    of_extents = counted;
    of_pages = same;
    of_sections = divided;
    place = place;
  }
    where
      empty : (n : ℕ) → AllByRecursion (λ (extent : ℕ × ℕ). extent.0 ≤ it.pages) (replicate n (0, 0))
      empty zero = tt
      empty (suc n) = (omega arith, empty n)

  pub more_first : (count : ℕ) (items : List Superblock) (it : Superblock) → AreFirst format extents pages sections count items → IsSectionAt format extents pages sections count it
      → AreFirst format extents pages sections (count + 1) (items ++ it ∷ [])
  more_first count items it so_far is = record {
    counted = length-append items (it ∷ []) ∙ ap (λ (n : ℕ). n + 1) so_far.counted;
    each = λ k other at. ⊎_elim
        (λ (l : slice_get items k ≡ Some other). so_far.each k other l)
        (λ (here : (k ≡ length items) × (it ≡ other)). subst (λ (y : Superblock). IsSectionAt format extents pages sections k y) here.1
        (subst (λ (n : ℕ). IsSectionAt format extents pages sections n it) (sym (here.0 ∙ so_far.counted)) is))
        (last_or items it k other at);
  }

  -- all of them are a superblock
  pub all_first : (items : List Superblock) → AreFirst format extents pages sections sections items → AreSections items
  all_first [] all = absurd (omega (arith, all.counted, geometry.fewest_sections))
  all_first (first ∷ items) all = let here = all.each 0 first refl in record {
    some = omega arith;
    each = λ k it at.
        subst (λ (n : Format). IsSectionAt n first.extent_count first.pages (length (first ∷ items)) k it) (sym here.of_format)
        (subst (λ (n : ℕ). IsSectionAt format n first.pages (length (first ∷ items)) k it) (sym here.of_extents)
        (subst (λ (n : ℕ). IsSectionAt format extents n (length (first ∷ items)) k it) (sym here.of_pages)
        (subst (λ (n : ℕ). IsSectionAt format extents pages n k it) (sym all.counted) (all.each k it at))));
  }
