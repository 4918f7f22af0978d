-- Scans that pass over pages: what was found before a page, and a page more.
use Rattle.std.proofs.Common.{◌≡◌, ◌∙◌, ◌⊎◌, ℕ, ◌+◌, ◌-◌, ◌*◌, ◌<◌, ◌≤◌, List, [], ◌∷◌, ◌++◌, All, length, get_or, take, true, sym, ap, ap₂, subst, inl, inr, ⊎_elim, arith}
use Rattle.std.specs.List.{Contains}
use Rattle.std.proofs.lemmas.Bool.{cases_lt}
use Rattle.std.proofs.lemmas.List.{ext_get_or, get_or-take, length-take-le, take-take}
use Rattle.std.proofs.lemmas.List.Elements.{All-contains, All-push, Contains-append_left, Contains-get_or, Contains-push, Contains-push_cases}
use Rattle.std.proofs.lemmas.List.Quantifiers.{all_pairs_push}
use Rattle.cs_disk.specs.Disk.{Image, page}
use Rattle.cs_frame.specs.declared.formats.FormatNumber.{FormatNumber}
use Rattle.cs_frame.specs.declared.formats.FormatNumber.TheVariants.{Four}
use Rattle.cs_frame.specs.FormatNumbers.{number_in}
use Rattle.cs_frame.specs.Frames.{SpellsFrame, page_count}
use Rattle.cs_frame.specs.Geometries.{Dimensions, IsGeometry}
use Rattle.law_machine.specs.Geometry.{heads_in}
use Rattle.cs_salvage.specs.declared.parts.Part.{Part}
use Rattle.cs_salvage.specs.declared.searches.Sought.{Sought}
use Rattle.cs_salvage.specs.Frames.{AreReadAs, IsPartIn, pages_at}
use Rattle.cs_salvage.specs.Looks.{AreEnded, AreFoundBefore, AreWithin}
use Rattle.cs_salvage.specs.Parts.{IsBefore, IsChunkAt, IsPart, IsSought, formats_in, shape_in}
use Rattle.cs_salvage.specs.Passed.{Avoids, first_page_of}
use Rattle.cs_salvage.proofs.Pages.{inside, lexically, same_place, some_page}
use Rattle.cs_salvage.proofs.Sames.{same_part}
use Rattle.cs_salvage.proofs.Searching.{any, of_any, of_store}
use Rattle.cs_salvage.proofs.Standing.{at_from, chunk_there, enough, is_four, length-all, spelled_there}

-- a part in these pages has as many at most
pub fits_pages : (pages : List (List ℕ)) (part : Part) (payload : List ℕ) → IsPartIn pages part payload → part.pages ≤ length pages
fits_pages pages part payload is = omega (arith, is.counted, enough Four 0 pages payload is.spelled)

-- where a part begins
pub begins : (g : Dimensions) (part : Part) (e i : ℕ) → part.extent ≡ e → part.page ≡ i → first_page_of g part ≡ 2 + (e * g.pages + i)
begins g part e i extent page = ap₂ (λ (a b : ℕ). 2 + (a * g.pages + b)) extent page

-- ---- what was found before a page

module _ (sought : Sought) (image : Image) (first : ℕ) (passed : List ℕ) (e i : ℕ) (inner : i < sought.geometry.pages) (parts : List Part) where
  abbrev number : ℕ
  number = 2 + (e * sought.geometry.pages + i)

  module _ (are : AreFoundBefore sought image first number passed parts) where
    -- a part before the next page begins before this one, or here
    which : (part : Part) (payload : List ℕ) → IsPart sought image part payload → first_page_of sought.geometry part < number + 1
        → (first_page_of sought.geometry part < number) ⊎ ((part.extent ≡ e) × (part.page ≡ i))
    which part payload is before = ⊎_elim
        (λ (l : first_page_of sought.geometry part < number). inl l)
        (λ (le : number ≤ first_page_of sought.geometry part).
        inr (same_place sought.geometry.pages part.extent part.page e i (omega (arith, inside sought image part payload is, some_page sought image part payload is)) inner (omega (arith, le, before))))
        (cases_lt (first_page_of sought.geometry part) number)

    pub none_more_found : ((part : Part) (payload : List ℕ) → part.extent ≡ e → part.page ≡ i → IsPart sought image part payload → Avoids sought.geometry passed part → ⊥)
        → AreFoundBefore sought image first (number + 1) passed parts
    none_more_found none = record {
      sound = λ part there. let was = are.sound part there in (was.0, omega (arith, was.1), was.2);
      complete = λ part payload is from before avoids. ⊎_elim
          (λ (old : first_page_of sought.geometry part < number). are.complete part payload is from old avoids)
          (λ (here : (part.extent ≡ e) × (part.page ≡ i)). absurd (none part payload here.0 here.1 is avoids))
          (which part payload is before);
      ordered = are.ordered;
    }

    pub one_more_found : IsGeometry sought.geometry.format sought.geometry.extents sought.geometry.pages sought.geometry.sections → first ≤ number → (new : Part) (bytes : List ℕ) → IsPart sought image new bytes
        → new.extent ≡ e → new.page ≡ i → AreFoundBefore sought image first (number + 1) passed (parts ++ new ∷ [])
    one_more_found known from new bytes is extent page =
        let here : first_page_of sought.geometry new ≡ number = begins sought.geometry new e i extent page in
        record {
          sound = λ part there. ⊎_elim
              (λ (old : Contains parts part). let was = are.sound part old in (was.0, omega (arith, was.1), was.2))
              (λ (same : new ≡ part). subst (λ (p : Part). (first ≤ first_page_of sought.geometry p) × (first_page_of sought.geometry p < number + 1) × ((payload : List ℕ) × IsPart sought image p payload)) same
              (omega (arith, from, here), omega (arith, here), (bytes, is)))
              (Contains-push_cases parts new part there);
          complete = λ part payload it begun before avoids. ⊎_elim
              (λ (old : first_page_of sought.geometry part < number). Contains-append_left parts (new ∷ []) part (are.complete part payload it begun old avoids))
              (λ (place : (part.extent ≡ e) × (part.page ≡ i)).
              subst (Contains (parts ++ new ∷ [])) (same_part sought image known new part (extent ∙ sym place.0) (page ∙ sym place.1) bytes payload is it) (Contains-push parts new))
              (which part payload it before);
          ordered = all_pairs_push IsBefore parts new are.ordered (λ k d lt.
              let was = are.sound (get_or parts k d) (Contains-get_or parts k d lt) in
              let it = was.2.1 in
              lexically sought.geometry.pages (get_or parts k d).extent (get_or parts k d).page new.extent new.page
              (omega (arith, inside sought image (get_or parts k d) was.2.0 it, some_page sought image (get_or parts k d) was.2.0 it))
              (omega (arith, inside sought image new bytes is, some_page sought image new bytes is))
              (omega (arith, was.1, here)));
        }

-- ---- the pages from a place on, as many as were read

module _ (sought : Sought) (image : Image) (known : IsGeometry sought.geometry.format sought.geometry.extents sought.geometry.pages sought.geometry.sections) (e i : ℕ) (pages : List (List ℕ))
    (heads : heads_in sought.geometry.format ≡ true) (there : e < sought.geometry.extents) (some : 0 < length pages) (fits : i + length pages ≤ sought.geometry.pages)
    (read : AreReadAs image (2 + (e * sought.geometry.pages + i)) (length pages) pages) where
  abbrev all : List (List ℕ)
  all = pages_at sought.geometry image e i

  inner : i < sought.geometry.pages
  inner = omega (arith, some, fits)

  long : length pages ≤ length all
  long = omega (arith, fits, length-all sought.geometry image known e i)

  front : pages ≡ take (length pages) all
  front = ext_get_or [] pages (take (length pages) all) (sym (length-take-le (length pages) all long)) (λ k lt.
      let next : 2 + (e * sought.geometry.pages + i) + k ≡ 2 + (e * sought.geometry.pages + (i + k)) = omega arith in
      read.each k lt ∙ ap (page image) next
      ∙ sym (get_or-take (length pages) all k [] lt ∙ at_from (shape_in sought.geometry) (formats_in sought.geometry) (page image) e i (sought.geometry.pages - i) k (omega (arith, lt, fits))))

  taken : (n : ℕ) → n ≤ length pages → take n pages ≡ take n all
  taken n le = ap (take n) front ∙ take-take n (length pages) all le

  four : number_in sought.geometry.format ≡ Four
  four = is_four sought.geometry.format heads

  -- a part in them is a part there, of whatever store
  pub part_read : (part : Part) (payload : List ℕ) → part.extent ≡ e → part.page ≡ i → IsPartIn pages part payload → IsPart (any sought image) image part payload
  part_read part payload extent page is =
      let spelled : SpellsFrame (number_in sought.geometry.format) 0 all payload = subst (λ (n : FormatNumber). SpellsFrame n 0 all payload) (sym four)
      (record { fits = is.spelled.fits; spelled = sym (taken (page_count (length payload)) (enough Four 0 pages payload is.spelled)) ∙ is.spelled.spelled }) in
      record {
        heads = heads;
        chunk = subst (λ (n : ℕ). IsChunkAt sought.geometry image n part.page payload) (sym extent)
            (subst (λ (n : ℕ). IsChunkAt sought.geometry image e n payload) (sym page) (chunk_there sought.geometry image known e i payload there inner spelled));
        pages = is.counted;
        head = is.head;
        store = tt;
        spellable = is.spellable;
        numbered = is.numbered;
        digest = is.digest;
      }

  -- and a part there that has no more pages is one in them
  pub in_read : (part : Part) (payload : List ℕ) → part.extent ≡ e → part.page ≡ i → IsPart sought image part payload → part.pages ≤ length pages → IsPartIn pages part payload
  in_read part payload extent page is few =
      let chunk = subst (λ (n : ℕ). IsChunkAt sought.geometry image n i payload) extent
      (subst (λ (n : ℕ). IsChunkAt sought.geometry image part.extent n payload) page is.chunk) in
      let spelled : SpellsFrame Four 0 all payload = subst (λ (n : FormatNumber). SpellsFrame n 0 all payload) four (spelled_there sought.geometry image known e i payload chunk) in
      record {
        spelled = record { fits = spelled.fits; spelled = taken (page_count (length payload)) (omega (arith, few, is.pages)) ∙ spelled.spelled };
        counted = is.pages;
        head = is.head;
        spellable = is.spellable;
        numbered = is.numbered;
        digest = is.digest;
      }

  module _ (first : ℕ) (passed : List ℕ) (from : first ≤ 2 + (e * sought.geometry.pages + i))
      (within : AreWithin sought image (2 + (e * sought.geometry.pages + i)) (2 + (e * sought.geometry.pages + i) + 1) (2 + (e * sought.geometry.pages + i) + length pages) passed)
      (parts : List Part) (are : AreFoundBefore sought image first (2 + (e * sought.geometry.pages + i)) passed parts) where
    -- what begins here ends on them
    short : (part : Part) (payload : List ℕ) → part.extent ≡ e → part.page ≡ i → IsPart sought image part payload → Avoids sought.geometry passed part → part.pages ≤ length pages
    short part payload extent page is avoids =
        let here = begins sought.geometry part e i extent page in
        let ends = within part payload is (omega (arith, here)) (omega (arith, here)) avoids in
        omega (arith, ends, here)

    pub none_in_pages : ((part : Part) (payload : List ℕ) → IsPartIn pages part payload → ⊥) → AreFoundBefore sought image first (2 + (e * sought.geometry.pages + i) + 1) passed parts
    none_in_pages none = none_more_found sought image first passed e i inner parts are
        (λ part payload extent page is avoids. none part payload (in_read part payload extent page is (short part payload extent page is avoids)))

    module _ (found : Part) (bytes : List ℕ) (it : IsPartIn pages found bytes) (extent : found.extent ≡ e) (page : found.page ≡ i) where
      pub unsought_in_pages : (IsSought sought found.store → ⊥) → AreFoundBefore sought image first (2 + (e * sought.geometry.pages + i) + 1) passed parts
      unsought_in_pages away = none_more_found sought image first passed e i inner parts are (λ part payload on at is avoids.
          let one : found ≡ part = same_part (any sought image) image known found part (extent ∙ sym on) (page ∙ sym at) bytes payload (part_read found bytes extent page it) (of_any sought image part payload is) in
          away (subst (λ (p : Part). IsSought sought p.store) (sym one) is.store))

      pub one_in_pages : IsSought sought found.store → AreFoundBefore sought image first (2 + (e * sought.geometry.pages + i) + 1) passed (parts ++ found ∷ [])
      one_in_pages sought_for = one_more_found sought image first passed e i inner parts are known from found bytes
          (of_store sought image found bytes (part_read found bytes extent page it) sought_for) extent page

-- ---- whatever the disk answers

pub one_ended : (g : Dimensions) (end : ℕ) (parts : List Part) (new : Part) → first_page_of g new + new.pages ≤ end → AreEnded g end parts → AreEnded g end (parts ++ new ∷ [])
one_ended g end parts new le all = All-push (λ (part : Part). first_page_of g part + part.pages ≤ end) parts new all le

pub one_avoids : (g : Dimensions) (passed : List ℕ) (e i : ℕ) (parts : List Part) (new : Part) → new.extent ≡ e → new.page ≡ i → All (λ (p : ℕ). p < 2 + (e * g.pages + i)) passed
    → All (Avoids g passed) parts → All (Avoids g passed) (parts ++ new ∷ [])
one_avoids g passed e i parts new extent page below all = All-push (Avoids g passed) parts new all (λ p there.
    let less = All-contains (λ (q : ℕ). q < 2 + (e * g.pages + i)) passed p below there in
    inl (omega (arith, less, begins g new e i extent page)))
