-- Parts by the pages of the device, and images of which some pages hold nothing.
use Rattle.std.proofs.Common.{◌≡◌, ◌≢◌, ◌∙◌, ◌⊎◌, ℕ, zero, suc, ◌+◌, ◌-◌, ◌*◌, ◌^◌, ◌<◌, ◌≤◌, None, Some, Result, Ok, Err, List, [], ◌∷◌, ◌++◌, length, length-append, get_or, set, take, drop, refl, sym, ap, subst, inl, inr, ⊎_elim, arith}
use Rattle.std.specs.Simd.{first_chunks}
use Rattle.std.proofs.lemmas.Bool.{cases_eq, cases_lt}
use Rattle.std.proofs.lemmas.List.{get_or_past, length-drop, length-replicate, length-set, length-take-le}
use Rattle.std.proofs.lemmas.Nat.{mul-add-lt}
use Rattle.std.proofs.Math.Nat.{mul_comm}
use Rattle.sha2.specs.Sha256.{sha256}
use Rattle.sha2.proofs.Facts256.{length-sha256}
use Rattle.cs_chunk.proofs.Newest.{of_stand, one_place, stand_of}
use Rattle.cs_disk.specs.Disk.{Image, page}
use Rattle.cs_disk.proofs.Images.{page_other, page_same}
use Rattle.cs_frame.specs.Bytes.{zeros}
use Rattle.cs_frame.specs.declared.formats.FormatNumber.{FormatNumber}
use Rattle.cs_frame.specs.FormatNumbers.{number_in}
use Rattle.cs_frame.specs.declared.faults.FormatFault.{FormatFault}
use Rattle.cs_frame.specs.Faults.{fault_in}
use Rattle.cs_frame.specs.Frames.{SpellsFrame, first_page, frame_bytes, frame_fields, header_fault, page_count, spelled_frame}
use Rattle.cs_frame.proofs.FrameLaws.{frame_fault-spelled, header_first}
use Rattle.cs_frame.specs.Geometries.{Dimensions}
use Rattle.cs_frame.proofs.Pieces.{length-first_chunks}
use Rattle.law_machine.specs.Formats.{pages_from}
use Rattle.cs_salvage.specs.Parts.{IsChunkAt, IsPart, LiesBefore, formats_in, shape_in}
use Rattle.cs_salvage.specs.Passed.{Avoids, first_page_of, from_on, without}
use Rattle.cs_salvage.specs.Looks.{look_end}
use Rattle.cs_salvage.specs.declared.parts.Part.{Part}
use Rattle.cs_salvage.specs.declared.searches.Sought.{Sought}
use Rattle.cs_salvage.proofs.Standing.{at_from, front_of, length-from}

-- ---- places

-- what lies on an earlier page of the device lies on an earlier extent, or earlier on the same
pub lexically : (P a i b j : ℕ) → i < P → j < P → 2 + (a * P + i) < 2 + (b * P + j) → LiesBefore a i b j
lexically P a i b j li lj less = ⊎_elim
    (λ (l : a < b). inl l)
    (λ (le : b ≤ a). ⊎_elim
    (λ (more : b < a). absurd (omega (arith, mul-add-lt b P j a more lj, mul_comm P a, less)))
    (λ (ge : a ≤ b).
    let same : a ≡ b = omega (arith, le, ge) in
    let rows : a * P ≡ b * P = ap (λ (x : ℕ). x * P) same in
    inr (same, omega (arith, less, rows)))
    (cases_lt b a))
    (cases_lt a b)

-- ---- a frame's pages hold something

length_fields : (form : FormatNumber) (kind : ℕ) (payload : List ℕ) → length (frame_fields form kind payload) ≡ 41 + length payload
length_fields form kind payload =
    let nine : length (frame_fields form kind payload) ≡ suc (suc (suc (suc (suc (suc (suc (suc (suc (length (sha256 payload ++ payload)))))))))) = refl in
    omega (arith, nine, length-append (sha256 payload) payload, length-sha256 payload)

length_bytes : (form : FormatNumber) (kind : ℕ) (payload : List ℕ) → length (frame_bytes form kind payload) ≡ 4096 * page_count (length payload)
length_bytes form kind payload =
    let left : ℕ = 4096 * page_count (length payload) - (41 + length payload) in
    omega (arith, length-append (frame_fields form kind payload) (zeros left), length_fields form kind payload, length-replicate {A = ℕ} left 0)

length_piece : (k : ℕ) (bytes : List ℕ) (j : ℕ) → 4096 * k ≤ length bytes → j < k → length (get_or (first_chunks 4096 k bytes) j []) ≡ 4096
length_piece zero bytes j long lt = absurd (omega (arith, lt))
length_piece (suc k) bytes zero long lt = length-take-le 4096 bytes (omega (arith, long))
length_piece (suc k) bytes (suc j) long lt = length_piece k (drop 4096 bytes) j (omega (arith, long, length-drop 4096 bytes)) (omega (arith, lt))

pub length_page : (form : FormatNumber) (kind : ℕ) (payload : List ℕ) (j : ℕ) → j < page_count (length payload) → length (get_or (spelled_frame form kind payload) j []) ≡ 4096
length_page form kind payload j lt = length_piece (page_count (length payload)) (frame_bytes form kind payload) j (omega (arith, length_bytes form kind payload)) lt

-- a chunk's frame lies on the image
pub chunk_on_image : (g : Dimensions) (image : Image) (e i : ℕ) (payload : List ℕ) → IsChunkAt g image e i payload → 2 + (e * g.pages + i) + page_count (length payload) ≤ length image
chunk_on_image g image e i payload it =
    let n : ℕ = page_count (length payload) in
    let frame : List (List ℕ) = spelled_frame (number_in g.format) 0 payload in
    let size : length frame ≡ n = length-first_chunks 4096 (page_count (length payload)) (frame_bytes (number_in g.format) 0 payload) in
    let some : 1 ≤ n = omega arith in
    let last : ℕ = 2 + (e * g.pages + (i + (n - 1))) in
    ⊎_elim
    (λ (l : last < length image). omega (arith, l, some))
    (λ (le : length image ≤ last).
    let long = length_page (number_in g.format) 0 payload (n - 1) (omega (arith, some)) in
    let at = of_stand (shape_in g) (formats_in g) (page image) e i frame it.stands (n - 1) (omega (arith, some, size)) in
    let empty = ap length (sym at ∙ get_or_past image last [] le) in
    absurd (omega (arith, long, empty)))
    (cases_lt last (length image))

-- no chunk's frame stands there whose header is refused, where it has room
pub refused_there : {H : Type 0} (g : Dimensions) (image : Image) (e i there number : ℕ) (first : List ℕ) (result : Result H FormatFault) → number ≡ 2 + (e * g.pages + i) → first ≡ page image number → 0 < there
    → fault_in result ≡ header_fault (number_in g.format) 0 first there → ((h : H) → result ≡ Ok h → ⊥) → (payload : List ℕ) → length payload < 2 ^ 32 → page_count (length payload) ≤ there → IsChunkAt g image e i payload → ⊥
refused_there g image e i there number first (Ok h) at read some fault not payload short room it = not h refl
refused_there g image e i there number first (Err f) at read some fault not payload short room it =
    let pages : List (List ℕ) = pages_from (shape_in g) (formats_in g) (page image) e i there in
    let many : length pages ≡ there = length-from (shape_in g) (formats_in g) (page image) e i there in
    let size : length (spelled_frame (number_in g.format) 0 payload) ≡ page_count (length payload) = length-first_chunks 4096 (page_count (length payload)) (frame_bytes (number_in g.format) 0 payload) in
    let here : 2 + (e * g.pages + (i + 0)) ≡ number = omega (arith, at) in
    let begun : first_page pages ≡ first = at_from (shape_in g) (formats_in g) (page image) e i there 0 some ∙ ap (page image) here ∙ sym read in
    let spells : SpellsFrame (number_in g.format) 0 pages payload = record {
      fits = short;
      spelled = ap (λ (k : ℕ). take k pages) (sym size) ∙ front_of (shape_in g) (formats_in g) (page image) e i there (spelled_frame (number_in g.format) 0 payload) (omega (arith, size, room)) it.stands;
    } in
    let none = frame_fault-spelled (number_in g.format) 0 pages payload spells in
    let some_fault = header_first (number_in g.format) 0 pages f (ap (λ (b : List ℕ). header_fault (number_in g.format) 0 b (length pages)) begun ∙ ap (λ (n : ℕ). header_fault (number_in g.format) 0 first n) many ∙ sym fault) in
    let clash : None ≡ Some f = sym none ∙ some_fault in
    cc clash

-- ---- parts by their pages

module _ (sought : Sought) (image : Image) (part : Part) (payload : List ℕ) (is : IsPart sought image part payload) where
  abbrev g : Dimensions
  g = sought.geometry

  abbrev frame : List (List ℕ)
  frame = spelled_frame (number_in g.format) 0 payload

  size : length frame ≡ page_count (length payload)
  size = length-first_chunks 4096 (page_count (length payload)) (frame_bytes (number_in g.format) 0 payload)

  pub some_page : 1 ≤ part.pages
  some_page = omega (arith, is.pages)

  pub inside : part.page + part.pages ≤ g.pages
  inside = omega (arith, is.pages, is.chunk.ends)

  -- a page of it, as the image has it
  at_page : (j : ℕ) → j < part.pages → page image (first_page_of g part + j) ≡ get_or frame j []
  at_page j lt =
      let same : first_page_of g part + j ≡ 2 + (part.extent * g.pages + (part.page + j)) = omega arith in
      ap (page image) same ∙ of_stand (shape_in g) (formats_in g) (page image) part.extent part.page frame is.chunk.stands j (omega (arith, lt, size, is.pages))

  -- holds something
  pub holds : (j : ℕ) → j < part.pages → page image (first_page_of g part + j) ≢ []
  holds j lt none =
      let long = length_page (number_in g.format) 0 payload j (omega (arith, lt, is.pages)) in
      let empty = ap length (sym (at_page j lt) ∙ none) in
      omega (arith, long, empty)

  -- it lies on the image, and on the extents
  pub on_image : first_page_of g part + part.pages ≤ length image
  on_image = ⊎_elim
      (λ (l : first_page_of g part + (part.pages - 1) < length image). omega (arith, l, some_page))
      (λ (le : length image ≤ first_page_of g part + (part.pages - 1)). absurd (holds (part.pages - 1) (omega (arith, some_page)) (get_or_past image (first_page_of g part + (part.pages - 1)) [] le)))
      (cases_lt (first_page_of g part + (part.pages - 1)) (length image))

  pub on_extents : first_page_of g part + part.pages ≤ 2 + g.extents * g.pages
  on_extents =
      let last = mul-add-lt part.extent g.pages (part.page + part.pages - 1) g.extents is.chunk.there (omega (arith, inside, some_page)) in
      omega (arith, last, mul_comm g.pages g.extents, some_page)

  pub before_end : first_page_of g part < look_end g (length image)
  before_end = omega (arith, on_image, on_extents, some_page)

  -- what has its pages has the part
  pub moved : (other : Image) → ((j : ℕ) → j < part.pages → page other (first_page_of g part + j) ≡ page image (first_page_of g part + j)) → IsPart sought other part payload
  moved other same = record {
    heads = is.heads;
    chunk = record {
      there = is.chunk.there;
      ends = is.chunk.ends;
      stands = stand_of (shape_in g) (formats_in g) (page other) part.extent part.page frame (λ j lt.
          let here : 2 + (part.extent * g.pages + (part.page + j)) ≡ first_page_of g part + j = omega arith in
          let inner : j < part.pages = omega (arith, lt, size, is.pages) in
          ap (page other) here ∙ same j inner ∙ at_page j inner);
    };
    pages = is.pages;
    head = is.head;
    store = is.store;
    spellable = is.spellable;
    numbered = is.numbered;
    digest = is.digest;
  }

-- a part's place is that of its first page
pub same_place : (P a i b j : ℕ) → i < P → j < P → 2 + (a * P + i) ≡ 2 + (b * P + j) → (a ≡ b) × (i ≡ j)
same_place P a i b j li lj same = one_place 0 P a i b j li lj same

-- ---- images of which pages hold nothing

-- a page that isn't passed over is as it was
kept_page : (passed : List ℕ) (image : Image) (p : ℕ) → ((k : ℕ) → k < length passed → get_or passed k p ≢ p) → page (without passed image) p ≡ page image p
kept_page [] image p other = refl
kept_page (q ∷ passed) image p other =
    kept_page passed (set image q []) p (λ k lt same. other (suc k) (omega (arith, lt)) same)
    ∙ page_other image q p [] (λ same. other 0 (omega arith) (sym same))

-- one that holds nothing stays so
empty_stays : (passed : List ℕ) (image : Image) (p : ℕ) → page image p ≡ [] → page (without passed image) p ≡ []
empty_stays [] image p none = none
empty_stays (q ∷ passed) image p none = empty_stays passed (set image q []) p (⊎_elim
    (λ (same : q ≡ p). subst (λ (x : ℕ). page (set image q []) x ≡ []) same (emptied image q))
    (λ (other : q ≢ p). page_other image q p [] (λ e. other (sym e)) ∙ none)
    (cases_eq q p))
  where
    emptied : (image : Image) (q : ℕ) → page (set image q []) q ≡ []
    emptied image q = ⊎_elim
        (λ (l : q < length image). page_same image q [] l)
        (λ (le : length image ≤ q). get_or_past (set image q []) q [] (omega (arith, le, length-set image q [])))
        (cases_lt q (length image))

-- one that is passed over holds nothing
passed_page : (passed : List ℕ) (image : Image) (p k : ℕ) → k < length passed → get_or passed k p ≡ p → page (without passed image) p ≡ []
passed_page [] image p k lt is = absurd (omega (arith, lt))
passed_page (q ∷ passed) image p zero lt is = empty_stays passed (set image q []) p (subst (λ (x : ℕ). page (set image q []) x ≡ []) is (⊎_elim
    (λ (l : q < length image). page_same image q [] l)
    (λ (le : length image ≤ q). get_or_past (set image q []) q [] (omega (arith, le, length-set image q [])))
    (cases_lt q (length image))))
passed_page (q ∷ passed) image p (suc k) lt is = passed_page passed (set image q []) p k (omega (arith, lt)) is

-- pages before the first hold nothing, the others are as they were
from_page : (first : ℕ) (image : Image) (p : ℕ) → first ≤ p → page (from_on first image) p ≡ page image p
from_page zero image p le = refl
from_page (suc n) [] p le = refl
from_page (suc n) (x ∷ image) zero le = absurd (omega (arith, le))
from_page (suc n) (x ∷ image) (suc p) le = from_page n image p (omega (arith, le))

before_page : (first : ℕ) (image : Image) (p : ℕ) → p < first → page (from_on first image) p ≡ []
before_page zero image p lt = absurd (omega (arith, lt))
before_page (suc n) [] p lt = refl
before_page (suc n) (x ∷ image) zero lt = refl
before_page (suc n) (x ∷ image) (suc p) lt = before_page n image p (omega (arith, lt))

module _ (sought : Sought) (image : Image) (first : ℕ) (passed : List ℕ) (part : Part) (payload : List ℕ) where
  abbrev left : Image
  left = without passed (from_on first image)

  abbrev begin : ℕ
  begin = first_page_of sought.geometry part

  -- of what is left each part is one of all
  pub lies_there : IsPart sought left part payload → IsPart sought image part payload × (first ≤ begin) × Avoids sought.geometry passed part
  lies_there is = (moved sought left part payload is image same, (let one = from 0 (some_page sought left part payload is) in omega (arith, one)), avoids)
    where
      from : (j : ℕ) → j < part.pages → first ≤ begin + j
      from j lt = ⊎_elim
          (λ (l : begin + j < first). absurd (holds sought left part payload is j lt (empty_stays passed (from_on first image) (begin + j) (before_page first image (begin + j) l))))
          (λ (le : first ≤ begin + j). le)
          (cases_lt (begin + j) first)

      apart : (j : ℕ) → j < part.pages → (k : ℕ) → k < length passed → get_or passed k (begin + j) ≢ begin + j
      apart j lt k inside same = holds sought left part payload is j lt (passed_page passed (from_on first image) (begin + j) k inside same)

      same : (j : ℕ) → j < part.pages → page image (begin + j) ≡ page left (begin + j)
      same j lt = sym (kept_page passed (from_on first image) (begin + j) (apart j lt) ∙ from_page first image (begin + j) (from j lt))

      avoids : Avoids sought.geometry passed part
      avoids p there = ⊎_elim
          (λ (l : p < begin). inl l)
          (λ (le : begin ≤ p). ⊎_elim
          (λ (inner : p < begin + part.pages).
          let at : begin + (p - begin) ≡ p = omega (arith, le) in
          absurd (apart (p - begin) (omega (arith, inner, le)) there.0 there.1 (subst (λ (x : ℕ). get_or passed there.0 x ≡ x) (sym at) there.2)))
          (λ (behind : begin + part.pages ≤ p). inr behind)
          (cases_lt p (begin + part.pages)))
          (cases_lt p begin)

  -- and each of all that has none of those pages
  pub found_there : IsPart sought image part payload → first ≤ begin → Avoids sought.geometry passed part → IsPart sought left part payload
  found_there is le avoids = moved sought image part payload is left (λ j lt.
      kept_page passed (from_on first image) (begin + j) (λ k inside same. away j lt (avoids (begin + j) (k, inside, same)))
      ∙ from_page first image (begin + j) (omega (arith, le)))
    where
      away : (j : ℕ) → j < part.pages → (begin + j < begin) ⊎ (begin + part.pages ≤ begin + j) → ⊥
      away j lt (inl less) = omega (arith, less)
      away j lt (inr more) = omega (arith, more, lt)
