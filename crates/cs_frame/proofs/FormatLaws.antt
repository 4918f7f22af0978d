-- What the machine's model asks of its formats, of these.
use Rattle.std.proofs.Common.{le_of_eq, le_trans, ◌≡◌, inl, inr, ℕ, zero, suc, ◌+◌, ◌/◌, ◌≤◌, ◌<◌, ◌^◌, ◌==◌, ◌&&◌, true, false, Bool, List, [], ◌∷◌, length, take, map, None, refl, sym, subst, ap, ap₂, ◌∙◌, arith, slice_index, le_refl, le_trans, nat_le, nat_lt, if◌then◌else◌}
use Rattle.std.specs.Prelude.{option_map, reverse}
use Rattle.std.specs.List.{AllByRecursion, list_all}
use Rattle.std.proofs.lemmas.Bool.{and_parts, and_from, eqb-true, leb-true, ltb-true, le-leb, lt-ltb}
use Rattle.std.proofs.lemmas.Grind.{reverse_onto}
use Rattle.std.proofs.lemmas.List.Folds.{list_all-append}
use Rattle.std.proofs.lemmas.List.{length-map, length-reverse, reverse-reverse}
use Rattle.law_machine.specs.Device.{Page, Shape}
use Rattle.law_machine.specs.Element.{Entry as NamedEntry, Locator as Place}
use Rattle.law_machine.specs.Format.{Format, Four, Two}
use Rattle.law_machine.specs.Formats.{ChunkFrame, Formats, RunFrame, Stand, is_long_frame, pages_from}
use Rattle.law_machine.specs.Frames.{IsFormat, most_staged}
use Rattle.law_machine.specs.Geometry.{greatest_mark_in, head_bytes_in, marks_in, most_weight_in, shape_of}
use Rattle.law_machine.specs.Index.{InRange, IsRunList}
use Rattle.law_machine.specs.Lists.{◌∈◌}
use Rattle.cs_frame.specs.declared.formats.FormatNumber.{FormatNumber}
use Rattle.cs_frame.specs.FormatNumbers.{greatest_runs, number_in}
use Rattle.cs_frame.specs.FormatRuns.{spelled_run}
use Rattle.cs_frame.specs.Heads.{chunk_in}
use Rattle.cs_frame.specs.Formats.{as_entry, as_locator, extents_of, fits_entry, fits_locator, fits_root, fits_run, formats_of, is_first_format, kind_number, refusal_of}
use Rattle.cs_frame.specs.Frames.{SpellsFrame, first_page, frame_bytes, frame_fault, page_count, payload_length, spelled_frame}
use Rattle.cs_frame.specs.FirstFormat.{spelled_first_format}
use Rattle.cs_frame.specs.Geometries.{FitsFormat, IsGeometry, section_size}
use Rattle.cs_frame.specs.Locators.{FitsLocator, most_mark}
use Rattle.cs_frame.specs.Roots.{FitsRoot, identity_in, spelled_root}
use Rattle.cs_frame.specs.Superblocks.{spelled_superblock}
use Rattle.cs_frame.proofs.GeometryLaws.{Bounds, bounds}
use Rattle.cs_frame.proofs.FrameLaws.{frame_fault-spelled, kind_of_spelled, length_of_spelled, payload_is_read}
use Rattle.cs_frame.proofs.HeadLaws.{length-chunk, one_piece}
use Rattle.cs_frame.proofs.NamedRuns.{all_fit, it_rises, one_list, one_run_by, some_entry}
use Rattle.cs_frame.proofs.Pieces.{length-first_chunks}
use Rattle.cs_frame.proofs.RootLaws.{HasRoom, one_reading}
use Rattle.cs_frame.proofs.RunWeights.{length_weighs, weighs_some}
use Rattle.cs_frame.proofs.TellingLaws.{tells}

-- ---- superblocks

-- a section speaks of its own extents alone
one_section : (speaks p g q h : ℕ → ℕ) (section first count : ℕ)
    → ((e : ℕ) → speaks e ≡ section → (p e ≡ q e) × (g e ≡ h e))
    → extents_of speaks p g section first count ≡ extents_of speaks q h section first count
one_section speaks p g q h section first zero same = refl
one_section speaks p g q h section first (suc count) same =
    go (speaks first == section) refl (one_section speaks p g q h section (suc first) count same)
  where
    go : (b : Bool) → (speaks first == section) ≡ b
        → extents_of speaks p g section (suc first) count ≡ extents_of speaks q h section (suc first) count
        → (if b then (p first, g first) ∷ extents_of speaks p g section (suc first) count
        else extents_of speaks p g section (suc first) count)
        ≡ (if b then (q first, h first) ∷ extents_of speaks q h section (suc first) count
        else extents_of speaks q h section (suc first) count)
    go true is more =
        let here = same first (eqb-true _ _ is) in
        ap₂ (λ (x : ℕ × ℕ) (xs : List (ℕ × ℕ)). x ∷ xs) (ap₂ (λ (a b : ℕ). (a, b)) here.0 here.1) more
    go false is more = more

-- ---- frames

-- what stands at a place is the front of the pages from there on
front_of : (S : Shape) (F : Formats) (img : ℕ → Page) (e i n : ℕ) (bs : List Page) → length bs ≤ n
    → Stand S F img e i bs → take (length bs) (pages_from S F img e i n) ≡ bs
front_of S F img e i n [] fits stand = refl
front_of S F img e i zero (b ∷ bs) fits stand = absurd (omega arith)
front_of S F img e i (suc n) (b ∷ bs) fits stand =
    ap₂ (λ (x : Page) (xs : List Page). x ∷ xs) stand.0 (front_of S F img e (suc i) n bs (omega arith) stand.1)

length-spelled_frame : (form : FormatNumber) (kind : ℕ) (payload : List ℕ) → length (spelled_frame form kind payload) ≡ page_count (length payload)
length-spelled_frame form kind payload = length-first_chunks 4096 (page_count (length payload)) (frame_bytes form kind payload)

-- the pages from a place on are those of the frame that stands there
stands_there : (S : Shape) (F : Formats) (img : ℕ → Page) (form : FormatNumber) (e i n kind : ℕ) (payload : List ℕ) → n ≤ 65535
    → length (spelled_frame form kind payload) ≤ n → Stand S F img e i (spelled_frame form kind payload)
    → SpellsFrame form kind (pages_from S F img e i n) payload
stands_there S F img form e i n kind payload few fits stand =
    let count : length (spelled_frame form kind payload) ≡ page_count (length payload) = length-spelled_frame form kind payload in
    let pages : (41 + length payload + 4095) / 4096 ≤ 65535 = omega (arith, count, fits, few) in
    record {
      fits = omega (arith, pages);
      spelled = ap (λ (k : ℕ). take k (pages_from S F img e i n)) (sym count)
          ∙ front_of S F img e i n (spelled_frame form kind payload) fits stand;
    }

-- a frame that fits on an extent has a payload whose length can be spelled
short_payload : (form : FormatNumber) (kind n : ℕ) (payload : List ℕ) → n ≤ 65535 → length (spelled_frame form kind payload) ≤ n → length payload < 2 ^ 32
short_payload form kind n payload few fits =
    let count : length (spelled_frame form kind payload) ≡ page_count (length payload) = length-spelled_frame form kind payload in
    let pages : (41 + length payload + 4095) / 4096 ≤ 65535 = omega (arith, count, fits, few) in
    omega (arith, pages)

-- ---- roots

-- what the test of a root says, of locators with marks or without
record HasParts (marked : Bool) (most v n : ℕ) (ls : List Place) : Type 0 where
  first_version : 1 ≤ v
  last_version : v < 2 ^ 63
  last_command : n < 2 ^ 63
  count : length (map as_locator ls) ≤ most
  each : AllByRecursion (FitsLocator marked) (map as_locator ls)

parts_of : (marked : Bool) (most v n : ℕ) (ls : List Place)
    → nat_le 1 v && nat_lt v (2 ^ 63) && nat_lt n (2 ^ 63) && nat_le (length ls) most && list_all (fits_locator marked) ls ≡ true → HasParts marked most v n ls
parts_of marked most v n ls h =
    let a = and_parts _ (list_all (fits_locator marked) ls) h in
    let b = and_parts _ (nat_le (length ls) most) a.0 in
    let c = and_parts _ (nat_lt n (2 ^ 63)) b.0 in
    let d = and_parts (nat_le 1 v) (nat_lt v (2 ^ 63)) c.0 in
    let few : length ls ≤ most = leb-true _ _ b.1 in
    record {
      first_version = leb-true _ _ d.0;
      last_version = ltb-true _ _ d.1;
      last_command = ltb-true _ _ c.1;
      count = omega (arith, length-map ls as_locator, few);
      each = all_fit marked ls a.1;
    }

root_of : (format : Format) (v n : ℕ) (ls : List Place) → FitsFormat format → fits_root format v n ls ≡ true → HasRoom (identity_in format) v n (map as_locator ls)
root_of Two v n ls fits h =
    let it = parts_of false 4 v n ls h in
    record { identity = tt; first_version = it.first_version; last_version = it.last_version; last_command = it.last_command; count = it.count; each = it.each }
root_of (Four store device) v n ls fits h =
    let it = parts_of true 24 v n ls h in
    record { identity = fits.0; first_version = it.first_version; last_version = it.last_version; last_command = it.last_command; count = it.count; each = it.each }

one_page_one_list : (format : Format) (v w n k : ℕ) (xs ys : List Place) → FitsFormat format → fits_root format v n xs ≡ true → fits_root format w k ys ≡ true
    → spelled_root (identity_in format) v n (map as_locator xs) ≡ spelled_root (identity_in format) w k (map as_locator ys) → (n ≡ k) × (xs ≡ ys)
one_page_one_list format v w n k xs ys fits fx fy is =
    let id = identity_in format in
    let x = one_reading (spelled_root id w k (map as_locator ys)) id v n (map as_locator xs) (root_of format v n xs fits fx) (sym is) in
    let y = one_reading (spelled_root id w k (map as_locator ys)) id w k (map as_locator ys) (root_of format w k ys fits fy) refl in
    (sym x.of_commands ∙ y.of_commands, one_list xs ys (sym x.of_runs ∙ y.of_runs))

-- a page lists the runs in the other order
all_fit_reversed : (marked : Bool) (ls : List Place) → list_all (fits_locator marked) ls ≡ true → list_all (fits_locator marked) (reverse ls) ≡ true
all_fit_reversed marked [] h = refl
all_fit_reversed marked (l ∷ ls) h =
    let both = and_parts (fits_locator marked l) (list_all (fits_locator marked) ls) h in
    subst (λ (xs : List Place). list_all (fits_locator marked) xs ≡ true) (sym (reverse_onto ls l []))
    (list_all-append (fits_locator marked) (reverse ls) (l ∷ [])
    ∙ and_from (list_all (fits_locator marked) (reverse ls)) (fits_locator marked l && true) (all_fit_reversed marked ls both.1) (and_from (fits_locator marked l) true both.0 refl))

fits_reversed : (format : Format) (v n : ℕ) (ls : List Place) → fits_root format v n ls ≡ true → fits_root format v n (reverse ls) ≡ true
fits_reversed format v n ls h =
    let a = and_parts _ (list_all (fits_locator (marks_in format)) ls) h in
    let b = and_parts _ (nat_le (length ls) (greatest_runs (number_in format))) a.0 in
    and_from _ _ (and_from _ _ b.0 (subst (λ (k : ℕ). nat_le k (greatest_runs (number_in format)) ≡ true) (sym (length-reverse ls)) b.1)) (all_fit_reversed (marks_in format) ls a.1)

one_page_one_root : (format : Format) (v w n k : ℕ) (xs ys : List Place) → FitsFormat format → fits_root format v n xs ≡ true → fits_root format w k ys ≡ true
    → spelled_root (identity_in format) v n (map as_locator (reverse xs)) ≡ spelled_root (identity_in format) w k (map as_locator (reverse ys)) → (n ≡ k) × (xs ≡ ys)
one_page_one_root format v w n k xs ys fits fx fy is =
    let both = one_page_one_list format v w n k (reverse xs) (reverse ys) fits (fits_reversed format v n xs fx) (fits_reversed format w k ys fy) is in
    (both.0, sym (reverse-reverse xs) ∙ ap (λ (ls : List Place). reverse ls) both.1 ∙ reverse-reverse ys)

-- a root that can be spelled fits
all_fit_back : (marked : Bool) (ls : List Place) → AllByRecursion (FitsLocator marked) (map as_locator ls) → list_all (fits_locator marked) ls ≡ true
all_fit_back marked [] all = refl
all_fit_back marked (l ∷ ls) all =
    and_from (fits_locator marked l) (list_all (fits_locator marked) ls)
    (and_from _ _ (and_from _ _ (and_from _ _ (lt-ltb l.extent (2 ^ 16) all.0.extent) (lt-ltb l.page (2 ^ 16) all.0.page)) (lt-ltb l.generation (2 ^ 32) all.0.generation)) (le-leb l.mark (most_mark marked) all.0.mark))
    (all_fit_back marked ls all.1)

-- so it does by its parts
fits_by : (marked : Bool) (most v n : ℕ) (ls : List Place) → HasParts marked most v n (reverse ls)
    → nat_le 1 v && nat_lt v (2 ^ 63) && nat_lt n (2 ^ 63) && nat_le (length ls) most && list_all (fits_locator marked) ls ≡ true
fits_by marked most v n ls it =
    let few : length ls ≤ most = omega (arith, it.count, length-map (reverse ls) as_locator, length-reverse ls) in
    let each : list_all (fits_locator marked) ls ≡ true =
    subst (λ (xs : List Place). list_all (fits_locator marked) xs ≡ true) (reverse-reverse ls) (all_fit_reversed marked (reverse ls) (all_fit_back marked (reverse ls) it.each)) in
    and_from _ _
    (and_from _ _
    (and_from _ _ (and_from _ _ (le-leb 1 v it.first_version) (lt-ltb v (2 ^ 63) it.last_version)) (lt-ltb n (2 ^ 63) it.last_command))
    (le-leb (length ls) most few))
    each

pub root_fits_from : (format : Format) (v n : ℕ) (ls : List Place) → FitsRoot (identity_in format) v n (map as_locator (reverse ls)) → fits_root format v n ls ≡ true
root_fits_from Two v n ls fits = fits_by false 4 v n ls
    (record { first_version = fits.first_version; last_version = fits.last_version; last_command = fits.last_command; count = fits.count; each = fits.each })
root_fits_from (Four store device) v n ls fits = fits_by true 24 v n ls
    (record { first_version = fits.first_version; last_version = fits.last_version; last_command = fits.last_command; count = fits.count; each = fits.each })

-- what is there has numbers that fit
in_range : (marked : Bool) (extents pages g : ℕ) (l : Place) → extents ≤ 7680 → pages ≤ 65535 → g < 2 ^ 32 → l.extent < extents → l.page < pages
    → l.generation ≤ g → l.mark ≤ most_mark marked → fits_locator marked l ≡ true
in_range marked extents pages g l few short old a b c d =
    let extent : nat_lt l.extent (2 ^ 16) ≡ true = lt-ltb l.extent (2 ^ 16) (omega (arith, a, few)) in
    let page : nat_lt l.page (2 ^ 16) ≡ true = lt-ltb l.page (2 ^ 16) (omega (arith, b, short)) in
    let generation : nat_lt l.generation (2 ^ 32) ≡ true = lt-ltb l.generation (2 ^ 32) (omega (arith, c, old)) in
    and_from _ _ (and_from _ _ (and_from _ _ extent page) generation) (le-leb l.mark (most_mark marked) d)

all_of : {X : Type 0} (test : X → Bool) (xs : List X) → ((x : X) → x ∈ xs → test x ≡ true) → list_all test xs ≡ true
all_of test [] h = refl
all_of test (x ∷ xs) h =
    and_from (test x) (list_all test xs) (h x (inl refl)) (all_of test xs (λ y is. h y (inr is)))

-- ---- what a frame is long enough for

-- a frame is as long as its first page says
long_by_first : (F : Formats) (pages : List Page) → 1 ≤ length pages → is_long_frame F pages ≡ F.is_long (first_page pages)
long_by_first F [] some = absurd (omega arith)
long_by_first F (page ∷ pages) some = refl

first_says : (kind long least : ℕ) → (kind ≡ 0 → least ≤ long) → (if kind == 0 then nat_le least long else true) ≡ true
first_says kind long least enough = go (kind == 0) refl
  where
    go : (b : Bool) → (kind == 0) ≡ b → (if b then nat_le least long else true) ≡ true
    go true is = le-leb least long (enough (eqb-true kind 0 is))
    go false is = refl

-- ---- numbers of a format

pub same_greatest : (format : Format) → greatest_mark_in format ≡ most_mark (marks_in format)
same_greatest Two = refl
same_greatest (Four store device) = refl

-- there are few entries, however much they weigh
few_entries : (format : Format) (pages n : ℕ) → pages ≤ 65535 → n ≤ most_weight_in format pages → n < 2 ^ 32
few_entries Two pages n few low = omega (arith, low, few)
few_entries (Four store device) pages n few low = omega (arith, low, few)

-- no more runs are staged than a root may have
staged_few : (extents pages sections per_section : ℕ) (format : Format) → most_staged (shape_of extents pages sections per_section format) ≤ greatest_runs (number_in format)
staged_few extents pages sections per_section Two = le_refl 4
staged_few extents pages sections per_section (Four store device) = le_refl 24

-- ---- all of it

-- of dimensions that are in bounds
module _ (format : Format) (extents pages sections : ℕ) (is : IsGeometry format extents pages sections) where
  abbrev S : Shape
  S = shape_of extents pages sections (section_size extents sections) format

  abbrev F : Formats
  F = formats_of (shape_of extents pages sections (section_size extents sections) format)

  abbrev form : FormatNumber
  form = number_in format

  limits : Bounds extents pages sections
  limits = bounds format extents pages sections is

  few : pages ≤ 65535
  few = limits.most_pages

  fits : (l : Place) → InRange S l → fits_locator (marks_in format) l ≡ true
  fits l r = in_range (marks_in format) extents pages 4294967295 l limits.most_extents limits.most_pages (omega arith) r.0.0 r.0.1 r.1
      (le_trans r.2 (le_of_eq (same_greatest format)))

  root_fits : (v n : ℕ) (ls : List Place) → 1 ≤ v → v ≤ 9223372036854775807 → n ≤ 9223372036854775807
      → length ls ≤ most_staged S → ((l : Place) → l ∈ ls → InRange S l) → fits_root format v n ls ≡ true
  root_fits v n ls some high last count each = and_from _ _
      (and_from _ _
      (and_from _ _ (and_from _ _ (le-leb _ _ some) (lt-ltb _ _ (omega (arith, high)))) (lt-ltb _ _ (omega (arith, last))))
      (le-leb _ _ (le_trans count (staged_few extents pages sections (section_size extents sections) format))))
      (all_of (fits_locator (marks_in format)) ls (λ l there. fits l (each l there)))

  run_fits : (entries : List NamedEntry) → IsRunList S entries → fits_run (marks_in format) entries ≡ true
  run_fits entries list = and_from _ _
      (and_from _ _
      (and_from _ _ (le-leb _ _ (some_entry entries list.some)) (lt-ltb _ _ (few_entries format pages (length entries) few
      (le_trans (length_weighs S.weigh (weighs_some format) entries) list.weight_fits))))
      (all_of (fits_entry (marks_in format)) entries (λ x there. and_from _ _ (le-leb _ _ (list.locators x there).0)
      (all_of (fits_locator (marks_in format)) x.locators (λ l has. fits l ((list.locators x there).1 l has))))))
      (it_rises entries list.ascending)

  one_payload : (img : ℕ → Page) (e i kind : ℕ) (a b : List ℕ)
      → length (spelled_frame form kind a) ≤ pages → length (spelled_frame form kind b) ≤ pages
      → Stand S F img e i (spelled_frame form kind a) → Stand S F img e i (spelled_frame form kind b) → a ≡ b
  one_payload img e i kind a b fa fb sa sb =
      sym (payload_is_read form kind (pages_from S F img e i pages) a (stands_there S F img form e i pages kind a few fa sa))
      ∙ payload_is_read form kind (pages_from S F img e i pages) b (stands_there S F img form e i pages kind b few fb sb)

  no_fault : (img : ℕ → Page) (e i count kind : ℕ) (payload : List ℕ)
      → length (spelled_frame form kind payload) ≤ count → i + count ≤ pages → Stand S F img e i (spelled_frame form kind payload)
      → frame_fault form kind (pages_from S F img e i count) ≡ None
  no_fault img e i count kind payload long inside stand =
      frame_fault-spelled form kind (pages_from S F img e i count) payload
      (stands_there S F img form e i count kind payload (omega (arith, few, inside)) long stand)

  -- a frame that fits is long enough where a chunk's payload is
  long_frame : (kind : ℕ) (payload : List ℕ) → length (spelled_frame form kind payload) ≤ pages → (kind ≡ 0 → head_bytes_in format ≤ length payload)
      → is_long_frame F (spelled_frame form kind payload) ≡ true
  long_frame kind payload short enough =
      let low = short_payload form kind pages payload few short in
      let page : List ℕ = first_page (spelled_frame form kind payload) in
      long_by_first F (spelled_frame form kind payload) (omega (arith, length-spelled_frame form kind payload))
      ∙ first_says (slice_index page 4) (payload_length page) (head_bytes_in format)
      (λ zero. le_trans (enough (sym (kind_of_spelled form kind payload low) ∙ zero)) (le_of_eq (sym (length_of_spelled form kind payload low))))

  long_chunk : (id number count command : ℕ) (piece : List ℕ) → length (F.frame ChunkFrame (F.chunk id number count command piece)) ≤ pages
      → is_long_frame F (F.frame ChunkFrame (F.chunk id number count command piece)) ≡ true
  long_chunk id number count command piece short = long_frame 0 (chunk_in format id number count command piece) short
      (λ zero. (let size = length-chunk format id number count command piece is.fits_format in omega (arith, size)))

  long_run : (entries : List NamedEntry) → length (F.frame RunFrame (F.run entries)) ≤ pages → is_long_frame F (F.frame RunFrame (F.run entries)) ≡ true
  long_run entries short = long_frame 1 (spelled_run format (map as_entry entries)) short (λ zero. absurd (omega (arith, zero)))

  laws_hold : IsFormat S F
  laws_hold = record {
    section = λ k j v r p g q h same.
        ap (λ (es : List (ℕ × ℕ)). if is_first_format format k sections then spelled_first_format v pages es else spelled_superblock format v r extents pages sections j es) (one_section S.section p g q h j 0 extents same);
    some_page = λ kind payload. omega (arith, length-spelled_frame form (kind_number kind) payload);
    one_root = λ v w n k xs ys fx fy same. one_page_one_root format v w n k xs ys is.fits_format fx fy same;
    one_run = λ xs ys fx fy same. one_run_by format xs ys fx fy same;
    one_payload = λ img e i kind. one_payload img e i (kind_number kind);
    root_fits = root_fits;
    run_fits = run_fits;
    one_piece = λ id number count command piece. one_piece format id number count command piece is.fits_format;
    long_chunk = long_chunk;
    long_run = long_run;
    no_fault = λ img e i count kind payload long inside stand.
        ap (option_map refusal_of) (no_fault img e i count (kind_number kind) payload long inside stand);
    tells = λ on k j n v w a b p g q h small also same e lt at.
        tells S is.fits_format (omega (arith, few)) (omega arith) n p g q h small also k j v w a b same e lt at;
  }

-- so has a store's own shape
pub is_format : (format : Format) (extents pages sections : ℕ) → IsGeometry format extents pages sections
    → let S = shape_of extents pages sections (section_size extents sections) format in IsFormat S (formats_of S)
is_format format extents pages sections is = laws_hold format extents pages sections is
