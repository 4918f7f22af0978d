-- Frames on the device, and the pages that are read of them.
use Rattle.std.proofs.Common.{◌≡◌, ◌∙◌, ℕ, zero, suc, ◌+◌, ◌-◌, ◌*◌, ◌<◌, ◌≤◌, ◌^◌, List, [], ◌∷◌, ◌++◌, Option, Some, None, MatchOption, IfSome, true, length, length-append, take, drop, get_or, refl, sym, ap, ap₂, subst, arith}
use Rattle.std.proofs.lemmas.List.{ext_get_or, get_or-take, length-take, length-take-le, take-append-drop, take-take}
use Rattle.sha2.specs.Sha256.{sha256}
use Rattle.sha2.proofs.Facts256.{length-sha256}
use Rattle.cs_disk.specs.Disk.{Image, page}
use Rattle.cs_frame.specs.declared.heads.ChunkHead.{ChunkHead}
use Rattle.cs_frame.specs.Bytes.{field}
use Rattle.cs_frame.specs.declared.formats.FormatNumber.{FormatNumber}
use Rattle.cs_frame.specs.declared.formats.FormatNumber.TheVariants.{Four}
use Rattle.cs_frame.specs.FormatNumbers.{number_in}
use Rattle.cs_frame.specs.Frames.{SpellsFrame, first_page, frame_bytes, frame_count, page_count, payload_length, spelled_frame}
use Rattle.cs_frame.specs.Geometries.{Dimensions, IsGeometry}
use Rattle.cs_frame.specs.Heads.{spelled_head}
use Rattle.cs_frame.specs.Identifiers.{id_number}
use Rattle.cs_frame.proofs.Fields.{field_at}
use Rattle.cs_frame.proofs.FormatLaws.{is_format}
use Rattle.cs_frame.proofs.FrameLaws.{at_digest_of, first_front, length_of_spelled, payload_is_read}
use Rattle.cs_frame.proofs.GeometryLaws.{bounds}
use Rattle.cs_frame.proofs.HeadLaws.{length-head}
use Rattle.cs_frame.proofs.HeadTelling.{one_head}
use Rattle.cs_frame.proofs.Pieces.{length-first_chunks}
use Rattle.law_machine.specs.Device.{Page, Shape}
use Rattle.law_machine.specs.Format.{Format}
use Rattle.law_machine.specs.Format as format
use Rattle.law_machine.specs.Formats.{ChunkFrame, Formats, Stand, pages_from}
use Rattle.law_machine.specs.Geometry.{heads_in}
use Rattle.cs_salvage.specs.Frames.{AreReadAs, IsFrontOf, IsPartIn, pages_at}
use Rattle.cs_salvage.specs.Parts.{EndsWith, IsChunkAt, IsNumbered, IsPart, IsSpellable, NoPartAt, formats_in, shape_in}
use Rattle.cs_salvage.specs.declared.parts.Part.{Part}
use Rattle.cs_salvage.specs.declared.searches.Whose.TheVariants.{OfAny}

-- ---- pages one after another

pub length-from : (S : Shape) (F : Formats) (view : ℕ → Page) (e p n : ℕ) → length (pages_from S F view e p n) ≡ n
length-from S F view e p zero = refl
length-from S F view e p (suc n) = ap suc (length-from S F view e (suc p) n)

pub at_from : (S : Shape) (F : Formats) (view : ℕ → Page) (e p n i : ℕ) → i < n → get_or (pages_from S F view e p n) i [] ≡ view (S.address e (p + i))
at_from S F view e p zero i lt = absurd (omega (arith, lt))
at_from S F view e p (suc n) zero lt = let same : p ≡ p + 0 = omega arith in ap (λ q. view (S.address e q)) same
at_from S F view e p (suc n) (suc i) lt = let same : suc p + i ≡ p + suc i = omega arith in at_from S F view e (suc p) n i (omega (arith, lt)) ∙ ap (λ q. view (S.address e q)) same

-- what stands is the front of the pages there
pub front_of : (S : Shape) (F : Formats) (view : ℕ → Page) (e p n : ℕ) (bs : List Page) → length bs ≤ n → Stand S F view e p bs → take (length bs) (pages_from S F view e p n) ≡ bs
front_of S F view e p n [] fits stand = refl
front_of S F view e p zero (b ∷ bs) fits stand = absurd (omega (arith, fits))
front_of S F view e p (suc n) (b ∷ bs) fits stand = ap₂ (λ (x : Page) (xs : List Page). x ∷ xs) stand.0 (front_of S F view e (suc p) n bs (omega (arith, fits)) stand.1)

-- and their front stands
stand_front : (S : Shape) (F : Formats) (view : ℕ → Page) (e p n : ℕ) (bs : List Page) → length bs ≤ n → take (length bs) (pages_from S F view e p n) ≡ bs → Stand S F view e p bs
stand_front S F view e p n [] le is = tt
stand_front S F view e p zero (b ∷ bs) le is = absurd (omega (arith, le))
stand_front S F view e p (suc n) (b ∷ bs) le is =
    let both : view (S.address e p) ∷ take (length bs) (pages_from S F view e (suc p) n) ≡ b ∷ bs = is in
    let head : view (S.address e p) ≡ b = cc in
    let tail : take (length bs) (pages_from S F view e (suc p) n) ≡ bs = cc in
    (head, stand_front S F view e (suc p) n bs (omega (arith, le)) tail)

-- ---- what a frame's pages say

length-spelled : (form : FormatNumber) (kind : ℕ) (payload : List ℕ) → length (spelled_frame form kind payload) ≡ page_count (length payload)
length-spelled form kind payload = length-first_chunks 4096 (page_count (length payload)) (frame_bytes form kind payload)

first_of_taken : (n : ℕ) (pages : List (List ℕ)) → 1 ≤ n → first_page (take n pages) ≡ first_page pages
first_of_taken n pages some = get_or-take n pages 0 [] (omega arith)

-- its header counts its pages
counted : (form : FormatNumber) (kind : ℕ) (pages : List (List ℕ)) (payload : List ℕ) → SpellsFrame form kind pages payload → frame_count pages ≡ page_count (length payload)
counted form kind pages payload it =
    ap page_count (ap payload_length (sym (first_of_taken (page_count (length payload)) pages (omega arith)) ∙ ap first_page it.spelled) ∙ length_of_spelled form kind payload it.fits)

-- they are there
pub enough : (form : FormatNumber) (kind : ℕ) (pages : List (List ℕ)) (payload : List ℕ) → SpellsFrame form kind pages payload → page_count (length payload) ≤ length pages
enough form kind pages payload it = omega (arith, ap length it.spelled, length-spelled form kind payload, length-take (page_count (length payload)) pages)

-- what all pages spell their front does, and the other way round
pub spells_front : (form : FormatNumber) (all pages payload : _) → IsFrontOf all pages → SpellsFrame form 0 all payload → SpellsFrame form 0 pages payload
spells_front form all pages payload front it =
    let same : frame_count all ≡ page_count (length payload) = counted form 0 all payload it in
    record {
      fits = it.fits;
      spelled = ap (take (page_count (length payload))) (front.taken ∙ ap (λ n. take n all) same)
          ∙ take-take (page_count (length payload)) (page_count (length payload)) all (omega arith) ∙ it.spelled;
    }

pub spells_all : (form : FormatNumber) (all pages payload : _) → IsFrontOf all pages → SpellsFrame form 0 pages payload → SpellsFrame form 0 all payload
spells_all form all pages payload front it =
    let few : page_count (length payload) ≤ frame_count all = omega (arith, enough form 0 pages payload it, ap length front.taken, length-take (frame_count all) all) in
    record {
      fits = it.fits;
      spelled = sym (take-take (page_count (length payload)) (frame_count all) all few) ∙ ap (take (page_count (length payload))) (sym front.taken) ∙ it.spelled;
    }

-- the digest in their first page is the payload's
pub digest_read : (pages : List (List ℕ)) (payload digest : List ℕ) → SpellsFrame Four 0 pages payload → digest ≡ field 9 41 (first_page pages) → digest ≡ sha256 payload
digest_read pages payload digest it is =
    let behind = at_digest_of Four 0 payload in
    is ∙ first_front Four 0 pages payload it 9 41 (omega arith) (omega arith)
    ∙ field_at (frame_bytes Four 0 payload) (sha256 payload) behind.0 9 41 behind.1 (omega (arith, length-sha256 payload))

-- a payload ends with the head that is decoded from its end
pub ends : (head : ChunkHead) (front payload : List ℕ) → drop (length payload - 34) payload ≡ spelled_head (id_number head.id) head.number head.count head.command front → EndsWith head front payload
ends head front payload is =
    let n : ℕ = length payload - 34 in
    (take n payload, sym (take-append-drop n payload) ∙ ap (λ (xs : List ℕ). take n payload ++ xs) is)

-- a payload that is shorter than a head ends with none
pub no_end : (head : ChunkHead) (front payload : List ℕ) → length payload < 34 → length front ≡ 8 → EndsWith head front payload → ⊥
no_end head front payload short eight is =
    let spelled : List ℕ = spelled_head (id_number head.id) head.number head.count head.command front in
    let size = length-head (id_number head.id) head.number head.count head.command front eight in
    omega (arith, short, size, ap length is.1, length-append is.0 spelled)

-- it ends with one head
pub one_end : (head : ChunkHead) (front payload : List ℕ) → length front ≡ 8 → head.command < 2 ^ 64 → EndsWith head front payload → (other : ChunkHead) (other_front : List ℕ) → length other_front ≡ 8 → other.command < 2 ^ 64
    → EndsWith other other_front payload → (head.number ≡ other.number) × (head.count ≡ other.count)
one_end head front payload eight small is other other_front also_eight also_small it =
    let told = one_head (id_number head.id) head.number head.count head.command (id_number other.id) other.number other.count other.command front other_front is.0 it.0 eight also_eight small also_small (sym is.1 ∙ it.1) in
    (told.1, told.2)

-- where no part has the payload that is there, no part is there
pub no_part_in : (pages : List (List ℕ)) (bytes read : List ℕ) → SpellsFrame Four 0 pages bytes → read ≡ bytes
    → ((part : Part) → EndsWith part.head part.store read → IsSpellable part.head part.store → IsNumbered part.head → ⊥)
    → (part : Part) (payload : List ℕ) → IsPartIn pages part payload → ⊥
no_part_in pages bytes read it same none part payload is =
    let one : payload ≡ read = sym (payload_is_read Four 0 pages payload is.spelled) ∙ payload_is_read Four 0 pages bytes it ∙ sym same in
    none part (subst (EndsWith part.head part.store) one is.head) is.spellable is.numbered

-- a format that has heads is format 4
pub is_four : (written : Format) → heads_in written ≡ true → number_in written ≡ Four
is_four format.Two heads = absurd (cc heads)
is_four (format.Four store device) heads = refl

module _ (g : Dimensions) (image : Image) (known : IsGeometry g.format g.extents g.pages g.sections) (e i : ℕ) where
  abbrev all : List (List ℕ)
  all = pages_at g image e i

  pub length-all : length all ≡ g.pages - i
  length-all = length-from (shape_in g) (formats_in g) (page image) e i (g.pages - i)

  abbrev form : FormatNumber
  form = number_in g.format

  few : g.pages ≤ 65535
  few = (bounds _ _ _ _ known).most_pages

  -- where a chunk's frame stands the pages from there on spell it
  pub spelled_there : (payload : List ℕ) → IsChunkAt g image e i payload → SpellsFrame form 0 all payload
  spelled_there payload it =
      let size : length (spelled_frame form 0 payload) ≡ page_count (length payload) = length-spelled form 0 payload in
      let fits : length (spelled_frame form 0 payload) ≤ g.pages - i = omega (arith, size, it.ends) in
      record {
        fits = omega (arith, few, it.ends);
        spelled = ap (λ (k : ℕ). take k all) (sym size) ∙ front_of (shape_in g) (formats_in g) (page image) e i (g.pages - i) (spelled_frame form 0 payload) fits it.stands;
      }

  -- and what they spell stands there
  pub chunk_there : (payload : List ℕ) → e < g.extents → i < g.pages → SpellsFrame form 0 all payload → IsChunkAt g image e i payload
  chunk_there payload there inside it =
      let size : length (spelled_frame form 0 payload) ≡ page_count (length payload) = length-spelled form 0 payload in
      let fits : page_count (length payload) ≤ g.pages - i = omega (arith, enough form 0 all payload it, length-all) in
      record {
        there = there;
        ends = omega (arith, fits, inside);
        stands = stand_front (shape_in g) (formats_in g) (page image) e i (g.pages - i) (spelled_frame form 0 payload) (omega (arith, size, fits))
            (ap (λ (k : ℕ). take k all) size ∙ it.spelled);
      }

  -- one frame stands there
  pub one_chunk : (a b : List ℕ) → IsChunkAt g image e i a → IsChunkAt g image e i b → a ≡ b
  one_chunk a b at bt =
      let law = is_format g.format g.extents g.pages g.sections known in
      law.one_payload (page image) e i ChunkFrame a b (omega (arith, at.ends, length-spelled form 0 a)) (omega (arith, bt.ends, length-spelled form 0 b)) at.stands bt.stands

  module _ (number : ℕ) (at : number ≡ 2 + e * g.pages + i) (inside : i < g.pages) (first : List ℕ) (read : first ≡ page image number) where
    first_read : first_page all ≡ first
    first_read =
        let same : 2 + (e * g.pages + (i + 0)) ≡ number = omega (arith, at) in
        at_from (shape_in g) (formats_in g) (page image) e i (g.pages - i) 0 (omega (arith, inside)) ∙ ap (page image) same ∙ sym read

    -- the pages that the header counts are the frame's
    pub front_read : (pages : List (List ℕ)) (count : ℕ) → count ≡ page_count (payload_length first) → count ≤ g.pages - i → AreReadAs image number count pages → IsFrontOf all pages
    front_read pages count is fits were =
        let same : frame_count all ≡ count = ap (λ b. page_count (payload_length b)) first_read ∙ sym is in
        let long : length (take count all) ≡ count = length-take-le count all (omega (arith, fits, length-all)) in
        record {
          enough = omega (arith, same, fits, length-all);
          taken = ext_get_or [] pages (take count all) (were.size ∙ sym long) (λ k lt. each k (omega (arith, lt, were.size)))
              ∙ ap (λ n. take n all) (sym same);
        }
      where
        each : (k : ℕ) → k < count → get_or pages k [] ≡ get_or (take count all) k []
        each k lt =
            let next : number + k ≡ 2 + (e * g.pages + (i + k)) = omega (arith, at) in
            were.each k lt ∙ ap (page image) next
            ∙ sym (get_or-take count all k [] lt ∙ at_from (shape_in g) (formats_in g) (page image) e i (g.pages - i) k (omega (arith, lt, fits)))

  -- what part these pages are of, the place has, of any store
  pub part_there : {V : Type 0} (part_of : V → Part) (payload_of : V → List ℕ) (found : Option V) (pages : List (List ℕ)) → heads_in g.format ≡ true → e < g.extents → i < g.pages
      → IsFrontOf all pages → MatchOption found ((part : Part) (payload : List ℕ) → IsPartIn pages part payload → ⊥) (λ v. IsPartIn pages (part_of v) (payload_of v))
      → IfSome found (λ v. ((part_of v).extent ≡ e) × ((part_of v).page ≡ i))
      → MatchOption found (NoPartAt (record { geometry = g; whose = OfAny }) image e i) (λ v. IsPart (record { geometry = g; whose = OfAny }) image (part_of v) (payload_of v))
  part_there part_of payload_of (Some v) pages heads there inside front is place =
      let spelled : SpellsFrame form 0 pages (payload_of v) = subst (λ (n : FormatNumber). SpellsFrame n 0 pages (payload_of v)) (sym (is_four g.format heads)) is.spelled in
      record {
        heads = heads;
        chunk = subst (λ (n : ℕ). IsChunkAt g image n (part_of v).page (payload_of v)) (sym place.0)
            (subst (λ (n : ℕ). IsChunkAt g image e n (payload_of v)) (sym place.1)
            (chunk_there (payload_of v) there inside (spells_all form all pages (payload_of v) front spelled)));
        pages = is.counted;
        head = is.head;
        store = tt;
        spellable = is.spellable;
        numbered = is.numbered;
        digest = is.digest;
      }
  part_there part_of payload_of None pages heads there inside front none place = λ part payload extent first is.
      let chunk = subst (λ (n : ℕ). IsChunkAt g image n i payload) extent (subst (λ (n : ℕ). IsChunkAt g image part.extent n payload) first is.chunk) in
      none part payload (record {
        spelled = subst (λ (n : FormatNumber). SpellsFrame n 0 pages payload) (is_four g.format heads) (spells_front form all pages payload front (spelled_there payload chunk));
        counted = is.pages;
        head = is.head;
        spellable = is.spellable;
        numbered = is.numbered;
        digest = is.digest;
      })
