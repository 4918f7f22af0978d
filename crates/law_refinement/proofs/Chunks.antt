-- What lies at a place that is located: a chunk, or a damaged one.
use Rattle.std.proofs.Common.{◌≡◌, ◌⊎◌, inl, inr, ℕ, zero, suc, ◌+◌, ◌-◌, ◌<◌, ◌≤◌, List, [], ◌∷◌, length, take, Option, Some, None, length-take, Bool, true, false, if◌then◌else◌, refl, sym, ap, subst, ◌∙◌, arith}
use Rattle.std.specs.Prelude.{option_map}
use Rattle.std.specs.List.{AllByRecursion}
use Rattle.cs_frame.proofs.FrameLaws.{spells}
use Rattle.cs_frame.proofs.Pieces.{length-first_chunks}
use Rattle.cs_frame.specs.declared.faults.FormatFault.{FormatFault}
use Rattle.cs_frame.specs.Bytes.{IsPage}
use Rattle.cs_frame.specs.FormatNumbers.{number_in}
use Rattle.cs_frame.specs.Formats.{formats_of, refusal_of}
use Rattle.cs_frame.specs.Frames.{SpellsFrame, frame_bytes, frame_count, frame_fault, page_count, payload_in, spelled_frame}
use Rattle.cs_index.proofs.Sorted.{all_take}
use Rattle.law_machine.proofs.Meant.{stands_first}
use Rattle.law_machine.specs.Device.{Page, Shape, is_meant, mark_of}
use Rattle.law_machine.specs.Formats.{ChunkFrame, Formats, Stand, fault_for, is_long_frame, pages_from, refused_or}
use Rattle.law_machine.specs.Meant.{same_mark}
use Rattle.law_machine.specs.Local.{LiesBelow}
use Rattle.law_machine.specs.Refusal.{BadLength, Misplaced, Refusal}
use Rattle.cs_reader.specs.ImageReads.{ArePages}
use Rattle.cs_reader.proofs.Listed.{bytes_joined, each_has}

length-from : (S : Shape) (F : Formats) (view : ℕ → Page) (e i n : ℕ) → length (pages_from S F view e i n) ≡ n
length-from S F view e i zero = refl
length-from S F view e i (suc n) = ap suc (length-from S F view e (suc i) n)

-- a list that the front of the pages is stands there
stand_front : (S : Shape) (F : Formats) (view : ℕ → Page) (e i n : ℕ) (bs : List Page) → length bs ≤ n
    → take (length bs) (pages_from S F view e i n) ≡ bs → Stand S F view e i bs
stand_front S F view e i n [] le is = tt
stand_front S F view e i zero (b ∷ bs) le is = absurd (omega (arith, le))
stand_front S F view e i (suc n) (b ∷ bs) le is =
    let both : view (S.address e i) ∷ take (length bs) (pages_from S F view e (suc i) n) ≡ b ∷ bs = is in
    let head : view (S.address e i) ≡ b = cc in
    let tail : take (length bs) (pages_from S F view e (suc i) n) ≡ bs = cc in
    (head, stand_front S F view e (suc i) n bs (omega (arith, le)) tail)

-- pages that begin with a frame are long enough where it is
long_first : (S : Shape) (F : Formats) (view : ℕ → Page) (e i n : ℕ) (bs : List Page) → 0 < length bs → length bs ≤ n → Stand S F view e i bs
    → is_long_frame F (pages_from S F view e i n) ≡ is_long_frame F bs
long_first S F view e i n [] some fits stand = absurd (omega (arith, some))
long_first S F view e i zero (b ∷ bs) some fits stand = absurd (omega (arith, fits))
long_first S F view e i (suc n) (b ∷ bs) some fits stand = ap F.is_long stand.0

module _ (S : Shape) (view : ℕ → Page) (count : ℕ) (below : LiesBelow S count) (are : ArePages count view) where
  -- each page from a place on is a page
  pub pages_there : (e i n : ℕ) → e < S.extents → i + n ≤ S.pages → AllByRecursion IsPage (pages_from S (formats_of S) view e i n)
  pages_there e i zero there fits = tt
  pages_there e i (suc n) there fits = (
    are (S.address e i) (below.frames e i (there, omega (arith, fits))),
    pages_there e (suc i) n there (omega (arith, fits)),
  )

  -- a frame that these pages spell stands there
  frame_stands : (e i end kind : ℕ) (payload : List ℕ) → i < end
      → SpellsFrame (number_in S.format) kind (pages_from S (formats_of S) view e i (end - i)) payload
      → (i + length (spelled_frame (number_in S.format) kind payload) ≤ end) × Stand S (formats_of S) view e i (spelled_frame (number_in S.format) kind payload)
  frame_stands e i end kind payload lt it =
      let size : length (spelled_frame (number_in S.format) kind payload) ≡ page_count (length payload) = length-first_chunks 4096 (page_count (length payload)) (frame_bytes (number_in S.format) kind payload) in
      let all : length (pages_from S (formats_of S) view e i (end - i)) ≡ end - i = length-from S (formats_of S) view e i (end - i) in
      let fits : page_count (length payload) ≤ end - i = omega (arith, size, all, ap length it.spelled, length-take (page_count (length payload)) (pages_from S (formats_of S) view e i (end - i))) in (
        omega (arith, size, fits, lt),
        stand_front S (formats_of S) view e i (end - i) (spelled_frame (number_in S.format) kind payload) (omega (arith, size, fits))
            (ap (λ (k : ℕ). take k (pages_from S (formats_of S) view e i (end - i))) size ∙ it.spelled),
      )

  -- a chunk stands there that is meant, or it is told why none does
  abbrev ChunkThere : (e i end m : ℕ) → Type 0
  ChunkThere e i end m = (payload : List ℕ) × (i + length ((formats_of S).frame ChunkFrame payload) ≤ end)
      × Stand S (formats_of S) view e i ((formats_of S).frame ChunkFrame payload)
      × (is_meant S m ((formats_of S).frame ChunkFrame payload) ≡ true) × (is_long_frame (formats_of S) ((formats_of S).frame ChunkFrame payload) ≡ true)

  pub chunk_or_fault : (e i end m : ℕ) → e < S.extents → i < end → end ≤ S.pages
      → ChunkThere e i end m ⊎ ((f : Refusal) × (fault_for S (formats_of S) ChunkFrame m (pages_from S (formats_of S) view e i (end - i)) ≡ Some f))
  chunk_or_fault e i end m there above low = by_length (is_long_frame (formats_of S) (pages_from S (formats_of S) view e i (end - i))) refl
    where
      all : AllByRecursion IsPage (pages_from S (formats_of S) view e i (end - i))
      all = pages_there e i (end - i) there (omega (arith, above, low))

      -- what is told of the frame, where the mark of its pages is the one that is meant or not
      told : Bool → Option Refusal
      told b = if b then (formats_of S).fault ChunkFrame (pages_from S (formats_of S) view e i (end - i))
          else Some (refused_or ((formats_of S).fault ChunkFrame (pages_from S (formats_of S) view e i (end - i))) Misplaced)

      -- and where they are long enough for what they hold or not
      told_long : Bool → Option Refusal
      told_long b = if b then told (is_meant S m (pages_from S (formats_of S) view e i (end - i)))
          else Some (refused_or (told (is_meant S m (pages_from S (formats_of S) view e i (end - i)))) BadLength)

      go : (found : Option FormatFault) → frame_fault (number_in S.format) 0 (pages_from S (formats_of S) view e i (end - i)) ≡ found → is_meant S m (pages_from S (formats_of S) view e i (end - i)) ≡ true
          → is_long_frame (formats_of S) (pages_from S (formats_of S) view e i (end - i)) ≡ true → ChunkThere e i end m ⊎ ((f : Refusal) × (told true ≡ Some f))
      go None none meant long =
          let pages : List Page = pages_from S (formats_of S) view e i (end - i) in
          let stands = frame_stands e i end 0 (payload_in pages) above
          (spells (number_in S.format) 0 pages (payload_in pages) (each_has pages all) (bytes_joined (take (frame_count pages) pages) (all_take IsPage (frame_count pages) pages all)) none refl) in
          let size : length (spelled_frame (number_in S.format) 0 (payload_in pages)) ≡ page_count (length (payload_in pages)) = length-first_chunks 4096 (page_count (length (payload_in pages))) (frame_bytes (number_in S.format) 0 (payload_in pages)) in
          let first : mark_of S pages ≡ mark_of S (spelled_frame (number_in S.format) 0 (payload_in pages)) =
          stands_first S (formats_of S) view e i (end - i) (spelled_frame (number_in S.format) 0 (payload_in pages)) (omega (arith, size)) (omega (arith, stands.0, above)) stands.1 in
          let enough : is_long_frame (formats_of S) pages ≡ is_long_frame (formats_of S) (spelled_frame (number_in S.format) 0 (payload_in pages)) =
          long_first S (formats_of S) view e i (end - i) (spelled_frame (number_in S.format) 0 (payload_in pages)) (omega (arith, size)) (omega (arith, stands.0, above)) stands.1 in
          inl (payload_in pages, stands.0, stands.1, ap (λ (n : ℕ). same_mark n m) (sym first) ∙ meant, sym enough ∙ long)
      go (Some f) is meant long = inr (refusal_of f, ap (option_map refusal_of) is)

      by : (b : Bool) → is_meant S m (pages_from S (formats_of S) view e i (end - i)) ≡ b → is_long_frame (formats_of S) (pages_from S (formats_of S) view e i (end - i)) ≡ true
          → ChunkThere e i end m ⊎ ((f : Refusal) × (told (is_meant S m (pages_from S (formats_of S) view e i (end - i))) ≡ Some f))
      by true is long = subst (λ (b : Bool). ChunkThere e i end m ⊎ ((f : Refusal) × (told b ≡ Some f))) (sym is)
          (go (frame_fault (number_in S.format) 0 (pages_from S (formats_of S) view e i (end - i))) refl is long)
      by false is long = inr (refused_or ((formats_of S).fault ChunkFrame (pages_from S (formats_of S) view e i (end - i))) Misplaced, ap told is)

      by_length : (b : Bool) → is_long_frame (formats_of S) (pages_from S (formats_of S) view e i (end - i)) ≡ b
          → ChunkThere e i end m ⊎ ((f : Refusal) × (told_long (is_long_frame (formats_of S) (pages_from S (formats_of S) view e i (end - i))) ≡ Some f))
      by_length true long = subst (λ (b : Bool). ChunkThere e i end m ⊎ ((f : Refusal) × (told_long b ≡ Some f))) (sym long)
          (by (is_meant S m (pages_from S (formats_of S) view e i (end - i))) refl long)
      by_length false short = inr (refused_or (told (is_meant S m (pages_from S (formats_of S) view e i (end - i)))) BadLength, ap told_long short)
