-- The pieces that bytes are cut in are those of a put, and their frames have these pages.
use Rattle.std.proofs.Common.{le_of_eq, le_trans, mul-le-mul_right, ◌≡◌, ◌≢◌, ◌∙◌, ℕ, zero, suc, ◌+◌, ◌-◌, ◌*◌, ◌<◌, ◌≤◌, ◌⊎◌, List, [], ◌∷◌, ◌++◌, length, take, drop, replicate, refl, sym, ap, subst, inl, inr, ⊎_elim, arith}
use Rattle.std.specs.Prelude.{map, max}
use Rattle.std.specs.Int.{div_ceil}
use Rattle.std.proofs.lemmas.Grind.{div_ceil_times}
use Rattle.std.proofs.lemmas.List.{take-append-drop, length-take, length-take-le, length-drop, take_all, nil_from_length}
use Rattle.cs_chunk.specs.declared.cuts.Cut.{Cut}
use Rattle.cs_chunk.specs.Cuts.{IsCut, pages_of, pieces}
use Rattle.cs_chunk.proofs.Sizes.{pages_by_size, some_bytes}
use Rattle.cs_frame.specs.declared.formats.FormatNumber.{FormatNumber}
use Rattle.cs_frame.specs.FormatNumbers.{number_in}
use Rattle.cs_frame.specs.Formats.{formats_of}
use Rattle.cs_frame.specs.Frames.{frame_bytes, page_count, spelled_frame}
use Rattle.cs_frame.specs.Geometries.{FitsFormat}
use Rattle.cs_frame.proofs.HeadLaws.{length-chunk}
use Rattle.cs_frame.proofs.Pieces.{length-first_chunks}
use Rattle.law_machine.specs.Append.{chunk_frames, page_counts}
use Rattle.law_machine.specs.Device.{Shape}
use Rattle.law_machine.specs.Events.{AllFullButLast, ArePayloads, Chunked, headed}
use Rattle.law_machine.specs.Format.{Format}
use Rattle.law_machine.specs.Pieces.{chunk_bytes_in, head_bytes_in, piece_bytes_in}
use Rattle.law_machine.specs.Index.{joined}
use Rattle.law_machine.proofs.Payloads.{payloads_one}
use Rattle.law_machine.proofs.Pieces.{few_pieces, small_piece, some_piece}

pub length-spelled : (number : FormatNumber) (kind : ℕ) (payload : List ℕ) → length (spelled_frame number kind payload) ≡ page_count (length payload)
length-spelled number kind payload = length-first_chunks 4096 (page_count (length payload)) (frame_bytes number kind payload)

joined_pieces : (size count : ℕ) (bytes : List ℕ) → length bytes ≤ count * size → joined (pieces size count bytes) ≡ bytes
joined_pieces size zero bytes enough = let none : length bytes ≡ 0 = omega arith in sym (nil_from_length bytes none)
joined_pieces size (suc count) bytes enough =
    let more : suc count * size ≡ size + count * size = omega arith in
    ap (λ (ys : List ℕ). take size bytes ++ ys) (joined_pieces size count (drop size bytes) (omega (arith, length-drop size bytes, more, enough))) ∙ take-append-drop size bytes

some_left : (size : ℕ) (bytes : List ℕ) → 0 < size → 0 < length bytes → take size bytes ≢ []
some_left zero bytes some left = absurd (omega (arith, some))
some_left (suc size) [] some left = absurd (omega (arith, left))
some_left (suc size) (b ∷ bytes) some left = λ e. cc e

full_pieces : (size count : ℕ) (bytes : List ℕ) → 0 < size → length bytes ≤ count * size → (count ≡ 0) ⊎ ((count - 1) * size < length bytes) ⊎ (count ≡ 1) → AllFullButLast size (pieces size count bytes)
full_pieces size zero bytes some enough few = tt
full_pieces size (suc zero) bytes some enough few = omega (arith, length-take size bytes)
full_pieces size (suc (suc count)) bytes some enough few =
    let more : suc (suc count) * size ≡ size + suc count * size = omega arith in
    let next : suc count * size ≡ size + count * size = omega arith in
    let long : suc count * size < length bytes = long_of few in (
      length-take-le size bytes (omega (arith, long, next)),
      some_left size (drop size bytes) some (omega (arith, length-drop size bytes, long, next)),
      full_pieces size (suc count) (drop size bytes) some (omega (arith, length-drop size bytes, more, enough)) (few_left next long),
    )
  where
    long_of : (suc (suc count) ≡ 0) ⊎ ((suc (suc count) - 1) * size < length bytes) ⊎ (suc (suc count) ≡ 1) → suc count * size < length bytes
    long_of h = ⊎_elim (λ (z : suc (suc count) ≡ 0). absurd (omega (arith, z)))
        (λ (r : ((suc (suc count) - 1) * size < length bytes) ⊎ (suc (suc count) ≡ 1)). ⊎_elim
        (λ (l : (suc (suc count) - 1) * size < length bytes). let same : suc (suc count) - 1 ≡ suc count = omega arith in subst (λ n. n * size < length bytes) same l)
        (λ (o : suc (suc count) ≡ 1). absurd (omega (arith, o))) r) h

    few_left : suc count * size ≡ size + count * size → suc count * size < length bytes → (suc count ≡ 0) ⊎ ((suc count - 1) * size < length (drop size bytes)) ⊎ (suc count ≡ 1)
    few_left next long =
        let same : count ≡ suc count - 1 = omega arith in
        let left : count * size < length (drop size bytes) = omega (arith, length-drop size bytes, long, next) in
        inr (inl (subst (λ n. n * size < length (drop size bytes)) same left))

-- the frames of chunks
pub frames_are : (S : Shape) (cs : List (List ℕ)) → chunk_frames S (formats_of S) cs ≡ map (spelled_frame (number_in S.format) 0) cs
frames_are S [] = refl
frames_are S (c ∷ cs) = ap (λ fs. spelled_frame (number_in S.format) 0 c ∷ fs) (frames_are S cs)

pub length-pieces : (size count : ℕ) (bytes : List ℕ) → length (pieces size count bytes) ≡ count
length-pieces size zero bytes = refl
length-pieces size (suc count) bytes = ap suc (length-pieces size count (drop size bytes))

-- the pages of the frame of a piece and its head
pub pages_of_piece : (S : Shape) → FitsFormat S.format → (id number total command : ℕ) (piece : List ℕ)
    → length (spelled_frame (number_in S.format) 0 ((formats_of S).chunk id number total command piece)) ≡ page_count (head_bytes_in S.format + length piece)
pages_of_piece S fits id number total command piece =
    let size : length ((formats_of S).chunk id number total command piece) ≡ head_bytes_in S.format + length piece =
    omega (arith, length-chunk S.format id number total command piece fits) in
    length-spelled (number_in S.format) 0 ((formats_of S).chunk id number total command piece) ∙ ap page_count size

counts_are : (S : Shape) → FitsFormat S.format → (id total command size pages : ℕ) → page_count (head_bytes_in S.format + size) ≡ pages → (count number : ℕ) (bytes : List ℕ) → length bytes ≤ suc count * size → count * size ≤ length bytes
    → page_counts (map (spelled_frame (number_in S.format) 0) (headed (formats_of S) id number total command (pieces size (suc count) bytes)))
    ≡ replicate count pages ++ page_count (head_bytes_in S.format + (length bytes - count * size)) ∷ []
counts_are S fits id total command size pages full zero number bytes enough least =
    let small : length bytes ≤ size = omega arith in
    let same : length bytes ≡ length bytes - 0 * size = omega arith in
    ap (λ n. n ∷ []) (pages_of_piece S fits id number total command (take size bytes)
    ∙ ap (λ (xs : List ℕ). page_count (head_bytes_in S.format + length xs)) (take_all size bytes small)
    ∙ ap (λ n. page_count (head_bytes_in S.format + n)) same)
counts_are S fits id total command size pages full (suc count) number bytes enough least =
    let more : suc (suc count) * size ≡ size + suc count * size = omega arith in
    let next : suc count * size ≡ size + count * size = omega arith in
    let front : length (take size bytes) ≡ size = length-take-le size bytes (omega (arith, next, least)) in
    let rest = counts_are S fits id total command size pages full count (suc number) (drop size bytes) (omega (arith, length-drop size bytes, more, enough)) (omega (arith, length-drop size bytes, next, least)) in
    let left : length (drop size bytes) - count * size ≡ length bytes - suc count * size = omega (arith, length-drop size bytes, next) in
    ap (λ n. n ∷ page_counts (map (spelled_frame (number_in S.format) 0) (headed (formats_of S) id (suc number) total command (pieces size (suc count) (drop size bytes)))))
    (pages_of_piece S fits id number total command (take size bytes) ∙ ap (λ n. page_count (head_bytes_in S.format + n)) front ∙ full)
    ∙ ap (λ ns. pages ∷ ns) rest ∙ ap (λ n. pages ∷ (replicate count pages ++ page_count (head_bytes_in S.format + n) ∷ [])) left

-- what is left for the last piece is no more than a piece
left_over : (length size count rounded : ℕ) → 0 < size → rounded ≡ div_ceil length size → count ≡ max rounded 1 → length - (count - 1) * size ≤ size
left_over length size count rounded some is most =
    let up : rounded ≤ count = omega (arith, most) in
    let one : count ≡ suc (count - 1) = omega (arith, most) in
    let whole : length ≤ rounded * size = subst (λ n. length ≤ n * size) (sym is) (div_ceil_times length size some).0 in
    let times : rounded * size ≤ count * size = mul-le-mul_right size up in
    let parts : count * size ≡ suc (count - 1) * size = ap (λ n. n * size) one in
    let next : suc (count - 1) * size ≡ size + (count - 1) * size = omega arith in
    omega (arith, whole, times, parts, next)

-- a piece has a byte at least
pub size_some : (format : Format) (bytes size pages : ℕ) → 2 ≤ pages → size ≡ piece_bytes_in format pages bytes → 0 < size
size_some format bytes size pages some is =
    let one : 1 ≤ pages = omega (arith, some) in
    let positive : 0 < piece_bytes_in format pages bytes = some_piece format pages bytes (some_bytes format pages one) in omega (arith, is, positive)

-- and its frame fits on an extent, with its head
pub size_fits : (format : Format) (bytes size pages : ℕ) → 2 ≤ pages → size ≡ piece_bytes_in format pages bytes → page_count (head_bytes_in format + size) ≤ pages
size_fits format bytes size pages some is =
    let one : 1 ≤ pages = omega (arith, some) in
    pages_by_size format pages size one (le_trans (le_of_eq is) (small_piece format pages bytes (some_bytes format pages one)))

-- eight of them are enough for a shard that isn't too large
pub size_enough : (format : Format) (bytes size pages : ℕ) → 2 ≤ pages → size ≡ piece_bytes_in format pages bytes → bytes ≤ 8 * chunk_bytes_in format pages → bytes ≤ 8 * size
size_enough format bytes size pages some is short =
    let one : 1 ≤ pages = omega (arith, some) in
    let all : bytes ≤ 8 * piece_bytes_in format pages bytes = few_pieces format pages bytes (some_bytes format pages one) short in omega (arith, is, all)

-- the last frame has no more pages than another
pub last_fits : (length size count rounded head last pages : ℕ) → 0 < size → rounded ≡ div_ceil length size → count ≡ max rounded 1
    → last ≡ page_count (head + (length - (count - 1) * size)) → pages ≡ page_count (head + size) → last ≤ pages
last_fits length size count rounded head last pages some rounds most last_is pages_are =
    omega (arith, last_is, pages_are, left_over length size count rounded some rounds most)

module _ (S : Shape) (bytes : List ℕ) (cut : Cut) (is : IsCut S (length bytes) cut) (some_byte : 0 < cut.size) where
  cut_chunked : Chunked (S.piece_bytes (length bytes)) bytes (pieces cut.size cut.count bytes)
  cut_chunked = (
    joined_pieces cut.size cut.count bytes is.enough,
    counted cut.count is.some,
    subst (λ n. AllFullButLast n (pieces cut.size cut.count bytes)) is.size (full_pieces cut.size cut.count bytes some_byte is.enough (turned is.few)),
  )
    where
      counted : (count : ℕ) → 1 ≤ count → 0 < length (pieces cut.size count bytes)
      counted zero one = absurd (omega (arith, one))
      counted (suc count) one = omega arith

      turned : (cut.count ≡ 1) ⊎ ((cut.count - 1) * cut.size < length bytes) → (cut.count ≡ 0) ⊎ ((cut.count - 1) * cut.size < length bytes) ⊎ (cut.count ≡ 1)
      turned h = ⊎_elim (λ (o : cut.count ≡ 1). inr (inr o)) (λ (l : (cut.count - 1) * cut.size < length bytes). inr (inl l)) h

  -- the pieces with their heads are the payloads of a put, and there are no others
  pub cut_payloads : (id command : ℕ) → ArePayloads S (formats_of S) id command bytes (headed (formats_of S) id 0 cut.count command (pieces cut.size cut.count bytes))
  cut_payloads id command = (
    pieces cut.size cut.count bytes,
    cut_chunked,
    ap (λ n. headed (formats_of S) id 0 n command (pieces cut.size cut.count bytes)) (sym (length-pieces cut.size cut.count bytes)),
  )

  pub cut_only : (id command : ℕ) (cs : List (List ℕ)) → ArePayloads S (formats_of S) id command bytes cs → cs ≡ headed (formats_of S) id 0 cut.count command (pieces cut.size cut.count bytes)
  cut_only id command cs are =
      payloads_one S (formats_of S) id command bytes cs (headed (formats_of S) id 0 cut.count command (pieces cut.size cut.count bytes)) are (cut_payloads id command)

  pub cut_pages : FitsFormat S.format → (id command : ℕ) → page_counts (chunk_frames S (formats_of S) (headed (formats_of S) id 0 cut.count command (pieces cut.size cut.count bytes))) ≡ pages_of cut
  cut_pages fits id command =
      let same : cut.count ≡ suc (cut.count - 1) = omega (arith, is.some) in
      let enough : length bytes ≤ suc (cut.count - 1) * cut.size = subst (λ k. length bytes ≤ k * cut.size) same is.enough in
      ap page_counts (frames_are S (headed (formats_of S) id 0 cut.count command (pieces cut.size cut.count bytes)))
      ∙ ap (λ k. page_counts (map (spelled_frame (number_in S.format) 0) (headed (formats_of S) id 0 cut.count command (pieces cut.size k bytes)))) same
      ∙ counts_are S fits id cut.count command cut.size cut.pages (sym is.pages) (cut.count - 1) 0 bytes enough (least_of is.few)
      ∙ ap (λ k. replicate (cut.count - 1) cut.pages ++ k ∷ []) (sym is.last)
    where
      least_of : (cut.count ≡ 1) ⊎ ((cut.count - 1) * cut.size < length bytes) → (cut.count - 1) * cut.size ≤ length bytes
      least_of h = ⊎_elim
          (λ (o : cut.count ≡ 1). let none : cut.count - 1 ≡ 0 = omega (arith, o) in let zeros : (cut.count - 1) * cut.size ≡ 0 = ap (λ k. k * cut.size) none ∙ (let z : 0 * cut.size ≡ 0 = omega arith in z) in omega (arith, zeros))
          (λ (l : (cut.count - 1) * cut.size < length bytes). omega (arith, l)) h
