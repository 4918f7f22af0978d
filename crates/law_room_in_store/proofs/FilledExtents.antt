-- How many extents the frames of a put fill.
use Rattle.std.proofs.Common.{◌≡◌, inl, inr, ⊎_elim, ℕ, zero, suc, ◌+◌, ◌-◌, ◌*◌, ◌/◌, ◌<◌, ◌≤◌, List, [], ◌∷◌, ◌++◌, length, length-append, take, drop, mul-le-mul_right, le_trans, refl, sym, ap, ◌∙◌, subst, arith}
use Rattle.std.specs.Prelude.{◌↔◌, sum}
use Rattle.std.proofs.lemmas.List.{length-drop, nil_from_length, take-append-drop}
use Rattle.cs_extent.specs.State.{State as ExtentsState, shape}
use Rattle.cs_frame.proofs.HeadLaws.{length-chunk}
use Rattle.cs_frame.proofs.Pieces.{length-first_chunks}
use Rattle.cs_frame.specs.FormatNumbers.{number_in}
use Rattle.cs_frame.specs.Formats.{formats_of}
use Rattle.cs_frame.specs.Frames.{frame_bytes, page_count, spelled_frame}
use Rattle.cs_frame.specs.Geometries.{FitsFormat}
use Rattle.cs_frame.specs.Heads.{chunk_in}
use Rattle.cs_frame.specs.declared.identifiers.ShardId.{ShardId}
use Rattle.cs_chunk.proofs.Sizes.{pages_by_size}
use Rattle.cs_index.specs.State.{id_number}
use Rattle.law_machine.proofs.Chunks.{chunked_one, chunked_there}
use Rattle.law_machine.proofs.Counting.{few_chunks}
use Rattle.law_machine.proofs.Payloads.{payloads_length}
use Rattle.law_machine.specs.Append.{chunk_frames, page_counts}
use Rattle.law_machine.specs.Device.{IsShape, Shape}
use Rattle.law_machine.specs.Events.{AllFullButLast, ArePayloads, headed}
use Rattle.law_machine.specs.Format.{Format, Four}
use Rattle.law_machine.specs.Formats.{ChunkFrame}
use Rattle.law_machine.specs.Index.{joined}
use Rattle.law_machine.specs.Lists.{◌∈◌}
use Rattle.law_machine.specs.Pieces.{chunk_pages, head_bytes_in, piece_bytes_in}
use Rattle.law_refinement.proofs.Shapes.{shape_of_store}
use Rattle.law_room.proofs.Writing.{sum_is}
use Rattle.law_room.specs.Brim.{FitBeside}
use Rattle.law_room.specs.OfMachine.{AreChunksAtMost}
use Rattle.law_room.specs.Sweeps.{FillsAtMost}
use Rattle.law_room_in_store.specs.Images.{HasGeometry}
use Rattle.law_room_in_store.specs.Puts.{FillsExtents}

-- each of these numbers is at most y
abbrev pub EachAtMost : (y : ℕ) → List ℕ → Type 0
EachAtMost y xs = (k : ℕ) → k ∈ xs → k ≤ y

sum_first : (y n : ℕ) (xs : List ℕ) → EachAtMost y xs → sum (take n xs) ≤ n * y
sum_first y zero xs each = omega arith
sum_first y (suc n) [] each = omega arith
sum_first y (suc n) (x ∷ xs) each =
    let first : x ≤ y = each x (inl refl) in
    let rest : sum (take n xs) ≤ n * y = sum_first y n xs (λ k there. each k (inr there)) in
    let all : sum (x ∷ take n xs) ≡ x + sum (take n xs) = sum_is x (take n xs) in
    let next : suc n * y ≡ y + n * y = omega arith in omega (arith, first, rest, all, next)

each_left : (y n : ℕ) (xs : List ℕ) → EachAtMost y xs → EachAtMost y (drop n xs)
each_left y zero xs each = each
each_left y (suc n) [] each = each
each_left y (suc n) (x ∷ xs) each = each_left y n xs (λ k there. each k (inr there))

pub sum_each : (y : ℕ) (xs : List ℕ) → EachAtMost y xs → sum xs ≤ length xs * y
sum_each y [] each = omega arith
sum_each y (x ∷ xs) each =
    let first : x ≤ y = each x (inl refl) in
    let rest : sum xs ≤ length xs * y = sum_each y xs (λ k there. each k (inr there)) in
    let all : sum (x ∷ xs) ≡ x + sum xs = sum_is x xs in
    let next : suc (length xs) * y ≡ y + length xs * y = omega arith in omega (arith, first, rest, all, next)

-- frames of at most y pages, m of which fit on an extent
pub fill_together : (pages m y n : ℕ) (sizes : List ℕ) → m * y ≤ pages → EachAtMost y sizes → length sizes ≤ m * n
    → FillsAtMost pages n sizes
fill_together pages m y zero sizes fit each few =
    let none : length sizes ≡ 0 = omega (arith, few) in
    ([], sym (nil_from_length sizes none), omega arith, λ part there. absurd there)
fill_together pages m y (suc n) sizes fit each few =
    let next : m * suc n ≡ m + m * n = omega arith in
    let left : length (drop m sizes) ≡ length sizes - m = length-drop m sizes in
    let rest = fill_together pages m y n (drop m sizes) fit (each_left y m sizes each) (omega (arith, few, next, left)) in
    let parts : List (List ℕ) = rest.0 in
    let fewer : length parts ≤ n = rest.2 in
    let first : sum (take m sizes) ≤ m * y = sum_first y m sizes each in (
      take m sizes ∷ parts,
      ap (λ (xs : List ℕ). take m sizes ++ xs) rest.1 ∙ take-append-drop m sizes,
      omega (arith, fewer),
      λ part there. ⊎_elim (λ (is : part ≡ take m sizes). subst (λ (p : List ℕ). sum p ≤ pages) (sym is) (le_trans first fit))
          (λ (other : part ∈ parts). rest.3 part other) there,
    )

-- pieces of one size have no more bytes than so many of that size
piece_bytes_all : (size : ℕ) (cs : List (List ℕ)) → AllFullButLast size cs → length (joined cs) ≤ length cs * size
piece_bytes_all size [] full = omega arith
piece_bytes_all size (c ∷ []) full = let one : length (joined (c ∷ [])) ≡ length c + 0 = length-append c [] in
    let short : length c ≤ size = full in omega (arith, one, short)
piece_bytes_all size (c ∷ d ∷ cs) full =
    let all : length (joined (c ∷ d ∷ cs)) ≡ length c + length (joined (d ∷ cs)) = length-append c (joined (d ∷ cs)) in
    let first : length c ≡ size = full.0 in
    let rest : length (joined (d ∷ cs)) ≤ length (d ∷ cs) * size = piece_bytes_all size (d ∷ cs) full.2 in
    let next : length (c ∷ d ∷ cs) * size ≡ size + length (d ∷ cs) * size = omega arith in omega (arith, all, first, rest, next)

module _ (S : Shape) (shape : IsShape S) (bytes : List ℕ) (n : ℕ) where
  -- bytes that are no more than n pieces are cut in at most n
  pub cut_by_length : 1 ≤ n → length bytes ≤ n * S.piece_bytes (length bytes) → AreChunksAtMost S n bytes
  cut_by_length some short = let cut = chunked_there (S.piece_bytes (length bytes)) bytes (shape.some_piece (length bytes)) in
      (cut.0, cut.1, few_chunks (S.piece_bytes (length bytes)) n bytes cut.0 some cut.1.2 cut.1.0 short)

  pub length_by_cut : AreChunksAtMost S n bytes → (1 ≤ n) × (length bytes ≤ n * S.piece_bytes (length bytes))
  length_by_cut cut =
      let size : ℕ = S.piece_bytes (length bytes) in
      let some : 0 < length cut.0 = cut.1.1 in
      let few : length cut.0 ≤ n = cut.2 in
      let all : length (joined cut.0) ≤ length cut.0 * size = piece_bytes_all size cut.0 cut.1.2 in
      let same : length (joined cut.0) ≡ length bytes = ap length cut.1.0 in
      let more : length cut.0 * size ≤ n * size = mul-le-mul_right size few in
      (omega (arith, some, few), omega (arith, all, same, more))

-- each piece has the size of a piece at most
piece_short : (size : ℕ) (cs : List (List ℕ)) → AllFullButLast size cs → (c : List ℕ) → c ∈ cs → length c ≤ size
piece_short size [] full c there = absurd there
piece_short size (c ∷ []) full d (inl is) = subst (λ (x : List ℕ). length x ≤ size) (sym is) full
piece_short size (c ∷ []) full d (inr none) = absurd none
piece_short size (b ∷ c ∷ cs) full d (inl is) = let same : length b ≡ size = full.0 in
    subst (λ (x : List ℕ). length x ≤ size) (sym is) (omega (arith, same))
piece_short size (b ∷ c ∷ cs) full d (inr there) = piece_short size (c ∷ cs) full.2 d there

module _ (S : Shape) (fits : FitsFormat S.format) where
  more_pages : (head size piece whole pages : ℕ) → piece ≤ size → whole ≡ piece + head → pages ≡ page_count whole
      → pages ≤ (41 + (head + size) + 4095) / 4096
  more_pages head size piece whole pages short is of = omega (arith, short, is, of)

  frame_pages : (id number count command size : ℕ) (piece : List ℕ) → length piece ≤ size
      → length ((formats_of S).frame ChunkFrame ((formats_of S).chunk id number count command piece)) ≤ chunk_pages S.format size
  frame_pages id number count command size piece short =
      let chunk : List ℕ = chunk_in S.format id number count command piece in
      let frame : length (spelled_frame (number_in S.format) 0 chunk) ≡ page_count (length chunk) =
      length-first_chunks 4096 (page_count (length chunk)) (frame_bytes (number_in S.format) 0 chunk) in
      more_pages (head_bytes_in S.format) size (length piece) (length chunk) (length (spelled_frame (number_in S.format) 0 chunk)) short
      (length-chunk S.format id number count command piece fits) frame

  heads_pages : (id number count command size : ℕ) (pieces : List (List ℕ))
      → ((piece : List ℕ) → piece ∈ pieces → length piece ≤ size)
      → EachAtMost (chunk_pages S.format size) (page_counts (chunk_frames S (formats_of S) (headed (formats_of S) id number count command pieces)))
  heads_pages id number count command size [] short k there = absurd there
  heads_pages id number count command size (piece ∷ pieces) short k (inl is) =
      subst (λ (n : ℕ). n ≤ chunk_pages S.format size) (sym is) (frame_pages id number count command size piece (short piece (inl refl)))
  heads_pages id number count command size (piece ∷ pieces) short k (inr there) =
      heads_pages id (suc number) count command size pieces (λ p has. short p (inr has)) k there

  length_counts : (cs : List (List ℕ)) → length (page_counts (chunk_frames S (formats_of S) cs)) ≡ length cs
  length_counts [] = refl
  length_counts (c ∷ cs) = ap suc (length_counts cs)

  module _ (id command : ℕ) (bytes : List ℕ) (chunks : List (List ℕ)) (are : ArePayloads S (formats_of S) id command bytes chunks) where
    abbrev counts : List ℕ
    counts = page_counts (chunk_frames S (formats_of S) chunks)

    -- each frame of a put has at most the pages of a whole piece
    pub each_frame : EachAtMost (chunk_pages S.format (S.piece_bytes (length bytes))) counts
    each_frame = subst (λ (cs : List (List ℕ)). EachAtMost (chunk_pages S.format (S.piece_bytes (length bytes)))
        (page_counts (chunk_frames S (formats_of S) cs))) (sym are.2)
        (heads_pages id 0 (length are.0) command (S.piece_bytes (length bytes)) are.0
        (piece_short (S.piece_bytes (length bytes)) are.0 are.1.2))

    -- and there are as many as pieces
    pub few_frames : (n : ℕ) → AreChunksAtMost S n bytes → length counts ≤ n
    few_frames n cut =
        let same : length counts ≡ length chunks = length_counts chunks in
        let pieces : length chunks ≡ length are.0 = payloads_length S (formats_of S) id command bytes chunks are in
        let one : length are.0 ≡ length cut.0 = ap length (chunked_one (S.piece_bytes (length bytes)) bytes are.0 cut.0 are.1 cut.1) in
        let few : length cut.0 ≤ n = cut.2 in omega (arith, same, pieces, one, few)

module _ (x : ExtentsState) (geometry : HasGeometry x) where
  abbrev shape_is : IsShape (shape x)
  shape_is = shape_of_store x geometry

  -- the pages of a frame of a whole piece
  abbrev pub most_pages : (bytes : ℕ) → ℕ
  most_pages bytes = chunk_pages (shape x).format ((shape x).piece_bytes bytes)

  pub piece_fits : (bytes : ℕ) → most_pages bytes ≤ (shape x).pages
  piece_fits bytes = pages_by_size (shape x).format (shape x).pages ((shape x).piece_bytes bytes)
      (le_trans (omega arith) geometry.fewest_pages) (shape_is.small_pieces bytes)

  pub pieces_by_length : (n : ℕ) (bytes : List ℕ)
      → AreChunksAtMost (shape x) n bytes ↔ ((1 ≤ n) × (length bytes ≤ n * (shape x).piece_bytes (length bytes)))
  pieces_by_length n bytes =
      ((λ cut. length_by_cut (shape x) shape_is bytes n cut), (λ short. cut_by_length (shape x) shape_is bytes n short.0 short.1))

  pub most_pieces : (bytes : List ℕ) → length bytes ≤ (shape x).most_chunks * (shape x).chunk_bytes
      → AreChunksAtMost (shape x) (shape x).most_chunks bytes
  most_pieces bytes short =
      cut_by_length (shape x) shape_is bytes (shape x).most_chunks shape_is.some_chunk (shape_is.few_pieces (length bytes) short)

  pub filled_together : (m n : ℕ) (id : ShardId) (bytes : List ℕ) → m * most_pages (length bytes) ≤ (shape x).pages
      → AreChunksAtMost (shape x) (m * n) bytes → FillsExtents (shape x) n id bytes
  filled_together m n id bytes fit cut = λ command chunks are.
      fill_together (shape x).pages m (most_pages (length bytes)) n (page_counts (chunk_frames (shape x) (formats_of (shape x)) chunks)) fit
      (each_frame (shape x) geometry.fits_format (id_number id) command bytes chunks are)
      (few_frames (shape x) geometry.fits_format (id_number id) command bytes chunks are (m * n) cut)

  pub filled_alone : (n : ℕ) (id : ShardId) (bytes : List ℕ) → AreChunksAtMost (shape x) n bytes → FillsExtents (shape x) n id bytes
  filled_alone n id bytes cut =
      filled_together 1 n id bytes (let fits = piece_fits (length bytes) in omega (arith, fits))
      (subst (λ (k : ℕ). AreChunksAtMost (shape x) k bytes) (let same : n ≡ 1 * n = omega arith in same) cut)

  below : (live less more most : ℕ) → less ≤ more → live + more < most → live + less < most
  below live less more most le lt = omega (arith, le, lt)

  -- the frames of at most n chunks fit beside what lives if n frames of a whole piece do
  pub fit_beside : (n live : ℕ) (id : ShardId) (bytes : List ℕ) → AreChunksAtMost (shape x) n bytes
      → (shape x).run_extents + 3 ≤ (shape x).extents
      → live + n * most_pages (length bytes) < ((shape x).extents - ((shape x).run_extents + 2))
      * ((shape x).pages + 1 - most_pages (length bytes)) + most_pages (length bytes)
      → (command : ℕ) (chunks : List (List ℕ)) → ArePayloads (shape x) (formats_of (shape x)) (id_number id) command bytes chunks
      → FitBeside (shape x) (shape x).run_extents live (page_counts (chunk_frames (shape x) (formats_of (shape x)) chunks))
  fit_beside n live id bytes cut enough few command chunks are =
      let sizes : List ℕ = page_counts (chunk_frames (shape x) (formats_of (shape x)) chunks) in
      let each : EachAtMost (most_pages (length bytes)) sizes = each_frame (shape x) geometry.fits_format (id_number id) command bytes chunks are in
      let count : length sizes ≤ n = few_frames (shape x) geometry.fits_format (id_number id) command bytes chunks are n cut in
      let all : sum sizes ≤ n * most_pages (length bytes) =
      le_trans (sum_each (most_pages (length bytes)) sizes each) (mul-le-mul_right (most_pages (length bytes)) count) in record {
        most = most_pages (length bytes);
        each = each;
        one_fits = piece_fits (length bytes);
        extents = enough;
        few = below live (sum sizes) (n * most_pages (length bytes)) (((shape x).extents - ((shape x).run_extents + 2))
            * ((shape x).pages + 1 - most_pages (length bytes)) + most_pages (length bytes)) all few;
      }

-- in format 4 with 256 pages an extent, 1,048,501 bytes are eight chunks of 33 pages
module _ (x : ExtentsState) (geometry : HasGeometry x) (store : List ℕ) (device : ℕ) (bytes : List ℕ)
    (four : x.format ≡ Four store device) (pages : x.pages ≡ 256) (long : length bytes ≡ 1048501) where
  example_size : (shape x).piece_bytes (length bytes) ≡ 131063
  example_size = ap (λ (f : Format). piece_bytes_in f x.pages (length bytes)) four
      ∙ ap (λ (n : ℕ). piece_bytes_in (Four store device) n (length bytes)) pages
      ∙ ap (λ (n : ℕ). piece_bytes_in (Four store device) 256 n) long

  example_pages : most_pages x geometry (length bytes) ≡ 33
  example_pages = ap (λ (n : ℕ). chunk_pages (shape x).format n) example_size ∙ ap (λ (f : Format). chunk_pages f 131063) four

  pub not_in_seven : AreChunksAtMost (shape x) 7 bytes → ⊥
  not_in_seven cut =
      let short : length bytes ≤ 7 * (shape x).piece_bytes (length bytes) = (length_by_cut (shape x) (shape_is x geometry) bytes 7 cut).1 in
      omega (arith, short, long, example_size)

  pub in_eight : AreChunksAtMost (shape x) 8 bytes
  in_eight = cut_by_length (shape x) (shape_is x geometry) bytes 8 (omega arith) (omega (arith, long, example_size))

  pub in_two_extents : (id : ShardId) → FillsExtents (shape x) 2 id bytes
  in_two_extents id = filled_together x geometry 7 2 id bytes
      (let most : 7 * most_pages x geometry (length bytes) ≤ x.pages = omega (arith, example_pages, pages) in most) (more in_eight)
    where
      more : AreChunksAtMost (shape x) 8 bytes → AreChunksAtMost (shape x) (7 * 2) bytes
      more cut = let few : length cut.0 ≤ 8 = cut.2 in (cut.0, cut.1, omega (arith, few))
