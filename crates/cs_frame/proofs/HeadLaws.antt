-- Heads of chunks.
use Rattle.std.proofs.Common.{◌≡◌, ℕ, ◌+◌, List, ◌∷◌, ◌++◌, length, length-append, take, refl, ap, ◌∙◌, arith}
use Rattle.std.proofs.lemmas.List.{length-take-le, take_at}
use Rattle.byteorder.specs.Endian.{big_bytes}
use Rattle.law_machine.specs.Format.{Format, Four, Two}
use Rattle.law_machine.specs.Geometry.{head_bytes_in}
use Rattle.cs_frame.specs.Geometries.{FitsFormat}
use Rattle.cs_frame.specs.Heads.{body_in, chunk_in, spelled_head}
use Rattle.cs_frame.specs.Identifiers.{id_bytes}

-- a head has one size
pub length-head : (id number count command : ℕ) (front : List ℕ) → length front ≡ 8 → length (spelled_head id number count command front) ≡ 34
length-head id number count command front eight =
    let rest : ℕ = length (id_bytes id ++ number ∷ count ∷ big_bytes 8 command) in
    let size : length (id_bytes id ++ number ∷ count ∷ big_bytes 8 command) ≡ 26 = refl in
    omega (arith, size, eight, length-append (id_bytes id ++ number ∷ count ∷ big_bytes 8 command) front)

-- that of the store whose identity this is
store_head : (id number count command : ℕ) (store : List ℕ) (device : ℕ) → FitsFormat (Four store device)
    → length (spelled_head id number count command (take 8 store)) ≡ 34
store_head id number count command store device fits = length-head id number count command (take 8 store) (length-take-le 8 store (omega (arith, fits.0.size)))

-- a chunk has its piece and a head
pub length-chunk : (format : Format) (id number count command : ℕ) (piece : List ℕ) → FitsFormat format
    → length (chunk_in format id number count command piece) ≡ length piece + head_bytes_in format
length-chunk Two id number count command piece fits = omega arith
length-chunk (Four store device) id number count command piece fits =
    length-append piece (spelled_head id number count command (take 8 store)) ∙ ap (λ (n : ℕ). length piece + n) (store_head id number count command store device fits)

-- and the piece is read again
pub one_piece : (format : Format) (id number count command : ℕ) (piece : List ℕ) → FitsFormat format
    → body_in format (chunk_in format id number count command piece) ≡ piece
one_piece Two id number count command piece fits = refl
one_piece (Four store device) id number count command piece fits =
    let size = length-chunk (Four store device) id number count command piece fits in
    take_at piece (spelled_head id number count command (take 8 store)) _ (omega (arith, size))
