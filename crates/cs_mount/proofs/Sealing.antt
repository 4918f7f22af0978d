-- What spells a section is a page.
use Rattle.std.proofs.Common.{◌≡◌, ◌<◌, ◌-◌, ◌%◌, ℕ, zero, suc, List, [], ◌∷◌, ◌++◌, length, replicate, slice_index, arith, length-append, codes}
use Rattle.std.specs.Int.{byte_at, bytes_high_first, to_be_bytes, w32}
use Rattle.std.proofs.lemmas.List.{length-replicate}
use Rattle.sha2.specs.Sha256.{digest_bytes, sha256}
use Rattle.sha2.proofs.Facts256.{length-sha256}
use Rattle.cs_frame.specs.Bytes.{IsBytes, zeros}
use Rattle.cs_frame.specs.declared.formats.FormatNumber.{FormatNumber}
use Rattle.cs_frame.specs.declared.formats.FormatNumber.TheVariants as of_number
use Rattle.cs_frame.specs.FormatNumbers.{number_in, section_digit}
use Rattle.cs_frame.specs.Geometries.{FitsFormat}
use Rattle.cs_frame.specs.Pages.{sealed}
use Rattle.cs_frame.specs.Pointers.{spelled_extents}
use Rattle.cs_frame.specs.Superblocks.{FitsSuperblock, spelled_store, spelled_superblock, superblock_fields}
use Rattle.cs_frame.proofs.GeometryLaws.{bounds}
use Rattle.cs_frame.proofs.SuperblockLaws.{end_in_page, length-superblock_fields}
use Rattle.law_machine.specs.Format.{Format, Four, Two}

below : (n : ℕ) → n % 256 < 256
below n = omega arith

byte_below : (i n : ℕ) → byte_at i n < 256
byte_below zero n = below n
byte_below (suc i) n = below _

no_bytes : IsBytes []
no_bytes i = omega arith

more_bytes : (x : ℕ) (xs : List ℕ) → x < 256 → IsBytes xs → IsBytes (x ∷ xs)
more_bytes x xs lt are zero = lt
more_bytes x xs lt are (suc i) = are i

both_bytes : (xs ys : List ℕ) → IsBytes xs → IsBytes ys → IsBytes (xs ++ ys)
both_bytes [] ys first last i = last i
both_bytes (x ∷ xs) ys first last zero = first zero
both_bytes (x ∷ xs) ys first last (suc i) = both_bytes xs ys (λ k. first (suc k)) last i

high_bytes : (n x : ℕ) → IsBytes (bytes_high_first n x)
high_bytes zero x = no_bytes
high_bytes (suc n) x = more_bytes (byte_at n x) (bytes_high_first n x) (byte_below n x) (high_bytes n x)

zero_bytes : (n : ℕ) → IsBytes (replicate n 0)
zero_bytes zero i = omega arith
zero_bytes (suc n) zero = omega arith
zero_bytes (suc n) (suc i) = zero_bytes n i

digest_is_bytes : (h : List ℕ) (n : ℕ) → IsBytes (digest_bytes h n)
unfolding digest_bytes
digest_is_bytes h zero = no_bytes
digest_is_bytes h (suc n) = both_bytes (digest_bytes h n) (to_be_bytes w32 (slice_index h n)) (digest_is_bytes h n) (high_bytes 4 (slice_index h n))

sha_bytes : (m : List ℕ) → IsBytes (sha256 m)
unfolding sha256
sha_bytes m = digest_is_bytes _ 8

row_bytes : (rows : List (ℕ × ℕ)) → IsBytes (spelled_extents rows)
row_bytes [] = no_bytes
row_bytes (row ∷ rows) = both_bytes (bytes_high_first 2 row.0 ++ bytes_high_first 4 row.1) (spelled_extents rows) (both_bytes (bytes_high_first 2 row.0) (bytes_high_first 4 row.1) (high_bytes 2 row.0) (high_bytes 4 row.1)) (row_bytes rows)

magic_bytes : IsBytes (codes "CSS")
magic_bytes = more_bytes 67 (83 ∷ 83 ∷ []) (omega arith) (more_bytes 83 (83 ∷ []) (omega arith) (more_bytes 83 [] (omega arith) no_bytes))

-- what a section says of its store and of the root
store_bytes : (format : Format) (recorded : ℕ) → FitsFormat format → IsBytes (spelled_store format recorded)
store_bytes Two recorded fits = no_bytes
store_bytes (Four store device) recorded fits =
    both_bytes (bytes_high_first 8 device ++ store) (bytes_high_first 8 recorded) (both_bytes (bytes_high_first 8 device) store (high_bytes 8 device) fits.0.bytes) (high_bytes 8 recorded)

digit_below : (n : FormatNumber) → section_digit n < 256
digit_below of_number.Two = omega arith
digit_below of_number.Four = omega arith

module _ (format : Format) (version recorded extents pages sections section : ℕ) (written : List (ℕ × ℕ)) (fits : FitsSuperblock format version recorded extents pages sections section written) where
  abbrev text : List ℕ
  text = superblock_fields format version recorded extents pages sections section written

  abbrev digit : ℕ
  digit = section_digit (number_in format)

  abbrev front : List ℕ
  front = codes "CSS" ++ digit ∷ [] ++ bytes_high_first 8 version ++ bytes_high_first 2 extents ++ bytes_high_first 2 pages

  front_bytes : IsBytes front
  front_bytes =
      both_bytes (codes "CSS" ++ digit ∷ [] ++ bytes_high_first 8 version ++ bytes_high_first 2 extents) (bytes_high_first 2 pages)
      (both_bytes (codes "CSS" ++ digit ∷ [] ++ bytes_high_first 8 version) (bytes_high_first 2 extents)
      (both_bytes (codes "CSS" ++ digit ∷ []) (bytes_high_first 8 version) (both_bytes (codes "CSS") (digit ∷ []) magic_bytes (more_bytes digit [] (digit_below (number_in format)) no_bytes)) (high_bytes 8 version)) (high_bytes 2 extents)) (high_bytes 2 pages)

  sections_below : sections < 256
  sections_below = let most = (bounds format extents pages sections fits.geometry).most_sections in omega (arith, most)

  section_below : section < 256
  section_below = omega (arith, sections_below, fits.one_of_them)

  text_bytes : IsBytes text
  text_bytes =
      both_bytes (front ++ sections ∷ [] ++ section ∷ [] ++ spelled_store format recorded) (spelled_extents written)
      (both_bytes (front ++ sections ∷ [] ++ section ∷ []) (spelled_store format recorded)
      (both_bytes (front ++ sections ∷ []) (section ∷ []) (both_bytes front (sections ∷ []) front_bytes (more_bytes sections [] sections_below no_bytes)) (more_bytes section [] section_below no_bytes))
      (store_bytes format recorded fits.geometry.fits_format)) (row_bytes written)

  pub spelled_bytes : IsBytes (spelled_superblock format version recorded extents pages sections section written)
  spelled_bytes = both_bytes (sealed text) (zeros (4096 - length (sealed text))) (both_bytes text (sha256 text) text_bytes (sha_bytes text)) (zero_bytes (4096 - length (sealed text)))

  pub length-spelled : length (spelled_superblock format version recorded extents pages sections section written) ≡ 4096
  length-spelled = omega (
    arith,
    length-append (sealed text) (zeros (4096 - length (sealed text))),
    length-replicate {A = ℕ} (4096 - length (sealed text)) 0,
    length-append text (sha256 text),
    length-sha256 text,
    length-superblock_fields format version recorded extents pages sections section written fits.geometry.fits_format,
    fits.count,
    end_in_page (number_in format) format extents pages sections section fits.geometry,
  )
