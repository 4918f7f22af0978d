-- The pages of a frame, field by field, and the tests of its decoder in order.
use Rattle.std.specs.Prelude.{◌≡◌, ℕ, ◌+◌, ◌-◌, ◌*◌, ◌/◌, ◌^◌, ◌<◌, ◌==◌, List, [], ◌∷◌, ◌++◌, length, take, drop, flat_map, Option, codes, bytes_eq, nat_le, slice_index, slice_index_or}
use Rattle.std.specs.Simd.{first_chunks}
use Rattle.byteorder.specs.Endian.{big_bytes}
use Rattle.sha2.specs.Sha256.{sha256}
use Rattle.cs_frame.specs.declared.faults.FormatFault.{FormatFault}
use Rattle.cs_frame.specs.declared.faults.FormatFault.TheVariants.{BadDigest, BadLength, BadPadding, BadVersion}
use Rattle.cs_frame.specs.declared.frames.FrameKind.{FrameKind}
use Rattle.cs_frame.specs.declared.frames.FrameKind.TheVariants.{Chunk, Run}
use Rattle.cs_frame.specs.Bytes.{all_zero, field, number, zeros}
use Rattle.cs_frame.specs.Faults.{first_fault, unless}
use Rattle.cs_frame.specs.declared.formats.FormatNumber.{FormatNumber}
use Rattle.cs_frame.specs.FormatNumbers.{page_digit}
use Rattle.cs_frame.specs.Pages.{digit_test, magic_test}

-- the byte of a kind
abbrev pub kind_byte : FrameKind → ℕ
kind_byte Chunk = 0
kind_byte Run = 1

-- how many pages a frame takes: those that its header of 41 bytes and its payload begin
abbrev pub page_count : (payload_length : ℕ) → ℕ
page_count payload_length = (41 + payload_length + 4095) / 4096

-- |  0 | 3  | CSF                                |
-- |  3 | 1  | the digit 1 in format 2, and else 4 |
-- |  4 | 1  | kind                               |
-- |  5 | 4  | n, the payload length              |
-- |  9 | 32 | digest of the payload              |
-- | 41 | n  | payload                            |
abbrev pub frame_fields : FormatNumber → (kind : ℕ) → (payload : List ℕ) → List ℕ
frame_fields number kind payload =
    codes "CSF" ++ page_digit number ∷ [] ++ kind ∷ [] ++ big_bytes 4 (length payload) ++ sha256 payload ++ payload

-- the fields, then zeros up to the end of the last page
abbrev pub frame_bytes : FormatNumber → (kind : ℕ) → (payload : List ℕ) → List ℕ
frame_bytes number kind payload =
    frame_fields number kind payload ++ zeros (4096 * page_count (length payload) - (41 + length payload))

-- these bytes page by page
abbrev pub spelled_frame : FormatNumber → (kind : ℕ) → (payload : List ℕ) → List (List ℕ)
spelled_frame number kind payload = first_chunks 4096 (page_count (length payload)) (frame_bytes number kind payload)

-- the pages begin with the spelling of a frame of this kind with this payload
pub record SpellsFrame (number : FormatNumber) (kind : ℕ) (pages : List (List ℕ)) (payload : List ℕ) : Type 0 where
  pub fits : length payload < 2 ^ 32
  pub spelled : take (page_count (length payload)) pages ≡ spelled_frame number kind payload

-- the first of these pages
abbrev pub first_page : List (List ℕ) → List ℕ
first_page pages = slice_index_or pages 0 []

-- what the first page says of the payload's length
abbrev pub payload_length : (first : List ℕ) → ℕ
payload_length first = number 5 9 first

-- the frame that begins in the first of these pages has this many of them
abbrev pub frame_count : List (List ℕ) → ℕ
frame_count pages = page_count (payload_length (first_page pages))

-- all bytes of the frame's pages
abbrev pub bytes_in : List (List ℕ) → List ℕ
bytes_in pages = flat_map (λ page. page) (take (frame_count pages) pages)

-- the payload of the frame that these pages begin
abbrev pub payload_in : List (List ℕ) → List ℕ
payload_in pages = field 41 (41 + payload_length (first_page pages)) (bytes_in pages)

-- the kind is the expected one
abbrev pub kind_test : (kind : ℕ) → (first : List ℕ) → Option FormatFault
kind_test kind first = unless (slice_index first 4 == kind) BadVersion

-- the frame's pages lie there
abbrev pub room_test : (first : List ℕ) → (there : ℕ) → Option FormatFault
room_test first there = unless (nat_le (page_count (payload_length first)) there) BadLength

-- the tests of a frame's first page, in order, where so many pages lie from it as far as it may reach
abbrev pub header_tests : FormatNumber → (kind : ℕ) → (first : List ℕ) → (there : ℕ) → List (Option FormatFault)
header_tests number kind first there =
    magic_test (codes "CSF") first
    ∷ digit_test (page_digit number) first
    ∷ kind_test kind first
    ∷ room_test first there
    ∷ []

-- the first test of a frame's header that fails
abbrev pub header_fault : FormatNumber → (kind : ℕ) → (first : List ℕ) → (there : ℕ) → Option FormatFault
header_fault number kind first there = first_fault (header_tests number kind first there)

-- the digest is that of the payload
abbrev pub payload_test : List (List ℕ) → Option FormatFault
payload_test pages = unless (bytes_eq (field 9 41 (bytes_in pages)) (sha256 (payload_in pages))) BadDigest

-- after the payload there are zeros alone
abbrev pub rest_test : List (List ℕ) → Option FormatFault
rest_test pages = unless (all_zero (drop (41 + payload_length (first_page pages)) (bytes_in pages))) BadPadding

-- the tests of a frame in order
abbrev pub frame_tests : FormatNumber → (kind : ℕ) → List (List ℕ) → List (Option FormatFault)
frame_tests number kind pages =
    header_tests number kind (first_page pages) (length pages) ++ payload_test pages ∷ rest_test pages ∷ []

-- what is wrong with these pages, which lie from the first as far as it may reach, as a frame of this kind
abbrev pub frame_fault : FormatNumber → (kind : ℕ) → List (List ℕ) → Option FormatFault
frame_fault number kind pages = first_fault (frame_tests number kind pages)

-- the first eight bytes of a payload's digest
abbrev pub digest_front : (payload : List ℕ) → List ℕ
digest_front payload = take 8 (sha256 payload)

-- the mark of the frame with this payload, in a format that has marks
abbrev pub payload_mark : (payload : List ℕ) → ℕ
payload_mark payload = number 0 8 (sha256 payload)
