-- What the formats of one page share: a magic number, a digest of all before it, and zeros to the end of the page.
use Rattle.std.specs.Prelude.{ℕ, ◌+◌, ◌-◌, ◌==◌, List, ◌++◌, length, take, drop, Option, bytes_eq, slice_index}
use Rattle.cs_frame.specs.declared.faults.FormatFault.{FormatFault}
use Rattle.cs_frame.specs.declared.faults.FormatFault.TheVariants.{BadMagic, BadDigest, BadPadding, BadVersion}
use Rattle.cs_frame.specs.Bytes.{all_zero, field, zeros}
use Rattle.cs_frame.specs.Faults.{unless}
use Rattle.sha2.specs.Sha256.{sha256}

-- a text and its digest
abbrev pub sealed : List ℕ → List ℕ
sealed text = text ++ sha256 text

-- the page that has this text and then zeros
abbrev pub padded : List ℕ → List ℕ
padded text = text ++ zeros (4096 - length text)

-- the first three bytes are these
abbrev pub magic_test : List ℕ → List ℕ → Option FormatFault
magic_test magic bytes = unless (bytes_eq (field 0 3 bytes) magic) BadMagic

-- the fourth byte is this digit
abbrev pub digit_test : ℕ → List ℕ → Option FormatFault
digit_test digit bytes = unless (slice_index bytes 3 == digit) BadVersion

-- the fourth byte is the digit 1
abbrev pub version_test : List ℕ → Option FormatFault
version_test bytes = digit_test 49 bytes

-- the 32 bytes from this offset on are the digest of all bytes before
abbrev pub digest_test : ℕ → List ℕ → Option FormatFault
digest_test end bytes = unless (bytes_eq (field end (end + 32) bytes) (sha256 (take end bytes))) BadDigest

-- from this offset on there are zeros alone
abbrev pub padding_test : ℕ → List ℕ → Option FormatFault
padding_test end bytes = unless (all_zero (drop end bytes)) BadPadding
