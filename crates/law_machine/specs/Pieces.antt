-- How the bytes of a shard are cut in pieces.
use Rattle.std.specs.Prelude.{◌+◌, ◌*◌, ◌-◌, ◌/◌, ℕ, zero, suc, Bool, true, false, max, nat_le, if◌then◌else◌}
use Rattle.std.specs.Int.{div_ceil}
use Rattle.law_machine.specs.Format.{Format, Four, Two}

-- the bytes of a head: the identifier has 16, the chunk's number and how many there are have one each, the command's
-- number has 8, and 8 are of the store's identity
abbrev pub head_bytes_in : Format → ℕ
head_bytes_in Two = 0
head_bytes_in (Four store device) = 34

-- the greatest piece of a shard in one chunk, whose frame takes one whole extent: its header has 41 bytes
abbrev pub chunk_bytes_in : (format : Format) (pages : ℕ) → ℕ
chunk_bytes_in format pages = 4096 * pages - (41 + head_bytes_in format)

-- the least number of which so many together are as many as all, and 1 at least
abbrev pub share : (all count : ℕ) → ℕ
share all count = max (div_ceil all count) 1

-- of so many numbers from this one on the least that passes a test, else the one after them
abbrev pub least_passing : (test : ℕ → Bool) → (first count : ℕ) → ℕ
least_passing test first zero = first
least_passing test first (suc count) = if test first then first else least_passing test (suc first) count

-- what the greatest of so many numbers from this one on gives that passes a test, else this
abbrev pub of_greatest_passing : (test : ℕ → Bool) → (given : ℕ → ℕ) → (otherwise first count : ℕ) → ℕ
of_greatest_passing test given otherwise first zero = otherwise
of_greatest_passing test given otherwise first (suc count) =
    if test (first + count) then given (first + count) else of_greatest_passing test given otherwise first count

-- an eighth of an extent's pages, and one page at least
abbrev pub eighth : (pages : ℕ) → ℕ
eighth pages = max (pages / 8) 1

-- the pages of a chunk with so many bytes of a shard
abbrev pub chunk_pages : (format : Format) (piece : ℕ) → ℕ
chunk_pages format piece = (41 + (head_bytes_in format + piece) + 4095) / 4096

-- the pages of all chunks, if there are so many, and each but the last has so many bytes
abbrev pub pages_cut : (format : Format) (bytes size count : ℕ) → ℕ
pages_cut format bytes size count =
    (count - 1) * chunk_pages format size + chunk_pages format (bytes - (count - 1) * size)

-- in format 4 a shard is cut evenly
abbrev pub evenly_in : Format → Bool
evenly_in Two = false
evenly_in (Four store device) = true

module _ (format : Format) (pages : ℕ) where
  -- the fewest pieces: all but the last are as long as may be
  abbrev pub fewest : (bytes : ℕ) → ℕ
  fewest bytes = share bytes (chunk_bytes_in format pages)

  -- so many pieces of one size have chunks of an eighth of an extent at most
  abbrev pub is_small : (bytes count : ℕ) → Bool
  is_small bytes count = nat_le (chunk_pages format (share bytes count)) (eighth pages)

  -- they have at most a sixteenth more pages than the fewest pieces
  abbrev pub is_cheap : (bytes count : ℕ) → Bool
  is_cheap bytes count = nat_le (16 * pages_cut format bytes (share bytes count) count)
      (17 * pages_cut format bytes (chunk_bytes_in format pages) (fewest bytes))

  -- the least number of pieces that are small, else 8
  abbrev pub wanted : (bytes : ℕ) → ℕ
  wanted bytes = least_passing (is_small bytes) (fewest bytes) (8 - fewest bytes)

  -- the size of as many pieces as are wanted, or of the greatest number below it that is cheap; if none is cheap the pieces
  -- are as long as may be
  abbrev pub even_bytes : (bytes : ℕ) → ℕ
  even_bytes bytes = of_greatest_passing (is_cheap bytes) (share bytes) (chunk_bytes_in format pages) (fewest bytes)
      (suc (wanted bytes - fewest bytes))

-- how many bytes each piece but the last has, if a shard has so many: in format 2 as many as may be
abbrev pub piece_bytes_in : (format : Format) (pages bytes : ℕ) → ℕ
piece_bytes_in format pages bytes =
    if evenly_in format then even_bytes format pages bytes else chunk_bytes_in format pages
