-- Lists of bytes: numbers spelled high byte first, fields at an offset, zeros.
use Rattle.std.specs.Prelude.{◌≡◌, ℕ, length, ◌-◌, ◌==◌, ◌<◌, Bool, List, take, drop, replicate, slice_index, slice_index_or, []}
use Rattle.std.specs.List.{list_all}
use Rattle.byteorder.specs.Endian.{big_number}

-- each is a byte
abbrev pub IsBytes : List ℕ → Type 0
IsBytes bytes = (i : ℕ) → slice_index bytes i < 256

-- a page has 4,096 bytes
pub record IsPage (page : List ℕ) : Type 0 where
  pub size : length page ≡ 4096
  pub bytes : IsBytes page

-- each of the lists has this length
abbrev pub EachHas : ℕ → List (List ℕ) → Type 0
EachHas size lists = (i : ℕ) → i < length lists → length (slice_index_or lists i []) ≡ size

-- so many zero bytes
abbrev pub zeros : ℕ → List ℕ
zeros count = replicate count 0

-- all of them are 0
abbrev pub all_zero : List ℕ → Bool
all_zero bytes = list_all (λ b. b == 0) bytes

-- the bytes from one offset up to another
abbrev pub field : (from to : ℕ) → List ℕ → List ℕ
field from to bytes = take (to - from) (drop from bytes)

-- the number spelled in the bytes from one offset up to another
abbrev pub number : (from to : ℕ) → List ℕ → ℕ
number from to bytes = big_number (to - from) (field from to bytes)
