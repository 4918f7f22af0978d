-- Sizes as they are written on a command line.
use Rattle.std.specs.Prelude.{ℕ, ◌-◌, ◌*◌, ◌^◌, ◌==◌, List, Option, None, Some, if◌then◌else◌, length, nat_lt, option_and_then, slice_get, take}
use Rattle.cs_script.specs.Lines.{decimal_of}

-- what a letter behind a number stands for: K, M, G or T, or none of them
abbrev pub letter_unit : Option ℕ → ℕ
letter_unit None = 1
letter_unit (Some letter) =
    if letter == 75 then 1024 else if letter == 77 then 1048576 else if letter == 71 then 1073741824 else if letter == 84 then 1099511627776 else 1

-- the unit of a text
abbrev pub unit_behind : List ℕ → ℕ
unit_behind text = letter_unit (slice_get text (length text - 1))

-- the text without the letter of its unit
abbrev pub digits_before : List ℕ → List ℕ
digits_before text = if unit_behind text == 1 then text else take (length text - 1) text

-- so many units, where that is below 2^64
abbrev pub times : (unit number : ℕ) → Option ℕ
times unit number = if nat_lt (number * unit) (2 ^ 64) then Some (number * unit) else None

-- how many bytes a text stands for
abbrev pub size_of : List ℕ → Option ℕ
size_of text = option_and_then (times (unit_behind text)) (decimal_of (digits_before text))
