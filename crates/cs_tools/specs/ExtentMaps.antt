-- What `stat --map` prints.
use Rattle.std.specs.Prelude.{ℕ, zero, suc, ◌+◌, ◌*◌, ◌/◌, ◌==◌, List, [], ◌∷◌, ◌++◌, codes, drop, flat_map, if◌then◌else◌, length, nat_lt, take}
use Rattle.cs_inspect.specs.declared.surveys.ExtentUse.{ExtentUse}

-- how many eighths of an extent's pages so many are, rounded down, and eight at most
abbrev pub eighths : (pages some : ℕ) → ℕ
eighths pages some = if nat_lt some pages then 8 * some / pages else 8

-- The character of an extent of so many pages: `!` where a header can't be read, `r` for runs of the index, `.` where
-- it is empty, and else 0 to 8 for the eighths of its pages that live.
abbrev pub mark_of : (pages : ℕ) → ExtentUse → ℕ
mark_of pages used = if used.unreadable == 0 then (if used.holds_runs then 114 else if used.pointer == 0 then 46 else 48 + eighths pages used.live) else 33

-- the row of this number, 64 extents or what is left of them
abbrev pub row_in : (number : ℕ) → List ExtentUse → List ExtentUse
row_in number uses = take 64 (drop (64 * number) uses)

abbrev pub mark_text : (pages : ℕ) → ExtentUse → List ℕ
mark_text pages used = mark_of pages used ∷ []

-- a row, and the end of its line
abbrev pub line_text : (pages : ℕ) → List ExtentUse → List ℕ
line_text pages row = flat_map (mark_text pages) row ++ 10 ∷ []

-- the rows before this one, one after another
abbrev pub rows_before : (pages number : ℕ) → List ExtentUse → List ℕ
rows_before pages zero uses = []
rows_before pages (suc n) uses = rows_before pages n uses ++ line_text pages (row_in n uses)

-- how many rows there are
abbrev pub row_count : List ExtentUse → ℕ
row_count uses = (length uses + 63) / 64

-- what the characters mean
abbrev pub legend : List ℕ
legend = codes ". empty, 0 to 8 eighths of its pages live, r runs of the index, ! a header cannot be read" ++ 10 ∷ []

abbrev pub map_text : (pages : ℕ) → List ExtentUse → List ℕ
map_text pages uses = rows_before pages (row_count uses) uses ++ legend
