-- What `stat --map-svg` draws: a picture in SVG.
use Rattle.std.specs.Prelude.{ℕ, ◌+◌, ◌-◌, ◌*◌, ◌/◌, ◌%◌, ◌==◌, List, [], ◌∷◌, ◌++◌, codes, decimal, flat_map, if◌then◌else◌, max, nat_lt}
use Rattle.std.specs.List.{enumerate_from}
use Rattle.cs_inspect.specs.declared.surveys.ExtentUse.{ExtentUse}
use Rattle.cs_tools.specs.ExtentMaps.{row_count}

-- ---- lines

-- a rectangle 10 pixels wide
abbrev pub rect_line : (left top height : ℕ) → (colour : List ℕ) → List ℕ
rect_line left top height colour =
    codes "<rect x='" ++ decimal left ++ codes "' y='" ++ decimal top ++ codes "' width='10' height='" ++ decimal height ++ codes "' fill='" ++ colour ++ codes "'/>" ++ 10 ∷ []

-- a word that begins there
abbrev pub word_line : (left bottom : ℕ) → (word : List ℕ) → List ℕ
word_line left bottom word = codes "<text x='" ++ decimal left ++ codes "' y='" ++ decimal bottom ++ codes "'>" ++ word ++ codes "</text>" ++ 10 ∷ []

-- the same of a number
abbrev pub number_line : (left bottom n : ℕ) → List ℕ
number_line left bottom n = word_line left bottom (decimal n)

-- ---- the bar of an extent

-- Each extent is a bar of 64 pixels, for all its pages. The bars stand 64 a row: each begins 12 pixels right of the one
-- before, and each row 72 pixels below the one before. The first begins 40 pixels from the left and from the top.
abbrev pub left_of : (number : ℕ) → ℕ
left_of number = 40 + 12 * (number % 64)

abbrev pub top_of : (number : ℕ) → ℕ
top_of number = 40 + 72 * (number / 64)

-- how many pixels so many of an extent's pages are, rounded up
abbrev pub pixels : (pages some : ℕ) → ℕ
pixels pages some = if nat_lt some pages then (64 * some + (pages - 1)) / pages else 64

-- How many pages the lower part of a bar stands for: those that live, or all that are given if they hold runs of the
-- index. If a header can't be read it is the whole bar.
abbrev pub lower_pages : (pages : ℕ) → ExtentUse → ℕ
lower_pages pages used = if used.unreadable == 0 then (if used.holds_runs then used.pointer else used.live) else pages

-- and in which colour
abbrev pub lower_colour : ExtentUse → List ℕ
lower_colour used = if used.unreadable == 0 then (if used.holds_runs then codes "seagreen" else codes "steelblue") else codes "crimson"

-- The part of a bar that reaches from so many pixels above its foot to so many, unless it has none.
abbrev pub part_text : (number : ℕ) → (colour : List ℕ) → (from to : ℕ) → List ℕ
part_text number colour from to = if nat_lt from to then rect_line (left_of number) (top_of number + (64 - to)) (to - from) colour else []

-- A bar: its lower part in this colour, what is dead up to what is given, and what is empty above that.
abbrev pub bar_text : (number : ℕ) → (colour : List ℕ) → (lower given : ℕ) → List ℕ
bar_text number colour lower given = part_text number colour 0 lower ++ part_text number (codes "orange") lower given ++ part_text number (codes "lightgrey") given 64

-- left of a row the number of its first extent
abbrev pub label_text : (number : ℕ) → List ℕ
label_text number = if number % 64 == 0 then number_line 4 (top_of number + 36) number else []

-- an extent by its number
abbrev pub extent_text : (pages : ℕ) → ℕ × ExtentUse → List ℕ
extent_text pages (number, used) =
    label_text number ++ bar_text number (lower_colour used) (pixels pages (lower_pages pages used)) (max (pixels pages (lower_pages pages used)) (pixels pages used.pointer))

-- ---- all of it

-- the beginning of a picture that is so many pixels high, on white
abbrev pub head_text : (height : ℕ) → List ℕ
head_text height =
    codes "<svg xmlns='http://www.w3.org/2000/svg' version='1.1' width='808' height='" ++ decimal height
    ++ codes "' font-family='sans-serif' font-size='12'><rect width='808' height='100%' fill='white'/>" ++ 10 ∷ []

-- a colour, and what it means
abbrev pub key_line : (left : ℕ) → (colour word : List ℕ) → List ℕ
key_line left colour word = rect_line left 10 10 colour ++ word_line (left + 14) 19 word

-- what the colours mean
abbrev pub key_text : List ℕ
key_text = key_line 40 (codes "steelblue") (codes "live") ++ key_line 110 (codes "orange") (codes "dead") ++ key_line 180 (codes "lightgrey") (codes "empty")
    ++ key_line 260 (codes "seagreen") (codes "runs of the index") ++ key_line 400 (codes "crimson") (codes "a header cannot be read")

abbrev pub end_line : List ℕ
end_line = codes "</svg>" ++ 10 ∷ []

-- the picture of these extents of so many pages
abbrev pub picture_text : (pages : ℕ) → List ExtentUse → List ℕ
picture_text pages uses = head_text (40 + 72 * row_count uses) ++ key_text ++ flat_map (extent_text pages) (enumerate_from 0 uses) ++ end_line
