-- The lines that a script prints.
use Rattle.std.specs.Prelude.{ℕ, ◌+◌, List, [], ◌∷◌, ◌++◌, codes, decimal, length, Option, None, Some, if◌then◌else◌, ◌==◌}
use Rattle.std.specs.List.{flat_map}
use Rattle.cs_deps.specs.declared.elements.Element.{Element}
use Rattle.cs_deps.specs.declared.elements.Element.TheVariants.{Plain, Version}
use Rattle.cs_refusal.specs.declared.refusals.Refusal.{Refusal}
use Rattle.cs_refusal.specs.Refusals.{number_of, name_of}
use Rattle.hex.specs.Hex.{encode_lower}

-- a text and a line feed
abbrev pub line_of : List ℕ → List ℕ
line_of text = text ++ 10 ∷ []

-- the number of a put
abbrev pub put_line : ℕ → List ℕ
put_line n = line_of (codes "put " ++ decimal n)

-- the bytes of a shard in hex digits, or a dash for none
abbrev pub value_line : List ℕ → List ℕ
value_line [] = line_of (codes "value -")
value_line (x ∷ xs) = line_of (codes "value " ++ encode_lower (x ∷ xs))

-- there is no such shard
abbrev pub absent_line : List ℕ
absent_line = line_of (codes "absent")

-- the number of a delete
abbrev pub delete_line : ℕ → List ℕ
delete_line n = line_of (codes "del " ++ decimal n)

-- the extent, how many chunks were moved, and the version of the root
abbrev pub swept_line : ℕ → ℕ → ℕ → List ℕ
swept_line extent moved root = line_of (codes "sweep " ++ decimal extent ++ codes " moved " ++ decimal moved ++ codes " root r" ++ decimal root)

-- the line can't be read
abbrev pub bad_line : List ℕ
bad_line = line_of (codes "bad line")

-- how many of how many volatile writes a crash kept
abbrev pub crash_line : ℕ → ℕ → List ℕ
crash_line kept volatile = line_of (codes "crash kept " ++ decimal kept ++ codes " of " ++ decimal volatile)

-- how many commands and how many shards a store had as it was opened
abbrev pub open_line : ℕ → ℕ → List ℕ
open_line commands shards = line_of (codes "open commands " ++ decimal commands ++ codes " shards " ++ decimal shards)

-- the number and the name of a refusal
abbrev pub refusal_line : Refusal → List ℕ
refusal_line r = line_of (codes "refused " ++ decimal (number_of r) ++ codes " " ++ name_of r)

-- a round ended, and so many commands are persistent
abbrev pub end_line : ℕ → List ℕ
end_line n = line_of (codes "end acknowledged " ++ decimal n)

-- what is printed of a round that was out and was ended: how many commands are persistent then; nothing where none was
-- out
abbrev pub end_lines : Option ℕ → List ℕ
end_lines None = []
end_lines (Some n) = end_line n

-- the letters by family: of the first section of a superblock, of the root, and of the further sections in their order
abbrev pub letters : List ℕ
letters = codes "srabcdefghijklmn"

-- the letter of a family, the last one for all that come behind it
abbrev pub letter_of : ℕ → List ℕ
letter_of f = if f == 0 then codes "s" else if f == 1 then codes "r" else if f == 2 then codes "a" else if f == 3 then codes "b" else if f == 4 then codes "c"
    else if f == 5 then codes "d" else if f == 6 then codes "e" else if f == 7 then codes "f" else if f == 8 then codes "g" else if f == 9 then codes "h"
    else if f == 10 then codes "i" else if f == 11 then codes "j" else if f == 12 then codes "k" else if f == 13 then codes "l" else if f == 14 then codes "m"
    else codes "n"

-- a plain write, or a version of a family
abbrev pub element_name : Element → List ℕ
element_name (Plain n) = codes "w" ++ decimal n
element_name (Version f v) = letter_of f ++ decimal v

-- a space and a name for each element
abbrev pub element_names : List Element → List ℕ
element_names xs = flat_map (λ x. codes " " ++ element_name x) xs

-- the members of a round that begins
abbrev pub begin_line : List Element → List ℕ
begin_line round = line_of (codes "begin:" ++ element_names round)

-- a member of the round that was written to this page
abbrev pub issue_line : Element → ℕ → List ℕ
issue_line x page = line_of (codes "issue " ++ element_name x ++ codes " page " ++ decimal page)

-- nothing waits
abbrev pub idle_line : List ℕ
idle_line = line_of (codes "idle")

-- a round by its place, and its elements
abbrev pub round_line : ℕ → List Element → List ℕ
round_line i round = line_of (codes "round " ++ decimal i ++ codes ":" ++ element_names round)

-- a chain, or a dash for none
abbrev pub chain_line : List Element → List ℕ
chain_line [] = line_of (codes "chain: -")
chain_line (x ∷ xs) = line_of (codes "chain:" ++ element_names (x ∷ xs))

-- how many rounds there are
abbrev pub flushes_line : ℕ → List ℕ
flushes_line n = line_of (codes "flushes " ++ decimal n)

-- how many commands are persistent
abbrev pub acknowledged_line : ℕ → List ℕ
acknowledged_line n = line_of (codes "acknowledged " ++ decimal n)

-- the lines of rounds, the first of which has this number
abbrev pub round_lines : ℕ → List (List Element) → List ℕ
round_lines i [] = []
round_lines i (round ∷ rounds) = round_line i round ++ round_lines (i + 1) rounds

-- the lines of a plan: its rounds, its chain and how many flushes it takes
abbrev pub plan_lines : List (List Element) → List Element → List ℕ
plan_lines rounds chain = round_lines 1 rounds ++ chain_line chain ++ flushes_line (length rounds)

-- the line of a plan that was checked
abbrev pub optimal_line : ℕ → List ℕ
optimal_line n = line_of (codes "optimal " ++ decimal n)
