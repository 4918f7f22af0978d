-- The picture of a plan, in the DOT language of Graphviz: its lines, from the lists of a document.
use Rattle.std.specs.Prelude.{ℕ, ◌+◌, List, [], ◌∷◌, ◌++◌, Bool, ◌&&◌, ◌||◌, ◌==◌, nat_le, codes, decimal, filter, flat_map, map, slice_index}
use Rattle.std.specs.List.{list_any}
use Rattle.cs_deps.specs.declared.elements.Element.{Element}
use Rattle.cs_deps.specs.declared.elements.Element.TheVariants.{Plain, Version}
use Rattle.cs_deps.specs.declared.spans.Span.{Span}
use Rattle.cs_deps.specs.Named.{Named}
use Rattle.cs_check.specs.Names.{name_of}
use Rattle.cs_check.specs.Documents.{elements_in}

-- a text and a line feed
abbrev pub line_of : List ℕ → List ℕ
line_of text = text ++ 10 ∷ []

-- the code of the quotation mark
abbrev pub quote : ℕ
quote = 34

-- The first lines. An element or an arrow that is named twice in a strict graph is one, and has what either line says of it.
abbrev pub first_lines : List ℕ
first_lines = line_of (codes "strict digraph plan {") ++ line_of (codes "  rankdir=RL;") ++ line_of (codes "  node [shape=box, style=solid];")

-- an element of a round
abbrev pub member_line : List ℕ → Element → List ℕ
member_line letters x = line_of (codes "    " ++ name_of letters x ++ codes ";")

-- the box of a round begins
abbrev pub box_line : ℕ → List ℕ
box_line k = line_of (codes "  subgraph cluster_" ++ decimal k ++ codes " {")

-- the text at the box of a round
abbrev pub label_line : ℕ → List ℕ
label_line k = line_of (codes "    label=" ++ quote ∷ codes "round " ++ decimal k ++ quote ∷ codes ";")

-- a round by its number: a box around its elements
abbrev pub round_lines : List ℕ → ℕ → List Element → List ℕ
round_lines letters k round = box_line k ++ label_line k ++ flat_map (member_line letters) round ++ line_of (codes "  }")

-- rounds, the first of which has this number
abbrev pub rounds_lines : List ℕ → ℕ → List (List Element) → List ℕ
rounds_lines letters k [] = []
rounds_lines letters k (round ∷ rounds) = round_lines letters k round ++ rounds_lines letters (k + 1) rounds

-- elements that are new from here on are dashed
abbrev pub dashed_line : List ℕ
dashed_line = line_of (codes "  node [style=dashed];")

-- an element
abbrev pub element_line : List ℕ → Element → List ℕ
element_line letters x = line_of (codes "  " ++ name_of letters x ++ codes ";")

-- an arrow: x waits for y
abbrev pub arrow_line : List ℕ → Element → Element → List ℕ
arrow_line letters x y = line_of (codes "  " ++ name_of letters x ++ codes " -> " ++ name_of letters y ++ codes ";")

-- an element of the target has two borders
abbrev pub target_line : List ℕ → Element → List ℕ
target_line letters x = line_of (codes "  " ++ name_of letters x ++ codes " [peripheries=2];")

-- an element of the chain is bold
abbrev pub bold_line : List ℕ → Element → List ℕ
bold_line letters x = line_of (codes "  " ++ name_of letters x ++ codes " [penwidth=2];")

-- an arrow of the chain is bold: x waits for y
abbrev pub bold_arrow_line : List ℕ → Element → Element → List ℕ
bold_arrow_line letters x y = line_of (codes "  " ++ name_of letters x ++ codes " -> " ++ name_of letters y ++ codes " [penwidth=2];")

-- in a chain each element waits for the one before it
abbrev pub link_lines : List ℕ → List Element → List ℕ
link_lines letters [] = []
link_lines letters (x ∷ []) = []
link_lines letters (x ∷ y ∷ ys) = bold_arrow_line letters y x ++ link_lines letters (y ∷ ys)

-- whether n is one of a span's
abbrev pub is_in : ℕ → Span → Bool
is_in n s = nat_le s.first n && nat_le n s.last

-- whether d names x, and no later version of its family
abbrev pub is_named : Named → Element → Bool
is_named d (Plain n) = (nat_le 1 n && nat_le n d.through) || list_any (is_in n) d.spans
is_named d (Version f v) = nat_le 1 v && (v == slice_index d.least f)

-- the waiting elements that d names, of each family the last version alone
abbrev pub named_in : List (Element × Named) → Named → List Element
named_in waiting d = filter (is_named d) (elements_in waiting)

-- an arrow to each waiting element that w needs
abbrev pub need_lines : List ℕ → List (Element × Named) → Element × Named → List ℕ
need_lines letters waiting w = flat_map (arrow_line letters w.0) (named_in waiting w.1)

-- the last line
abbrev pub last_line : List ℕ
last_line = line_of (codes "}")

-- the lines of a plan document: its rounds, what waits, the needs, the target and the chain
abbrev pub picture : List ℕ → List (Element × Named) → Named → List (List Element) → List Element → List ℕ
picture letters waiting target rounds chain = first_lines
    ++ rounds_lines letters 1 rounds
    ++ dashed_line
    ++ flat_map (element_line letters) (elements_in waiting)
    ++ flat_map (need_lines letters waiting) waiting
    ++ flat_map (target_line letters) (named_in waiting target)
    ++ flat_map (bold_line letters) chain
    ++ link_lines letters chain
    ++ last_line
