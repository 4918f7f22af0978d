-- How replies are spelled.
use Rattle.std.specs.Prelude.{ℕ, ℤ, List, ◌∷◌, ◌++◌, length, map, codes, ◌==◌, ◌||◌, if◌then◌else◌}
use Rattle.std.specs.List.{flat_map}
use Rattle.std.specs.Fmt.{signed_decimal}
use Rattle.cs_resp.specs.declared.replies.Item.{Item}
use Rattle.cs_resp.specs.declared.replies.Item.TheVariants.{Simple, Error, Integer, Bulk, Null}
use Rattle.cs_resp.specs.declared.replies.Element.{Element}
use Rattle.cs_resp.specs.declared.replies.Element.TheVariants as elements
use Rattle.cs_resp.specs.declared.replies.Reply.{Reply}
use Rattle.cs_resp.specs.declared.replies.Reply.TheVariants as replies
use Rattle.cs_resp.specs.Spelling.{line_end, spelled_count, spelled_bulk}

-- a byte of a line: CR and LF, which would end it, are spelled as spaces
abbrev pub blank : ℕ → ℕ
blank b = if b == 13 || b == 10 then 32 else b

-- a sign, a text, and a line break
abbrev pub spelled_line : ℕ → List ℕ → List ℕ
spelled_line sign text = sign ∷ (map blank text ++ line_end)

-- `:`, a number in decimal digits, and a line break
abbrev pub spelled_integer : ℤ → List ℕ
spelled_integer n = 58 ∷ (signed_decimal n ++ line_end)

-- a bulk string that isn't there
abbrev pub spelled_null : List ℕ
spelled_null = codes "$-1\r\n"

-- what isn't an array
abbrev pub spelled_item : Item → List ℕ
spelled_item (Simple text) = spelled_line 43 text.items
spelled_item (Error text) = spelled_line 45 text.items
spelled_item (Integer n) = spelled_integer n
spelled_item (Bulk bytes) = spelled_bulk bytes.items
spelled_item Null = spelled_null

-- an array: `*`, how many it has, and each of them
abbrev pub spelled_items : List Item → List ℕ
spelled_items items = spelled_count 42 (length items) ++ flat_map spelled_item items

abbrev pub spelled_element : Element → List ℕ
spelled_element (elements.One item) = spelled_item item
spelled_element (elements.Array items) = spelled_items items.items

abbrev pub spelled_elements : List Element → List ℕ
spelled_elements es = spelled_count 42 (length es) ++ flat_map spelled_element es

-- a reply
abbrev pub spelled_reply : Reply → List ℕ
spelled_reply (replies.One item) = spelled_item item
spelled_reply (replies.Array es) = spelled_elements es.items
