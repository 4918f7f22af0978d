-- Why a line of a script isn't readable.
use Rattle.std.specs.Prelude.{◌≡◌, ◌⊎◌, ℕ, Bool, List, [], ◌∷◌, codes, Option, Some, None, if◌then◌else◌, ◌||◌}
use Rattle.std.specs.List.{list_all}
use Rattle.std.specs.Str.{IsUtf8, bytes_eq}
use Rattle.uuid.specs.Text.{parsed}
use Rattle.cs_script.specs.declared.bad_lines.BadLine.{BadLine}
use Rattle.cs_script.specs.declared.bad_lines.BadLine.TheVariants.{NotUtf8, NoCommand, MissingWord, ExtraWord, NoIdentifier, NoPayload, NoNumber, NoMask, NotInMemory, MaskLength}
use Rattle.cs_script.specs.Lines.{is_binary, words}

-- the first word, or no byte where there is none
abbrev pub first_of : List (List ℕ) → List ℕ
first_of [] = []
first_of (word ∷ rest) = word

-- with both words after `put`, by what the first is
abbrev pub why_id : Option (List ℕ) → BadLine
why_id (Some id) = NoPayload
why_id None = NoIdentifier

-- with these words after `put`
abbrev pub why_put : List (List ℕ) → BadLine
why_put [] = MissingWord
why_put (id ∷ []) = MissingWord
why_put (id ∷ payload ∷ []) = why_id (parsed id)
why_put (id ∷ payload ∷ word ∷ rest) = ExtraWord

-- with these words after a command that wants one word, which isn't of the kind that is wanted where it is alone
abbrev pub why_one : BadLine → List (List ℕ) → BadLine
why_one otherwise [] = MissingWord
why_one otherwise (one ∷ []) = otherwise
why_one otherwise (one ∷ word ∷ rest) = ExtraWord

-- binary digits, or a dash
abbrev pub is_mask : List ℕ → Bool
is_mask word = bytes_eq word (codes "-") || list_all is_binary word

-- with these words after `crash`, over a disk that can crash or can't
abbrev pub why_crash : (can_crash : Bool) → List (List ℕ) → BadLine
why_crash can_crash [] = MissingWord
why_crash can_crash (digits ∷ []) = if is_mask digits then if can_crash then MaskLength else NotInMemory else NoMask
why_crash can_crash (digits ∷ word ∷ rest) = ExtraWord

-- a command that stands alone
abbrev pub stands_alone : List ℕ → Bool
stands_alone word = bytes_eq word (codes "sync") || (bytes_eq word (codes "step") || (bytes_eq word (codes "plan") || bytes_eq word (codes "document")))

-- with these words after such a command: alone only `step` isn't readable, where the disk can't crash
abbrev pub why_alone : List (List ℕ) → BadLine
why_alone [] = NotInMemory
why_alone (word ∷ rest) = ExtraWord

-- why a line with these words isn't readable
abbrev pub why_words : (can_crash : Bool) → List (List ℕ) → BadLine
why_words can_crash [] = MissingWord
why_words can_crash (word ∷ rest) = if bytes_eq word (codes "put") then why_put rest else if bytes_eq word (codes "get") || bytes_eq word (codes "del") then why_one NoIdentifier rest else if bytes_eq word (codes "sweep") then why_one NoNumber rest else if bytes_eq word (codes "crash") then why_crash can_crash rest else if stands_alone word then why_alone rest else NoCommand

-- why a line that isn't readable isn't, over a disk that can crash or can't: it isn't UTF-8, or else by its words
abbrev pub IsWhy : (can_crash : Bool) → (text : List ℕ) → BadLine → Type 0
IsWhy can_crash text why = (IsUtf8 text × (why ≡ why_words can_crash (words text))) ⊎ ((¬ IsUtf8 text) × (why ≡ NotUtf8))
