-- What a line of a script says.
use Rattle.std.specs.Prelude.{ℕ, Bool, true, List, [], ◌∷◌, length, codes, nat_lt, ◌==◌, ◌&&◌, ◌||◌, ◌^◌, if◌then◌else◌, filter, map, Option, Some, None, option_map, unwrap_or, Result, Ok, Err}
use Rattle.std.specs.List.{list_all, slice_split}
use Rattle.std.specs.Char.{is_ascii_digit}
use Rattle.std.specs.Str.{bytes_eq}
use Rattle.std.specs.Str.Parse.{digits_value}
use Rattle.uuid.specs.Text.{parsed}
use Rattle.hex.specs.Hex.{decode_of}
use Rattle.hex.specs.declared.error.FromHexError.{FromHexError}
use Rattle.cs_script.specs.declared.lines.Line.{Line}
use Rattle.cs_script.specs.declared.lines.Line.TheVariants.{Put, Get, Delete, Sweep, Sync, Step, Plan, Document, Crash, Nothing, Bad}

-- to put these bytes under this identifier, to get or to delete what is under it, to sweep this extent, to make all
-- persistent, to make one step of that, to print the plan for it or its document, to crash and to keep those of the
-- volatile writes for which the mask says true, nothing, or it isn't readable
pub data Said : Type 0 where
  says_put : List ℕ → List ℕ → Said
  says_get : List ℕ → Said
  says_delete : List ℕ → Said
  says_sweep : ℕ → Said
  says_sync : Said
  says_step : Said
  says_plan : Said
  says_document : Said
  says_crash : List Bool → Said
  says_nothing : Said
  unreadable : Said

-- what a line says as it was read
abbrev pub said_by : Line → Said
said_by (Put id bytes) = says_put id bytes.items
said_by (Get id) = says_get id
said_by (Delete id) = says_delete id
said_by (Sweep extent) = says_sweep extent
said_by Sync = says_sync
said_by Step = says_step
said_by Plan = says_plan
said_by Document = says_document
said_by (Crash mask) = says_crash mask.items
said_by Nothing = says_nothing
said_by Bad = unreadable

-- an empty line, or one that begins with `#`
abbrev pub is_silent : List ℕ → Bool
is_silent [] = true
is_silent (b ∷ bs) = b == 35

-- the words of a line, which spaces part
abbrev pub words : List ℕ → List (List ℕ)
words text = filter (λ word. nat_lt 0 (length word)) (slice_split (λ b. b == 32) text)

-- the bytes that hex digits spell, where they do
abbrev pub ok_of : Result (List ℕ) FromHexError → Option (List ℕ)
ok_of (Ok bytes) = Some bytes
ok_of (Err e) = None

-- the bytes of hex digits, `-` for none
abbrev pub payload_of : List ℕ → Option (List ℕ)
payload_of word = if bytes_eq word (codes "-") then Some [] else ok_of (decode_of word)

-- to put what was read, if both words are readable
abbrev pub put_of : Option (List ℕ) → Option (List ℕ) → Said
put_of (Some id) (Some bytes) = says_put id bytes
put_of (Some id) None = unreadable
put_of None payload = unreadable

-- with these words behind `put`
abbrev pub said_put : List (List ℕ) → Said
said_put [] = unreadable
said_put (id ∷ []) = unreadable
said_put (id ∷ payload ∷ []) = put_of (parsed id) (payload_of payload)
said_put (id ∷ payload ∷ word ∷ rest) = unreadable

-- the identifier that these words are, where there is one word alone
abbrev pub one_id : List (List ℕ) → Option (List ℕ)
one_id [] = None
one_id (id ∷ []) = parsed id
one_id (id ∷ word ∷ rest) = None

-- with these words behind `get`
abbrev pub said_get : List (List ℕ) → Said
said_get rest = unwrap_or (option_map says_get (one_id rest)) unreadable

-- with these words behind `del`
abbrev pub said_delete : List (List ℕ) → Said
said_delete rest = unwrap_or (option_map says_delete (one_id rest)) unreadable

-- the number that a word of decimal digits stands for, where it is below 2^64
abbrev pub decimal_of : List ℕ → Option ℕ
decimal_of word = if list_all is_ascii_digit word && (nat_lt 0 (length word) && nat_lt (digits_value 10 word) (2 ^ 64)) then Some (digits_value 10 word) else None

-- the number that these words are, where there is one word alone
abbrev pub one_number : List (List ℕ) → Option ℕ
one_number [] = None
one_number (number ∷ []) = decimal_of number
one_number (number ∷ word ∷ rest) = None

-- with these words behind `sweep`
abbrev pub said_sweep : List (List ℕ) → Said
said_sweep rest = unwrap_or (option_map says_sweep (one_number rest)) unreadable

-- the digit 1
abbrev pub is_one : ℕ → Bool
is_one b = b == 49

-- a binary digit
abbrev pub is_binary : ℕ → Bool
is_binary b = b == 48 || b == 49

-- the truth values of binary digits, 1 for true, and `-` for none
abbrev pub mask_of : List ℕ → Option (List Bool)
mask_of word = if bytes_eq word (codes "-") then Some [] else if list_all is_binary word then Some (map is_one word) else None

-- to crash with the mask that was read, if it was
abbrev pub crash_of : Option (List Bool) → Said
crash_of (Some mask) = says_crash mask
crash_of None = unreadable

-- with these words behind `crash`
abbrev pub said_crash : List (List ℕ) → Said
said_crash [] = unreadable
said_crash (digits ∷ []) = crash_of (mask_of digits)
said_crash (digits ∷ word ∷ rest) = unreadable

-- with these words behind a word that stands alone
abbrev pub said_alone : Said → List (List ℕ) → Said
said_alone said [] = said
said_alone said (word ∷ rest) = unreadable

-- what a first word says that stands alone
abbrev pub said_by_word : List ℕ → Said
said_by_word word = if bytes_eq word (codes "sync") then says_sync else if bytes_eq word (codes "step") then says_step else if bytes_eq word (codes "plan") then says_plan else if bytes_eq word (codes "document") then says_document else unreadable

-- what the words of a line say: its first one is the command
abbrev pub said_words : List (List ℕ) → Said
said_words [] = unreadable
said_words (word ∷ rest) = if bytes_eq word (codes "put") then said_put rest else if bytes_eq word (codes "get") then said_get rest else if bytes_eq word (codes "del") then said_delete rest else if bytes_eq word (codes "sweep") then said_sweep rest else if bytes_eq word (codes "crash") then said_crash rest else said_alone (said_by_word word) rest

-- what a line says, without its line feed
abbrev pub said_of : List ℕ → Said
said_of text = if is_silent text then says_nothing else said_words (words text)
