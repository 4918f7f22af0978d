-- Reading from left to right: what stands at the front and the bytes after it, or where that ends. This says which fault is the first.
use Rattle.std.specs.Prelude.{◌≡◌, ◌≤◌, ◌+◌, ◌-◌, ◌*◌, ⊤, ℕ, zero, suc, List, [], ◌∷◌, length, take, drop, Result, Ok, Err, nat_lt, nat_le, ◌==◌, if◌then◌else◌}
use Rattle.std.specs.Char.{is_ascii_digit}
use Rattle.cs_resp.specs.declared.faults.Fault.{Fault}
use Rattle.cs_resp.specs.declared.faults.Fault.TheVariants.{NotAnArray, NestedArray, NotABulk, BadLength, TooManyArguments, BulkTooLong, RequestTooLong, NoBulkEnd}
use Rattle.cs_resp.specs.declared.faults.End.{End}
use Rattle.cs_resp.specs.declared.faults.End.TheVariants.{More, Wrong}
use Rattle.cs_resp.specs.declared.faults.Stop.{Stop}
use Rattle.cs_resp.specs.declared.faults.Stop.TheVariants.{Memory, Ends}
use Rattle.cs_resp.specs.declared.limits.Limits.{Limits}
use Rattle.cs_resp.specs.declared.progress.Progress.{Progress}
use Rattle.cs_resp.specs.declared.progress.Progress.TheVariants as progress
use Rattle.cs_resp.specs.Spelling.{texts}

infixl 10 ◌>>=◌
abbrev pub ◌>>=◌ : {A B : Type 0} → Result A End → (A → Result B End) → Result B End
(Ok x) >>= f = f x
(Err e) >>= f = Err e

-- What a function returned, seen by view, is what reading gives.
abbrev pub Gives : {X Y : Type 0} → (X → Y) → Result X End → Result Y End → Type 0
Gives view (Ok x) read = read ≡ Ok (view x)
Gives view (Err e) read = read ≡ Err e

-- It stopped where reading ends, or because memory ran out.
abbrev pub Stops : {Y : Type 0} → Stop → Result Y End → Type 0
Stops Memory read = ⊤
Stops (Ends e) read = read ≡ Err e

-- the same, unless memory ran out
abbrev pub GivesOrStops : {X Y : Type 0} → (X → Y) → Result X Stop → Result Y End → Type 0
GivesOrStops view (Ok x) read = read ≡ Ok (view x)
GivesOrStops view (Err e) read = Stops e read

-- this byte, or else this fault
abbrev pub byte_at : ℕ → Fault → List ℕ → Result (List ℕ) End
byte_at b fault [] = Err More
byte_at b fault (x ∷ xs) = if x == b then Ok xs else Err (Wrong fault)

-- a line break
abbrev pub line_end_at : Fault → List ℕ → Result (List ℕ) End
line_end_at fault bytes = byte_at 13 fault bytes >>= λ rest. byte_at 10 fault rest

-- a number with one more digit
abbrev pub with_digit : ℕ → Fault → ℕ → ℕ → Result ℕ End
with_digit most fault n b = if is_ascii_digit b then (if nat_lt most (n * 10 + (b - 48)) then Err (Wrong fault) else Ok (n * 10 + (b - 48))) else Err (Wrong BadLength)

-- further digits of a number, and a line break
unfoldable pub digits_at : ℕ → Fault → ℕ → List ℕ → Result (ℕ × List ℕ) End
digits_at most fault n [] = Err More
digits_at most fault n (b ∷ bs) = if b == 13 then (byte_at 10 BadLength bs >>= λ rest. Ok (n, rest)) else (with_digit most fault n b >>= λ m. digits_at most fault m bs)

-- a number in decimal digits without leading zeros, and a line break
unfoldable pub number_at : ℕ → Fault → List ℕ → Result (ℕ × List ℕ) End
number_at most fault [] = Err More
number_at most fault (b ∷ bs) = if b == 48 then (line_end_at BadLength bs >>= λ rest. Ok (0, rest)) else (with_digit most fault 0 b >>= λ m. digits_at most fault m bs)

-- so many bytes
abbrev pub bytes_at : ℕ → List ℕ → Result (List ℕ × List ℕ) End
bytes_at n bytes = if nat_lt (length bytes) n then Err More else Ok (take n bytes, drop n bytes)

-- so many bytes, and a line break
unfoldable pub text_at : ℕ → List ℕ → Result (List ℕ × List ℕ) End
text_at n bytes = bytes_at n bytes >>= λ x. (line_end_at NoBulkEnd x.1 >>= λ rest. Ok (x.0, rest))

-- the sign of a bulk string
abbrev pub bulk_sign_at : List ℕ → Result (List ℕ) End
bulk_sign_at [] = Err More
bulk_sign_at (b ∷ bs) = if b == 36 then Ok bs else Err (Wrong (if b == 42 then NestedArray else NotABulk))

-- how long an argument may be where so many bytes are left for all, and the fault of a longer one
abbrev pub longest : Limits → ℕ → ℕ
longest limits room = if nat_le limits.bulk room then limits.bulk else room

abbrev pub too_long : Limits → ℕ → Fault
too_long limits room = if nat_le limits.bulk room then BulkTooLong else RequestTooLong

-- an argument
unfoldable pub argument_at : Limits → ℕ → List ℕ → Result (List ℕ × List ℕ) End
argument_at limits room bytes = bulk_sign_at bytes >>= λ rest. (number_at (longest limits room) (too_long limits room) rest >>= λ n. text_at n.0 n.1)

-- so many arguments
unfoldable pub arguments_at : Limits → ℕ → ℕ → List ℕ → Result (List (List ℕ) × List ℕ) End
arguments_at limits zero room bytes = Ok ([], bytes)
arguments_at limits (suc count) room bytes = argument_at limits room bytes >>= λ first. (arguments_at limits count (room - length first.0) first.1 >>= λ others. Ok (first.0 ∷ others.0, others.1))

-- a request
unfoldable pub request_at : Limits → List ℕ → Result (List (List ℕ) × List ℕ) End
request_at limits bytes = byte_at 42 NotAnArray bytes >>= λ rest. (number_at limits.arguments TooManyArguments rest >>= λ n. arguments_at limits n.0 limits.bytes n.1)

-- what is said of bytes of which this was read
abbrev pub Tells : List ℕ → Result (List (List ℕ) × List ℕ) End → Progress → Type 0
Tells bytes read (progress.Whole found used) = (used ≤ length bytes) × (read ≡ Ok (texts found.items, drop used bytes))
Tells bytes read progress.More = read ≡ Err More
Tells bytes read (progress.Wrong fault) = read ≡ Err (Wrong fault)
