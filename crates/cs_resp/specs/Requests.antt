-- Which requests are taken, and what bytes are of them.
use Rattle.std.specs.Prelude.{◌≡◌, ◌≢◌, ◌≤◌, ◌<◌, ◌^◌, ◌+◌, ⊤, ℕ, List, [], ◌∷◌, ◌++◌, length, take}
use Rattle.std.specs.List.{AllByRecursion}
use Rattle.cs_resp.specs.declared.limits.Limits.{Limits}
use Rattle.cs_resp.specs.declared.progress.Progress.{Progress}
use Rattle.cs_resp.specs.declared.progress.Progress.TheVariants.{Whole, More, Wrong}
use Rattle.cs_resp.specs.Spelling.{spelled_request, texts}

-- what all values of the type keep
abbrev pub AreSmall : Limits → Type 0
AreSmall limits = (limits.arguments < 2 ^ 32) × (limits.bulk < 2 ^ 32)

-- how many bytes the arguments have together
abbrev pub total : List (List ℕ) → ℕ
total [] = 0
total (word ∷ request) = length word + total request

-- A request is within the limits: it has no more arguments, none is longer, and they aren't longer together.
pub record IsWithin (limits : Limits) (request : List (List ℕ)) : Type 0 where
  pub few : length request ≤ limits.arguments
  pub each : AllByRecursion (λ word. length word ≤ limits.bulk) request
  pub together : total request ≤ limits.bytes

-- The bytes are the beginning of a request, and not the whole of it.
abbrev pub IsPartOfRequest : Limits → List ℕ → Type 0
IsPartOfRequest limits bytes = (request : List (List ℕ)) × (tail : List ℕ) × IsWithin limits request × (tail ≢ []) × (bytes ++ tail ≡ spelled_request request)

-- Whatever follows the bytes, no request stands at their beginning.
abbrev pub IsNoRequest : Limits → List ℕ → Type 0
IsNoRequest limits bytes = (request : List (List ℕ)) (tail rest : List ℕ) → IsWithin limits request → bytes ++ tail ≢ spelled_request request ++ rest

-- A whole request was read, of so many bytes.
abbrev pub IsWholeOf : List (List ℕ) → ℕ → Progress → Type 0
IsWholeOf request used (Whole found n) = (texts found.items ≡ request) × (n ≡ used)
IsWholeOf request used More = ⊥
IsWholeOf request used (Wrong fault) = ⊥

-- If a whole request was read, it is within the limits, and the bytes that it took spell it.
abbrev pub IsSpelledBy : Limits → List ℕ → Progress → Type 0
IsSpelledBy limits bytes (Whole found used) = IsWithin limits (texts found.items) × (used ≤ length bytes) × (take used bytes ≡ spelled_request (texts found.items))
IsSpelledBy limits bytes More = ⊤
IsSpelledBy limits bytes (Wrong fault) = ⊤
