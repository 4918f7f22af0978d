-- What the halves of pairs were found to hold.
use Rattle.std.specs.Prelude.{◌≡◌, ◌≢◌, ◌==◌, ◌&&◌, ℕ, Bool, true, false, not, List, [], ◌∷◌, Option, Some, None, if◌then◌else◌, nat_le, nat_lt, slice_set}
use Rattle.std.specs.List.{AllByRecursion, list_all}
use Rattle.cs_disk.specs.Disk.{Image, page}
use Rattle.cs_twin.specs.declared.findings.Finding.{Finding}
use Rattle.cs_twin.specs.declared.findings.Half.{Half}
use Rattle.cs_twin.specs.declared.findings.Half.TheVariants.{Damaged, Fence, Whole}
use Rattle.cs_twin.specs.declared.pairs.Held.{Held}
use Rattle.cs_twin.specs.declared.pairs.Pair.{Pair}
use Rattle.cs_twin.specs.Pairs.{Versions, half, held_in, is_turned, version_at}

-- all of the bytes are 255
abbrev pub is_fence : List ℕ → Bool
is_fence bytes = list_all (λ b. b == 255) bytes

-- what a half with these bytes holds, if they spell this version
abbrev pub half_with : (version : ℕ) → List ℕ → Half
half_with version bytes = if version == 0 then (if is_fence bytes then Fence else Damaged) else Whole version

-- what a half of a pair holds
abbrev pub half_in : Versions → Image → Pair → (twin : Bool) → Half
half_in V image x twin = half_with (version_at V image x twin) (page image (half x twin))

-- the version of a half, 0 if it isn't whole
abbrev pub half_version : Half → ℕ
half_version (Whole version) = version
half_version Fence = 0
half_version Damaged = 0

-- it is neither whole nor a fence
abbrev pub is_damaged : Half → Bool
is_damaged (Whole version) = false
is_damaged Fence = false
is_damaged Damaged = true

-- and both
abbrev pub finding_in : Versions → Image → Pair → Finding
finding_in V image x = record { pair = x; own = half_in V image x false; twin = half_in V image x true }

-- which of them is the newest
abbrev pub held_of : Finding → Held
held_of it =
    let turned = nat_le (half_version it.own) (half_version it.twin) in
    record { turned = turned; version = if turned then half_version it.twin else half_version it.own }

-- each of them is whole or a fence
abbrev pub is_known : Finding → Bool
is_known it = not (is_damaged it.own) && not (is_damaged it.twin)

-- so are those of each of these pairs
abbrev pub are_known : Versions → Image → List Pair → Bool
are_known V image [] = true
are_known V image (x ∷ pairs) = is_known (finding_in V image x) && are_known V image pairs

-- the half that isn't the newest
abbrev pub other_half : Finding → Half
other_half it = if (held_of it).turned then it.own else it.twin

-- it is damaged, and the newest is whole
abbrev pub is_halved : Finding → Bool
is_halved it = nat_lt 0 (held_of it).version && is_damaged (other_half it)

-- the page that is passed over for its damage, where the other half is whole
abbrev pub passed_over : Finding → Option ℕ
passed_over it = if is_halved it then Some (half it.pair (not (held_of it).turned)) else None

-- an image with these bytes on that page
abbrev pub laid_over : Versions → Image → Pair → List ℕ → Image
laid_over V image x bytes = if is_halved (finding_in V image x) then slice_set image (half x (not (is_turned V image x))) bytes else image

-- Of these pairs none has a page any more that is passed over: each that was has these bytes, and every
-- other page has what it had. The newest version of each pair is the same.
pub record AreLaidOver (V : Versions) (bytes : Image → Pair → List ℕ) (pairs : List Pair) (before now : Image) : Type 0 where
  pub whole : AllByRecursion (λ x. passed_over (finding_in V now x) ≡ None) pairs
  pub laid : AllByRecursion (λ x. (number : ℕ) → passed_over (finding_in V before x) ≡ Some number → page now number ≡ bytes before x) pairs
  pub untouched : (number : ℕ) → AllByRecursion (λ x. passed_over (finding_in V before x) ≢ Some number) pairs → page now number ≡ page before number
  pub versions : AllByRecursion (λ x. (held_in V now x).version ≡ (held_in V before x).version) pairs
