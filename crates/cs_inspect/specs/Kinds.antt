-- Whether an extent holds frames of one kind only.
use Rattle.std.specs.Prelude.{◌≡◌, false, true}
use Rattle.law_machine.specs.Device.{Shape}

-- an extent holds chunks or runs, never both
abbrev pub LieApart : Shape → Type 0
LieApart S = S.apart ≡ true

-- it may hold both, as in format 2
abbrev pub LieTogether : Shape → Type 0
LieTogether S = S.apart ≡ false
