-- What a disk in a file has read ahead.
use Rattle.std.specs.Prelude.{◌≡◌, ◌<◌, ◌+◌, ℕ, List, Some, slice_get}
use Rattle.cs_disk.specs.declared.ahead.Ahead.{Ahead}

-- how many pages lie ready
abbrev pub pages_ahead : Ahead → ℕ
pages_ahead a = a.count

-- these bytes lie ready as this page of the file: the first that was read is page `first`
abbrev pub LiesReady : Ahead → ℕ → List ℕ → Type 0
LiesReady a number bytes = (place : ℕ) × (number ≡ a.first + place) × (place < a.count) × (slice_get a.pages.items place ≡ Some bytes)
