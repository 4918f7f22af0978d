-- Pages of which one sector is fenced.
use Rattle.std.specs.Prelude.{◌≡◌, ◌+◌, ◌*◌, ◌<◌, ℕ, List, slice_index}

-- One of the eighths of the page, 512 bytes each, has bytes of 255 alone.
abbrev pub HasFencedSector : List ℕ → Type 0
HasFencedSector bytes = (sector : ℕ) × (sector < 8) × ((i : ℕ) → i < 512 → slice_index bytes (512 * sector + i) ≡ 255)
