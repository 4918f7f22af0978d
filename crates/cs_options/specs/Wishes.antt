-- Which geometries do what is wished of a new store.
use Rattle.std.specs.Prelude.{◌≡◌, ◌+◌, ◌*◌, ◌-◌, ◌/◌, ◌≤◌, ℕ, List, true, max, min}
use Rattle.std.specs.Int.{div_ceil}
use Rattle.cs_frame.specs.Geometries.{IsGeometry, IsIdentity, device_pages, file_format}
use Rattle.law_machine.specs.Format.{Format}
use Rattle.law_machine.specs.Geometry.{twins_in}
use Rattle.cs_options.specs.SureRooms.{Takes, largest_shard, sure_room}

-- the bytes of a shard in a chunk that takes one whole extent: a frame's header has 41 bytes, and a chunk's head 34
abbrev pub piece_bytes : (pages : ℕ) → ℕ
piece_bytes pages = 4096 * pages - 75

-- the identifiers of one chunk that the index has room for: those of a run that takes one whole extent. Its header,
-- the front of the store's identity and the count have 53 bytes, and each entry has 33
abbrev pub most_identifiers : (pages : ℕ) → ℕ
most_identifiers pages = (4096 * pages - 53) / 33

-- With so many pages an extent, a shard of so many bytes has no more than 8 chunks. So many identifiers of one chunk
-- have room in the index.
abbrev pub Holds : (shard_size shards pages : ℕ) → Type 0
Holds shard_size shards pages =
    (2 ≤ pages) × (pages ≤ 65535) × (shard_size ≤ 8 * piece_bytes pages) × (shards ≤ most_identifiers pages)

-- A store of format 4 of these dimensions lies on a device of at most so many bytes. A shard of so many bytes can be
-- put, and so can each shorter one. It can be put again before anything is swept. So many identifiers of one chunk have
-- room in the index.
abbrev pub Suits : (size shard_size shards : ℕ) (format : Format) (extents pages sections : ℕ) → Type 0
Suits size shard_size shards format extents pages sections =
    (twins_in format ≡ true)
    × (device_pages format extents pages sections * 4096 ≤ size)
    × Holds shard_size shards pages
    × (shard_size ≤ largest_shard extents pages)
    × Takes 2 shard_size extents pages

module _ (size shard_size shards : ℕ) where
  -- what holds of the extents and the pages of each geometry that suits
  abbrev pub OfAllThatSuit : (P : (extents pages : ℕ) → Type 0) → Type 0
  OfAllThatSuit P = (format : Format) (extents pages sections : ℕ) → IsGeometry format extents pages sections
      → Suits size shard_size shards format extents pages sections → P extents pages

  -- none suits
  abbrev pub NoneSuits : Type 0
  NoneSuits = OfAllThatSuit (λ extents pages. ⊥)

  -- none that suits, and has at most so many pages an extent, is sure to hold more than this
  abbrev pub NoneRoomier : (most room : ℕ) → Type 0
  NoneRoomier most room = OfAllThatSuit (λ extents pages. pages ≤ most → sure_room shard_size extents pages ≤ room)

  -- An extent has no more pages than the greatest of these, if that is enough. 1,024 are 4 MiB. The largest shard has
  -- so many. With so many, 7,680 extents take all of the size. An index of so many names as many shards as are wished,
  -- and as many of the largest ones as the size has room for, each of a page at least.
  abbrev pub usual_pages : ℕ
  usual_pages = min 65535 (max (max 1024 (div_ceil shard_size 4096))
      (max (div_ceil (size / 4096) 7680) (div_ceil (33 * max shards (size / max shard_size 4096) + 53) 4096)))

-- there is a geometry that does so in a file of at most so many bytes, whatever the store's identity
abbrev pub IsEnough : (shard_size shards size : ℕ) → Type 0
IsEnough shard_size shards size = (store : List ℕ) → IsIdentity store → (extents pages sections : ℕ)
    × IsGeometry (file_format store extents pages sections) extents pages sections
    × Suits size shard_size shards (file_format store extents pages sections) extents pages sections
