-- How a shard is cut in a new store, and how much of the store is sure to hold shards.
use Rattle.std.specs.Prelude.{◌+◌, ◌*◌, ◌-◌, ◌/◌, ◌≤◌, ℕ, [], min, nat_le, if◌then◌else◌}
use Rattle.law_machine.specs.Format.{Format, Four}
use Rattle.law_machine.specs.Geometry.{most_run_extents, most_weight_in, weigh_in}
use Rattle.law_machine.specs.Pieces.{chunk_bytes_in, chunk_pages, pages_cut, piece_bytes_in, share}

-- A new store is of format 4. Neither its identity nor its device decides how a shard is cut
abbrev pub new_format : Format
new_format = Four [] 0

-- a shard of so many bytes, if an extent has so many pages
module _ (shard_size pages : ℕ) where
  -- the bytes of each piece but the last
  unfoldable pub piece_size : ℕ
  piece_size = piece_bytes_in new_format pages shard_size

  -- how many chunks it has
  unfoldable pub chunk_count : ℕ
  chunk_count = share shard_size piece_size

  -- the pages of the longest chunk
  unfoldable pub longest_chunk : ℕ
  longest_chunk = chunk_pages new_format piece_size

  -- the pages of all chunks
  unfoldable pub shard_pages : ℕ
  shard_pages = pages_cut new_format shard_size piece_size chunk_count

  -- the pages of as many such shards as the index can name
  abbrev pub named_pages : ℕ
  named_pages = most_weight_in new_format pages / weigh_in new_format chunk_count * shard_pages

-- Puts may use so many extents. One or two are for the index, and puts leave two more: one for sweeps, and one for the
-- index as it is written as a whole
abbrev pub put_extents : (extents : ℕ) → ℕ
put_extents extents = extents - (most_run_extents extents + 2)

-- So many shards of this size can be put in a new store before anything is swept. A put goes on to an empty extent only
-- if its chunk fits on no other one. So each extent that puts may use takes `pages / longest_chunk` chunks at least.
-- Whole extents aren't counted: a shard of as many bytes as four extents hold may be cut in eight chunks, each a page
-- longer than half an extent. Then it takes eight extents.
abbrev pub Takes : (count shard_size extents pages : ℕ) → Type 0
Takes count shard_size extents pages =
    count * chunk_count shard_size pages ≤ put_extents extents * (pages / longest_chunk shard_size pages)

-- A new store surely takes each shard that is no longer than so many extents hold. Cut evenly, such a shard takes twice
-- as many extents at most, and 8 at most.
abbrev pub full_extents : (extents : ℕ) → ℕ
full_extents extents = if nat_le 8 (put_extents extents) then 8 else put_extents extents / 2

-- the bytes of the longest of these shards
abbrev pub largest_shard : (extents pages : ℕ) → ℕ
largest_shard extents pages = full_extents extents * chunk_bytes_in new_format pages

-- The pages that are sure to hold shards of this size. Once no page is dead, a put is refused only if each extent that
-- puts may use has fewer pages left than the longest chunk. So a shard finds room as long as the pages of all shards,
-- with its own, are at most the first number. The index can name as many shards as have the second number of pages.
abbrev pub sure_room : (shard_size extents pages : ℕ) → ℕ
sure_room shard_size extents pages =
    min (put_extents extents * (pages + 1 - longest_chunk shard_size pages)) (named_pages shard_size pages)

-- the bytes that are sure to be held in shards of this size: those of as many as have that room
abbrev pub sure_bytes : (shard_size extents pages : ℕ) → ℕ
sure_bytes shard_size extents pages = sure_room shard_size extents pages / shard_pages shard_size pages * shard_size
