-- What `stat --summary` prints.
use Rattle.std.specs.Prelude.{ℕ, ◌+◌, ◌-◌, ◌*◌, ◌/◌, ◌%◌, ◌==◌, List, [], ◌∷◌, ◌++◌, Option, None, Some, codes, decimal, if◌then◌else◌, max, min, slice_index}
use Rattle.cs_tools.specs.declared.chunk_rooms.ChunkRoom.{ChunkRoom}
use Rattle.cs_tools.specs.declared.costs.TheConstants.{COSTS}
use Rattle.cs_tools.specs.declared.summaries.Figures.{Figures}

-- ---- figures

-- how much of the room for chunks lives, in tenths of a per cent
abbrev pub share_of : ChunkRoom → ℕ
share_of room = 1000 * room.live / max room.all 1

-- How many bytes more can be put in full chunks of so many pages, with sweeps up to the brim between the puts. Chunks
-- of y pages leave an extent of P pages at most y - 1 of them. A chunk has 75 bytes of heads.
abbrev pub more_bytes : ChunkRoom → (chunk : ℕ) → ℕ
more_bytes room chunk = (room.extents * (room.pages - chunk + 1) - room.live) / chunk * (4096 * chunk - 75)

-- the value of the table of costs at so many per cent, the last one from 99 on
abbrev pub table_at : (percent : ℕ) → ℕ
table_at percent = slice_index COSTS (min percent 99)

-- what a page put costs where so many tenths of a per cent live, in hundredths of a page written
abbrev pub cost_at : (share : ℕ) → ℕ
cost_at share = table_at (share / 10) + (table_at (share / 10 + 1) - table_at (share / 10)) * (share % 10) / 10

-- ---- lines

abbrev pub shards_line : ℕ → List ℕ
shards_line shards = codes "shards " ++ decimal shards ++ 10 ∷ []

-- how many pages there are for chunks, and how many tenths of a per cent of them live
abbrev pub live_line : (all share : ℕ) → List ℕ
live_line all share = codes "live " ++ decimal (share / 10) ++ codes "." ++ decimal (share % 10) ++ codes " % of " ++ decimal all ++ (codes " pages for chunks" ++ 10 ∷ [])

-- how many bytes more can be put in full chunks of one page
abbrev pub small_line : (bytes : ℕ) → List ℕ
small_line bytes = codes "room for " ++ decimal bytes ++ (codes " more bytes in full chunks of one page" ++ 10 ∷ [])

-- and in full chunks of so many pages
abbrev pub great_line : (bytes pages : ℕ) → List ℕ
great_line bytes pages = codes "room for " ++ decimal bytes ++ codes " more bytes in full chunks of " ++ decimal pages ++ codes " pages, like the greatest" ++ 10 ∷ []

-- the same of chunks like the greatest, unless that has one page
abbrev pub great_text : ChunkRoom → List ℕ
great_text room = if room.greatest == 1 then [] else great_line (more_bytes room room.greatest) room.greatest

abbrev pub more_text : ChunkRoom → List ℕ
more_text room = small_line (more_bytes room 1) ++ great_text room

abbrev pub index_line : (identifiers : ℕ) → List ℕ
index_line identifiers = codes "room in the index for " ++ decimal identifiers ++ (codes " more identifiers of one chunk" ++ 10 ∷ [])

-- what a page put costs, in hundredths of a page written
abbrev pub cost_line : ℕ → List ℕ
cost_line cost =
    codes "a further page put costs about " ++ decimal (cost / 100) ++ codes "." ++ decimal (cost / 10 % 10) ++ decimal (cost % 10) ++ codes " pages written" ++ 10 ∷ []

abbrev pub empties_line : ℕ → List ℕ
empties_line empty = codes "empty extents " ++ decimal empty ++ 10 ∷ []

abbrev pub unread_line : ℕ → List ℕ
unread_line unreadable = codes "unreadable headers " ++ decimal unreadable ++ (codes ": scrub names the shards" ++ 10 ∷ [])

-- the same, if there are any
abbrev pub unread_text : ℕ → List ℕ
unread_text unreadable = if unreadable == 0 then [] else unread_line unreadable

abbrev pub no_room_line : List ℕ
no_room_line = codes "the room is not reported in format 2, where chunks and runs share extents" ++ 10 ∷ []

-- ---- all of it

-- the lines of the room for chunks, or the one that says why there are none
abbrev pub room_text : Option ChunkRoom → List ℕ
room_text None = no_room_line
room_text (Some room) =
    live_line room.all (share_of room) ++ more_text room ++ index_line room.identifiers ++ cost_line (cost_at (share_of room))

abbrev pub summary_text : Figures → List ℕ
summary_text figures = shards_line figures.shards ++ room_text figures.room ++ empties_line figures.empty ++ unread_text figures.unreadable
