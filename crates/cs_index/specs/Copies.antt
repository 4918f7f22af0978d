-- What a sweep copied of an index, and what lives on an extent behind a chunk.
use Rattle.std.specs.Prelude.{◌≡◌, ◌⊎◌, ◌<◌, ◌≤◌, ◌∷◌, ◌++◌, ℕ, Bool, true, List, Option, Some, None, [], IfOk, Result, if◌then◌else◌}
use Rattle.cs_deps.specs.State.{State as GraphState}
use Rattle.cs_extent.specs.State.{State as ExtentsState}
use Rattle.cs_frame.specs.declared.identifiers.ShardId.{ShardId}
use Rattle.cs_frame.specs.Formats.{place_of}
use Rattle.cs_index.specs.Apart.{IsStageFullApart, IsStageWornApart, IsStagedApart}
use Rattle.cs_index.specs.declared.counted_copies.ChunkCopy.{ChunkCopy}
use Rattle.cs_index.specs.Staged.{IsExact}
use Rattle.cs_index.specs.State.{State, id_number, index_of}
use Rattle.cs_refusal.specs.declared.refusals.Refusal.{Refusal}
use Rattle.law_machine.specs.Apart.{is_place}
use Rattle.law_machine.specs.Element.{Copy, Entry, Locator as Place}
use Rattle.law_machine.specs.Index.{entries_of, live_at, lookup}
use Rattle.law_machine.specs.Lists.{nth, replaced}

-- a copy of a chunk in the words of the machine
abbrev pub copy_of : ChunkCopy → Copy
copy_of c = record { id = id_number c.id; chunk = c.chunk; from = place_of c.from; to = place_of c.to }

-- copies that are listed oldest first, newest first
abbrev pub newest_copies : List ChunkCopy → List Copy
newest_copies [] = []
newest_copies (c ∷ cs) = newest_copies cs ++ copy_of c ∷ []

-- a table over older entries once a copy counts: the chunk lies where its copy is, if it still lies where it was copied
-- from
abbrev pub settle_in : (older table : List Entry) → Copy → List Entry
settle_in older table c = if is_place (nth (live_at (table ++ older) c.id) c.chunk) c.from
    then record { id = c.id; locators = replaced (live_at (table ++ older) c.id) c.chunk c.to } ∷ table else table

-- so once all of these count, the oldest first
abbrev pub settle_table : (older table : List Entry) → List Copy → List Entry
settle_table older table [] = table
settle_table older table (c ∷ cs) = settle_in older (settle_table older table cs) c

-- These copies count, in the table and so in the whole index, and nothing else changed but the room.
pub record IsSettled (old : State) (copies : List Copy) (new : State) : Type 0 where
  pub table : (d : ℕ) → lookup d new.table ≡ lookup d (settle_table (entries_of old.runs) old.table copies)
  pub index : (d : ℕ) → lookup d (index_of new) ≡ lookup d (settle_table (entries_of old.runs) old.table copies ++ entries_of old.runs)
  pub runs : new.runs ≡ old.runs
  pub format : new.format ≡ old.format
  pub limit : new.limit ≡ old.limit

-- Once these copies count a Stage does what it does of the index then, and what lives is what lives then; it is refused
-- where that is, and where the generation of the caller's extent is worn.
abbrev pub IsStagedSettled : State → List Copy → ExtentsState → GraphState → (commands : ℕ) → (generation_worn : Bool) → Result ℕ Refusal → State → ExtentsState → GraphState → Type 0
IsStagedSettled s copies x g commands generation_worn r t y h = (counted : State) × IsSettled s copies counted
    × IfOk r (λ v. IsStagedApart counted x g v commands t y h × ((id : ℕ) → live_at (index_of t) id ≡ live_at (index_of counted) id))
    × IsExact r (IsStageFullApart counted x) (IsStageWornApart counted x g.staging ⊎ (generation_worn ≡ true))

-- the number of a shard and of a chunk
abbrev pub numbered : ShardId × ℕ → ℕ × ℕ
numbered last = (id_number last.0, last.1)

-- a chunk of an identifier comes behind the last one, by identifier and then by chunk; every one where there is no last
-- one
abbrev pub IsBehind : (last : Option (ℕ × ℕ)) → (id chunk : ℕ) → Type 0
IsBehind None id chunk = Unit {0}
IsBehind (Some last) id chunk = (last.0 < id) ⊎ ((last.0 ≡ id) × (last.1 < chunk))

-- the first live chunk on an extent behind the last one, by identifier and chunk
pub record FirstBehind (index : List Entry) (last : Option (ℕ × ℕ)) (e id chunk : ℕ) (l : Place) : Type 0 where
  pub there : nth (live_at index id) chunk ≡ Some l
  pub on_it : l.extent ≡ e
  pub behind : IsBehind last id chunk
  pub first : (d k : ℕ) (x : Place) → nth (live_at index d) k ≡ Some x → x.extent ≡ e → IsBehind last d k
      → (id < d) ⊎ ((id ≡ d) × (chunk ≤ k))

-- no chunk that lives on the extent comes behind the last one
abbrev pub NoneBehind : (index : List Entry) → (last : Option (ℕ × ℕ)) → (e : ℕ) → Type 0
NoneBehind index last e = (d k : ℕ) (x : Place) → nth (live_at index d) k ≡ Some x → x.extent ≡ e → IsBehind last d k → ⊥
