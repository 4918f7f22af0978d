-- What an index keeps of its fields.
use Rattle.std.specs.Prelude.{◌≡◌, ℕ, ◌+◌, ◌<◌, ◌≤◌, ◌^◌, ◌==◌, List, length, slice_index, if◌then◌else◌}
use Rattle.std.specs.List.{AllByRecursion}
use Rattle.cs_frame.specs.declared.identifiers.ShardId.{ShardId}
use Rattle.cs_frame.specs.Places.{Listed}
use Rattle.cs_index.specs.declared.live.Cleared.{Cleared}
use Rattle.cs_index.specs.Live.{IsClear}
use Rattle.cs_index.specs.State.{IsId, IsWhole, State, index_of}
use Rattle.law_machine.specs.Element.{Entry}
use Rattle.law_machine.specs.Geometry.{weigh_in}
use Rattle.law_machine.specs.Index.{named_weight, names}
use Rattle.law_machine.specs.Tally.{lives_on, shards}

-- 1 where it is this extent, else 0
abbrev pub one_on : (extent e : ℕ) → ℕ
one_on extent e = if extent == e then 1 else 0

-- so many chunks of an index live on each extent that a store can have
abbrev pub AreCounts : (on : List ℕ) → List Entry → Type 0
AreCounts on index = (length on ≡ 7680) × ((e : ℕ) → e < 7680 → slice_index on e ≡ lives_on e index)

-- What an index keeps of its fields: its value's laws, the table's identifiers, how many are named and how many live,
-- what the newest entries weigh, how many chunks live on each extent, room in the table, and what is known of the
-- extent that was searched last.
pub record IsHeld (s : State) (entries : List (ShardId × Listed)) (named living weight : ℕ) (on : List ℕ) (table_length table_capacity : ℕ) (cleared : Cleared) : Type 0 where
  pub whole : IsWhole s
  pub ids : AllByRecursion (λ entry. IsId entry.0) entries
  pub count : named ≡ names (index_of s)
  pub lives : living ≡ shards (index_of s)
  pub weighs : weight ≡ named_weight (weigh_in s.format) (index_of s)
  pub counts : AreCounts on (index_of s)
  pub small : s.limit < 2 ^ 29
  pub fits : table_length + s.room ≤ table_capacity
  pub clear : IsClear (index_of s) cleared
