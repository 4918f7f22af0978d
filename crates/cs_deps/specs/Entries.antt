-- How a graph holds what waits: a list of entries with their own needs, and what each waiting element needs in all.
use Rattle.std.specs.Prelude.{◌≡◌, ℕ, ◌+◌, ◌≤◌, ◌<◌, List, [], ◌∷◌, ◌++◌, Bool, true, Option, Some, max, map, filter, nat_lt, slice_get, slice_index, length, if◌then◌else◌}
use Rattle.cs_deps.specs.declared.elements.Element.{Element}
use Rattle.cs_deps.specs.declared.elements.Element.TheVariants.{Plain, Version}
use Rattle.cs_deps.specs.declared.levels.Levels.{Levels}
use Rattle.cs_deps.specs.Levels.{IsIndexed}
use Rattle.cs_deps.specs.Named.{Named}
use Rattle.cs_deps.specs.Pending.{Waits}
use Rattle.cs_deps.specs.Staging.{IsKept, stands_for, waits_still}
use Rattle.cs_deps.specs.declared.records.Record.{Record}
use Rattle.cs_deps.specs.Records.{AreFiled}
use Rattle.cs_deps.specs.Newest.{AreNewest}
use Rattle.slab.specs.Slab.{Slab, HasRoomFor}
use Rattle.cs_deps.specs.State.{State, Write, IsListed, IsOut}

-- what names nothing
abbrev pub nothing : Named
nothing = record { through = 0; spans = []; least = [] }

-- the greater number at each place of two lists, as long as the longer one
abbrev pub greater_at_each : List ℕ → List ℕ → List ℕ
greater_at_each [] ys = ys
greater_at_each (x ∷ xs) [] = x ∷ xs
greater_at_each (x ∷ xs) (y ∷ ys) = max x y ∷ greater_at_each xs ys

-- what names all that either names, and nothing else
abbrev pub union : Named → Named → Named
union a b = record { through = max a.through b.through; spans = a.spans ++ b.spans; least = greater_at_each a.least b.least }

-- d, with the own needs of each entry that y stands for
abbrev pub joined_with : Element → Named → List (Element × Named) → Named
joined_with y d [] = d
joined_with y d (w ∷ ws) = joined_with y (if stands_for y w.0 then union d w.1 else d) ws

-- all that an entry's element needs: a plain write its own needs, a version its own and those of the listed versions before it
abbrev pub full_needs : List (Element × Named) → Element → Named → Named
full_needs entries (Plain n) own = own
full_needs entries (Version f v) own = joined_with (Version f v) nothing entries

-- whether an entry's element waits: the entry of a plain write goes when it is persistent, that of a version may stay
abbrev pub entry_waits : List ℕ → Element → Bool
entry_waits persistent (Plain n) = true
entry_waits persistent (Version f v) = nat_lt (slice_index persistent f) v

-- what waits, each element with all that it needs
abbrev pub waiting_of : List ℕ → List (Element × Named) → List (Element × Named)
waiting_of persistent entries = map (λ w. (w.0, full_needs entries w.0 w.1)) (filter (λ w. entry_waits persistent w.0) entries)

-- whether an entry stays once a round has joined: a plain write that still waits, and every version of a family that has one waiting
abbrev pub entry_stays : List Element → List ℕ → List ℕ → Element → Bool
entry_stays round persistent latest (Plain n) = waits_still round (Plain n)
entry_stays round persistent latest (Version f v) = nat_lt (slice_index persistent f) (slice_index latest f)

-- what a graph with these fields is
abbrev pub state_of : List ℕ → List (Element × Named) → ℕ → List ℕ → Option (List Element) → List (Element × Write) → ℕ → State
state_of persistent entries staged latest round writes room = record {
  staging = record { pending = record { persistent = persistent; waiting = waiting_of persistent entries }; staged = staged; latest = latest };
  round = round;
  pages = writes;
  room = room;
}

-- the listed versions were staged, and each family that has one listed has one waiting
abbrev pub AreCurrent : List ℕ → List ℕ → List (Element × Named) → Type 0
AreCurrent persistent latest entries = (k f v : ℕ) (d : Named) → slice_get entries k ≡ Some (Version f v, d) → (v ≤ slice_index latest f) × (slice_index persistent f < slice_index latest f)

-- what every graph keeps, but for its page writes
pub record IsSound (s : State) : Type 0 where
  pub kept : IsKept s.staging
  -- a round's members wait
  pub out : (x : Element) → IsOut s x → Waits s.staging.pending x

-- What a graph keeps of its fields: its value's laws, and room for as many stagings as it says. Some of its entries may be of no
-- use any more; `live` are the others.
pub record IsHeld (s : State) (live entries : List (Element × Named)) (floors : List ℕ) (entry_count entry_capacity entry_places : ℕ) (records : Slab Record) (numbers : ℕ → Option ℕ) (spare : ℕ) (l : Levels) : Type 0 where
  pub whole : IsSound s
  pub current : AreCurrent s.staging.pending.persistent s.staging.latest live
  -- what was staged of the entries, in use or not
  pub plains : (n : ℕ) → IsListed entries (Plain n) → n ≤ s.staging.staged
  pub floors_count : length floors ≡ length s.staging.latest
  pub floors_low : (f : ℕ) → slice_index floors f ≤ slice_index s.staging.latest f
  pub filed : AreFiled l records
  pub entries_fit : entry_count + s.room ≤ entry_capacity
  pub places_fit : s.room ≤ entry_places
  pub records_fit : HasRoomFor records s.room
  pub newest : AreNewest records numbers
  pub newest_fit : s.room ≤ spare
  pub indexed : IsIndexed s l
