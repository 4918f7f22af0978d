-- Levels that are kept as elements are staged.
use Rattle.std.specs.Prelude.{AllPairs, ◌≡◌, ◌≢◌, ◌&&◌, nat_le, slice_set, ℕ, zero, suc, ◌+◌, ◌-◌, ◌≤◌, ◌<◌, ◌⊎◌, ◌==◌, ◌^◌, List, [], ◌∷◌, Bool, true, Option, Some, None, All, Contains, max, nat_lt, if◌then◌else◌, length, slice_get, slice_index, slice_index_or, option_map, filter}
use Rattle.std.specs.declared.collections.VecDeque.{VecDeque}
use Rattle.std.specs.VecDeque.{deque_len, deque_capacity}
use Rattle.std.specs.Global.{Global}
use Rattle.cs_deps.specs.declared.elements.Element.{Element}
use Rattle.cs_deps.specs.declared.elements.Element.TheVariants.{Plain, Version}
use Rattle.cs_deps.specs.declared.levels.Kept.{Kept}
use Rattle.cs_deps.specs.declared.levels.Row.{Row}
use Rattle.cs_deps.specs.declared.levels.Levels.{Levels}
use Rattle.cs_deps.specs.Named.{Named, Names, IsInSpans, IsPlain}
use Rattle.cs_deps.specs.Pending.{Pending, Waits, Needs, IsPersistent}
use Rattle.cs_deps.specs.Chain.{IsHeight}
use Rattle.cs_deps.specs.Rounds.{IsListedBefore}
use Rattle.cs_deps.specs.State.{State, after, IsOut}

-- what a list keeps at a number, where it begins after `start`
abbrev pub kept_in : List Kept → ℕ → ℕ → Option Kept
kept_in xs start n = if nat_lt start n then slice_get xs (n - start - 1) else None

-- what is kept of a family
abbrev pub family_at : List (VecDeque Kept Global) → ℕ → List Kept
family_at [] f = []
family_at (q ∷ qs) zero = q.items
family_at (q ∷ qs) (suc f) = family_at qs f

-- what is kept of an element
abbrev pub kept_by : Levels → Element → Option Kept
kept_by l (Plain n) = kept_in l.plains.items l.dropped n
kept_by l (Version f v) = kept_in (family_at l.versions.items f) (slice_index l.starts.items f) v

-- the level that is kept, 0 where nothing is
abbrev pub level_of : Option Kept → ℕ
level_of None = 0
level_of (Some k) = k.level

-- the level of an element, 0 where nothing is kept of it
abbrev pub level_by : Levels → Element → ℕ
level_by l x = level_of (kept_by l x)

-- an empty queue
abbrev pub no_row : Row
no_row = record { first = 0; last = 0; versions = 0 ∷ 0 ∷ 0 ∷ 0 ∷ 0 ∷ 0 ∷ 0 ∷ 0 ∷ 0 ∷ 0 ∷ 0 ∷ 0 ∷ 0 ∷ 0 ∷ 0 ∷ 0 ∷ [] }

-- the queue at a place, an empty one past the end
abbrev pub row_at : List Row → ℕ → Row
row_at rows i = slice_index_or rows i no_row

-- the level of each waiting element is the base and its height; what waits no more is not above the base
pub record AreKeptLevels (g : Pending) (base : ℕ) (level : Element → ℕ) : Type 0 where
  pub waiting : (x : Element) (n : ℕ) → IsHeight g x n → level x ≡ base + n
  pub gone : (x : Element) → base < level x → Waits g x

-- the greatest level of the waiting elements that d names, the base where none of them waits
pub record IsTop (g : Pending) (base : ℕ) (level : Element → ℕ) (d : Named) (top : ℕ) : Type 0 where
  pub above : (y : Element) → Names d y → Waits g y → level y ≤ top
  pub reached : (top ≡ base) ⊎ ((y : Element) × Names d y × Waits g y × (level y ≡ top))

-- y is looked at for d, at this level: the least plain write of the greatest level up to `through`, one of a listed span, a least version
abbrev pub IsCandidate : (Element → Option Kept) → Named → Element → ℕ → Type 0
IsCandidate kept d y n = ((k : Kept) × (kept (Plain d.through) ≡ Some k) × (y ≡ Plain k.least) × (n ≡ k.top)) ⊎ (Names d y × (level_of (kept y) ≡ n))

-- the highest of those that are looked at for d
pub record IsBest (kept : Element → Option Kept) (base : ℕ) (d : Named) (level : ℕ) (before : Option Element) : Type 0 where
  pub low : base ≤ level
  pub through : (k : Kept) → kept (Plain d.through) ≡ Some k → k.top ≤ level
  pub listed : (n : ℕ) → IsInSpans d.spans n → level_of (kept (Plain n)) ≤ level
  pub versions : (f : ℕ) → level_of (kept (Version f (slice_index d.least f))) ≤ level
  pub reached : (level ≡ base) ⊎ ((y : Element) × (before ≡ Some y) × IsCandidate kept d y level)

-- each plain write has the greatest level of those up to it, where that is above the base, and the least that has it
pub record AreTops (kept : Element → Option Kept) (base staged : ℕ) : Type 0 where
  pub above : (n w : ℕ) (k : Kept) → w ≤ n → kept (Plain n) ≡ Some k → base < level_of (kept (Plain w)) → level_of (kept (Plain w)) ≤ k.top
  pub least : (n : ℕ) (k : Kept) → kept (Plain n) ≡ Some k → base < k.top → (1 ≤ k.least) × (k.least ≤ n) × (level_of (kept (Plain k.least)) ≡ k.top)
  pub none : (n w : ℕ) → n ≤ staged → w ≤ n → kept (Plain n) ≡ None → level_of (kept (Plain w)) ≤ base

-- Each queue has the first and the last plain write of its level, and of each family the greatest version of it.
pub record AreRows (kept : Element → Option Kept) (ended : ℕ) (rows : List Row) : Type 0 where
  pub plain : (i n : ℕ) → level_of (kept (Plain n)) ≡ ended + i + 1 → (0 < (row_at rows i).first) × ((row_at rows i).first ≤ n) × (n ≤ (row_at rows i).last)
  pub first : (i : ℕ) → 0 < (row_at rows i).first → level_of (kept (Plain (row_at rows i).first)) ≡ ended + i + 1
  pub last : (i : ℕ) → 0 < (row_at rows i).last → level_of (kept (Plain (row_at rows i).last)) ≡ ended + i + 1
  pub empty : (i : ℕ) → (row_at rows i).first ≡ 0 → (row_at rows i).last ≡ 0
  pub version : (i f v : ℕ) → level_of (kept (Version f v)) ≡ ended + i + 1 → v ≤ slice_index (row_at rows i).versions f
  pub greatest : (i f : ℕ) → 0 < slice_index (row_at rows i).versions f → level_of (kept (Version f (slice_index (row_at rows i).versions f))) ≡ ended + i + 1

-- each plain write has the next one of its level
pub record AreLinked (kept : Element → Option Kept) (ended : ℕ) : Type 0 where
  pub up : (n : ℕ) (k : Kept) → kept (Plain n) ≡ Some k → ended < k.level → 0 < k.next → (n < k.next) × (level_of (kept (Plain k.next)) ≡ k.level)
  pub passed : (n m : ℕ) (k : Kept) → kept (Plain n) ≡ Some k → ended < k.level → n < m → level_of (kept (Plain m)) ≡ k.level → (0 < k.next) × (k.next ≤ m)

-- there is room for so many more elements
pub record HasRoom (l : Levels) (room : ℕ) : Type 0 where
  pub plains : deque_len l.plains + room ≤ deque_capacity l.plains
  pub rows : deque_len l.rows + room ≤ deque_capacity l.rows
  pub versions : All (λ q. deque_len q + room ≤ deque_capacity q) l.versions.items
  pub limit : l.ended + length l.rows.items + room ≤ 2 ^ 63

-- x stands in the queue at a place: a plain write of its level, or the version of its family that is kept there
abbrev pub IsInRow : (Element → Option Kept) → ℕ → List Row → ℕ → Element → Type 0
IsInRow kept ended rows i (Plain n) = level_of (kept (Plain n)) ≡ ended + i + 1
IsInRow kept ended rows i (Version f v) = (0 < v) × (slice_index (row_at rows i).versions f ≡ v)

-- x stands in a queue
abbrev pub IsQueued : Levels → Element → Type 0
IsQueued l x = (i : ℕ) × IsInRow (kept_by l) l.ended l.rows.items i x

-- What a graph keeps of the levels of what waits. Where no round is out `base` is `ended`, and a kept level less that is the height.
pub record IsIndexed (s : State) (l : Levels) : Type 0 where
  pub levels : AreKeptLevels (after s) l.base (level_by l)
  pub tops : AreTops (kept_by l) l.ended s.staging.staged
  pub rows : AreRows (kept_by l) l.ended l.rows.items
  pub linked : AreLinked (kept_by l) l.ended
  -- above height 1 there is a need that is one lower
  pub before : (x : Element) (k : Kept) → kept_by l x ≡ Some k → l.base + 1 < k.level → (p : Element) × (k.before ≡ Some p) × Needs (after s) x p × (level_by l p + 1 ≡ k.level)
  pub within : (x : Element) → level_by l x ≤ l.ended + length l.rows.items
  pub deepest : 0 < length l.rows.items → (x : Element) × (level_by l x ≡ l.ended + length l.rows.items)
  pub low : l.ended ≤ l.base
  pub high : l.base ≤ l.ended + length l.rows.items
  pub near : l.base ≤ l.ended + 1
  pub still : s.round ≡ None → l.base ≡ l.ended
  -- each staged element has its place
  pub plain_count : l.dropped + length l.plains.items ≡ s.staging.staged
  pub version_count : (f : ℕ) → slice_index l.starts.items f + length (family_at l.versions.items f) ≡ slice_index s.staging.latest f
  pub families : length l.versions.items ≡ length s.staging.latest
  pub at_most : length s.staging.latest ≤ 16
  pub room : HasRoom l s.room
  -- what the round that is out needs is persistent
  pub ready : (x y : Element) → IsOut s x → Needs s.staging.pending x y → IsPersistent s.staging.pending y
  -- the round that is out is the first queue
  pub out : (x : Element) → IsOut s x → (l.ended < l.base) × IsInRow (kept_by l) l.ended l.rows.items 0 x
  pub first : l.ended < l.base → (x : Element) → IsInRow (kept_by l) l.ended l.rows.items 0 x → IsOut s x
  -- a queue has a place for each family
  pub rows_wide : (i : ℕ) → length (row_at l.rows.items i).versions ≡ 16

-- the same, with another next
abbrev pub with_next : ℕ → Kept → Kept
with_next next k = record { level = k.level; before = k.before; next = next; top = k.top; least = k.least; key = k.key }

-- the same, under another key
abbrev pub keyed : ℕ → Kept → Kept
keyed key k = record { level = k.level; before = k.before; next = k.next; top = k.top; least = k.least; key = key }

-- one plain write's next is another
abbrev pub relinked : ℕ → ℕ → (Element → Option Kept) → Element → Option Kept
relinked number next kept (Plain n) = if n == number then option_map (with_next next) (kept (Plain n)) else kept (Plain n)
relinked number next kept (Version f v) = kept (Version f v)

-- the greatest level so far, 0 where nothing is kept
abbrev pub top_of : Option Kept → ℕ
top_of None = 0
top_of (Some k) = k.top

-- the least plain write of the greatest level so far, 0 where nothing is kept
abbrev pub least_of : Option Kept → ℕ
least_of None = 0
least_of (Some k) = k.least

-- what is kept of a plain write behind the last one
abbrev pub next_plain : Option Kept → ℕ → ℕ → Option Element → ℕ → Kept
next_plain last number level before key = record {
  level = level;
  before = before;
  next = 0;
  top = if nat_lt (top_of last) level then level else top_of last;
  least = if nat_lt (top_of last) level then number else least_of last;
  key = key;
}

-- what is kept of a new version: what is kept of the version before it, where that waits at this level or a higher one, since the new one
-- needs all that that one needs; else an entry of its own
abbrev pub next_version : Option Kept → ℕ → ℕ → Option Element → Kept
next_version None base level before = record { level = level; before = before; next = 0; top = 0; least = 0; key = 0 }
next_version (Some k) base level before = if nat_le level k.level && nat_lt base k.level then k else record { level = level; before = before; next = 0; top = 0; least = 0; key = 0 }

-- a queue with one plain write more, the last
abbrev pub with_plain : ℕ → Row → Row
with_plain n r = record { first = if r.first == 0 then n else r.first; last = n; versions = r.versions }

-- a queue with a greater version of a family
abbrev pub with_version : ℕ → ℕ → Row → Row
with_version f v r = record { first = r.first; last = r.last; versions = slice_set r.versions f v }

-- the queue at one place is another
pub record AreRowsBut (old new : List Row) (i : ℕ) (r : Row) : Type 0 where
  pub here : row_at new i ≡ r
  pub others : (j : ℕ) → j ≢ i → row_at new j ≡ row_at old j
  pub count : length new ≡ max (length old) (i + 1)

-- the plain write behind n - 1 others is kept, at the level of the queue at place i
pub record IsPlainPushed (old new : Levels) (n i : ℕ) (before : Option Element) (key : ℕ) : Type 0 where
  pub ended : new.ended ≡ old.ended
  pub base : new.base ≡ old.base
  pub itself : kept_by new (Plain (n + 1)) ≡ Some (next_plain (kept_by old (Plain n)) (n + 1) (old.ended + i + 1) before key)
  pub others : (y : Element) → y ≢ Plain (n + 1) → kept_by new y ≡ relinked (row_at old.rows.items i).last (n + 1) (kept_by old) y
  pub rows : AreRowsBut old.rows.items new.rows.items i (with_plain (n + 1) (row_at old.rows.items i))
  pub dropped : new.dropped ≡ old.dropped
  pub plain_count : length new.plains.items ≡ length old.plains.items + 1
  pub versions : new.versions.items ≡ old.versions.items
  pub starts : new.starts.items ≡ old.starts.items

-- the version behind version v of family f is kept, at the level of the queue at place i
pub record IsVersionPushed (old new : Levels) (f v i : ℕ) (k : Kept) : Type 0 where
  pub ended : new.ended ≡ old.ended
  pub base : new.base ≡ old.base
  pub level : k.level ≡ old.ended + i + 1
  pub itself : kept_by new (Version f (v + 1)) ≡ Some k
  pub others : (y : Element) → y ≢ Version f (v + 1) → kept_by new y ≡ kept_by old y
  pub rows : AreRowsBut old.rows.items new.rows.items i (with_version f (v + 1) (row_at old.rows.items i))
  pub dropped : new.dropped ≡ old.dropped
  pub plain_count : length new.plains.items ≡ length old.plains.items
  pub starts : new.starts.items ≡ old.starts.items
  pub count : length new.versions.items ≡ length old.versions.items
  pub here : length (family_at new.versions.items f) ≡ length (family_at old.versions.items f) + 1
  pub there : (g : ℕ) → g ≢ f → length (family_at new.versions.items g) ≡ length (family_at old.versions.items g)

-- the first queue is gone
pub record IsLevelsSettled (old new : Levels) : Type 0 where
  pub ended : new.ended ≡ old.base
  pub base : new.base ≡ old.base
  pub kept : (x : Element) → kept_by new x ≡ kept_by old x
  pub rows : (j : ℕ) → row_at new.rows.items j ≡ row_at old.rows.items (j + 1)
  pub count : length new.rows.items + 1 ≡ length old.rows.items
  pub dropped : new.dropped ≡ old.dropped
  pub plain_count : length new.plains.items ≡ length old.plains.items
  pub version_count : (f : ℕ) → slice_index new.starts.items f + length (family_at new.versions.items f) ≡ slice_index old.starts.items f + length (family_at old.versions.items f)
  pub families : length new.versions.items ≡ length old.versions.items
  pub room : (n : ℕ) → HasRoom old n → HasRoom new n

-- nothing is kept
pub record IsNew (first : List ℕ) (l : Levels) : Type 0 where
  pub ended : l.ended ≡ 0
  pub base : l.base ≡ 0
  pub plains : l.plains.items ≡ []
  pub dropped : l.dropped ≡ 0
  pub count : length l.versions.items ≡ length first
  pub versions : (f : ℕ) → family_at l.versions.items f ≡ []
  pub starts : l.starts.items ≡ first
  pub rows : l.rows.items ≡ []
  pub room : HasRoom l 0

-- the same, but for room, of which there is no less
pub record IsSameBut (old new : Levels) : Type 0 where
  pub ended : new.ended ≡ old.ended
  pub base : new.base ≡ old.base
  pub plains : new.plains.items ≡ old.plains.items
  pub dropped : new.dropped ≡ old.dropped
  pub count : length new.versions.items ≡ length old.versions.items
  pub versions : (f : ℕ) → family_at new.versions.items f ≡ family_at old.versions.items f
  pub starts : new.starts.items ≡ old.starts.items
  pub rows : new.rows.items ≡ old.rows.items
  pub room : (n : ℕ) → HasRoom old n → HasRoom new n

-- the plain writes of a level, by number
pub record ArePlainsListed (kept : Element → Option Kept) (level : ℕ) (xs : List Element) : Type 0 where
  pub plain : (x : Element) → Contains xs x → (n : ℕ) × (x ≡ Plain n) × (level_of (kept (Plain n)) ≡ level)
  pub all : (n : ℕ) → level_of (kept (Plain n)) ≡ level → Contains xs (Plain n)
  pub order : AllPairs IsListedBefore xs

-- to plain writes the versions of the first k families that are not 0 were added
pub record AreVersionsListed (old : List Element) (versions : List ℕ) (k : ℕ) (xs : List Element) : Type 0 where
  pub came : (x : Element) → Contains xs x → Contains old x ⊎ ((f : ℕ) × (f < k) × (0 < slice_index versions f) × (x ≡ Version f (slice_index versions f)))
  pub old_there : (x : Element) → Contains old x → Contains xs x
  pub new_there : (f : ℕ) → f < k → 0 < slice_index versions f → Contains xs (Version f (slice_index versions f))
  pub order : ((x : Element) → Contains old x → IsPlain x) → AllPairs IsListedBefore old → AllPairs IsListedBefore xs

-- those of them that come before n, which is the next, 0 where there is none
pub record ArePlainsBefore (kept : Element → Option Kept) (level n : ℕ) (xs : List Element) : Type 0 where
  pub plain : (x : Element) → Contains xs x → (m : ℕ) × (x ≡ Plain m) × (level_of (kept (Plain m)) ≡ level) × (0 < n → m < n)
  pub all : (m : ℕ) → level_of (kept (Plain m)) ≡ level → Contains xs (Plain m) ⊎ ((0 < n) × (n ≤ m))
  pub next : 0 < n → level_of (kept (Plain n)) ≡ level
  pub order : AllPairs IsListedBefore xs

-- whether an entry is of use: a plain write while its level is above the rounds that ended, a version past its family's floor
abbrev pub entry_live : Levels → List ℕ → Element → Bool
entry_live l floors (Plain n) = nat_lt l.ended (level_by l (Plain n))
entry_live l floors (Version f v) = nat_lt (slice_index floors f) v

-- the entries that are of use
abbrev pub live_of : Levels → List ℕ → List (Element × Named) → List (Element × Named)
live_of l floors entries = filter (λ w. entry_live l floors w.0) entries

-- a family's floor: its last version where none waits, and else the floor that it had
abbrev pub floor_of : ℕ → ℕ → ℕ → ℕ
floor_of persistent latest floor = if nat_lt persistent latest then floor else latest

-- all entries are of use
abbrev pub AreLive : Levels → List ℕ → List (Element × Named) → Type 0
AreLive l floors entries = (k : ℕ) (x : Element) (d : Named) → slice_get entries k ≡ Some (x, d) → entry_live l floors x ≡ true
