-- Places in sorted entries.
use Rattle.std.specs.Prelude.{◌≡◌, ℕ, ◌<◌, ◌≤◌, ◌==◌, Bool, true, false, List, [], ◌∷◌, Option, Some, None, length, take, drop, nat_lt, if◌then◌else◌}
use Rattle.std.specs.List.{AllByRecursion}
use Rattle.law_machine.specs.Element.{Entry, Locator as Place}
use Rattle.law_machine.specs.Index.{Ascending, if_live, lookup}
use Rattle.cs_index.specs.State.{IsAfter, IsShort}

-- the entries before place k have lesser identifiers than this one, and those from it on have none that is less
pub record IsPlace (id k : ℕ) (entries : List Entry) : Type 0 where
  pub inside : k ≤ length entries
  pub before : AllByRecursion (λ x. x.id < id) (take k entries)
  pub behind : AllByRecursion (λ x. id ≤ x.id) (drop k entries)

-- sorted entries in which an identifier has these locators, and each other one has what it had
pub record IsPut (old : List Entry) (id : ℕ) (locators : List Place) (new : List Entry) : Type 0 where
  pub ascending : Ascending new
  pub lookups : (d : ℕ) → lookup d new ≡ (if id == d then Some locators else lookup d old)
  pub short : AllByRecursion IsShort old → length locators ≤ 8 → AllByRecursion IsShort new

-- the entries before place k don't come after an identifier, and those from it on do
pub record IsStart (after : Option ℕ) (k : ℕ) (entries : List Entry) : Type 0 where
  pub inside : k ≤ length entries
  pub before : AllByRecursion (λ x. ¬ IsAfter after x.id) (take k entries)
  pub behind : AllByRecursion (λ x. IsAfter after x.id) (drop k entries)

-- of two entries the one with the lesser identifier, and of two with the same the first
abbrev pub first_of : Option Entry → Option Entry → Option Entry
first_of None b = b
first_of (Some a) None = Some a
first_of (Some a) (Some b) = if nat_lt b.id a.id then Some b else Some a

-- the entry of an identifier, unless it has no locators
abbrev pub live_entry : ℕ → List Place → List Entry
live_entry id [] = []
live_entry id (l ∷ ls) = record { id = id; locators = l ∷ ls } ∷ []

-- the entry of an identifier, unless it has no locators and deletions go
abbrev pub kept_entry : (deletions_go : Bool) → ℕ → List Place → List Entry
kept_entry true id ls = live_entry id ls
kept_entry false id ls = record { id = id; locators = ls } ∷ []

-- sorted entries of an index up to an identifier, without its deletions or with them, and of nothing else
pub record IsRunTo (deletions_go : Bool) (index : List Entry) (after : Option ℕ) (entries : List Entry) : Type 0 where
  pub ascending : Ascending entries
  pub none_after : AllByRecursion (λ x. ¬ IsAfter after x.id) entries
  pub lookups : (d : ℕ) → ¬ IsAfter after d → lookup d entries ≡ (if deletions_go then if_live (lookup d index) else lookup d index)

-- sorted entries of all that is live in an index up to an identifier, and of nothing else
abbrev pub IsMergedTo : (index : List Entry) → (after : Option ℕ) → (entries : List Entry) → Type 0
IsMergedTo index after entries = IsRunTo true index after entries
