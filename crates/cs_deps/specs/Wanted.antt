-- What a target needs of what waits.
use Rattle.std.specs.Prelude.{◌≡◌, ℕ, ◌+◌, ◌<◌, ◌≤◌, ◌==◌, ◌↔◌, List, Bool, true, false, Some, length, slice_get, slice_index, slice_index_or, if◌then◌else◌}
use Rattle.cs_deps.specs.declared.elements.Element.{Element}
use Rattle.cs_deps.specs.declared.elements.Element.TheVariants.{Plain, Version}
use Rattle.cs_deps.specs.declared.spans.Span.{Span}
use Rattle.cs_deps.specs.Named.{Named, Names, IsInSpans}
use Rattle.cs_deps.specs.Pending.{Pending, Waits}
use Rattle.cs_deps.specs.Chain.{IsNeeded}
use Rattle.cs_deps.specs.Entries.{nothing, joined_with, entry_waits}

-- of what waits d names what is needed for the target, and nothing else
abbrev pub AreWanted : Pending → Named → Named → Type 0
AreWanted g target d = (x : Element) → Waits g x → Names d x ↔ IsNeeded g target x

-- a mark stands at the place of each number of the spans that has one, where the places begin after `start`
abbrev pub AreMarked : ℕ → List Bool → List Span → Type 0
AreMarked start marks spans = (i : ℕ) → i < length marks → (slice_index_or marks i false ≡ true) ↔ IsInSpans spans (start + i + 1)

-- what is taken in at an entry: of the first version of a family that waits all needs, of any other element its own
abbrev pub taken_at : List ℕ → List (Element × Named) → Element → Named → Named
taken_at persistent entries (Plain n) own = own
taken_at persistent entries (Version f v) own = if v == slice_index persistent f + 1 then joined_with (Version f v) nothing entries else own

-- The entries from place k on were gone through, the last one first, and what was taken in at those that are named is named.
pub record IsWantedFrom (g : Pending) (persistent : List ℕ) (entries : List (Element × Named)) (target : Named) (k : ℕ) (d : Named) : Type 0 where
  pub asked : (x : Element) → Names target x → Names d x
  pub sound : (x : Element) → Waits g x → Names d x → IsNeeded g target x
  pub done : (j : ℕ) (x y : Element) (own : Named) → k ≤ j → slice_get entries j ≡ Some (x, own) → entry_waits persistent x ≡ true → Names d x → Names (taken_at persistent entries x own) y → Names d y
