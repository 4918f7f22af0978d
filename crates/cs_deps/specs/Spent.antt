-- Entries of versions that are persistent: what they need goes into one of them.
use Rattle.std.specs.Prelude.{◌≡◌, ◌==◌, ◌&&◌, ℕ, ◌⊎◌, List, [], ◌∷◌, ◌++◌, Bool, true, not, Some, filter, length, nat_le, slice_get, if◌then◌else◌}
use Rattle.cs_deps.specs.declared.elements.Element.{Element}
use Rattle.cs_deps.specs.declared.elements.Element.TheVariants.{Version}
use Rattle.cs_deps.specs.Named.{Named}
use Rattle.cs_deps.specs.Staging.{stands_for}
use Rattle.cs_deps.specs.Entries.{nothing, union}

-- whether it lists no span and names versions of the first 16 families alone, so that many such together take no memory
abbrev pub is_foldable : Named → Bool
is_foldable d = (length d.spans == 0) && nat_le (length d.least) 16

-- whether an entry is that of version v of family f or of one before it, and its needs are such
abbrev pub is_spent : ℕ → ℕ → Element × Named → Bool
is_spent f v w = stands_for (Version f v) w.0 && is_foldable w.1

-- d, with the needs of each such entry
abbrev pub carried_with : ℕ → ℕ → Named → List (Element × Named) → Named
carried_with f v d [] = d
carried_with f v d (w ∷ ws) = carried_with f v (if is_spent f v w then union d w.1 else d) ws

-- where there are such entries, one stands in their place, behind the others
abbrev pub IsFolded : ℕ → ℕ → List (Element × Named) → List (Element × Named) → Type 0
IsFolded f v old new = (new ≡ old) ⊎ ((k : ℕ) × (w : Element × Named) × (slice_get old k ≡ Some w) × (is_spent f v w ≡ true) × (new ≡ filter (λ u. not (is_spent f v u)) old ++ (Version f v, carried_with f v nothing old) ∷ []))
