-- Page writes that are kept under keys.
use Rattle.std.specs.Prelude.{◌≡◌, ℕ, List, [], ◌∷◌, Option, Some, None, option_map}
use Rattle.slab.specs.Slab.{Slab, get}
use Rattle.cs_deps.specs.declared.elements.Element.{Element}
use Rattle.cs_deps.specs.declared.elements.Element.TheVariants.{Plain}
use Rattle.cs_deps.specs.declared.levels.Kept.{Kept}
use Rattle.cs_deps.specs.declared.levels.Levels.{Levels}
use Rattle.cs_deps.specs.declared.records.Record.{Record}
use Rattle.cs_deps.specs.Levels.{kept_by, IsQueued}
use Rattle.cs_deps.specs.State.{State, Write, write_of}

-- the page writes of these slots, each with its element
abbrev pub writes_of : List (Option Record) → List (Element × Write)
writes_of [] = []
writes_of (None ∷ slots) = writes_of slots
writes_of (Some r ∷ slots) = (r.element, (r.page, r.bytes)) ∷ writes_of slots

-- what stands in a queue has its record, under its key, and nothing else has one
pub record AreFiled (l : Levels) (records : Slab Record) : Type 0 where
  pub here : (x : Element) (k : Kept) → IsQueued l x → kept_by l x ≡ Some k → (r : Record) × (get records k.key ≡ Some r) × (r.element ≡ x)
  pub there : (key : ℕ) (r : Record) → get records key ≡ Some r → (k : Kept) × (kept_by l r.element ≡ Some k) × (k.key ≡ key) × IsQueued l r.element

-- a plain write's bytes are kept, and go to page p
abbrev pub IsOnPage : State → ℕ → ℕ → Type 0
IsOnPage s p n = option_map (λ w. w.0) (write_of s (Plain n)) ≡ Some p
