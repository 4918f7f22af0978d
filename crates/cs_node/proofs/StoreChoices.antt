-- The choice of which a node takes the extent.
use Rattle.std.proofs.Common.{◌≡◌, ℕ, None, Option, Some, ap, refl}
use Rattle.cs_inspect.specs.Choices.{chosen_extent}
use Rattle.cs_inspect.specs.declared.choices.Choice.{Choice}
use Rattle.cs_node.specs.Choices.{extent_in}

pub some_extent : (choice : Option (ℕ × ℕ)) (extent : ℕ) → extent_in choice ≡ Some extent → (dead : ℕ) × (choice ≡ Some (extent, dead))
some_extent None extent is = absurd (cc is)
some_extent (Some (e, dead)) extent is = let same : e ≡ extent = cc is in (dead, ap (λ (x : ℕ). Some (x, dead)) same)

pub no_extent : (choice : Option (ℕ × ℕ)) → extent_in choice ≡ None → choice ≡ None
no_extent None is = refl
no_extent (Some (e, dead)) is = absurd (cc is)

pub extent_some : (found : Option Choice) (choice : Choice) → found ≡ Some choice → extent_in (chosen_extent found) ≡ Some choice.extent
extent_some found choice is = ap (λ (x : Option Choice). extent_in (chosen_extent x)) is

pub extent_none : (found : Option Choice) → found ≡ None → extent_in (chosen_extent found) ≡ None
extent_none found is = ap (λ (x : Option Choice). extent_in (chosen_extent x)) is
