-- What is kept of the elements that were staged first goes, once it is not above the base.
use Rattle.std.specs.Prelude.{◌≡◌, ℕ, ◌+◌, ◌≤◌, ◌<◌, ◌⊎◌, List, ◌++◌, Some, None, Contains, length, slice_index}
use Rattle.cs_deps.specs.declared.elements.Element.{Element}
use Rattle.cs_deps.specs.declared.elements.Element.TheVariants.{Plain}
use Rattle.cs_deps.specs.declared.levels.Kept.{Kept}
use Rattle.cs_deps.specs.declared.levels.Levels.{Levels}
use Rattle.cs_deps.specs.Levels.{family_at, kept_by, level_by, HasRoom}

-- the first of a list are gone, and none of them had a level above the base
pub record IsTrimmedList (base : ℕ) (old new : List Kept) : Type 0 where
  pub gone : List Kept
  pub list : old ≡ gone ++ new
  pub low : (k : Kept) → Contains gone k → k.level ≤ base

-- What has a level above the base is kept as it was, and of the rest the elements that were staged first may be gone.
pub record IsTrimmed (old new : Levels) : Type 0 where
  pub ended : new.ended ≡ old.ended
  pub base : new.base ≡ old.base
  pub rows : new.rows.items ≡ old.rows.items
  pub kept : (x : Element) (k : Kept) → kept_by new x ≡ Some k → kept_by old x ≡ Some k
  pub above : (x : Element) → old.base < level_by old x → kept_by new x ≡ kept_by old x
  -- where a plain write is gone, so are those before it
  pub before : (n w : ℕ) → w ≤ n → kept_by new (Plain n) ≡ None → (kept_by old (Plain n) ≡ None) ⊎ (level_by old (Plain w) ≤ old.base)
  pub plain_count : new.dropped + length new.plains.items ≡ old.dropped + length old.plains.items
  pub version_count : (f : ℕ) → slice_index new.starts.items f + length (family_at new.versions.items f) ≡ slice_index old.starts.items f + length (family_at old.versions.items f)
  pub families : length new.versions.items ≡ length old.versions.items
  pub room : (n : ℕ) → HasRoom old n → HasRoom new n
