-- How an extent is chosen to be swept if some are passed over.
use Rattle.std.specs.Prelude.{◌≢◌, ℕ, zero, suc, Bool, true, false, List, [], ◌∷◌, Option}
use Rattle.cs_core.specs.Views.{View}
use Rattle.cs_disk.specs.declared.disk.PageDisk.{Ghosts as PageDisk}
use Rattle.cs_extent.specs.State.{extents_of, shape}
use Rattle.cs_refusal.specs.declared.refusals.Refusal.{Refusal}
use Rattle.cs_refusal.specs.declared.refusals.Refusal.TheVariants.{BadDigest, BadLength, BadMagic, BadPadding, BadVersion, DeviceFault, Misplaced}
use Rattle.cs_inspect.specs.declared.surveys.ExtentUse.{ExtentUse}
use Rattle.cs_inspect.specs.Brim.{AreSurveyed, ChoosesNext}
use Rattle.cs_inspect.specs.Choices.{ChoosesApart}
use Rattle.cs_inspect.specs.Uses.{AreCountedAsRead, AreExtents, Head, HoldsOfHeads}

-- the refusals of a sweep that tell of a chunk: the device didn't read it, or it is damaged
abbrev pub is_of_chunk : Refusal → Bool
is_of_chunk DeviceFault = true
is_of_chunk BadMagic = true
is_of_chunk BadDigest = true
is_of_chunk BadLength = true
is_of_chunk BadPadding = true
is_of_chunk BadVersion = true
is_of_chunk Misplaced = true
is_of_chunk r = false

-- the extent counts as one with a chunk whose header can't be read
abbrev pub pass_over : List ExtentUse → (extent : ℕ) → List ExtentUse
pass_over [] e = []
pass_over (used ∷ uses) zero = record used { unreadable = 1 } ∷ uses
pass_over (used ∷ uses) (suc e) = used ∷ pass_over uses e

-- so do all of these
abbrev pub passing : (passed : List ℕ) → List ExtentUse → List ExtentUse
passing [] uses = uses
passing (e ∷ es) uses = passing es (pass_over uses e)

-- the extent is none of these
abbrev pub IsNoneOf : List ℕ → (extent : ℕ) → Type 0
IsNoneOf [] e = Unit {0}
IsNoneOf (passed ∷ es) e = (e ≢ passed) × IsNoneOf es e

module _ {D : Type 0} (disks : PageDisk D) where
  -- An extent is chosen, or none, by how the extents are used and by the greatest chunk that lives, both as these
  -- headers say, where one whose read failed says nothing. Some extents are passed over.
  pub record GoesPast (passed : List ℕ) (heads : List Head) (old new : View D) (chosen : Option (ℕ × ℕ)) : Type 0 where
    pub uses : List ExtentUse
    pub greatest : ℕ
    pub extents : AreExtents (shape old.store.extents).extents (extents_of old.store.extents) uses
    pub read : AreSurveyed (disks.failure_count old.disk) (disks.failure_count new.disk) heads uses greatest
    pub chooses : ChoosesNext (passing passed uses) (extents_of old.store.extents).last (shape old.store.extents).pages greatest chosen

  -- One of two extents that fit on one is chosen, or none, by how the extents are used as these headers say, where one
  -- whose read failed says nothing. Some extents are passed over.
  pub record PairsPast (passed : List ℕ) (heads : List Head) (old new : View D) (chosen : Option (ℕ × ℕ)) : Type 0 where
    pub uses : List ExtentUse
    pub extents : AreExtents (shape old.store.extents).extents (extents_of old.store.extents) uses
    pub read : AreCountedAsRead (disks.failure_count old.disk) (disks.failure_count new.disk) heads uses
    pub chooses : ChoosesApart (passing passed uses) (extents_of old.store.extents).last (shape old.store.extents).pages chosen

  -- on an honest disk it is chosen so by the headers of all live chunks
  abbrev pub ChoosesPast : (passed : List ℕ) → (old new : View D) → (chosen : Option (ℕ × ℕ)) → Type 0
  ChoosesPast passed old new chosen = disks.honest old.disk → HoldsOfHeads disks old (λ heads. GoesPast passed heads old new chosen)

  -- the same of one of two that fit on one
  abbrev pub ChoosesPairPast : (passed : List ℕ) → (old new : View D) → (chosen : Option (ℕ × ℕ)) → Type 0
  ChoosesPairPast passed old new chosen = disks.honest old.disk → HoldsOfHeads disks old (λ heads. PairsPast passed heads old new chosen)
