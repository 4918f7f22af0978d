-- What is told of a shard's size.
use Rattle.std.specs.Prelude.{ℕ, List, Option, Result, Ok, Err}
use Rattle.cs_refusal.specs.declared.refusals.Refusal.{Refusal}
use Rattle.cs_refusal.specs.declared.refusals.Refusal.TheVariants as refusal
use Rattle.cs_extent.specs.State.{State as ExtentsState}
use Rattle.cs_frame.specs.declared.locators.Locator.{Locator}
use Rattle.law_machine.specs.Element.{Content}
use Rattle.cs_core.specs.Lookups.{IsSaid, IsSize}
use Rattle.cs_store.specs.declared.sizes.SizeError.{SizeError}
use Rattle.cs_store.specs.declared.sizes.SizeError.TheVariants as size

-- the refusal that such an error is
abbrev pub size_refusal : SizeError → Refusal
size_refusal size.DeviceFault = refusal.DeviceFault
size_refusal size.OutOfMemory = refusal.OutOfMemory
size_refusal size.BadMagic = refusal.BadMagic
size_refusal size.BadLength = refusal.BadLength
size_refusal size.BadVersion = refusal.BadVersion
size_refusal size.Misplaced = refusal.Misplaced

-- what is told of an identifier that has this in the map: None where there is nothing; where there are bytes, how many,
-- unless the device or memory refuses; of a damaged shard some number, or the error of a header
abbrev pub IsSized : Option Content → Result (Option ℕ) SizeError → Type 0
IsSized content (Ok found) = IsSize content (Ok found)
IsSized content (Err error) = IsSize content (Err (size_refusal error))

-- what the headers at these places say, as far as frames may reach in these extents: how many bytes together, None
-- where there are no places; or the error of the first header that fails, or that of device or memory
abbrev pub IsSaidByHeaders : ExtentsState → (view : ℕ → List ℕ) → List Locator → Result (Option ℕ) SizeError → Type 0
IsSaidByHeaders x view places (Ok found) = IsSaid x view places (Ok found)
IsSaidByHeaders x view places (Err error) = IsSaid x view places (Err (size_refusal error))
