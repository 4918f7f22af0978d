-- A store of which an extent was left out.
use Rattle.std.specs.Prelude.{◌≡◌, ◌⊎◌}
use Rattle.cs_chunk.specs.Reads.{IsNoAnswer}
use Rattle.cs_frame.specs.Geometries.{Dimensions}
use Rattle.cs_refusal.specs.declared.refusals.Refusal.{Refusal}
use Rattle.cs_refusal.specs.declared.refusals.Refusal.TheVariants.{NotSweepable, Unsettled, WornOut}
use Rattle.law_machine.specs.Device.{Shape}

-- the dimensions of a store of this shape
abbrev pub dimensions_in : Shape → Dimensions
dimensions_in S = record { format = S.format; extents = S.extents; pages = S.pages; sections = S.sections }

-- why an extent isn't left out: the device or the memory; a section with the last version; there is no such extent, or
-- something waits
abbrev pub IsWhyNotLeftOut : Refusal → Type 0
IsWhyNotLeftOut r = IsNoAnswer r ⊎ (r ≡ WornOut) ⊎ (r ≡ NotSweepable) ⊎ (r ≡ Unsettled)
