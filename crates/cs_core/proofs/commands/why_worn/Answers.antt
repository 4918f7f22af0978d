use Rattle.std.proofs.Common.{◌≡◌, ℕ, Bool, true, false, List}
use Rattle.std.specs.Prelude.{MatchBool}
use Rattle.cs_chunk.specs.Puts.{IsPutFull, PutFits}
use Rattle.cs_refusal.specs.declared.refusals.Refusal.TheVariants.{Full, WornOut}
use Rattle.cs_extent.specs.State.{State as ExtentsState}
use Rattle.cs_core.specs.Stored.{IsWhyWorn}
use Rattle.cs_reader.proofs.Loading.{failed, passed}
use Rattle.cs_core.proofs.commands.why_worn.Goals as goal

module _ (x : ExtentsState) (bytes : List ℕ) (told : Bool) (says : (id command : ℕ) → MatchBool told (PutFits x id command bytes) (IsPutFull x id command bytes)) where
  fits_worn : told ≡ true → IsWhyWorn x bytes WornOut
  fits_worn is = λ id command. passed (PutFits x id command bytes) (IsPutFull x id command bytes) told (says id command) is

  fits_not : told ≡ false → IsWhyWorn x bytes Full
  fits_not is = λ id command. failed (PutFits x id command bytes) (IsPutFull x id command bytes) told (says id command) is

pub returns-then-fits : goal.returns-then-fits
returns-then-fits c = λ bytes cut. fits_worn c.args.extents.now bytes c.fits.result (λ id command. c.fits.ensures bytes id command cut) c.if-fits.true

pub returns-else-fits : goal.returns-else-fits
returns-else-fits c = λ bytes cut. fits_not c.args.extents.now bytes c.fits.result (λ id command. c.fits.ensures bytes id command cut) c.if-fits.false
