use Rattle.cs_picture.proofs.Shown.{named_is, needs_listed}
use Rattle.cs_picture.proofs.picture_laws.arrows_are_needs.Goals as goal

pub returns : goal.returns
returns c g k x d y listing at = named_is g d y listing (needs_listed g k x d listing at)
