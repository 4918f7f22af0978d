use Rattle.cs_picture.proofs.Shown.{named_is}
use Rattle.cs_picture.proofs.picture_laws.borders_are_the_target.Goals as goal

pub returns : goal.returns
returns c g target y listing listed = named_is g target y listing listed
