use Rattle.std.proofs.Common.{inl}
use Rattle.cs_tools.proofs.Aiming.{room_by_cut}
use Rattle.cs_tools.proofs.aims.has_room_for.Goals as goal

pub returns-in-Some : goal.returns-in-Some
returns-in-Some c = room_by_cut c.args.extents.now c.args.bytes c.in-Some.cut c.in-Some.ensures.cut c.fits.result c.in-Some.ensures.small c.fits.ensures

pub returns-in-None : goal.returns-in-None
returns-in-None c = inl c.in-None.ensures.cut
