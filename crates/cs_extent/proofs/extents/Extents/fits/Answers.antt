use Rattle.cs_extent.specs.Purposes.{reason_of}
use Rattle.cs_extent.specs.State.{extents_of, shape}
use Rattle.cs_extent.proofs.Worn.{fits_where}
use Rattle.cs_extent.proofs.extents.Extents.fits.Goals as goal

pub returns : goal.returns
returns c =
    fits_where (shape c.args.self.now) (shape c.args.self.now).apart (extents_of c.args.self.now) (reason_of c.args.purpose) c.args.frame_pages.now
    c.count_versions.result c.is_some.result c.is_some.ensures c.count_versions.ensures
