use Rattle.std.proofs.Common.{◌≡◌, Some, drop}
use Rattle.law_machine.specs.Extents.{spare}
use Rattle.cs_extent.specs.Purposes.{reason_of}
use Rattle.cs_extent.specs.State.{shape}
use Rattle.cs_extent.proofs.Fitting.{all_fit}
use Rattle.cs_extent.proofs.extents.Extents.fits_v2.Given as goal

abbrev pub invariant-loop-pages : goal.invariant-loop-pages
invariant-loop-pages l = all_fit (shape l.self) (spare (reason_of l.purpose)) (Some l.initial.supply) l.frame_pages ≡ all_fit (shape l.self) (spare (reason_of l.purpose)) (Some l.supply) (drop l.pages-index l.frame_pages)
