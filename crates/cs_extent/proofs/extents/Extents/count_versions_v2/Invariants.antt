use Rattle.cs_extent.specs.Purposes.{reason_of}
use Rattle.cs_extent.specs.State.{extents_of, shape}
use Rattle.cs_extent.proofs.Worn.{IsCounted}
use Rattle.cs_extent.proofs.extents.Extents.count_versions_v2.Given as goal

abbrev pub invariant-loop-pages : goal.invariant-loop-pages
invariant-loop-pages l = IsCounted (shape l.self) (extents_of l.self) (reason_of l.fn.purpose) l.frame_pages l.pages-index l.way l.counts
