use Rattle.cs_frame.proofs.SuperblockLaws.{page_whatever_root, recorded_below_root, recorded_fits_in, recorded_is}
use Rattle.cs_frame.proofs.format_laws.records_fit.Goals as goal

pub returns-clause-fits : goal.returns-clause-fits
returns-clause-fits c = recorded_fits_in

pub returns-clause-pages : goal.returns-clause-pages
returns-clause-pages c = page_whatever_root

pub returns-clause-same : goal.returns-clause-same
returns-clause-same c = recorded_is

pub returns-clause-below : goal.returns-clause-below
returns-clause-below c = recorded_below_root
