use Rattle.cs_frame.proofs.FittingLaws.{chunks_fit, runs_fit}
use Rattle.cs_frame.proofs.format_laws.frames_fit_on_an_extent.Goals as goal

pub returns-clause-runs : goal.returns-clause-runs
returns-clause-runs c = λ extents pages sections format entries geometry list.
    runs_fit extents pages sections format geometry entries list

pub returns-clause-chunks : goal.returns-clause-chunks
returns-clause-chunks c = λ extents pages sections format id number count command piece geometry short.
    chunks_fit extents pages sections format geometry id number count command piece short
