use Rattle.cs_reader.proofs.Loading.{is_run}
use Rattle.cs_salvage.proofs.rescued_runs.run_before_noise.Goals as goal

pub returns-in-Ok-clause-bounds : goal.returns-in-Ok-clause-bounds
returns-in-Ok-clause-bounds c = is_run c.args.format c.in-Ok.run'.entries c.in-Some.payload.now c.in-Ok.ensures.spelled
