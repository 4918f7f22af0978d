use Rattle.cs_script.proofs.script_stores.run_over_watched.Goals as goal

pub returns-in-Ok-clause-watched : goal.returns-in-Ok-clause-watched
returns-in-Ok-clause-watched g c text e small =
    let ran = c.run_watched.ensures.watched text e small in
    rw (c.in-Ok.is) (ran.0, (c.run_watched.result.core, ran.1), ran.2)

pub returns-in-Ok-clause-script : goal.returns-in-Ok-clause-script
returns-in-Ok-clause-script g c text e small =
    let ran = c.run_watched.ensures.script text e small in
    rw (c.in-Ok.is) (ran.0, (c.run_watched.result.core, ran.1), ran.2)
