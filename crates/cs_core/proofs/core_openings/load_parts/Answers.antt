use Rattle.cs_core.proofs.core_openings.load_parts.Goals as goal

pub returns-in-Err-clause-number : goal.returns-in-Err-clause-number
returns-in-Err-clause-number c = c.in-Err.ensures.number

pub returns-in-Err-clause-why : goal.returns-in-Err-clause-why
returns-in-Err-clause-why c = c.in-Err.ensures.why
