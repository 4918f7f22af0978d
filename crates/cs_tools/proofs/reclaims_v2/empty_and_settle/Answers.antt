use Rattle.cs_tools.proofs.Resting.{kept_so}
use Rattle.cs_tools.proofs.Tidying.{tidies_then}
use Rattle.cs_tools.proofs.reclaims_v2.empty_and_settle.Goals as goal

pub returns-clause-tidies : goal.returns-clause-tidies
returns-clause-tidies g c = tidies_then g.D.PageDisk c.args.core.now c.empty_all.new.core c.settle.new.core c.empty_all.ensures.tidies c.settle.ensures.tidies

pub returns-clause-kept : goal.returns-clause-kept
returns-clause-kept g c honest =
    kept_so c.settle.result c.args.core.now c.empty_all.new.core c.settle.new.core c.in_ok-since.since (c.in_ok-since.ensures.rests honest) c.settle.ensures.none
    (c.settle.ensures.rests (c.empty_all.ensures.tidies.honest.0 honest))
