use Rattle.std.proofs.Common.{◌∙◌, sym, subst}
use Rattle.cs_mount.specs.StorePairs.{IsOnPageZero}
use Rattle.cs_mount.proofs.Ending.{test_fails, test_holds}
use Rattle.cs_mount.proofs.EndsFound.{by_last, by_zero, two_by}
use Rattle.cs_mount.proofs.unreadable.geometry_by.Goals as goal

pub returns-in-Ok-true-clause-found : goal.returns-in-Ok-true-clause-found
returns-in-Ok-true-clause-found c = sym (two_by c.args.pages c.args.zero.now c.args.last.now (test_holds c.in-Ok-true.field-0 _ _ c.in-Ok-true.ensures.two c.in-Ok-true.field-0-test))

pub returns-in-Ok-Some-clause-found : goal.returns-in-Ok-Some-clause-found
returns-in-Ok-Some-clause-found c =
    c.geometry_of_first.ensures.geometry ∙ by_zero c.args.pages c.args.zero.now c.args.last.now c.in-Ok-Some.first (test_fails c.in-Ok-false.field-0 _ _ c.in-Ok-false.ensures.two c.in-Ok-false.field-0-test)
    (subst (IsOnPageZero c.args.zero.now) c.in-Ok-Some.field-0-is c.in-Ok-Some.ensures.first)

pub returns-in-Ok-None-clause-found : goal.returns-in-Ok-None-clause-found
returns-in-Ok-None-clause-found c =
    by_last c.geometry_on_last.result c.args.pages c.args.zero.now c.args.last.now (test_fails c.in-Ok-false.field-0 _ _ c.in-Ok-false.ensures.two c.in-Ok-false.field-0-test)
    (subst (IsOnPageZero c.args.zero.now) c.in-Ok-None.field-0-is c.in-Ok-None.ensures.first) c.geometry_on_last.ensures.geometry
