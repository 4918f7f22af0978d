use Rattle.law_room.proofs.brim.sweeps_by_the_rule_end.Goals as goal
use Rattle.law_room.proofs.BrimRule.{alike, next_or_none}
use Rattle.law_room.proofs.BrimRuns.{along, ends, most_sweeps, most_until_none}

pub returns-clause-next : goal.returns-clause-next
returns-clause-next c = next_or_none

pub returns-clause-alike : goal.returns-clause-alike
returns-clause-alike c = alike

pub returns-clause-sweeps : goal.returns-clause-sweeps
returns-clause-sweeps c = λ S J k s t some filled keeps swept. most_sweeps S J k s t some filled keeps swept

pub returns-clause-none : goal.returns-clause-none
returns-clause-none c = λ S J k s t some filled keeps swept none. most_until_none S J k s t some filled keeps swept none

pub returns-clause-there : goal.returns-clause-there
returns-clause-there c = ends

pub returns-clause-leaves : goal.returns-clause-leaves
returns-clause-leaves c = along
