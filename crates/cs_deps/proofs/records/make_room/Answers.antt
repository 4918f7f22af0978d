use Rattle.std.proofs.Common.{◌≡◌, ◌<◌, ◌≤◌, ⊎_elim, subst, arith}
use Rattle.std.proofs.lemmas.Bool.{cases_lt}
use Rattle.cs_deps.specs.Levels.{HasRoom}
use Rattle.cs_deps.proofs.records.make_room.Goals as goal

pub returns-clause-levels_fit : goal.returns-clause-levels_fit
returns-clause-levels_fit c = ⊎_elim
    (λ (l : c.args.room < c.args.stagings). let e : c.args.stagings ≡ c.max.result = omega (arith, l, c.max.ensures) in subst (HasRoom c.reserve.new.self) e c.in_ok-reserve.ensures.room)
    (λ (l : c.args.stagings ≤ c.args.room). let e : c.args.room ≡ c.max.result = omega (arith, l, c.max.ensures) in subst (HasRoom c.reserve.new.self) e (c.reserve.ensures.same.room c.args.room c.requires.levels_fit))
    (cases_lt c.args.room c.args.stagings)
