use Rattle.std.proofs.Common.{◌≡◌, ◌∙◌, refl, sym, subst, Some}
use Rattle.std.specs.Prelude.{nat_eq}
use Rattle.std.specs.HashMap.{get}
use Rattle.cs_deps.proofs.Noted.{newest_stays, newest_lowered, plain_number}
use Rattle.cs_deps.proofs.records.lower.Goals as goal

pub returns-then-is_noted-clause-newest : goal.returns-then-is_noted-clause-newest
returns-then-is_noted-clause-newest c old key keyed are up = newest_lowered c.args.levels.now old c.args.records.now key c.args.gone.now up keyed (get nat_eq c.args.newest.now) are c.in-Plain.number c.in-Plain.is (c.is_noted.ensures.0 c.if-is_noted.true) c.last_up_to.result c.last_up_to.ensures (get nat_eq c.change.new.newest) c.change.ensures.numbers

pub returns-else-is_noted-clause-newest : goal.returns-else-is_noted-clause-newest
returns-else-is_noted-clause-newest c old key keyed are up = newest_stays c.args.levels.now old c.args.records.now key c.args.gone.now up keyed (get nat_eq c.args.newest.now) are (get nat_eq c.args.newest.now) (λ q. refl) (λ n is noted. absurd (let e : n ≡ c.in-Plain.number = plain_number n c.in-Plain.number (sym is ∙ c.in-Plain.is) in cc (c.is_noted.ensures.1 (subst (λ m. get nat_eq c.args.newest.now c.args.gone.now.page ≡ Some m) e noted), c.if-is_noted.false)))

pub returns-in_default-clause-newest : goal.returns-in_default-clause-newest
returns-in_default-clause-newest c old key keyed are up = newest_stays c.args.levels.now old c.args.records.now key c.args.gone.now up keyed (get nat_eq c.args.newest.now) are (get nat_eq c.args.newest.now) (λ q. refl) (λ n is noted. absurd (cc (sym is ∙ c.in_default.is)))
