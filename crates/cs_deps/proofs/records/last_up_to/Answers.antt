use Rattle.std.proofs.Common.{◌≡◌, ◌≢◌, ◌<◌, ◌≤◌, ⊎_elim, subst, arith}
use Rattle.std.proofs.lemmas.Bool.{cases_lt}
use Rattle.cs_deps.specs.Newest.{IsPut}
use Rattle.cs_deps.proofs.Noted.{put_above}
use Rattle.cs_deps.proofs.Settled.{same_family}
use Rattle.cs_deps.proofs.records.last_up_to.Goals as goal

pub loop-number-preserved : goal.loop-number-preserved
loop-number-preserved c = record {
  none = λ m put le. ⊎_elim
      (λ (e : m ≡ c.loop-number.number). absurd (cc (c.is_put.ensures.1 (subst (IsPut c.args.records.now c.args.page) e put), c.if-is_put.false)))
      (λ (ne : m ≢ c.loop-number.number). omega (arith, c.loop-number.invariant.none m put le, ne))
      (same_family c.loop-number.number m);
}

pub returns : goal.returns
returns c m put = ⊎_elim
    (λ (lt : c.args.last < m). lt)
    (λ (le : m ≤ c.args.last). absurd (omega (arith, c.loop-number.invariant.none m put le, put_above c.args.levels.now c.args.records.now c.requires.keyed c.args.page m put, c.loop-number-test.false)))
    (cases_lt c.args.last m)
