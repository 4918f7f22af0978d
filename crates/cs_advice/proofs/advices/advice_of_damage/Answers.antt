use Rattle.std.proofs.Common.{arith, refl, sym}
use Rattle.cs_advice.proofs.Advising.{damage_else}
use Rattle.cs_advice.proofs.advices.advice_of_damage.Goals as goal

pub returns-in_default : goal.returns-in_default
returns-in_default c = record {
  text = sym (damage_else c.args.refusal c.args.other.now c.in_default.not-Misplaced c.in_default.not-RootLost c.in_default.not-NotAStore);
  keeps = refl;
  some = omega arith;
  words = refl;
}
