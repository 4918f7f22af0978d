use Rattle.std.proofs.Common.{refl}
use Rattle.cs_advice.proofs.Advising.{advice_asks, advice_keeps}
use Rattle.cs_advice.proofs.advices.what_is_advised_loses_nothing.Goals as goal

pub returns : goal.returns
returns c = record {
  first = advice_asks;
  keeps = advice_keeps;
  run_lost = (refl, refl);
  stopped = (refl, refl);
}
