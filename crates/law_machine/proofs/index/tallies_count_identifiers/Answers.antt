use Rattle.law_machine.proofs.index.tallies_count_identifiers.Goals as goal
use Rattle.law_machine.proofs.Tallies.{counts, counts_alike, shards_none, lives_none}

pub returns : goal.returns
returns c = record {
  each = λ f index id none. counts f none index id;
  alike = λ f index other none same. counts_alike f none index other same;
  shards = shards_none;
  lives_on = lives_none;
}
