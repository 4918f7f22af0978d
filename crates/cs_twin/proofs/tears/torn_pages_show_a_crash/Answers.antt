use Rattle.cs_twin.proofs.Mixing.{tear_spoils}
use Rattle.cs_twin.proofs.Tearing.{torn_shows}
use Rattle.cs_twin.proofs.tears.torn_pages_show_a_crash.Goals as goal

pub returns : goal.returns
returns c = λ V pairs s image are newer known once tear. torn_shows V pairs s image are newer (tear_spoils V pairs s image newer known once tear)
