use Rattle.cs_mount.proofs.Torn.{tear_one, tear_shows}
use Rattle.cs_mount.proofs.mount_laws.torn_stores_are_found_again.Goals as goal

pub returns-clause-shown : goal.returns-clause-shown
returns-clause-shown c = λ d s image g twins sized newer known once torn before shows. tear_shows d s image g twins sized newer known once torn before

pub returns-clause-one : goal.returns-clause-one
returns-clause-one c = λ d s image g twins sized newer known once torn before. tear_one d s image g twins sized newer known once torn before
