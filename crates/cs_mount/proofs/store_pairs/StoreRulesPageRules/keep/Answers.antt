use Rattle.cs_mount.proofs.Keeping.{kept_of_store}
use Rattle.cs_mount.proofs.store_pairs.StoreRulesPageRules.keep.Goals as goal

pub returns : goal.returns
returns c = record { left = kept_of_store c.args.self.now.geometry }
