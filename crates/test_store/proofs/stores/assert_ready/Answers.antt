use Rattle.test_store.proofs.stores.assert_ready.Goals as goal

pub returns : goal.returns
returns g c = record { families = c.assert_families.ensures; resets = c.args.store.now.staged }
