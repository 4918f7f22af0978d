-- What stays as it is while a store is read.
use Rattle.std.proofs.Common.{◌≡◌, ◌≢◌, ◌∙◌, List, [], sym, ap, subst}
use Rattle.std.specs.List.{AllByRecursion}
use Rattle.cs_core.specs.Views.{IsIn, View}
use Rattle.cs_disk.specs.Reads.{OnlyReads}
use Rattle.cs_disk.specs.declared.disk.PageDisk.{Ghosts as PageDisk}
use Rattle.cs_frame.specs.declared.identifiers.ShardId.{ShardId}
use Rattle.cs_index.specs.State.{id_number, index_of}
use Rattle.law_machine.specs.Index.{live_at}
use Rattle.law_machine.specs.State.{State}

-- the core is in the same states, and the same shards are there
module _ {D : Type 0} (disks : PageDisk D) (old new : View D) (same : new ≡ record old { disk = new.disk }) (reads : OnlyReads disks old.disk new.disk) where
  pub stays_in : disks.honest old.disk → (s : State) → IsIn disks.state old s → IsIn disks.state new s
  stays_in honest s is = subst (λ (v : View D). IsIn disks.state v s) (sym same) (record {
    store = is.store;
    disk = rw (reads.same honest) is.disk;
    reached = is.reached;
  })

  pub same_live : (ids : List ShardId) → AllByRecursion (λ id. live_at (index_of old.store.index) (id_number id) ≢ []) ids → AllByRecursion (λ id. live_at (index_of new.store.index) (id_number id) ≢ []) ids
  same_live ids = subst (λ (v : View D). AllByRecursion (λ id. live_at (index_of v.store.index) (id_number id) ≢ []) ids) (sym same)

-- one after another
pub same_on : {D : Type 0} (a b c : View D) → b ≡ record a { disk = b.disk } → c ≡ record b { disk = c.disk } → c ≡ record a { disk = c.disk }
same_on {D} a b c first more = more ∙ ap (λ (v : View D). record v { disk = c.disk }) first
