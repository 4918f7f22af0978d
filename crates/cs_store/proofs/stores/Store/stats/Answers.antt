use Rattle.std.proofs.Common.{◌≢◌, None, [], subst}
use Rattle.cs_extent.specs.State.{IsWhole}
use Rattle.cs_index.specs.State.{index_of}
use Rattle.law_machine.specs.Index.{live_at}
use Rattle.cs_inspect.proofs.Crashing.{crash_still}
use Rattle.cs_store.proofs.Listing.{count_alike, counted_so, is_there}
use Rattle.cs_store.proofs.stores.Store.stats.Goals as goal

pub returns-in_err-space-clause-crash : goal.returns-in_err-space-clause-crash
returns-in_err-space-clause-crash g c = rw (← c.self.view_is) (λ honest.
    crash_still g.D.PageDisk c.self.inside.core.disk c.of.new.core.disk _ c.of.ensures.disk honest (c.progress-accepted.ensures.left honest) (λ image since. g.met.D.PageDisk.only_now c.self.inside.core.disk image honest since))

pub returns-clause-extents : goal.returns-clause-extents
returns-clause-extents g c = rw (← c.self.view_is) c.in_ok-space.ensures.extents

pub returns-clause-read : goal.returns-clause-read
returns-clause-read g c = rw (← c.self.view_is) c.in_ok-space.ensures.read

pub returns-clause-counted : goal.returns-clause-counted
returns-clause-counted g c = rw (← c.self.view_is) c.in_ok-space.ensures.counted

pub returns-clause-bounded : goal.returns-clause-bounded
returns-clause-bounded g c = rw (← c.self.view_is) c.in_ok-space.ensures.bounded

pub returns-clause-map : goal.returns-clause-map
returns-clause-map g c = rw (← c.self.view_is) (λ m has honest.
    let s = c.progress-accepted.ensures.legal honest in
    let there = is_there g.D.PageDisk.state c.self.inside.core m s.0 (subst IsWhole c.extents.ensures c.extent_count.ensures.whole) has s.1 in
    let index = index_of c.self.inside.core.store.index in
    count_alike (λ id. live_at index id ≢ []) (λ id. m id ≢ None) there c.in_ok-space.space.shards (counted_so index c.in_ok-space.space.shards c.in_ok-space.ensures.shards))

pub returns-clause-crash : goal.returns-clause-crash
returns-clause-crash g c = rw (← c.self.view_is) (λ honest.
    crash_still g.D.PageDisk c.self.inside.core.disk c.of.new.core.disk _ c.of.ensures.disk honest (c.progress-accepted.ensures.left honest) (λ image since. g.met.D.PageDisk.only_now c.self.inside.core.disk image honest since))
