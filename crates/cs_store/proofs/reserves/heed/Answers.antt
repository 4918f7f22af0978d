use Rattle.std.proofs.Common.{◌∙◌, ◌+◌, ◌<◌, ◌≤◌, ap, inr, subst, sum, sym, ℕ}
use Rattle.cs_chunk.specs.Cuts.{pages_of}
use Rattle.cs_index.specs.State.{id_number, index_of}
use Rattle.law_machine.specs.Index.{live_at}
use Rattle.cs_store.specs.Reserves.{total_live}
use Rattle.cs_store.proofs.Reserving.{compared, few_live, leaves_so, more_live, none_there}
use Rattle.cs_store.proofs.reserves.heed.Goals as goal

pub returns-then-are_more-clause-reserved : goal.returns-then-are_more-clause-reserved
returns-then-are_more-clause-reserved g c = λ is.
    let old = c.args.core.now in
    compared g.D.PageDisk c.args.reserve c.args.id c.args.bytes old c.uses.new.core (λ (live most : ℕ). most < live) c.in-Some.most c.in-Some-of.cut c.extents-2.result.now c.in-Ok.counted.items c.extents-2.ensures
    (none_there (live_at (index_of old.store.index) (id_number c.args.id)) c.contains.result c.contains.ensures.lookup c.if-contains.false)
    (sym (leaves_so c.args.reserve c.extents.result.now old.store.extents c.geometry.result c.most_live.result c.extents.ensures c.geometry.ensures.format c.geometry.ensures.extents c.geometry.ensures.pages c.most_live.ensures.most) ∙ c.in-Some.is)
    c.in-Some-of.ensures.cut c.in-Ok.ensures.extents c.in-Ok.ensures.read
    (subst (λ (n : ℕ). c.in-Some.most < total_live c.in-Ok.counted.items + n) c.all_pages.ensures.sum
    (more_live c.deref.result.now c.in-Ok.counted.items c.total_live-live.result c.all_pages.result c.in-Some.most c.are_more.result c.deref.ensures.value c.total_live-live.ensures c.are_more.ensures c.if-are_more.true))

pub returns-clause-within : goal.returns-clause-within
returns-clause-within g c =
    let old = c.args.core.now in
    inr (compared g.D.PageDisk c.args.reserve c.args.id c.args.bytes old c.uses.new.core (λ (live most : ℕ). live ≤ most) c.in-Some.most c.in-Some-of.cut c.extents-2.result.now c.in-Ok.counted.items c.extents-2.ensures
    (none_there (live_at (index_of old.store.index) (id_number c.args.id)) c.contains.result c.contains.ensures.lookup c.if-contains.false)
    (sym (leaves_so c.args.reserve c.extents.result.now old.store.extents c.geometry.result c.most_live.result c.extents.ensures c.geometry.ensures.format c.geometry.ensures.extents c.geometry.ensures.pages c.most_live.ensures.most) ∙ c.in-Some.is)
    c.in-Some-of.ensures.cut c.in-Ok.ensures.extents c.in-Ok.ensures.read
    (subst (λ (n : ℕ). total_live c.in-Ok.counted.items + n ≤ c.in-Some.most) c.all_pages.ensures.sum
    (few_live c.deref.result.now c.in-Ok.counted.items c.total_live-live.result c.all_pages.result c.in-Some.most c.are_more.result c.deref.ensures.value c.total_live-live.ensures c.are_more.ensures c.if-are_more.false)))
