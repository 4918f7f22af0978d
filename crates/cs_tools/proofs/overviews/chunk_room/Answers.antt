use Rattle.std.proofs.Common.{◌≡◌, ◌∙◌, ◌*◌, ◌-◌, ◌≤◌, ap, arith, subst, sym}
use Rattle.cs_extent.specs.State.{State as Extents, shape}
use Rattle.cs_inspect.specs.Kinds.{LieApart, LieTogether}
use Rattle.cs_tools.specs.Overviews.{identifiers_left, live_pages}
use Rattle.cs_tools.proofs.Overviewing.{few_left, live_within, short_extents, some_pages}
use Rattle.cs_tools.proofs.overviews.chunk_room.Goals as goal

pub new-requires : goal.new-requires
new-requires g c =
    let x = c.extents-extents.result.now in
    let quota = c.in-Some.ensures.1 in
    let few = few_left x c.in-Some.quota.most_chunks c.extent_count.ensures.whole quota.most_chunks in
    let some : 1 ≤ (shape x).pages = some_pages x c.extent_count.ensures.whole in
    let short : (shape x).pages ≤ 65535 = short_extents x c.extent_count.ensures.whole in
    record {
      few = few;
      some = omega (arith, some, c.extent_pages.ensures);
      short = omega (arith, short, c.extent_pages.ensures);
    }

pub returns-in-None : goal.returns-in-None
returns-in-None g c = subst (λ (x : Extents). LieTogether (shape x)) c.extents-extents.ensures c.in-None.ensures

pub returns-in-Some : goal.returns-in-Some
returns-in-Some g c =
    let x = c.extents-extents.result.now in
    let held = c.extents-extents.ensures in
    let quota = c.in-Some.ensures in
    let room = c.new.result in
    let told = c.new.ensures in
    let extents = told.extents ∙ quota.1.most_chunks in
    let pages = told.pages ∙ c.extent_pages.ensures in
    record {
      apart = subst (λ (y : Extents). LieApart (shape y)) held quota.0;
      extents = subst (λ (y : Extents). room.extents ≡ (shape y).extents - (shape y).run_extents - 2) held extents;
      pages = subst (λ (y : Extents). room.pages ≡ (shape y).pages) held pages;
      live = live_within (live_pages c.args.uses.now) (room.extents * room.pages) c.live_pages.result room.live c.live_pages.ensures told.small told.live;
      greatest_chunk = told.greatest;
      identifiers = told.identifiers ∙ c.identifiers_left.ensures ∙ sym (ap identifiers_left c.index.ensures.index);
    }
