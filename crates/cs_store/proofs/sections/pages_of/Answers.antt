use Rattle.std.proofs.Common.{◌∙◌, [], arith, get_or}
use Rattle.std.proofs.lemmas.Option.{slice_get-get_or}
use Rattle.cs_store.proofs.Remaking.{page_more}
use Rattle.cs_store.proofs.sections.pages_of.Goals as goal

pub loop-k-preserved : goal.loop-k-preserved
loop-k-preserved c =
    let was = c.loop-k.invariant in
    record {
      items = c.push_reserved.ensures.items ∙ page_more c.args.made.now c.loop-k.k (get_or c.args.made.now c.loop-k.k (0, [])) c.loop-k.pages.items (slice_get-get_or c.args.made.now c.loop-k.k (0, []) c.loop-k-test.true) was.items;
      size = omega (arith, c.push_reserved.ensures.len, was.size, c.push_reserved.new.self.ok.0, c.loop-k.pages.ok.0);
      room = omega (arith, was.room, c.push_reserved.ensures.capacity);
    }
