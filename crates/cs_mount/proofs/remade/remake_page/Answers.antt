use Rattle.std.proofs.Common.{◌∙◌, [], get_or}
use Rattle.std.proofs.lemmas.Option.{slice_get-get_or}
use Rattle.cs_mount.proofs.PagesRemade.{shown_more}
use Rattle.cs_mount.proofs.remade.remake_page.Goals as goal

pub loop-k-preserved : goal.loop-k-preserved
loop-k-preserved c = c.put.ensures ∙ shown_more c.args.pages.now c.loop-k.k c.args.number (get_or c.args.pages.now c.loop-k.k (0, [])) c.loop-k.bytes c.args.bytes.now (slice_get-get_or c.args.pages.now c.loop-k.k (0, []) c.loop-k-test.true) c.loop-k.invariant
