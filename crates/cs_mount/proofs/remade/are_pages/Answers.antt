use Rattle.std.proofs.Common.{[], get_or}
use Rattle.std.proofs.lemmas.Option.{slice_get-get_or}
use Rattle.cs_frame.specs.Bytes.{IsPage}
use Rattle.cs_reader.proofs.Loading.{all_more}
use Rattle.cs_mount.proofs.remade.are_pages.Goals as goal

pub loop-k-preserved : goal.loop-k-preserved
loop-k-preserved c = all_more (λ w. IsPage w.1) c.args.pages.now c.loop-k.k (get_or c.args.pages.now c.loop-k.k (0, [])) c.loop-k.invariant (slice_get-get_or c.args.pages.now c.loop-k.k (0, []) c.loop-k-test.true) (record { size = c.is_page.ensures.size; bytes = c.is_page.ensures.bytes })
