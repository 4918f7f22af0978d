use Rattle.std.proofs.Common.{true≢false, sym, ◌∙◌}
use Rattle.law_refinement.proofs.images.visible_stores_recover.Goals as goal
use Rattle.law_refinement.proofs.Found.{noted_recovers, visible_read}
use Rattle.cs_reader.proofs.Readable.{visible_store_read}
use Rattle.cs_reader.proofs.Superblocks.{found_all}

pub returns : goal.returns
returns c = record {
  all = λ view read runs is. visible_read view read.format read.versions read.records read.pages read.written read.root read.commands runs is;
  read = λ view read runs noted are is not on noted_so. let r = noted_recovers view read.format read.versions read.records read.pages
      read.written read.root read.commands runs is (λ stand. absurd (true≢false (sym stand ∙ not))) are noted on noted_so in (r.0, (r.1, r.2));
  recovered = λ view read runs n m sections are root_page runs_read found. visible_store_read view read.format read.versions read.records
      read.pages read.written sections are n m found read.root read.commands runs root_page runs_read;
  found = λ written e. found_all written e;
}
