use Rattle.law_refinement.proofs.images.what_is_recovered_can_be_read.Goals as goal
use Rattle.cs_frame.specs.Formats.{as_locator}
use Rattle.cs_frame.specs.Superblocks.{record_in}
use Rattle.cs_reader.proofs.Readable.{all_readable, part, records_low, root_spelled, same_commands, section_same, section_spelled, store_read, zero_same}
use Rattle.law_machine.specs.Formats.{places}
use Rattle.std.proofs.Common.{map}
use Rattle.std.specs.Prelude.{reverse}

pub returns : goal.returns
returns c = record {
  superblock = λ view format extents pages sections n m is j lt. let r = is.found in
      (r.versions j, record_in format (r.recorded j), part format extents pages sections is.geometry view n m r j, section_spelled format extents pages sections is.geometry view n m r j lt);
  geometry = λ view format extents pages sections n m f version recorded e p s j written is spelled. zero_same format extents pages sections is.geometry view n m is.found f version recorded e p s j written spelled;
  section = λ view format extents pages sections n m k f version recorded e p s j written is some lt spelled. section_same format extents pages sections is.geometry view n m is.found k f version recorded e p s j written some lt spelled;
  root = λ view format extents pages sections n m is. let r = is.found in
      (r.version, map as_locator (reverse (places r.runs)), root_spelled format extents pages sections is.geometry view n m r);
  runs = λ view read listed n m superblock are root_page r. (
    same_commands view read.format read.versions read.records read.pages read.written superblock are n m r read.root read.commands listed root_page,
    all_readable view read.format read.versions read.records read.pages read.written superblock are n m r read.root read.commands listed root_page,
  );
  recorded = λ view read listed n m superblock root_page r.
      records_low view read.format read.versions read.records read.pages read.written superblock n m r read.root read.commands listed root_page;
  store = λ view read runs n m stand superblock are root_page runs_read r.
      store_read view read.format read.versions read.records read.pages read.written superblock are n m r read.root read.commands runs root_page runs_read stand;
}
