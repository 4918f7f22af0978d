use Rattle.cs_salvage.proofs.Standing.{digest_read, ends}
use Rattle.cs_salvage.proofs.parts.part_of.Goals as goal

pub returns-clause-part : goal.returns-clause-part
returns-clause-part c = record {
  spelled = c.requires.spelled;
  counted = c.frame_pages.ensures;
  head = ends c.in_ok-found.found.head c.in_ok-found.found.store c.args.payload.now c.in_ok-found.ensures;
  spellable = c.is_of_chunk.ensures.spellable;
  numbered = c.if-not-is_of_chunk.ensures.numbered;
  digest = digest_read c.args.pages.now c.args.payload.now c.copy_from_slice.new.self c.requires.spelled c.copy_from_slice.ensures.after;
}
