use Rattle.std.proofs.Common.{take}
use Rattle.cs_core.specs.Known.{AreNotedIfWaiting, NotesWhatWaits}
use Rattle.cs_core.proofs.stores.Store.note_shard.Given as goal

abbrev pub invariant-loop-k : goal.invariant-loop-k
invariant-loop-k l = record {
  said : NotesWhatWaits l.self.extents l.self.graph l.fn.lengths l.lengths;
  noted : AreNotedIfWaiting l.self.extents l.self.graph l.lengths (take l.k l.places);
}
