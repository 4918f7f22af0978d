use Rattle.std.proofs.Common.{take, map}
use Rattle.serde_json.specs.View.{view}
use Rattle.cs_check.specs.Documents.{AreEntries}
use Rattle.cs_check.proofs.readings.entries.Given as goal

abbrev pub invariant-loop-i : goal.invariant-loop-i
invariant-loop-i l = AreEntries l.letters (map view (take l.i l.values)) l.waiting.items
